use Rattle.hall_core.specs.Memory.{first_files, events_of}
use Rattle.hall_core.proofs.CallLemmas.{same_still}
use Rattle.hall_core.proofs.mem_hall.MemHallHall.differs.Goals as goal

pub returns-clause-files : goal.returns-clause-files
returns-clause-files c told = same_still (first_files c.args.self.now) (events_of c.args.self.now)
