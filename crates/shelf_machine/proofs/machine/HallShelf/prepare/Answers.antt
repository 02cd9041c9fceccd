use Rattle.shelf_machine.proofs.Machines.{idles}
use Rattle.shelf_machine.proofs.machine.HallShelf.prepare.Goals as goal

pub returns-in_default-clause-idle : goal.returns-in_default-clause-idle
returns-in_default-clause-idle g c told = idles _ _ (g.met.H.Hall.counts_now c.args.self.now.hall)
