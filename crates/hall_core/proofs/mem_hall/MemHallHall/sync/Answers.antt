use Rattle.std.proofs.Common.{[], ◌∷◌, ◌++◌, Ok, Err}
use Rattle.hall_core.specs.declared.hall.HallErr.{HallErr}
use Rattle.stop_model.specs.Files.{AfterSync}
use Rattle.hall_core.specs.History.{synced, passed}
use Rattle.hall_core.specs.Memory.{first_files, events_of, meaning_of}
use Rattle.hall_core.proofs.CallLemmas.{moved, sync_lacking, sync_failed, sync_done}
use Rattle.hall_core.proofs.mem_hall.MemHallHall.sync.Goals as goal

pub returns-then-lacks_room-clause-files : goal.returns-then-lacks_room-clause-files
returns-then-lacks_room-clause-files c = sync_lacking (first_files c.args.self.now) (events_of c.args.self.now) c.fault.result

pub returns-then-next_fails-clause-files : goal.returns-then-next_fails-clause-files
returns-then-next_fails-clause-files c =
    let old = c.args.self.now in
    moved (λ m. AfterSync {T = Unit {0}} (meaning_of old) m (Err c.fault-then-next_fails.result)) (first_files old) (first_files c.record_plain.new.self) (events_of old ++ passed ∷ []) (events_of c.record_plain.new.self)
    c.record_plain.ensures.setup.first c.record_plain.ensures.noted.events (sync_failed (first_files old) (events_of old) c.fault-then-next_fails.result)

pub returns-clause-files : goal.returns-clause-files
returns-clause-files c =
    let old = c.args.self.now in
    moved (λ m. AfterSync {T = Unit {0}} {E = HallErr} (meaning_of old) m (Ok tt)) (first_files old) (first_files c.record_plain-2.new.self) (events_of old ++ synced ∷ []) (events_of c.record_plain-2.new.self)
    c.record_plain-2.ensures.setup.first c.record_plain-2.ensures.noted.events (sync_done (first_files old) (events_of old))
