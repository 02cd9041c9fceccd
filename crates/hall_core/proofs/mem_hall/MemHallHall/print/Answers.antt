use Rattle.std.proofs.Common.{[], ◌∷◌, ◌++◌, Ok, Err}
use Rattle.hall_core.specs.declared.hall.HallErr.{HallErr}
use Rattle.stop_model.specs.Files.{AfterPrint}
use Rattle.hall_core.specs.History.{printed, passed}
use Rattle.hall_core.specs.Memory.{first_files, events_of, meaning_of}
use Rattle.hall_core.proofs.CallLemmas.{moved, print_lacking, print_failed, print_done}
use Rattle.hall_core.proofs.mem_hall.MemHallHall.print.Goals as goal

pub returns-then-lacks_room-clause-files : goal.returns-then-lacks_room-clause-files
returns-then-lacks_room-clause-files c = print_lacking (first_files c.args.self.now) (events_of c.args.self.now) c.args.bytes.now c.fault.result

pub returns-then-next_fails-clause-files : goal.returns-then-next_fails-clause-files
returns-then-next_fails-clause-files c =
    let old = c.args.self.now in
    moved (λ m. AfterPrint {T = Unit {0}} c.args.bytes.now (meaning_of old) m (Err c.fault-then-next_fails.result)) (first_files old) (first_files c.record_plain.new.self) (events_of old ++ passed ∷ []) (events_of c.record_plain.new.self)
    c.record_plain.ensures.setup.first c.record_plain.ensures.noted.events (print_failed (first_files old) (events_of old) c.args.bytes.now c.fault-then-next_fails.result)

pub returns-clause-files : goal.returns-clause-files
returns-clause-files c =
    let old = c.args.self.now in
    moved (λ m. AfterPrint {T = Unit {0}} {E = HallErr} c.args.bytes.now (meaning_of old) m (Ok tt)) (first_files old) (first_files c.record_print.new.self) (events_of old ++ printed c.args.bytes.now ∷ []) (events_of c.record_print.new.self)
    c.record_print.ensures.setup.first c.record_print.ensures.noted.events (print_done (first_files old) (events_of old) c.args.bytes.now)
