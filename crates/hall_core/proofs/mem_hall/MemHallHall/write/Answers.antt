use Rattle.std.proofs.Common.{[], ◌∷◌, ◌++◌, Ok, Err, refl, ℕ, List, Bool, true, false}
use Rattle.hall_core.specs.declared.hall.HallErr.{HallErr}
use Rattle.hall_core.specs.declared.mem_hall.MemHall.{MemHall}
use Rattle.hall_core.specs.Facts.{unit_of}
use Rattle.stop_model.specs.Files.{AfterWrite}
use Rattle.hall_core.specs.History.{Write, wrote}
use Rattle.hall_core.specs.Memory.{first_files, events_of, meaning_of, facts_of}
use Rattle.hall_core.proofs.CallLemmas.{moved, write_lacking, write_failed, write_done}
use Rattle.hall_core.proofs.mem_hall.MemHallHall.write.Goals as goal

abbrev write_of : MemHall → ℕ → ℕ → List ℕ → Bool → Write
write_of hall unit at bytes is_done = record { name = (unit_of (facts_of hall).units unit).name; at = at; bytes = bytes; is_done = is_done }

pub returns-then-lacks_room-clause-files : goal.returns-then-lacks_room-clause-files
returns-then-lacks_room-clause-files c = let old = c.args.self.now in write_lacking (first_files old) (events_of old) (unit_of (facts_of old).units c.args.unit).name c.args.at c.args.bytes.now c.fault.result

pub returns-then-next_fails-clause-files : goal.returns-then-next_fails-clause-files
returns-then-next_fails-clause-files c =
    let old = c.args.self.now in
    let w = write_of old c.args.unit c.args.at c.args.bytes.now false in
    moved (λ m. AfterWrite {T = Unit {0}} w.name w.at w.bytes (meaning_of old) m (Err c.fault-then-next_fails.result)) (first_files old) (first_files c.record_write.new.self) (events_of old ++ wrote w ∷ []) (events_of c.record_write.new.self)
    c.record_write.ensures.setup.first c.record_write.ensures.noted.events (write_failed (first_files old) (events_of old) w refl c.fault-then-next_fails.result)

pub returns-clause-files : goal.returns-clause-files
returns-clause-files c =
    let old = c.args.self.now in
    let w = write_of old c.args.unit c.args.at c.args.bytes.now true in
    moved (λ m. AfterWrite {T = Unit {0}} {E = HallErr} w.name w.at w.bytes (meaning_of old) m (Ok tt)) (first_files old) (first_files c.record_write-2.new.self) (events_of old ++ wrote w ∷ []) (events_of c.record_write-2.new.self)
    c.record_write-2.ensures.setup.first c.record_write-2.ensures.noted.events (write_done (first_files old) (events_of old) w refl)
