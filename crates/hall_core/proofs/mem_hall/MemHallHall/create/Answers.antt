use Rattle.std.proofs.Common.{◌≡◌, ◌∙◌, ◌++◌, ◌∷◌, [], ap, List, Ok}
use Rattle.stop_model.specs.Files.{File, file_of}
use Rattle.stop_model.specs.Moments.{Same}
use Rattle.hall_core.specs.declared.hall.HallErr.TheVariants.{Exists}
use Rattle.hall_core.specs.declared.mem_hall.MemHall.{MemHall}
use Rattle.hall_core.specs.Held.{files_of}
use Rattle.hall_core.specs.History.{made, passed}
use Rattle.hall_core.specs.Images.{Creates, zeros_named}
use Rattle.hall_core.specs.Memory.{KeepsSetup, first_files, events_of, meaning_of}
use Rattle.hall_core.proofs.CallLemmas.{moved, same_still, same_passed, creates_nothing, create_done}
use Rattle.hall_core.proofs.UnitLemmas.{there}
use Rattle.hall_core.proofs.mem_hall.MemHallHall.create.Goals as goal

-- a call that did nothing, and was put on the record
only_time : (old new : MemHall) → KeepsSetup old new → events_of new ≡ events_of old ++ passed ∷ [] → Same (meaning_of old) (meaning_of new)
only_time old new setup events = moved (λ m. Same (meaning_of old) m) (first_files old) (first_files new) (events_of old ++ passed ∷ []) (events_of new) setup.first events (same_passed (first_files old) (events_of old))

pub returns-then-lacks_room_beside-clause-files : goal.returns-then-lacks_room_beside-clause-files
returns-then-lacks_room_beside-clause-files c =
    let old = c.args.self.now in
    creates_nothing c.args.name.now c.args.len (meaning_of old) (meaning_of old) c.fault.result (same_still (first_files old) (events_of old)) (λ e. absurd (cc (e, c.fault.ensures.error))) (λ e. absurd (cc (e, c.fault.ensures.error)))

pub returns-then-next_fails-clause-files : goal.returns-then-next_fails-clause-files
returns-then-next_fails-clause-files c =
    let old = c.args.self.now in
    creates_nothing c.args.name.now c.args.len (meaning_of old) (meaning_of c.record_plain.new.self) c.fault-then-next_fails.result (only_time old c.record_plain.new.self c.record_plain.ensures.setup c.record_plain.ensures.noted.events)
    (λ e. absurd (cc (e, c.fault-then-next_fails.ensures.error))) (λ e. absurd (cc (e, c.fault-then-next_fails.ensures.error)))

pub returns-in-Some-clause-files : goal.returns-in-Some-clause-files
returns-in-Some-clause-files c =
    let old = c.args.self.now in
    let new = c.record_plain-in-Some.new.self in
    let place = rw c.deref.ensures.value at c.in-Some.ensures in
    let image = there (files_of old.files.items) c.in-Some.field-0 c.args.name.now place.0 place.1 in
    creates_nothing c.args.name.now c.args.len (meaning_of old) (meaning_of new) Exists (only_time old new c.record_plain-in-Some.ensures.setup c.record_plain-in-Some.ensures.noted.events)
    (λ e. (image.0, ap (λ (l : List File). file_of l c.args.name.now) old.replay.present ∙ image.1)) (λ e. absurd (cc e))

pub returns-in-None-clause-files : goal.returns-in-None-clause-files
returns-in-None-clause-files c =
    let old = c.args.self.now in
    let name = c.args.name.now in
    let len = c.args.len in
    let none = rw c.deref.ensures.value at c.in-None.ensures in
    moved (λ m. Creates name len (meaning_of old) m (Ok c.len-unit.result)) (first_files old) (first_files c.record_create.new.self) (events_of old ++ made (zeros_named name len) ∷ []) (events_of c.record_create.new.self)
    c.record_create.ensures.setup.first c.record_create.ensures.noted.events
    (create_done (first_files old) (events_of old) name len c.len-unit.result (ap (λ (l : List File). file_of l name) old.replay.present ∙ none))
