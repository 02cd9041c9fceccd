use Rattle.std.proofs.Common.{◌≡◌, ◌++◌, ◌∷◌, [], ap, sym, ◌∙◌, subst, List, ℕ, Some}
use Rattle.stop_model.specs.Files.{File, file_of}
use Rattle.hall_core.specs.Held.{files_of}
use Rattle.stop_model.specs.Moments.{Same}
use Rattle.hall_core.specs.History.{passed}
use Rattle.hall_core.specs.Memory.{first_files, events_of, meaning_of}
use Rattle.hall_core.proofs.CallLemmas.{moved, same_still, same_passed}
use Rattle.hall_core.proofs.UnitLemmas.{there}
use Rattle.hall_core.proofs.mem_hall.MemHallHall.attach.Goals as goal
use Rattle.hall_core.proofs.mem_hall.MemHallHall.attach.Goals.{After-add_unit}

pub returns-then-lacks_room-clause-files : goal.returns-then-lacks_room-clause-files
returns-then-lacks_room-clause-files c = record { same = same_still (first_files c.args.self.now) (events_of c.args.self.now); there = tt; missing = λ e. absurd (cc (e, c.fault.ensures.error)); memory = λ e. absurd (cc (e, c.fault.ensures.error)) }

pub returns-then-fails-clause-files : goal.returns-then-fails-clause-files
returns-then-fails-clause-files c =
    let old = c.args.self.now in
    record {
      same = moved (λ m. Same (meaning_of old) m) (first_files old) (first_files c.record_plain.new.self) (events_of old ++ passed ∷ []) (events_of c.record_plain.new.self)
          c.record_plain.ensures.setup.first c.record_plain.ensures.noted.events (same_passed (first_files old) (events_of old));
      there = tt;
      missing = λ e. absurd (cc (e, c.fault-then-fails.ensures.error));
      memory = λ e. absurd (cc (e, c.fault-then-fails.ensures.error));
    }

pub returns-in_default-clause-files : goal.returns-in_default-clause-files
returns-in_default-clause-files c =
    let old = c.args.self.now in
    let none = rw (c.deref.ensures.value, c.record_plain.ensures.files) at c.in_default.ensures in
    record {
      same = moved (λ m. Same (meaning_of old) m) (first_files old) (first_files c.record_plain.new.self) (events_of old ++ passed ∷ []) (events_of c.record_plain.new.self)
          c.record_plain.ensures.setup.first c.record_plain.ensures.noted.events (same_passed (first_files old) (events_of old));
      there = tt;
      missing = λ e. ap (λ (l : List File). file_of l c.args.name.now) old.replay.present ∙ none;
      memory = λ e. absurd (cc e);
    }

found : (c : After-add_unit) → (image : List ℕ) × (file_of (meaning_of c.args.self.now).state c.args.name.now ≡ Some image)
found c =
    let old = c.args.self.now in
    let place = rw (c.deref.ensures.value, c.record_plain.ensures.files) at c.in-Some.ensures in
    let image = there (files_of old.files.items) c.in-Some.place c.args.name.now place.0 place.1 in
    (image.0, subst (λ (l : List File). file_of l c.args.name.now ≡ Some image.0) (sym old.replay.present) image.1)

pub returns-clause-files : goal.returns-clause-files
returns-clause-files c =
    let old = c.args.self.now in
    record {
      same = moved (λ m. Same (meaning_of old) m) (first_files old) (first_files c.add_unit.new.self) (events_of old ++ passed ∷ []) (events_of c.add_unit.new.self)
          (c.add_unit.ensures.setup.first ∙ c.record_plain.ensures.setup.first) (c.add_unit.ensures.noted.events ∙ c.record_plain.ensures.noted.events) (same_passed (first_files old) (events_of old));
      there = found c;
      missing = λ e. absurd (cc e);
      memory = λ e. absurd (cc e);
    }
