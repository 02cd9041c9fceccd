-- What the trait asks of every hall, for one in memory.
use Rattle.std.specs.Prelude.{◌≡◌, ◌≢◌, ◌<◌, ◌≤◌, ℕ, List, [], ◌∷◌, length, refl, Bool, true, false, Some, None, slice_index_or as get_or}
use Rattle.std.specs.Str.{bytes_eq}
use Rattle.std.proofs.Common.{zero, suc, sym, ◌∙◌, ap, subst, arith}
use Rattle.std.proofs.lemmas.Slice.Eq.{bytes_eq-Decides}
use Rattle.std.proofs.lemmas.List.{get_or-map, length-map}
use Rattle.hall_core.specs.Facts.{Attached, unit_of}
use Rattle.stop_model.specs.Files.{File, file_of}
use Rattle.hall_core.specs.Images.{AreWhole}
use Rattle.stop_model.specs.Moments.{IsDurable, LeftNow}
use Rattle.hall_core.specs.History.{Disk, Change, after_all, kept, new_disk, with_changes}
use Rattle.hall_core.specs.Replay.{events_at, units_needed}
use Rattle.hall_core.specs.declared.mem_hall.step.Step.{Step}
use Rattle.hall_core.specs.declared.mem_hall.step.Step.TheVariants as steps
use Rattle.hall_core.specs.declared.mem_hall.step.Step.TheVariants.{Create, Sync, Print, Pass}
use Rattle.hall_core.specs.Held.{files_of, attached_as, shapes_of, units_at, IsFirst, AreFirst}
use Rattle.hall_core.specs.HistoryLaws.{state_left_now, now_since, since_now}
use Rattle.hall_core.specs.Memory.{first_files, events_of, meaning_of, facts_of}
use Rattle.hall_core.specs.declared.mem_hall.MemHall.{MemHall}

-- a name that isn't the one
pub other_name : (a b : List ℕ) → a ≢ b → bytes_eq a b ≡ false
other_name a b other = by_test (bytes_eq a b) refl
  where
    by_test : (t : Bool) → bytes_eq a b ≡ t → bytes_eq a b ≡ false
    by_test true is = absurd (other ((bytes_eq-Decides a b).0 is))
    by_test false is = is

pub same_name : (a : List ℕ) → bytes_eq a a ≡ true
same_name a = (bytes_eq-Decides a a).1 refl

-- the files but the first
pub tail_first : (f : File) (files : List File) (place : ℕ) → IsFirst (shapes_of (f ∷ files)) (suc place) → IsFirst (shapes_of files) place
tail_first f files place first = record { inside = omega (arith, first.inside); before = λ k low. first.before (suc k) (omega arith) }

-- the first file of a name is the one that is found
pub file_at_first : (files : List File) (place : ℕ) (d : File) → IsFirst (shapes_of files) place → file_of files (unit_of (shapes_of files) place).name ≡ Some (get_or files place d).bytes
file_at_first [] place d first = absurd (omega (arith, first.inside))
file_at_first (f ∷ files) zero d first = rw (same_name f.name) refl
file_at_first (f ∷ files) (suc place) d first = rw (other_name f.name _ (first.before 0 (omega arith))) (file_at_first files place d (tail_first f files place first))

-- where no file has a name, each of them has another
pub others_named : (files : List File) (name : List ℕ) → file_of files name ≡ None → (k : ℕ) → k < length files → (unit_of (shapes_of files) k).name ≢ name
others_named [] name none k low = absurd (omega arith)
others_named (f ∷ files) name none k low = by_test (bytes_eq f.name name) refl (λ none. others_named files name none) k low
  where
    found : bytes_eq f.name name ≡ true → file_of (f ∷ files) name ≡ Some f.bytes
    found same = rw same refl

    rest : bytes_eq f.name name ≡ false → file_of files name ≡ None
    rest other = rw other at none

    by_test : (t : Bool) → bytes_eq f.name name ≡ t → (file_of files name ≡ None → (k : ℕ) → k < length files → (unit_of (shapes_of files) k).name ≢ name) → (k : ℕ) → k < length (f ∷ files) → (unit_of (shapes_of (f ∷ files)) k).name ≢ name
    by_test true same others k low is = absurd (cc (found same, none))
    by_test false other others zero low is = absurd (cc ((bytes_eq-Decides f.name name).1 is, other))
    by_test false other others (suc k) low is = others (rest other) k (omega (arith, low)) is

-- the size of a file at a place
pub shape_at : (files : List File) (place : ℕ) (d : File) → place < length files → unit_of (shapes_of files) place ≡ attached_as (get_or files place d)
shape_at files place d low = get_or-map attached_as files place d _ low

-- each unit of files is a file, of the unit's size
pub whole_at : (files : List File) (places : List ℕ) → AreFirst (shapes_of files) places → AreWhole files (units_at (shapes_of files) places)
whole_at files places first k low =
    let shapes = shapes_of files in
    let inside : k < length places = omega (arith, low, length-map places (unit_of shapes)) in
    let place = get_or places k 0 in
    let is_first : IsFirst shapes place = first k inside in
    let within : place < length files = omega (arith, is_first.inside, length-map files attached_as) in
    let unit : unit_of (units_at shapes places) k ≡ unit_of shapes place = get_or-map (unit_of shapes) places k 0 _ inside in
    let d : File = record { name = []; bytes = [] } in (
      (get_or files place d).bytes,
      ap (λ (u : Attached). file_of files u.name) unit ∙ file_at_first files place d is_first,
      ap (λ (u : Attached). u.size) (sym (unit ∙ shape_at files place d within)),
    )

-- a stop may leave the files as they are read
pub leaves_state : (hall : MemHall) → (meaning_of hall).left (meaning_of hall).state
leaves_state hall = state_left_now (first_files hall) (events_of hall)

-- what a stop leaves now, one since any earlier moment may have left
pub counts_now : (hall : MemHall) (t : ℕ) (j : List File) → t ≤ (meaning_of hall).clock → (meaning_of hall).left j → (meaning_of hall).left_since t j (meaning_of hall).printed
counts_now hall t j before left = now_since (first_files hall) (events_of hall) t j _ before left refl

-- since this moment there is no other
pub only_now : (hall : MemHall) (j : List File) (p : List ℕ) → (meaning_of hall).left_since (meaning_of hall).clock j p → LeftNow (meaning_of hall) j p
only_now hall j p left = since_now (first_files hall) (events_of hall) j p left

-- each unit is a file, of the unit's size
pub whole_units : (hall : MemHall) → AreWhole (meaning_of hall).state (facts_of hall).units
whole_units hall = subst (λ (l : List File). AreWhole l (facts_of hall).units) (sym hall.replay.present) (whole_at (files_of hall.files.items) hall.units.items hall.replay.firsts)

-- a disk that holds its files durably, of which no write is pending
record IsSettled (d : Disk) : Type 0 where
  none : d.pending ≡ []
  same : d.stable ≡ d.files

-- steps that write nothing leave it so
settled_after : (units : List Attached) (pool text : List ℕ) (steps : List Step) (d : Disk) → ((k : ℕ) → k < length steps → units_needed (get_or steps k Pass) ≤ 0) → IsSettled d → IsSettled (after_all d (events_at units pool text steps))
settled_after units pool text [] d none settled = settled
settled_after units pool text (steps.Write unit at start len is_done ∷ steps) d none settled = absurd (let low = none 0 (omega arith) in omega (arith, low))
settled_after units pool text (Create unit ∷ steps) d none settled = absurd (let low = none 0 (omega arith) in omega (arith, low))
settled_after units pool text (Sync ∷ steps) d none settled = settled_after units pool text steps _ (λ k low. none (suc k) (omega (arith, low))) (record { none = refl; same = refl })
settled_after units pool text (Print start len ∷ steps) d none settled = settled_after units pool text steps _ (λ k low. none (suc k) (omega (arith, low))) (record { none = settled.none; same = settled.same })
settled_after units pool text (Pass ∷ steps) d none settled = settled_after units pool text steps d (λ k low. none (suc k) (omega (arith, low))) settled

-- without a unit no write is pending
pub none_pending : (hall : MemHall) → (facts_of hall).units ≡ [] → IsDurable (meaning_of hall)
none_pending hall none j left =
    let units = (facts_of hall).units in
    let each : (k : ℕ) → k < length hall.steps.items → units_needed (get_or hall.steps.items k Pass) ≤ 0 = λ k low. omega (arith, (hall.replay.within k low).unit, ap length none) in
    let settled = settled_after units hall.written.items hall.printed.items hall.steps.items (new_disk (first_files hall)) each (record { none = refl; same = refl }) in
    let d : Disk = after_all (new_disk (first_files hall)) (events_of hall) in
    left.1 ∙ ap (λ (cs : List Change). with_changes d.stable (kept left.0 cs)) settled.none ∙ settled.same
