-- A shelf stays lawful where a data set is extended.
use Rattle.std.proofs.Common.{◌≡◌, ◌+◌, ◌≤◌, ◌/◌, ◌==◌, ℕ, Bool, true, false, cond, List, [], ◌∷◌, ◌++◌, length, refl, ◌∙◌, ap, subst, arith, length-append}
use Rattle.std.proofs.lemmas.List.Sums.{sum_by-append}
use Rattle.std.specs.Prelude.{Option, Some, None, Result, Ok, find, nat_lt, if◌then◌else◌}
use Rattle.std.specs.List.{AllByRecursion}
use Rattle.ebcdic_names.specs.declared.names.Dsn.{Dsn}
use Rattle.vol_model.specs.declared.contents.Attr.{Attr}
use Rattle.vol_model.specs.declared.contents.Block.{Block}
use Rattle.vol_model.specs.declared.contents.Body.{Body}
use Rattle.vol_model.specs.declared.contents.Body.TheVariants as bodies
use Rattle.vol_model.specs.declared.contents.DataSet.{DataSet}
use Rattle.vol_model.specs.declared.contents.Place.{Place}
use Rattle.vol_model.specs.declared.contents.Run.{Run}
use Rattle.vol_model.specs.declared.contents.Shelf.{Shelf}
use Rattle.vol_model.specs.declared.contents.Volume.{Volume}
use Rattle.vol_model.specs.declared.refusals.Refusal.{Refusal}
use Rattle.vol_model.specs.declared.refusals.Refusal.TheVariants.{ExtentsFull, VtocFull, WrongKind}
use Rattle.vol_model.specs.declared.requests.Op.TheVariants.{Extend}
use Rattle.vol_model.specs.declared.requests.SpaceUnit.TheVariants.{Track, Cylinder}
use Rattle.vol_model.specs.Lawful.{FollowFrom, IsLawful, IsLawfulBody, IsLawfulSet, IsLawfulVolume, IsOnPack, OwnsOnce}
use Rattle.vol_model.specs.Order.{IsAscending, is_before}
use Rattle.vol_model.specs.Places.{tracks_in}
use Rattle.vol_model.specs.Shelf.{changed, extend_on, extend_set, extended_by, has_name, if_readable, if_slots, is_catalog, on_choice, secondary_asked, secondary_choice, set_of, step, step_on, with_extents, with_set}
use Rattle.vol_model.specs.Slots.{slots_needed}
use Rattle.vol_model.specs.Space.{choice}
use Rattle.shelf_laws.proofs.Lists.{all_joined}
use Rattle.shelf_laws.proofs.SetChanges.{behind_named, found_all, lawful_changed}
use Rattle.shelf_laws.proofs.Steps.{not_more, found_ok, ok_same, refuse_ok, step_lawful}
use Rattle.shelf_laws.proofs.Tracks.{AreNew, choice_new, extents_of, owners, owners-append, owners-cons}

-- ---- a body on more tracks

follow_more : (low high : ℕ) (p : Place) (bs : List Block) → low ≤ high → FollowFrom low p bs → FollowFrom high p bs
follow_more low high p [] le h = tt
follow_more low high p (b ∷ bs) le h = let at = h.0 in (omega arith, h.1, follow_more low high b.place bs le h.2)

pub body_more : (low high : ℕ) (body : Body) → low ≤ high → IsLawfulBody low body → IsLawfulBody high body
body_more low high (bodies.Seq bs) le h = (follow_more low high (record { tt = 0; r = 0 }) bs le h.0, h.1)
body_more low high (bodies.Part dir end es bs) le h =
    let at = h.end in
    record { few = h.few; room = h.room; order = h.order; entries = h.entries; end = omega arith; follow = follow_more low high end bs le h.follow; blocks = h.blocks }
body_more low high bodies.Catalog le h = tt
body_more low high bodies.Other le h = tt
body_more low high (bodies.Unreadable track) le h = tt

-- ---- the tracks that are owned then

not_behind : (name : List ℕ) (f : DataSet → DataSet) (x : DataSet) (sets : List DataSet) → has_name name x ≡ true → AllByRecursion (λ y. is_before x y ≡ true) sets → changed name f sets ≡ sets
not_behind name f x [] named before = refl
not_behind name f x (y ∷ sets) named before = ap (λ (z : DataSet). z ∷ changed name f sets) (one (has_name name y) refl) ∙ ap (λ (l : List DataSet). y ∷ l) (not_behind name f x sets named before.1)
  where
    one : (b : Bool) → has_name name y ≡ b → (if b then f y else y) ≡ y
    one true e = absurd (behind_named name x y named before.0 e)
    one false e = refl

module _ (name : List ℕ) (runs : List Run) (t : ℕ) where
  abbrev f : DataSet → DataSet
  f = with_extents runs

  first_owners : (y : DataSet) (sets : List DataSet) (x : DataSet) (b : Bool) → has_name name y ≡ b → AllByRecursion (λ z. is_before y z ≡ true) sets
      → (find (has_name name) sets ≡ Some x → owners t (extents_of (changed name f sets)) ≡ owners t (extents_of sets) + owners t runs)
      → cond b (Some y) (find (has_name name) sets) ≡ Some x
      → owners t ((if b then f y else y).extents ++ extents_of (changed name f sets)) ≡ owners t (y.extents ++ extents_of sets) + owners t runs
  first_owners y sets x true e before rest found =
      let same = ap (λ (l : List DataSet). owners t (extents_of l)) (not_behind name f y sets e before) in
      let all = owners-append t (y.extents ++ runs) (extents_of (changed name f sets)) in
      let one = owners-append t y.extents runs in
      let old = owners-append t y.extents (extents_of sets) in
      omega (arith, same, all, one, old)
  first_owners y sets x false e before rest found =
      let more = rest found in
      let all = owners-append t y.extents (extents_of (changed name f sets)) in
      let old = owners-append t y.extents (extents_of sets) in
      omega (arith, more, all, old)

  changed_owners : (sets : List DataSet) (x : DataSet) → IsAscending sets → find (has_name name) sets ≡ Some x → owners t (extents_of (changed name f sets)) ≡ owners t (extents_of sets) + owners t runs
  changed_owners [] x up found = cc
  changed_owners (y ∷ sets) x up found = first_owners y sets x (has_name name y) refl up.0 (λ k. changed_owners sets x up.1 k) found

owned_more : (volume : Volume) (name : List ℕ) (runs : List Run) (x : DataSet) → IsLawfulVolume volume → set_of name volume ≡ Some x → AreNew volume runs → OwnsOnce (with_set volume name (with_extents runs))
owned_more volume name runs x h found new t =
    let zero_run : Run = record { start = 0; len = 1 } in
    let sets = changed name (with_extents runs) volume.sets in
    let a = owners-cons t zero_run (volume.vtoc ∷ extents_of sets) in
    let b = owners-cons t volume.vtoc (extents_of sets) in
    let c = owners-cons t zero_run (volume.vtoc ∷ extents_of volume.sets) in
    let d = owners-cons t volume.vtoc (extents_of volume.sets) in
    let more = changed_owners name runs t volume.sets x h.order found in
    let once = new.once t (h.owned t) in
    omega (arith, a, b, c, d, more, once)

-- ---- the operation

pub choice_ok : {X : Type 0} (n : ℕ) (o : Option (List Run)) (f : List Run → Result X Refusal) (y : X) → on_choice n o f ≡ Ok y → (runs : List Run) × (o ≡ Some runs) × (f runs ≡ Ok y)
choice_ok n None f y h = cc
choice_ok n (Some runs) f y h = (runs, refl, h)

pub readable_ok : {X : Type 0} (b : Body) (rest : Result X Refusal) (y : X) → if_readable b rest ≡ Ok y → rest ≡ Ok y
readable_ok (bodies.Seq bs) rest y h = h
readable_ok (bodies.Part dir end es bs) rest y h = h
readable_ok bodies.Catalog rest y h = h
readable_ok bodies.Other rest y h = h
readable_ok (bodies.Unreadable t) rest y h = cc

pub secondary_new : (volume : Volume) (attr : Attr) (runs : List Run) → secondary_choice volume attr ≡ Some runs → AreNew volume runs
secondary_new volume attr runs e = by_none (attr.secondary == 0) e
  where
    by_tracks : (b : Bool) → (if b then choice volume Track false attr.secondary else None) ≡ Some runs → AreNew volume runs
    by_tracks true e = choice_new volume Track false attr.secondary runs e
    by_tracks false e = cc

    by_cylinders : (b : Bool) → (if b then choice volume Cylinder false attr.secondary else (if attr.scalo / 64 == 2 then choice volume Track false attr.secondary else None)) ≡ Some runs → AreNew volume runs
    by_cylinders true e = choice_new volume Cylinder false attr.secondary runs e
    by_cylinders false e = by_tracks (attr.scalo / 64 == 2) e

    by_none : (b : Bool) → (if b then None else (if attr.scalo / 64 == 3 then choice volume Cylinder false attr.secondary else (if attr.scalo / 64 == 2 then choice volume Track false attr.secondary else None))) ≡ Some runs → AreNew volume runs
    by_none true e = cc
    by_none false e = by_cylinders (attr.scalo / 64 == 3) e

extended_lawful : (volume : Volume) (x : DataSet) (runs : List Run) → AreNew volume runs → length x.extents + length runs ≤ 16 → IsLawfulSet volume.geometry x → IsLawfulSet volume.geometry (with_extents runs x)
extended_lawful volume x runs new few h =
    let tracks = sum_by-append (λ (r : Run). r.len) x.extents runs in
    record {
      few = omega (arith, few, length-append x.extents runs);
      extents = all_joined (IsOnPack volume.geometry) x.extents runs h.extents new.on_pack;
      secondary = h.secondary;
      kind = h.kind;
      body = body_more (tracks_in x.extents) (tracks_in (x.extents ++ runs)) x.body (omega (arith, tracks)) h.body;
    }

extends : (dsn : Dsn) (volume w : Volume) → IsLawfulVolume volume → extend_on dsn volume ≡ Ok w → IsLawfulVolume w
unfolding extend_on
extends dsn volume w h done =
    let found = found_ok (set_of dsn.bytes volume) (extend_set dsn volume) w done in
    let x = found.0 in
    let chosen = on_choice (secondary_asked x.attr) (secondary_choice volume x.attr) (extended_by dsn volume x) in
    let kind = refuse_ok (is_catalog dsn.bytes) WrongKind (if_readable x.body chosen) w found.2 in
    let at = choice_ok (secondary_asked x.attr) (secondary_choice volume x.attr) (extended_by dsn volume x) w (readable_ok x.body chosen w kind.1) in
    let runs = at.0 in
    let after = with_set volume dsn.bytes (with_extents runs) in
    let few = refuse_ok (nat_lt 16 (length x.extents + length runs)) ExtentsFull (if_slots after) w at.2 in
    let slots = refuse_ok (nat_lt after.slots (slots_needed after)) (VtocFull (slots_needed after)) (Ok after) w few.1 in
    let new = secondary_new volume x.attr runs at.1 in
    let set = found_all (IsLawfulSet volume.geometry) dsn.bytes volume.sets x h.sets found.1 in
    subst IsLawfulVolume (ok_same after w slots.1)
    (lawful_changed volume dsn.bytes (with_extents runs) x (λ y. refl) h found.1 (extended_lawful volume x runs new (not_more 16 (length x.extents + length runs) few.0) set.0) (not_more volume.slots (slots_needed after) slots.0) (owned_more volume dsn.bytes runs x h found.1 new))

pub extend_lawful : (s t : Shelf) (v : ℕ) (dsn : Dsn) → IsLawful s → step s (Extend v dsn) ≡ Ok t → IsLawful t
unfolding step_on
extend_lawful s t v dsn h done = step_lawful s t (Extend v dsn) (λ volume w. extends dsn volume w) h done
