-- An extension gives a data set a track at least.
use Rattle.std.proofs.Common.{◌≡◌, ◌+◌, ◌-◌, ◌*◌, ◌≤◌, ◌/◌, ◌==◌, nat_le, nat_lt, ℕ, zero, suc, Bool, true, false, cond, List, [], ◌∷◌, ◌++◌, length, refl, sym, ◌∙◌, ap, subst, length-append, arith}
use Rattle.std.proofs.lemmas.List.Sums.{sum_by-append, sum_by-cons}
use Rattle.std.specs.Prelude.{Option, Some, None, Result, Ok, Err, find, slice_get, slice_set, option_and_then, if◌then◌else◌}
use Rattle.std.specs.List.{AllByRecursion}
use Rattle.std.specs.Option.{option_map_or}
use Rattle.ckd_image.specs.Device.{row_of}
use Rattle.ebcdic_names.specs.declared.names.Dsn.{Dsn}
use Rattle.vol_model.specs.declared.contents.Attr.{Attr}
use Rattle.vol_model.specs.declared.contents.DataSet.{DataSet}
use Rattle.vol_model.specs.declared.contents.Run.{Run}
use Rattle.vol_model.specs.declared.contents.Shelf.{Shelf}
use Rattle.vol_model.specs.declared.contents.Volume.{Volume}
use Rattle.vol_model.specs.declared.refusals.Refusal.{Refusal}
use Rattle.vol_model.specs.declared.refusals.Refusal.TheVariants.{ExtentsFull, VtocFull, WrongKind}
use Rattle.vol_model.specs.declared.requests.Op.TheVariants.{Extend}
use Rattle.vol_model.specs.declared.requests.SpaceUnit.{SpaceUnit}
use Rattle.vol_model.specs.declared.requests.SpaceUnit.TheVariants.{Track, Cylinder}
use Rattle.vol_model.specs.Places.{tracks_in}
use Rattle.vol_model.specs.Shelf.{changed, extend_on, extend_set, extended_by, has_name, if_readable, if_slots, is_catalog, on_choice, on_volume, secondary_asked, secondary_choice, set_of, step, step_on, with_extents, with_set, with_volume}
use Rattle.vol_model.specs.Slots.{slots_needed}
use Rattle.vol_model.specs.Space.{by_run, choice, choice_from, chosen, extent_of, longest_first, longest_from, left_after, with_longest}
use Rattle.vol_model.specs.Writing.{set_on, tracks_on}
use Rattle.shelf_laws.proofs.Extending.{choice_ok, readable_ok, secondary_new}
use Rattle.shelf_laws.proofs.Steps.{found_ok, ok_same, refuse_ok}

-- ---- what is chosen for some units isn't nothing

longest_some : (size k : ℕ) (last : Option Run) (runs taken : List Run) (n : ℕ) (es : List Run) → longest_first size k last runs taken n ≡ Some es → 1 ≤ length es
unfolding longest_first
longest_some size zero last runs taken n es e = cc
longest_some size (suc k) last runs taken n es e = by_longest (longest_from None (left_after last runs)) (λ r. longest_some size k (Some r) runs (taken ++ extent_of size r.len r ∷ []) (n - r.len) es) e
  where
    by_fit : (r : Run) (b : Bool) → (longest_first size k (Some r) runs (taken ++ extent_of size r.len r ∷ []) (n - r.len) ≡ Some es → 1 ≤ length es)
        → (if b then Some (taken ++ extent_of size n r ∷ []) else longest_first size k (Some r) runs (taken ++ extent_of size r.len r ∷ []) (n - r.len)) ≡ Some es → 1 ≤ length es
    by_fit r true more e = let same : taken ++ extent_of size n r ∷ [] ≡ es = some_is (taken ++ extent_of size n r ∷ []) es e in let long = length-append taken (extent_of size n r ∷ []) in subst (λ (l : List Run). 1 ≤ length l) same (omega (arith, long))
      where
        some_is : (xs ys : List Run) → Some xs ≡ Some ys → xs ≡ ys
        some_is xs ys e = cc
    by_fit r false more e = more e

    by_longest : (o : Option Run) → ((r : Run) → longest_first size k (Some r) runs (taken ++ extent_of size r.len r ∷ []) (n - r.len) ≡ Some es → 1 ≤ length es)
        → with_longest size taken n (λ r. longest_first size k (Some r) runs (taken ++ extent_of size r.len r ∷ []) (n - r.len)) o ≡ Some es → 1 ≤ length es
    by_longest None more e = cc
    by_longest (Some r) more e = by_fit r (nat_le n r.len) (more r) e

chosen_some : (size : ℕ) (runs : List Run) (n : ℕ) (es : List Run) → (n == 0) ≡ false → chosen size false runs n ≡ Some es → 1 ≤ length es
unfolding chosen
chosen_some size runs n es some e = by_find (find (λ (r : Run). nat_le n r.len) runs) (ap (λ b. if b then Some [] else by_run size false runs n (find (λ (r : Run). nat_le n r.len) runs)) (sym some) ∙ e)
  where
    by_find : (o : Option Run) → by_run size false runs n o ≡ Some es → 1 ≤ length es
    by_find None e = longest_some size 5 None runs [] n es e
    by_find (Some r) e = let same : extent_of size n r ∷ [] ≡ es = cc in subst (λ (l : List Run). 1 ≤ length l) same (omega arith)

choice_some : (volume : Volume) (unit : SpaceUnit) (n : ℕ) (es : List Run) → (n == 0) ≡ false → choice volume unit false n ≡ Some es → 1 ≤ length es
unfolding choice choice_from
choice_some volume Track n es some e = chosen_some 1 _ n es some e
choice_some volume Cylinder n es some e = chosen_some (row_of volume.geometry.device).heads _ n es some e

secondary_some : (volume : Volume) (attr : Attr) (runs : List Run) → secondary_choice volume attr ≡ Some runs → 1 ≤ length runs
secondary_some volume attr runs e = by_none (attr.secondary == 0) refl e
  where
    by_tracks : (b : Bool) → (attr.secondary == 0) ≡ false → (if b then choice volume Track false attr.secondary else None) ≡ Some runs → 1 ≤ length runs
    by_tracks true some e = choice_some volume Track attr.secondary runs some e
    by_tracks false some e = cc

    by_cylinders : (b : Bool) → (attr.secondary == 0) ≡ false → (if b then choice volume Cylinder false attr.secondary else (if attr.scalo / 64 == 2 then choice volume Track false attr.secondary else None)) ≡ Some runs → 1 ≤ length runs
    by_cylinders true some e = choice_some volume Cylinder attr.secondary runs some e
    by_cylinders false some e = by_tracks (attr.scalo / 64 == 2) some e

    by_none : (b : Bool) → (attr.secondary == 0) ≡ b → (if b then None else (if attr.scalo / 64 == 3 then choice volume Cylinder false attr.secondary else (if attr.scalo / 64 == 2 then choice volume Track false attr.secondary else None))) ≡ Some runs → 1 ≤ length runs
    by_none true some e = cc
    by_none false some e = by_cylinders (attr.scalo / 64 == 3) some e

some_tracks : (limit : ℕ) (runs : List Run) → 1 ≤ length runs → AllByRecursion (λ (r : Run). (1 ≤ r.len) × (r.start + r.len ≤ limit)) runs → 1 ≤ tracks_in runs
some_tracks limit [] some all = absurd (omega arith)
some_tracks limit (r ∷ runs) some all = let one = all.0.0 in let sum = sum_by-cons (λ (r : Run). r.len) r runs in omega (arith, one, sum)

-- ---- an extension that is done

-- what an extension of a volume's set found
record Extends (dsn : Dsn) (volume w : Volume) : Type 0 where
  x : DataSet
  at : set_of dsn.bytes volume ≡ Some x
  runs : List Run
  some : 1 ≤ tracks_in runs
  is : with_set volume dsn.bytes (with_extents runs) ≡ w

extends_by : (dsn : Dsn) (volume w : Volume) → extend_on dsn volume ≡ Ok w → Extends dsn volume w
unfolding extend_on
extends_by dsn volume w done =
    let found = found_ok (set_of dsn.bytes volume) (extend_set dsn volume) w done in
    let x = found.0 in
    let picked = on_choice (secondary_asked x.attr) (secondary_choice volume x.attr) (extended_by dsn volume x) in
    let kind = refuse_ok (is_catalog dsn.bytes) WrongKind (if_readable x.body picked) w found.2 in
    let at = choice_ok (secondary_asked x.attr) (secondary_choice volume x.attr) (extended_by dsn volume x) w (readable_ok x.body picked w kind.1) in
    let after = with_set volume dsn.bytes (with_extents at.0) in
    let few = refuse_ok (nat_lt 16 (length x.extents + length at.0)) ExtentsFull (if_slots after) w at.2 in
    let slots = refuse_ok (nat_lt after.slots (slots_needed after)) (VtocFull (slots_needed after)) (Ok after) w few.1 in
    let new = secondary_new volume x.attr at.0 at.1 in
    record {
      x = x;
      at = found.1;
      runs = at.0;
      some = some_tracks (volume.geometry.cylinders * (row_of volume.geometry.device).heads) at.0 (secondary_some volume x.attr at.0 at.1) new.on_pack;
      is = ok_same after w slots.1;
    }

-- the set of a name that is changed
found_changed : (name : List ℕ) (runs : List Run) (sets : List DataSet) (x : DataSet) → find (has_name name) sets ≡ Some x → find (has_name name) (changed name (with_extents runs) sets) ≡ Some (with_extents runs x)
found_changed name runs [] x at = cc
found_changed name runs (y ∷ sets) x at = first (has_name name y) refl (found_changed name runs sets x) at
  where
    first : (b : Bool) → has_name name y ≡ b → (find (has_name name) sets ≡ Some x → find (has_name name) (changed name (with_extents runs) sets) ≡ Some (with_extents runs x))
        → cond b (Some y) (find (has_name name) sets) ≡ Some x → find (has_name name) ((if b then with_extents runs y else y) ∷ changed name (with_extents runs) sets) ≡ Some (with_extents runs x)
    first true e rest at = let same : y ≡ x = cc in ap (λ c. cond c (Some (with_extents runs y)) (find (has_name name) (changed name (with_extents runs) sets))) e ∙ ap (λ (z : DataSet). Some (with_extents runs z)) same
    first false e rest at = ap (λ c. cond c (Some y) (find (has_name name) (changed name (with_extents runs) sets))) e ∙ rest at

set_same : {X : Type 0} (xs : List X) (i : ℕ) (x y : X) → slice_get xs i ≡ Some x → slice_get (slice_set xs i y) i ≡ Some y
set_same [] i x y at = cc
set_same (z ∷ xs) zero x y at = refl
set_same (z ∷ xs) (suc i) x y at = set_same xs i x y at

-- an extension raises the tracks of its set
pub extension_raises : (s u : Shelf) (v : ℕ) (dsn : Dsn) → step s (Extend v dsn) ≡ Ok u → suc (tracks_on s v dsn.bytes) ≤ tracks_on u v dsn.bytes
unfolding step step_on tracks_on set_on
extension_raises s u v dsn done = by_volume (slice_get s.volumes v) refl done
  where
    by_result : (volume : Volume) → slice_get s.volumes v ≡ Some volume → (r : Result Volume Refusal) → extend_on dsn volume ≡ r → with_volume s v r ≡ Ok u
        → suc (option_map_or (λ (x : DataSet). tracks_in x.extents) (option_and_then (set_of dsn.bytes) (slice_get s.volumes v)) 0) ≤ option_map_or (λ (x : DataSet). tracks_in x.extents) (option_and_then (set_of dsn.bytes) (slice_get u.volumes v)) 0
    by_result volume at (Err r) is done = cc
    by_result volume at (Ok w) is done =
        let e = extends_by dsn volume w is in
        let now : option_map_or (λ (x : DataSet). tracks_in x.extents) (option_and_then (set_of dsn.bytes) (slice_get s.volumes v)) 0 ≡ tracks_in e.x.extents =
        ap (λ (o : Option Volume). option_map_or (λ (x : DataSet). tracks_in x.extents) (option_and_then (set_of dsn.bytes) o) 0) at ∙ ap (λ (o : Option DataSet). option_map_or (λ (x : DataSet). tracks_in x.extents) o 0) e.at in
        let same : record { volumes = slice_set s.volumes v w } ≡ u = ok_same (record { volumes = slice_set s.volumes v w }) u done in
        let there : slice_get u.volumes v ≡ Some w = ap (λ (t : Shelf). slice_get t.volumes v) (sym same) ∙ set_same s.volumes v volume w at in
        let found : set_of dsn.bytes w ≡ Some (with_extents e.runs e.x) = ap (set_of dsn.bytes) (sym e.is) ∙ found_changed dsn.bytes e.runs volume.sets e.x e.at in
        let later : option_map_or (λ (x : DataSet). tracks_in x.extents) (option_and_then (set_of dsn.bytes) (slice_get u.volumes v)) 0 ≡ tracks_in (e.x.extents ++ e.runs) =
        ap (λ (o : Option Volume). option_map_or (λ (x : DataSet). tracks_in x.extents) (option_and_then (set_of dsn.bytes) o) 0) there ∙ ap (λ (o : Option DataSet). option_map_or (λ (x : DataSet). tracks_in x.extents) o 0) found in
        let more = sum_by-append (λ (r : Run). r.len) e.x.extents e.runs in
        let some = e.some in
        omega (arith, now, later, more, some)

    by_volume : (o : Option Volume) → slice_get s.volumes v ≡ o → on_volume s v (extend_on dsn) o ≡ Ok u
        → suc (option_map_or (λ (x : DataSet). tracks_in x.extents) (option_and_then (set_of dsn.bytes) (slice_get s.volumes v)) 0) ≤ option_map_or (λ (x : DataSet). tracks_in x.extents) (option_and_then (set_of dsn.bytes) (slice_get u.volumes v)) 0
    by_volume None at done = cc
    by_volume (Some volume) at done = by_result volume at (extend_on dsn volume) refl done
