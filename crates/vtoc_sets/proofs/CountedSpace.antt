-- The extents of a data set and their tracks, counted one by one.
use Rattle.std.proofs.Common.{◌≡◌, ◌<◌, ◌≤◌, ◌+◌, ◌*◌, min, ℕ, zero, suc, List, [], ◌∷◌, length, take, Some, None, sym, ap, ◌∙◌, arith, length-take}
use Rattle.std.specs.Prelude.{nat_le, slice_get}
use Rattle.std.specs.List.{list_all}
use Rattle.std.proofs.lemmas.Bool.{and_parts, leb-true}
use Rattle.std.proofs.lemmas.List.{length-map, take_all}
use Rattle.std.proofs.lemmas.List.Sums.{sum_by-cons}
use Rattle.dscb_codec.specs.declared.F1.{F1}
use Rattle.pack_spec.specs.declared.slot.VtocSlot.{VtocSlot}
use Rattle.pack_spec.specs.Rules.{counted_extents, has_extents}
use Rattle.pack_spec.specs.Slots.{slots_of_vtoc}
use Rattle.pack_spec.specs.Vtoc.{is_extent, run_of_extent}
use Rattle.vol_model.specs.declared.contents.Run.{Run}
use Rattle.vol_model.specs.Places.{tracks_in}
use Rattle.vtoc_index.specs.declared.vol.Vol.{Vol}
use Rattle.vtoc_sets.specs.Sets.{HasSet, extents_in}

-- Of the first so many places, as many have an extent, and these have so many tracks.
pub record SoFar (xs : List Run) (k extents tracks : ℕ) : Type 0 where
  pub many : extents ≡ min k (length xs)
  pub own : tracks ≡ tracks_in (take k xs)

-- The same of a data set of whatever image; and whatever the index holds, both counts are small.
pub record IsCounted (v : Vol) (f : F1) (k extents tracks : ℕ) : Type 0 where
  pub few : extents ≤ k
  pub small : tracks ≤ 65535 * k
  pub told : (image : List ℕ) → HasSet image v f → SoFar (extents_in image v f) k extents tracks

-- one more run
tracks_more : (xs : List Run) (k : ℕ) (r : Run) → slice_get xs k ≡ Some r → tracks_in (take (k + 1) xs) ≡ tracks_in (take k xs) + r.len
tracks_more [] k r is = cc
tracks_more (x ∷ xs) zero r is =
    let same : x ≡ r = cc in
    let next : zero + 1 ≡ suc zero = omega arith in
    ap (λ (n : ℕ). tracks_in (take n (x ∷ xs))) next ∙ sum_by-cons (λ (y : Run). y.len) x [] ∙ (let len : x.len ≡ r.len = ap (λ (y : Run). y.len) same in omega arith)
tracks_more (x ∷ xs) (suc k) r is =
    let next : suc k + 1 ≡ suc (k + 1) = omega arith in
    let rest = tracks_more xs k r is in
    ap (λ (n : ℕ). tracks_in (take n (x ∷ xs))) next
    ∙ sum_by-cons (λ (y : Run). y.len) x (take (k + 1) xs)
    ∙ (let before = sum_by-cons (λ (y : Run). y.len) x (take k xs) in omega arith)

within : (xs : List Run) (k : ℕ) (r : Run) → slice_get xs k ≡ Some r → k < length xs
within [] k r is = cc
within (x ∷ xs) zero r is = omega arith
within (x ∷ xs) (suc k) r is = omega (arith, within xs k r is)

past : (xs : List Run) (k : ℕ) → slice_get xs k ≡ None → length xs ≤ k
past [] k is = omega arith
past (x ∷ xs) zero is = cc
past (x ∷ xs) (suc k) is = omega (arith, past xs k is)

module _ (v : Vol) (f : F1) (k extents tracks : ℕ) (counted : IsCounted v f k extents tracks) where
  pub counted_some : (r : Run) → r.len ≤ 65535 → ((image : List ℕ) → HasSet image v f → Some r ≡ slice_get (extents_in image v f) k) → IsCounted v f (k + 1) (extents + 1) (tracks + r.len)
  counted_some r short is = record {
    few = omega (arith, counted.few);
    small = omega (arith, counted.small, short);
    told = λ image set.
        let xs : List Run = extents_in image v f in
        let so_far = counted.told image set in
        record {
          many = omega (arith, so_far.many, within xs k r (sym (is image set)));
          own = ap (λ (n : ℕ). n + r.len) so_far.own ∙ sym (tracks_more xs k r (sym (is image set)));
        };
  }

  pub counted_none : ((image : List ℕ) → HasSet image v f → None ≡ slice_get (extents_in image v f) k) → IsCounted v f (k + 1) extents tracks
  counted_none is = record {
    few = omega (arith, counted.few);
    small = omega (arith, counted.small);
    told = λ image set.
        let xs : List Run = extents_in image v f in
        let so_far = counted.told image set in
        let over = past xs k (sym (is image set)) in
        record {
          many = omega (arith, so_far.many, over);
          own = so_far.own ∙ ap tracks_in (take_all k xs over) ∙ sym (ap tracks_in (take_all (k + 1) xs (omega (arith, over))));
        };
  }

-- a data set has at most 16 extents
few_counted : (slots : List VtocSlot) (f : F1) → length (counted_extents slots f) ≤ f.extents
unfolding counted_extents
few_counted slots f = few_taken f.extents _
  where
    few_taken : (n : ℕ) (xs : List (List ℕ)) → length (take n xs) ≤ n
    few_taken n xs = omega (arith, length-take n xs)

few_extents : (image : List ℕ) (v : Vol) (f : F1) → HasSet image v f → length (extents_in image v f) ≤ 16
unfolding has_extents
few_extents image v f set =
    let slots : List VtocSlot = slots_of_vtoc image v.geometry v.vtoc in
    let parts = and_parts (nat_le f.extents 16) (list_all (is_extent v.geometry) (counted_extents slots f)) set.extents in
    omega (arith, leb-true f.extents 16 parts.0, length-map (counted_extents slots f) (run_of_extent v.geometry), few_counted slots f)

-- so all are counted
pub counted_all : (v : Vol) (f : F1) (k extents tracks : ℕ) → 16 ≤ k → IsCounted v f k extents tracks → (image : List ℕ) → HasSet image v f → (extents ≡ length (extents_in image v f)) × (tracks ≡ tracks_in (extents_in image v f))
counted_all v f k extents tracks high counted image set =
    let few = few_extents image v f set in
    let so_far = counted.told image set in
    (omega (arith, so_far.many, few, high), so_far.own ∙ ap tracks_in (take_all k (extents_in image v f) (omega (arith, few, high))))
