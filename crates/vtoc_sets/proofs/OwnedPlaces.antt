-- The tracks of a data set, extent by extent.
use Rattle.std.proofs.Common.{◌≡◌, ◌<◌, ◌≤◌, ◌+◌, ◌-◌, ℕ, zero, suc, List, [], ◌∷◌, ◌++◌, length, drop, Option, Some, None, refl, sym, ap, ◌∙◌, subst, true, map, take, arith, length-take}
use Rattle.std.specs.Prelude.{nat_le, slice_get}
use Rattle.std.specs.List.{list_all, range_with_len}
use Rattle.std.proofs.lemmas.Bool.{and_parts, leb-true}
use Rattle.std.proofs.lemmas.List.{length-map}
use Rattle.ckd_image.specs.declared.header.Geometry.{Geometry}
use Rattle.dscb_codec.specs.declared.F1.{F1}
use Rattle.pack_spec.specs.declared.slot.VtocSlot.{VtocSlot}
use Rattle.pack_spec.specs.Blocks.{owned_tracks}
use Rattle.pack_spec.specs.Label.{tracks_of}
use Rattle.pack_spec.specs.Rules.{counted_extents, has_extents}
use Rattle.pack_spec.specs.Slots.{slots_of_vtoc}
use Rattle.pack_spec.specs.Vtoc.{is_extent, run_of_extent}
use Rattle.vol_model.specs.declared.contents.Run.{Run}
use Rattle.vol_model.specs.Lawful.{IsOnPack}
use Rattle.vtoc_index.proofs.GoodSets.{on_pack}
use Rattle.vtoc_index.specs.declared.vol.Vol.{Vol}
use Rattle.vtoc_sets.specs.Sets.{HasSet, extents_in, owned_in}

-- of the tracks of a run, and others after them, the k-th
get_front : (a n : ℕ) (ys : List ℕ) (k : ℕ) → k < n → slice_get (range_with_len a n ++ ys) k ≡ Some (a + k)
get_front a zero ys k low = absurd (omega (arith, low))
get_front a (suc n) ys zero low = let same : a ≡ a + zero = omega arith in ap Some same
get_front a (suc n) ys (suc k) low =
    let same : a + 1 + k ≡ a + suc k = omega arith in get_front (a + 1) n ys k (omega (arith, low)) ∙ ap Some same

get_behind : (a n : ℕ) (ys : List ℕ) (k : ℕ) → n ≤ k → slice_get (range_with_len a n ++ ys) k ≡ slice_get ys (k - n)
get_behind a zero ys k high = let same : k ≡ k - zero = omega arith in ap (slice_get ys) same
get_behind a (suc n) ys zero high = absurd (omega (arith, high))
get_behind a (suc n) ys (suc k) high =
    let same : k - n ≡ suc k - suc n = omega arith in get_behind (a + 1) n ys k (omega (arith, high)) ∙ ap (slice_get ys) same

-- from a place on, the element there and those after it; or none
drop_there : {X : Type 0} (xs : List X) (i : ℕ) (x : X) → slice_get xs i ≡ Some x → drop i xs ≡ x ∷ drop (i + 1) xs
drop_there [] i x is = cc
drop_there (y ∷ xs) zero x is = let same : y ≡ x = cc in ap (λ y. y ∷ xs) same
drop_there (y ∷ xs) (suc i) x is =
    let next : suc i + 1 ≡ suc (i + 1) = omega arith in
    drop_there xs i x is ∙ ap (λ (n : ℕ). x ∷ drop n (y ∷ xs)) (sym next)

drop_none : {X : Type 0} (xs : List X) (i : ℕ) → slice_get xs i ≡ None → drop i xs ≡ []
drop_none [] zero is = refl
drop_none [] (suc i) is = refl
drop_none (y ∷ xs) zero is = cc
drop_none (y ∷ xs) (suc i) is = drop_none xs i is

drop_past : {X : Type 0} (xs : List X) (i : ℕ) → length xs ≤ i → drop i xs ≡ []
drop_past [] zero high = refl
drop_past [] (suc i) high = refl
drop_past (y ∷ xs) zero high = absurd (omega (arith, high))
drop_past (y ∷ xs) (suc i) high = drop_past xs i (omega (arith, high))

module _ (xs : List Run) (i left : ℕ) where
  here : (r : Run) → slice_get xs i ≡ Some r → left < r.len → slice_get (owned_tracks (drop i xs)) left ≡ Some (r.start + left)
  unfolding owned_tracks
  here r is low = ap (λ (l : List Run). slice_get (owned_tracks l) left) (drop_there xs i r is) ∙ get_front r.start r.len (owned_tracks (drop (i + 1) xs)) left low

  later : (r : Run) → slice_get xs i ≡ Some r → r.len ≤ left → slice_get (owned_tracks (drop i xs)) left ≡ slice_get (owned_tracks (drop (i + 1) xs)) (left - r.len)
  unfolding owned_tracks
  later r is high = ap (λ (l : List Run). slice_get (owned_tracks l) left) (drop_there xs i r is) ∙ get_behind r.start r.len (owned_tracks (drop (i + 1) xs)) left high

  nowhere : drop i xs ≡ [] → slice_get (owned_tracks (drop i xs)) left ≡ None
  unfolding owned_tracks
  nowhere none = ap (λ (l : List Run). slice_get (owned_tracks l) left) none

-- The k-th track of a data set is one of those that its extents from one on have, as so many stand before it.
abbrev pub AreLeft : Vol → F1 → ℕ → ℕ → ℕ → Type 0
AreLeft v f k i left = (image : List ℕ) → HasSet image v f → slice_get (owned_in image v f) k ≡ slice_get (owned_tracks (drop i (extents_in image v f))) left

pub left_all : (v : Vol) (f : F1) (k : ℕ) → AreLeft v f k 0 k
left_all v f k image set = refl

-- the extents lie on the pack, and are 16 at most
each_on_pack : (g : Geometry) (rows : List (List ℕ)) (k : ℕ) (r : Run) → list_all (is_extent g) rows ≡ true → slice_get (map (run_of_extent g) rows) k ≡ Some r → IsOnPack g r
each_on_pack g [] k r all is = cc
each_on_pack g (x ∷ rows) zero r all is =
    let same : run_of_extent g x ≡ r = cc in
    subst (IsOnPack g) same (on_pack g x (and_parts (is_extent g x) (list_all (is_extent g) rows) all).0)
each_on_pack g (x ∷ rows) (suc k) r all is = each_on_pack g rows k r (and_parts (is_extent g x) (list_all (is_extent g) rows) all).1 is

few_counted : (slots : List VtocSlot) (f : F1) → length (counted_extents slots f) ≤ f.extents
unfolding counted_extents
few_counted slots f = few_taken f.extents _
  where
    few_taken : (n : ℕ) (xs : List (List ℕ)) → length (take n xs) ≤ n
    few_taken n xs = omega (arith, length-take n xs)

module _ (image : List ℕ) (v : Vol) (f : F1) (set : HasSet image v f) where
  abbrev slots : List VtocSlot
  slots = slots_of_vtoc image v.geometry v.vtoc

  pub extent_on_pack : (k : ℕ) (r : Run) → slice_get (extents_in image v f) k ≡ Some r → IsOnPack v.geometry r
  unfolding has_extents
  extent_on_pack k r is = each_on_pack v.geometry (counted_extents slots f) k r (and_parts (nat_le f.extents 16) (list_all (is_extent v.geometry) (counted_extents slots f)) set.extents).1 is

  pub few_extents : length (extents_in image v f) ≤ 16
  unfolding has_extents
  few_extents =
      let parts = and_parts (nat_le f.extents 16) (list_all (is_extent v.geometry) (counted_extents slots f)) set.extents in
      omega (arith, leb-true f.extents 16 parts.0, length-map (counted_extents slots f) (run_of_extent v.geometry), few_counted slots f)

-- at an extent
module _ (v : Vol) (f : F1) (k i left : ℕ) (are : AreLeft v f k i left) where
  pub left_here : (r : Run) (track : Option ℕ) → ((image : List ℕ) → HasSet image v f → Some r ≡ slice_get (extents_in image v f) i) → left < r.len
      → (r.start + left < tracks_of v.geometry → track ≡ Some (r.start + left)) → (image : List ℕ) → HasSet image v f → track ≡ slice_get (owned_in image v f) k
  left_here r track is low gives image set =
      let on = extent_on_pack image v f set i r (sym (is image set)) in
      gives (omega (arith, on.1, low)) ∙ sym (are image set ∙ here (extents_in image v f) i left r (sym (is image set)) low)

  pub left_later : (r : Run) → ((image : List ℕ) → HasSet image v f → Some r ≡ slice_get (extents_in image v f) i) → r.len ≤ left → AreLeft v f k (i + 1) (left - r.len)
  left_later r is high image set = are image set ∙ later (extents_in image v f) i left r (sym (is image set)) high

  pub left_none : (image : List ℕ) → HasSet image v f → None ≡ slice_get (extents_in image v f) i → None ≡ slice_get (owned_in image v f) k
  left_none image set is = sym (are image set ∙ nowhere (extents_in image v f) i left (drop_none (extents_in image v f) i (sym is)))

  pub left_end : 16 ≤ i → (image : List ℕ) → HasSet image v f → None ≡ slice_get (owned_in image v f) k
  left_end high image set = sym (are image set ∙ nowhere (extents_in image v f) i left (drop_past (extents_in image v f) i (omega (arith, high, few_extents image v f set))))
