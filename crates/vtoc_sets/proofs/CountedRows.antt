-- The extents that a data set counts, one by one.
use Rattle.std.proofs.Common.{◌≡◌, ◌<◌, ◌≤◌, ◌-◌, ℕ, zero, suc, Bool, true, cond, List, [], ◌∷◌, ◌++◌, length, get_or, map, take, Option, Some, None, refl, sym, ap, ◌∙◌, arith}
use Rattle.std.specs.Prelude.{nat_le, slice_get}
use Rattle.std.specs.List.{find, list_all}
use Rattle.std.specs.Option.{option_map, option_map_or}
use Rattle.std.proofs.lemmas.Bool.{and_parts, lt-ltb}
use Rattle.std.proofs.lemmas.Option.{slice_get-get_or, slice_get-map}
use Rattle.ckd_image.specs.declared.header.Geometry.{Geometry}
use Rattle.dscb_codec.specs.declared.F1.{F1}
use Rattle.pack_spec.specs.declared.slot.VtocSlot.{VtocSlot}
use Rattle.pack_spec.specs.Rules.{counted_extents, further_extents, has_extents, is_chained, is_led_to}
use Rattle.pack_spec.specs.Vtoc.{is_extent, run_of_extent}
use Rattle.vol_model.specs.declared.contents.Run.{Run}

module _ {X : Type 0} where
  taken_within : (n k : ℕ) (xs : List X) → k < n → slice_get (take n xs) k ≡ slice_get xs k
  taken_within zero k xs low = absurd (omega (arith, low))
  taken_within (suc n) k [] low = refl
  taken_within (suc n) zero (x ∷ xs) low = refl
  taken_within (suc n) (suc k) (x ∷ xs) low = taken_within n k xs (omega (arith, low))

  taken_past : (n k : ℕ) (xs : List X) → n ≤ k → slice_get (take n xs) k ≡ None
  taken_past zero k xs high = refl
  taken_past (suc n) k [] high = refl
  taken_past (suc n) zero (x ∷ xs) high = absurd (omega (arith, high))
  taken_past (suc n) (suc k) (x ∷ xs) high = taken_past n k xs (omega (arith, high))

  get_front : (xs ys : List X) (k : ℕ) → k < length xs → slice_get (xs ++ ys) k ≡ slice_get xs k
  get_front [] ys k low = absurd (omega (arith, low))
  get_front (x ∷ xs) ys zero low = refl
  get_front (x ∷ xs) ys (suc k) low = get_front xs ys k (omega (arith, low))

  get_back : (xs ys : List X) (n k : ℕ) → length xs ≡ n → n ≤ k → slice_get (xs ++ ys) k ≡ slice_get ys (k - n)
  get_back [] ys n k long high = let same : k ≡ k - n = omega (arith, long) in ap (slice_get ys) same
  get_back (x ∷ xs) ys n zero long high = absurd (omega (arith, long, high))
  get_back (x ∷ xs) ys n (suc k) long high =
      let same : k - length xs ≡ suc k - n = omega (arith, long) in
      get_back xs ys (length xs) k refl (omega (arith, long, high)) ∙ ap (slice_get ys) same

module _ (slots : List VtocSlot) (f : F1) (k : ℕ) where
  -- past its count there is none
  pub row_past : f.extents ≤ k → None ≡ slice_get (counted_extents slots f) k
  unfolding counted_extents
  row_past high = sym (taken_past f.extents k _ high)

  -- the first three stand in the format 1
  pub row_own : (d : List ℕ) → k < f.extents → k < length f.runs → Some (get_or f.runs k d) ≡ slice_get (counted_extents slots f) k
  unfolding counted_extents
  row_own d low own = sym (taken_within f.extents k _ low ∙ get_front f.runs _ k own ∙ slice_get-get_or f.runs k d own)

  -- the others in its format 3
  pub row_further : (rows : List (List ℕ)) → k < f.extents → 3 ≤ k → length f.runs ≡ 3 → rows ≡ option_map_or (λ (s : VtocSlot). further_extents s.content) (find (is_led_to f) slots) [] → slice_get rows (k - 3) ≡ slice_get (counted_extents slots f) k
  unfolding counted_extents
  row_further rows low high own are =
      let chained : is_chained f ≡ true = lt-ltb 3 f.extents (omega (arith, low, high)) in
      ap (λ (l : List (List ℕ)). slice_get l (k - 3)) are
      ∙ sym (taken_within f.extents k _ low
      ∙ get_back f.runs _ 3 k own high
      ∙ ap (λ (b : Bool). slice_get (option_map_or (λ (s : VtocSlot). further_extents s.content) (cond b (find (is_led_to f) slots) None) []) (k - 3)) chained)

-- each of good extents is one
each_passes : {X : Type 0} (p : X → Bool) (xs : List X) (k : ℕ) (x : X) → list_all p xs ≡ true → slice_get xs k ≡ Some x → p x ≡ true
each_passes p [] k x all is = cc
each_passes p (y ∷ xs) zero x all is = let same : y ≡ x = cc in ap p (sym same) ∙ (and_parts (p y) (list_all p xs) all).0
each_passes p (y ∷ xs) (suc k) x all is = each_passes p xs k x (and_parts (p y) (list_all p xs) all).1 is

-- The run of the k-th extent, if it is there.
pub run_is : (g : Geometry) (slots : List VtocSlot) (f : F1) (k : ℕ) (row : List ℕ) (r : Option Run) → has_extents g slots f ≡ true → Some row ≡ slice_get (counted_extents slots f) k → (is_extent g row ≡ true → r ≡ Some (run_of_extent g row)) → r ≡ slice_get (map (run_of_extent g) (counted_extents slots f)) k
unfolding has_extents
run_is g slots f k row r good here run =
    let parts = and_parts (nat_le f.extents 16) (list_all (is_extent g) (counted_extents slots f)) good in
    run (each_passes (is_extent g) (counted_extents slots f) k row parts.1 (sym here))
    ∙ ap (option_map (run_of_extent g)) here
    ∙ sym (slice_get-map (run_of_extent g) (counted_extents slots f) k)
