-- The fields of the DSCBs of a data set that gets extents: those that it had, and the added ones after them.
use Rattle.std.proofs.Common.{◌≡◌, ◌+◌, ◌-◌, ◌≤◌, ◌<◌, ℕ, zero, suc, Bool, true, false, cond, List, [], ◌∷◌, ◌++◌, length, take, Option, refl, sym, ap, ap₂, ◌∙◌, arith}
use Rattle.std.specs.Prelude.{nat_lt, slice_get}
use Rattle.std.specs.Option.{option_map_or}
use Rattle.std.proofs.lemmas.Bool.Decides.{nat_tests}
use Rattle.ckd_image.specs.declared.header.Geometry.{Geometry}
use Rattle.vol_model.specs.declared.contents.Run.{Run}
use Rattle.dadsm_ops.specs.Allocating.{extent_bytes}
use Rattle.dadsm_ops.specs.Extending.{added_extents, added_field, added_fields}
use Rattle.dadsm_ops.proofs.NewExtents.{numbered}

less : (a b : ℕ) → a < b → nat_lt a b ≡ true
less a b l = grind (arith, nat_tests)

not_less : (a b : ℕ) → b ≤ a → nat_lt a b ≡ false
not_less a b l = grind (arith, nat_tests)

take_none : {X : Type 0} (xs : List X) → take 0 xs ≡ []
take_none [] = refl
take_none (x ∷ xs) = refl

-- the added extents, numbered on
pub added_numbered : (g : Geometry) (kind k : ℕ) (rs : List Run) → added_extents g kind k rs ≡ numbered g kind k rs
added_numbered g kind k [] = refl
added_numbered g kind k (r ∷ rs) = ap (λ (l : List (List ℕ)). extent_bytes g kind k r ∷ l) (added_numbered g kind (k + 1) rs)

module _ (g : Geometry) (kind count : ℕ) (runs : List Run) where
  -- a field for an extent that the set had
  low_field : (k : ℕ) (x : List ℕ) → k < count → added_field g kind count runs k x ≡ x
  low_field k x low = ap (λ (b : Bool). cond b x (option_map_or (extent_bytes g kind k) (slice_get runs (k - count)) x)) (less k count low)

  -- the fields of two lists
  pub fields_append : (first : ℕ) (xs ys : List (List ℕ)) → added_fields g kind count runs first (xs ++ ys) ≡ added_fields g kind count runs first xs ++ added_fields g kind count runs (first + length xs) ys
  fields_append first [] ys = let here : first ≡ first + 0 = omega arith in ap (λ (n : ℕ). added_fields g kind count runs n ys) here
  fields_append first (x ∷ xs) ys =
      let next : first + 1 + length xs ≡ first + suc (length xs) = omega arith in
      ap (λ (l : List (List ℕ)). added_field g kind count runs first x ∷ l)
      (fields_append (first + 1) xs ys ∙ ap (λ (n : ℕ). added_fields g kind count runs (first + 1) xs ++ added_fields g kind count runs n ys) next)

  -- as many
  pub fields_length : (first : ℕ) (xs : List (List ℕ)) → length (added_fields g kind count runs first xs) ≡ length xs
  fields_length first [] = refl
  fields_length first (x ∷ xs) = ap suc (fields_length (first + 1) xs)

  -- the fields for the extents that the set had are the same
  pub low_fields : (n first : ℕ) (xs : List (List ℕ)) → first + n ≤ count → take n (added_fields g kind count runs first xs) ≡ take n xs
  low_fields n first [] low = refl
  low_fields zero first (x ∷ xs) low = refl
  low_fields (suc n) first (x ∷ xs) low =
      ap₂ (λ (a : List ℕ) (l : List (List ℕ)). a ∷ l) (low_field first x (omega (arith, low))) (low_fields n (first + 1) xs (omega (arith, low)))

  -- those after them are the added extents
  behind : (rs : List Run) (j k : ℕ) (xs : List (List ℕ)) → k ≡ count + j → ((i : ℕ) → slice_get runs (j + i) ≡ slice_get rs i) → length rs ≤ length xs → take (length rs) (added_fields g kind count runs k xs) ≡ added_extents g kind k rs
  behind [] j k xs is at fits = take_none (added_fields g kind count runs k xs)
  behind (r ∷ rs) j k [] is at fits = absurd (omega (arith, fits))
  behind (r ∷ rs) j k (x ∷ xs) is at fits =
      let number : k - count ≡ j + 0 = omega (arith, is) in
      let field : added_field g kind count runs k x ≡ extent_bytes g kind k r =
      ap (λ (b : Bool). cond b x (option_map_or (extent_bytes g kind k) (slice_get runs (k - count)) x)) (not_less k count (omega (arith, is)))
      ∙ ap (λ (o : Option Run). option_map_or (extent_bytes g kind k) o x) (ap (slice_get runs) number ∙ at 0) in
      ap₂ (λ (a : List ℕ) (l : List (List ℕ)). a ∷ l) field
      (behind rs (j + 1) (k + 1) xs (omega (arith, is)) (λ i. let next : j + 1 + i ≡ j + suc i = omega arith in ap (slice_get runs) next ∙ at (suc i)) (omega (arith, fits)))

  -- So they are the extents that the set had, and the added ones.
  pub fields_taken : (n first : ℕ) (xs : List (List ℕ)) → first + n ≡ count → n + length runs ≤ length xs → take (n + length runs) (added_fields g kind count runs first xs) ≡ take n xs ++ added_extents g kind count runs
  fields_taken zero first xs is fits =
      let here : first ≡ count = omega (arith, is) in
      let size : 0 + length runs ≡ length runs = omega arith in
      let none : count ≡ count + 0 = omega arith in
      ap (λ (m : ℕ). take m (added_fields g kind count runs first xs)) size
      ∙ ap (λ (m : ℕ). take (length runs) (added_fields g kind count runs m xs)) here
      ∙ behind runs 0 count xs none (λ i. let same : 0 + i ≡ i = omega arith in ap (slice_get runs) same) (omega (arith, fits))
      ∙ ap (λ (l : List (List ℕ)). l ++ added_extents g kind count runs) (sym (take_none xs))
  fields_taken (suc n) first [] is fits = absurd (omega (arith, fits))
  fields_taken (suc n) first (x ∷ xs) is fits =
      let size : suc n + length runs ≡ suc (n + length runs) = omega arith in
      ap (λ (m : ℕ). take m (added_field g kind count runs first x ∷ added_fields g kind count runs (first + 1) xs)) size
      ∙ ap₂ (λ (a : List ℕ) (l : List (List ℕ)). a ∷ l) (low_field first x (omega (arith, is)))
      (fields_taken n (first + 1) xs (omega (arith, is)) (omega (arith, fits)))

  -- fields that stand after others, as far as the set had their extents
  pub behind_own : (n first : ℕ) (own xs : List (List ℕ)) → first + n ≤ count → take n (own ++ added_fields g kind count runs (first + length own) xs) ≡ take n (own ++ xs)
  behind_own n first [] xs low = low_fields n (first + 0) xs (omega (arith, low))
  behind_own zero first (o ∷ own) xs low = refl
  behind_own (suc n) first (o ∷ own) xs low =
      let next : first + suc (length own) ≡ first + 1 + length own = omega arith in
      ap (λ (l : List (List ℕ)). o ∷ l) (ap (λ (m : ℕ). take n (own ++ added_fields g kind count runs m xs)) next ∙ behind_own n (first + 1) own xs (omega (arith, low)))
