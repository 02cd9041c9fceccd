-- The arrays of fields in the DSCBs of a data set that gets extents: three of a format 1, four and nine of a format 3.
use Rattle.std.proofs.Common.{◌≡◌, ℕ, List, [], ◌∷◌, length, get_or, arith}
use Rattle.ckd_image.specs.declared.header.Geometry.{Geometry}
use Rattle.vol_model.specs.declared.contents.Run.{Run}
use Rattle.dadsm_ops.specs.Extending.{added_field, added_fields}

module _ (g : Geometry) (kind count : ℕ) (runs : List Run) where
  -- those of a format 1
  pub own_fields : (xs : List (List ℕ)) (e a b c : List ℕ) → length xs ≡ 3 → a ≡ added_field g kind count runs 0 (get_or xs 0 e) → b ≡ added_field g kind count runs 1 (get_or xs 1 e) → c ≡ added_field g kind count runs 2 (get_or xs 2 e) → a ∷ b ∷ c ∷ [] ≡ added_fields g kind count runs 0 xs
  own_fields [] e a b c size e0 e1 e2 = absurd (omega (arith, size))
  own_fields (x0 ∷ []) e a b c size e0 e1 e2 = absurd (omega (arith, size))
  own_fields (x0 ∷ x1 ∷ []) e a b c size e0 e1 e2 = absurd (omega (arith, size))
  own_fields (x0 ∷ x1 ∷ x2 ∷ []) e a b c size e0 e1 e2 = λ t. e0 t ∷ e1 t ∷ e2 t ∷ []
  own_fields (x0 ∷ x1 ∷ x2 ∷ y ∷ ys) e a b c size e0 e1 e2 = absurd (omega (arith, size))

  -- the first ones of a format 3
  pub front_fields : (xs : List (List ℕ)) (e a b c d : List ℕ) → length xs ≡ 4 → a ≡ added_field g kind count runs 3 (get_or xs 0 e) → b ≡ added_field g kind count runs 4 (get_or xs 1 e) → c ≡ added_field g kind count runs 5 (get_or xs 2 e) → d ≡ added_field g kind count runs 6 (get_or xs 3 e) → a ∷ b ∷ c ∷ d ∷ [] ≡ added_fields g kind count runs 3 xs
  front_fields [] e a b c d size e0 e1 e2 e3 = absurd (omega (arith, size))
  front_fields (x0 ∷ []) e a b c d size e0 e1 e2 e3 = absurd (omega (arith, size))
  front_fields (x0 ∷ x1 ∷ []) e a b c d size e0 e1 e2 e3 = absurd (omega (arith, size))
  front_fields (x0 ∷ x1 ∷ x2 ∷ []) e a b c d size e0 e1 e2 e3 = absurd (omega (arith, size))
  front_fields (x0 ∷ x1 ∷ x2 ∷ x3 ∷ []) e a b c d size e0 e1 e2 e3 = λ t. e0 t ∷ e1 t ∷ e2 t ∷ e3 t ∷ []
  front_fields (x0 ∷ x1 ∷ x2 ∷ x3 ∷ y ∷ ys) e a b c d size e0 e1 e2 e3 = absurd (omega (arith, size))

  -- and the others
  pub back_fields : (xs : List (List ℕ)) (e a b c d h i j k l : List ℕ) → length xs ≡ 9 → a ≡ added_field g kind count runs 7 (get_or xs 0 e) → b ≡ added_field g kind count runs 8 (get_or xs 1 e) → c ≡ added_field g kind count runs 9 (get_or xs 2 e) → d ≡ added_field g kind count runs 10 (get_or xs 3 e) → h ≡ added_field g kind count runs 11 (get_or xs 4 e) → i ≡ added_field g kind count runs 12 (get_or xs 5 e) → j ≡ added_field g kind count runs 13 (get_or xs 6 e) → k ≡ added_field g kind count runs 14 (get_or xs 7 e) → l ≡ added_field g kind count runs 15 (get_or xs 8 e) → a ∷ b ∷ c ∷ d ∷ h ∷ i ∷ j ∷ k ∷ l ∷ [] ≡ added_fields g kind count runs 7 xs
  back_fields [] e a b c d h i j k l size e0 e1 e2 e3 e4 e5 e6 e7 e8 = absurd (omega (arith, size))
  back_fields (x0 ∷ []) e a b c d h i j k l size e0 e1 e2 e3 e4 e5 e6 e7 e8 = absurd (omega (arith, size))
  back_fields (x0 ∷ x1 ∷ []) e a b c d h i j k l size e0 e1 e2 e3 e4 e5 e6 e7 e8 = absurd (omega (arith, size))
  back_fields (x0 ∷ x1 ∷ x2 ∷ []) e a b c d h i j k l size e0 e1 e2 e3 e4 e5 e6 e7 e8 = absurd (omega (arith, size))
  back_fields (x0 ∷ x1 ∷ x2 ∷ x3 ∷ []) e a b c d h i j k l size e0 e1 e2 e3 e4 e5 e6 e7 e8 = absurd (omega (arith, size))
  back_fields (x0 ∷ x1 ∷ x2 ∷ x3 ∷ x4 ∷ []) e a b c d h i j k l size e0 e1 e2 e3 e4 e5 e6 e7 e8 = absurd (omega (arith, size))
  back_fields (x0 ∷ x1 ∷ x2 ∷ x3 ∷ x4 ∷ x5 ∷ []) e a b c d h i j k l size e0 e1 e2 e3 e4 e5 e6 e7 e8 = absurd (omega (arith, size))
  back_fields (x0 ∷ x1 ∷ x2 ∷ x3 ∷ x4 ∷ x5 ∷ x6 ∷ []) e a b c d h i j k l size e0 e1 e2 e3 e4 e5 e6 e7 e8 = absurd (omega (arith, size))
  back_fields (x0 ∷ x1 ∷ x2 ∷ x3 ∷ x4 ∷ x5 ∷ x6 ∷ x7 ∷ []) e a b c d h i j k l size e0 e1 e2 e3 e4 e5 e6 e7 e8 = absurd (omega (arith, size))
  back_fields (x0 ∷ x1 ∷ x2 ∷ x3 ∷ x4 ∷ x5 ∷ x6 ∷ x7 ∷ x8 ∷ []) e a b c d h i j k l size e0 e1 e2 e3 e4 e5 e6 e7 e8 = λ t. e0 t ∷ e1 t ∷ e2 t ∷ e3 t ∷ e4 t ∷ e5 t ∷ e6 t ∷ e7 t ∷ e8 t ∷ []
  back_fields (x0 ∷ x1 ∷ x2 ∷ x3 ∷ x4 ∷ x5 ∷ x6 ∷ x7 ∷ x8 ∷ y ∷ ys) e a b c d h i j k l size e0 e1 e2 e3 e4 e5 e6 e7 e8 = absurd (omega (arith, size))
