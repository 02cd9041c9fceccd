-- The first element of a list that passes a test: its place, and what is left where it is taken out.
use Rattle.std.proofs.Common.{◌≡◌, ◌<◌, ℕ, zero, suc, Bool, true, false, cond, not, List, [], ◌∷◌, get_or, Some, None, refl, sym, ap, ◌∙◌, arith}
use Rattle.std.specs.List.{filter, find, position, remove}
use Rattle.std.specs.Prelude.{slice_get}
use Rattle.std.proofs.lemmas.List.Quantifiers.{position-Some}
use Rattle.std.proofs.lemmas.Option.{slice_get-get_or, slice_get_within}
use Rattle.pack_machine.proofs.ListPlaces.{none_passes}

module _ {X : Type 0} (p : X → Bool) where
  -- it stands at its place
  pub found_at : (xs : List X) (at : ℕ) → position p xs ≡ Some at → (x : X) × (slice_get xs at ≡ Some x) × (p x ≡ true)
  found_at [] at is = absurd cc
  found_at (y ∷ xs) at is =
      let found = position-Some p (y ∷ xs) at y is in
      (get_or (y ∷ xs) at y, slice_get-get_or (y ∷ xs) at y found.0, found.1)

  pub find_place : (xs : List X) (x : X) → find p xs ≡ Some x → (n : ℕ) × (slice_get xs n ≡ Some x) × (p x ≡ true)
  find_place [] x is = absurd cc
  find_place (y ∷ xs) x is = by (p y) refl (find_place xs x) is
    where
      by : (b : Bool) → p y ≡ b → (find p xs ≡ Some x → (n : ℕ) × (slice_get xs n ≡ Some x) × (p x ≡ true)) → cond b (Some y) (find p xs) ≡ Some x → (n : ℕ) × (slice_get (y ∷ xs) n ≡ Some x) × (p x ≡ true)
      by true test rest same = let this : y ≡ x = cc in (0, same, ap p (sym this) ∙ test)
      by false test rest same = let found = rest same in (suc found.0, found.1, found.2)

  first_is : (xs : List X) (n : ℕ) (x : X) → slice_get xs n ≡ Some x → p x ≡ true → ((k : ℕ) (y : X) → k < n → slice_get xs k ≡ Some y → p y ≡ false) → find p xs ≡ Some x
  first_is [] n x at is before = absurd cc
  first_is (y ∷ xs) zero x at is before =
      let same : y ≡ x = cc in
      ap (λ (b : Bool). cond b (Some y) (find p xs)) (ap p same ∙ is) ∙ ap (λ (z : X). Some z) same
  first_is (y ∷ xs) (suc n) x at is before =
      ap (λ (b : Bool). cond b (Some y) (find p xs)) (before 0 y (omega arith) refl)
      ∙ first_is xs n x at is (λ k z low there. before (suc k) z (omega (arith, low)) there)

  -- what stands at its place is found
  pub found_first : (xs : List X) (at : ℕ) (x : X) → position p xs ≡ Some at → slice_get xs at ≡ Some x → find p xs ≡ Some x
  found_first xs at x is there =
      let found = position-Some p xs at x is in
      let this : get_or xs at x ≡ x = same_element (sym (slice_get-get_or xs at x found.0) ∙ there) in
      first_is xs at x there (ap p (sym this) ∙ found.1) (λ k y low here.
      let before = position-Some p xs at y is in
      ap p (same_element (sym here ∙ slice_get-get_or xs k y (slice_get_within xs k y here))) ∙ before.2 k low)
    where
      same_element : {a b : X} → Some a ≡ Some b → a ≡ b
      same_element same = cc

  -- without it the others stay
  left : (xs : List X) (n : ℕ) (x : X) → slice_get xs n ≡ Some x → p x ≡ true → filter (λ (y : X). not (p y)) (remove xs n) ≡ filter (λ (y : X). not (p y)) xs
  left [] n x at is = absurd cc
  left (y ∷ xs) zero x at is =
      let same : y ≡ x = cc in
      sym (ap (λ (b : Bool). cond (not b) (y ∷ filter (λ (z : X). not (p z)) xs) (filter (λ (z : X). not (p z)) xs)) (ap p same ∙ is))
  left (y ∷ xs) (suc n) x at is = ap (λ (zs : List X). cond (not (p y)) (y ∷ zs) zs) (left xs n x at is)

  pub others_left : (xs : List X) (at : ℕ) → position p xs ≡ Some at → filter (λ (y : X). not (p y)) (remove xs at) ≡ filter (λ (y : X). not (p y)) xs
  others_left xs at is = let found = found_at xs at is in left xs at found.0 found.1 found.2

  -- where none passes
  none_is : (xs : List X) → ((k : ℕ) (x : X) → slice_get xs k ≡ Some x → p x ≡ false) → find p xs ≡ None
  none_is [] each = refl
  none_is (y ∷ xs) each = ap (λ (b : Bool). cond b (Some y) (find p xs)) (each 0 y refl) ∙ none_is xs (λ k x there. each (suc k) x there)

  all_left : (xs : List X) → ((k : ℕ) (x : X) → slice_get xs k ≡ Some x → p x ≡ false) → filter (λ (y : X). not (p y)) xs ≡ xs
  all_left [] each = refl
  all_left (y ∷ xs) each =
      ap (λ (b : Bool). cond (not b) (y ∷ filter (λ (z : X). not (p z)) xs) (filter (λ (z : X). not (p z)) xs)) (each 0 y refl)
      ∙ ap (λ (zs : List X). y ∷ zs) (all_left xs (λ k x there. each (suc k) x there))

  pub found_none : (xs : List X) → position p xs ≡ None → find p xs ≡ None
  found_none xs none = none_is xs (λ k x there. none_passes p xs k x none there)

  pub others_all : (xs : List X) → position p xs ≡ None → filter (λ (y : X). not (p y)) xs ≡ xs
  others_all xs none = all_left xs (λ k x there. none_passes p xs k x none there)
