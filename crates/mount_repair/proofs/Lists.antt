-- Lists to which one is put, and their first elements.
use Rattle.std.proofs.Common.{◌≡◌, ◌≤◌, ◌+◌, inl, inr, ℕ, zero, suc, List, [], ◌∷◌, ◌++◌, length, Some, refl, ap, ◌∙◌, arith}
use Rattle.std.specs.Prelude.{◌⊎◌, slice_get, take}

-- an element of a list to which one was put is one of before, or the last
pub of_push : {X : Type 0} (xs : List X) (x : X) (k : ℕ) (y : X) → slice_get (xs ++ x ∷ []) k ≡ Some y → (slice_get xs k ≡ Some y) ⊎ ((k ≡ length xs) × (x ≡ y))
of_push [] x zero y at = inr (refl, cc)
of_push [] x (suc k) y at = absurd cc
of_push (z ∷ xs) x zero y at = inl at
of_push (z ∷ xs) x (suc k) y at = elim (of_push xs x k y at) [ inl was ↦ inl was | inr now ↦ inr (ap suc now.0, now.1) ]

pub at_push : {X : Type 0} (xs : List X) (x : X) → ((k : ℕ) (y : X) → slice_get xs k ≡ Some y → slice_get (xs ++ x ∷ []) k ≡ Some y) × (slice_get (xs ++ x ∷ []) (length xs) ≡ Some x)
at_push {X = X} xs x = (before xs, last xs)
  where
    before : (ys : List X) (k : ℕ) (y : X) → slice_get ys k ≡ Some y → slice_get (ys ++ x ∷ []) k ≡ Some y
    before [] k y at = absurd cc
    before (z ∷ ys) zero y at = at
    before (z ∷ ys) (suc k) y at = before ys k y at

    last : (ys : List X) → slice_get (ys ++ x ∷ []) (length ys) ≡ Some x
    last [] = refl
    last (y ∷ ys) = last ys

pub take_push : {X : Type 0} (xs : List X) (k : ℕ) (x : X) → slice_get xs k ≡ Some x → take (k + 1) xs ≡ take k xs ++ x ∷ []
take_push [] k x at = absurd cc
take_push (y ∷ xs) zero x at = let same : y ≡ x = cc in ap (λ z. z ∷ []) same
take_push (y ∷ xs) (suc k) x at =
    let next : suc k + 1 ≡ suc (k + 1) = omega arith in
    ap (λ (n : ℕ). take n (y ∷ xs)) next ∙ ap (λ zs. y ∷ zs) (take_push xs k x at)

pub take_all : {X : Type 0} (xs : List X) (k : ℕ) → length xs ≤ k → take k xs ≡ xs
take_all [] zero low = refl
take_all [] (suc k) low = refl
take_all (x ∷ xs) zero low = absurd (omega (arith, low))
take_all {X = X} (x ∷ xs) (suc k) low = ap (λ (l : List X). x ∷ l) (take_all xs k (omega (arith, low)))
