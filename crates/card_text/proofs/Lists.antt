-- What a list is cut into at the first element that passes a test.
use Rattle.std.proofs.Common.{◌≡◌, ◌∙◌, ap, sym, refl, subst, ℕ, ◌+◌, ◌-◌, ◌<◌, ◌≤◌, Bool, true, false, cond, List, [], ◌∷◌, length, take, drop, Some, None, position, arith}
use Rattle.std.specs.List.{position_or_len, position_from, slice_split, before_first, onto_first}
use Rattle.std.proofs.lemmas.List.{take_rest, take_all, drop_all}
use Rattle.std.proofs.lemmas.List.Splits.{slice_split_first}
use Rattle.std.proofs.lemmas.Iterator.Adapters.{position_from-zero}
use Rattle.std.proofs.lemmas.Bool.Decides.{nat_tests}

-- the place of the first element that passes
pub position_is : {X : Type 0} (p : X → Bool) (xs : List X) (i : ℕ) → position p xs ≡ Some i → (position_or_len p xs ≡ i) × (i < length xs)
position_is p xs i e = grind (arith, nat_tests, position_from-zero p xs)

pub position_none : {X : Type 0} (p : X → Bool) (xs : List X) → position p xs ≡ None → length xs ≤ position_or_len p xs
position_none p xs e = grind (arith, nat_tests, position_from-zero p xs)

pub before_there : {X : Type 0} (p : X → Bool) (xs : List X) (i : ℕ) → position p xs ≡ Some i → take i xs ≡ before_first p xs
before_there p xs i e = ap (λ k. take k xs) (sym (position_is p xs i e).0)

pub before_nowhere : {X : Type 0} (p : X → Bool) (xs : List X) → position p xs ≡ None → xs ≡ before_first p xs
before_nowhere p xs e = sym (take_all (position_or_len p xs) xs (position_none p xs e))

pub from_there : {X : Type 0} (p : X → Bool) (xs : List X) (i : ℕ) → position p xs ≡ Some i
    → take (length xs - i) (drop i xs) ≡ drop (position_or_len p xs) xs
from_there p xs i e = take_rest xs i ∙ ap (λ k. drop k xs) (sym (position_is p xs i e).0)

pub from_nowhere : {X : Type 0} (p : X → Bool) (xs : List X) → position p xs ≡ None → [] ≡ drop (position_or_len p xs) xs
from_nowhere p xs e = sym (drop_all (position_or_len p xs) xs (position_none p xs e))

-- up to the first element that passes, and what is after it
pub split_there : {X : Type 0} (p : X → Bool) (xs : List X) (i : ℕ) → position p xs ≡ Some i
    → slice_split p xs ≡ take i xs ∷ slice_split p (take (length xs - (i + 1)) (drop (i + 1) xs))
split_there p [] i e = cc
split_there p (x ∷ xs) i e =
    let at = position_is p (x ∷ xs) i e in
    rw take_rest (subst (λ k. slice_split p (x ∷ xs) ≡ take k (x ∷ xs) ∷ slice_split p (drop (k + 1) (x ∷ xs))) at.0 (slice_split_first p (x ∷ xs) x (rw at.0 at.1)))

split_nowhere_from : {X : Type 0} (p : X → Bool) (k : ℕ) (xs : List X) → position_from p k xs ≡ None → slice_split p xs ≡ xs ∷ []
split_nowhere_from p k [] e = refl
split_nowhere_from p k (x ∷ xs) e =
    (elim (p x) as (λ b. cond b (Some k) (position_from p (k + 1) xs) ≡ None → cond b ([] ∷ slice_split p xs) (onto_first x (slice_split p xs)) ≡ (x ∷ xs) ∷ [])
    [ true ↦ λ f. cc | false ↦ λ f. ap (onto_first x) (split_nowhere_from p (k + 1) xs f) ]) e

-- where none passes there is one part
pub split_nowhere : {X : Type 0} (p : X → Bool) (xs : List X) → position p xs ≡ None → slice_split p xs ≡ xs ∷ []
split_nowhere p xs e = split_nowhere_from p 0 xs (sym (position_from-zero p xs) ∙ e)

-- there is always a first part
pub parts_of_any : {X : Type 0} (p : X → Bool) (xs : List X) → (first : List X) × (others : List (List X)) × (slice_split p xs ≡ first ∷ others)
parts_of_any p [] = ([], [], refl)
parts_of_any {X} p (x ∷ xs) =
    let rest = parts_of_any p xs in
    elim (p x) as (λ b. (first : List X) × (others : List (List X)) × (cond b ([] ∷ slice_split p xs) (onto_first x (slice_split p xs)) ≡ first ∷ others))
    [ true ↦ ([], slice_split p xs, refl) | false ↦ (x ∷ rest.0, rest.1, ap (onto_first x) rest.2) ]

pub ruleset cuts = (split_there, split_nowhere, before_there, before_nowhere, from_there, from_nowhere)
