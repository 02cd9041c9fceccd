-- The first of several faults.
use Rattle.std.proofs.Common.{◌≡◌, ◌+◌, ◌<◌, ℕ, zero, suc, List, [], ◌∷◌, ◌++◌, length, get_or, Option, Some, None, refl, ap, ◌∙◌, arith}
use Rattle.std.specs.List.{cons_option, enumerate_from, filter_map, slice_get}

-- the first of two lists stands in the first of them
pub first_append-some : {X : Type 0} (xs ys : List X) (x : X) → Some x ≡ slice_get xs 0 → Some x ≡ slice_get (xs ++ ys) 0
first_append-some [] ys x e = cc
first_append-some (z ∷ xs) ys x e = e

-- or in the second, where the first is empty
pub first_append-none : {X : Type 0} (xs ys : List X) → None ≡ slice_get xs 0 → slice_get ys 0 ≡ slice_get (xs ++ ys) 0
first_append-none [] ys e = refl
first_append-none (z ∷ xs) ys e = cc

-- where there is no first, neither list has one
pub first_append-both : {X : Type 0} (xs ys : List X) → slice_get (xs ++ ys) 0 ≡ None → (slice_get xs 0 ≡ None) × (slice_get ys 0 ≡ None)
first_append-both [] ys e = (refl, e)
first_append-both (z ∷ xs) ys e = cc

pub cons_option-none : {Y : Type 0} (o : Option Y) (ys : List Y) → slice_get (cons_option o ys) 0 ≡ None → (o ≡ None) × (slice_get ys 0 ≡ None)
cons_option-none None ys e = (refl, e)
cons_option-none (Some y) ys e = cc

-- where there is none, each item has none
pub none_at : {X Y : Type 0} (h : ℕ × X → Option Y) (n : ℕ) (xs : List X) (i : ℕ) (d : X) → slice_get (filter_map h (enumerate_from n xs)) 0 ≡ None → i < length xs → h (n + i, get_or xs i d) ≡ None
none_at h n [] i d e lt = absurd (omega arith)
none_at h n (x ∷ xs) zero d e lt =
    let here : n + 0 ≡ n = omega arith in
    ap (λ k. h (k, x)) here ∙ (cons_option-none (h (n, x)) (filter_map h (enumerate_from (n + 1) xs)) e).0
none_at h n (x ∷ xs) (suc i) d e lt =
    let next : n + suc i ≡ n + 1 + i = omega arith in
    let below : i < length xs = omega arith in
    ap (λ k. h (k, get_or xs i d)) next ∙ none_at h (n + 1) xs i d (cons_option-none (h (n, x)) (filter_map h (enumerate_from (n + 1) xs)) e).1 below
