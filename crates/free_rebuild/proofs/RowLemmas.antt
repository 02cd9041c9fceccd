-- Entries in a row.
use Rattle.std.proofs.Common.{◌≡◌, ◌+◌, ◌<◌, ◌≤◌, ℕ, zero, suc, List, [], ◌∷◌, ◌++◌, map, take, length, refl, sym, ap, ◌∙◌, arith}
use Rattle.std.proofs.Math.ListN.{set}
use Rattle.std.proofs.lemmas.List.{take_all, take_more_set}
use Rattle.std.specs.List.{range_with_len}

-- so many numbers, and so many after them
pub range_split : (a n m : ℕ) → range_with_len a n ++ range_with_len (a + n) m ≡ range_with_len a (n + m)
range_split a zero m =
    let e : a + 0 ≡ a = omega arith in
    let f : 0 + m ≡ m = omega arith in
    rw (e, f) refl
range_split a (suc n) m =
    let e : a + suc n ≡ a + 1 + n = omega arith in
    let f : suc n + m ≡ suc (n + m) = omega arith in
    rw (e, f) (ap (λ (l : List ℕ). a ∷ l) (range_split (a + 1) n m))

pub map_split : {X : Type 0} (f : ℕ → X) (a n m : ℕ) → map f (range_with_len a n) ++ map f (range_with_len (a + n) m) ≡ map f (range_with_len a (n + m))
map_split f a n m = sym (map-append f (range_with_len a n) (range_with_len (a + n) m)) ∙ ap (map f) (range_split a n m)
  where
    map-append : {X Y : Type 0} (f : X → Y) (xs ys : List X) → map f (xs ++ ys) ≡ map f xs ++ map f ys
    map-append f [] ys = refl
    map-append f (x ∷ xs) ys = ap (λ l. f x ∷ l) (map-append f xs ys)

-- one row more
pub filled_more : {X : Type 0} (f : ℕ → X) (a i : ℕ) (xs : List X) (x : X) → i < length xs → take i xs ≡ map f (range_with_len a i) → x ≡ f (a + i) → take (i + 1) (set xs i x) ≡ map f (range_with_len a (i + 1))
filled_more {X = X} f a i xs x low done is =
    take_more_set xs i x low ∙ ap (λ (l : List X). l ++ x ∷ []) done ∙ ap (λ (y : X). map f (range_with_len a i) ++ y ∷ []) is ∙ map_split f a i 1

-- all rows
pub filled_all : {X : Type 0} (f : ℕ → X) (a n i : ℕ) (xs : List X) → length xs ≡ n → n ≤ i → i ≤ n → take i xs ≡ map f (range_with_len a i) → xs ≡ map f (range_with_len a n)
filled_all f a n i xs size high low done =
    let same : i ≡ n = omega (arith, high, low) in
    sym (take_all i xs (omega (arith, size, high))) ∙ done ∙ ap (λ (k : ℕ). map f (range_with_len a k)) same
