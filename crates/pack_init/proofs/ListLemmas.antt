-- Lists that are joined over a range of numbers.
use Rattle.std.proofs.Common.{◌≡◌, ◌+◌, ◌<◌, ◌≤◌, ℕ, zero, suc, List, ◌++◌, ap, ap₂, sym, refl, ◌∙◌, arith, append_assoc}
use Rattle.std.proofs.lemmas.List.{append-nil}
use Rattle.std.specs.List.{flat_map, range_with_len}

-- one number more
pub flat_map_next : {X : Type 0} (f : ℕ → List X) (a n j : ℕ) → a + n ≡ j → flat_map f (range_with_len a (suc n)) ≡ flat_map f (range_with_len a n) ++ f j
flat_map_next f a zero j e = let same : a ≡ j = omega arith in append-nil (f a) ∙ ap f same
flat_map_next {X = X} f a (suc n) j e =
    let next : a + 1 + n ≡ j = omega arith in
    ap (λ (l : List X). f a ++ l) (flat_map_next f (a + 1) n j next) ∙ sym (append_assoc (f a) (flat_map f (range_with_len (a + 1) n)) (f j))

-- one range after another
pub range_behind : {X : Type 0} (f : ℕ → List X) (a n m b : ℕ) → a + n ≡ b → flat_map f (range_with_len a (n + m)) ≡ flat_map f (range_with_len a n) ++ flat_map f (range_with_len b m)
range_behind {X = X} f a zero m b e =
    let same : a ≡ b = omega arith in
    let none : 0 + m ≡ m = omega arith in
    ap₂ (λ (x y : ℕ). flat_map f (range_with_len x y)) same none
range_behind {X = X} f a (suc n) m b e =
    let next : a + 1 + n ≡ b = omega arith in
    let count : suc n + m ≡ suc (n + m) = omega arith in
    ap (λ (k : ℕ). flat_map f (range_with_len a k)) count
    ∙ ap (λ (l : List X). f a ++ l) (range_behind f (a + 1) n m b next)
    ∙ sym (append_assoc (f a) (flat_map f (range_with_len (a + 1) n)) (flat_map f (range_with_len b m)))

-- functions that are the same on a range
pub flat_map_same : {X : Type 0} (f g : ℕ → List X) (a n : ℕ) → ((k : ℕ) → a ≤ k → k < a + n → f k ≡ g k) → flat_map f (range_with_len a n) ≡ flat_map g (range_with_len a n)
flat_map_same f g a zero same = refl
flat_map_same {X = X} f g a (suc n) same =
    ap₂ (λ (x y : List X). x ++ y) (same a (omega arith) (omega arith)) (flat_map_same f g (a + 1) n (λ k low high. same k (omega arith) (omega arith)))
