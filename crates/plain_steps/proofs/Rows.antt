-- A function of each number of a row, one after the other, and the numbers that pass a test.
use Rattle.std.proofs.Common.{◌≡◌, ◌+◌, ℕ, zero, suc, Bool, true, false, List, [], ◌∷◌, ◌++◌, refl, sym, ap, ◌∙◌, append_assoc, add-one, arith}
use Rattle.std.proofs.lemmas.List.{append-nil}
use Rattle.std.proofs.lemmas.List.Elements.{filter-append}
use Rattle.std.specs.List.{flat_map, range_with_len}
use Rattle.std.specs.Prelude.{filter, if◌then◌else◌}

-- a row from any number that is longer by one
flat_map_from : {X : Type 0} (f : ℕ → List X) (a n : ℕ) → flat_map f (range_with_len a (suc n)) ≡ flat_map f (range_with_len a n) ++ f (a + n)
flat_map_from f a zero =
    let same : a ≡ a + 0 = omega arith in
    append-nil (f a) ∙ ap f same
flat_map_from f a (suc n) =
    let moved : a + 1 + n ≡ a + suc n = omega arith in
    ap (λ l. f a ++ l) (flat_map_from f (a + 1) n)
    ∙ sym (append_assoc (f a) (flat_map f (range_with_len (a + 1) n)) (f (a + 1 + n)))
    ∙ ap (λ k. (f a ++ flat_map f (range_with_len (a + 1) n)) ++ f k) moved

-- a row from 0 that is longer by one
pub flat_map_next : {X : Type 0} (f : ℕ → List X) (n : ℕ) → flat_map f (range_with_len 0 (n + 1)) ≡ flat_map f (range_with_len 0 n) ++ f n
flat_map_next f n =
    let longer : n + 1 ≡ suc n = omega arith in
    let same : 0 + n ≡ n = omega arith in
    ap (λ m. flat_map f (range_with_len 0 m)) longer ∙ flat_map_from f 0 n ∙ ap (λ k. flat_map f (range_with_len 0 n) ++ f k) same

-- a row from any number that is longer by one ends with one more number
range_from : (a n : ℕ) → range_with_len a (suc n) ≡ range_with_len a n ++ (a + n) ∷ []
range_from a zero =
    let same : a ≡ a + 0 = omega arith in
    ap (λ k. k ∷ []) same
range_from a (suc n) =
    let moved : a + 1 + n ≡ a + suc n = omega arith in
    ap (λ l. a ∷ l) (range_from (a + 1) n) ∙ ap (λ k. a ∷ (range_with_len (a + 1) n ++ k ∷ [])) moved

-- those of the numbers below one more that pass a test
pub filter_next : (p : ℕ → Bool) (n : ℕ) (b : Bool) → p n ≡ b → filter p (range_with_len 0 (n + 1)) ≡ filter p (range_with_len 0 n) ++ (if b then n ∷ [] else [])
filter_next p n b is =
    let longer : n + 1 ≡ suc n = omega arith in
    let same : 0 + n ≡ n = omega arith in
    ap (λ m. filter p (range_with_len 0 m)) longer ∙ ap (filter p) (range_from 0 n ∙ ap (λ k. range_with_len 0 n ++ k ∷ []) same)
    ∙ filter-append p (range_with_len 0 n) (n ∷ []) ∙ ap (λ c. filter p (range_with_len 0 n) ++ (if c then n ∷ [] else [])) is

pub filter_kept : (p : ℕ → Bool) (n : ℕ) → p n ≡ true → filter p (range_with_len 0 (n + 1)) ≡ filter p (range_with_len 0 n) ++ n ∷ []
filter_kept p n is = filter_next p n true is

pub filter_passed : (p : ℕ → Bool) (n : ℕ) → p n ≡ false → filter p (range_with_len 0 (n + 1)) ≡ filter p (range_with_len 0 n)
filter_passed p n is = filter_next p n false is ∙ append-nil (filter p (range_with_len 0 n))
