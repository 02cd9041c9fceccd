-- Rows that stand one after another, cut and joined.
use Rattle.std.proofs.Common.{◌≡◌, ℕ, zero, suc, ◌+◌, ◌*◌, ◌<◌, get_or, List, [], ◌∷◌, ◌++◌, length, take, drop, arith, ap, refl, sym, ◌∙◌}
use Rattle.std.specs.List.{AllByRecursion, concat}
use Rattle.std.specs.Simd.{first_chunks}
use Rattle.std.proofs.Math.Seq.{take-add}
use Rattle.std.proofs.lemmas.List.{drop_at, take_at}
use Rattle.dscb_codec.specs.Layout.{AreRows}

-- the first k chunks of n elements, joined, are the first n * k elements
pub concat-first_chunks : (n k : ℕ) (xs : List ℕ) → concat (first_chunks n k xs) ≡ take (n * k) xs
concat-first_chunks n zero xs =
    let none : 0 ≡ n * zero = omega arith in
    ap (λ (j : ℕ). take j xs) none
concat-first_chunks n (suc k) xs =
    let one_more : n + n * k ≡ n * suc k = omega arith in
    ap (λ (rest : List ℕ). take n xs ++ rest) (concat-first_chunks n k (drop n xs)) ∙ sym (take-add n (n * k) xs) ∙ ap (λ (j : ℕ). take j xs) one_more

-- rows, joined and cut again, are the rows
pub chunks-concat : (n k : ℕ) (xs : List (List ℕ)) → AreRows n k xs → first_chunks n k (concat xs) ≡ xs
chunks-concat n zero [] are = refl
chunks-concat n zero (x ∷ xs) are = absurd (omega (arith, are.0))
chunks-concat n (suc k) [] are = absurd (omega (arith, are.0))
chunks-concat n (suc k) (x ∷ xs) are =
    let first : take n (x ++ concat xs) ≡ x = take_at x (concat xs) n are.1.0 in
    let rest : first_chunks n k (drop n (x ++ concat xs)) ≡ xs =
    ap (λ (l : List ℕ). first_chunks n k l) (drop_at x (concat xs) n are.1.0) ∙ chunks-concat n k xs (omega (arith, are.0), are.1.1) in
    ap (λ (l : List ℕ). l ∷ first_chunks n k (drop n (x ++ concat xs))) first ∙ ap (λ (l : List (List ℕ)). x ∷ l) rest

-- rows that are of n elements, one by one
pub rows_by_index : (n : ℕ) (rows : List (List ℕ)) → ((k : ℕ) → k < length rows → length (get_or rows k []) ≡ n) → AllByRecursion (λ row. length row ≡ n) rows
rows_by_index n [] wide = tt
rows_by_index n (row ∷ rows) wide = (wide 0 (omega arith), rows_by_index n rows (λ k below. wide (suc k) (omega arith)))
