-- A VTOC with enough open slots has room for a chain.
use Rattle.std.proofs.Common.{◌≡◌, ◌+◌, ◌≤◌, ◌<◌, ℕ, zero, suc, Bool, true, false, cond, not, List, [], ◌∷◌, length, drop, Some, None, refl, sym, ap, ◌∙◌, arith}
use Rattle.std.specs.Prelude.{count_by, position}
use Rattle.std.specs.List.{position_or_len}
use Rattle.std.specs.Option.{option_map}
use Rattle.std.proofs.lemmas.Bool.{lt-ltb}
use Rattle.dscb_codec.specs.declared.Dscb.{Dscb}
use Rattle.free_rebuild.specs.Chain.{is_open}
use Rattle.free_rebuild.proofs.ChainItems.{count_more}
use Rattle.free_rebuild.proofs.ChainLemmas.{HasRoom}

-- how many open slots stand from a number on
abbrev pub open_from : List Dscb → ℕ → ℕ
open_from ds from = count_by is_open (drop from ds)

-- where the first open slot stands, and how many stand after it
record First (xs : List Dscb) : Type 0 where
  low : position_or_len is_open xs < length xs
  rest : count_by is_open (drop (suc (position_or_len is_open xs)) xs) + 1 ≡ count_by is_open xs

drop_none : {X : Type 0} (ys : List X) → drop 0 ys ≡ ys
drop_none [] = refl
drop_none (y ∷ ys) = refl

first_open : (xs : List Dscb) → 1 ≤ count_by is_open xs → First xs
first_open [] some = absurd (omega (arith, some))
first_open (x ∷ xs) some = by_test (is_open x) refl (λ more. first_open xs more)
  where
    by_test : (t : Bool) → is_open x ≡ t → (1 ≤ count_by is_open xs → First xs) → First (x ∷ xs)
    by_test true test more =
        let whole : count_by is_open (x ∷ xs) ≡ 1 + count_by is_open xs = count_more is_open x xs ∙ ap (λ (b : Bool). cond b 1 0 + count_by is_open xs) test in
        let place : position_or_len is_open (x ∷ xs) ≡ 0 = ap (λ (b : Bool). cond (not b) (1 + position_or_len is_open xs) 0) test in
        let rest : count_by is_open (drop (suc (position_or_len is_open (x ∷ xs))) (x ∷ xs)) ≡ count_by is_open xs = ap (λ (n : ℕ). count_by is_open (drop (suc n) (x ∷ xs))) place ∙ ap (count_by is_open) (drop_none xs) in
        record { low = omega (arith, place); rest = omega (arith, whole, rest) }
    by_test false test more =
        let whole : count_by is_open (x ∷ xs) ≡ 0 + count_by is_open xs = count_more is_open x xs ∙ ap (λ (b : Bool). cond b 1 0 + count_by is_open xs) test in
        let found = more (omega (arith, some, whole)) in
        let place : position_or_len is_open (x ∷ xs) ≡ suc (position_or_len is_open xs) = ap (λ (b : Bool). cond (not b) (1 + position_or_len is_open xs) 0) test ∙ omega arith in
        let rest : count_by is_open (drop (suc (position_or_len is_open (x ∷ xs))) (x ∷ xs)) ≡ count_by is_open (drop (suc (position_or_len is_open xs)) xs) = ap (λ (n : ℕ). count_by is_open (drop (suc n) (x ∷ xs))) place in
        record { low = omega (arith, place, found.low); rest = omega (arith, whole, rest, found.rest) }

drop_both : {X : Type 0} (n m : ℕ) (xs : List X) → drop m (drop n xs) ≡ drop (n + m) xs
drop_both zero m xs = let e : m ≡ zero + m = omega arith in ap (drop m) (drop_none xs) ∙ ap (λ (k : ℕ). drop k xs) e
drop_both {X = X} (suc n) m [] = nothing m ∙ sym (nothing (suc n + m))
  where
    nothing : (k : ℕ) → ◌≡◌ {A = List X} (drop k []) []
    nothing zero = refl
    nothing (suc k) = refl
drop_both (suc n) m (x ∷ xs) = let e : suc (n + m) ≡ suc n + m = omega arith in drop_both n m xs ∙ ap (λ (k : ℕ). drop k (x ∷ xs)) e

-- so many DSCBs have room after a slot
pub room_of : (ds : List Dscb) (k : ℕ) (ess : List (List (List ℕ))) → length ess ≤ 1 + open_from ds (k + 1) → HasRoom ds k ess
room_of ds k [] many = tt
room_of ds k (es ∷ []) many = tt
room_of ds k (es ∷ more ∷ others) many =
    let first = first_open (drop (k + 1) ds) (omega (arith, many)) in
    let i : ℕ = position_or_len is_open (drop (k + 1) ds) in
    let n : ℕ = k + 1 + i in
    let place : position is_open (drop (k + 1) ds) ≡ Some i = ap (λ (b : Bool). cond b (Some i) None) (lt-ltb i (length (drop (k + 1) ds)) first.low) in
    let e : k + 1 + suc i ≡ n + 1 = omega arith in
    let behind : drop (suc i) (drop (k + 1) ds) ≡ drop (n + 1) ds = drop_both (k + 1) (suc i) ds ∙ ap (λ (m : ℕ). drop m ds) e in
    let left : open_from ds (n + 1) + 1 ≡ open_from ds (k + 1) = omega (arith, first.rest, ap (count_by is_open) behind) in
    (n, ap (option_map (λ (j : ℕ). k + 1 + j)) place, room_of ds n (more ∷ others) (omega (arith, many, left)))
