-- How many maximal runs a set of tracks has: with the tracks of one more extent there is at most one more.
use Rattle.std.proofs.Common.{◌≡◌, ◌+◌, ◌≤◌, ◌<◌, ◌==◌, ◌&&◌, ◌||◌, ℕ, zero, suc, not, nat_le, nat_lt, Bool, true, false, cond, List, [], ◌∷◌, length, filter, refl, ◌∙◌, ap, ne_eqb, arith}
use Rattle.std.proofs.lemmas.Bool.Decides.{nat_tests}
use Rattle.std.specs.List.{range_with_len}
use Rattle.std.specs.Prelude.{if◌then◌else◌}
use Rattle.vol_model.specs.declared.contents.Run.{Run}
use Rattle.vol_model.specs.Space.{AreApartFrom, covers, is_in, runs_of, with_front}
use Rattle.vol_model.proofs.FreeRuns.{runs_of-filter-facts}

-- ---- runs, counted by their last tracks

-- whether the first of so many tracks is in the set
abbrev next : (ℕ → Bool) → ℕ → ℕ → Bool
next p zero t = false
next p (suc n) t = p t

-- how many tracks of the set, from one on and so many, have none of the set after them
abbrev ends : (ℕ → Bool) → ℕ → ℕ → ℕ
ends p zero low = 0
ends p (suc n) low = cond (p low && not (next p n (low + 1))) 1 0 + ends p n (low + 1)

-- the first run begins at this track
abbrev begins : ℕ → List Run → Bool
begins t [] = false
begins t (r ∷ rs) = t == r.start

front_begins : (t : ℕ) (rs : List Run) → begins t (with_front t rs) ≡ true
front_begins t [] = same t
  where
    same : (t : ℕ) → (t == t) ≡ true
    same t = grind (arith, nat_tests)
front_begins t (r ∷ rs) = by_test (t + 1 == r.start)
  where
    same : (t : ℕ) → (t == t) ≡ true
    same t = grind (arith, nat_tests)

    by_test : (b : Bool) → begins t (if b then (record { start = t; len = r.len + 1 } ∷ rs) else (record { start = t; len = 1 } ∷ r ∷ rs)) ≡ true
    by_test true = same t
    by_test false = same t

front_length : (t : ℕ) (rs : List Run) → length (with_front t rs) ≡ cond (begins (t + 1) rs) (length rs) (suc (length rs))
front_length t [] = refl
front_length t (r ∷ rs) = by_test (t + 1 == r.start)
  where
    by_test : (b : Bool) → length (if b then (record { start = t; len = r.len + 1 } ∷ rs) else (record { start = t; len = 1 } ∷ r ∷ rs)) ≡ cond b (suc (length rs)) (suc (suc (length rs)))
    by_test true = refl
    by_test false = refl

-- no run of those apart from a later track on begins here
apart_begins : (t low : ℕ) (rs : List Run) → t < low → AreApartFrom low rs → begins t rs ≡ false
apart_begins t low [] l a = refl
apart_begins t low (r ∷ rs) l a = let from = a.0 in ne_eqb t r.start (omega arith)

module _ (p : ℕ → Bool) where
  abbrev found : ℕ → ℕ → List Run
  found low n = runs_of (filter p (range_with_len low n))

  begins_by : (low n : ℕ) (b : Bool) → p low ≡ b → begins low (runs_of (cond b (low ∷ filter p (range_with_len (low + 1) n)) (filter p (range_with_len (low + 1) n)))) ≡ b
  begins_by low n true e = front_begins low (found (low + 1) n)
  begins_by low n false e = apart_begins low (low + 1) (found (low + 1) n) (omega arith) (runs_of-filter-facts p n (low + 1)).0

  found_begins : (low n : ℕ) → begins low (found low n) ≡ next p n low
  found_begins low zero = refl
  found_begins low (suc n) = begins_by low n (p low) refl

  length_by : (low n : ℕ) (b : Bool) → length (found (low + 1) n) ≡ ends p n (low + 1)
      → length (runs_of (cond b (low ∷ filter p (range_with_len (low + 1) n)) (filter p (range_with_len (low + 1) n)))) ≡ cond (b && not (next p n (low + 1))) 1 0 + ends p n (low + 1)
  length_by low n true e = front_length low (found (low + 1) n) ∙ ap (λ c. cond c (length (found (low + 1) n)) (suc (length (found (low + 1) n)))) (found_begins (low + 1) n) ∙ ap (λ (k : ℕ). cond (next p n (low + 1)) k (suc k)) e ∙ turned (next p n (low + 1)) (ends p n (low + 1))
    where
      turned : (b : Bool) (k : ℕ) → cond b k (suc k) ≡ cond (not b) 1 0 + k
      turned true k = omega arith
      turned false k = omega arith
  length_by low n false e = e ∙ plus (ends p n (low + 1))
    where
      plus : (k : ℕ) → k ≡ 0 + k
      plus k = omega arith

  -- the runs are as many as these tracks
  pub found_length : (n low : ℕ) → length (found low n) ≡ ends p n low
  found_length zero low = refl
  found_length (suc n) low = length_by low n (p low) (found_length n (low + 1))

-- ---- one more extent

ends_same : (p q : ℕ → Bool) → ((t : ℕ) → p t ≡ q t) → (n low : ℕ) → ends p n low ≡ ends q n low
ends_same p q e n low = λ i. ends (λ t. e t i) n low

last_at : (low start stop : ℕ) (a b : Bool) → cond ((a || (nat_le start low && nat_lt low stop)) && not (b || (nat_le start (low + 1) && nat_lt (low + 1) stop))) 1 0 + cond (nat_lt (low + 1) stop) 1 0 ≤ cond (a && not b) 1 0 + cond (nat_lt low stop) 1 0
last_at low start stop true true = at low stop
  where
    at : (low stop : ℕ) → 0 + cond (nat_lt (low + 1) stop) 1 0 ≤ 0 + cond (nat_lt low stop) 1 0
    at low stop = grind (arith, nat_tests)
last_at low start stop true false = at (nat_le start (low + 1)) low stop
  where
    at : (s : Bool) (low stop : ℕ) → cond (not (s && nat_lt (low + 1) stop)) 1 0 + cond (nat_lt (low + 1) stop) 1 0 ≤ 1 + cond (nat_lt low stop) 1 0
    at true low stop = grind (arith, nat_tests)
    at false low stop = grind (arith, nat_tests)
last_at low start stop false true = at (nat_le start low) low stop
  where
    at : (s : Bool) (low stop : ℕ) → cond ((s && nat_lt low stop) && false) 1 0 + cond (nat_lt (low + 1) stop) 1 0 ≤ 0 + cond (nat_lt low stop) 1 0
    at true low stop = grind (arith, nat_tests)
    at false low stop = grind (arith, nat_tests)
last_at low start stop false false = grind (arith, nat_tests)

rest_most : (p : ℕ → Bool) (e : Run) (n low : ℕ) → ends (λ t. p t || is_in t e) n low ≤ ends p n low + cond (nat_lt low (e.start + e.len)) 1 0
rest_most p e zero low = omega arith
rest_most p e (suc zero) low = only (p low) e.start (e.start + e.len) low
  where
    only : (a : Bool) (start stop low : ℕ) → cond ((a || (nat_le start low && nat_lt low stop)) && not false) 1 0 + 0 ≤ cond (a && not false) 1 0 + 0 + cond (nat_lt low stop) 1 0
    only true start stop low = omega arith
    only false start stop low = by_start (nat_le start low) low stop
      where
        by_start : (s : Bool) (low stop : ℕ) → cond ((s && nat_lt low stop) && not false) 1 0 + 0 ≤ 0 + 0 + cond (nat_lt low stop) 1 0
        by_start true low stop = grind (arith, nat_tests)
        by_start false low stop = omega arith
rest_most p e (suc (suc n)) low =
    let rest = rest_most p e (suc n) (low + 1) in
    let here = last_at low e.start (e.start + e.len) (p low) (p (low + 1)) in
    plus (cond ((p low || is_in low e) && not (p (low + 1) || is_in (low + 1) e)) 1 0) (cond (nat_lt (low + 1) (e.start + e.len)) 1 0) (cond (p low && not (p (low + 1))) 1 0) (cond (nat_lt low (e.start + e.len)) 1 0)
    (ends (λ t. p t || is_in t e) (suc n) (low + 1)) (ends p (suc n) (low + 1)) here rest
  where
    plus : (a c b d x y : ℕ) → a + c ≤ b + d → x ≤ y + c → a + x ≤ b + y + d
    plus a c b d x y h k = omega arith

one_most : (p : ℕ → Bool) (e : Run) (n low : ℕ) → ends (λ t. p t || is_in t e) n low ≤ suc (ends p n low)
one_most p e n low = let most = rest_most p e n low in let one = at_most (nat_lt low (e.start + e.len)) in omega (arith, most, one)
  where
    at_most : (b : Bool) → cond b 1 0 ≤ 1
    at_most true = omega arith
    at_most false = omega arith

-- with the tracks of some extents there is at most one more run for each of them
all_most : (es : List Run) (p : ℕ → Bool) (n low : ℕ) → ends (λ t. p t || covers es t) n low ≤ ends p n low + length es
all_most [] p n low = let same = ends_same (λ t. p t || false) p (λ t. none (p t)) n low in omega (arith, same)
  where
    none : (b : Bool) → (b || false) ≡ b
    none true = refl
    none false = refl
all_most (e ∷ es) p n low =
    let same = ends_same (λ t. p t || (is_in t e || covers es t)) (λ t. (p t || is_in t e) || covers es t) (λ t. joined (p t) (is_in t e) (covers es t)) n low in
    let rest = all_most es (λ t. p t || is_in t e) n low in
    let one = one_most p e n low in
    omega (arith, same, rest, one)
  where
    joined : (a b c : Bool) → (a || (b || c)) ≡ ((a || b) || c)
    joined true b c = refl
    joined false b c = refl

pub more_runs : (p q : ℕ → Bool) (es : List Run) (n : ℕ) → ((t : ℕ) → q t ≡ (p t || covers es t)) → length (runs_of (filter q (range_with_len 0 n))) ≤ length (runs_of (filter p (range_with_len 0 n))) + length es
more_runs p q es n same =
    let after = found_length q n 0 in
    let before = found_length p n 0 in
    let equal = ends_same q (λ t. p t || covers es t) same n 0 in
    let most = all_most es p n 0 in
    omega (arith, after, before, equal, most)
