-- The order of generations is that of their numbers.
use Rattle.std.proofs.Common.{◌≡◌, ℕ, ◌+◌, ◌-◌, ◌*◌, ◌/◌, ◌%◌, ◌<◌, ◌≤◌, ◌⊎◌, ◌&&◌, nat_le, Bool, true, false, List, [], ◌∷◌, refl, inl, inr, arith}
use Rattle.std.proofs.lemmas.Bool.{cases_lt, eqb-true, le-leb, leb-true}
use Rattle.std.specs.Cmp.{ranks}
use Rattle.std.specs.Cmp.Derive.{both_true}
use Rattle.std.specs.Ordering.{MatchOrdering, is_lt, nat_cmp, ordering_then}
use Rattle.std.specs.declared.cmp.Ordering.{Ordering}
use Rattle.std.specs.declared.cmp.Ordering.TheVariants.{Less, Equal, Greater}
use Rattle.std.specs.Cmp.Lexicographic.{slice_cmp}
use Rattle.vol_model.specs.Trees.{is_digit, is_generation, stored_generation}
use Rattle.gen_groups.specs.Generations.{number_in, numbered}

-- the parts of a generation's name
pub record Parts (name : List ℕ) : Type 0 where
  pub a : ℕ
  pub b : ℕ
  pub c : ℕ
  pub d : ℕ
  pub rest : List ℕ
  pub a_small : a ≤ 9
  pub b_small : b ≤ 9
  pub c_small : c ≤ 9
  pub d_small : d ≤ 9
  pub whole : name ≡ 0xC7 ∷ (a + 0xF0) ∷ (b + 0xF0) ∷ (c + 0xF0) ∷ (d + 0xF0) ∷ rest

both_of : (a b : Bool) → (a && b) ≡ true → (a ≡ true) × (b ≡ true)
both_of true true h = (refl, refl)
both_of true false h = cc
both_of false b h = cc

digit_small : (x : ℕ) → is_digit x ≡ true → x - 0xF0 ≤ 9
digit_small x h =
    let both = both_of (nat_le 0xF0 x) (nat_le x 0xF9) h in
    let high : x ≤ 0xF9 = leb-true x 0xF9 both.1 in
    omega arith

digit_is : (x : ℕ) → is_digit x ≡ true → x ≡ (x - 0xF0) + 0xF0
digit_is x h =
    let both = both_of (nat_le 0xF0 x) (nat_le x 0xF9) h in
    let low : 0xF0 ≤ x = leb-true 0xF0 x both.0 in
    omega arith

parts_with : (g a b c d v e f : ℕ) → is_generation (g ∷ a ∷ b ∷ c ∷ d ∷ v ∷ e ∷ f ∷ []) ≡ true → Parts (g ∷ a ∷ b ∷ c ∷ d ∷ v ∷ e ∷ f ∷ [])
parts_with g a b c d v e f h =
    let first = both_of _ _ h in
    let second = both_of _ _ first.1 in
    let third = both_of _ _ second.1 in
    let fourth = both_of _ _ third.1 in
    let fifth = both_of _ _ fourth.1 in
    let is_g : g ≡ 0xC7 = eqb-true g 0xC7 first.0 in
    let is_a : a ≡ (a - 0xF0) + 0xF0 = digit_is a second.0 in
    let is_b : b ≡ (b - 0xF0) + 0xF0 = digit_is b third.0 in
    let is_c : c ≡ (c - 0xF0) + 0xF0 = digit_is c fourth.0 in
    let is_d : d ≡ (d - 0xF0) + 0xF0 = digit_is d fifth.0 in
    record {
      a = a - 0xF0;
      b = b - 0xF0;
      c = c - 0xF0;
      d = d - 0xF0;
      rest = v ∷ e ∷ f ∷ [];
      a_small = digit_small a second.0;
      b_small = digit_small b third.0;
      c_small = digit_small c fourth.0;
      d_small = digit_small d fifth.0;
      whole = cc;
    }

pub parts_of : (name : List ℕ) → is_generation name ≡ true → Parts name
parts_of (g ∷ a ∷ b ∷ c ∷ d ∷ v ∷ e ∷ f ∷ []) h = parts_with g a b c d v e f h
parts_of [] h = cc
parts_of (g ∷ []) h = cc
parts_of (g ∷ a ∷ []) h = cc
parts_of (g ∷ a ∷ b ∷ []) h = cc
parts_of (g ∷ a ∷ b ∷ c ∷ []) h = cc
parts_of (g ∷ a ∷ b ∷ c ∷ d ∷ []) h = cc
parts_of (g ∷ a ∷ b ∷ c ∷ d ∷ v ∷ []) h = cc
parts_of (g ∷ a ∷ b ∷ c ∷ d ∷ v ∷ e ∷ []) h = cc
parts_of (g ∷ a ∷ b ∷ c ∷ d ∷ v ∷ e ∷ f ∷ x ∷ xs) h = cc

-- one list stands before another by its first number, or by the rest where that is the same
then_lt : (x y : ℕ) (o r : Ordering) → MatchOrdering o (x < y) (x ≡ y) (y < x) → is_lt (ordering_then o r) ≡ true → (x < y) ⊎ ((x ≡ y) × (is_lt r ≡ true))
then_lt x y Less r m h = inl m
then_lt x y Equal r m h = inr (m, h)
then_lt x y Greater r m h = cc

first_or_rest : (x y : ℕ) (xs ys : List ℕ) → is_lt (slice_cmp nat_cmp (x ∷ xs) (y ∷ ys)) ≡ true → (x < y) ⊎ ((x ≡ y) × (is_lt (slice_cmp nat_cmp xs ys) ≡ true))
first_or_rest x y xs ys h = then_lt x y (nat_cmp x y) (slice_cmp nat_cmp xs ys) (ranks x y) h

lt_first : (x y : ℕ) (o r : Ordering) → MatchOrdering o (x < y) (x ≡ y) (y < x) → x < y → is_lt (ordering_then o r) ≡ true
lt_first x y Less r m h = refl
lt_first x y Equal r m h = absurd (omega arith)
lt_first x y Greater r m h = absurd (omega arith)

lt_then : (x y : ℕ) (o r : Ordering) → MatchOrdering o (x < y) (x ≡ y) (y < x) → x ≤ y → is_lt r ≡ true → is_lt (ordering_then o r) ≡ true
lt_then x y Less r m le h = refl
lt_then x y Equal r m le h = h
lt_then x y Greater r m le h = absurd (omega arith)

by_first : (x y : ℕ) (xs ys : List ℕ) → x < y → is_lt (slice_cmp nat_cmp (x ∷ xs) (y ∷ ys)) ≡ true
by_first x y xs ys h = lt_first x y (nat_cmp x y) (slice_cmp nat_cmp xs ys) (ranks x y) h

by_rest : (x y : ℕ) (xs ys : List ℕ) → x ≤ y → is_lt (slice_cmp nat_cmp xs ys) ≡ true → is_lt (slice_cmp nat_cmp (x ∷ xs) (y ∷ ys)) ≡ true
by_rest x y xs ys le h = lt_then x y (nat_cmp x y) (slice_cmp nat_cmp xs ys) (ranks x y) le h

units : (d d' : ℕ) (xs ys : List ℕ) → d ≤ 9 → d' ≤ 9 → (0xFF - d < 0xFF - d') ⊎ ((0xFF - d ≡ 0xFF - d') × (is_lt (slice_cmp nat_cmp xs ys) ≡ true)) → d' ≤ d
units d d' xs ys p p' (inl h) = omega arith
units d d' xs ys p p' (inr h) = omega arith

tens : (c d c' d' : ℕ) (xs ys : List ℕ) → c ≤ 9 → d ≤ 9 → c' ≤ 9 → d' ≤ 9
    → (0xFF - c < 0xFF - c') ⊎ ((0xFF - c ≡ 0xFF - c') × (is_lt (slice_cmp nat_cmp ((0xFF - d) ∷ xs) ((0xFF - d') ∷ ys)) ≡ true)) → 10 * c' + d' ≤ 10 * c + d
tens c d c' d' xs ys pc pd pc' pd' (inl h) = omega arith
tens c d c' d' xs ys pc pd pc' pd' (inr (e, h)) =
    let k : d' ≤ d = units d d' xs ys pd pd' (first_or_rest (0xFF - d) (0xFF - d') xs ys h) in omega arith

hundreds : (b c d b' c' d' : ℕ) (xs ys : List ℕ) → b ≤ 9 → c ≤ 9 → d ≤ 9 → b' ≤ 9 → c' ≤ 9 → d' ≤ 9
    → (0xFF - b < 0xFF - b') ⊎ ((0xFF - b ≡ 0xFF - b') × (is_lt (slice_cmp nat_cmp ((0xFF - c) ∷ (0xFF - d) ∷ xs) ((0xFF - c') ∷ (0xFF - d') ∷ ys)) ≡ true))
    → 100 * b' + 10 * c' + d' ≤ 100 * b + 10 * c + d
hundreds b c d b' c' d' xs ys pb pc pd pb' pc' pd' (inl h) = omega arith
hundreds b c d b' c' d' xs ys pb pc pd pb' pc' pd' (inr (e, h)) =
    let k : 10 * c' + d' ≤ 10 * c + d = tens c d c' d' xs ys pc pd pc' pd' (first_or_rest (0xFF - c) (0xFF - c') ((0xFF - d) ∷ xs) ((0xFF - d') ∷ ys) h) in omega arith

thousands : (a b c d a' b' c' d' : ℕ) (xs ys : List ℕ) → a ≤ 9 → b ≤ 9 → c ≤ 9 → d ≤ 9 → a' ≤ 9 → b' ≤ 9 → c' ≤ 9 → d' ≤ 9
    → (0xFF - a < 0xFF - a') ⊎ ((0xFF - a ≡ 0xFF - a') × (is_lt (slice_cmp nat_cmp ((0xFF - b) ∷ (0xFF - c) ∷ (0xFF - d) ∷ xs) ((0xFF - b') ∷ (0xFF - c') ∷ (0xFF - d') ∷ ys)) ≡ true))
    → 1000 * a' + 100 * b' + 10 * c' + d' ≤ 1000 * a + 100 * b + 10 * c + d
thousands a b c d a' b' c' d' xs ys pa pb pc pd pa' pb' pc' pd' (inl h) = omega arith
thousands a b c d a' b' c' d' xs ys pa pb pc pd pa' pb' pc' pd' (inr (e, h)) =
    let k : 100 * b' + 10 * c' + d' ≤ 100 * b + 10 * c + d =
    hundreds b c d b' c' d' xs ys pb pc pd pb' pc' pd' (first_or_rest (0xFF - b) (0xFF - b') ((0xFF - c) ∷ (0xFF - d) ∷ xs) ((0xFF - c') ∷ (0xFF - d') ∷ ys) h) in
    omega arith

after_g : (g a b c d a' b' c' d' : ℕ) (xs ys : List ℕ) → a ≤ 9 → b ≤ 9 → c ≤ 9 → d ≤ 9 → a' ≤ 9 → b' ≤ 9 → c' ≤ 9 → d' ≤ 9
    → (g < g) ⊎ ((g ≡ g) × (is_lt (slice_cmp nat_cmp ((0xFF - a) ∷ (0xFF - b) ∷ (0xFF - c) ∷ (0xFF - d) ∷ xs) ((0xFF - a') ∷ (0xFF - b') ∷ (0xFF - c') ∷ (0xFF - d') ∷ ys)) ≡ true))
    → 1000 * a' + 100 * b' + 10 * c' + d' ≤ 1000 * a + 100 * b + 10 * c + d
after_g g a b c d a' b' c' d' xs ys pa pb pc pd pa' pb' pc' pd' (inl h) = absurd (omega arith)
after_g g a b c d a' b' c' d' xs ys pa pb pc pd pa' pb' pc' pd' (inr (e, h)) =
    thousands a b c d a' b' c' d' xs ys pa pb pc pd pa' pb' pc' pd' (first_or_rest (0xFF - a) (0xFF - a') ((0xFF - b) ∷ (0xFF - c) ∷ (0xFF - d) ∷ xs) ((0xFF - b') ∷ (0xFF - c') ∷ (0xFF - d') ∷ ys) h)

minus : (a : ℕ) → (a + 0xF0) - 0xF0 ≡ a
minus a = omega arith

-- a name with these parts, as it is stored
stored_parts : (name : List ℕ) (p : Parts name) → stored_generation name ≡ 0xC7 ∷ (0xFF - p.a) ∷ (0xFF - p.b) ∷ (0xFF - p.c) ∷ (0xFF - p.d) ∷ p.rest
stored_parts name p = rw p.whole (simp minus)

number_parts : (name : List ℕ) (p : Parts name) → number_in name ≡ 1000 * p.a + 100 * p.b + 10 * p.c + p.d
number_parts name p = rw p.whole (simp minus)

-- what is stored before another has no lower number
pub no_lower : (x y : List ℕ) → is_generation x ≡ true → is_generation y ≡ true → is_lt (slice_cmp nat_cmp (stored_generation x) (stored_generation y)) ≡ true → number_in y ≤ number_in x
no_lower x y gx gy h =
    let p = parts_of x gx in
    let q = parts_of y gy in
    let stored : is_lt (slice_cmp nat_cmp (0xC7 ∷ (0xFF - p.a) ∷ (0xFF - p.b) ∷ (0xFF - p.c) ∷ (0xFF - p.d) ∷ p.rest) (0xC7 ∷ (0xFF - q.a) ∷ (0xFF - q.b) ∷ (0xFF - q.c) ∷ (0xFF - q.d) ∷ q.rest)) ≡ true
    = rw (stored_parts x p, stored_parts y q) at h in
    let k = after_g 0xC7 p.a p.b p.c p.d q.a q.b q.c q.d p.rest q.rest p.a_small p.b_small p.c_small p.d_small q.a_small q.b_small q.c_small q.d_small (first_or_rest 0xC7 0xC7 ((0xFF - p.a) ∷ (0xFF - p.b) ∷ (0xFF - p.c) ∷ (0xFF - p.d) ∷ p.rest) ((0xFF - q.a) ∷ (0xFF - q.b) ∷ (0xFF - q.c) ∷ (0xFF - q.d) ∷ q.rest) stored) in
    rw (number_parts x p, number_parts y q) k

units_up : (d d' : ℕ) (xs ys : List ℕ) → d ≤ 9 → d' ≤ 9 → d' < d → is_lt (slice_cmp nat_cmp ((0xFF - d) ∷ xs) ((0xFF - d') ∷ ys)) ≡ true
units_up d d' xs ys p p' h = by_first (0xFF - d) (0xFF - d') xs ys (omega arith)

tens_up : (c d c' d' : ℕ) (xs ys : List ℕ) → c ≤ 9 → d ≤ 9 → c' ≤ 9 → d' ≤ 9 → (c' < c) ⊎ (c ≤ c') → 10 * c' + d' < 10 * c + d
    → is_lt (slice_cmp nat_cmp ((0xFF - c) ∷ (0xFF - d) ∷ xs) ((0xFF - c') ∷ (0xFF - d') ∷ ys)) ≡ true
tens_up c d c' d' xs ys pc pd pc' pd' (inl h) lt = by_first (0xFF - c) (0xFF - c') ((0xFF - d) ∷ xs) ((0xFF - d') ∷ ys) (omega arith)
tens_up c d c' d' xs ys pc pd pc' pd' (inr h) lt = by_rest (0xFF - c) (0xFF - c') ((0xFF - d) ∷ xs) ((0xFF - d') ∷ ys) (omega arith) (units_up d d' xs ys pd pd' (omega arith))

hundreds_up : (b c d b' c' d' : ℕ) (xs ys : List ℕ) → b ≤ 9 → c ≤ 9 → d ≤ 9 → b' ≤ 9 → c' ≤ 9 → d' ≤ 9 → (b' < b) ⊎ (b ≤ b') → 100 * b' + 10 * c' + d' < 100 * b + 10 * c + d
    → is_lt (slice_cmp nat_cmp ((0xFF - b) ∷ (0xFF - c) ∷ (0xFF - d) ∷ xs) ((0xFF - b') ∷ (0xFF - c') ∷ (0xFF - d') ∷ ys)) ≡ true
hundreds_up b c d b' c' d' xs ys pb pc pd pb' pc' pd' (inl h) lt = by_first (0xFF - b) (0xFF - b') ((0xFF - c) ∷ (0xFF - d) ∷ xs) ((0xFF - c') ∷ (0xFF - d') ∷ ys) (omega arith)
hundreds_up b c d b' c' d' xs ys pb pc pd pb' pc' pd' (inr h) lt = by_rest (0xFF - b) (0xFF - b') ((0xFF - c) ∷ (0xFF - d) ∷ xs) ((0xFF - c') ∷ (0xFF - d') ∷ ys) (omega arith) (tens_up c d c' d' xs ys pc pd pc' pd' (cases_lt c' c) (omega arith))

thousands_up : (a b c d a' b' c' d' : ℕ) (xs ys : List ℕ) → a ≤ 9 → b ≤ 9 → c ≤ 9 → d ≤ 9 → a' ≤ 9 → b' ≤ 9 → c' ≤ 9 → d' ≤ 9 → (a' < a) ⊎ (a ≤ a')
    → 1000 * a' + 100 * b' + 10 * c' + d' < 1000 * a + 100 * b + 10 * c + d
    → is_lt (slice_cmp nat_cmp ((0xFF - a) ∷ (0xFF - b) ∷ (0xFF - c) ∷ (0xFF - d) ∷ xs) ((0xFF - a') ∷ (0xFF - b') ∷ (0xFF - c') ∷ (0xFF - d') ∷ ys)) ≡ true
thousands_up a b c d a' b' c' d' xs ys pa pb pc pd pa' pb' pc' pd' (inl h) lt = by_first (0xFF - a) (0xFF - a') ((0xFF - b) ∷ (0xFF - c) ∷ (0xFF - d) ∷ xs) ((0xFF - b') ∷ (0xFF - c') ∷ (0xFF - d') ∷ ys) (omega arith)
thousands_up a b c d a' b' c' d' xs ys pa pb pc pd pa' pb' pc' pd' (inr h) lt =
    by_rest (0xFF - a) (0xFF - a') ((0xFF - b) ∷ (0xFF - c) ∷ (0xFF - d) ∷ xs) ((0xFF - b') ∷ (0xFF - c') ∷ (0xFF - d') ∷ ys) (omega arith) (hundreds_up b c d b' c' d' xs ys pb pc pd pb' pc' pd' (cases_lt b' b) (omega arith))

-- what has a higher number is stored before another
pub higher_first : (x y : List ℕ) → is_generation x ≡ true → is_generation y ≡ true → number_in y < number_in x → is_lt (slice_cmp nat_cmp (stored_generation x) (stored_generation y)) ≡ true
higher_first x y gx gy h =
    let p = parts_of x gx in
    let q = parts_of y gy in
    let lt : 1000 * q.a + 100 * q.b + 10 * q.c + q.d < 1000 * p.a + 100 * p.b + 10 * p.c + p.d = omega (arith, h, number_parts x p, number_parts y q) in
    rw (stored_parts x p, stored_parts y q) (by_rest 0xC7 0xC7 ((0xFF - p.a) ∷ (0xFF - p.b) ∷ (0xFF - p.c) ∷ (0xFF - p.d) ∷ p.rest) ((0xFF - q.a) ∷ (0xFF - q.b) ∷ (0xFF - q.c) ∷ (0xFF - q.d) ∷ q.rest) (omega arith)
    (thousands_up p.a p.b p.c p.d q.a q.b q.c q.d p.rest q.rest p.a_small p.b_small p.c_small p.d_small q.a_small q.b_small q.c_small q.d_small (cases_lt q.a p.a) lt))

digit_back : (n : ℕ) → is_digit (0xF0 + n % 10) ≡ true
digit_back n = both_true (le-leb 0xF0 (0xF0 + n % 10) (omega arith)) (le-leb (0xF0 + n % 10) 0xF9 (omega arith))

-- a name that is made of a number is one of a generation
pub is_generation-numbered : (n : ℕ) → is_generation (numbered n).bytes ≡ true
unfolding numbered
is_generation-numbered n =
    both_true (digit_back (n / 1000)) (both_true (digit_back (n / 100)) (both_true (digit_back (n / 10)) (both_true (digit_back n) refl)))

minus_front : (a : ℕ) → (0xF0 + a) - 0xF0 ≡ a
minus_front a = omega arith

digits : (n : ℕ) → n ≤ 9999 → 1000 * (n / 1000 % 10) + 100 * (n / 100 % 10) + 10 * (n / 10 % 10) + n % 10 ≡ n
digits n h = omega arith

-- of that number
pub number_in-numbered : (n : ℕ) → n ≤ 9999 → number_in (numbered n).bytes ≡ n
unfolding numbered
number_in-numbered n h = simp minus_front (digits n h)
