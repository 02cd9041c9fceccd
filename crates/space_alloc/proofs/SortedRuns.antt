-- The lowest track that two runs have, found where they are sorted by their starts.
use Rattle.std.proofs.Common.{◌≡◌, ℕ, suc, ◌+◌, ◌≤◌, ◌<◌, inl, inr, Bool, true, false, cond, List, [], ◌∷◌, length, get_or, Option, Some, None, refl, ap, subst, ◌∙◌, arith}
use Rattle.std.specs.List.{All, AllByRecursion, count_by}
use Rattle.std.specs.List.Sorted.{IsNonDecreasingBy, IsPermutation}
use Rattle.std.proofs.lemmas.Bool.Decides.{nat_tests, leb_tells}
use Rattle.std.proofs.lemmas.List.Elements.{All-from_recursion, recursion_from_All}
use Rattle.std.proofs.lemmas.List.Sorted.{All-permutation, sum_by-IsPermutation}
use Rattle.std.proofs.lemmas.List.Sums.{sum_by-cons}
use Rattle.vol_model.specs.declared.contents.Run.{Run}
use Rattle.vol_model.specs.Space.{EndBy, is_in}
use Rattle.space_alloc.specs.Owned.{IsLowestTwice, first_early}

-- how many runs have a track
abbrev pub owners : ℕ → List Run → ℕ
owners t rs = count_by (is_in t) rs

-- the runs begin at a track or after it, each no earlier than the one in front of it, and have tracks
abbrev pub RiseFrom : ℕ → List Run → Type 0
RiseFrom low [] = Unit {0}
RiseFrom low (r ∷ rs) = (low ≤ r.start) × (1 ≤ r.len) × RiseFrom r.start rs

one_more : (t : ℕ) (r : Run) (rs : List Run) → owners t (r ∷ rs) ≡ cond (is_in t r) 1 0 + owners t rs
one_more t r rs = sum_by-cons (λ (x : Run). cond (is_in t x) 1 0) r rs

has : (t : ℕ) (r : Run) → r.start ≤ t → t < r.start + r.len → is_in t r ≡ true
has t r a b = grind (arith, nat_tests)

has_not : (t : ℕ) (r : Run) → t < r.start → is_in t r ≡ false
has_not t r a = grind (arith, nat_tests)

past : (t : ℕ) (r : Run) → r.start + r.len ≤ t → is_in t r ≡ false
past t r a = grind (arith, nat_tests)

counted : (t : ℕ) (r : Run) (rs : List Run) → is_in t r ≡ true → owners t (r ∷ rs) ≡ 1 + owners t rs
counted t r rs e = one_more t r rs ∙ ap (λ b. cond b 1 0 + owners t rs) e

without : (t : ℕ) (r : Run) (rs : List Run) → is_in t r ≡ false → owners t (r ∷ rs) ≡ owners t rs
without t r rs e = let same : owners t (r ∷ rs) ≡ 0 + owners t rs = one_more t r rs ∙ ap (λ b. cond b 1 0 + owners t rs) e in omega (arith, same)

at_most : (t : ℕ) (r : Run) (rs : List Run) → owners t (r ∷ rs) ≤ 1 + owners t rs
at_most t r rs = by (owners t (r ∷ rs)) (owners t rs) (is_in t r) (one_more t r rs)
  where
    by : (n m : ℕ) (b : Bool) → n ≡ cond b 1 0 + m → n ≤ 1 + m
    by n m true e = omega arith
    by n m false e = omega arith

at_least : (t : ℕ) (r : Run) (rs : List Run) → owners t rs ≤ owners t (r ∷ rs)
at_least t r rs = by (owners t (r ∷ rs)) (owners t rs) (is_in t r) (one_more t r rs)
  where
    by : (n m : ℕ) (b : Bool) → n ≡ cond b 1 0 + m → m ≤ n
    by n m true e = omega arith
    by n m false e = omega arith

-- no run has a track below the first start
below : (low t : ℕ) (rs : List Run) → RiseFrom low rs → t < low → owners t rs ≡ 0
below low t [] up l = refl
below low t (r ∷ rs) up l = without t r rs (has_not t r (omega arith)) ∙ below r.start t rs up.2 (omega arith)

-- of a first run and those after it, which are found from its end on
pub record Found (last : Run) (rs : List Run) (o : Option ℕ) : Type 0 where
  pub none : o ≡ None → (t : ℕ) → owners t (last ∷ rs) ≤ 1
  pub some : (s : ℕ) → o ≡ Some s → (last.start ≤ s) × (2 ≤ owners s (last ∷ rs)) × ((t : ℕ) → t < s → owners t (last ∷ rs) ≤ 1)

-- a run that begins before the end of the one in front
early : (last r : Run) (rs : List Run) → RiseFrom last.start (r ∷ rs) → r.start < last.start + last.len → Found last (r ∷ rs) (Some r.start)
early last r rs up e = record {
  none = λ is. absurd (cc);
  some = λ s is. let same : r.start ≡ s = cc in subst (λ (n : ℕ). (last.start ≤ n) × (2 ≤ owners n (last ∷ r ∷ rs)) × ((t : ℕ) → t < n → owners t (last ∷ r ∷ rs) ≤ 1)) same here;
}
  where
    here : (last.start ≤ r.start) × (2 ≤ owners r.start (last ∷ r ∷ rs)) × ((t : ℕ) → t < r.start → owners t (last ∷ r ∷ rs) ≤ 1)
    here =
        let first = counted r.start last (r ∷ rs) (has r.start last up.0 e) in
        let second = counted r.start r rs (has r.start r (omega arith) (omega (arith, up.1))) in (
          up.0,
          omega (arith, first, second),
          λ t l. let none = without t r rs (has_not t r l) in let lower = below r.start t rs up.2 l in omega (arith, at_most t last (r ∷ rs), none, lower),
        )

-- a run that begins at that end or after it
late : (last r : Run) (rs : List Run) (o : Option ℕ) → RiseFrom last.start (r ∷ rs) → last.start + last.len ≤ r.start → Found r rs o → Found last (r ∷ rs) o
late last r rs o up e found = record {
  none = λ is t. few t (found.none is t);
  some = λ s is. let f = found.some s is in (omega (arith, up.0, f.0), omega (arith, f.1, at_least s last (r ∷ rs)), λ t l. few t (f.2 t l));
}
  where
    few : (t : ℕ) → owners t (r ∷ rs) ≤ 1 → owners t (last ∷ r ∷ rs) ≤ 1
    few t others = elim (leb_tells (suc t) (last.start + last.len)) [
      | inl w ↦
          let lower = below r.start t rs up.2 (omega (arith, w.1, e)) in
          let none = without t r rs (has_not t r (omega (arith, w.1, e))) in
          omega (arith, at_most t last (r ∷ rs), none, lower)
      | inr w ↦ let gone = without t last (r ∷ rs) (past t last (omega (arith, w.1))) in omega (arith, gone, others)
    ]

found_from : (last : Run) (rs : List Run) → RiseFrom last.start rs → Found last rs (first_early (last.start + last.len) rs)
found_from last [] up = record { none = λ is t. let none : owners t [] ≡ 0 = refl in omega (arith, at_most t last [], none); some = λ s is. absurd (cc) }
found_from last (r ∷ rs) up = elim (leb_tells (suc r.start) (last.start + last.len)) [
  | inl w ↦ rw w.0 (early last r rs up (omega (arith, w.1)))
  | inr w ↦ rw w.0 (late last r rs (first_early (r.start + r.len) rs) up (omega (arith, w.1)) (found_from r rs up.2))
]

lowest_of : (last : Run) (rs : List Run) (o : Option ℕ) → Found last rs o → IsLowestTwice (last ∷ rs) o
lowest_of last rs None found = found.none refl
lowest_of last rs (Some s) found = let f = found.some s refl in (f.1, f.2)

-- the first run that begins early begins at the lowest track that two have
pub lowest_sorted : (rs : List Run) → RiseFrom 0 rs → IsLowestTwice rs (first_early 0 rs)
lowest_sorted [] up = λ t. let none : owners t [] ≡ 0 = refl in omega (arith, none)
lowest_sorted (r ∷ rs) up = elim (leb_tells (suc r.start) 0) [
  | inl w ↦ absurd (omega arith)
  | inr w ↦ rw w.0 (lowest_of r rs (first_early (r.start + r.len) rs) (found_from r rs up.2))
]

-- the order of runs doesn't matter
pub lowest_permuted : (rs ss : List Run) (o : Option ℕ) → IsPermutation rs ss → IsLowestTwice ss o → IsLowestTwice rs o
lowest_permuted rs ss None moved low = λ t. omega (arith, low t, sum_by-IsPermutation (λ (r : Run). cond (is_in t r) 1 0) rs ss moved)
lowest_permuted rs ss (Some s) moved low = (
  omega (arith, low.0, sum_by-IsPermutation (λ (r : Run). cond (is_in s r) 1 0) rs ss moved),
  λ t l. omega (arith, low.1 t l, sum_by-IsPermutation (λ (r : Run). cond (is_in t r) 1 0) rs ss moved),
)

-- runs that are sorted by their starts
rise : (low : ℕ) (rs : List Run) → ((d : Run) → 0 < length rs → low ≤ (get_or rs 0 d).start) → IsNonDecreasingBy (λ (r : Run). r.start) rs → AllByRecursion (λ (r : Run). 1 ≤ r.len) rs → RiseFrom low rs
rise low [] first up some = tt
rise low (r ∷ rs) first up some = (
  first r (omega arith),
  some.0,
  rise r.start rs (λ d l. up 0 1 d (omega arith) (omega arith)) (λ i j d l b. up (suc i) (suc j) d (omega arith) (omega arith)) some.1,
)

pub rise_sorted : (rs : List Run) → IsNonDecreasingBy (λ (r : Run). r.start) rs → All (λ (r : Run). 1 ≤ r.len) rs → RiseFrom 0 rs
rise_sorted rs up some = rise 0 rs (λ d l. omega arith) up (recursion_from_All (λ (r : Run). 1 ≤ r.len) rs some)

-- runs in another order end by the same track
ends_recursion : (limit : ℕ) (rs : List Run) → EndBy limit rs → AllByRecursion (λ (r : Run). r.start + r.len ≤ limit) rs
ends_recursion limit [] e = tt
ends_recursion limit (r ∷ rs) e = (e.0, ends_recursion limit rs e.1)

recursion_ends : (limit : ℕ) (rs : List Run) → AllByRecursion (λ (r : Run). r.start + r.len ≤ limit) rs → EndBy limit rs
recursion_ends limit [] e = tt
recursion_ends limit (r ∷ rs) e = (e.0, recursion_ends limit rs e.1)

pub EndBy-permutation : (limit : ℕ) (rs ss : List Run) → IsPermutation rs ss → EndBy limit rs → EndBy limit ss
EndBy-permutation limit rs ss moved e =
    let P : Run → Type 0 = λ (r : Run). r.start + r.len ≤ limit in
    recursion_ends limit ss (recursion_from_All P ss (All-permutation P rs ss moved (All-from_recursion P rs (ends_recursion limit rs e))))
