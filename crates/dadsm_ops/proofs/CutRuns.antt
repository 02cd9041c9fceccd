-- What is left of free runs without the tracks of extents, one after the other.
use Rattle.std.proofs.Common.{◌≡◌, ◌+◌, ◌-◌, ◌≤◌, ◌<◌, ◌&&◌, ◌||◌, not, min, max, ℕ, suc, Bool, true, false, List, [], ◌∷◌, ◌++◌, length, refl, sym, ap, ◌∙◌, arith, append_assoc, append-nil, length-append, take, drop, get_or, subst}
use Rattle.std.proofs.lemmas.List.{take_all, take_more}
use Rattle.vol_model.proofs.FreeRuns.{AreApartFrom-lower}
use Rattle.space_alloc.proofs.Steps.{drop-here}
use Rattle.std.specs.Prelude.{nat_lt}
use Rattle.std.proofs.lemmas.Bool.Decides.{nat_tests}
use Rattle.vol_model.specs.declared.contents.Run.{Run}
use Rattle.vol_model.specs.Space.{AreApartFrom, AreMaximal, EndBy, covers, is_in}
use Rattle.space_alloc.specs.Edits.{AreWithout, between, cut, cut_all}
use Rattle.space_alloc.proofs.Changed.{AreWithout-none}
use Rattle.space_alloc.proofs.Cuts.{cut_all-without}
use Rattle.dadsm_ops.specs.Allocating.{AreExtents, cut_by}

-- ---- extents, the first and the others

first_extent : (e : Run) (es : List Run) → AreExtents (e ∷ es) → (1 ≤ e.len) × (e.start + e.len ≤ 65535)
first_extent e es are = are.each 0 e refl

others_extents : (e : Run) (es : List Run) → AreExtents (e ∷ es) → AreExtents es
others_extents e es are = record { each = λ k r is. are.each (suc k) r is }

pub extents_within : (es : List Run) → AreExtents es → EndBy 65535 es
extents_within [] are = tt
extents_within (e ∷ es) are = ((first_extent e es are).1, extents_within es (others_extents e es are))

-- ---- the free runs without them

without_both : (old mid new es : List Run) (e : Run) → AreWithout old (e ∷ []) mid → AreWithout mid es new → AreWithout old (e ∷ es) new
without_both old mid new es e first others = record {
  maximal = others.maximal;
  tracks = λ t. others.tracks t ∙ ap (λ (b : Bool). b && not (covers es t)) (first.tracks t) ∙ both (covers old t) (is_in t e) (covers es t);
  within = λ limit ends. others.within limit (first.within limit ends);
}
  where
    both : (a b c : Bool) → ((a && not (b || false)) && not c) ≡ (a && not (b || c))
    both a b c = grind arith

pub cut_by_without : (es old : List Run) → AreExtents es → AreMaximal old → AreWithout old es (cut_by es old)
cut_by_without [] old are maximal = AreWithout-none old maximal
cut_by_without (e ∷ es) old are maximal =
    let first = cut_all-without old e (omega (arith, (first_extent e es are).0)) maximal in
    without_both old (cut_all e.start (e.start + e.len) old) (cut_by es (cut_all e.start (e.start + e.len) old)) es e first
    (cut_by_without es (cut_all e.start (e.start + e.len) old) (others_extents e es are) first.maximal)

-- ---- run by run

cut_all_append : (low high : ℕ) (xs ys : List Run) → cut_all low high (xs ++ ys) ≡ cut_all low high xs ++ cut_all low high ys
cut_all_append low high [] ys = refl
cut_all_append low high (r ∷ rs) ys =
    ap (λ (l : List Run). cut low high r ++ l) (cut_all_append low high rs ys) ∙ sym (append_assoc (cut low high r) (cut_all low high rs) (cut_all low high ys))

pub cut_by_append : (es xs ys : List Run) → cut_by es (xs ++ ys) ≡ cut_by es xs ++ cut_by es ys
cut_by_append [] xs ys = refl
cut_by_append (e ∷ es) xs ys =
    ap (cut_by es) (cut_all_append e.start (e.start + e.len) xs ys) ∙ cut_by_append es (cut_all e.start (e.start + e.len) xs) (cut_all e.start (e.start + e.len) ys)

pub cut_by_none : (es : List Run) → cut_by es [] ≡ []
cut_by_none [] = refl
cut_by_none (e ∷ es) = cut_by_none es

-- ---- piece by piece

between_some : (low high : ℕ) → low < high → between low high ≡ record { start = low; len = high - low } ∷ []
between_some low high some = let test : nat_lt low high ≡ true = grind (arith, nat_tests) in rw test refl

between_none : (low high : ℕ) → high ≤ low → between low high ≡ []
between_none low high none = let test : nat_lt low high ≡ false = grind (arith, nat_tests) in rw test refl

between_run : (r : Run) → 1 ≤ r.len → between r.start (r.start + r.len) ≡ r ∷ []
between_run r some =
    let size : r.start + r.len - r.start ≡ r.len = omega arith in
    between_some r.start (r.start + r.len) (omega arith) ∙ ap (λ (n : ℕ). record { start = r.start; len = n } ∷ []) size

pub none_between : (es : List Run) (low high : ℕ) → high ≤ low → cut_by es (between low high) ≡ []
none_between es low high none = ap (cut_by es) (between_none low high none) ∙ cut_by_none es

-- a run without the tracks of an extent is what lies in front of it and what lies after it
cut_between : (a b low high : ℕ) → low < high → cut_all a b (between low high) ≡ between low (min a high) ++ between (max low b) high
cut_between a b low high some =
    let end : low + (high - low) ≡ high = omega arith in
    let begin : max b low ≡ max low b = omega arith in
    ap (cut_all a b) (between_some low high some)
    ∙ append-nil (between low (min a (low + (high - low))) ++ between (max b low) (low + (high - low)))
    ∙ ap (λ (n : ℕ). between low (min a n) ++ between (max b low) n) end
    ∙ ap (λ (n : ℕ). between low (min a high) ++ between n high) begin

pub pieces_both : (e : Run) (es : List Run) (low high : ℕ) → low < high
    → length (cut_by (e ∷ es) (between low high)) ≡ length (cut_by es (between low (min e.start high))) + length (cut_by es (between (max low (e.start + e.len)) high))
pieces_both e es low high some =
    let front : List Run = between low (min e.start high) in
    let back : List Run = between (max low (e.start + e.len)) high in
    ap (λ (l : List Run). length (cut_by es l)) (cut_between e.start (e.start + e.len) low high some)
    ∙ ap length (cut_by_append es front back) ∙ length-append (cut_by es front) (cut_by es back)

abbrev pub no_run : Run
no_run = record { start = 0; len = 0 }

pub pieces_of : (taken : List Run) (low high end begin n m : ℕ) → 1 ≤ length taken → low < high → end ≡ min (get_or taken 0 no_run).start high → begin ≡ max low ((get_or taken 0 no_run).start + (get_or taken 0 no_run).len)
    → n ≡ length (cut_by (take (length taken - 1) (drop 1 taken)) (between low end)) → m ≡ length (cut_by (take (length taken - 1) (drop 1 taken)) (between begin high)) → n + m ≡ length (cut_by taken (between low high))
pieces_of [] low high end begin n m one some front back first second = absurd (omega (arith, one))
pieces_of (e ∷ es) low high end begin n m one some front back first second =
    let rest : take (length (e ∷ es) - 1) (drop 1 (e ∷ es)) ≡ es = take_all (length (e ∷ es) - 1) es (omega arith) in
    let first_of : n ≡ length (cut_by es (between low (min e.start high))) = first ∙ ap (λ (l : List Run). length (cut_by l (between low end))) rest ∙ ap (λ (k : ℕ). length (cut_by es (between low k))) front in
    let second_of : m ≡ length (cut_by es (between (max low (e.start + e.len)) high)) = second ∙ ap (λ (l : List Run). length (cut_by l (between begin high))) rest ∙ ap (λ (k : ℕ). length (cut_by es (between k high))) back in
    omega (arith, first_of, second_of, pieces_both e es low high some)

-- ---- a run more

pub rest_ends : (rs : List Run) (i : ℕ) (r : Run) → i < length rs → r ≡ get_or rs i r → EndBy 65535 (drop i rs) → EndBy 65535 (drop (i + 1) rs)
rest_ends rs i r there is ends =
    let both : EndBy 65535 (r ∷ drop (i + 1) rs) = subst (EndBy 65535) (drop-here rs i r there is) ends in
    both.1

pub first_some : (low : ℕ) (rs : List Run) (i : ℕ) (r : Run) → i < length rs → r ≡ get_or rs i r → AreApartFrom low (drop i rs) → 1 ≤ r.len
first_some low rs i r there is apart =
    let both : AreApartFrom low (r ∷ drop (i + 1) rs) = subst (AreApartFrom low) (drop-here rs i r there is) apart in
    both.1

pub counted_none : (es : List Run) → length (cut_by es []) ≡ 0
counted_none es = ap length (cut_by_none es)

-- the runs after one lie after its tracks
pub rest_apart : (low count : ℕ) (rs : List Run) (i : ℕ) (r : Run) → i < length rs → r ≡ get_or rs i r → count ≤ r.len → AreApartFrom low (drop i rs) → AreApartFrom (low + count) (drop (i + 1) rs)
rest_apart low count rs i r there is few apart =
    let both : AreApartFrom low (r ∷ drop (i + 1) rs) = subst (AreApartFrom low) (drop-here rs i r there is) apart in
    AreApartFrom-lower (r.start + r.len + 1) (low + count) (drop (i + 1) rs) (omega arith) both.2

pub counted_more : (es rs : List Run) (i : ℕ) (r : Run) (n m : ℕ) → i < length rs → r ≡ get_or rs i r → 1 ≤ r.len → n ≡ length (cut_by es (take i rs)) → m ≡ length (cut_by es (between r.start (r.start + r.len)))
    → n + m ≡ length (cut_by es (take (i + 1) rs))
counted_more es rs i r n m there is some first here =
    let run : between r.start (r.start + r.len) ≡ r ∷ [] = between_run r some in
    let more : take (i + 1) rs ≡ take i rs ++ r ∷ [] = take_more rs i r there ∙ ap (λ (x : Run). take i rs ++ x ∷ []) (sym is) in
    let both : length (cut_by es (take (i + 1) rs)) ≡ length (cut_by es (take i rs)) + length (cut_by es (r ∷ [])) =
    ap (λ (l : List Run). length (cut_by es l)) more ∙ ap length (cut_by_append es (take i rs) (r ∷ [])) ∙ length-append (cut_by es (take i rs)) (cut_by es (r ∷ [])) in
    omega (arith, first, here, both, ap (λ (l : List Run). length (cut_by es l)) run)
