-- Which track of a VTOC holds a slot.
use Rattle.std.proofs.Common.{◌≡◌, ◌<◌, ◌≤◌, ◌+◌, ℕ, zero, suc, Bool, List, [], ◌∷◌, length, get_or, refl, ◌∙◌, ap, ⊎_elim, arith}
use Rattle.std.specs.Prelude.{nat_le, map, filter}
use Rattle.std.specs.List.{range_with_len}
use Rattle.std.proofs.lemmas.Bool.{cases_lt, cond-true, cond-false, le-leb, lt-leb}
use Rattle.vtoc_index.specs.Index.{AreFirsts, track_index}

-- a first slot that doesn't stand after another
abbrev pub passes : ℕ → ℕ → Bool
passes slot first = nat_le first slot

kept : (slot first : ℕ) (firsts : List ℕ) → first ≤ slot → length (filter (passes slot) (first ∷ firsts)) ≡ suc (length (filter (passes slot) firsts))
kept slot first firsts low = ap length (cond-true (nat_le first slot) (first ∷ filter (passes slot) firsts) (filter (passes slot) firsts) (le-leb first slot low))

left_out : (slot first : ℕ) (firsts : List ℕ) → slot < first → length (filter (passes slot) (first ∷ firsts)) ≡ length (filter (passes slot) firsts)
left_out slot first firsts high = ap length (cond-false (nat_le first slot) (first ∷ filter (passes slot) firsts) (filter (passes slot) firsts) (lt-leb first slot high))

-- The track that holds a slot, by the first slots of all: the last that doesn't stand after it.
pub record Located (firsts : List ℕ) (slot : ℕ) : Type 0 where
  pub index : ℕ
  pub passed : length (filter (passes slot) firsts) ≡ suc index
  pub inside : index < length firsts
  pub low : get_or firsts index 0 ≤ slot
  pub near : slot < get_or firsts index 0 + 255

none_passed : (number : ℕ) (firsts : List ℕ) (end slot : ℕ) → AreFirsts number firsts end → slot < number → length (filter (passes slot) firsts) ≡ 0
none_passed number [] end slot are before = refl
none_passed number (first ∷ firsts) end slot are before =
    left_out slot first firsts (omega (arith, are.0, before)) ∙ none_passed (number + are.1.0) firsts end slot are.1.2 (omega (arith, before))

pub located : (number : ℕ) (firsts : List ℕ) (end slot : ℕ) → AreFirsts number firsts end → number ≤ slot → slot < end → Located firsts slot
located number [] end slot are from below = absurd (omega (arith, are, from, below))
located number (first ∷ firsts) end slot are from below =
    ⊎_elim
    (λ here. record {
      index = 0;
      passed = kept slot first firsts (omega (arith, are.0, from)) ∙ ap suc (none_passed (number + are.1.0) firsts end slot are.1.2 here);
      inside = omega arith;
      low = omega (arith, are.0, from);
      near = omega (arith, are.0, here, are.1.1);
    })
    (λ past. later past (located (number + are.1.0) firsts end slot are.1.2 past below))
    (cases_lt slot (number + are.1.0))
  where
    later : number + are.1.0 ≤ slot → Located firsts slot → Located (first ∷ firsts) slot
    later past l = record {
      index = suc l.index;
      passed = kept slot first firsts (omega (arith, are.0, from)) ∙ ap suc l.passed;
      inside = omega (arith, l.inside);
      low = l.low;
      near = l.near;
    }

pub index_is : (firsts : List ℕ) (slot : ℕ) (l : Located firsts slot) → track_index firsts slot ≡ l.index
index_is firsts slot l = omega (arith, l.passed)

-- The same, where the first slots are counted: so many stand before each track.
pub record Counted (count : ℕ → ℕ) (a n slot : ℕ) : Type 0 where
  pub index : ℕ
  pub passed : length (filter (passes slot) (map count (range_with_len a n))) ≡ suc index
  pub inside : index < n
  pub low : count (a + index) ≤ slot
  pub high : slot < count (a + suc index)

none_counted : (count : ℕ → ℕ) (a n slot : ℕ) → ((j : ℕ) → count j ≤ count (suc j)) → slot < count a → length (filter (passes slot) (map count (range_with_len a n))) ≡ 0
none_counted count a zero slot grows before = refl
none_counted count a (suc n) slot grows before =
    let next : a + 1 ≡ suc a = omega arith in
    let behind : slot < count (a + 1) = omega (arith, grows a, ap count next) in
    left_out slot (count a) (map count (range_with_len (a + 1) n)) before ∙ none_counted count (a + 1) n slot grows behind

pub counted : (count : ℕ → ℕ) (a n slot : ℕ) → ((j : ℕ) → count j ≤ count (suc j)) → count a ≤ slot → slot < count (a + n) → Counted count a n slot
counted count a zero slot grows from below =
    let end : a + 0 ≡ a = omega arith in
    absurd (omega (arith, from, below, ap count end))
counted count a (suc n) slot grows from below =
    ⊎_elim
    (λ here. let first : a + 0 ≡ a = omega arith in let second : a + 1 ≡ a + suc 0 = omega arith in record {
      index = 0;
      passed = kept slot (count a) (map count (range_with_len (a + 1) n)) from ∙ ap suc (none_counted count (a + 1) n slot grows here);
      inside = omega arith;
      low = omega (arith, from, ap count first);
      high = omega (arith, here, ap count second);
    })
    (λ past. let end : a + 1 + n ≡ a + suc n = omega arith in later (counted count (a + 1) n slot grows past (omega (arith, below, ap count end))))
    (cases_lt slot (count (a + 1)))
  where
    later : Counted count (a + 1) n slot → Counted count a (suc n) slot
    later l =
        let one : a + 1 + l.index ≡ a + suc l.index = omega arith in
        let two : a + 1 + suc l.index ≡ a + suc (suc l.index) = omega arith in
        record {
          index = suc l.index;
          passed = kept slot (count a) (map count (range_with_len (a + 1) n)) from ∙ ap suc l.passed;
          inside = omega (arith, l.inside);
          low = omega (arith, l.low, ap count one);
          high = omega (arith, l.high, ap count two);
        }
