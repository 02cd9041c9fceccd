-- What people rely on in a CHANGE and in numbers.
use Rattle.std.proofs.Common.{◌≡◌, ℕ, zero, suc, ◌+◌, Bool, true, false, List, [], ◌∷◌, refl, sym, ap, ◌∙◌}
use Rattle.std.specs.Prelude.{◌&&◌, ◌||◌, not, if◌then◌else◌, filter, slice_get, Some, None, option_map, option_and_then}
use Rattle.std.specs.List.{AllByRecursion}
use Rattle.update_forms.specs.declared.merging.Choice.TheVariants as choices
use Rattle.update_forms.specs.declared.requests.Range.{Range}
use Rattle.update_forms.specs.Editing.{made, merged, numbered, numbers_fit, renumbered, rises, stays, taken}
use Rattle.update_forms.specs.Laws.{NothingChanges, NumbersRise, OthersStay, has_its_sequence, has_sequence, number_at}
use Rattle.update_forms.specs.Merging.{among, chosen, merge}
use Rattle.update_forms.specs.Records.{is_before, sequence, with_number}
use Rattle.update_forms.proofs.MergeLemmas.{merge_merged}
use Rattle.update_forms.proofs.PutLemmas.{all_imply, not_after}

-- ---- a CHANGE of nothing

all_stay : (olds : List (List ℕ)) → filter (stays []) olds ≡ olds
unfolding stays
all_stay [] = refl
all_stay (r ∷ olds) = ap (λ (l : List (List ℕ)). r ∷ l) (all_stay olds)

pub nothing_changes : NothingChanges
unfolding made taken merged numbered rises
nothing_changes olds h =
    ap (λ (b : Bool). option_and_then (numbered None) (if b && true then Some (filter (stays []) olds) else None)) h ∙ ap Some (all_stay olds)

-- ---- the other records

-- a record doesn't stand before itself
not_itself : (c : List ℕ) → is_before c c ≡ false
not_itself c = by_test (is_before c c) refl
  where
    by_test : (b : Bool) → is_before c c ≡ b → b ≡ false
    by_test true h = sym h ∙ not_after (sequence c) (sequence c) h
    by_test false h = refl

-- the records of a card's sequence are found by all cards
abbrev IsAmong : List (List ℕ) → List ℕ → Type 0
IsAmong all card = (r : List ℕ) → is_before card r ≡ false → is_before r card ≡ false → has_sequence all r ≡ true

or_true : (a : Bool) → (a || true) ≡ true
or_true true = refl
or_true false = refl

all_among : (cards : List (List ℕ)) → AllByRecursion (IsAmong cards) cards
all_among [] = tt
all_among (c ∷ cards) = (
  λ (r : List ℕ) (h : is_before c r ≡ false) (k : is_before r c ≡ false).
      ap (λ (a : Bool). (not a && not (is_before r c)) || has_sequence cards r) h ∙ ap (λ (b : Bool). not b || has_sequence cards r) k,
  all_imply (IsAmong cards) (IsAmong (c ∷ cards))
      (λ (x : List ℕ) (is : IsAmong cards x) (r : List ℕ) (h : is_before x r ≡ false) (k : is_before r x ≡ false).
      ap (λ (b : Bool). has_its_sequence r c || b) (is r h k) ∙ or_true (has_its_sequence r c)) cards (all_among cards),
)

module _ (ranges : List Range) (all : List (List ℕ)) where
  abbrev is_other : List ℕ → Bool
  is_other r = not (has_sequence all r)

  abbrev is_left : List ℕ → Bool
  is_left r = stays ranges r && is_other r

  -- what is first in a list is left out of it, or not
  test_out : (p : List ℕ → Bool) (x : List ℕ) (xs : List (List ℕ)) → p x ≡ false → filter p (x ∷ xs) ≡ filter p xs
  test_out p x xs h = ap (λ (b : Bool). if b then x ∷ filter p xs else filter p xs) h

  others_alike : (p : List ℕ → Bool) (x : List ℕ) (xs ys : List (List ℕ)) (b : Bool) → xs ≡ ys → (if b then x ∷ xs else xs) ≡ (if b then x ∷ ys else ys)
  others_alike p x xs ys b e = ap (λ (l : List (List ℕ)). if b then x ∷ l else l) e

  none_of : (cards : List (List ℕ)) → AllByRecursion (IsAmong all) cards → filter is_other cards ≡ []
  none_of [] are = refl
  none_of (c ∷ cards) are = test_out is_other c cards (ap not (are.0 c (not_itself c) (not_itself c))) ∙ none_of cards are.1

  module _ (r : List ℕ) (olds : List (List ℕ)) (others : (cards : List (List ℕ)) → AllByRecursion (IsAmong all) cards → filter is_other (merge false ranges olds cards) ≡ filter is_left olds) where
    by_stay : (s : Bool) (xs : List (List ℕ)) → stays ranges r ≡ s → filter is_other xs ≡ filter is_left olds → filter is_other (if s then r ∷ xs else xs) ≡ filter is_left (r ∷ olds)
    by_stay true xs kept e = others_alike is_other r (filter is_other xs) (filter is_left olds) (is_other r) e ∙ sym (ap (λ (b : Bool). if b && is_other r then r ∷ filter is_left olds else filter is_left olds) kept)
    by_stay false xs kept e = e ∙ sym (ap (λ (b : Bool). if b && is_other r then r ∷ filter is_left olds else filter is_left olds) kept)

    out_of_order : has_sequence all r ≡ true → filter is_left (r ∷ olds) ≡ filter is_left olds
    out_of_order h = by_test (stays ranges r)
      where
        by_test : (s : Bool) → (if s && is_other r then r ∷ filter is_left olds else filter is_left olds) ≡ filter is_left olds
        by_test true = ap (λ (b : Bool). if not b then r ∷ filter is_left olds else filter is_left olds) h
        by_test false = refl

    among_others : (cards : List (List ℕ)) → AllByRecursion (IsAmong all) cards → filter is_other (among ranges r (λ cs. merge false ranges olds cs) cards) ≡ filter is_left (r ∷ olds)
    among_others [] are = by_stay (stays ranges r) (merge false ranges olds []) refl (others [] tt)
    among_others (c ∷ cards) are = by_choice (is_before c r) (is_before r c) (stays ranges r) refl refl refl (among_others cards are.1)
      where
        out : (xs : List (List ℕ)) → filter is_other (c ∷ xs) ≡ filter is_other xs
        out xs = test_out is_other c xs (ap not (are.0 c (not_itself c) (not_itself c)))

        by_choice : (a b s : Bool) → is_before c r ≡ a → is_before r c ≡ b → stays ranges r ≡ s
            → filter is_other (among ranges r (λ cs. merge false ranges olds cs) cards) ≡ filter is_left (r ∷ olds)
            → filter is_other (chosen (if a then choices.Card else (if b then (if s then choices.Old else choices.Drop) else choices.Instead)) r c
            (merge false ranges olds (c ∷ cards)) (among ranges r (λ cs. merge false ranges olds cs) cards) (merge false ranges olds cards)) ≡ filter is_left (r ∷ olds)
        by_choice true b s before same kept further = out (among ranges r (λ cs. merge false ranges olds cs) cards) ∙ further
        by_choice false true true before same kept further = by_stay true (merge false ranges olds (c ∷ cards)) kept (others (c ∷ cards) are)
        by_choice false true false before same kept further = by_stay false (merge false ranges olds (c ∷ cards)) kept (others (c ∷ cards) are)
        by_choice false false s before same kept further = out (merge false ranges olds cards) ∙ others cards are.1 ∙ sym (out_of_order (are.0 r before same))

  others_left : (olds cards : List (List ℕ)) → AllByRecursion (IsAmong all) cards → filter is_other (merge false ranges olds cards) ≡ filter is_left olds
  unfolding merge
  others_left [] cards are = none_of cards are
  others_left (r ∷ olds) cards are = among_others r olds (λ (cs : List (List ℕ)) (a : AllByRecursion (IsAmong all) cs). others_left olds cs a) cards are

pub others_stay : OthersStay
unfolding made taken numbered
others_stay ranges olds cards rs is = by_tests (rises olds) (rises cards) refl refl is
  where
    by_tests : (a b : Bool) → rises olds ≡ a → rises cards ≡ b → option_and_then (numbered None) (if a && b then Some (merged ranges olds cards) else None) ≡ Some rs
        → filter (is_other ranges cards) rs ≡ filter (is_left ranges cards) olds
    by_tests true true one two h =
        let same : merged ranges olds cards ≡ rs = cc in
        ap (filter (is_other ranges cards)) (sym same ∙ sym (merge_merged ranges olds cards one two)) ∙ others_left ranges cards olds cards (all_among cards)
    by_tests true false one two h = cc
    by_tests false b one two h = cc

-- ---- numbers

number_on : (first step k : ℕ) → number_at (first + step) step k ≡ number_at first step k + step
number_on first step zero = refl
number_on first step (suc k) = ap (λ (m : ℕ). m + step) (number_on first step k)

numbers_at : (first step : ℕ) (rs : List (List ℕ)) (k : ℕ) → slice_get (renumbered first step rs) k ≡ option_map (with_number (number_at first step k)) (slice_get rs k)
numbers_at first step [] zero = refl
numbers_at first step [] (suc k) = refl
numbers_at first step (r ∷ rs) zero = refl
numbers_at first step (r ∷ rs) (suc k) = numbers_at (first + step) step rs k ∙ ap (λ (m : ℕ). option_map (with_number m) (slice_get rs k)) (number_on first step k)

pub numbers_rise : NumbersRise
unfolding numbered
numbers_rise n rs numbers is k = by_test (numbers_fit n.first n.step rs) is
  where
    by_test : (b : Bool) → (if b then Some (renumbered n.first n.step rs) else None) ≡ Some numbers → slice_get numbers k ≡ option_map (with_number (number_at n.first n.step k)) (slice_get rs k)
    by_test true h = let same : renumbered n.first n.step rs ≡ numbers = cc in ap (λ (l : List (List ℕ)). slice_get l k) (sym same) ∙ numbers_at n.first n.step rs k
    by_test false h = cc
