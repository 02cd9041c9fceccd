-- What comes next of old records and of cards, and what is left.
use Rattle.std.proofs.Common.{◌≡◌, ℕ, Bool, true, false, List, [], ◌∷◌, refl, ap, ◌∙◌}
use Rattle.std.specs.Prelude.{◌&&◌, if◌then◌else◌, Option, Some, None}
use Rattle.record_files.specs.Streams.{Stream, at_end, with_record}
use Rattle.update_forms.specs.declared.merging.Choice.{Choice}
use Rattle.update_forms.specs.declared.merging.Choice.TheVariants as choices
use Rattle.iebupdte_util.specs.declared.old_records.Next.{Next}
use Rattle.iebupdte_util.specs.declared.old_records.Next.TheVariants.{Wanted, Held, Ended}
use Rattle.update_forms.specs.declared.requests.Numbering.{Numbering}
use Rattle.update_forms.specs.declared.requests.Range.{Range}
use Rattle.iebupdte_util.specs.Edited.{held_if, left_with}
use Rattle.update_forms.specs.Editing.{stays}
use Rattle.update_forms.specs.Records.{is_before}
use Rattle.update_forms.specs.Merging.{among, chosen, choice_of, edited_of, fits_of, fits_on, merge, number_fits, number_given, numbered_on, numbering_after}

-- the first of cards, if there is one
abbrev pub first_of : List (List ℕ) → Option (List ℕ)
first_of [] = None
first_of (c ∷ cards) = Some c

module _ (ranges : List Range) (numbering : Option Numbering) (r : List ℕ) (st : Stream) where
  abbrev edited : Option Numbering → List (List ℕ) → Stream → Stream
  edited n cards s = edited_of ranges n cards s

  abbrev fits : Option Numbering → List (List ℕ) → Stream → Bool
  fits n cards s = fits_of ranges n cards s

  abbrev later : Option Numbering
  later = numbering_after numbering

  -- records that come of a merge
  as_edited : (b : Bool) (l m : List (List ℕ)) → l ≡ m → (let s : Stream = record { records = numbered_on numbering l; broken = b } in s) ≡ record { records = numbered_on numbering m; broken = b }
  as_edited b l m e = ap (λ (x : List (List ℕ)). record { records = numbered_on numbering x; broken = b }) e

  -- an old record comes, or is dropped
  module _ (cards : List (List ℕ)) where
    held_old : choice_of ranges (Some r) (first_of cards) ≡ choices.Old → merge st.broken ranges (r ∷ st.records) cards ≡ r ∷ merge st.broken ranges st.records cards
    unfolding choice_of merge
    held_old is = by_cards cards is
      where
        by_cards : (cs : List (List ℕ)) → choice_of ranges (Some r) (first_of cs) ≡ choices.Old → merge st.broken ranges (r ∷ st.records) cs ≡ r ∷ merge st.broken ranges st.records cs
        by_cards [] e = by_test (stays ranges r) e
          where
            by_test : (t : Bool) → (if t then choices.Old else choices.Drop) ≡ choices.Old
                → (if t then r ∷ merge st.broken ranges st.records [] else merge st.broken ranges st.records []) ≡ r ∷ merge st.broken ranges st.records []
            by_test true k = refl
            by_test false k = cc
        by_cards (c ∷ cs) e =
            ap (λ (x : Choice). chosen x r c (merge st.broken ranges st.records (c ∷ cs)) (among ranges r (λ l. merge st.broken ranges st.records l) cs) (merge st.broken ranges st.records cs)) e

    held_dropped : choice_of ranges (Some r) (first_of cards) ≡ choices.Drop → merge st.broken ranges (r ∷ st.records) cards ≡ merge st.broken ranges st.records cards
    unfolding choice_of merge
    held_dropped is = by_cards cards is
      where
        by_cards : (cs : List (List ℕ)) → choice_of ranges (Some r) (first_of cs) ≡ choices.Drop → merge st.broken ranges (r ∷ st.records) cs ≡ merge st.broken ranges st.records cs
        by_cards [] e = by_test (stays ranges r) e
          where
            by_test : (t : Bool) → (if t then choices.Old else choices.Drop) ≡ choices.Drop
                → (if t then r ∷ merge st.broken ranges st.records [] else merge st.broken ranges st.records []) ≡ merge st.broken ranges st.records []
            by_test true k = cc
            by_test false k = refl
        by_cards (c ∷ cs) e =
            ap (λ (x : Choice). chosen x r c (merge st.broken ranges st.records (c ∷ cs)) (among ranges r (λ l. merge st.broken ranges st.records l) cs) (merge st.broken ranges st.records cs)) e

    -- none of both is chosen where none is held
    no_old : choice_of ranges None (first_of cards) ≡ choices.Old → ⊥
    unfolding choice_of
    no_old is = by_cards cards is
      where
        by_cards : (cs : List (List ℕ)) → choice_of ranges None (first_of cs) ≡ choices.Old → ⊥
        by_cards [] e = cc
        by_cards (c ∷ cs) e = cc

    none_dropped : choice_of ranges None (first_of cards) ≡ choices.Drop → ⊥
    unfolding choice_of
    none_dropped is = by_cards cards is
      where
        by_cards : (cs : List (List ℕ)) → choice_of ranges None (first_of cs) ≡ choices.Drop → ⊥
        by_cards [] e = cc
        by_cards (c ∷ cs) e = cc

    pub old_edited : (next : Next) → (next ≡ Wanted → ⊥) → choice_of ranges (held_if next r) (first_of cards) ≡ choices.Old
        → (edited numbering cards (left_with next r st) ≡ with_record (number_given numbering r) (edited later cards st)) × (fits numbering cards (left_with next r st) ≡ (number_fits numbering && fits later cards st)) × (next ≡ Held)
    unfolding edited_of fits_of numbered_on fits_on
    old_edited Wanted not is = absurd (not refl)
    old_edited Held not is = (as_edited st.broken (merge st.broken ranges (r ∷ st.records) cards) (r ∷ merge st.broken ranges st.records cards) (held_old is), ap (fits_on numbering) (held_old is), refl)
    old_edited Ended not is = absurd (no_old is)

    pub old_dropped : (next : Next) → (next ≡ Wanted → ⊥) → choice_of ranges (held_if next r) (first_of cards) ≡ choices.Drop
        → (edited numbering cards (left_with next r st) ≡ edited numbering cards st) × (fits numbering cards (left_with next r st) ≡ fits numbering cards st) × (next ≡ Held)
    unfolding edited_of fits_of
    old_dropped Wanted not is = absurd (not refl)
    old_dropped Held not is = (as_edited st.broken (merge st.broken ranges (r ∷ st.records) cards) (merge st.broken ranges st.records cards) (held_dropped is), ap (fits_on numbering) (held_dropped is), refl)
    old_dropped Ended not is = absurd (none_dropped is)

  -- a card comes
  module _ (c : List ℕ) (cards : List (List ℕ)) where
    abbrev by_choice : Choice → List (List ℕ)
    by_choice x = chosen x r c (merge st.broken ranges st.records (c ∷ cards)) (merge st.broken ranges (r ∷ st.records) cards) (merge st.broken ranges st.records cards)

    held_card : merge st.broken ranges (r ∷ st.records) (c ∷ cards) ≡ by_choice (choice_of ranges (Some r) (Some c))
    unfolding choice_of merge
    held_card = refl

    pub card_edited : (next : Next) → (next ≡ Wanted → ⊥) → choice_of ranges (held_if next r) (Some c) ≡ choices.Card
        → (edited numbering (c ∷ cards) (left_with next r st) ≡ with_record (number_given numbering c) (edited later cards (left_with next r st)))
        × (fits numbering (c ∷ cards) (left_with next r st) ≡ (number_fits numbering && fits later cards (left_with next r st)))
    unfolding edited_of fits_of numbered_on fits_on merge
    card_edited Wanted not is = absurd (not refl)
    card_edited Held not is =
        (as_edited st.broken (merge st.broken ranges (r ∷ st.records) (c ∷ cards)) (c ∷ merge st.broken ranges (r ∷ st.records) cards) (held_card ∙ ap by_choice is), ap (fits_on numbering) (held_card ∙ ap by_choice is))
    card_edited Ended not is = (refl, refl)

    no_instead : choice_of ranges None (Some c) ≡ choices.Instead → ⊥
    unfolding choice_of
    no_instead is = cc

    pub card_instead_edited : (next : Next) → (next ≡ Wanted → ⊥) → choice_of ranges (held_if next r) (Some c) ≡ choices.Instead
        → (edited numbering (c ∷ cards) (left_with next r st) ≡ with_record (number_given numbering c) (edited later cards st))
        × (fits numbering (c ∷ cards) (left_with next r st) ≡ (number_fits numbering && fits later cards st)) × (next ≡ Held)
    unfolding edited_of fits_of numbered_on fits_on
    card_instead_edited Wanted not is = absurd (not refl)
    card_instead_edited Held not is =
        (as_edited st.broken (merge st.broken ranges (r ∷ st.records) (c ∷ cards)) (c ∷ merge st.broken ranges st.records cards) (held_card ∙ ap by_choice is), ap (fits_on numbering) (held_card ∙ ap by_choice is), refl)
    card_instead_edited Ended not is = absurd (no_instead is)

    -- there is a card, and so something comes
    pub not_at_end : (next : Next) → choice_of ranges (held_if next r) (Some c) ≡ choices.End → ⊥
    unfolding choice_of
    not_at_end Wanted is = cc
    not_at_end Held is = by_tests (is_before c r) (is_before r c) (stays ranges r) is
      where
        by_tests : (a b t : Bool) → (if a then choices.Card else (if b then (if t then choices.Old else choices.Drop) else choices.Instead)) ≡ choices.End → ⊥
        by_tests true b t e = cc
        by_tests false true true e = cc
        by_tests false true false e = cc
        by_tests false false t e = cc
    not_at_end Ended is = cc

  -- neither is left
  pub none_edited : (next : Next) → (next ≡ Wanted → ⊥) → (choice_of ranges (held_if next r) None ≡ choices.Old → ⊥) → (choice_of ranges (held_if next r) None ≡ choices.Drop → ⊥)
      → (next ≡ Ended) × (edited numbering [] (left_with next r st) ≡ at_end)
  unfolding choice_of edited_of merge numbered_on
  none_edited Wanted not no_old no_drop = absurd (not refl)
  none_edited Held not no_old no_drop = absurd (by_test (stays ranges r) no_old no_drop)
    where
      by_test : (t : Bool) → ((if t then choices.Old else choices.Drop) ≡ choices.Old → ⊥) → ((if t then choices.Old else choices.Drop) ≡ choices.Drop → ⊥) → ⊥
      by_test true one two = one refl
      by_test false one two = two refl
  none_edited Ended not no_old no_drop = (refl, refl)
