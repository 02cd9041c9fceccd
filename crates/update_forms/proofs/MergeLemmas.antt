-- Old records and cards that rise, merged one by one, are those that are put among each other.
use Rattle.std.proofs.Common.{◌≡◌, ℕ, Bool, true, false, List, [], ◌∷◌, refl, sym, ap, ◌∙◌}
use Rattle.std.specs.Prelude.{◌&&◌, if◌then◌else◌}
use Rattle.update_forms.specs.declared.merging.Choice.TheVariants as choices
use Rattle.update_forms.specs.declared.requests.Range.{Range}
use Rattle.update_forms.specs.Editing.{merged, rises, rises_after, stays}
use Rattle.update_forms.specs.Merging.{among, chosen, merge}
use Rattle.update_forms.specs.Records.{is_before}
use Rattle.update_forms.proofs.PutLemmas.{AllAfter, after_both, all_after, card_first, card_instead, old_first}

-- ---- merging is putting

others_rise : (c : List ℕ) (cards : List (List ℕ)) → rises (c ∷ cards) ≡ true → rises cards ≡ true
unfolding rises
others_rise c [] h = refl
others_rise c (d ∷ cards) h = by_tests (is_before c d) (rises_after d cards) h
  where
    by_tests : (a b : Bool) → (a && b) ≡ true → b ≡ true
    by_tests true b h = h
    by_tests false b h = cc

after_first : (c : List ℕ) (cards : List (List ℕ)) → rises (c ∷ cards) ≡ true → AllAfter c cards
unfolding rises
after_first c cards h = all_after c cards h

cards_alone : (ranges : List Range) (cards : List (List ℕ)) → rises cards ≡ true → merged ranges [] cards ≡ cards
unfolding merged AllAfter
cards_alone ranges [] h = refl
cards_alone ranges (c ∷ cards) h = card_first ranges [] cards c tt (after_first c cards h) ∙ ap (λ (l : List (List ℕ)). c ∷ l) (cards_alone ranges cards (others_rise c cards h))

module _ (ranges : List Range) (r : List ℕ) (olds : List (List ℕ)) (others : (cards : List (List ℕ)) → rises cards ≡ true → merge false ranges olds cards ≡ merged ranges olds cards) (after : AllAfter r olds) where
  abbrev old_or_none : Bool → List (List ℕ) → List (List ℕ)
  old_or_none b l = if b then r ∷ l else l

  among_merged : (cards : List (List ℕ)) → rises cards ≡ true → among ranges r (λ cs. merge false ranges olds cs) cards ≡ merged ranges (r ∷ olds) cards
  unfolding rises AllAfter
  among_merged [] h = ap (old_or_none (stays ranges r)) (others [] refl) ∙ sym (old_first ranges r olds [] tt)
  among_merged (c ∷ cards) h = by_choice (is_before c r) (is_before r c) (stays ranges r) refl refl refl (among_merged cards (others_rise c cards h))
    where
      cards_after : AllAfter c cards
      cards_after = after_first c cards h

      by_choice : (a b s : Bool) → is_before c r ≡ a → is_before r c ≡ b → stays ranges r ≡ s
          → among ranges r (λ cs. merge false ranges olds cs) cards ≡ merged ranges (r ∷ olds) cards
          → chosen (if a then choices.Card else (if b then (if s then choices.Old else choices.Drop) else choices.Instead)) r c
          (merge false ranges olds (c ∷ cards)) (among ranges r (λ cs. merge false ranges olds cs) cards) (merge false ranges olds cards) ≡ merged ranges (r ∷ olds) (c ∷ cards)
      by_choice true b s before same kept further =
          ap (λ (l : List (List ℕ)). c ∷ l) further ∙ sym (card_first ranges (r ∷ olds) cards c (after_both c r olds before after) cards_after)
      by_choice false true true before same kept further =
          ap (λ (l : List (List ℕ)). r ∷ l) (others (c ∷ cards) h) ∙ sym (old_first ranges r olds (c ∷ cards) (after_both r c cards same cards_after) ∙ ap (λ (t : Bool). old_or_none t (merged ranges olds (c ∷ cards))) kept)
      by_choice false true false before same kept further =
          others (c ∷ cards) h ∙ sym (old_first ranges r olds (c ∷ cards) (after_both r c cards same cards_after) ∙ ap (λ (t : Bool). old_or_none t (merged ranges olds (c ∷ cards))) kept)
      by_choice false false s before same kept further =
          ap (λ (l : List (List ℕ)). c ∷ l) (others cards (others_rise c cards h)) ∙ sym (card_instead ranges r olds cards c same before after cards_after)

pub merge_merged : (ranges : List Range) (olds cards : List (List ℕ)) → rises olds ≡ true → rises cards ≡ true → merge false ranges olds cards ≡ merged ranges olds cards
unfolding merge
merge_merged ranges [] cards h k = sym (cards_alone ranges cards k)
merge_merged ranges (r ∷ olds) cards h k =
    among_merged ranges r olds (λ (cs : List (List ℕ)) (rise : rises cs ≡ true). merge_merged ranges olds cs (others_rise r olds h) rise) (after_first r olds h) cards k

-- without cards and ranges the old records stay
pub merge_plain : (olds : List (List ℕ)) → merge false [] olds [] ≡ olds
unfolding merge stays
merge_plain [] = refl
merge_plain (r ∷ olds) = ap (λ (l : List (List ℕ)). r ∷ l) (merge_plain olds)

-- without old records the cards stay
pub merge_cards : (ranges : List Range) (cards : List (List ℕ)) → merge false ranges [] cards ≡ cards
unfolding merge
merge_cards ranges cards = refl
