-- The records of cards, one after another.
use Rattle.std.proofs.Common.{◌≡◌, ℕ, List, [], ◌∷◌, length, refl, sym, ◌∙◌, ap, arith}
use Rattle.card_text.specs.declared.cards.Card.{Card}
use Rattle.record_files.specs.Reading.{card_records}
use Rattle.record_files.specs.Streams.{at_end, in_ebcdic, with_record}

no_cards : (l : List (ℕ × Card)) → length l ≡ 0 → l ≡ []
no_cards [] e = refl
no_cards (x ∷ l) e = absurd (omega (arith, e))

pub cards_none : (all : List (ℕ × Card)) → length all ≡ 0 → card_records all ≡ at_end
unfolding card_records
cards_none all is = ap (λ (l : List (ℕ × Card)). card_records l) (no_cards all is)

pub cards_first : (all : List (ℕ × Card)) (first : ℕ × Card) (others : List (ℕ × Card)) (rec : List ℕ) → all ≡ first ∷ others → rec ≡ in_ebcdic first.1.bytes → card_records all ≡ with_record rec (card_records others)
unfolding card_records
cards_first all first others rec is bytes = ap (λ (l : List (ℕ × Card)). card_records l) is ∙ ap (λ (r : List ℕ). with_record r (card_records others)) (sym bytes)
