use Rattle.std.proofs.Common.{◌≡◌, ◌+◌, [], ◌++◌, drop}
use Rattle.job_deck.specs.Deck.{cards_of}
use Rattle.job_deck.proofs.deck.cards_of.Given as goal

abbrev pub invariant-loop-card : goal.invariant-loop-card
invariant-loop-card l =
    (l.number ≡ l.card-index + 1) × (l.cards.items ++ cards_of l.number l.operands.items (drop l.card-index l.deck) ≡ cards_of 1 [] l.deck)
