use Rattle.std.proofs.Common.{◌≡◌, ◌≤◌, IsTrue}
use Rattle.deck_cards.specs.Deck.{deck, deck_of, room, IsFit}
use Rattle.deck_cards.proofs.source.read_deck.Given as goal

abbrev pub decreases-reads : goal.decreases-reads
decreases-reads g l = room l.reader

abbrev pub invariant-reads : goal.invariant-reads
invariant-reads g l =
    IsFit l.reader
    × (IsTrue g.C.Cards.tells → deck_of l.reader (g.C.Cards.left l.cards) ≡ deck (g.C.Cards.left l.initial.cards))
    × (g.C.Cards.faults l.initial.cards ≤ g.C.Cards.faults l.cards)
