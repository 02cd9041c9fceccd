use Rattle.std.proofs.Common.{◌≡◌, ◌+◌, ◌≤◌, ◌++◌, ℕ, List, drop}
use Rattle.deck_cards.specs.Deck.{deck_of, room, IsFit}
use Rattle.deck_cards.proofs.reader.Reader.feed_all.Given as goal

abbrev pub invariant-loop-byte : goal.invariant-loop-byte
invariant-loop-byte l =
    IsFit l.self
    × ((rest : List ℕ) → deck_of l.self (drop l.byte-index l.bytes ++ rest) ≡ deck_of l.initial.self (l.bytes ++ rest))
    × (room l.self + l.byte-index ≤ room l.initial.self)
