use Rattle.std.proofs.Common.{◌≡◌, ◌+◌, ◌++◌, drop}
use Rattle.card_text.specs.Characters.{characters_of}
use Rattle.card_text.proofs.characters.characters_of.Given as goal

abbrev pub invariant-loop-byte : goal.invariant-loop-byte
invariant-loop-byte l =
    (l.column ≡ l.byte-index + 1)
    × (l.text.items ++ characters_of l.quoted l.card l.column (drop l.byte-index l.columns) ≡ characters_of l.fn.quoted l.card 1 l.columns)
