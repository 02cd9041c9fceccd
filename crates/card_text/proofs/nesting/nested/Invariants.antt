use Rattle.std.proofs.Common.{◌≡◌, ◌≤◌, ◌++◌, drop}
use Rattle.card_text.specs.Nesting.{nested}
use Rattle.card_text.proofs.nesting.nested.Given as goal

abbrev pub invariant-loop-character : goal.invariant-loop-character
invariant-loop-character l = (l.depth ≤ l.character-index) × (l.marks.items ++ nested l.depth (drop l.character-index l.text) ≡ nested 0 l.text)
