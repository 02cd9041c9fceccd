use Rattle.std.proofs.Common.{◌≡◌, [], map, length}
use Rattle.std.specs.List.{slice_split}
use Rattle.card_text.specs.Nesting.{is_separator}
use Rattle.card_text.specs.Operands.{operand_view}
use Rattle.util_syntax.specs.Operands.{operands}
use Rattle.util_syntax.proofs.operands.operands.Given as goal

abbrev pub decreases-pieces : goal.decreases-pieces
decreases-pieces l = length l.rest

abbrev pub invariant-pieces : goal.invariant-pieces
invariant-pieces l =
    operands l.missing l.end (map operand_view l.found.items) l.rest (slice_split (is_separator 0) l.rest)
    ≡ operands l.missing l.end [] l.fn.field (slice_split (is_separator 0) l.fn.field)
