use Rattle.std.proofs.Common.{◌≡◌, ◌++◌, length}
use Rattle.std.specs.List.{slice_split}
use Rattle.card_text.specs.Nesting.{is_separator}
use Rattle.job_deck.specs.Pieces.{placed_pieces}
use Rattle.job_deck.proofs.operands.placed_pieces.Given as goal

abbrev pub decreases-pieces : goal.decreases-pieces
decreases-pieces l = length l.rest

abbrev pub invariant-pieces : goal.invariant-pieces
invariant-pieces l =
    l.found.items ++ placed_pieces l.missing l.end l.rest (slice_split (is_separator 0) l.rest)
    ≡ placed_pieces l.missing l.end l.fn.field (slice_split (is_separator 0) l.fn.field)
