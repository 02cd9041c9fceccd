use Rattle.std.proofs.Common.{◌≡◌, drop}
use Rattle.std.specs.List.{list_any}
use Rattle.job_deck.specs.Taken.{asks_for_old}
use Rattle.job_deck.proofs.taken.has_old.Given as goal

abbrev pub invariant-loop-piece : goal.invariant-loop-piece
invariant-loop-piece l = list_any asks_for_old (drop l.piece-index l.pieces) ≡ list_any asks_for_old l.pieces
