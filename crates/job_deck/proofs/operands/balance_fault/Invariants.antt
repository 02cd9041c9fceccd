use Rattle.std.proofs.Common.{◌≡◌, drop}
use Rattle.job_deck.specs.Pieces.{balance_fault}
use Rattle.job_deck.proofs.operands.balance_fault.Given as goal

abbrev pub invariant-loop-piece : goal.invariant-loop-piece
invariant-loop-piece l = balance_fault (drop l.piece-index l.pieces) ≡ balance_fault l.pieces
