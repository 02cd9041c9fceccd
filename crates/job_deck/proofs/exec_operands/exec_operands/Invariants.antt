use Rattle.std.proofs.Common.{◌≡◌, drop}
use Rattle.job_deck.specs.ExecOperands.{with_exec_pieces, no_exec_operands}
use Rattle.job_deck.proofs.exec_operands.exec_operands.Given as goal

abbrev pub invariant-loop-piece : goal.invariant-loop-piece
invariant-loop-piece l = with_exec_pieces l.operands (drop l.piece-index l.pieces) ≡ with_exec_pieces no_exec_operands l.pieces
