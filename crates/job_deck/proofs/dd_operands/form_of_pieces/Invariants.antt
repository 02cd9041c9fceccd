use Rattle.std.proofs.Common.{◌≡◌, drop}
use Rattle.job_deck.specs.DdOperands.{with_dd_pieces}
use Rattle.job_deck.specs.declared.dd_operands.DdForm.TheVariants as form
use Rattle.job_deck.proofs.dd_operands.form_of_pieces.Given as goal

abbrev pub invariant-loop-piece : goal.invariant-loop-piece
invariant-loop-piece l = with_dd_pieces l.date l.form (drop l.piece-index l.pieces) ≡ with_dd_pieces l.date form.Empty l.pieces
