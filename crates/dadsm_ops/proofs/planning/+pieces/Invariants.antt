use Rattle.std.proofs.Common.{length}
use Rattle.dadsm_ops.proofs.planning.+pieces.Given as goal

abbrev pub decreases-pieces : goal.decreases-pieces
decreases-pieces l = length l.taken.now
