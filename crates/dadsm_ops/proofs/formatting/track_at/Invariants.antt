use Rattle.dadsm_ops.proofs.RunTracks.{AreLeft}
use Rattle.dadsm_ops.proofs.formatting.track_at.Given as goal

abbrev pub invariant-loop-run : goal.invariant-loop-run
invariant-loop-run l = AreLeft l.runs l.k l.run-index l.left
