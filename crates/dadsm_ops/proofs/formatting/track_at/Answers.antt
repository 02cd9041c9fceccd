-- The run that has the track, after those before it.
use Rattle.dadsm_ops.proofs.RunTracks.{left_here, left_later, left_none}
use Rattle.dadsm_ops.proofs.formatting.track_at.Goals as goal

pub returns-then-left-run : goal.returns-then-left-run
returns-then-left-run c = left_here c.args.runs.now c.args.k c.loop-run.run-index c.loop-run.left _ c.loop-run-test.true c.loop-run.invariant c.if-left-run.true

pub loop-run-preserved : goal.loop-run-preserved
loop-run-preserved c = left_later c.args.runs.now c.args.k c.loop-run.run-index c.loop-run.left _ c.loop-run-test.true c.loop-run.invariant c.if-left-run.false

pub unreachable-requires : goal.unreachable-requires
unreachable-requires c = left_none c.args.runs.now c.args.k c.loop-run.run-index c.loop-run.left c.loop-run-test.false c.loop-run.invariant
