use Rattle.std.proofs.Common.{arith, ◌∙◌}
use Rattle.vtoc_sets.proofs.OwnedPlaces.{left_all, left_end, left_here, left_later, left_none}
use Rattle.vtoc_sets.proofs.tracks.track_at.Goals as goal

pub loop-index-init : goal.loop-index-init
loop-index-init c = left_all c.args.vol.now c.args.set.now c.args.k

pub returns-in_err-run-clause-track : goal.returns-in_err-run-clause-track
returns-in_err-run-clause-track c image set =
    c.from_residual.ensures ∙ left_none c.args.vol.now c.args.set.now c.args.k c.loop-index.index c.loop-index.left c.loop-index.invariant image set (c.in_err-run.ensures image set)

pub returns-then-left-run-clause-track : goal.returns-then-left-run-clause-track
returns-then-left-run-clause-track c =
    left_here c.args.vol.now c.args.set.now c.args.k c.loop-index.index c.loop-index.left c.loop-index.invariant c.in_ok-run.run' c.track_in.result c.in_ok-run.ensures c.if-left-run.true c.track_in.ensures.track

pub loop-index-preserved : goal.loop-index-preserved
loop-index-preserved c =
    left_later c.args.vol.now c.args.set.now c.args.k c.loop-index.index c.loop-index.left c.loop-index.invariant c.in_ok-run.run' c.in_ok-run.ensures c.if-left-run.false

pub returns-clause-track : goal.returns-clause-track
returns-clause-track c =
    left_end c.args.vol.now c.args.set.now c.args.k c.loop-index.index c.loop-index.left c.loop-index.invariant (omega arith)
