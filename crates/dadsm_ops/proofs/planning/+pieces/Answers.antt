use Rattle.std.proofs.Common.{ap, length, sym}
use Rattle.dadsm_ops.proofs.CutRuns.{none_between, pieces_of}
use Rattle.dadsm_ops.proofs.planning.+pieces.Goals as goal

pub returns-then-high-low-clause-runs : goal.returns-then-high-low-clause-runs
returns-then-high-low-clause-runs t c = sym (ap length (none_between c.args.taken.now c.args.low c.args.high c.if-high-low.true))

pub returns-in-len1-up-clause-runs : goal.returns-in-len1-up-clause-runs
returns-in-len1-up-clause-runs t c =
    pieces_of c.args.taken.now c.args.low c.args.high c.min.result c.max.result _ _ c.in-len1-up.len_at_least c.if-high-low.false c.min.ensures c.max.ensures c.pieces.ensures.runs c.pieces-in-len1-up.ensures.runs
