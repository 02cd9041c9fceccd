use Rattle.space_alloc.specs.Units.{listed}
use Rattle.dadsm_ops.proofs.CutRuns.{extents_within}
use Rattle.dadsm_ops.proofs.NewPlans.{free_within}
use Rattle.dadsm_ops.proofs.planning.take_runs.Goals as goal

pub remove_all-requires-clause-within : goal.remove_all-requires-clause-within
remove_all-requires-clause-within c = free_within c.args.vol.now c.requires.unit

pub remove_all-requires-clause-runs_within : goal.remove_all-requires-clause-runs_within
remove_all-requires-clause-runs_within c = rw c.from.ensures (extents_within (listed c.args.extents.now) c.requires.written)
