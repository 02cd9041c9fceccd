-- The runs of the units from one on.
use Rattle.std.proofs.Common.{◌≡◌, ◌≤◌, drop, length}
use Rattle.vol_model.specs.Space.{runs_of}
use Rattle.plain_steps.proofs.space.runs_of.Given as goal

abbrev pub invariant-loop-at : goal.invariant-loop-at
invariant-loop-at l = (l.at ≤ length l.units) × (l.runs.items ≡ runs_of (drop l.at l.units))

abbrev pub decreases-loop-at : goal.decreases-loop-at
decreases-loop-at l = l.at
