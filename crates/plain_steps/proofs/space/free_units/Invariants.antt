-- The free units so far.
use Rattle.std.proofs.Common.{◌≡◌}
use Rattle.vol_model.specs.Space.{free_units, is_unowned}
use Rattle.plain_steps.proofs.space.free_units.Given as goal

abbrev pub invariant-loop-unit : goal.invariant-loop-unit
invariant-loop-unit l = l.units.items ≡ free_units (is_unowned l.volume) l.size l.unit
