use Rattle.std.proofs.Common.{arith, ◌∙◌}
use Rattle.vtoc_sets.proofs.FewRuns.{free_few}
use Rattle.vtoc_sets.proofs.TakenSlots.{needed_is}
use Rattle.vtoc_sets.proofs.space.slots_needed.Goals as goal

pub overflow_cast-len : goal.overflow_cast-len
overflow_cast-len c = omega (arith, free_few c.requires.unit.0 c.args.vol.now c.requires.unit.1, c.args.vol.now.free.ok.0)

pub slots_for-requires-clause-runs : goal.slots_for-requires-clause-runs
slots_for-requires-clause-runs c = omega (arith, free_few c.requires.unit.0 c.args.vol.now c.requires.unit.1, c.args.vol.now.free.ok.0)

pub returns : goal.returns
returns c image mounted =
    c.slots_for.ensures ∙ needed_is image c.args.vol.now mounted c.len.result c.slots_of_sets.result (omega (arith, c.args.vol.now.free.ok.0)) (c.slots_of_sets.ensures.slots image mounted)
