use Rattle.std.proofs.Common.{ap, arith, length}
use Rattle.vtoc_sets.proofs.TakenSlots.{taken_all, taken_more}
use Rattle.vtoc_sets.proofs.space.slots_of_sets.Goals as goal

pub loop-dscb-preserved : goal.loop-dscb-preserved
loop-dscb-preserved c =
    taken_more c.args.vol.now c.loop-dscb.dscb-index c.loop-dscb.slots c.slots_of-slots.result c.deref-dscb-items.result.now _ c.deref-dscb-items.ensures.value c.loop-dscb.invariant c.loop-dscb-test.true c.slots_of-slots.ensures.few c.slots_of-slots.ensures.slots

pub returns-clause-slots : goal.returns-clause-slots
returns-clause-slots c image mounted =
    taken_all c.args.vol.now c.loop-dscb.dscb-index c.loop-dscb.slots (omega (arith, ap length c.deref-dscb-items.ensures.value)) c.loop-dscb.invariant image mounted
