use Rattle.std.proofs.Common.{arith}
use Rattle.vtoc_sets.proofs.SlotAddresses.{none_more}
use Rattle.dadsm_ops.proofs.ExtendedNames.{none_leads}
use Rattle.dadsm_ops.proofs.extending.further_of.Goals as goal

pub loop-slot-preserved : goal.loop-slot-preserved
loop-slot-preserved c =
    none_more c.args.vol.now c.args.set.now c.loop-slot.slot c.deref-dscb-items.result.now _ c.deref-dscb-items.ensures.value c.loop-slot.invariant (omega arith) (c.led_to.ensures.none c.in_default.is)

pub returns-clause-none : goal.returns-clause-none
returns-clause-none c is = none_leads c.args.vol.now c.args.set.now c.loop-slot.slot (omega arith) c.loop-slot.invariant
