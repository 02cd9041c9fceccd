use Rattle.std.proofs.Common.{arith, sym}
use Rattle.std.specs.Option.{option_copied}
use Rattle.vtoc_sets.proofs.SlotAddresses.{led, led_not, none_more}
use Rattle.vtoc_sets.proofs.extents.format_3_of.Goals as goal

pub returns-then-leads_to : goal.returns-then-leads_to
returns-then-leads_to c image index =
    led image c.args.vol.now c.args.set.now index c.loop-slot.slot c.deref-dscb-items.result.now _ (option_copied c.as_format_3.result) c.deref-dscb-items.ensures.value (omega arith) (sym c.if-leads_to.ensures) c.loop-slot.invariant c.as_format_3.ensures

pub loop-slot-preserved : goal.loop-slot-preserved
loop-slot-preserved c =
    none_more c.args.vol.now c.args.set.now c.loop-slot.slot c.deref-dscb-items.result.now _ c.deref-dscb-items.ensures.value c.loop-slot.invariant (omega arith) (sym c.if-leads_to.ensures)

pub returns : goal.returns
returns c image index =
    led_not image c.args.vol.now c.args.set.now index c.loop-slot.slot (omega arith) c.loop-slot.invariant
