use Rattle.std.proofs.Common.{subst, sym}
use Rattle.dscb_codec.specs.declared.Dscb.{Dscb}
use Rattle.vtoc_sets.specs.Sets.{TakesSlots, extents_in}
use Rattle.vtoc_sets.proofs.TakenSlots.{one_slot, two_slots}
use Rattle.vtoc_sets.proofs.space.slots_of.Goals as goal

pub returns-in-Some-clause-slots : goal.returns-in-Some-clause-slots
returns-in-Some-clause-slots c image =
    subst (λ (d : Dscb). TakesSlots image c.args.vol.now d 2) (sym c.in-F1.is) (λ set. two_slots (extents_in image c.args.vol.now c.in-F1.set) c.in-Some.field-0 (c.in-Some.ensures image set))

pub returns-in-None-clause-slots : goal.returns-in-None-clause-slots
returns-in-None-clause-slots c image =
    subst (λ (d : Dscb). TakesSlots image c.args.vol.now d 1) (sym c.in-F1.is) (λ set. one_slot (extents_in image c.args.vol.now c.in-F1.set) (c.in-None.ensures image set))
