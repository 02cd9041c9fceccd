use Rattle.vtoc_sets.proofs.TakenSlots.{AreTaken}
use Rattle.vtoc_sets.proofs.space.slots_of_sets.Given as goal

abbrev pub invariant-loop-dscb : goal.invariant-loop-dscb
invariant-loop-dscb l = AreTaken l.vol l.dscb-index l.slots
