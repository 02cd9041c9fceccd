use Rattle.vtoc_sets.proofs.SlotAddresses.{NoneLeads}
use Rattle.dadsm_ops.proofs.extending.further_of.Given as goal

abbrev pub invariant-loop-slot : goal.invariant-loop-slot
invariant-loop-slot l = NoneLeads l.vol l.set l.slot
