use Rattle.vtoc_index.specs.Index.{address_in}
use Rattle.free_rebuild.proofs.HighestLemmas.{IsSoFar}
use Rattle.free_rebuild.proofs.highest.highest_in.Given as goal

abbrev pub invariant-loop-slot : goal.invariant-loop-slot
invariant-loop-slot l = record {
  highest : IsSoFar (address_in l.fn.vol) l.fn.vol.slots.items l.slot l.highest;
}
