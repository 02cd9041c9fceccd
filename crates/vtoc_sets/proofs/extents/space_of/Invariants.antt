use Rattle.vtoc_sets.proofs.CountedSpace.{IsCounted}
use Rattle.vtoc_sets.proofs.extents.space_of.Given as goal

abbrev pub invariant-loop-k : goal.invariant-loop-k
invariant-loop-k l = IsCounted l.vol l.set l.k l.space.extents l.space.tracks
