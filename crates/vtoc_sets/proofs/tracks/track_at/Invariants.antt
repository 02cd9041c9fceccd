use Rattle.vtoc_sets.proofs.OwnedPlaces.{AreLeft}
use Rattle.vtoc_sets.proofs.tracks.track_at.Given as goal

abbrev pub invariant-loop-index : goal.invariant-loop-index
invariant-loop-index l = AreLeft l.vol l.set l.k l.index l.left
