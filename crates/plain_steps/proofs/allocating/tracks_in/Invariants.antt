-- The tracks of the extents so far.
use Rattle.std.proofs.Common.{◌≡◌, take}
use Rattle.vol_model.specs.Places.{tracks_in}
use Rattle.plain_steps.proofs.allocating.tracks_in.Given as goal

abbrev pub invariant-loop-run : goal.invariant-loop-run
invariant-loop-run l = l.tracks ≡ tracks_in (take l.run-index l.runs)
