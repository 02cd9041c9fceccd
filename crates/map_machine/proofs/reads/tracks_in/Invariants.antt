-- The tracks of the extents so far, each of which has fewer than 65,536.
use Rattle.std.proofs.Common.{◌≡◌, ◌≤◌, ◌*◌, take}
use Rattle.vol_model.specs.Places.{tracks_in}
use Rattle.map_machine.proofs.reads.tracks_in.Given as goal

abbrev pub invariant-loop-run : goal.invariant-loop-run
invariant-loop-run l = (l.tracks ≡ tracks_in (take l.run-index l.runs)) × (l.tracks ≤ 65535 * l.run-index)
