-- The slots so far stand after the front.
use Rattle.pack_spec.proofs.WrittenTracks.{SlotsWritten}
use Rattle.pack_spec.proofs.written.slots_track.Given as goal

abbrev pub invariant-loop-index : goal.invariant-loop-index
invariant-loop-index l = SlotsWritten l.at l.slots l.index l.track.items
