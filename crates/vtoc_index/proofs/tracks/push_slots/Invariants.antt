use Rattle.vtoc_index.proofs.SlotsRead.{AddsSoFar}
use Rattle.vtoc_index.proofs.tracks.push_slots.Given as goal

abbrev pub invariant-loop-passed : goal.invariant-loop-passed
invariant-loop-passed l = AddsSoFar l.geometry l.track l.buf.records l.passed l.initial.slots.items l.slots.items
