use Rattle.std.proofs.Common.{◌≡◌, ◌≤◌, ◌+◌, ◌*◌}
use Rattle.track_records.specs.Updates.{offset_of}
use Rattle.seq_access.proofs.held.end_of.Given as goal

abbrev pub invariant-loop-index : goal.invariant-loop-index
invariant-loop-index l = (l.at ≡ 21 + offset_of l.buf.records l.index) × (l.at ≤ 21 + l.index * 33023)
