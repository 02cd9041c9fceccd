use Rattle.std.proofs.Common.{◌≡◌, length, map, take}
use Rattle.seq_access.specs.Writing.{sizes}
use Rattle.seq_access.proofs.held.lengths_of.Given as goal

abbrev pub invariant-loop-index : goal.invariant-loop-index
invariant-loop-index l = (length l.lengths ≡ 255) × (take l.index l.lengths ≡ map sizes (take l.index l.buf.records))
