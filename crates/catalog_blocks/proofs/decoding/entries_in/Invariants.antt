use Rattle.std.proofs.Common.{◌≡◌, ◌+◌, length}
use Rattle.catalog_blocks.proofs.EntryReads.{after, read}
use Rattle.catalog_blocks.proofs.decoding.entries_in.Given as goal

abbrev pub invariant-loop-rest : goal.invariant-loop-rest
invariant-loop-rest l = (read 2 0 l.fn.bytes ≡ after l.entries (read l.at l.bound l.rest)) × (l.at + length l.rest ≡ 2 + length l.fn.bytes)

abbrev pub decreases-loop-rest : goal.decreases-loop-rest
decreases-loop-rest l = length l.rest
