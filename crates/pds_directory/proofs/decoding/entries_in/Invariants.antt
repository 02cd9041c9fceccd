use Rattle.std.proofs.Common.{◌≡◌, length}
use Rattle.std.specs.Option.{option_map}
use Rattle.pds_directory.proofs.ReadEntries.{behind, read}
use Rattle.pds_directory.proofs.decoding.entries_in.Given as goal

abbrev pub invariant-loop-rest : goal.invariant-loop-rest
invariant-loop-rest l = read l.fn.bytes ≡ option_map (behind l.entries.items) (read l.rest)

abbrev pub decreases-loop-rest : goal.decreases-loop-rest
decreases-loop-rest l = length l.rest
