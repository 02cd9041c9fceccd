use Rattle.std.proofs.Common.{◌≡◌, length, map, vec_items}
use Rattle.pds_directory.specs.Packed.{are_full}
use Rattle.pds_directory.proofs.PackedReads.{FitIfSome}
use Rattle.pds_directory.proofs.packed.are_full.Given as goal

abbrev pub invariant-loop-rest : goal.invariant-loop-rest
invariant-loop-rest l = (are_full (map vec_items l.fn.blocks) ≡ are_full (map vec_items l.rest)) × FitIfSome (map vec_items l.rest)

abbrev pub decreases-loop-rest : goal.decreases-loop-rest
decreases-loop-rest l = length l.rest
