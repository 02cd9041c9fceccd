use Rattle.std.proofs.Common.{◌≡◌, suc, [], length, reverse}
use Rattle.catalog_blocks.specs.Trees.{chains_from}
use Rattle.catalog_plan.specs.Branches.{chains_of, with_chains}
use Rattle.catalog_plan.proofs.reading.read_all.Given as goal

abbrev pub invariant-loop-most : goal.invariant-loop-most
invariant-loop-most l =
    (chains_from (suc (length l.fn.left)) l.fn.per_track l.fn.left [] (reverse l.fn.visits.items)
    ≡ with_chains (chains_of l.branches) (chains_from l.most l.fn.per_track l.left [] (reverse l.visits.items)))
    × (length l.left ≡ length l.fn.left)

abbrev pub decreases-loop-most : goal.decreases-loop-most
decreases-loop-most l = l.most
