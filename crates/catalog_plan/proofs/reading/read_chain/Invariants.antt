use Rattle.std.proofs.Common.{◌≡◌, suc, [], length}
use Rattle.catalog_blocks.specs.Trees.{chain_from, chain_to, numbers}
use Rattle.catalog_plan.specs.Left.{without}
use Rattle.catalog_plan.specs.Located.{bound_of}
use Rattle.catalog_plan.proofs.reading.read_chain.Given as goal

abbrev pub invariant-loop-most : goal.invariant-loop-most
invariant-loop-most l =
    (chain_from (suc (length l.fn.left)) l.fn.per_track l.fn.left [] (chain_to l.fn.visit.lead) l.fn.visit.lead.place l.fn.visit.from
    ≡ chain_from l.most l.fn.per_track l.left [] l.so_far.chain l.place l.from)
    × (l.so_far.bound ≡ bound_of l.so_far.chain)
    × (l.left ≡ without (numbers l.so_far.chain) l.fn.left)

abbrev pub decreases-loop-most : goal.decreases-loop-most
decreases-loop-most l = l.most
