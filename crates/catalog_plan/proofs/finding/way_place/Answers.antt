use Rattle.std.proofs.Common.{rules, of_calls}
use Rattle.std.proofs.lemmas.Fn.{always_returns_same}
use Rattle.vol_model.specs.Trees.{is_before, way}
use Rattle.catalog_plan.specs.Branches.{chains_of}
use Rattle.catalog_plan.specs.declared.branch.Branch.{Branch}
use Rattle.catalog_plan.proofs.OrderedWays.{tree_rises}
use Rattle.catalog_plan.proofs.WayPlaces.{parted_ways, place_found}
use Rattle.catalog_plan.proofs.finding.way_place.Goals as goal

pub returns-clause-place : goal.returns-clause-place
returns-clause-place c =
    place_found c.args.branches.now c.args.names.now c.partition_point.result
    (c.partition_point.ensures.partitioned (λ (b : Branch). is_before (way b.chain.names) (way c.args.names.now)) (always_returns_same _ _ _ (λ a r f k. search (rules, of_calls)))
    (parted_ways c.args.branches.now c.args.names.now (tree_rises (chains_of c.args.branches.now) c.requires)))
