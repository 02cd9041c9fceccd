use Rattle.std.proofs.Common.{◌≡◌, length, Some, refl, sym, ap, ◌∙◌, arith}
use Rattle.std.specs.Prelude.{slice_get}
use Rattle.std.proofs.lemmas.Bool.{true≢false}
use Rattle.std.proofs.lemmas.Option.{same_Some, slice_get_read, slice_get_within}
use Rattle.catalog_plan.specs.declared.branch.Branch.{Branch}
use Rattle.catalog_plan.proofs.OrderedWays.{tree_rises}
use Rattle.catalog_plan.proofs.WayPlaces.{none_at_place}
use Rattle.catalog_plan.specs.Branches.{chains_of}
use Rattle.catalog_plan.proofs.finding.branch_at.Goals as goal

pub returns-then-k-branches : goal.returns-then-k-branches
returns-then-k-branches c =
    none_at_place c.args.branches.now c.args.names.now c.way_place-k.result (tree_rises (chains_of c.args.branches.now) c.requires) c.way_place-k.ensures.place
    (λ b at same. let low = slice_get_within c.args.branches.now c.way_place-k.result b at in omega (arith, low, c.if-k-branches.true))

pub returns-then-is_way_to : goal.returns-then-is_way_to
returns-then-is_way_to c = record {
  branch = c.index-branches-k.result;
  at = slice_get_read c.args.branches.now (length c.args.branches.now) c.way_place-k.result c.index-branches-k.result refl (omega arith) c.index-branches-k.is;
  names_are = ap (λ (x : Branch). x.chain.names) c.index-branches-k.is ∙ c.is_way_to.ensures.0 c.if-is_way_to.true;
}

pub returns : goal.returns
returns c =
    let here : slice_get c.args.branches.now c.way_place-k.result ≡ Some c.index-branches-k.result = slice_get_read c.args.branches.now (length c.args.branches.now) c.way_place-k.result c.index-branches-k.result refl (omega arith) c.index-branches-k.is in
    none_at_place c.args.branches.now c.args.names.now c.way_place-k.result (tree_rises (chains_of c.args.branches.now) c.requires) c.way_place-k.ensures.place
    (λ b at same.
    let one : b ≡ c.index-branches-k.result = same_Some b c.index-branches-k.result (sym at ∙ here) in
    true≢false (sym (c.is_way_to.ensures.1 (sym (ap (λ (x : Branch). x.chain.names) c.index-branches-k.is) ∙ ap (λ (x : Branch). x.chain.names) (sym one) ∙ same)) ∙ c.if-is_way_to.false))
