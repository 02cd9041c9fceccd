use Rattle.std.proofs.Common.{◌≡◌, List, subst}
use Rattle.std.specs.List.{AllByRecursion}
use Rattle.catalog_blocks.specs.declared.chains.Chain.{Chain}
use Rattle.catalog_plan.specs.declared.branch.Branch.{Branch}
use Rattle.catalog_plan.specs.Branches.{chains_of}
use Rattle.catalog_plan.proofs.Found.{none_at}
use Rattle.catalog_plan.proofs.LookedUp.{IsFoundAs, entry_found, entry_none, found_as}
use Rattle.catalog_plan.proofs.tree.Tree.entry_below.Goals as goal

pub returns-in-Some-entry_named : goal.returns-in-Some-entry_named
returns-in-Some-entry_named c =
    let bs : List Branch = c.args.self.now.branches in
    let b : Branch = c.index-branches-k.result in
    let here : IsFoundAs bs c.args.front.now c.in-Some.k b = found_as bs c.as_slice-branches.result.now c.args.front.now c.in-Some.k b c.as_slice-branches.ensures c.in-Some.ensures c.index-branches-k.is in
    entry_found bs c.args.front.now c.args.last c.in-Some.k c.in-Some-entry_named.i b here c.in-Some-entry_named.ensures (cc (c.index-branches-k.is)) (cc (c.as_slice.ensures, c.index-branches-k.is))

pub returns-in-None-entry_named : goal.returns-in-None-entry_named
returns-in-None-entry_named c =
    let bs : List Branch = c.args.self.now.branches in
    let b : Branch = c.index-branches-k.result in
    let here : IsFoundAs bs c.args.front.now c.in-Some.k b = found_as bs c.as_slice-branches.result.now c.args.front.now c.in-Some.k b c.as_slice-branches.ensures c.in-Some.ensures c.index-branches-k.is in
    entry_none bs c.requires.tree c.args.front.now c.args.last c.in-Some.k b here c.in-None-entry_named.ensures (cc (c.index-branches-k.is)) (cc (c.as_slice.ensures, c.index-branches-k.is))

pub returns-in-None : goal.returns-in-None
returns-in-None c =
    none_at c.args.self.now.branches c.requires.tree c.args.front.now c.args.last
    (subst (λ (bs : List Branch). AllByRecursion (λ (d : Chain). d.names ≡ c.args.front.now → ⊥) (chains_of bs)) c.as_slice-branches.ensures c.in-None.ensures)
