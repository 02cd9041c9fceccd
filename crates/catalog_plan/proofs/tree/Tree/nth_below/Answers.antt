use Rattle.std.proofs.Common.{◌≡◌, ◌+◌, ℕ, List, Some, None, subst, sym}
use Rattle.std.specs.Prelude.{slice_get}
use Rattle.std.specs.List.{AllByRecursion}
use Rattle.catalog_blocks.specs.declared.blocks.CatEntry.{CatEntry}
use Rattle.catalog_blocks.specs.declared.chains.Chain.{Chain}
use Rattle.catalog_blocks.specs.Trees.{name_in}
use Rattle.catalog_plan.specs.declared.branch.Branch.{Branch}
use Rattle.catalog_plan.specs.Branches.{chains_of}
use Rattle.catalog_plan.proofs.Found.{no_child}
use Rattle.catalog_plan.proofs.LookedUp.{IsFoundAs, child_none, child_some, found_as}
use Rattle.catalog_plan.proofs.tree.Tree.nth_below.Goals as goal

pub returns-in-Some-get : goal.returns-in-Some-get
returns-in-Some-get c =
    let bs : List Branch = c.args.self.now.branches in
    let b : Branch = c.index-branches-at.result in
    let p : ℕ × CatEntry = c.in-Some-get.field-0.now in
    let here : IsFoundAs bs c.args.names.now c.in-Some.at b = found_as bs c.as_slice-branches.result.now c.args.names.now c.in-Some.at b c.as_slice-branches.ensures c.in-Some.ensures c.index-branches-at.is in
    let held_at : slice_get b.held (c.args.k + 1) ≡ Some p = cc (c.in-Some-get.ensures, c.index-branches-at.is) in
    let name : c.name_in.result ≡ name_in b.chain.level p.1.name = cc (c.name_in.ensures, c.in-Some-get.entry-is, c.index-branches-at.is) in
    child_some bs c.requires.tree c.args.names.now c.in-Some.at c.args.k b p here held_at c.name_in.result name

pub returns-in-None-get : goal.returns-in-None-get
returns-in-None-get c =
    let bs : List Branch = c.args.self.now.branches in
    let b : Branch = c.index-branches-at.result in
    let here : IsFoundAs bs c.args.names.now c.in-Some.at b = found_as bs c.as_slice-branches.result.now c.args.names.now c.in-Some.at b c.as_slice-branches.ensures c.in-Some.ensures c.index-branches-at.is in
    let held_at : slice_get b.held (c.args.k + 1) ≡ None = cc (c.in-None-get.ensures, c.index-branches-at.is) in
    child_none bs c.requires.tree c.args.names.now c.in-Some.at c.args.k b here held_at

pub returns-in-None : goal.returns-in-None
returns-in-None c =
    sym (no_child c.args.self.now.branches c.requires.tree c.args.names.now c.args.k
    (subst (λ (bs : List Branch). AllByRecursion (λ (d : Chain). d.names ≡ c.args.names.now → ⊥) (chains_of bs)) c.as_slice-branches.ensures c.in-None.ensures))
