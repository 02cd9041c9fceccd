use Rattle.std.proofs.Common.{◌≡◌, ℕ, List, Some, length, refl}
use Rattle.std.specs.Prelude.{slice_get}
use Rattle.std.proofs.lemmas.Option.{slice_get_read}
use Rattle.catalog_blocks.specs.declared.blocks.CatEntry.{CatEntry}
use Rattle.catalog_blocks.specs.Trees.{node_in}
use Rattle.catalog_plan.specs.declared.branch.Branch.{Branch}
use Rattle.catalog_plan.proofs.LookedUp.{held_within, index_within, node_here}
use Rattle.catalog_plan.proofs.tree.Tree.node_at.Goals as goal

pub returns-in_ok-node-in-Some : goal.returns-in_ok-node-in-Some
returns-in_ok-node-in-Some c =
    let bs : List Branch = c.args.self.now.branches in
    let ys : List Branch = c.as_slice-branches.result.now in
    let ps : List (ℕ × CatEntry) = c.as_slice-held.result.now in
    let b : Branch = c.index-branches-k.result in
    let p : ℕ × CatEntry = c.index-held-i.result in
    let first : slice_get ys c.in-Some.k ≡ Some b = slice_get_read ys (length ys) c.in-Some.k b refl (index_within bs ys c.as_slice-branches.ensures c.args.names.now c.in-Some.ensures) c.index-branches-k.is in
    let at : slice_get bs c.in-Some.k ≡ Some b = cc (first, c.as_slice-branches.ensures) in
    let held : ps ≡ b.held = cc (c.as_slice-held.ensures, c.index-branches-k.is) in
    let second : slice_get ps c.in-Some.i ≡ Some p = slice_get_read ps (length ps) c.in-Some.i p refl (held_within bs c.args.names.now c.in-Some.ensures b at ps held) c.index-held-i.is in
    let entry_at : slice_get b.held c.in-Some.i ≡ Some p = cc (second, held) in
    let node : c.in_ok-node-in-Some.node ≡ node_in b.chain.level p.1 = cc (c.in_ok-node-in-Some.ensures, c.index-branches-k.is, c.index-held-i.is) in
    node_here bs c.requires.tree c.args.names.now c.in-Some.ensures b p at entry_at c.in_ok-node-in-Some.node node
