use Rattle.std.proofs.Common.{List, ap, ◌∙◌}
use Rattle.ebcdic_names.specs.declared.names.Name8.{Name8}
use Rattle.vol_model.specs.Trees.{node_at, way}
use Rattle.catalog_blocks.specs.Trees.{nodes_in}
use Rattle.catalog_plan.specs.Branches.{chains_of}
use Rattle.catalog_plan.proofs.Found.{none_top}
use Rattle.catalog_plan.proofs.LookedUp.{no_items}
use Rattle.catalog_plan.proofs.tree.Tree.entry_at.Goals as goal

pub returns-in-None : goal.returns-in-None
returns-in-None c =
    ap (λ (ns : List Name8). node_at (nodes_in (chains_of c.args.self.now.branches)) (way ns)) (no_items c.args.names.now c.in-None.ensures.cases)
    ∙ none_top c.args.self.now.branches c.requires.tree
