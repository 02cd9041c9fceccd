use Rattle.std.proofs.Common.{◌≡◌, Ok, ap, arith, refl, sym, ◌∙◌}
use Rattle.catalog_laws.proofs.LawfulTrees.{are_tree}
use Rattle.catalog_laws.proofs.TreeReads.{chains_read}
use Rattle.catalog_blocks.specs.Trees.{chains_in}
use Rattle.catalog_plan.specs.Branches.{chains_of, chains_read as read_of}
use Rattle.catalog_plan.proofs.lookups.read_tree.Goals as goal

pub returns : goal.returns
returns c =
    let is : chains_in c.args.per_track c.args.blocks.items ≡ Ok (chains_of c.in-Ok.branches) =
    ap (chains_in c.args.per_track) (sym c.deref_mut.ensures.value) ∙ sym c.in_ok-read.ensures ∙ ap read_of c.in-Ok.is in
    record {
      chains = is;
      size = omega (arith, c.len-count.ensures, c.args.blocks.ok.0);
      track = refl;
      tree_is = are_tree c.args.per_track c.args.blocks.items (chains_of c.in-Ok.branches) c.requires.sound (chains_read c.args.per_track c.args.blocks.items (chains_of c.in-Ok.branches) is);
    }
