use Rattle.std.proofs.Common.{ℕ, List, ap, ap₂, sym, ◌∙◌}
use Rattle.chain_spec.specs.Kept.{bound_after}
use Rattle.catalog_blocks.specs.declared.blocks.CatEntry.{CatEntry}
use Rattle.catalog_blocks.specs.Blocks.{name_number}
use Rattle.catalog_plan.specs.Located.{bound_of}
use Rattle.catalog_plan.proofs.ReadAll.{bound_more}
use Rattle.catalog_plan.proofs.reading.add_block.Goals as goal

pub returns-clause-bound : goal.returns-clause-bound
returns-clause-bound c =
    c.bound_after-bound.ensures
    ∙ ap₂ (λ (t : ℕ) (es : List CatEntry). bound_after name_number t es) c.requires c.as_slice.ensures
    ∙ bound_more c.args.so_far.now.chain c.args.number c.args.entries
    ∙ ap (λ (bs : List (ℕ × List CatEntry)). bound_of (record c.args.so_far.now.chain { blocks = bs })) (sym c.in_ok-push.ensures.ok)
