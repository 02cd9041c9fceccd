use Rattle.std.proofs.Common.{◌+◌, ℕ, List, drop, sym, ap, ◌∙◌}
use Rattle.std.proofs.lemmas.List.{drop_all}
use Rattle.chain_spec.specs.Kept.{bound_after}
use Rattle.catalog_blocks.specs.declared.blocks.CatEntry.{CatEntry}
use Rattle.catalog_blocks.specs.Blocks.{name_number}
use Rattle.catalog_plan.proofs.KeptSteps.{at_entry, bound_step}
use Rattle.catalog_plan.proofs.suiting.bound_after.Goals as goal

pub loop-entry-preserved : goal.loop-entry-preserved
loop-entry-preserved c =
    let es : List CatEntry = c.args.entries.now in
    let e : CatEntry = c.entry-item.result in
    let i : ℕ = c.loop-entry.entry-index in
    let t : ℕ = c.loop-entry.least in
    c.loop-entry.invariant
    ∙ ap (bound_after name_number t) (at_entry i es e c.loop-entry-test.true c.entry-item.is)
    ∙ bound_step t e (drop (i + 1) es)
    ∙ ap (λ (u : ℕ). bound_after name_number u (drop (i + 1) es)) (sym c.next_bound-least.ensures)

pub returns : goal.returns
returns c = sym (c.loop-entry.invariant ∙ ap (bound_after name_number c.loop-entry.least) (drop_all c.loop-entry.entry-index c.args.entries.now c.loop-entry-test.false))
