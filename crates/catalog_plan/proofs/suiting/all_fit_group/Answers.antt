use Rattle.std.proofs.Common.{◌+◌, ℕ, Bool, List, drop, sym, ap, ◌∙◌}
use Rattle.std.specs.List.{list_all}
use Rattle.std.proofs.lemmas.List.{drop_all}
use Rattle.chain_spec.specs.Kept.{kept_from}
use Rattle.catalog_blocks.specs.declared.blocks.CatEntry.{CatEntry}
use Rattle.catalog_blocks.specs.Blocks.{name_number}
use Rattle.catalog_blocks.specs.Trees.{fits_group}
use Rattle.catalog_plan.proofs.KeptSteps.{at_entry, breaks_step, fits_step}
use Rattle.catalog_plan.proofs.suiting.all_fit_group.Goals as goal

-- whether those of these that are kept fit a group
abbrev fit_all : ℕ → List CatEntry → Bool
fit_all t es = list_all fits_group (kept_from name_number t es)

pub returns-then-breaks_group : goal.returns-then-breaks_group
returns-then-breaks_group c =
    let es : List CatEntry = c.args.entries.now in
    let e : CatEntry = c.entry-item.result in
    let i : ℕ = c.loop-entry.entry-index in
    let t : ℕ = c.loop-entry.least in
    sym (c.loop-entry.invariant
    ∙ ap (fit_all t) (at_entry i es e c.loop-entry-test.true c.entry-item.is)
    ∙ breaks_step t e (drop (i + 1) es) (sym c.breaks_group.ensures ∙ c.if-breaks_group.true))

pub loop-entry-preserved : goal.loop-entry-preserved
loop-entry-preserved c =
    let es : List CatEntry = c.args.entries.now in
    let e : CatEntry = c.entry-item.result in
    let i : ℕ = c.loop-entry.entry-index in
    let t : ℕ = c.loop-entry.least in
    c.loop-entry.invariant
    ∙ ap (fit_all t) (at_entry i es e c.loop-entry-test.true c.entry-item.is)
    ∙ fits_step t e (drop (i + 1) es) (sym c.breaks_group.ensures ∙ c.if-breaks_group.false)
    ∙ ap (λ (u : ℕ). fit_all u (drop (i + 1) es)) (sym c.next_bound-least.ensures)

pub returns : goal.returns
returns c = sym (c.loop-entry.invariant ∙ ap (fit_all c.loop-entry.least) (drop_all c.loop-entry.entry-index c.args.entries.now c.loop-entry-test.false))
