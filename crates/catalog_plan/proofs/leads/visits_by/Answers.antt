use Rattle.std.proofs.Common.{◌++◌, ℕ, List, ap, sym, take, ◌∙◌}
use Rattle.std.specs.Prelude.{◌/◌}
use Rattle.std.proofs.lemmas.List.{take_all}
use Rattle.sorted_chain.proofs.Walks.{take_read}
use Rattle.catalog_blocks.specs.declared.blocks.CatEntry.{CatEntry}
use Rattle.catalog_blocks.specs.declared.chains.Visit.{Visit}
use Rattle.catalog_blocks.specs.Trees.{lead_in}
use Rattle.catalog_plan.specs.Left.{visit_by, visits_by}
use Rattle.catalog_plan.proofs.ReadAll.{visits_more}
use Rattle.catalog_plan.proofs.leads.visits_by.Goals as goal

pub loop-number-preserved : goal.loop-number-preserved
loop-number-preserved c =
    let i : ℕ = c.loop-number.number-index in
    let p : ℕ × CatEntry = c.loop-number-item.result in
    c.in_ok-push_visit.ensures
    ∙ ap (λ (vs : List Visit). vs ++ visit_by (p.0 / c.from.result) (lead_in c.args.chain.now p.1)) c.loop-number.invariant
    ∙ ap (λ (m : ℕ). visits_by c.args.per_track c.args.chain.now (take i c.args.held.now) ++ visit_by (p.0 / m) (lead_in c.args.chain.now p.1)) c.from.ensures
    ∙ visits_more c.args.per_track c.args.chain.now (take i c.args.held.now) p
    ∙ ap (visits_by c.args.per_track c.args.chain.now) (sym (take_read c.args.held.now i p c.loop-number-test.true c.loop-number-item.is))

pub returns : goal.returns
returns c = c.loop-number.invariant ∙ ap (visits_by c.args.per_track c.args.chain.now) (take_all c.loop-number.number-index c.args.held.now c.loop-number-test.false)
