use Rattle.std.proofs.Common.{◌++◌, ◌∷◌, [], List, ap, reverse, sym, ◌∙◌, append_assoc}
use Rattle.std.proofs.lemmas.List.{reverse-append}
use Rattle.catalog_blocks.specs.declared.chains.Visit.{Visit}
use Rattle.catalog_plan.proofs.reading.with_first.Goals as goal

pub loop-visit-preserved : goal.loop-visit-preserved
loop-visit-preserved c =
    let front : List Visit = c.pop.new.self.items in
    let rest : List Visit = c.loop-visit.visits.items in
    c.loop-visit.invariant
    ∙ ap (λ (vs : List Visit). vs ++ reverse rest) c.in-Some.ensures.items
    ∙ append_assoc front (c.in-Some.visit ∷ []) (reverse rest)
    ∙ ap (λ (vs : List Visit). front ++ vs) (sym (reverse-append rest (c.in-Some.visit ∷ [])))
    ∙ ap (λ (vs : List Visit). front ++ reverse vs) (sym c.in_ok-push.ensures.items)
