use Rattle.std.proofs.Common.{arith, sym, ◌∙◌, ◌≡◌, suc, refl}
use Rattle.chain_spec.proofs.KeptLemmas.{kept_last, kept_none}
use Rattle.chain_spec.specs.Kept.{bound_after}
use Rattle.sorted_chain.proofs.Walks.{by_last, by_none}
use Rattle.sorted_chain.proofs.keeping.follows.Goals as goal

pub returns-in-Some : goal.returns-in-Some
returns-in-Some g c es is =
    let name = g.E.ChainEntry.name in
    let split = by_last c.args.entries.now c.in-Some.last.now (sym c.in-Some.ensures.value) in
    let bound : bound_after name 0 es ≡ suc (name c.in-Some.last.now) = kept_last name 0 es split.0 c.in-Some.last.now (sym is ∙ split.1) in
    (λ told. let low = c.before-in-Some.ensures.0 told in omega (arith, low, bound), λ within. c.before-in-Some.ensures.1 (omega (arith, within, bound)))

pub returns-in-None : goal.returns-in-None
returns-in-None g c es is =
    let bound : bound_after g.E.ChainEntry.name 0 es ≡ 0 = kept_none g.E.ChainEntry.name 0 es (sym is ∙ by_none c.args.entries.now (sym c.in-None.ensures.value)) in
    (λ told. omega (arith, bound), λ within. refl)
