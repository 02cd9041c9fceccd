use Rattle.std.proofs.Common.{◌≡◌, suc, arith, sym, refl, ◌∙◌}
use Rattle.chain_spec.proofs.KeptLemmas.{kept_last, kept_none}
use Rattle.chain_spec.specs.Kept.{bound_after}
use Rattle.sorted_chain.proofs.Walks.{by_last, by_none}
use Rattle.catalog_plan.specs.Located.{located_number}
use Rattle.catalog_plan.proofs.held.follows.Goals as goal

pub returns-in-Some : goal.returns-in-Some
returns-in-Some c ps is =
    let split = by_last c.args.held.now c.in-Some.last.now (sym c.in-Some.ensures.value) in
    let bound : bound_after located_number 0 ps ≡ suc (located_number c.in-Some.last.now) = kept_last located_number 0 ps split.0 c.in-Some.last.now (sym is ∙ split.1) in
    (λ told. let low = c.before-in-Some.ensures.0 told in omega (arith, low, bound), λ within. c.before-in-Some.ensures.1 (omega (arith, within, bound)))

pub returns-in-None : goal.returns-in-None
returns-in-None c ps is =
    let bound : bound_after located_number 0 ps ≡ 0 = kept_none located_number 0 ps (sym is ∙ by_none c.args.held.now (sym c.in-None.ensures.value)) in
    (λ told. omega (arith, bound), λ within. refl)
