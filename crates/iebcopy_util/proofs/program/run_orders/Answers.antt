use Rattle.std.proofs.Common.{◌≡◌, ◌∷◌, ◌∙◌, [], List, true, false, sym, subst, refl, arith, rules}
use Rattle.std.specs.List.{AllByRecursion}
use Rattle.vol_model.specs.declared.contents.Shelf.{Shelf}
use Rattle.iebcopy_util.specs.declared.orders.Order.{Order}
use Rattle.iebcopy_util.specs.Items.{order_items, orders_items}
use Rattle.iebcopy_util.specs.Tasks.{IsLawfulOrder}
use Rattle.iebcopy_util.proofs.RunLemmas.{far_begins, far_ends, far_further, far_stops, runs_unmade}
use Rattle.iebcopy_util.proofs.StepItems.{items_behind, not_false, not_true, orders_first, orders_next, orders_none}
use Rattle.iebcopy_util.proofs.program.run_orders.Goals as goal

-- all but the first
all_rest : (o : Order) (os orders : List Order) → orders ≡ o ∷ os → AllByRecursion IsLawfulOrder orders → AllByRecursion IsLawfulOrder os
all_rest o os orders is all = (subst (λ (l : List Order). AllByRecursion IsLawfulOrder l) is all).1

pub returns-in_err-buf-clause-items : goal.returns-in_err-buf-clause-items
returns-in_err-buf-clause-items g c = runs_unmade g.M.Machine (λ (s : Shelf). orders_items c.args.step.now s c.args.orders.now) c.from_residual.result c.from_residual.ensures c.requires.ready

pub loop-parts-init : goal.loop-parts-init
loop-parts-init g c = record { far = far_begins g.M.Machine c.requires.ready (λ told. refl); lawful = c.requires.lawful; small = omega arith }

pub returns-in-None-clause-items : goal.returns-in-None-clause-items
returns-in-None-clause-items g c = far_ends g.M.Machine c.loop-parts.invariant.far c.loop-parts.code (λ told. orders_none c.args.step.now _ c.loop-parts.rest.now c.in-None.ensures.cases) (λ told is. is)

pub returns-in_err-ending-clause-items : goal.returns-in_err-ending-clause-items
returns-in_err-ending-clause-items g c =
    far_stops g.M.Machine c.loop-parts.invariant.far c.from_residual-in_err-ending.result c.from_residual-in_err-ending.ensures (rw c.in_err-ending.was at c.do_order.ensures.course) (λ told.
    let s1 = (g.M.Machine.meaning c.loop-parts.machine).state in
    let course = order_items c.args.step.now s1 c.in-Some.parts.0.now in
    (items_behind c.args.step.now s1 c.in-Some.parts.1.now course course.goes_on, orders_first c.args.step.now s1 c.in-Some.parts.0.now c.in-Some.parts.1.now c.loop-parts.rest.now c.in-Some.ensures.cases.0))

pub returns-then-not-ending-clause-items : goal.returns-then-not-ending-clause-items
returns-then-not-ending-clause-items g c =
    let one = c.in_ok-ending.ensures.course in
    far_ends g.M.Machine
    (far_further g.M.Machine c.loop-parts.invariant.far {after = λ (s : Shelf). []} c.in_ok-ending.ending.code c.max-code.result one
    (λ told. orders_next c.args.step.now (g.M.Machine.meaning c.loop-parts.machine).state (g.M.Machine.meaning c.do_order.new.machine).state c.in-Some.parts.0.now c.in-Some.parts.1.now c.loop-parts.rest.now false c.in-Some.ensures.cases.0
    (sym (not_true c.in_ok-ending.ending.goes_on c.if-not-ending.true) ∙ (one.does told).answer.1) (one.does told).runs.shelf)
    (λ told. (one.does told).answer.0) (search rules)) c.max-code.result (λ told. refl) (λ told is. is)

pub loop-parts-preserved : goal.loop-parts-preserved
loop-parts-preserved g c =
    let one = c.in_ok-ending.ensures.course in
    record {
      far = far_further g.M.Machine c.loop-parts.invariant.far {after = λ (s : Shelf). orders_items c.args.step.now s c.in-Some.parts.1.now} c.in_ok-ending.ending.code c.max-code.result one
          (λ told. orders_next c.args.step.now (g.M.Machine.meaning c.loop-parts.machine).state (g.M.Machine.meaning c.do_order.new.machine).state c.in-Some.parts.0.now c.in-Some.parts.1.now c.loop-parts.rest.now true c.in-Some.ensures.cases.0
          (sym (not_false c.in_ok-ending.ending.goes_on c.if-not-ending.false) ∙ (one.does told).answer.1) (one.does told).runs.shelf)
          (λ told. (one.does told).answer.0) (search rules);
      lawful = all_rest c.in-Some.parts.0.now c.in-Some.parts.1.now c.loop-parts.rest.now c.in-Some.ensures.cases.0 c.loop-parts.invariant.lawful;
      small = search (rules, arith);
    }
