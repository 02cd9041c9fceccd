use Rattle.std.proofs.Common.{List, sym, subst}
use Rattle.std.specs.Prelude.{Some, Ok}
use Rattle.util_steps.specs.Items.{DoesNext, items_along}
use Rattle.util_steps.proofs.Reporting.{next_item, next_stopped}
use Rattle.update_forms.specs.declared.orders.Order.{Order}
use Rattle.iebupdte_util.specs.Items.{order_item}
use Rattle.iebupdte_util.proofs.program.WorkItems.next.Goals as goal

pub returns-in_err-code-in-Some-clause-item : goal.returns-in_err-code-in-Some-clause-item
returns-in_err-code-in-Some-clause-item g c told =
    let m = g.M.Machine.meaning in
    let s = g.M.Machine.status in
    let item_of = order_item c.args.self.now.sets in
    let after = items_along item_of (m c.do_order.new.machine).state c.args.self.now.rest.now in
    subst (λ (l : List Order). DoesNext g.M.Machine.tells_prints (items_along item_of (m c.args.machine.now).state l) after (m c.args.machine.now) (m c.do_order.new.machine) (s c.args.machine.now).done (s c.do_order.new.machine).done c.from_residual.result)
    (sym c.in-Some.ensures.cases.0)
    (next_stopped item_of c.in-Some.first.now c.in-Some.others.now after c.from_residual.result c.from_residual.ensures.0 (c.do_order.ensures.item told))

pub returns-in_ok-code-in-Some-clause-item : goal.returns-in_ok-code-in-Some-clause-item
returns-in_ok-code-in-Some-clause-item g c told =
    let m = g.M.Machine.meaning in
    let s = g.M.Machine.status in
    let item_of = order_item c.args.self.now.sets in
    let after = items_along item_of (m c.do_order.new.machine).state c.in-Some.others.now in
    subst (λ (l : List Order). DoesNext g.M.Machine.tells_prints (items_along item_of (m c.args.machine.now).state l) after (m c.args.machine.now) (m c.do_order.new.machine) (s c.args.machine.now).done (s c.do_order.new.machine).done (Ok (Some c.in_ok-code-in-Some.code)))
    (sym c.in-Some.ensures.cases.0)
    (next_item item_of c.in-Some.first.now c.in-Some.others.now c.in_ok-code-in-Some.code (c.in_ok-code-in-Some.ensures.item told))
