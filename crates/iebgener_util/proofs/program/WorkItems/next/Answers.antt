use Rattle.std.proofs.Common.{List, [], ap, sym, take, arith}
use Rattle.std.proofs.lemmas.Option.{slice_get_within}
use Rattle.util_steps.proofs.Reporting.{next_none}
use Rattle.iebgener_util.specs.declared.orders.Order.{Order}
use Rattle.record_files.specs.Inputs.{input_view}
use Rattle.iebgener_util.specs.Items.{order_items}
use Rattle.iebgener_util.proofs.StepLemmas.{none_left, order_left, order_next}
use Rattle.iebgener_util.proofs.program.WorkItems.next.Goals as goal

pub orders_before-before-requires : goal.orders_before-before-requires
orders_before-before-requires g c = let w = c.args.self.now in omega (arith, slice_get_within w.orders.now w.done c.in-Some.order.now (sym c.in-Some.ensures))

pub returns-in_err-code-in-Some-clause-item : goal.returns-in_err-code-in-Some-clause-item
returns-in_err-code-in-Some-clause-item g c told =
    let w = c.args.self.now in
    order_left (input_view w.input) w.output w.orders.now w.done c.in-Some.order.now (sym c.in-Some.ensures) _ c.from_residual.result c.from_residual.ensures.0
    (rw c.orders_before-before.ensures at (c.do_order.ensures.item told))

pub returns-in_ok-code-in-Some-clause-item : goal.returns-in_ok-code-in-Some-clause-item
returns-in_ok-code-in-Some-clause-item g c told =
    let w = c.args.self.now in
    order_next (input_view w.input) w.output w.orders.now w.done c.in-Some.order.now (sym c.in-Some.ensures) c.in_ok-code-in-Some.code
    (rw c.orders_before-before.ensures at (c.in_ok-code-in-Some.ensures.item told))

pub returns-in_ok-code-in-Some-clause-fewer : goal.returns-in_ok-code-in-Some-clause-fewer
returns-in_ok-code-in-Some-clause-fewer g c = let w = c.args.self.now in omega (arith, slice_get_within w.orders.now w.done c.in-Some.order.now (sym c.in-Some.ensures))

pub returns-in-None-clause-item : goal.returns-in-None-clause-item
returns-in-None-clause-item g c told =
    let m = g.M.Machine.meaning c.args.machine.now in
    let w = c.args.self.now in
    next_none g.M.Machine.tells_prints m (g.M.Machine.status c.args.machine.now).done _ []
    (ap (λ (l : List Order). order_items (input_view w.input) w.output (take w.done w.orders.now) m.state l) (none_left w.orders.now w.done (sym c.in-None.ensures)))
