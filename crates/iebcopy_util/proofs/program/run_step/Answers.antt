use Rattle.std.proofs.Common.{◌≡◌, ◌∙◌, List, Some, None, ap, map, sym, subst}
use Rattle.std.specs.List.{AllByRecursion}
use Rattle.util_syntax.specs.declared.items.Item.{Item}
use Rattle.util_syntax.specs.Items.{item_view}
use Rattle.iebcopy_util.specs.declared.orders.Order.{Order}
use Rattle.iebcopy_util.specs.declared.orders.State.TheVariants.{Idle}
use Rattle.iebcopy_util.specs.Items.{iebcopy_items, orders_items}
use Rattle.iebcopy_util.specs.Orders.{orders_of}
use Rattle.iebcopy_util.specs.Tasks.{IsLawfulOrder}
use Rattle.iebcopy_util.proofs.LawfulOrders.{orders_lawful}
use Rattle.iebcopy_util.proofs.RunLemmas.{runs_as, runs_item, runs_unmade}
use Rattle.iebcopy_util.proofs.StepItems.{step_is}
use Rattle.iebcopy_util.proofs.program.run_step.Goals as goal

pub returns-in_err-items-clause-items : goal.returns-in_err-items-clause-items
returns-in_err-items-clause-items g c = runs_unmade g.M.Machine (iebcopy_items c.args.step.now) c.from_residual.result c.from_residual.ensures c.requires

pub returns-in_default-clause-items : goal.returns-in_default-clause-items
returns-in_default-clause-items g c =
    runs_as g.M.Machine (λ told. sym (step_is c.args.step.now (g.M.Machine.meaning c.args.machine.now).state None (rw c.in_default.is at c.in_ok-items.ensures))) (runs_item g.M.Machine c.report_no_dd.ensures.item c.report_no_dd.ensures.state)

pub returns-in_err-orders-clause-items : goal.returns-in_err-orders-clause-items
returns-in_err-orders-clause-items g c = runs_unmade g.M.Machine (iebcopy_items c.args.step.now) c.from_residual-in_err-orders.result c.from_residual-in_err-orders.ensures c.requires

pub run_orders-requires-clause-lawful : goal.run_orders-requires-clause-lawful
run_orders-requires-clause-lawful g c = subst (λ (l : List Order). AllByRecursion IsLawfulOrder l) (sym (c.deref-2.ensures.value ∙ c.in_ok-orders.ensures)) (orders_lawful Idle (map item_view c.deref.result.now))

pub returns-clause-items : goal.returns-clause-items
returns-clause-items g c =
    let s0 = (g.M.Machine.meaning c.args.machine.now).state in
    let orders = c.deref-2.result.now in
    let are : orders ≡ orders_of Idle (map item_view c.in-Some.items.items) = c.deref-2.ensures.value ∙ c.in_ok-orders.ensures ∙ ap (λ (l : List Item). orders_of Idle (map item_view l)) c.deref.ensures.value in
    runs_as g.M.Machine (λ told. ap (orders_items c.args.step.now s0) are ∙ sym (step_is c.args.step.now s0 (Some (map item_view c.in-Some.items.items)) (rw c.in-Some.is at c.in_ok-items.ensures))) c.run_orders.ensures.items
