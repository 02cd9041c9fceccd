use Rattle.std.proofs.Common.{sym, ap}
use Rattle.util_steps.specs.Items.{items_along}
use Rattle.update_forms.specs.declared.orders.Setting.{Setting}
use Rattle.update_forms.specs.Orders.{orders_of}
use Rattle.iebupdte_util.specs.Items.{order_item, setting_of}
use Rattle.iebupdte_util.proofs.RunLemmas.{runs_read, runs_unread}
use Rattle.iebupdte_util.proofs.program.run_cards.Goals as goal

pub returns-in_err-setting : goal.returns-in_err-setting
returns-in_err-setting g c =
    runs_unread g.M.Machine (λ told. g.met.M.Machine.durable c.args.machine.now told c.requires.sound) (λ shelf. items_along (order_item c.args.sets) shelf (orders_of (setting_of shelf c.args.sets) c.args.cards.now)) c.from_residual.result c.from_residual.ensures
    (rw c.in_err-setting.was at c.find_setting.ensures)

pub returns : goal.returns
returns g c =
    let sets = c.args.sets in
    runs_read g.M.Machine (λ told. g.met.M.Machine.durable c.args.machine.now told c.requires.sound) {items = λ shelf. items_along (order_item sets) shelf (orders_of c.in_ok-setting.setting c.args.cards.now)}
    {whole = λ shelf. items_along (order_item sets) shelf (orders_of (setting_of shelf sets) c.args.cards.now)} c.in_ok-setting.ensures
    (λ told is.
    let shelf = (g.M.Machine.meaning c.args.machine.now).state in
    ap (λ (x : Setting). items_along (order_item sets) shelf (orders_of x c.args.cards.now)) (sym is))
    c.run_ordered.ensures
