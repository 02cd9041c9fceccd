use Rattle.std.proofs.Common.{◌≡◌, List, [], ◌++◌, sym, ◌∙◌, ap}
use Rattle.update_forms.specs.declared.lines.CardLine.{CardLine}
use Rattle.update_forms.specs.declared.orders.Order.{Order}
use Rattle.update_forms.specs.declared.orders.Stepped.{Stepped}
use Rattle.update_forms.specs.Orders.{orders_from, stepped, with_order}
use Rattle.update_forms.proofs.OrderLemmas.{order_after}
use Rattle.update_forms.proofs.orders.take.Goals as goal

pub returns : goal.returns
returns c more =
    let was = c.args.orders.now.items in
    let s : Stepped = c.in_ok-stepped.stepped in
    let rest = orders_from c.args.setting s.next more in
    let is = c.in_ok-stepped.ensures ∙ ap (λ (l : CardLine). stepped c.args.setting c.args.state l) c.in_ok-line.ensures in
    let pushed : c.push_order.new.orders.items ≡ was ++ with_order s.order [] = c.in_ok-push_order.ensures in
    ap (λ (x : Stepped). was ++ with_order x.order (orders_from c.args.setting x.next more)) (sym is) ∙ order_after was s.order rest ∙ ap (λ (l : List Order). l ++ rest) (sym pushed)
