use Rattle.std.proofs.Common.{◌≡◌, ◌∷◌, [], ◌++◌, List, sym, ap, ◌∙◌, append_assoc}
use Rattle.std.specs.Prelude.{Some}
use Rattle.iebgener_util.specs.declared.orders.Order.{Order}
use Rattle.iebgener_util.specs.declared.orders.Order.TheVariants as order
use Rattle.iebgener_util.specs.declared.orders.OutputOrder.{OutputOrder}
use Rattle.iebgener_util.specs.declared.orders.State.TheVariants.{Open}
use Rattle.iebgener_util.specs.Orders.{new_part, orders_of}
use Rattle.iebgener_util.proofs.OrderLemmas.{named_behind}
use Rattle.iebgener_util.proofs.orders.begin_behind.Goals as goal

pub returns : goal.returns
returns c exec more =
    let was = c.args.orders.now.items in
    let rest = orders_of exec (Open (new_part c.args.card (Some c.args.names))) more in
    let pushed : c.push.new.self.items ≡ was ++ order.Write c.args.part ∷ [] = cc c.in_ok-push.ensures.items in
    ap (λ (l : List Order). was ++ l) (named_behind c.args.part.names c.args.part c.args.card c.args.names (λ s. orders_of exec s more) (sym c.is_unnamed.ensures ∙ c.if-is_unnamed.false))
    ∙ sym (append_assoc was (order.Write c.args.part ∷ []) rest) ∙ ap (λ (l : List Order). l ++ rest) (sym pushed)
    ∙ ap (λ (p : OutputOrder). c.push.new.self.items ++ orders_of exec (Open p) more) (sym c.new_part.ensures)
