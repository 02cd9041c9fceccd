use Rattle.std.proofs.Common.{◌≡◌, [], ◌∷◌, ◌++◌}
use Rattle.iebgener_util.specs.declared.orders.Order.TheVariants as order
use Rattle.util_syntax.specs.Program.{bad_operand}
use Rattle.iebgener_util.proofs.OrderLemmas.{last_order}
use Rattle.iebgener_util.proofs.orders.refuse.Goals as goal

pub returns : goal.returns
returns c exec more =
    let was = c.args.orders.now.items in
    let pushed : c.push.new.self.items ≡ was ++ order.Fault (bad_operand c.args.card) ∷ [] = cc (c.in_ok-push.ensures.items, c.bad_operand.ensures) in
    last_order was c.push.new.self.items (order.Fault (bad_operand c.args.card)) exec more pushed
