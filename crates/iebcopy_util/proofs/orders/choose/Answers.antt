use Rattle.std.proofs.Common.{◌≡◌, List, [], ◌∷◌, ◌++◌, sym, ◌∙◌, ap}
use Rattle.std.proofs.lemmas.List.{append-nil}
use Rattle.iebcopy_util.specs.declared.orders.Order.{Order}
use Rattle.iebcopy_util.specs.declared.orders.Order.TheVariants as order
use Rattle.util_syntax.specs.Program.{bad_operand}
use Rattle.iebcopy_util.specs.Orders.{orders_of}
use Rattle.iebcopy_util.proofs.OrderLemmas.{chosen_fault, orders_ended}
use Rattle.iebcopy_util.proofs.orders.choose.Goals as goal

pub returns-in_ok-push-in_default : goal.returns-in_ok-push-in_default
returns-in_ok-push-in_default c more =
    let was = c.args.orders.now.items in
    let pushed : c.push-in_default.new.self.items ≡ was ++ order.Fault (bad_operand c.args.own) ∷ [] = cc (c.in_ok-push-in_default.ensures.items, c.bad_operand.ensures) in
    ap (λ (l : List Order). was ++ l) (chosen_fault c.args.state c.args.card c.args.own c.args.choice (λ s. orders_of s more) c.in_default.not-Open)
    ∙ sym pushed ∙ sym (append-nil c.push-in_default.new.self.items) ∙ ap (λ (l : List Order). c.push-in_default.new.self.items ++ l) (sym (orders_ended more))
