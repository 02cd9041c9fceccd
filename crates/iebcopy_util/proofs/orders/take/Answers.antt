use Rattle.std.proofs.Common.{◌≡◌, ℕ, List, [], ◌∷◌, ◌++◌, sym, ◌∙◌, ap}
use Rattle.std.specs.Prelude.{Result, Err}
use Rattle.std.proofs.lemmas.List.{append-nil}
use Rattle.util_syntax.specs.Items.{item_view}
use Rattle.iebcopy_util.specs.declared.orders.Order.{Order}
use Rattle.iebcopy_util.specs.declared.orders.Order.TheVariants as order
use Rattle.iebcopy_util.specs.declared.orders.State.{State}
use Rattle.util_syntax.specs.declared.program.StatementFault.{StatementFault}
use Rattle.iebcopy_util.specs.declared.requests.Request.{Request}
use Rattle.iebcopy_util.specs.Orders.{asked, orders_at, orders_of, unless_ended}
use Rattle.iebcopy_util.proofs.OrderLemmas.{at_fault, not_ended, orders_ended}
use Rattle.iebcopy_util.proofs.orders.take.Goals as goal

pub returns-in-Ended : goal.returns-in-Ended
returns-in-Ended c more =
    ap (λ (s : State). c.args.orders.now.items ++ unless_ended s (orders_at s (asked (item_view c.args.item.now)) (λ next. orders_of next more))) c.in-Ended.is
    ∙ ap (λ (l : List Order). c.args.orders.now.items ++ l) (sym (orders_ended more))

pub returns-in_ok-push-in-Err : goal.returns-in_ok-push-in-Err
returns-in_ok-push-in-Err c more =
    let was = c.args.orders.now.items in
    let state = c.args.state in
    let read = asked (item_view c.args.item.now) in
    let fault : read ≡ Err c.in-Err.fault = sym c.in_ok-card.ensures ∙ c.in-Err.is in
    let pushed : c.push.new.self.items ≡ was ++ order.Fault c.in-Err.fault ∷ [] = cc c.in_ok-push-in-Err.ensures.items in
    ap (λ (l : List Order). was ++ l) (not_ended state (orders_at state read (λ next. orders_of next more)) c.in_default.not-Ended
    ∙ ap (λ (r : Result (ℕ × Request) StatementFault). orders_at state r (λ next. orders_of next more)) fault ∙ at_fault state c.in-Err.fault (λ next. orders_of next more))
    ∙ sym pushed ∙ sym (append-nil c.push.new.self.items) ∙ ap (λ (l : List Order). c.push.new.self.items ++ l) (sym (orders_ended more))
