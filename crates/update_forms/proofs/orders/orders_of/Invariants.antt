use Rattle.std.proofs.Common.{◌≡◌, ◌++◌, drop}
use Rattle.update_forms.specs.declared.orders.State.TheVariants.{Begun}
use Rattle.update_forms.specs.Orders.{orders_from}
use Rattle.update_forms.proofs.orders.orders_of.Given as goal

-- the orders so far, and those of the cards that are left, are those of all
abbrev pub invariant-loop-card : goal.invariant-loop-card
invariant-loop-card l = orders_from l.setting Begun l.cards ≡ l.orders.items ++ orders_from l.setting l.state (drop l.card-index l.cards)
