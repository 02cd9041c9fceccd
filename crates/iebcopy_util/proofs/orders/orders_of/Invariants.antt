use Rattle.std.proofs.Common.{◌≡◌, ◌++◌, drop, map}
use Rattle.util_syntax.specs.Items.{item_view}
use Rattle.iebcopy_util.specs.declared.orders.State.TheVariants.{Idle}
use Rattle.iebcopy_util.specs.Orders.{orders_of}
use Rattle.iebcopy_util.proofs.orders.orders_of.Given as goal

-- the orders so far, and those of the statements that are left, are those of all
abbrev pub invariant-loop-item : goal.invariant-loop-item
invariant-loop-item l = orders_of Idle (map item_view l.items) ≡ l.orders.items ++ orders_of l.state (map item_view (drop l.item-index l.items))
