-- What statements order, case by case.
use Rattle.std.proofs.Common.{◌≡◌, ℕ, false, List, [], ◌∷◌, ◌++◌, refl, sym, ◌∙◌, ap}
use Rattle.std.proofs.lemmas.List.{append-nil}
use Rattle.std.specs.Prelude.{Option, Err, None, Some, is_none}
use Rattle.util_syntax.specs.Items.{ItemView}
use Rattle.iebgener_util.specs.declared.orders.Order.{Order}
use Rattle.iebgener_util.specs.declared.orders.Order.TheVariants as order
use Rattle.iebgener_util.specs.declared.orders.OutputOrder.{OutputOrder}
use Rattle.iebgener_util.specs.declared.orders.State.{State}
use Rattle.iebgener_util.specs.declared.orders.State.TheVariants.{Begun, Open, Ended}
use Rattle.util_syntax.specs.declared.program.StatementFault.{StatementFault}
use Rattle.iebgener_util.specs.declared.requests.Names.{Names}
use Rattle.iebgener_util.specs.Orders.{member_behind, new_part, orders_at, orders_of, unless_ended}

-- after a fault nothing is ordered
pub orders_ended : (exec : ℕ) (items : List ItemView) → orders_of exec Ended items ≡ []
orders_ended exec [] = refl
orders_ended exec (item ∷ items) = refl

-- before one all is ordered
pub not_ended : (state : State) (orders : List Order) → (state ≡ Ended → ⊥) → unless_ended state orders ≡ orders
not_ended (Begun first) orders not = refl
not_ended (Open p) orders not = refl
not_ended Ended orders not = absurd (not refl)

pub at_fault : (state : State) (f : StatementFault) (more : State → List Order) → orders_at state (Err f) more ≡ order.Fault f ∷ []
unfolding orders_at
at_fault state f more = refl

-- an order in front of no more
pub last_order : (was now : List Order) (o : Order) (exec : ℕ) (more : List ItemView) → now ≡ was ++ o ∷ [] → was ++ o ∷ [] ≡ now ++ orders_of exec Ended more
last_order was now o exec more pushed = sym pushed ∙ sym (append-nil now) ∙ ap (λ (l : List Order). now ++ l) (sym (orders_ended exec more))

-- a MEMBER after one that has a name ends it
pub named_behind : (own : Option Names) (p : OutputOrder) (card : ℕ) (names : Names) (more : State → List Order) → is_none own ≡ false → member_behind own p card names more ≡ order.Write p ∷ more (Open (new_part card (Some names)))
named_behind None p card names more is = cc
named_behind (Some own) p card names more is = refl
