-- What statements order, case by case.
use Rattle.std.proofs.Common.{◌≡◌, ℕ, List, [], ◌∷◌, refl}
use Rattle.std.specs.Prelude.{Err}
use Rattle.util_syntax.specs.Items.{ItemView}
use Rattle.iebcopy_util.specs.declared.orders.Choice.{Choice}
use Rattle.iebcopy_util.specs.declared.orders.Opened.{Opened}
use Rattle.iebcopy_util.specs.declared.orders.Order.{Order}
use Rattle.iebcopy_util.specs.declared.orders.Order.TheVariants as order
use Rattle.iebcopy_util.specs.declared.orders.State.{State}
use Rattle.iebcopy_util.specs.declared.orders.State.TheVariants.{Idle, Open, Ended}
use Rattle.util_syntax.specs.declared.program.StatementFault.{StatementFault}
use Rattle.util_syntax.specs.Program.{bad_operand}
use Rattle.iebcopy_util.specs.Orders.{chosen, orders_at, orders_of, unless_ended}

-- a choice of members that follows no COPY is a fault
pub chosen_fault : (state : State) (card own : ℕ) (choice : Choice) (more : State → List Order) → ((o : Opened) → state ≡ Open o → ⊥) → chosen state card own choice more ≡ order.Fault (bad_operand own) ∷ []
chosen_fault Idle card own choice more not = refl
chosen_fault (Open o) card own choice more not = absurd (not o refl)
chosen_fault Ended card own choice more not = refl

-- after a fault nothing is ordered
pub orders_ended : (items : List ItemView) → orders_of Ended items ≡ []
orders_ended [] = refl
orders_ended (item ∷ items) = refl

-- before one all is ordered
pub not_ended : (state : State) (orders : List Order) → (state ≡ Ended → ⊥) → unless_ended state orders ≡ orders
not_ended Idle orders not = refl
not_ended (Open o) orders not = refl
not_ended Ended orders not = absurd (not refl)

pub at_fault : (state : State) (f : StatementFault) (more : State → List Order) → orders_at state (Err f) more ≡ order.Fault f ∷ []
unfolding orders_at
at_fault state f more = refl
