-- The parts of the input that the statements of a step order to be written, each to a member of its own or all to one output (Utilities GC28-6586, in this project's profile).
use Rattle.std.specs.Prelude.{ℕ, List, [], ◌∷◌, ◌++◌, Option, Some, None, Result, Ok, Err}
use Rattle.util_syntax.specs.declared.program.StatementFault.{StatementFault}
use Rattle.util_syntax.specs.Items.{ItemView, fault, statement}
use Rattle.util_syntax.specs.Program.{bad_operand}
use Rattle.iebgener_util.specs.declared.orders.Order.{Order}
use Rattle.iebgener_util.specs.declared.orders.Order.TheVariants as order
use Rattle.iebgener_util.specs.declared.orders.OutputOrder.{OutputOrder}
use Rattle.iebgener_util.specs.declared.orders.State.{State}
use Rattle.iebgener_util.specs.declared.orders.State.TheVariants.{Begun, Ended, Open}
use Rattle.iebgener_util.specs.declared.requests.Edit.{Edit}
use Rattle.iebgener_util.specs.declared.requests.Names.{Names}
use Rattle.iebgener_util.specs.declared.requests.Request.{Request}
use Rattle.iebgener_util.specs.declared.requests.Request.TheVariants.{Generate, Member, Record}
use Rattle.iebgener_util.specs.Requests.{request_of}

abbrev pub asked_for : ℕ → Option Request → Result (ℕ × Request) StatementFault
asked_for card None = Err (bad_operand card)
asked_for card (Some request) = Ok (card, request)

-- what a statement asks for, after its card, or its fault
unfoldable pub asked : ItemView → Result (ℕ × Request) StatementFault
asked (fault card column kind) = Err (record { card = card; kind = kind })
asked (statement s) = asked_for s.card (request_of s)

-- a part on a card, without edits yet
abbrev pub new_part : ℕ → Option Names → OutputOrder
new_part card names = record { card = card; names = names; edits = [] }

-- a part that edits one more group
abbrev pub with_edit : OutputOrder → Edit → OutputOrder
with_edit p edit = record p { edits = p.edits ++ edit ∷ [] }

-- the card of a step that begins: that of the first statement, or of EXEC
abbrev pub first_card : ℕ → Option ℕ → ℕ
first_card exec None = exec
first_card exec (Some card) = card

-- the part that stands open at the end; without a MEMBER and a RECORD it is the whole input
abbrev pub closed : ℕ → State → List Order
closed exec (Begun card) = order.Write (new_part (first_card exec card) None) ∷ []
closed exec (Open p) = order.Write p ∷ []
closed exec Ended = []

abbrev pub refused_at : ℕ → List Order
refused_at card = order.Fault (bad_operand card) ∷ []

-- GENERATE stands first
abbrev pub generate_at : State → ℕ → (State → List Order) → List Order
generate_at (Begun None) card more = more (Begun (Some card))
generate_at _ card more = refused_at card

-- RECORD belongs to the part before it, and else begins the one part, which has no member's name
abbrev pub record_at : State → ℕ → Edit → (State → List Order) → List Order
record_at (Begun first) card edit more = more (Open (with_edit (new_part (first_card card first) None) edit))
record_at (Open p) card edit more = more (Open (with_edit p edit))
record_at Ended card edit more = refused_at card

-- MEMBER ends the member before it; after a part without a name it has no place
abbrev pub member_behind : Option Names → OutputOrder → ℕ → Names → (State → List Order) → List Order
member_behind None p card names more = refused_at card
member_behind (Some own) p card names more = order.Write p ∷ more (Open (new_part card (Some names)))

abbrev pub member_at : State → ℕ → Names → (State → List Order) → List Order
member_at (Begun first) card names more = more (Open (new_part card (Some names)))
member_at (Open p) card names more = member_behind p.names p card names more
member_at Ended card names more = refused_at card

-- the orders of a statement and of those after it; a fault ends them, and a part that still takes statements isn't written then
unfoldable pub orders_at : State → Result (ℕ × Request) StatementFault → (State → List Order) → List Order
orders_at state (Err f) more = order.Fault f ∷ []
orders_at state (Ok (card, Generate)) more = generate_at state card more
orders_at state (Ok (card, Record edit)) more = record_at state card edit more
orders_at state (Ok (card, Member names)) more = member_at state card names more

-- after a fault nothing is ordered
abbrev pub unless_ended : State → List Order → List Order
unless_ended Ended orders = []
unless_ended _ orders = orders

-- the orders of statements, in order, in a step on this card
abbrev pub orders_of : ℕ → State → List ItemView → List Order
orders_of exec state [] = closed exec state
orders_of exec state (item ∷ items) = unless_ended state (orders_at state (asked item) (λ next. orders_of exec next items))
