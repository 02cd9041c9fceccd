-- The copies that the statements of a step order: a COPY, and the SELECT or EXCLUDE after it (Utilities GC28-6586, in this project's profile).
use Rattle.std.specs.Prelude.{ℕ, List, [], ◌∷◌, ◌++◌, Option, Some, None, Result, Ok, Err}
use Rattle.util_syntax.specs.declared.program.StatementFault.{StatementFault}
use Rattle.util_syntax.specs.Program.{bad_operand}
use Rattle.util_syntax.specs.Items.{ItemView, fault, statement}
use Rattle.iebcopy_util.specs.declared.orders.Choice.{Choice}
use Rattle.iebcopy_util.specs.declared.orders.Choice.TheVariants as choices
use Rattle.iebcopy_util.specs.declared.orders.Opened.{Opened}
use Rattle.iebcopy_util.specs.declared.orders.Order.{Order}
use Rattle.iebcopy_util.specs.declared.orders.Order.TheVariants as order
use Rattle.iebcopy_util.specs.declared.orders.State.{State}
use Rattle.iebcopy_util.specs.declared.orders.State.TheVariants.{Idle, Open, Ended}
use Rattle.iebcopy_util.specs.declared.requests.Request.{Request}
use Rattle.iebcopy_util.specs.declared.requests.Request.TheVariants.{Copy, Select, Exclude}
use Rattle.iebcopy_util.specs.Requests.{request_of}

abbrev pub asked_for : ℕ → Option Request → Result (ℕ × Request) StatementFault
asked_for card None = Err (bad_operand card)
asked_for card (Some request) = Ok (card, request)

-- what a statement asks for, after its card, or its fault
unfoldable pub asked : ItemView → Result (ℕ × Request) StatementFault
asked (fault card column kind) = Err (record { card = card; kind = kind })
asked (statement s) = asked_for s.card (request_of s)

-- the copy of a COPY
abbrev pub copy_order : ℕ → Opened → Choice → Order
copy_order card opened choice = order.Copy (record { card = card; dds = opened.dds; choice = choice })

-- a COPY that takes no further statement copies all members
abbrev pub closed : State → List Order
closed Idle = []
closed (Open opened) = copy_order opened.card opened choices.All ∷ []
closed Ended = []

-- a choice of members belongs to a COPY that stands before it; the lines name this card
abbrev pub chosen : State → ℕ → ℕ → Choice → (State → List Order) → List Order
chosen (Open opened) card own choice more = copy_order card opened choice ∷ more Idle
chosen _ card own choice more = order.Fault (bad_operand own) ∷ []

-- the card of the COPY before, or of the statement itself
abbrev pub opened_card : State → ℕ → ℕ
opened_card (Open opened) card = opened.card
opened_card _ card = card

-- the orders of a statement and of those after it; a fault ends them, and a COPY that still takes a statement isn't done then
unfoldable pub orders_at : State → Result (ℕ × Request) StatementFault → (State → List Order) → List Order
orders_at state (Err f) more = order.Fault f ∷ []
orders_at state (Ok (card, Copy dds)) more = closed state ++ more (Open (record { card = card; dds = dds }))
orders_at state (Ok (card, Select picks)) more = chosen state card card (choices.Select picks) more
orders_at state (Ok (card, Exclude names)) more = chosen state (opened_card state card) card (choices.Exclude names) more

-- after a fault nothing is ordered
abbrev pub unless_ended : State → List Order → List Order
unless_ended Ended orders = []
unless_ended _ orders = orders

-- the orders of statements, in order
abbrev pub orders_of : State → List ItemView → List Order
orders_of state [] = closed state
orders_of state (item ∷ items) = unless_ended state (orders_at state (asked item) (λ next. orders_of next items))
