-- The functions that the cards of SYSIN order, each with its statements and its data (Utilities GC28-6586, in this project's profile).
use Rattle.std.specs.Prelude.{ℕ, Bool, true, false, not, ◌&&◌, if◌then◌else◌, List, [], ◌∷◌, ◌++◌, is_some, is_none, Option, Some, None}
use Rattle.card_text.specs.declared.cards.Card.{Card}
use Rattle.ebcdic_names.specs.declared.names.Name8.{Name8}
use Rattle.update_forms.specs.declared.lines.CardLine.{CardLine}
use Rattle.update_forms.specs.declared.lines.CardLine.TheVariants as lines
use Rattle.update_forms.specs.declared.orders.Function.{Function}
use Rattle.update_forms.specs.declared.orders.Order.{Order}
use Rattle.update_forms.specs.declared.orders.Order.TheVariants as order
use Rattle.update_forms.specs.declared.orders.Setting.{Setting}
use Rattle.update_forms.specs.declared.orders.State.{State}
use Rattle.update_forms.specs.declared.orders.State.TheVariants.{Begun, Ended, Open}
use Rattle.update_forms.specs.declared.orders.Stepped.{Stepped}
use Rattle.update_forms.specs.declared.orders.Target.{Target}
use Rattle.update_forms.specs.declared.orders.Target.TheVariants.{Library, OtherKind, Sequential}
use Rattle.update_forms.specs.declared.records.CardRecord.{CardRecord}
use Rattle.update_forms.specs.declared.requests.Heading.{Heading}
use Rattle.update_forms.specs.declared.requests.Numbering.{Numbering}
use Rattle.update_forms.specs.declared.requests.Range.{Range}
use Rattle.update_forms.specs.declared.requests.Request.{Request}
use Rattle.update_forms.specs.declared.requests.Request.TheVariants as requests
use Rattle.update_forms.specs.declared.requests.Verb.{Verb}
use Rattle.update_forms.specs.declared.requests.Verb.TheVariants.{Add, Change, Repl, Repro}
use Rattle.util_syntax.specs.Program.{bad_operand}
use Rattle.update_forms.specs.Lines.{line_of}

-- ---- where statements have a place

-- REPRO and CHANGE read an old member
abbrev pub reads_old : Verb → Bool
reads_old Add = false
reads_old Repl = false
reads_old Repro = true
reads_old Change = true

abbrev pub is_change : Verb → Bool
is_change Change = true
is_change _ = false

abbrev pub takes_data : Verb → Bool
takes_data Repro = false
takes_data _ = true

-- a member of a library has a name, and a sequential set none
abbrev pub fits_name : Target → Option Name8 → Bool
fits_name Library name = is_some name
fits_name Sequential name = is_none name
fits_name OtherKind name = true

abbrev pub is_sequential : Target → Bool
is_sequential Sequential = true
is_sequential _ = false

-- a function has a place: one that reads has an old set, and its name fits
abbrev pub has_place : Setting → Heading → Bool
has_place setting h = not (setting.fresh && reads_old h.verb) && fits_name setting.target h.name

-- ---- a function that stands open

abbrev pub begun : ℕ → Heading → Function
begun card h = record { card = card; heading = h; numbering = None; ranges = []; aliases = []; data_cards = [] }

-- NUMBER stands once, with SEQ1=ALL in a CHANGE alone
abbrev pub takes_numbering : Function → Numbering → Bool
takes_numbering f n = is_none f.numbering && (if is_change f.heading.verb then n.all else not n.all)

-- ---- steps

abbrev pub goes_on : State → Stepped
goes_on state = record { order = None; next = state }

-- a fault ends the orders, and the function that stands open isn't done
abbrev pub refused : ℕ → Stepped
refused card = record { order = Some (order.Fault (bad_operand card)); next = Ended }

-- a function that begins closes the one that stands open, if the set takes a second one
abbrev pub heading_at : Setting → State → ℕ → Heading → Stepped
heading_at setting Begun card h = if has_place setting h then goes_on (Open (begun card h)) else refused card
heading_at setting (Open f) card h =
    if has_place setting h && not (is_sequential setting.target) then record { order = Some (order.Write f); next = Open (begun card h) } else refused card
heading_at setting Ended card h = goes_on Ended

abbrev pub numbering_at : Function → ℕ → Numbering → Stepped
numbering_at f card n = if takes_numbering f n then goes_on (Open (record f { numbering = Some n })) else refused card

-- DELETE belongs to a CHANGE
abbrev pub range_at : Function → ℕ → Range → Stepped
range_at f card range = if is_change f.heading.verb then goes_on (Open (record f { ranges = f.ranges ++ range ∷ [] })) else refused card

-- ALIAS names a member of a library
abbrev pub alias_at : Setting → Function → ℕ → Name8 → Stepped
alias_at setting f card name = if is_sequential setting.target then refused card else goes_on (Open (record f { aliases = f.aliases ++ name ∷ [] }))

abbrev pub detail_at : Setting → Function → ℕ → Request → Stepped
detail_at setting f card (requests.Function h) = heading_at setting (Open f) card h
detail_at setting f card (requests.Number n) = numbering_at f card n
detail_at setting f card (requests.Delete range) = range_at f card range
detail_at setting f card (requests.Alias name) = alias_at setting f card name
detail_at setting f card requests.EndUp = record { order = Some (order.Write f); next = Ended }

-- before the first function only that and ENDUP have a place
abbrev pub first_at : Setting → ℕ → Request → Stepped
first_at setting card (requests.Function h) = heading_at setting Begun card h
first_at setting card requests.EndUp = goes_on Ended
first_at setting card _ = refused card

abbrev pub request_at : Setting → State → ℕ → Request → Stepped
request_at setting Begun card request = first_at setting card request
request_at setting (Open f) card request = detail_at setting f card request
request_at setting Ended card request = goes_on Ended

abbrev pub data_at : State → ℕ → CardRecord → Stepped
data_at Begun card r = refused card
data_at (Open f) card r = if takes_data f.heading.verb then goes_on (Open (record f { data_cards = f.data_cards ++ r ∷ [] })) else refused card
data_at Ended card r = goes_on Ended

-- what a card orders, and what stands open after it; after a fault and after ENDUP nothing is read
unfoldable pub stepped : Setting → State → CardLine → Stepped
stepped setting Ended line = goes_on Ended
stepped setting state (lines.Data card r) = data_at state card r
stepped setting state (lines.Asked card request) = request_at setting state card request
stepped setting state (lines.Faulty f) = record { order = Some (order.Fault f); next = Ended }

abbrev pub with_order : Option Order → List Order → List Order
with_order None orders = orders
with_order (Some o) orders = o ∷ orders

-- the end closes the function that stands open
abbrev pub closed : State → List Order
closed Begun = []
closed (Open f) = order.Write f ∷ []
closed Ended = []

-- the orders of cards, in order, from what stands open
abbrev pub orders_from : Setting → State → List (ℕ × Card) → List Order
orders_from setting state [] = closed state
orders_from setting state (card ∷ cards) = let s = stepped setting state (line_of card) in with_order s.order (orders_from setting s.next cards)

-- the orders of all cards
abbrev pub orders_of : Setting → List (ℕ × Card) → List Order
orders_of setting cards = orders_from setting Begun cards
