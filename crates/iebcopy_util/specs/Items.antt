-- What IEBCOPY does in a step (Utilities GC28-6586, in this project's profile).
use Rattle.std.specs.Prelude.{ℕ, Bool, true, false, not, if◌then◌else◌, List, [], ◌∷◌, ◌++◌, map, filter, codes, Option, Some, None, Result, Ok, Err}
use Rattle.std.specs.Map.{lookup}
use Rattle.ebcdic_names.specs.declared.names.Dsn.{Dsn}
use Rattle.vol_model.specs.declared.contents.DataSet.{DataSet}
use Rattle.vol_model.specs.declared.contents.Shelf.{Shelf}
use Rattle.vol_model.specs.declared.refusals.Refusal.{Refusal}
use Rattle.vol_model.specs.declared.refusals.Refusal.TheVariants.{MemberExists, NoMember}
use Rattle.vol_model.specs.Did.{Did}
use Rattle.vol_model.specs.Events.{Item, after_operations, events_of, shelf_behind}
use Rattle.util_steps.specs.declared.calls.SetRef.{SetRef}
use Rattle.util_syntax.specs.declared.listing.Object.TheVariants as object
use Rattle.util_syntax.specs.declared.listing.Outcome.{Outcome}
use Rattle.util_syntax.specs.declared.listing.Outcome.TheVariants as outcome
use Rattle.util_syntax.specs.declared.step.StepIn.{StepIn}
use Rattle.util_syntax.specs.Items.{ItemView}
use Rattle.util_syntax.specs.Listing.{item_line}
use Rattle.util_syntax.specs.Program.{no_dd_item, outcome_code, statements_in, syntax_item, sysin}
use Rattle.util_syntax.specs.Step.{same_name}
use Rattle.util_program.specs.Outcomes.{outcome_item}
use Rattle.iebcopy_util.specs.declared.copying.Copy.{Copy}
use Rattle.iebcopy_util.specs.declared.orders.Choice.{Choice}
use Rattle.iebcopy_util.specs.declared.orders.Choice.TheVariants.{Select}
use Rattle.iebcopy_util.specs.declared.orders.CopyOrder.{CopyOrder}
use Rattle.iebcopy_util.specs.declared.orders.Order.{Order}
use Rattle.iebcopy_util.specs.declared.orders.Order.TheVariants as order
use Rattle.iebcopy_util.specs.declared.orders.State.TheVariants.{Idle}
use Rattle.iebcopy_util.specs.declared.requests.Pick.{Pick}
use Rattle.iebcopy_util.specs.declared.sets.Input.{Input}
use Rattle.iebcopy_util.specs.declared.sets.Sets.{Sets}
use Rattle.iebcopy_util.specs.declared.tasks.RefusedSet.{RefusedSet}
use Rattle.iebcopy_util.specs.declared.tasks.MemberCopy.{MemberCopy}
use Rattle.iebcopy_util.specs.Copying.{member_copied}
use Rattle.iebcopy_util.specs.Orders.{orders_of}
use Rattle.iebcopy_util.specs.Sets.{is_among, library, sets_of}
use Rattle.iebcopy_util.specs.Tasks.{is_taken, tasks_of}
use Rattle.ebcdic_names.specs.declared.names.Name8.{Name8}

-- ---- members

-- the condition code of a copy: 4 where a member is there already, or isn't
abbrev pub copy_code : Outcome → ℕ
copy_code (outcome.Refused MemberExists) = 4
copy_code (outcome.Refused NoMember) = 4
copy_code o = outcome_code o

-- what became of a copy
abbrev pub outcome_of : Result (Option Copy) Outcome → Outcome
outcome_of (Ok c) = outcome.Done
outcome_of (Err o) = o

-- the line of a member, on a card
abbrev pub member_line : ℕ → SetRef → Name8 → Outcome → List ℕ
member_line card out name o = item_line card (codes "COPY") (object.Member out.dsn name) o

-- the item of a member
unfoldable pub member_item : ℕ → SetRef → MemberCopy → Did (Option Copy) Outcome → Item
member_item card out t did = let o = outcome_of did.answer in record { operations = did.operations; lines = member_line card out t.name o ∷ []; code = copy_code o }

-- Items, and whether more of their kind follow.
pub record Course : Type 0 where
  pub items : List Item
  pub goes_on : Bool

-- an item after which nothing follows
abbrev pub ends_with : Item → Course
ends_with item = record { items = item ∷ []; goes_on = false }

-- an item in front
abbrev pub item_then : Item → Course → Course
item_then item course = record { items = item ∷ course.items; goes_on = course.goes_on }

-- nothing more
abbrev pub stopped : Course
stopped = record { items = []; goes_on = false }

-- what follows a member: the others, unless it is refused otherwise than for being there
abbrev pub follow : Result (Option Copy) Outcome → (List Copy → Course) → Course
follow (Ok None) more = more []
follow (Ok (Some c)) more = more (c ∷ [])
follow (Err (outcome.Refused MemberExists)) more = more []
follow (Err o) more = stopped

-- The members of a copy, one after another, each on the shelf after the others; a refusal ends them, but that a member is there.
abbrev pub members : Shelf → ℕ → SetRef → List Copy → List MemberCopy → Course
members shelf card out copies [] = record { items = []; goes_on = true }
members shelf card out copies (t ∷ ts) =
    let did = member_copied shelf out copies t in
    item_then (member_item card out t did) (follow did.answer (λ more. members (after_operations shelf did.operations) card out (copies ++ more) ts))

-- ---- a copy

-- the members that a copy names
abbrev pub picks_in : Choice → List Pick
picks_in (Select picks) = picks
picks_in _ = []

-- of those the ones that no input has
abbrev pub missing : Choice → List MemberCopy → List Pick
missing choice tasks = filter (λ (p : Pick). not (is_taken p.name tasks)) (picks_in choice)

-- the item of a member that no input has
abbrev pub missing_item : ℕ → SetRef → Pick → Item
missing_item card out p = record { operations = []; lines = member_line card out p.name (outcome.Refused NoMember) ∷ []; code = 4 }

-- the items of the members that no input has
abbrev pub items_missing : ℕ → SetRef → List MemberCopy → List Pick → List Item
items_missing card out tasks picks = map (missing_item card out) (filter (λ (p : Pick). not (is_taken p.name tasks)) picks)

-- the item of a copy that isn't done for the sake of a data set
abbrev pub refused_item : ℕ → Dsn → Outcome → Item
refused_item card dsn o = outcome_item card (codes "COPY") (object.Name dsn) o

-- the copies of members, where the output is found
abbrev pub tasks_if : Shelf → Choice → SetRef → List Input → Result DataSet Refusal → Result (List MemberCopy) RefusedSet
tasks_if shelf choice out inputs (Err r) = Err (record { dsn = out.dsn; refusal = r })
tasks_if shelf choice out inputs (Ok x) = tasks_of shelf choice 0 None [] inputs

-- members, and where no refusal ended them those that no input has
abbrev pub with_missing : ℕ → SetRef → List Pick → Course → List Item
with_missing card out picks course = course.items ++ (if course.goes_on then map (missing_item card out) picks else [])

abbrev pub items_if : Shelf → ℕ → SetRef → Choice → Result (List MemberCopy) RefusedSet → List Item
items_if shelf card out choice (Err f) = refused_item card f.dsn (outcome.Refused f.refusal) ∷ []
items_if shelf card out choice (Ok tasks) = with_missing card out (missing choice tasks) (members shelf card out [] tasks)

-- The items of a copy. An output that is an input is refused first, and then the first of the data sets that is no library; nothing is copied then.
unfoldable pub copy_items : Shelf → ℕ → Choice → Sets → List Item
copy_items shelf card choice sets =
    if is_among sets.out sets.inputs then refused_item card sets.out.dsn outcome.SameSet ∷ []
    else items_if shelf card sets.out choice (tasks_if shelf choice sets.out sets.inputs (library shelf sets.out))

-- ---- the step

-- the items of a copy whose DDs are there; the first that isn't ends the step
abbrev pub order_if : StepIn → Shelf → CopyOrder → Result Sets Name8 → Course
order_if step shelf o (Err name) = ends_with (no_dd_item step.card name)
order_if step shelf o (Ok sets) = record { items = copy_items shelf o.card o.choice sets; goes_on = true }

-- the items of an order
unfoldable pub order_items : StepIn → Shelf → Order → Course
order_items step shelf (order.Copy o) = order_if step shelf o (sets_of step.dds o.dds)
order_items step shelf (order.Fault f) = ends_with (syntax_item f.card f.kind)

-- the items of orders, one after another
abbrev pub orders_items : StepIn → Shelf → List Order → List Item
orders_items step shelf [] = []
orders_items step shelf (o ∷ os) =
    let course = order_items step shelf o in
    course.items ++ (if course.goes_on then orders_items step (shelf_behind shelf (events_of course.items)) os else [])

-- the items of statements, or that SYSIN isn't there
abbrev pub step_items : StepIn → Shelf → Option (List ItemView) → List Item
step_items step shelf None = no_dd_item step.card sysin ∷ []
step_items step shelf (Some statements) = orders_items step shelf (orders_of Idle statements)

-- the items of a step
unfoldable pub iebcopy_items : StepIn → Shelf → List Item
iebcopy_items step shelf = step_items step shelf (statements_in (lookup (same_name sysin) step.dds))
