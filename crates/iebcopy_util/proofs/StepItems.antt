-- The items of copies and of orders, case by case.
use Rattle.std.proofs.Common.{◌≡◌, ℕ, Bool, true, false, not, length, List, [], ◌∷◌, ◌++◌, refl, sym, ◌∙◌, ap, arith}
use Rattle.std.specs.Prelude.{Option, Ok, Err, if◌then◌else◌}
use Rattle.vol_model.specs.declared.contents.Shelf.{Shelf}
use Rattle.vol_model.specs.Events.{Item, events_of, shelf_behind}
use Rattle.util_syntax.specs.declared.listing.Outcome.TheVariants as outcome
use Rattle.util_syntax.specs.declared.step.StepIn.{StepIn}
use Rattle.util_syntax.specs.Items.{ItemView}
use Rattle.util_syntax.specs.Program.{statements_in, syntax_item, sysin}
use Rattle.util_syntax.specs.Step.{same_name}
use Rattle.std.specs.Map.{lookup}
use Rattle.iebcopy_util.specs.declared.orders.Choice.{Choice}
use Rattle.iebcopy_util.specs.declared.orders.CopyOrder.{CopyOrder}
use Rattle.iebcopy_util.specs.declared.orders.Order.{Order}
use Rattle.iebcopy_util.specs.declared.orders.Order.TheVariants as order
use Rattle.util_syntax.specs.declared.program.StatementFault.{StatementFault}
use Rattle.iebcopy_util.specs.declared.sets.Sets.{Sets}
use Rattle.iebcopy_util.specs.declared.tasks.RefusedSet.{RefusedSet}
use Rattle.iebcopy_util.specs.declared.tasks.MemberCopy.{MemberCopy}
use Rattle.iebcopy_util.specs.Items.{Course, copy_items, iebcopy_items, items_if, members, missing, order_if, order_items, orders_items, refused_item, step_items, tasks_if, with_missing}
use Rattle.iebcopy_util.specs.Sets.{is_among, library, sets_of}

pub not_true : (b : Bool) → not b ≡ true → b ≡ false
not_true true is = cc
not_true false is = refl

pub not_false : (b : Bool) → not b ≡ false → b ≡ true
not_false true is = refl
not_false false is = cc

-- ---- a copy

module _ (s : Shelf) (card : ℕ) (choice : Choice) (sets : Sets) where
  abbrev by_inputs : Bool → List Item
  by_inputs t = if t then refused_item card sets.out.dsn outcome.SameSet ∷ [] else items_if s card sets.out choice (tasks_if s choice sets.out sets.inputs (library s sets.out))

  -- an output that is an input
  pub copies_same_set : is_among sets.out sets.inputs ≡ true → copy_items s card choice sets ≡ refused_item card sets.out.dsn outcome.SameSet ∷ []
  unfolding copy_items
  copies_same_set is = ap by_inputs is

  -- the first data set that is no library
  pub copies_refused : (f : RefusedSet) → is_among sets.out sets.inputs ≡ false → Err f ≡ tasks_if s choice sets.out sets.inputs (library s sets.out) → copy_items s card choice sets ≡ refused_item card f.dsn (outcome.Refused f.refusal) ∷ []
  unfolding copy_items
  copies_refused f is found = ap by_inputs is ∙ ap (items_if s card sets.out choice) (sym found)

  -- the members of libraries
  pub copies_taken : (tasks : List MemberCopy) → is_among sets.out sets.inputs ≡ false → Ok tasks ≡ tasks_if s choice sets.out sets.inputs (library s sets.out) → copy_items s card choice sets ≡ with_missing card sets.out (missing choice tasks) (members s card sets.out [] tasks)
  unfolding copy_items
  copies_taken tasks is found = ap by_inputs is ∙ ap (items_if s card sets.out choice) (sym found)

-- ---- orders

pub order_copy : (step : StepIn) (s : Shelf) (o : Order) (copy : CopyOrder) → o ≡ order.Copy copy → order_items step s o ≡ order_if step s copy (sets_of step.dds copy.dds)
unfolding order_items
order_copy step s o copy is = ap (order_items step s) is

pub order_fault : (step : StepIn) (s : Shelf) (o : Order) (f : StatementFault) → o ≡ order.Fault f → order_items step s o ≡ record { items = syntax_item f.card f.kind ∷ []; goes_on = false }
unfolding order_items
order_fault step s o f is = ap (order_items step s) is

-- the items after those of an order
abbrev pub items_behind : StepIn → Shelf → List Order → Course → Bool → List Item
items_behind step s os course b = if b then orders_items step (shelf_behind s (events_of course.items)) os else []

-- the items of the first order, and those after it
pub orders_first : (step : StepIn) (s : Shelf) (o : Order) (os orders : List Order) → orders ≡ o ∷ os → orders_items step s orders ≡ (order_items step s o).items ++ items_behind step s os (order_items step s o) (order_items step s o).goes_on
orders_first step s o os orders is = ap (orders_items step s) is

pub orders_next : (step : StepIn) (s now : Shelf) (o : Order) (os orders : List Order) (b : Bool) → orders ≡ o ∷ os → b ≡ (order_items step s o).goes_on → now ≡ shelf_behind s (events_of (order_items step s o).items)
    → orders_items step s orders ≡ (order_items step s o).items ++ (if b then orders_items step now os else [])
orders_next step s now o os orders b is goes there =
    orders_first step s o os orders is
    ∙ ap (λ (t : Bool). (order_items step s o).items ++ items_behind step s os (order_items step s o) t) (sym goes)
    ∙ ap (λ (u : Shelf). (order_items step s o).items ++ (if b then orders_items step u os else [])) (sym there)

pub orders_none : (step : StepIn) (s : Shelf) (orders : List Order) → length orders ≡ 0 → orders_items step s orders ≡ []
orders_none step s [] none = refl
orders_none step s (o ∷ os) none = absurd (omega arith)

-- ---- the step

-- the items of statements, or of a step without SYSIN
pub step_is : (step : StepIn) (s : Shelf) (found : Option (List ItemView)) → found ≡ statements_in (lookup (same_name sysin) step.dds) → iebcopy_items step s ≡ step_items step s found
unfolding iebcopy_items
step_is step s found is = ap (step_items step s) (sym is)
