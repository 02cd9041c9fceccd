-- What IEBCOPY does is accepted.
use Rattle.std.proofs.Common.{ℕ, ◌++◌, Bool, true, false, List, [], ◌∷◌, map}
use Rattle.std.specs.Prelude.{Option, Some, None, Result, Ok, Err, not, if◌then◌else◌}
use Rattle.std.specs.List.{list_all}
use Rattle.std.specs.Map.{lookup}
use Rattle.ebcdic_names.specs.declared.names.Name8.{Name8}
use Rattle.vol_model.specs.declared.answers.Mode.TheVariants as modes
use Rattle.vol_model.specs.declared.contents.Block.{Block}
use Rattle.vol_model.specs.declared.contents.DataSet.{DataSet}
use Rattle.vol_model.specs.declared.contents.Shelf.{Shelf}
use Rattle.vol_model.specs.declared.refusals.Refusal.{Refusal}
use Rattle.vol_model.specs.declared.refusals.Refusal.TheVariants.{MemberExists}
use Rattle.vol_model.specs.declared.requests.Op.{Op}
use Rattle.vol_model.specs.declared.requests.Op.TheVariants.{Empty, Enter}
use Rattle.vol_model.specs.Did.{Did, and_then, answered, with_reason}
use Rattle.vol_model.specs.Events.{after_operations, events_of, shelf_behind}
use Rattle.vol_model.specs.Reading.{member}
use Rattle.vol_model.specs.Writing.{did_apply}
use Rattle.util_steps.specs.declared.calls.SetRef.{SetRef}
use Rattle.util_steps.specs.Copying.{filled, has_data, refusing, source}
use Rattle.util_steps.proofs.AcceptedLemmas.{DidAccepted, ItemsAccepted, accepted_append, accepted_cons, accepted_filled, accepted_one, accepted_reason, accepted_refusing, accepted_then}
use Rattle.util_syntax.specs.declared.listing.Outcome.{Outcome}
use Rattle.util_syntax.specs.declared.listing.Outcome.TheVariants as outcome
use Rattle.util_syntax.specs.declared.step.StepIn.{StepIn}
use Rattle.util_syntax.specs.Items.{ItemView}
use Rattle.util_syntax.specs.Program.{no_dd_item, statements_in, syntax_item, sysin}
use Rattle.util_syntax.specs.Step.{same_name}
use Rattle.iebcopy_util.specs.declared.copying.Copy.{Copy}
use Rattle.iebcopy_util.specs.declared.orders.Choice.{Choice}
use Rattle.iebcopy_util.specs.declared.orders.CopyOrder.{CopyOrder}
use Rattle.iebcopy_util.specs.declared.orders.Order.{Order}
use Rattle.iebcopy_util.specs.declared.orders.Order.TheVariants as order
use Rattle.iebcopy_util.specs.declared.orders.State.TheVariants.{Idle}
use Rattle.iebcopy_util.specs.declared.requests.Pick.{Pick}
use Rattle.iebcopy_util.specs.declared.sets.Sets.{Sets}
use Rattle.iebcopy_util.specs.declared.tasks.RefusedSet.{RefusedSet}
use Rattle.iebcopy_util.specs.declared.tasks.MemberCopy.{MemberCopy}
use Rattle.util_program.specs.Outcomes.{outcome_for, performed}
use Rattle.iebcopy_util.specs.Copying.{can_move, copied, copied_again, copied_anew, copied_from, copied_if, copied_or_again, copy_before, copy_made, entered, entry_for, finished, first_refusal, output_state, is_blank, member_copied, places, with_attributes, unless_refused, written}
use Rattle.iebcopy_util.specs.Items.{Course, copy_items, follow, iebcopy_items, items_if, member_item, members, missing, missing_item, order_if, order_items, orders_items, refused_item, step_items, tasks_if, with_missing}
use Rattle.iebcopy_util.specs.Orders.{orders_of}
use Rattle.iebcopy_util.specs.Sets.{is_among, library, sets_of}

-- ---- a member

perform : (s : Shelf) (op : Op) → DidAccepted s (performed s op)
perform s op = accepted_reason s outcome_for (refusing (did_apply s op)) (accepted_refusing s op)

enter : (s : Shelf) (out : SetRef) (t : MemberCopy) (c : Copy) → DidAccepted s (entered s out t c)
enter s out t c = perform s (Enter out.v out.dsn (entry_for t c) t.replace)

again : (s : Shelf) (out : SetRef) (t : MemberCopy) (c : Copy) → DidAccepted s (copied_again s out t c)
unfolding copied_again
again s out t c = by_user (can_move c.from t.entry)
  where
    by_user : (b : Bool) → DidAccepted {X = Option Copy} {E = Outcome} s (if b then and_then s (entered s out t c) (λ x u. answered (Ok None)) else answered (Err outcome.BadTtr))
    by_user true = accepted_then s (entered s out t c) (λ x u. answered (Ok None)) (enter s out t c) (λ x u. tt)
    by_user false = tt

finish : (s : Shelf) (out : SetRef) (t : MemberCopy) (c : Copy) → DidAccepted s (finished s out t c)
finish s out t c = accepted_then s (entered s out t c) (λ x u. answered (Ok (Some c))) (enter s out t c) (λ x u. tt)

write : (s : Shelf) (out : SetRef) (t : MemberCopy) (bs : List Block) → DidAccepted s (written s out t bs)
unfolding written
write s out t bs =
    accepted_then s (with_reason outcome_for (filled s out modes.Area bs)) (λ x u. finished u out t (copy_made s u out t bs))
    (accepted_reason s outcome_for (filled s out modes.Area bs) (accepted_filled s out modes.Area bs))
    (λ x u. finish u out t (copy_made s u out t bs))

attributes_set : (s : Shelf) (out : SetRef) (t : MemberCopy) (blank : Bool) → DidAccepted s (with_attributes s out t blank)
attributes_set s out t true = perform s (Empty out.v out.dsn t.source.given)
attributes_set s out t false = tt

copy : (s : Shelf) (out : SetRef) (t : MemberCopy) (blank : Bool) (bs : List Block) → DidAccepted s (copied s out t blank bs)
unfolding copied
copy s out t blank bs = accepted_then s (with_attributes s out t blank) (λ x u. written u out t bs) (attributes_set s out t blank) (λ x u. write u out t bs)

anew : (s : Shelf) (out : SetRef) (t : MemberCopy) (blank : Bool) (bs : List Block) → DidAccepted s (copied_anew s out t blank bs)
unfolding copied_anew
anew s out t blank bs = by_blocks (not (can_move (places bs) t.entry)) (not (list_all has_data bs))
  where
    by_blocks : (bad empty : Bool) → DidAccepted s (if bad then answered (Err outcome.BadTtr) else (if empty then answered (Err outcome.BadRecord) else copied s out t blank bs))
    by_blocks true empty = tt
    by_blocks false true = tt
    by_blocks false false = copy s out t blank bs

from : (s : Shelf) (out : SetRef) (t : MemberCopy) (blank : Bool) (found : Result (List Block) ℕ) → DidAccepted s (copied_from s out t blank found)
from s out t blank (Ok bs) = anew s out t blank (member bs t.entry.place)
from s out t blank (Err track) = tt

or_again : (s : Shelf) (out : SetRef) (t : MemberCopy) (blank : Bool) (c : Option Copy) → DidAccepted s (copied_or_again s out t blank c)
or_again s out t blank None = from s out t blank (source s t.source.set)
or_again s out t blank (Some c) = again s out t c

unless : (s : Shelf) (o : Option Outcome) (did : Did (Option Copy) Outcome) → DidAccepted s did → DidAccepted s (unless_refused o did)
unless s None did all = all
unless s (Some o) did all = tt

copy_if : (s : Shelf) (out : SetRef) (copies : List Copy) (t : MemberCopy) (r : Result DataSet Refusal) → DidAccepted s (copied_if s out copies t r)
copy_if s out copies t (Err r) = tt
copy_if s out copies t (Ok x) =
    let did = copied_or_again s out t (is_blank x) (copy_before copies t) in
    unless s (first_refusal t (output_state t x)) did (or_again s out t (is_blank x) (copy_before copies t))

one_member : (s : Shelf) (out : SetRef) (copies : List Copy) (t : MemberCopy) → DidAccepted s (member_copied s out copies t)
unfolding member_copied
one_member s out copies t = copy_if s out copies t (library s out)

-- ---- members

followed : (s : Shelf) (answer : Result (Option Copy) Outcome) (more : List Copy → Course) → ((cs : List Copy) → ItemsAccepted s (more cs).items) → ItemsAccepted s (follow answer more).items
followed s (Ok None) more all = all []
followed s (Ok (Some c)) more all = all (c ∷ [])
followed s (Err (outcome.Refused MemberExists)) more all = all []
followed s (Err _) more all = tt

all_members : (s : Shelf) (card : ℕ) (out : SetRef) (copies : List Copy) (ts : List MemberCopy) → ItemsAccepted s (members s card out copies ts).items
unfolding member_item
all_members s card out copies [] = tt
all_members s card out copies (t ∷ ts) =
    let did = member_copied s out copies t in
    let after = after_operations s did.operations in
    let more : List Copy → Course = λ cs. members after card out (copies ++ cs) ts in
    accepted_cons s (member_item card out t did) (follow did.answer more).items (one_member s out copies t) (followed after did.answer more (λ cs. all_members after card out (copies ++ cs) ts))

-- those that no input has do nothing
all_missing : (s : Shelf) (card : ℕ) (out : SetRef) (picks : List Pick) → ItemsAccepted s (map (missing_item card out) picks)
all_missing s card out [] = tt
all_missing s card out (p ∷ picks) = accepted_cons s (missing_item card out p) (map (missing_item card out) picks) tt (all_missing s card out picks)

and_missing : (s : Shelf) (card : ℕ) (out : SetRef) (picks : List Pick) (course : Course) → ItemsAccepted s course.items → ItemsAccepted s (with_missing card out picks course)
and_missing s card out picks course all = accepted_append s course.items (if course.goes_on then map (missing_item card out) picks else []) all (by_end course.goes_on)
  where
    by_end : (b : Bool) → ItemsAccepted (shelf_behind s (events_of course.items)) (if b then map (missing_item card out) picks else [])
    by_end true = all_missing (shelf_behind s (events_of course.items)) card out picks
    by_end false = tt

-- ---- copies

if_found : (s : Shelf) (card : ℕ) (out : SetRef) (choice : Choice) (r : Result (List MemberCopy) RefusedSet) → ItemsAccepted s (items_if s card out choice r)
if_found s card out choice (Err f) = accepted_one s (refused_item card f.dsn (outcome.Refused f.refusal)) tt
if_found s card out choice (Ok tasks) = and_missing s card out (missing choice tasks) (members s card out [] tasks) (all_members s card out [] tasks)

one_copy : (s : Shelf) (card : ℕ) (choice : Choice) (sets : Sets) → ItemsAccepted s (copy_items s card choice sets)
unfolding copy_items
one_copy s card choice sets = by_output (is_among sets.out sets.inputs)
  where
    found : Result (List MemberCopy) RefusedSet
    found = tasks_if s choice sets.out sets.inputs (library s sets.out)

    by_output : (b : Bool) → ItemsAccepted s (if b then refused_item card sets.out.dsn outcome.SameSet ∷ [] else items_if s card sets.out choice found)
    by_output true = accepted_one s (refused_item card sets.out.dsn outcome.SameSet) tt
    by_output false = if_found s card sets.out choice found

if_there : (step : StepIn) (s : Shelf) (o : CopyOrder) (sets : Result Sets Name8) → ItemsAccepted s (order_if step s o sets).items
if_there step s o (Err name) = accepted_one s (no_dd_item step.card name) tt
if_there step s o (Ok sets) = one_copy s o.card o.choice sets

one_order : (step : StepIn) (s : Shelf) (o : Order) → ItemsAccepted s (order_items step s o).items
unfolding order_items
one_order step s (order.Copy o) = if_there step s o (sets_of step.dds o.dds)
one_order step s (order.Fault f) = accepted_one s (syntax_item f.card f.kind) tt

all_orders : (step : StepIn) (s : Shelf) (os : List Order) → ItemsAccepted s (orders_items step s os)
all_orders step s [] = tt
all_orders step s (o ∷ os) =
    let course = order_items step s o in
    let after = shelf_behind s (events_of course.items) in
    accepted_append s course.items (if course.goes_on then orders_items step after os else []) (one_order step s o) (by_end after os (all_orders step after os) course.goes_on)
  where
    by_end : (after : Shelf) (os : List Order) → ItemsAccepted after (orders_items step after os) → (b : Bool) → ItemsAccepted after (if b then orders_items step after os else [])
    by_end after os all true = all
    by_end after os all false = tt

if_statements : (step : StepIn) (s : Shelf) (statements : Option (List ItemView)) → ItemsAccepted s (step_items step s statements)
if_statements step s None = accepted_one s (no_dd_item step.card sysin) tt
if_statements step s (Some statements) = all_orders step s (orders_of Idle statements)

-- the items of a step
pub iebcopy_accepted : (step : StepIn) (s : Shelf) → ItemsAccepted s (iebcopy_items step s)
unfolding iebcopy_items
iebcopy_accepted step s = if_statements step s (statements_in (lookup (same_name sysin) step.dds))
