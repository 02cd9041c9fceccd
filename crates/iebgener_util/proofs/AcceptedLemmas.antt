-- What IEBGENER does is accepted.
use Rattle.std.proofs.Common.{◌++◌, Bool, true, false, List, [], ◌∷◌, ℕ}
use Rattle.std.specs.Prelude.{Option, Some, None, Result, Ok, Err, if◌then◌else◌}
use Rattle.std.specs.Map.{lookup}
use Rattle.vol_model.specs.declared.contents.Attr.{Attr}
use Rattle.vol_model.specs.declared.contents.DataSet.{DataSet}
use Rattle.vol_model.specs.declared.contents.Shelf.{Shelf}
use Rattle.vol_model.specs.declared.refusals.Refusal.{Refusal}
use Rattle.vol_model.specs.Did.{answered, with_reason}
use Rattle.vol_model.specs.Events.{after_operations}
use Rattle.util_steps.specs.Accepted.{AllAccepted}
use Rattle.util_steps.proofs.AcceptedLemmas.{DidAccepted, ItemsAccepted, accepted_cons, accepted_one, accepted_reason}
use Rattle.util_syntax.specs.declared.listing.Outcome.TheVariants as outcome
use Rattle.util_syntax.specs.declared.step.StepIn.{StepIn}
use Rattle.util_syntax.specs.Items.{ItemView}
use Rattle.util_syntax.specs.Program.{no_dd_item, sysin}
use Rattle.util_syntax.specs.Step.{same_name}
use Rattle.util_program.specs.Outcomes.{outcome_for}
use Rattle.record_files.specs.Attributes.{format_in, found_both, output_attr}
use Rattle.record_files.specs.Inputs.{Found, InputView, attr_of, format_of, found_input}
use Rattle.record_files.specs.Writing.{Coming}
use Rattle.output_files.specs.declared.outputs.Output.{Output}
use Rattle.iebgener_util.specs.declared.orders.Order.{Order}
use Rattle.iebgener_util.specs.declared.orders.Order.TheVariants as order
use Rattle.iebgener_util.specs.declared.orders.State.TheVariants.{Begun}
use Rattle.iebgener_util.specs.declared.requests.Edit.{Edit}
use Rattle.iebgener_util.specs.Editing.{have_fields}
use Rattle.iebgener_util.specs.Items.{blocks_in, copied, copied_if, copied_with, copy_item, formats_clash, iebgener_items, input_in, items_if, names_for, order_item, order_items, statements_if}
use Rattle.output_files.specs.Members.{MemberNames}
use Rattle.output_files.specs.Outputs.{found_output, is_same, set_in, sysut1, sysut2, write_output}
use Rattle.output_files.proofs.AcceptedLemmas.{put}
use Rattle.iebgener_util.specs.Orders.{orders_of}

-- ---- copies

copy_with : (s : Shelf) (input : InputView) (out : Output) (names : Option MemberNames) (before : List Order) (edits : List Edit) (found : Found) (attr : Attr) → DidAccepted s (copied_with s input out names before edits found attr)
copy_with s input out names before edits found attr = by_formats (formats_clash (have_fields edits) (format_of found) (format_in attr)) (is_same input out.to names)
  where
    blocks : Coming
    blocks = blocks_in (format_in attr) before edits found

    by_formats : (clash same : Bool) → DidAccepted s (if clash then answered (Err outcome.Dcb) else (if same then answered (Err outcome.SameSet) else with_reason outcome_for (write_output s out names attr blocks)))
    by_formats true same = tt
    by_formats false true = tt
    by_formats false false = accepted_reason s outcome_for (write_output s out names attr blocks) (put s out names attr blocks)

copy_if : (s : Shelf) (input : InputView) (out : Output) (names : Option MemberNames) (before : List Order) (edits : List Edit) (found : Result (Found × DataSet) Refusal) → DidAccepted s (copied_if s input out names before edits found)
copy_if s input out names before edits (Err r) = tt
copy_if s input out names before edits (Ok found) = copy_with s input out names before edits found.0 (output_attr out.dcb found.1.attr (attr_of found.0))

copy : (s : Shelf) (input : InputView) (out : Output) (names : Option MemberNames) (before : List Order) (edits : List Edit) → DidAccepted s (copied s input out names before edits)
unfolding copied
copy s input out names before edits = copy_if s input out names before edits (found_both (found_input s input) (found_output s out names))

one_order : (s : Shelf) (input : InputView) (out : Output) (before : List Order) (o : Order) → AllAccepted s (order_item s input out before o).operations
unfolding copy_item order_item
one_order s input out before (order.Write p) = copy s input out (names_for p.names out.member) before p.edits
one_order s input out before (order.Fault f) = tt

all_orders : (input : InputView) (out : Output) (before : List Order) (s : Shelf) (orders : List Order) → ItemsAccepted s (order_items input out before s orders)
all_orders input out before s [] = tt
all_orders input out before s (o ∷ os) =
    let item = order_item s input out before o in
    let after = after_operations s item.operations in
    accepted_cons s item (order_items input out (before ++ o ∷ []) after os) (one_order s input out before o) (all_orders input out (before ++ o ∷ []) after os)

if_there : (s : Shelf) (card : ℕ) (statements : Option (List ItemView)) (input : Option InputView) (out : Option Output) → ItemsAccepted s (items_if s card statements input out)
if_there s card None input out = accepted_one s (no_dd_item card sysin) tt
if_there s card (Some statements) None out = accepted_one s (no_dd_item card sysut1) tt
if_there s card (Some statements) (Some input) None = accepted_one s (no_dd_item card sysut2) tt
if_there s card (Some statements) (Some input) (Some out) = all_orders input out [] s (orders_of card (Begun None) statements)

-- the items of a step
pub iebgener_accepted : (step : StepIn) (s : Shelf) → ItemsAccepted s (iebgener_items step s)
unfolding iebgener_items
iebgener_accepted step s =
    if_there s step.card (statements_if (lookup (same_name sysin) step.dds)) (input_in (lookup (same_name sysut1) step.dds)) (set_in (lookup (same_name sysut2) step.dds))
