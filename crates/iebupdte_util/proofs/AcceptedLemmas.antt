-- What IEBUPDTE does is accepted.
use Rattle.std.proofs.Common.{Bool, true, false, List, ℕ}
use Rattle.std.specs.Prelude.{Option, Some, None, Result, Ok, Err, not, if◌then◌else◌}
use Rattle.std.specs.Map.{lookup}
use Rattle.card_text.specs.declared.cards.Card.{Card}
use Rattle.vol_model.specs.declared.contents.Attr.{Attr}
use Rattle.vol_model.specs.declared.contents.DataSet.{DataSet}
use Rattle.vol_model.specs.declared.contents.Shelf.{Shelf}
use Rattle.vol_model.specs.declared.refusals.Refusal.{Refusal}
use Rattle.vol_model.specs.Did.{answered}
use Rattle.util_steps.specs.Accepted.{AllAccepted}
use Rattle.util_steps.specs.declared.calls.SetRef.{SetRef}
use Rattle.util_steps.proofs.AcceptedLemmas.{DidAccepted, ItemsAccepted, accepted_along, accepted_one, accepted_reason}
use Rattle.util_syntax.specs.declared.listing.Outcome.TheVariants as outcome
use Rattle.util_syntax.specs.declared.step.StepIn.{StepIn}
use Rattle.util_syntax.specs.Program.{no_dd_item, sysin}
use Rattle.util_syntax.specs.Step.{same_name}
use Rattle.util_program.specs.Outcomes.{outcome_for}
use Rattle.record_files.specs.Attributes.{found_both, output_attr}
use Rattle.record_files.specs.Inputs.{Found, attr_of, format_of, found_input, records_of}
use Rattle.record_files.specs.Streams.{Stream}
use Rattle.update_forms.specs.declared.orders.Function.{Function}
use Rattle.update_forms.specs.declared.orders.Order.{Order}
use Rattle.update_forms.specs.declared.orders.Order.TheVariants as order
use Rattle.output_files.specs.declared.outputs.Output.{Output}
use Rattle.iebupdte_util.specs.declared.updating.Sets.{Sets}
use Rattle.iebupdte_util.specs.Items.{all_hold_cards, old_attr, blocks_of_records, cards_in, edited_to, function_item, iebupdte_items, is_new, items_if, made_by, names_of, old_in, order_item, setting_of, source_of, updated, updated_if, updated_with, written_if}
use Rattle.output_files.specs.Members.{MemberNames}
use Rattle.output_files.specs.Outputs.{found_output, is_same, set_in, sysut1, sysut2, write_output}
use Rattle.output_files.proofs.AcceptedLemmas.{put}
use Rattle.update_forms.specs.Orders.{orders_of}

-- ---- functions

write : (s : Shelf) (out : Output) (names : Option MemberNames) (attr : Attr) (made : Option (List (List ℕ))) → DidAccepted s (written_if s out names attr made)
write s out names attr None = tt
write s out names attr (Some rs) = accepted_reason s outcome_for (write_output s out names attr (blocks_of_records attr rs)) (put s out names attr (blocks_of_records attr rs))

edit : (s : Shelf) (out : Output) (f : Function) (attr : Attr) (st : Stream) → DidAccepted s (edited_to s out f attr st)
unfolding edited_to
edit s out f attr st = by_fault st.broken
  where
    by_fault : (b : Bool) → DidAccepted s (if b then answered (Err outcome.BadRecord) else written_if s out (names_of f) attr (made_by f st.records))
    by_fault true = tt
    by_fault false = write s out (names_of f) attr (made_by f st.records)

update_with : (s : Shelf) (sets : Sets) (f : Function) (found : Found) (attr : Attr) → DidAccepted s (updated_with s sets f found attr)
update_with s sets f found attr = by_tests (all_hold_cards (old_attr s sets.old) (format_of found) attr) (is_same (source_of sets f.heading) sets.out.to (names_of f))
  where
    by_tests : (good same : Bool) → DidAccepted s (if not good then answered (Err outcome.Dcb) else (if same then answered (Err outcome.SameSet) else edited_to s sets.out f attr (records_of found)))
    by_tests false same = tt
    by_tests true true = tt
    by_tests true false = edit s sets.out f attr (records_of found)

update_if : (s : Shelf) (sets : Sets) (f : Function) (found : Result (Found × DataSet) Refusal) → DidAccepted s (updated_if s sets f found)
update_if s sets f (Err r) = tt
update_if s sets f (Ok both) = update_with s sets f both.0 (output_attr sets.out.dcb both.1.attr (attr_of both.0))

update : (s : Shelf) (sets : Sets) (f : Function) → DidAccepted s (updated s sets f)
unfolding updated
update s sets f = update_if s sets f (found_both (found_input s (source_of sets f.heading)) (found_output s sets.out (names_of f)))

one_order : (sets : Sets) (s : Shelf) (o : Order) → AllAccepted s (order_item sets s o).operations
unfolding function_item order_item
one_order sets s (order.Write f) = update s sets f
one_order sets s (order.Fault f) = tt

if_there : (s : Shelf) (card : ℕ) (cs : Option (List (ℕ × Card))) (out : Option Output) (old : Option (Option SetRef)) → ItemsAccepted s (items_if s card cs out old)
if_there s card None out old = accepted_one s (no_dd_item card sysin) tt
if_there s card (Some cs) None old = accepted_one s (no_dd_item card sysut2) tt
if_there s card (Some cs) (Some out) None = accepted_one s (no_dd_item card sysut1) tt
if_there s card (Some cs) (Some out) (Some old) =
    let sets : Sets = record { old = old; out = out } in accepted_along (order_item sets) (one_order sets) s (orders_of (setting_of s sets) cs)

-- the items of a step
pub iebupdte_accepted : (step : StepIn) (s : Shelf) → ItemsAccepted s (iebupdte_items step s)
unfolding iebupdte_items
iebupdte_accepted step s =
    if_there s step.card (cards_in (lookup (same_name sysin) step.dds)) (set_in (lookup (same_name sysut2) step.dds)) (old_in (is_new step) (set_in (lookup (same_name sysut1) step.dds)))
