-- What IEBGENER does in a step (Utilities GC28-6586, in this project's profile).
use Rattle.std.specs.Prelude.{ℕ, ◌==◌, bit_and, not, is_some, Bool, true, false, ◌&&◌, ◌||◌, if◌then◌else◌, List, [], ◌∷◌, ◌++◌, codes, Option, Some, None, Result, Ok, Err}
use Rattle.std.specs.Map.{lookup}
use Rattle.ebcdic_names.specs.declared.names.Name8.{Name8}
use Rattle.record_blocks.specs.declared.formats.Format.{Format}
use Rattle.record_blocks.specs.Formats.{first_fault}
use Rattle.vol_model.specs.declared.contents.Attr.{Attr}
use Rattle.vol_model.specs.declared.contents.DataSet.{DataSet}
use Rattle.vol_model.specs.declared.contents.Shelf.{Shelf}
use Rattle.vol_model.specs.declared.refusals.Refusal.{Refusal}
use Rattle.vol_model.specs.Did.{Did, answered, with_reason}
use Rattle.vol_model.specs.Events.{Item, after_operations}
use Rattle.util_steps.specs.declared.calls.SetRef.{SetRef}
use Rattle.util_syntax.specs.declared.listing.Object.{Object}
use Rattle.util_syntax.specs.declared.listing.Object.TheVariants as object
use Rattle.util_syntax.specs.declared.listing.Outcome.{Outcome}
use Rattle.util_syntax.specs.declared.listing.Outcome.TheVariants as outcome
use Rattle.util_syntax.specs.declared.step.DdIn.{DdIn}
use Rattle.util_syntax.specs.declared.step.DdIn.TheVariants.{Cards}
use Rattle.util_syntax.specs.declared.step.StepIn.{StepIn}
use Rattle.util_syntax.specs.Items.{ItemView}
use Rattle.util_syntax.specs.Program.{answered_item, no_dd_item, statements_in, syntax_item, sysin}
use Rattle.util_syntax.specs.Step.{same_name}
use Rattle.util_program.specs.Outcomes.{outcome_for}
use Rattle.output_files.specs.declared.outputs.Output.{Output}
use Rattle.iebgener_util.specs.declared.orders.Order.{Order}
use Rattle.iebgener_util.specs.declared.orders.Order.TheVariants as order
use Rattle.iebgener_util.specs.declared.orders.State.TheVariants.{Begun}
use Rattle.iebgener_util.specs.declared.requests.Edit.{Edit}
use Rattle.iebgener_util.specs.declared.requests.Names.{Names}
use Rattle.record_files.specs.Attributes.{format_in, found_both, output_attr}
use Rattle.record_files.specs.Inputs.{Found, InputView, attr_of, cards, format_of, found_input, from, records_of}
use Rattle.iebgener_util.specs.Editing.{edited_by, have_fields, left_behind}
use Rattle.output_files.specs.Members.{MemberNames}
use Rattle.output_files.specs.Outputs.{found_output, is_same, set_in, sysut1, sysut2, write_output}
use Rattle.iebgener_util.specs.Orders.{orders_of}
use Rattle.record_files.specs.Writing.{Coming, packed}

-- ---- formats

-- records of one length
abbrev pub is_fixed : Format → Bool
is_fixed format = bit_and format.recfm 0xC0 == 0x80

-- the formats don't serve: one of them breaks a rule, or fields are laid out and the output has no records of one length
unfoldable pub formats_clash : Bool → Format → Format → Bool
formats_clash edits input output = is_some (first_fault input) || (is_some (first_fault output) || (edits && not (is_fixed output)))

-- ---- the copy

-- groups of records are edited, where there is one, and else all records stay as they are
abbrev pub groups : List Edit → Option (List Edit)
groups [] = None
groups (e ∷ es) = Some (e ∷ es)

-- the blocks of the records that are read after the parts in front, edited and packed in a format
unfoldable pub blocks_in : Format → List Order → List Edit → Found → Coming
blocks_in format before edits found = packed format (edited_by format.lrecl (groups edits) (left_behind before (records_of found)))

-- they are written, unless the formats don't serve or the output is the input
abbrev pub copied_with : Shelf → InputView → Output → Option MemberNames → List Order → List Edit → Found → Attr → Did (Unit {0}) Outcome
copied_with shelf input out names before edits found attr =
    if formats_clash (have_fields edits) (format_of found) (format_in attr) then answered (Err outcome.Dcb)
    else (if is_same input out.to names then answered (Err outcome.SameSet)
    else with_reason outcome_for (write_output shelf out names attr (blocks_in (format_in attr) before edits found)))

abbrev pub copied_if : Shelf → InputView → Output → Option MemberNames → List Order → List Edit → Result (Found × DataSet) Refusal → Did (Unit {0}) Outcome
copied_if shelf input out names before edits (Err r) = answered (Err (outcome.Refused r))
copied_if shelf input out names before edits (Ok both) = copied_with shelf input out names before edits both.0 (output_attr out.dcb both.1.attr (attr_of both.0))

-- A copy of what is read after the parts in front: both data sets must be there, of their kind and readable.
unfoldable pub copied : Shelf → InputView → Output → Option MemberNames → List Order → List Edit → Did (Unit {0}) Outcome
copied shelf input out names before edits = copied_if shelf input out names before edits (found_both (found_input shelf input) (found_output shelf out names))

-- ---- parts

-- the names by which a member replaces one; its other names don't replace
abbrev pub replacing : Name8 → List Name8 → MemberNames
replacing name aliases = record { name = name; aliases = aliases; replaces = true; aliases_replace = false }

-- the names of a member that is written: those of its MEMBER, or else that of the DD
abbrev pub names_for : Option Names → Option Name8 → Option MemberNames
names_for (Some n) member = Some (replacing n.name n.aliases)
names_for None (Some name) = Some (replacing name [])
names_for None None = None

-- what a line names: the member by its own name, or the set
abbrev pub object_for : SetRef → Option MemberNames → Object
object_for to (Some n) = object.Member to.dsn n.name
object_for to None = object.Name to.dsn

-- the item of a copy, on a card
unfoldable pub copy_item : Shelf → ℕ → InputView → Output → Option MemberNames → List Order → List Edit → Item
copy_item shelf card input out names before edits = answered_item card (codes "COPY") (object_for out.to names) (copied shelf input out names before edits)

-- the item of an order after others
unfoldable pub order_item : Shelf → InputView → Output → List Order → Order → Item
order_item shelf input out before (order.Write p) = copy_item shelf p.card input out (names_for p.names out.member) before p.edits
order_item shelf input out before (order.Fault f) = syntax_item f.card f.kind

-- the items of orders, each on the shelf after the operations of those before it
abbrev pub order_items : InputView → Output → List Order → Shelf → List Order → List Item
order_items input out before shelf [] = []
order_items input out before shelf (o ∷ os) = let item = order_item shelf input out before o in item ∷ order_items input out (before ++ o ∷ []) (after_operations shelf item.operations) os

-- ---- the step

-- the statements of SYSIN, which may be missing
abbrev pub statements_if : Option DdIn → Option (List ItemView)
statements_if None = Some []
statements_if (Some dd) = statements_in (Some dd)

abbrev pub input_set : Option Output → Option InputView
input_set None = None
input_set (Some out) = Some (from out.to out.member)

-- SYSUT1: cards, or a data set or a member of one
abbrev pub input_in : Option DdIn → Option InputView
input_in (Some (Cards cs)) = Some (cards cs)
input_in dd = input_set (set_in dd)

-- the items of a step with these DDs, of which the first that is missing is named
abbrev pub items_if : Shelf → ℕ → Option (List ItemView) → Option InputView → Option Output → List Item
items_if shelf card None input out = no_dd_item card sysin ∷ []
items_if shelf card (Some statements) None out = no_dd_item card sysut1 ∷ []
items_if shelf card (Some statements) (Some input) None = no_dd_item card sysut2 ∷ []
items_if shelf card (Some statements) (Some input) (Some out) = order_items input out [] shelf (orders_of card (Begun None) statements)

-- the items of a step
unfoldable pub iebgener_items : StepIn → Shelf → List Item
iebgener_items step shelf =
    items_if shelf step.card (statements_if (lookup (same_name sysin) step.dds)) (input_in (lookup (same_name sysut1) step.dds)) (set_in (lookup (same_name sysut2) step.dds))
