-- What IEBUPDTE does in a step (Utilities GC28-6586, in this project's profile).
use Rattle.std.specs.Prelude.{ℕ, ◌==◌, bit_and, not, Bool, true, false, ◌&&◌, if◌then◌else◌, is_none, List, [], ◌∷◌, codes, Option, Some, None, option_map, Result, Ok, Err}
use Rattle.std.specs.Map.{lookup}
use Rattle.std.specs.Str.{bytes_eq}
use Rattle.ebcdic_names.specs.declared.names.Name8.{Name8}
use Rattle.card_text.specs.declared.cards.Card.{Card}
use Rattle.record_blocks.specs.declared.formats.Format.{Format}
use Rattle.record_blocks.specs.Formats.{first_fault}
use Rattle.vol_model.specs.declared.contents.Attr.{Attr}
use Rattle.vol_model.specs.declared.contents.DataSet.{DataSet}
use Rattle.vol_model.specs.declared.contents.Shelf.{Shelf}
use Rattle.vol_model.specs.declared.refusals.Refusal.{Refusal}
use Rattle.vol_model.specs.Did.{Did, answered, with_reason}
use Rattle.vol_model.specs.Events.{Item}
use Rattle.vol_model.specs.Writing.{set_on}
use Rattle.util_steps.specs.declared.calls.SetRef.{SetRef}
use Rattle.util_steps.specs.Items.{items_along}
use Rattle.util_syntax.specs.declared.listing.Object.{Object}
use Rattle.util_syntax.specs.declared.listing.Object.TheVariants as object
use Rattle.util_syntax.specs.declared.listing.Outcome.{Outcome}
use Rattle.util_syntax.specs.declared.listing.Outcome.TheVariants as outcome
use Rattle.util_syntax.specs.declared.step.DdIn.{DdIn}
use Rattle.util_syntax.specs.declared.step.DdIn.TheVariants.{Cards, Dummy}
use Rattle.util_syntax.specs.declared.step.StepIn.{StepIn}
use Rattle.util_syntax.specs.Program.{answered_item, no_dd_item, syntax_item, sysin}
use Rattle.util_syntax.specs.Step.{same_name}
use Rattle.util_program.specs.Outcomes.{outcome_for}
use Rattle.record_files.specs.declared.attributes.Purpose.TheVariants as purposes
use Rattle.record_files.specs.Attributes.{format_in, format_with, found_both, output_attr, serves}
use Rattle.record_files.specs.Inputs.{Found, InputView, attr_of, cards, format_of, found_input, from, records_of}
use Rattle.record_files.specs.Streams.{Stream}
use Rattle.record_files.specs.Writing.{Coming, packed}
use Rattle.update_forms.specs.declared.orders.Function.{Function}
use Rattle.update_forms.specs.declared.orders.Order.{Order}
use Rattle.update_forms.specs.declared.orders.Order.TheVariants as order
use Rattle.update_forms.specs.declared.orders.Setting.{Setting}
use Rattle.update_forms.specs.declared.orders.Target.{Target}
use Rattle.update_forms.specs.declared.orders.Target.TheVariants.{Library, OtherKind, Sequential}
use Rattle.update_forms.specs.declared.requests.Heading.{Heading}
use Rattle.update_forms.specs.declared.requests.Verb.{Verb}
use Rattle.update_forms.specs.declared.requests.Verb.TheVariants.{Add, Change, Repl, Repro}
use Rattle.output_files.specs.declared.outputs.Output.{Output}
use Rattle.iebupdte_util.specs.declared.updating.Sets.{Sets}
use Rattle.update_forms.specs.Editing.{made}
use Rattle.output_files.specs.Members.{MemberNames}
use Rattle.output_files.specs.Outputs.{found_output, is_same, set_in, sysut1, sysut2, write_output}
use Rattle.update_forms.specs.Orders.{orders_of, reads_old}
use Rattle.update_forms.specs.Records.{records_in}

-- ---- formats

-- F or FB with records of 80 bytes, which breaks no rule
unfoldable pub holds_cards : Format → Bool
holds_cards format = is_none (first_fault format) && (bit_and format.recfm 0xC0 == 0x80 && format.lrecl == 80)

-- the attributes of a data set, if it is there
unfoldable pub set_attr : Shelf → SetRef → Option Attr
set_attr shelf s = option_map (λ (x : DataSet). x.attr) (set_on shelf s.v s.dsn.bytes)

-- those of the old data set, if there is one
abbrev pub old_attr : Shelf → Option SetRef → Option Attr
old_attr shelf None = None
old_attr shelf (Some s) = set_attr shelf s

-- ---- a function

-- what is read: the old member or set, and nothing for ADD and REPL
abbrev pub source_if : Bool → Option SetRef → Option Name8 → InputView
source_if true (Some old) name = from old name
source_if true None name = cards []
source_if false old name = cards []

abbrev pub source_of : Sets → Heading → InputView
source_of sets h = source_if (reads_old h.verb) sets.old h.name

abbrev pub is_add : Verb → Bool
is_add Add = true
is_add _ = false

-- the names of the member that is written, if one is: all but ADD replace one
abbrev pub names_of : Function → Option MemberNames
names_of f = option_map (λ (name : Name8). record { name = name; aliases = f.aliases; replaces = not (is_add f.heading.verb); aliases_replace = true }) f.heading.name

-- the blocks of records
abbrev pub blocks_of_records : Attr → List (List ℕ) → Coming
blocks_of_records attr rs = packed (format_in attr) (record { records = rs; broken = false })

-- the records that a function makes are written, if their order is right
abbrev pub written_if : Shelf → Output → Option MemberNames → Attr → Option (List (List ℕ)) → Did (Unit {0}) Outcome
written_if shelf out names attr None = answered (Err outcome.SeqOrder)
written_if shelf out names attr (Some rs) = with_reason outcome_for (write_output shelf out names attr (blocks_of_records attr rs))

-- what a function makes of its old records and its cards
abbrev pub made_by : Function → List (List ℕ) → Option (List (List ℕ))
made_by f olds = made f.heading.verb f.ranges f.numbering olds (records_in f.data_cards)

-- The old records are all read before anything is done.
unfoldable pub edited_to : Shelf → Output → Function → Attr → Stream → Did (Unit {0}) Outcome
edited_to shelf out f attr olds = if olds.broken then answered (Err outcome.BadRecord) else written_if shelf out (names_of f) attr (made_by f olds.records)

-- the old set, what is read and the output have records of 80 bytes
abbrev pub all_hold_cards : Option Attr → Format → Attr → Bool
all_hold_cards old input output = holds_cards (format_with old) && (holds_cards input && holds_cards (format_in output))

abbrev pub updated_with : Shelf → Sets → Function → Found → Attr → Did (Unit {0}) Outcome
updated_with shelf sets f found attr =
    if not (all_hold_cards (old_attr shelf sets.old) (format_of found) attr) then answered (Err outcome.Dcb)
    else (if is_same (source_of sets f.heading) sets.out.to (names_of f) then answered (Err outcome.SameSet)
    else edited_to shelf sets.out f attr (records_of found))

abbrev pub updated_if : Shelf → Sets → Function → Result (Found × DataSet) Refusal → Did (Unit {0}) Outcome
updated_if shelf sets f (Err r) = answered (Err (outcome.Refused r))
updated_if shelf sets f (Ok both) = updated_with shelf sets f both.0 (output_attr sets.out.dcb both.1.attr (attr_of both.0))

-- A function: what it reads and writes must be there, of its kind and readable, and the member of an ADD must not.
unfoldable pub updated : Shelf → Sets → Function → Did (Unit {0}) Outcome
updated shelf sets f = updated_if shelf sets f (found_both (found_input shelf (source_of sets f.heading)) (found_output shelf sets.out (names_of f)))

-- ---- items

abbrev pub verb_word : Verb → List ℕ
verb_word Add = codes "ADD"
verb_word Repl = codes "REPL"
verb_word Repro = codes "REPRO"
verb_word Change = codes "CHANGE"

-- what a line names: the member, or the set
abbrev pub object_for : SetRef → Option Name8 → Object
object_for to (Some name) = object.Member to.dsn name
object_for to None = object.Name to.dsn

unfoldable pub function_item : Shelf → Sets → Function → Item
function_item shelf sets f = answered_item f.card (verb_word f.heading.verb) (object_for sets.out.to f.heading.name) (updated shelf sets f)

-- the item of an order: each function is one
unfoldable pub order_item : Sets → Shelf → Order → Item
order_item sets shelf (order.Write f) = function_item shelf sets f
order_item sets shelf (order.Fault f) = syntax_item f.card f.kind

-- ---- the step

-- what SYSUT2 is, by its attributes
abbrev pub target_if : List ℕ → Option Attr → Target
target_if name None = OtherKind
target_if name (Some a) = if serves purposes.Members name a then Library else (if serves purposes.Rewrite name a then Sequential else OtherKind)

abbrev pub target_of : Shelf → SetRef → Target
target_of shelf to = target_if to.dsn.bytes (set_attr shelf to)

-- where statements have a place
abbrev pub setting_of : Shelf → Sets → Setting
setting_of shelf sets = record { fresh = is_none sets.old; target = target_of shelf sets.out.to }

-- the cards of a DD, none of DUMMY
abbrev pub cards_in : Option DdIn → Option (List (ℕ × Card))
cards_in (Some Dummy) = Some []
cards_in (Some (Cards cs)) = Some cs
cards_in _ = None

-- PARM=NEW: there is no old set
abbrev pub is_new : StepIn → Bool
is_new step = bytes_eq (codes "NEW") step.parm

-- the old set, which isn't looked at with PARM=NEW
abbrev pub old_in : Bool → Option Output → Option (Option SetRef)
old_in true dd = Some None
old_in false dd = option_map (λ (out : Output). Some out.to) dd

-- the items of a step with these DDs, of which the first that is missing is named
abbrev pub items_if : Shelf → ℕ → Option (List (ℕ × Card)) → Option Output → Option (Option SetRef) → List Item
items_if shelf card None out old = no_dd_item card sysin ∷ []
items_if shelf card (Some cs) None old = no_dd_item card sysut2 ∷ []
items_if shelf card (Some cs) (Some out) None = no_dd_item card sysut1 ∷ []
items_if shelf card (Some cs) (Some out) (Some old) =
    let sets : Sets = record { old = old; out = out } in items_along (order_item sets) shelf (orders_of (setting_of shelf sets) cs)

-- the items of a step
unfoldable pub iebupdte_items : StepIn → Shelf → List Item
iebupdte_items step shelf =
    items_if shelf step.card (cards_in (lookup (same_name sysin) step.dds)) (set_in (lookup (same_name sysut2) step.dds))
    (old_in (is_new step) (set_in (lookup (same_name sysut1) step.dds)))
