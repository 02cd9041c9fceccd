-- What is read: cards, a data set or a member (Utilities GC28-6586, in this project's profile).
use Rattle.std.specs.Prelude.{◌≡◌, ℕ, List, Option, Some, None, Result, Ok, Err}
use Rattle.ebcdic_names.specs.declared.names.Name8.{Name8}
use Rattle.card_text.specs.declared.cards.Card.{Card}
use Rattle.record_blocks.specs.declared.formats.Format.{Format}
use Rattle.vol_model.specs.declared.contents.Attr.{Attr}
use Rattle.vol_model.specs.declared.contents.Block.{Block}
use Rattle.vol_model.specs.declared.contents.DataSet.{DataSet}
use Rattle.vol_model.specs.declared.contents.Place.{Place}
use Rattle.vol_model.specs.declared.contents.Shelf.{Shelf}
use Rattle.vol_model.specs.declared.refusals.Refusal.{Refusal}
use Rattle.vol_model.specs.Shelf.{blocks_of}
use Rattle.util_steps.specs.declared.calls.SetRef.{SetRef}
use Rattle.util_steps.specs.Copying.{source}
use Rattle.record_files.specs.declared.attributes.Purpose.TheVariants as purposes
use Rattle.record_files.specs.declared.inputs.Input.{Input}
use Rattle.record_files.specs.declared.inputs.Input.TheVariants as inputs
use Rattle.record_files.specs.declared.inputs.RecordInput.{RecordInput}
use Rattle.record_files.specs.Attributes.{format_in, format_with, usable_set}
use Rattle.record_files.specs.Members.{blocks_at, member_in}
use Rattle.record_files.specs.Reading.{card_records, set_records}
use Rattle.record_files.specs.Streams.{Stream}

-- what is read: cards, or a data set or a member of one
pub data InputView : Type 0 where
  cards : List (ℕ × Card) → InputView
  from : SetRef → Option Name8 → InputView

abbrev pub input_view : Input → InputView
input_view (inputs.Cards cs) = cards cs.now
input_view (inputs.From s member) = from s member

-- what is read, as it was found: cards, or a data set and where its member begins, if one is read
pub data Found : Type 0 where
  found_cards : List (ℕ × Card) → Found
  found_set : DataSet → Option Place → Found

abbrev pub found_whole : Result DataSet Refusal → Result Found Refusal
found_whole (Ok x) = Ok (found_set x None)
found_whole (Err r) = Err r

abbrev pub found_member : Result (DataSet × Place) Refusal → Result Found Refusal
found_member (Ok m) = Ok (found_set m.0 (Some m.1))
found_member (Err r) = Err r

unfoldable pub found_input : Shelf → InputView → Result Found Refusal
found_input shelf (cards cs) = Ok (found_cards cs)
found_input shelf (from s None) = found_whole (usable_set shelf purposes.Records s)
found_input shelf (from s (Some name)) = found_member (member_in shelf s name)

-- its attributes, if it is a data set
abbrev pub attr_of : Found → Option Attr
attr_of (found_cards cs) = None
attr_of (found_set x at) = Some x.attr

-- where its member begins, if one is read
abbrev pub start_of : Found → Option Place
start_of (found_cards cs) = None
start_of (found_set x at) = at

-- what is known of it before it is read
abbrev pub known_of : Found → RecordInput
known_of found = record { attr = attr_of found; start = start_of found }

-- its format
abbrev pub format_of : Found → Format
format_of found = format_with (attr_of found)

-- its records
abbrev pub records_of : Found → Stream
records_of (found_cards cs) = card_records cs
records_of (found_set x at) = set_records (format_in x.attr) (blocks_at at (blocks_of x.body))

-- what is known of what is found, or why it can't be read
abbrev pub IsFound : Result RecordInput Refusal → Result Found Refusal → Type 0
IsFound (Ok known) found = (f : Found) × (found ≡ Ok f) × (known ≡ known_of f)
IsFound (Err r) found = found ≡ Err r

-- on this shelf what is read still has the records that were found
abbrev pub ReadsAs : Shelf → InputView → Found → Type 0
ReadsAs shelf (cards cs) found = found ≡ found_cards cs
ReadsAs shelf (from s member) found = (x : DataSet) × (at : Option Place) × (found ≡ found_set x at) × (source shelf s ≡ Ok (blocks_of x.body))

-- a data set can be read
abbrev pub IsThere : Shelf → SetRef → Type 0
IsThere shelf s = (bs : List Block) × (source shelf s ≡ Ok bs)
