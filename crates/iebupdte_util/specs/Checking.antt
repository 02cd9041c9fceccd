-- What the first reading of a function's input tells.
use Rattle.std.specs.Prelude.{◌≡◌, Bool, true, false, ◌&&◌, if◌then◌else◌, List, [], None, Result, Ok, Err}
use Rattle.vol_model.specs.declared.contents.Shelf.{Shelf}
use Rattle.util_syntax.specs.declared.listing.Outcome.{Outcome}
use Rattle.util_syntax.specs.declared.listing.Outcome.TheVariants.{BadRecord, SeqOrder}
use Rattle.record_files.specs.Streams.{Stream}
use Rattle.iebupdte_util.specs.declared.edited.EditedRecords.{EditedRecords}
use Rattle.update_forms.specs.declared.orders.Function.{Function}
use Rattle.update_forms.specs.declared.records.CardRecord.{CardRecord}
use Rattle.update_forms.specs.declared.requests.Range.{Range}
use Rattle.iebupdte_util.specs.Edited.{edited_fits, edited_stream, olds_order}
use Rattle.update_forms.specs.Editing.{rises}
use Rattle.update_forms.specs.Merging.{edited_of, fits_of, rises_from}
use Rattle.update_forms.specs.Orders.{is_change, takes_data}
use Rattle.update_forms.specs.Records.{records_in}

-- the ranges of old records that a function drops: CHANGE alone has them
abbrev pub ranges_for : Function → List Range
ranges_for f = if is_change f.heading.verb then f.ranges else []

-- the cards that a function writes: REPRO has none
abbrev pub cards_for : Function → List CardRecord
cards_for f = if takes_data f.heading.verb then f.data_cards else []

-- the records that come of old ones, one by one
unfoldable pub edits : Function → Stream → Stream
edits f st = edited_of (ranges_for f) f.numbering (records_in (cards_for f)) st

-- their numbers have at most eight digits
unfoldable pub edits_fit : Function → Stream → Bool
edits_fit f st = fits_of (ranges_for f) f.numbering (records_in (cards_for f)) st

-- sequences and numbers are in order, where old records rise or not and numbers fit or not
abbrev pub is_ordered : Function → Bool → Bool → Bool
is_ordered f rising fits = if is_change f.heading.verb then rising && (rises (records_in f.data_cards) && fits) else fits

-- what the first reading answers
unfoldable pub checked : Function → Stream → Result (Unit {0}) Outcome
checked f st = if st.broken then Err BadRecord else (if is_ordered f (rises_from None st.records) (edits_fit f st) then Ok tt else Err SeqOrder)

-- A reading begins with all old records.
pub record Opens (f : Function) (st : Stream) (e : EditedRecords) (shelf : Shelf) : Type 0 where
  pub stream : edited_stream e shelf ≡ edits f st
  pub order : olds_order e.olds shelf ≡ rises_from None st.records
  pub fits : edited_fits e shelf ≡ edits_fit f st

-- all was read, and it is known whether records and numbers are in order; or a fault ended them
abbrev pub Walks : Bool → EditedRecords → EditedRecords → Shelf → Type 0
Walks true old new shelf = ((edited_stream old shelf).broken ≡ false) × (new.olds.rising ≡ olds_order old.olds shelf) × (new.fits ≡ edited_fits old shelf)
Walks false old new shelf = (edited_stream old shelf).broken ≡ true
