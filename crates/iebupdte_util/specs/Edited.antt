-- What `OldRecords` and `EditedRecords` still give.
use Rattle.std.specs.Prelude.{◌≡◌, ◌<◌, ℕ, ◌+◌, Bool, true, false, ◌&&◌, List, [], length, Option, Some, None, option_map}
use Rattle.std.proofs.Common.{ap}
use Rattle.vol_model.specs.declared.contents.Shelf.{Shelf}
use Rattle.record_files.specs.declared.taken.Taken.{Taken}
use Rattle.record_files.specs.declared.taken.Taken.TheVariants.{Record, End, Broken}
use Rattle.record_files.specs.Reader.{reader_given, reader_most, reader_stream}
use Rattle.record_files.specs.Sources.{KeepsSets}
use Rattle.record_files.specs.Stays.{reader_stays}
use Rattle.record_files.specs.Streams.{Stream, at_end, at_fault, with_record}
use Rattle.iebupdte_util.specs.declared.edited.EditedRecords.{EditedRecords}
use Rattle.iebupdte_util.specs.declared.edited.Step.{Step}
use Rattle.iebupdte_util.specs.declared.edited.Step.TheVariants as steps
use Rattle.iebupdte_util.specs.declared.old_records.Next.{Next}
use Rattle.iebupdte_util.specs.declared.old_records.Next.TheVariants.{Wanted, Held, Ended}
use Rattle.iebupdte_util.specs.declared.old_records.OldRecords.{OldRecords}
use Rattle.update_forms.specs.declared.records.CardRecord.{CardRecord}
use Rattle.update_forms.specs.Merging.{edited_of, fits_of, number_fits, number_given, numbering_after, rises_from}
use Rattle.update_forms.specs.Records.{records_in}

-- ---- old records

-- the record that was read last, if one was
abbrev pub last_of : OldRecords → Option (List ℕ)
last_of o = option_map (λ v. v.items) o.last

-- the record that is held, if one is
abbrev pub held_if : Next → List ℕ → Option (List ℕ)
held_if Held r = Some r
held_if _ r = None

abbrev pub old_held : OldRecords → Option (List ℕ)
old_held o = held_if o.next (reader_given o.reader)

-- the records that are left, by those that are still to be read
abbrev pub left_with : Next → List ℕ → Stream → Stream
left_with Wanted r st = st
left_with Held r st = with_record r st
left_with Ended r st = at_end

abbrev pub olds_left : OldRecords → Stream → Stream
olds_left o st = left_with o.next (reader_given o.reader) st

abbrev pub olds_stream : OldRecords → Shelf → Stream
olds_stream o shelf = olds_left o (reader_stream o.reader shelf)

-- all records rise, those that were read and those that are still to be read
abbrev pub order_with : Next → Bool → Bool → Bool
order_with Ended rising others = rising
order_with _ rising others = rising && others

abbrev pub olds_order : OldRecords → Shelf → Bool
olds_order o shelf = order_with o.next o.rising (rises_from (last_of o) (reader_stream o.reader shelf).records)

-- how many are left at most
abbrev pub most_with : Next → ℕ → ℕ
most_with Wanted n = n
most_with Held n = n + 1
most_with Ended n = 0

abbrev pub olds_most : OldRecords → ℕ
olds_most o = most_with o.next (reader_most o.reader)

-- the next record is read, or there is none, and the same ones are left; or there is a fault in its place
abbrev pub Fills : Bool → OldRecords → OldRecords → Shelf → Type 0
Fills true old new shelf = (olds_stream old shelf ≡ olds_stream new shelf) × (olds_order old shelf ≡ olds_order new shelf)
Fills false old new shelf = olds_stream old shelf ≡ at_fault

-- ---- edited records

-- what comes of the old records that are still to be read
abbrev pub edited_with : EditedRecords → Stream → Stream
edited_with e st = edited_of e.ranges.now e.numbering (records_in e.cards.now) (olds_left e.olds st)

-- the records that are still to come
unfoldable pub edited_stream : EditedRecords → Shelf → Stream
edited_stream e shelf = edited_with e (reader_stream e.olds.reader shelf)

-- the numbers of all records have at most eight digits, of those that were given and of those that are still to come
abbrev pub fits_with : EditedRecords → Stream → Bool
fits_with e st = e.fits && fits_of e.ranges.now e.numbering (records_in e.cards.now) (olds_left e.olds st)

unfoldable pub edited_fits : EditedRecords → Shelf → Bool
edited_fits e shelf = fits_with e (reader_stream e.olds.reader shelf)

-- how many are left at most
abbrev pub edited_most : EditedRecords → ℕ
edited_most e = olds_most e.olds + length e.cards.now

-- ---- steps

-- the next record has its number, and the ones after it get theirs; nothing else changes
pub record Counted (old new : EditedRecords) : Type 0 where
  pub numbering : new.numbering ≡ numbering_after old.numbering
  pub fits : new.fits ≡ (old.fits && number_fits old.numbering)
  pub olds : new.olds ≡ old.olds
  pub ranges : new.ranges ≡ old.ranges
  pub cards : new.cards ≡ old.cards
  pub rec : new.rec ≡ old.rec

-- all is read as before, and the next old record is here
pub record OldsStay (next : Next) (old new : OldRecords) : Type 0 where
  pub here : new.next ≡ next
  pub reader : new.reader ≡ old.reader
  pub last : last_of new ≡ last_of old
  pub rising : new.rising ≡ old.rising

-- the old record that is held is given
pub record GivesOld (old new : EditedRecords) : Type 0 where
  pub rec : new.rec.items ≡ number_given old.numbering (reader_given old.olds.reader)
  pub numbering : new.numbering ≡ numbering_after old.numbering
  pub fits : new.fits ≡ (old.fits && number_fits old.numbering)
  pub olds : OldsStay Wanted old.olds new.olds
  pub ranges : new.ranges ≡ old.ranges
  pub cards : new.cards ≡ old.cards

-- a card is given, which others follow
pub record GivesCard (card : CardRecord) (others : List CardRecord) (old new : EditedRecords) : Type 0 where
  pub rec : new.rec.items ≡ number_given old.numbering card.bytes
  pub numbering : new.numbering ≡ numbering_after old.numbering
  pub fits : new.fits ≡ (old.fits && number_fits old.numbering)
  pub olds : new.olds ≡ old.olds
  pub ranges : new.ranges ≡ old.ranges
  pub cards : new.cards.now ≡ others

-- a record is given, or one is dropped, or none is left
abbrev pub Gave : Step → EditedRecords → EditedRecords → Stream → Type 0
Gave steps.Record old new st = edited_with old st ≡ with_record new.rec.items (edited_with new st)
Gave steps.Part old new st = edited_with old st ≡ edited_with new st
Gave steps.End old new st = edited_with old st ≡ at_end

-- fewer are left, or none at all
abbrev pub Fewer : Step → EditedRecords → EditedRecords → Type 0
Fewer steps.End old new = (new.olds.next ≡ Ended) × (new.cards.now ≡ [])
Fewer _ old new = edited_most new < edited_most old

-- What is given next, of the old records that are held or still to be read.
pub record GaveNext (step : Step) (old new : EditedRecords) : Type 0 where
  pub gave : (st : Stream) → Gave step old new st
  pub fits : (st : Stream) → fits_with new st ≡ fits_with old st
  pub order : (shelf : Shelf) → olds_order new.olds shelf ≡ olds_order old.olds shelf
  pub reader : new.olds.reader ≡ old.olds.reader
  pub fewer : Fewer step old new

-- Whether all records rise and have numbers of eight digits stays the same; at the end it is known.
abbrev pub Checks : Taken → EditedRecords → EditedRecords → Shelf → Type 0
Checks Record old new shelf = (olds_order new.olds shelf ≡ olds_order old.olds shelf) × (edited_fits new shelf ≡ edited_fits old shelf)
Checks End old new shelf = (new.olds.rising ≡ olds_order old.olds shelf) × (new.fits ≡ edited_fits old shelf)
Checks Broken old new shelf = Unit {0}

pub edited_stays : (e : EditedRecords) (s u : Shelf) → KeepsSets s u → edited_stream e u ≡ edited_stream e s
unfolding edited_stream
edited_stays e s u kept = ap (λ (st : Stream). edited_with e st) (reader_stays e.olds.reader s u kept)
