-- How far a directory was read, in this project's profile.
use Rattle.std.specs.Prelude.{◌≡◌, ◌⊎◌, ℕ, ◌+◌, ◌-◌, ◌≤◌, ◌<◌, ◌≢◌, Bool, true, false, List, [], ◌∷◌, ◌++◌, length, map, take, slice_get, unwrap_or, option_map, Option, Some, None, Result, Ok, Err, if◌then◌else◌}
use Rattle.std.specs.List.{AllByRecursion, flat_map, list_all, list_any, range_with_len}
use Rattle.ckd_image.specs.declared.header.Geometry.{Geometry}
use Rattle.ckd_image.specs.Track.{Record}
use Rattle.chain_spec.specs.Cut.{AllFit, total}
use Rattle.chain_spec.specs.Store.{Block as Stored, stored}
use Rattle.dscb_codec.specs.declared.F1.{F1}
use Rattle.hall_core.specs.declared.steps.Device.{Device}
use Rattle.vol_model.specs.declared.answers.ReadErr.{ReadErr}
use Rattle.vol_model.specs.declared.answers.ReadErr.TheVariants as errors
use Rattle.vol_model.specs.declared.contents.Block.{Block}
use Rattle.vol_model.specs.declared.contents.Body.TheVariants as bodies
use Rattle.vol_model.specs.declared.contents.Entry.{Entry}
use Rattle.vol_model.specs.declared.contents.Place.{Place}
use Rattle.vol_model.specs.Slots.{entry_size}
use Rattle.pack_spec.specs.Blocks.{block_at, blocks_from, records_in}
use Rattle.pack_spec.specs.Directories.{directory_break, end_record, is_directory_record, is_end_record, part_at, read_to, stored_in}
use Rattle.pack_spec.specs.Label.{records_on}
use Rattle.track_records.specs.Buffers.{Buffer}
use Rattle.vtoc_index.specs.declared.vol.Vol.{Vol}
use Rattle.pds_directory.specs.declared.dir.Dir.{Dir}
use Rattle.pds_directory.specs.declared.dir.DirWalk.{DirWalk}
use Rattle.pds_directory.specs.declared.ends.Reached.{Reached}
use Rattle.pds_directory.specs.declared.reading.Reading.{Reading}
use Rattle.pds_directory.specs.Directories.{IsOfRecord, data_in, directory_in, end_in, entries_read, owned_in, part_in}
use Rattle.pds_directory.specs.Entries.{AreOfBlock, IsReadEntry}

-- up to which record a track was read: its first end-of-file record, or else its end marker
abbrev pub reach_of : Reached → Option ℕ
reach_of r = if r.ended then Some (r.before + 1) else None

-- the records up to there, of these
abbrev pub reached_in : Reached → List Record → List Record
reached_in r records = take (if r.ended then (r.before + 1) else r.before) records

-- the place of the end-of-file record that was met on this relative track, if it was
abbrev pub end_on : ℕ → Reached → Option Place
end_on k r = if r.ended then Some (record { tt = k; r = r.before + 1 }) else None

-- the place of a directory's end is given where it stands on this relative track; else it stands after that
abbrev pub SeeksOn : Place → ℕ → Option Place → Type 0
SeeksOn end k (Some place) = place ≡ end
SeeksOn end k None = k < end.tt

-- The records before the end-of-file record, or all, are among these, of which there are 255 at most; so is the end-of-file record where it was met.
pub record IsHeld (records : List Record) (r : Reached) : Type 0 where
  pub before : r.before ≤ length records
  pub ended : r.ended ≡ true → r.before < length records
  pub few : length records ≤ 255

-- A track was read up to its first end-of-file record, or else to its end marker, and a buffer holds the records up to there.
pub record IsReached (g : Geometry) (tracks : List (List ℕ)) (track : ℕ) (records : List Record) (r : Reached) : Type 0 where
  pub end : end_record g tracks track ≡ reach_of r
  pub stand : records_in g tracks (reach_of r) track ≡ Some (reached_in r records)
  pub all : r.ended ≡ false → r.before ≡ length records

-- a track is read so far, or breaks the grammar before an end-of-file record and before its end marker
abbrev pub Reaches : Result (Option Reached) Device → Geometry → List (List ℕ) → ℕ → List Record → Type 0
Reaches (Ok (Some r)) g tracks track records = IsReached g tracks track records r
Reaches (Ok None) g tracks track records = (end_record g tracks track ≡ None) × (records_in g tracks None track ≡ None)
Reaches (Err e) g tracks track records = Unit {0}

-- among these tracks' bytes this track has those of an image
abbrev pub HasBytesOf : List ℕ → Geometry → List (List ℕ) → ℕ → Type 0
HasBytesOf image g tracks track = (upto : Option ℕ) → records_in g tracks upto track ≡ records_on image g upto track

-- a block that doesn't end its directory, with these entries
abbrev pub open_block : List Entry → Option (Stored Entry)
open_block entries = Some (record { entries = entries; ends = false })

-- blocks hold these entries, up to the one that ends the directory, if it was met
abbrev pub HoldEntries : Bool → List Block → List (List Entry) → Type 0
HoldEntries false directory entries = map stored_in directory ≡ map open_block entries
HoldEntries true directory entries = (1 ≤ length entries)
    × (behind : List (Option (Stored Entry))) × (map stored_in directory ≡ stored entries ++ behind)

-- These blocks of a directory were read.
pub record AreReadSoFar (directory : List Block) (r : Reading) : Type 0 where
  pub places : r.dir.places.items ≡ map (λ (b : Block). b.place) directory
  pub entries : HoldEntries r.ended directory (entries_read r.dir)

-- the blocks on a relative track of a data set; none where it breaks the body
abbrev pub at_in : List ℕ → Vol → F1 → ℕ → Option (List Block)
at_in image v f k = part_at v.geometry (data_in image v) (owned_in image v f) (end_in image v f) (read_to (end_in image v f) f.lstar) k

-- a buffer holds all records of a relative track of a data set
abbrev pub HoldsWhole : List ℕ → Vol → F1 → ℕ → Buffer → Type 0
HoldsWhole image v f k b = (t : ℕ) × (slice_get (owned_in image v f) k ≡ Some t) × (records_on image v.geometry None t ≡ Some b.records)

-- what was read of a directory in a walk over its data set
abbrev pub dir_walked : Result DirWalk ReadErr → Result Dir ReadErr
dir_walked (Ok walk) = Ok walk.dir
dir_walked (Err e) = Err e

-- those on the first relative tracks, so many
abbrev pub front_in : List ℕ → Vol → F1 → ℕ → List Block
front_in image v f k = flat_map (λ o. unwrap_or o []) (map (at_in image v f) (range_with_len 0 k))

-- The first relative tracks of a directory were read, so many; its end is after them, and none of them breaks the body.
pub record IsReadBefore (image : List ℕ) (v : Vol) (f : F1) (k : ℕ) (r : Reading) : Type 0 where
  pub end : k ≤ (end_in image v f).tt
  pub whole : (j : ℕ) → j < k → at_in image v f j ≢ None
  pub read : AreReadSoFar (front_in image v f k) r

-- A directory was read to its end on this relative track, and the end's place is known. No track before it breaks the body, and it was read whole unless this one does.
pub record IsReadToEnd (image : List ℕ) (v : Vol) (f : F1) (k : ℕ) (r : Reading) : Type 0 where
  pub end : (end_in image v f).tt ≡ k
  pub place : r.dir.end ≡ end_in image v f
  pub whole : (j : ℕ) → j < k → at_in image v f j ≢ None
  pub unbroken : (j : ℕ) → directory_break (end_in image v f).tt (directory_in image v f) ≡ Some j → k ≤ j
  pub read : at_in image v f k ≢ None → AreReadSoFar (directory_in image v f) r

-- the relative track of a number is read, and the directory's end stands on it or not; or else the first one is answered that breaks the body
abbrev pub ReadsTrack : Result Bool ReadErr → List ℕ → Vol → F1 → ℕ → Reading → Type 0
ReadsTrack (Ok false) image v f k r = IsReadBefore image v f (k + 1) r
ReadsTrack (Ok true) image v f k r = IsReadToEnd image v f k r
ReadsTrack (Err (errors.Unreadable j)) image v f k r = part_in image v f ≡ bodies.Unreadable j
ReadsTrack (Err errors.Memory) image v f k r = Unit {0}
ReadsTrack (Err errors.Device) image v f k r = Unit {0}

-- the entries of each block fit it, with the end entry in the last where that ends the directory
abbrev pub FitSoFar : Bool → List (List Entry) → Type 0
FitSoFar false entries = AllByRecursion (λ (es : List Entry). total entry_size es ≤ 254) entries
FitSoFar true entries = AllFit entry_size 254 12 entries

-- What was read of a directory, at most so many records: the entries of each block are lawful, and fit it; and each place is that of a record.
pub record IsLawfulReading (most : ℕ) (r : Reading) : Type 0 where
  pub room : length r.dir.blocks.items ≤ length r.dir.places.items
  pub few : length r.dir.places.items ≤ most
  pub entries : AllByRecursion (AllByRecursion IsReadEntry) (entries_read r.dir)
  pub fit : FitSoFar r.ended (entries_read r.dir)
  pub places : AllByRecursion IsOfRecord r.dir.places.items

-- The entries of a directory block were read after those of others.
pub record AddsEntries (block : Option (Stored Entry)) (old new : Reading) : Type 0 where
  pub stored : Stored Entry
  pub reads : block ≡ Some stored
  pub lawful : AreOfBlock stored.entries stored.ends
  pub ended : new.ended ≡ stored.ends
  pub entries : entries_read new.dir ≡ entries_read old.dir ++ stored.entries ∷ []

-- a directory block on a relative track, which holds this, is read after others, or breaks the format
abbrev pub AddsBlock : Result (Unit {0}) ReadErr → ℕ → Option (Stored Entry) → Reading → Reading → Type 0
AddsBlock (Ok x) k block old new = AddsEntries block old new × (new.dir.places ≡ old.dir.places)
AddsBlock (Err (errors.Unreadable j)) k block old new = (j ≡ k) × (block ≡ None)
AddsBlock (Err errors.Memory) k block old new = Unit {0}
AddsBlock (Err errors.Device) k block old new = ⊥

-- its entries are read, unless a block before it ends the directory
abbrev pub AddsEntriesUnless : Bool → Option (Stored Entry) → Reading → Reading → Type 0
AddsEntriesUnless false block old new = AddsEntries block old new
AddsEntriesUnless true block old new = (new.ended ≡ true) × (new.dir.blocks ≡ old.dir.blocks)

-- The record of a place was read after others, as a block of a directory.
pub record AddsRecord (place : Place) (x : Record) (old new : Reading) : Type 0 where
  pub lengths : is_directory_record x ≡ true
  pub places : new.dir.places.items ≡ old.dir.places.items ++ place ∷ []
  pub entries : AddsEntriesUnless old.ended (stored_in (block_at place.tt place.r x)) old new

-- a record can't be a block of a directory, or breaks the format and no block before it ends the directory
abbrev pub IsBadRecord : Bool → Place → Record → Type 0
IsBadRecord ended place x = (is_directory_record x ≡ false) ⊎ ((ended ≡ false) × (stored_in (block_at place.tt place.r x) ≡ None))

-- the record of a place is read as a block of a directory, or can't be
abbrev pub ReadsRecord : Result (Unit {0}) ReadErr → Place → Record → Reading → Reading → Type 0
ReadsRecord (Ok y) place x old new = AddsRecord place x old new
ReadsRecord (Err (errors.Unreadable j)) place x old new = (j ≡ place.tt) × IsBadRecord old.ended place x
ReadsRecord (Err errors.Memory) place x old new = Unit {0}
ReadsRecord (Err errors.Device) place x old new = ⊥

-- records on a relative track after these blocks break the directory: one can't be a block of it, or the first block that breaks the format is among them
abbrev pub AreBad : ℕ → List Block → List Record → Type 0
AreBad k directory records = (list_all is_directory_record records ≡ false)
    ⊎ ((last : ℕ) (more : List Block) → directory_break last (directory ++ blocks_from k 1 records ++ more) ≡ Some k)

-- records on a relative track are read after these blocks of a directory, or break it
abbrev pub ReadsRecords : Result Bool ReadErr → ℕ → List Block → List Record → Reading → Type 0
ReadsRecords (Ok ended) k directory records r = (list_all is_directory_record records ≡ true) × AreReadSoFar (directory ++ blocks_from k 1 records) r
ReadsRecords (Err (errors.Unreadable j)) k directory records r = (j ≡ k) × AreBad k directory records
ReadsRecords (Err errors.Memory) k directory records r = Unit {0}
ReadsRecords (Err errors.Device) k directory records r = ⊥

-- the records of a track up to a record, or to its end marker, are these; or they break the grammar before that
abbrev pub IsReadUpTo : Bool → Option (List Record) → List Record → Type 0
IsReadUpTo true found records = found ≡ Some records
IsReadUpTo false found records = found ≡ None

-- How far records go that are those of a whole track: to the first end-of-file record among them, or to the last.
pub record IsFirstEnd (records : List Record) (r : Reached) : Type 0 where
  pub none : list_any is_end_record (take r.before records) ≡ false
  pub end : r.ended ≡ true → option_map is_end_record (slice_get records r.before) ≡ Some true
  pub all : r.ended ≡ false → r.before ≡ length records
  pub within : r.before ≤ length records

-- the last of these records is an end-of-file record, or not; so many stand before it
abbrev pub IsLastEnd : List Record → Option Reached → Type 0
IsLastEnd records (Some r) = (r.ended ≡ true) × (r.before + 1 ≡ length records) × (option_map is_end_record (slice_get records r.before) ≡ Some true)
IsLastEnd records None = (records ≡ []) ⊎ (option_map is_end_record (slice_get records (length records - 1)) ≡ Some false)
