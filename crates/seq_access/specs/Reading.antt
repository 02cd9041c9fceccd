-- What a buffer holds of a track of a data set, and what is found in it, in this project's profile.
use Rattle.std.specs.Prelude.{◌≡◌, ℕ, ◌-◌, ◌≤◌, ◌<◌, ◌&&◌, not, Bool, true, false, List, [], ◌∷◌, length, slice_get, Option, Some, None, Result, Ok, Err}
use Rattle.ckd_image.specs.Track.{Record}
use Rattle.hall_core.specs.declared.steps.Device.{Device}
use Rattle.pack_spec.specs.Label.{records_on}
use Rattle.track_records.specs.Buffers.{Buffer}
use Rattle.vol_model.specs.declared.answers.WorkErr.{WorkErr}
use Rattle.vol_model.specs.declared.contents.Block.{Block}
use Rattle.vol_model.specs.declared.contents.Body.{Body}
use Rattle.vol_model.specs.declared.contents.Place.{Place}
use Rattle.vol_model.specs.Places.{is_before}
use Rattle.vol_model.specs.Reading.{FirstOf, IsBlank, blocks_from, readable}
use Rattle.seq_access.specs.declared.read_buf.Reach.{Reach}
use Rattle.seq_access.specs.declared.read_buf.Reach.TheVariants as reaches
use Rattle.seq_access.specs.declared.read_buf.ReadBuf.{ReadBuf}
use Rattle.seq_access.specs.Bodies.{HasBlocks}

-- the records that a buffer holds are those of its track of an image, as far as that was read
abbrev pub AreRead : List ℕ → Reach → Buffer → Type 0
AreRead image reaches.Nothing b = Unit {0}
AreRead image (reaches.UpTo r) b = records_on image b.geometry (Some r) b.track ≡ Some b.records
AreRead image reaches.Whole b = records_on image b.geometry None b.track ≡ Some b.records

-- how far a track is read that is wanted up to a record, or to its end marker
abbrev pub reach_of : Option ℕ → Reach
reach_of (Some r) = reaches.UpTo r
reach_of None = reaches.Whole

-- the same for a buffer that knows how far it was read
abbrev pub HoldsTrack : List ℕ → ReadBuf → Type 0
HoldsTrack image b = AreRead image b.reach b.records

-- the record of a number in a buffer can be handed out as a block
pub record IsThere (p : Place) (b : Buffer) : Type 0 where
  pub first : 1 ≤ p.r
  pub last : p.r ≤ length b.records
  pub number : p.r ≤ 255
  pub track : p.tt < 65535
  pub fits : (x : Record) → slice_get b.records (p.r - 1) ≡ Some x
      → (length x.key ≤ 255) × (length x.data ≤ 32760)

-- a record as the block of a place
abbrev pub block_of : Place → Record → Block
block_of p x = record { place = p; key = x.key; payload = x.data }

-- The first block at or after a place is the record of its number in a buffer, or there is none.
abbrev pub Finds : Result (Option Place) Device → Body → Place → Buffer → Type 0
Finds (Ok (Some p)) body from b = (blocks : List Block) × (x : Record) × (rest : List Block)
    × HasBlocks body blocks × (slice_get b.records (p.r - 1) ≡ Some x)
    × (blocks_from from blocks ≡ block_of p x ∷ rest)
Finds (Ok None) body from b = (blocks : List Block) × HasBlocks body blocks
    × (blocks_from from blocks ≡ [])
Finds (Err e) body from b = Unit {0}

-- the block at a place on a relative track is the record of its number in a buffer, or none stands there or after it
abbrev pub FindsOn : Result (Option Place) Device → Option (List Block) → Place → Buffer → Type 0
FindsOn (Ok (Some p)) blocks at b = (on : List Block) × (x : Record) × (blocks ≡ Some on)
    × (slice_get b.records (at.r - 1) ≡ Some x) × (slice_get on (at.r - 1) ≡ Some (block_of at x))
FindsOn (Ok None) blocks at b = (on : List Block) × (blocks ≡ Some on) × (length on < at.r)
FindsOn (Err e) blocks at b = Unit {0}

-- the block is the record of a place in a buffer
abbrev pub IsBlockAt : Place → Buffer → Block → Type 0
IsBlockAt p b block = (x : Record) × (slice_get b.records (p.r - 1) ≡ Some x)
    × (block ≡ block_of p x)

-- the first block of a body at or after a place is read into a block, or there is none
abbrev pub ReadsBlock : Result Bool Device → Body → Place → Block → Type 0
ReadsBlock (Ok more) body from block = (blocks : List Block) × HasBlocks body blocks
    × FirstOf more (blocks_from from blocks) block
ReadsBlock (Err e) body from block = Unit {0}

-- where no block is read, the one that was to hold it is blank
abbrev pub LeavesEmpty : Result Bool Device → Block → Type 0
LeavesEmpty (Ok true) block = Unit {0}
LeavesEmpty (Ok false) block = IsBlank block
LeavesEmpty (Err e) block = IsBlank block

-- the first block of a body at or after a place is given, or there is none
abbrev pub GivesFirst : Result (Option Block) WorkErr → Body → Place → Type 0
GivesFirst (Ok (Some block)) body from = (blocks : List Block) × (rest : List Block)
    × HasBlocks body blocks × (blocks_from from blocks ≡ block ∷ rest)
GivesFirst (Ok None) body from = (blocks : List Block) × HasBlocks body blocks
    × (blocks_from from blocks ≡ [])
GivesFirst (Err e) body from = Unit {0}

-- The blocks at or after a start are those after a directory's end that aren't before a place; the number of a record is one byte.
pub record IsStart (end from start : Place) : Type 0 where
  pub same : (p : Place) → p.r ≤ 255 → not (is_before p start) ≡ (is_before end p && not (is_before p from))

-- the first block of a partitioned body's members at or after a place is read into a block, or there is none
abbrev pub ReadsMembers : Result Bool Device → Body → Place → Block → Type 0
ReadsMembers (Ok more) body from block = (blocks : List Block) × (readable body ≡ Ok blocks)
    × FirstOf more (blocks_from from blocks) block
ReadsMembers (Err e) body from block = Unit {0}

-- the first block of a partitioned body's members at or after a place is given, or there is none
abbrev pub GivesMembers : Result (Option Block) WorkErr → Body → Place → Type 0
GivesMembers (Ok (Some block)) body from = (blocks : List Block) × (rest : List Block)
    × (readable body ≡ Ok blocks) × (blocks_from from blocks ≡ block ∷ rest)
GivesMembers (Ok None) body from = (blocks : List Block) × (readable body ≡ Ok blocks)
    × (blocks_from from blocks ≡ [])
GivesMembers (Err e) body from = Unit {0}
