-- The blocks of records, and how the segments of VS and VBS lie in them.
use Rattle.std.specs.Prelude.{◌≡◌, ℕ, ◌+◌, ◌≤◌, ◌<◌, true, false, if◌then◌else◌, List, [], ◌∷◌, ◌++◌, length, map, None, Result, Ok}
use Rattle.std.specs.List.{AllByRecursion}
use Rattle.record_blocks.specs.declared.formats.Format.{Format}
use Rattle.record_blocks.specs.declared.formats.Base.TheVariants.{Variable}
use Rattle.record_blocks.specs.Formats.{is_blocked}
use Rattle.record_blocks.specs.Blocks.{Segment, described_bytes, body_of, IsMany}
use Rattle.record_blocks.specs.Segments.{ends, AreRecords}
use Rattle.record_blocks.specs.declared.joiner.JoinErr.{JoinErr}
use Rattle.record_blocks.specs.Joining.{joined_records}
use Rattle.record_blocks.specs.Reading.{reading, complete_reading}
use Rattle.record_blocks.specs.Packing.{unspanned_blocks, is_spanned, room, longest, filled_record, block_of}
use Rattle.record_blocks.specs.Spanning.{spanned_blocks, least}

-- the blocks of these records
abbrev pub packing : Format → List (List ℕ) → List (List ℕ)
packing format records = if is_spanned format then spanned_blocks format None records else unspanned_blocks format None records

-- the segments of all blocks, in order
abbrev pub all_segments : List (List Segment) → List Segment
all_segments [] = []
all_segments (b ∷ bs) = b ++ all_segments bs

-- each segment has a byte, but the whole of an empty record
abbrev pub HasByte : Segment → Type 0
HasByte s = s.bytes ≡ [] → s.code ≡ 0

-- after so many bytes of the room, each segment that isn't its record's last fills the block
abbrev pub AreFilling : ℕ → ℕ → List Segment → Type 0
AreFilling total used [] = Unit {0}
AreFilling total used (s ∷ ss) = (ends s.code ≡ false → used + length (described_bytes s) ≡ total) × AreFilling total (used + length (described_bytes s)) ss

-- with B, a block has fewer than 5 free bytes after so many, or fewer than 4 where the next block begins with an empty record
abbrev pub IsFullFor : Format → ℕ → List (List Segment) → Type 0
IsFullFor format used [] = Unit {0}
IsFullFor format used ([] ∷ bs) = Unit {0}
IsFullFor format used ((s ∷ ss) ∷ bs) = is_blocked format ≡ true → room format < used + least s.bytes

-- a block of VS has one segment, one of VBS one or more; the next blocks stand after it
pub record IsSpannedBlock (format : Format) (block : List Segment) (next : List (List Segment)) : Type 0 where
  pub many : IsMany (is_blocked format) block
  pub fits : length (body_of Variable block) ≤ room format
  pub bytes : AllByRecursion HasByte block
  pub fills : AreFilling (room format) 0 block
  pub full : IsFullFor format (length (body_of Variable block)) next

abbrev pub AreSpannedBlocks : Format → List (List Segment) → Type 0
AreSpannedBlocks format [] = Unit {0}
AreSpannedBlocks format (b ∷ bs) = IsSpannedBlock format b bs × AreSpannedBlocks format bs

-- these segments, block by block, are the packing of these records into VS or VBS blocks
pub record IsSpannedLayout (format : Format) (records : List (List ℕ)) (layout : List (List Segment)) : Type 0 where
  pub joins : AreRecords (longest format) (all_segments layout) records
  pub blocks : AreSpannedBlocks format layout

-- the bytes of these VS or VBS blocks
abbrev pub spanned_bytes : Format → List (List Segment) → List (List ℕ)
spanned_bytes format layout = map (λ segments. block_of format (body_of Variable segments)) layout

-- these blocks are the packing of these records into VS or VBS blocks
pub record IsSpannedPacking (format : Format) (records : List (List ℕ)) (blocks : List (List ℕ)) : Type 0 where
  pub layout : List (List Segment)
  pub are : IsSpannedLayout format records layout
  pub bytes : blocks ≡ spanned_bytes format layout

-- the records of these segments: with VS and VBS they are joined, and else each is one
abbrev pub records_of : Format → List Segment → Result (List (List ℕ)) JoinErr
records_of format segments = if is_spanned format then joined_records (longest format) None segments else Ok (map (λ s. s.bytes) segments)

-- reading these blocks meets no fault and gives these records, with F filled with blanks up to LRECL
pub record IsReadBack (format : Format) (records : List (List ℕ)) (blocks : List (List ℕ)) : Type 0 where
  pub layout : List (List Segment)
  pub reads : map (λ block. reading format block) blocks ≡ map (λ segments. complete_reading segments) layout
  pub joins : records_of format (all_segments layout) ≡ Ok (map (λ rec. filled_record format rec) records)
