-- How records of F, FB, V, VB and U are packed into blocks.
use Rattle.std.specs.Prelude.{ℕ, ◌+◌, ◌-◌, Bool, false, ◌&&◌, if◌then◌else◌, nat_le, List, [], ◌∷◌, ◌++◌, length, replicate, Option, Some, None}
use Rattle.record_blocks.specs.declared.formats.Format.{Format}
use Rattle.record_blocks.specs.declared.formats.Base.{Base}
use Rattle.record_blocks.specs.declared.formats.Base.TheVariants.{Fixed, Variable, Undefined}
use Rattle.record_blocks.specs.Formats.{base_of, is_blocked, has_s}
use Rattle.record_blocks.specs.Blocks.{whole_segment, segment_bytes, block_as}

-- the length of the longest record
abbrev pub longest_as : Base → Format → ℕ
longest_as Fixed format = format.lrecl
longest_as Variable format = format.lrecl - 4
longest_as Undefined format = format.blksize

abbrev pub longest : Format → ℕ
longest format = longest_as (base_of format) format

-- how many bytes of a block are for records or segments
abbrev pub room_as : Base → Format → ℕ
room_as Fixed format = format.blksize
room_as Variable format = format.blksize - 4
room_as Undefined format = format.blksize

abbrev pub room : Format → ℕ
room format = room_as (base_of format) format

-- how much room a lawful format has at least: for the longest record, and with VS and VBS for a segment of one byte
abbrev pub needed_as : Base → Format → ℕ
needed_as Fixed format = format.lrecl
needed_as Variable format = if has_s format then 5 else format.lrecl
needed_as Undefined format = format.blksize

abbrev pub needed : Format → ℕ
needed format = needed_as (base_of format) format

-- the least LRECL
abbrev pub least_as : Base → ℕ
least_as Fixed = 1
least_as Variable = 5
least_as Undefined = 0

-- VS and VBS
abbrev pub is_spanned_as : Base → Format → Bool
is_spanned_as Fixed format = false
is_spanned_as Variable format = has_s format
is_spanned_as Undefined format = false

abbrev pub is_spanned : Format → Bool
is_spanned format = is_spanned_as (base_of format) format

-- a record in a block: with F it is filled with blanks up to LRECL
abbrev pub filled_record_as : Base → Format → List ℕ → List ℕ
filled_record_as Fixed format rec = rec ++ replicate (format.lrecl - length rec) 0x40
filled_record_as Variable format rec = rec
filled_record_as Undefined format rec = rec

abbrev pub filled_record : Format → List ℕ → List ℕ
filled_record format rec = filled_record_as (base_of format) format rec

-- what stands for a record in a block
abbrev pub piece_as : Base → Format → List ℕ → List ℕ
piece_as base format rec = segment_bytes base (whole_segment (filled_record_as base format rec))

abbrev pub piece_of : Format → List ℕ → List ℕ
piece_of format rec = piece_as (base_of format) format rec

abbrev pub block_of : Format → List ℕ → List ℕ
block_of format body = block_as (base_of format) body

-- whether an open block also takes a record of this size
abbrev pub joins : Format → List ℕ → ℕ → Bool
joins format body size = is_blocked format && nat_le (length body + size) (room format)

-- the blocks of an open one, if there is one, and of these records
unfoldable pub unspanned_blocks : Format → Option (List ℕ) → List (List ℕ) → List (List ℕ)
unspanned_blocks format None [] = []
unspanned_blocks format (Some body) [] = block_of format body ∷ []
unspanned_blocks format None (rec ∷ recs) = unspanned_blocks format (Some (piece_of format rec)) recs
unspanned_blocks format (Some body) (rec ∷ recs) =
    if joins format body (length (piece_of format rec)) then unspanned_blocks format (Some (body ++ piece_of format rec)) recs
    else block_of format body ∷ unspanned_blocks format (Some (piece_of format rec)) recs
