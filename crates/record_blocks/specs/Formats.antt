-- What RECFM, LRECL and BLKSIZE say, and the rules that they follow.
use Rattle.std.specs.Prelude.{ℕ, ◌+◌, ◌%◌, ◌==◌, Bool, false, not, ◌||◌, if◌then◌else◌, nat_lt, bit_and, Option, Some, None}
use Rattle.record_blocks.specs.declared.formats.Format.{Format}
use Rattle.record_blocks.specs.declared.formats.FormatErr.{FormatErr}
use Rattle.record_blocks.specs.declared.formats.FormatErr.TheVariants.{BadRecfm, BadLrecl, BadBlksize}
use Rattle.record_blocks.specs.declared.formats.Base.{Base}
use Rattle.record_blocks.specs.declared.formats.Base.TheVariants.{Fixed, Variable, Undefined}

-- what the two top bits say
abbrev pub base_of_bits : ℕ → Base
base_of_bits bits = if bits == 0x80 then Fixed else (if bits == 0x40 then Variable else Undefined)

abbrev pub base_of : Format → Base
base_of format = base_of_bits (bit_and format.recfm 0xC0)

-- B
abbrev pub is_blocked : Format → Bool
is_blocked format = not (bit_and format.recfm 0x10 == 0)

-- S
abbrev pub has_s : Format → Bool
has_s format = not (bit_and format.recfm 0x08 == 0)

-- no kind of records, or U with B or S
abbrev pub bad_recfm_of : Base → Format → Bool
bad_recfm_of Undefined format = (bit_and format.recfm 0xC0 == 0) || (is_blocked format || has_s format)
bad_recfm_of Fixed format = false
bad_recfm_of Variable format = false

abbrev pub has_bad_recfm : Format → Bool
has_bad_recfm format = bad_recfm_of (base_of format) format

abbrev pub bad_lrecl_of : Base → Format → Bool
bad_lrecl_of Fixed format = format.lrecl == 0
bad_lrecl_of Variable format = nat_lt format.lrecl 5
bad_lrecl_of Undefined format = false

abbrev pub has_bad_lrecl : Format → Bool
has_bad_lrecl format = bad_lrecl_of (base_of format) format

-- BLKSIZE is LRECL for F, a multiple of it for FB
abbrev pub is_divided : Format → Bool
is_divided format = if is_blocked format then format.blksize % format.lrecl == 0 else format.blksize == format.lrecl

-- with F it isn't divided into records; with V and VB it is below LRECL + 4, with VS and VBS below 9
abbrev pub bad_blksize_of : Base → Format → Bool
bad_blksize_of Fixed format = not (is_divided format)
bad_blksize_of Variable format = nat_lt format.blksize (if has_s format then 9 else format.lrecl + 4)
bad_blksize_of Undefined format = false

abbrev pub has_bad_blksize : Format → Bool
has_bad_blksize format = (format.blksize == 0) || (nat_lt 32760 format.blksize || bad_blksize_of (base_of format) format)

-- the first rule that a format breaks
abbrev pub first_fault : Format → Option FormatErr
first_fault format =
    if has_bad_recfm format then Some BadRecfm
    else (if has_bad_lrecl format then Some BadLrecl
    else (if has_bad_blksize format then Some BadBlksize else None))
