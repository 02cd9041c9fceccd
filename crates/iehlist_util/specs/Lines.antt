-- The lines of listings, in this project's profile.
use Rattle.std.specs.Prelude.{ℕ, ◌+◌, ◌-◌, ◌*◌, ◌/◌, ◌%◌, ◌==◌, nat_lt, bit_and, if◌then◌else◌, List, [], ◌∷◌, ◌++◌, codes, length, replicate, slice_index}
use Rattle.std.specs.Fmt.{decimal}
use Rattle.std.specs.List.{flat_map}
use Rattle.ckd_image.specs.Device.{row_of}
use Rattle.ebcdic_names.specs.Names.{shown}
use Rattle.vol_model.specs.declared.answers.SetInfo.{SetInfo}
use Rattle.vol_model.specs.declared.answers.VolumeInfo.{VolumeInfo}
use Rattle.vol_model.specs.declared.contents.Entry.{Entry}
use Rattle.vol_model.specs.declared.contents.Run.{Run}
use Rattle.util_syntax.specs.Lines.{next_word}

-- a text, and blanks after it up to so many columns
unfoldable pub left_in : ℕ → List ℕ → List ℕ
left_in columns text = text ++ replicate (columns - length text) 32

-- a number in decimal, and characters in front of it up to so many columns
unfoldable pub padded_number : ℕ → ℕ → ℕ → List ℕ
padded_number columns filler number = replicate (columns - length (decimal number)) filler ++ decimal number

-- with blanks in front
abbrev pub right_in : ℕ → ℕ → List ℕ
right_in columns number = padded_number columns 32 number

-- a word and a number, each after a blank
abbrev pub word_and_number : List ℕ → ℕ → List ℕ
word_and_number word number = next_word word ++ next_word (decimal number)

-- the line of a volume: its serial, its device, its cylinders, and what is free: tracks, the runs in which they lie, and slots of the VTOC
unfoldable pub volume_line : VolumeInfo → List ℕ
volume_line info =
    codes "VTOC" ++ next_word (shown info.serial.bytes) ++ next_word (row_of info.geometry.device).device_word
    ++ word_and_number (codes "CYLS") info.geometry.cylinders ++ word_and_number (codes "FREE") info.free_tracks
    ++ word_and_number (codes "RUNS") info.free_runs ++ word_and_number (codes "SLOTS") info.free_slots

-- DSORG in two letters, by its first byte without the lowest bit
unfoldable pub organization_word : ℕ → List ℕ
organization_word dsorg =
    let first = dsorg / 512 in
    if first == 32 then codes "PS"
    else (if first == 1 then codes "PO"
    else (if first == 16 then codes "DA"
    else (if first == 64 then codes "IS" else codes "??")))

-- the record format by the first two bits of RECFM
abbrev pub format_letter : ℕ → ℕ
format_letter bits = if bits == 2 then 70 else (if bits == 1 then 86 else (if bits == 3 then 85 else 63))

-- a letter where a bit is set
abbrev pub letter_if : ℕ → ℕ → ℕ → List ℕ
letter_if recfm bit letter = if bit_and recfm bit == 0 then [] else letter ∷ []

-- RECFM: F, V, U or ?, then B, S, A and M
unfoldable pub format_word : ℕ → List ℕ
format_word recfm =
    format_letter (recfm / 64) ∷ (letter_if recfm 0x10 66 ++ letter_if recfm 0x08 83 ++ letter_if recfm 0x04 65 ++ letter_if recfm 0x02 77)

-- a date as yyddd: the year modulo 100 and the day modulo 1000
unfoldable pub date_word : List ℕ → List ℕ
date_word date =
    padded_number 2 48 (slice_index date 0 % 100) ++ padded_number 3 48 ((slice_index date 1 * 256 + slice_index date 2) % 1000)

-- the organization, the record format and the lengths of a data set
abbrev pub attribute_words : SetInfo → List ℕ
attribute_words info =
    next_word (organization_word info.attr.dsorg) ++ next_word (left_in 4 (format_word info.attr.recfm))
    ++ next_word (right_in 5 info.attr.lrecl) ++ next_word (right_in 5 info.attr.blksize)

-- its extents and tracks, and the dates of its creation and expiration
abbrev pub space_words : SetInfo → List ℕ
space_words info =
    next_word (right_in 2 info.extents) ++ next_word (right_in 5 info.tracks)
    ++ next_word (date_word info.attr.created) ++ next_word (date_word info.attr.expires)

-- the line of a data set
unfoldable pub set_line : List ℕ → SetInfo → List ℕ
set_line name info = left_in 44 (shown name) ++ attribute_words info ++ space_words info

-- the line of an extent of this number, from 1: its first track on the volume, and how many tracks it has
unfoldable pub extent_line : ℕ → Run → List ℕ
extent_line number run =
    codes "  EXTENT" ++ next_word (right_in 2 number) ++ codes " START" ++ next_word (right_in 5 run.start)
    ++ codes " LENGTH" ++ next_word (right_in 5 run.len)

-- the line of a directory: its set, how many blocks it has, and how many entries
unfoldable pub directory_line : List ℕ → ℕ → ℕ → List ℕ
directory_line name blocks members =
    codes "PDS" ++ next_word (shown name) ++ word_and_number (codes "DIRECTORY") blocks ++ word_and_number (codes "MEMBERS") members

-- a hexadecimal digit, in capitals
abbrev pub hex_digit : ℕ → ℕ
hex_digit n = if nat_lt n 10 then 48 + n else 55 + n

-- a byte in two hexadecimal digits
abbrev pub hex_byte : ℕ → List ℕ
hex_byte b = hex_digit (b / 16) ∷ hex_digit (b % 16) ∷ []

-- bytes in hexadecimal
abbrev pub hex_bytes : List ℕ → List ℕ
hex_bytes bytes = flat_map hex_byte bytes

-- a number of two bytes in hexadecimal
abbrev pub hex_number : ℕ → List ℕ
hex_number n = hex_byte (n / 256) ++ hex_byte (n % 256)

-- user data in hexadecimal, where there are any
abbrev pub user_word : List ℕ → List ℕ
user_word [] = []
user_word (b ∷ bs) = next_word (hex_bytes (b ∷ bs))

-- the line of an entry: its name, TT and R of its place, its flags and its user data
unfoldable pub entry_line : Entry → List ℕ
entry_line e =
    left_in 8 (shown e.name.bytes) ++ next_word (hex_number e.place.tt) ++ next_word (hex_byte e.place.r) ++ next_word (hex_byte e.flags)
    ++ user_word e.user
