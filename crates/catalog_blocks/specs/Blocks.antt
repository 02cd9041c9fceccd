-- What a block of the catalog holds.
-- (The catalog of System Control Blocks GC28-6628; the content of its blocks: this project's profile.)
use Rattle.std.specs.Prelude.{◌≡◌, ℕ, zero, suc, ◌+◌, ◌*◌, ◌%◌, ◌==◌, ◌&&◌, ◌||◌, not, min, nat_le, nat_lt, Bool, ◌-◌, ◌^◌, ◌<◌, ◌≤◌, List, [], ◌∷◌, length, take, drop, replicate, slice_index, slice_range, Result, Ok, Err, if◌then◌else◌}
use Rattle.std.specs.List.{AllByRecursion}
use Rattle.std.specs.Str.{bytes_eq}
use Rattle.std.specs.Int.{w16, w64, from_be_bytes}
use Rattle.chain_spec.specs.Cut.{total}
use Rattle.chain_spec.specs.Kept.{Rises}
use Rattle.vol_model.specs.declared.contents.Place.{Place}
use Rattle.catalog_blocks.specs.declared.blocks.BadBlock.{BadBlock}
use Rattle.catalog_blocks.specs.declared.blocks.BadBlock.TheVariants.{Memory, At}
use Rattle.catalog_blocks.specs.declared.blocks.CatBlock.{CatBlock}
use Rattle.catalog_blocks.specs.declared.blocks.CatEntry.{CatEntry}

-- the number that the eight bytes of an entry's name spell, by which entries are ordered
abbrev pub name_number : CatEntry → ℕ
name_number e = from_be_bytes w64 e.name.bytes

-- the bytes of an entry in a block: its name, its TTR, its count and its data
abbrev pub cat_size : CatEntry → ℕ
cat_size e = 12 + length e.payload

-- the same, as an entry of a chain
abbrev pub chain_size : CatEntry → ℕ
chain_size e = 12 + min (length e.payload) 230

-- the name of a link entry: eight X'FF'
abbrev pub link_name : List ℕ
link_name = replicate 8 255

-- the bytes of the entry at the front: its name, its TTR, its count of halfwords, and so many halfwords
abbrev pub front_length : List ℕ → ℕ
front_length bytes = 12 + 2 * slice_index bytes 11

-- the TTR of the entry at the front
abbrev pub front_place : List ℕ → Place
front_place bytes = record { tt = from_be_bytes w16 (slice_range bytes 8 10); r = slice_index bytes 10 }

-- the entry at the front
abbrev pub front_entry : List ℕ → CatEntry
front_entry bytes = record {
  name = record { bytes = take 8 bytes };
  place = front_place bytes;
  payload = slice_range bytes 12 (front_length bytes);
}

-- the number that its name spells
abbrev pub front_number : List ℕ → ℕ
front_number bytes = from_be_bytes w64 (take 8 bytes)

-- it is a link entry
abbrev pub is_link : List ℕ → Bool
is_link bytes = bytes_eq (take 8 bytes) link_name

-- an entry can't stand at the front: it leaves the bytes, its name is below this number,
-- or it is a link entry with data, or with bytes after it
abbrev pub breaks : ℕ → List ℕ → Bool
breaks bound bytes =
    nat_lt (length bytes) 12 || (nat_lt (length bytes) (front_length bytes)
    || (nat_lt (front_number bytes) bound || (is_link bytes && not (length bytes == 12))))

-- a block with one more entry in front
abbrev pub with_front : CatEntry → Result CatBlock ℕ → Result CatBlock ℕ
with_front e (Ok b) = Ok (record { entries = e ∷ b.entries; next = b.next })
with_front e (Err at) = Err at

-- the entries up to the link entry that ends the block, at most so many, with names from a number on;
-- or the offset of the first that breaks the form, where the bytes stand at this offset
unfoldable pub entries_from : ℕ → ℕ → ℕ → List ℕ → Result CatBlock ℕ
entries_from zero at bound bytes = Err at
entries_from (suc n) at bound bytes =
    if breaks bound bytes then Err at
    else (if is_link bytes then Ok (record { entries = []; next = front_place bytes })
    else with_front (front_entry bytes)
    (entries_from n (at + front_length bytes) (suc (front_number bytes)) (drop (front_length bytes) bytes)))

-- the entries in the used bytes of a block
abbrev pub entries_used : List ℕ → Result CatBlock ℕ
entries_used bytes = entries_from (length bytes) 2 0 bytes

-- the used bytes of a block, of which there are so many with the two that count them
abbrev pub used_bytes : ℕ → List ℕ → List ℕ
used_bytes used bytes = slice_range bytes 2 used

-- what a block holds where so many of its bytes are used: 14 at least, for a link entry
abbrev pub block_used : ℕ → List ℕ → Result CatBlock ℕ
block_used used bytes = if nat_le 14 used && nat_le used 256 then entries_used (used_bytes used bytes) else Err 0

-- what the bytes of a block hold, or the first byte that breaks its form; the first two count those that are used
unfoldable pub block_in : List ℕ → Result CatBlock ℕ
block_in bytes = block_used (from_be_bytes w16 (take 2 bytes)) bytes

-- a block is read as it stands, or the first byte that breaks its form is answered
abbrev pub Decodes : Result CatBlock BadBlock → Result CatBlock ℕ → Type 0
Decodes (Ok b) found = found ≡ Ok b
Decodes (Err (At k)) found = found ≡ Err k
Decodes (Err Memory) found = Unit {0}

-- An entry can stand in a block: its name stands before that of a link entry, and its data have an even number of bytes.
pub record IsCatEntry (e : CatEntry) : Type 0 where
  pub name : name_number e < 2 ^ 64 - 1
  pub even : length e.payload % 2 ≡ 0

-- bytes are below 256
abbrev pub AreBytes : List ℕ → Type 0
AreBytes bytes = AllByRecursion (λ (x : ℕ). x < 256) bytes

-- The name of an entry has eight bytes.
pub record HasName (e : CatEntry) : Type 0 where
  pub eight : length e.name.bytes ≡ 8
  pub bytes : AreBytes e.name.bytes

-- Entries can be those of one block: their names rise, and they fit beside its link entry.
pub record AreForBlock (entries : List CatEntry) : Type 0 where
  pub each : AllByRecursion IsCatEntry entries
  pub rise : Rises name_number entries
  pub fit : total cat_size entries ≤ 242
