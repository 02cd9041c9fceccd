-- The entries of a directory block, as they are written and read (System Control Blocks GC28-6628).
use Rattle.std.specs.Prelude.{◌≡◌, ◌≢◌, ◌⊎◌, ℕ, ◌+◌, ◌^◌, ◌≤◌, ◌<◌, min, Bool, true, false, List, [], length, take, if◌then◌else◌}
use Rattle.std.specs.List.{AllByRecursion}
use Rattle.std.specs.Str.{bytes_eq}
use Rattle.chain_spec.specs.Cut.{total}
use Rattle.chain_spec.specs.Kept.{Rises}
use Rattle.chain_spec.specs.Store.{Block as Stored}
use Rattle.vol_model.specs.declared.contents.Entry.{Entry}
use Rattle.vol_model.specs.Lawful.{IsLawfulEntry}
use Rattle.vol_model.specs.Slots.{entry_size}
use Rattle.pack_spec.specs.Directories.{end_name, front_length, name_number}
use Rattle.pds_directory.specs.declared.decoding.DirBlock.{DirBlock}
use Rattle.pds_directory.specs.declared.decoding.Front.{Front}
use Rattle.pds_directory.specs.declared.decoding.Front.TheVariants as fronts

-- Entries can be those of one block, the last of the directory or not: each is lawful, their names rise, and with the end entry they fit. A block that isn't the last has an entry.
pub record AreForBlock (entries : List Entry) (last : Bool) : Type 0 where
  pub lawful : AllByRecursion IsLawfulEntry entries
  pub rise : Rises name_number entries
  pub fit : total entry_size entries + (if last then 12 else 0) ≤ 254
  pub some : last ≡ false → entries ≢ []

-- the bytes of an entry as one of a chain: of one that is lawful, those that it takes in a block
abbrev pub chain_size : Entry → ℕ
chain_size e = 12 + min (length e.user) 230

-- a block as it was read
abbrev pub stored_of : DirBlock → Stored Entry
stored_of b = record { entries = b.entries.items; ends = b.ends }

-- The name of an entry has eight bytes.
pub record IsNamed (e : Entry) : Type 0 where
  pub eight : length e.name.bytes ≡ 8
  pub bytes : AllByRecursion (λ (b : ℕ). b < 256) e.name.bytes

-- An entry as it is read from a block: it is lawful, and its name has eight bytes.
pub record IsReadEntry (e : Entry) : Type 0 where
  pub lawful : IsLawfulEntry e
  pub named : IsNamed e

-- The entries of a block as it is read, which ends its directory or not: with the end entry they fit it.
pub record AreOfBlock (entries : List Entry) (ends : Bool) : Type 0 where
  pub all : AllByRecursion IsReadEntry entries
  pub fit : total entry_size entries + (if ends then 12 else 0) ≤ 254

-- what stands at the front of the used bytes of a block: the end entry, an entry, or one that leaves the bytes
abbrev pub IsFront : List ℕ → Front → Type 0
IsFront bytes (fronts.Entry len) = (12 ≤ length bytes) × (bytes_eq (take 8 bytes) end_name ≡ false) × (len ≡ front_length bytes) × (len ≤ length bytes)
IsFront bytes fronts.End = (12 ≤ length bytes) × (bytes_eq (take 8 bytes) end_name ≡ true)
IsFront bytes fronts.Broken = (length bytes < 12) ⊎ ((bytes_eq (take 8 bytes) end_name ≡ false) × (length bytes < front_length bytes))

-- The fields of an entry have the sizes that its bytes have room for.
pub record IsSized (e : Entry) : Type 0 where
  pub name : length e.name.bytes ≡ 8
  pub track : e.place.tt < 2 ^ 16

-- and so those of all
abbrev pub AreSized : List Entry → Type 0
AreSized entries = AllByRecursion IsSized entries
