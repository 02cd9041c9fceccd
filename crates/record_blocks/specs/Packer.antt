-- What a `Packer` makes of the records that are still to come.
use Rattle.std.specs.Prelude.{◌≡◌, ℕ, ◌<◌, ◌≤◌, Bool, true, if◌then◌else◌, List, ◌∷◌, ◌++◌, length, drop, Option, Some, None}
use Rattle.record_blocks.specs.declared.packer.Packer.{Packer}
use Rattle.record_blocks.specs.declared.packer.PackErr.{PackErr}
use Rattle.record_blocks.specs.declared.packer.PackErr.TheVariants.{TooLong, Memory}
use Rattle.record_blocks.specs.declared.formats.Format.{Format}
use Rattle.record_blocks.specs.Packing.{unspanned_blocks, is_spanned}
use Rattle.record_blocks.specs.Spanning.{spanned_blocks, spanned_rest}
use Rattle.record_blocks.specs.Layout.{packing}

abbrev pub format_of : Packer → Format
format_of packer = packer.format

-- whether a record waits whose further blocks `pull` has not given yet
abbrev pub is_waiting : Packer → Bool
is_waiting packer = packer.waiting

-- the segments of the open block
abbrev pub open_of : Packer → Option (List ℕ)
open_of packer = if packer.begun then Some packer.body.items else None

-- what is left of the record that waits
abbrev pub rest_of : Packer → List ℕ
rest_of packer = drop packer.placed packer.pending.items

-- with VS and VBS: the blocks of the record that waits, if one does, and of these records
abbrev pub spanned_with : Packer → List (List ℕ) → List (List ℕ)
spanned_with packer records =
    if packer.waiting then spanned_rest packer.format (open_of packer) packer.placed (rest_of packer) records
    else spanned_blocks packer.format (open_of packer) records

-- the blocks that a packer makes with these records
abbrev pub blocks_with : Packer → List (List ℕ) → List (List ℕ)
blocks_with packer records = if is_spanned packer.format then spanned_with packer records else unspanned_blocks packer.format (open_of packer) records

-- a block that was given, if one was, in front of others
abbrev pub blocks_given : Bool → List ℕ → List (List ℕ) → List (List ℕ)
blocks_given full out others = if full then out ∷ others else others

-- the block that was given, if one was, and those of further records are those that it made of these records and them
abbrev pub BlocksFollow : List (List ℕ) → Bool → List ℕ → Packer → Packer → Type 0
BlocksFollow recs full out old new = (records : List (List ℕ)) → blocks_with old (recs ++ records) ≡ blocks_given full out (blocks_with new records)

-- no record was pushed since the last block: the blocks are those of the records to come
abbrev pub IsFresh : Format → Packer → Type 0
IsFresh format packer = (records : List (List ℕ)) → blocks_with packer records ≡ packing format records

-- a finished block has at most BLKSIZE bytes, which are at most 32,760
abbrev pub BlockFits : Format → Bool → List ℕ → Type 0
BlockFits format full out = full ≡ true → (length out ≤ format.blksize) × (format.blksize ≤ 32760)

-- the same blocks come
pub record IsUnchanged (old new : Packer) : Type 0 where
  pub same : (records : List (List ℕ)) → blocks_with new records ≡ blocks_with old records
  pub waits : is_waiting new ≡ is_waiting old

-- the fields that say which blocks come are as before
pub record SameState (old new : Packer) : Type 0 where
  pub state : new.begun ≡ old.begun
  pub pieces : new.body.items ≡ old.body.items
  pub waits : new.waiting ≡ old.waiting
  pub there : new.placed ≡ old.placed
  pub bytes : new.pending.items ≡ old.pending.items

-- a record of this length is longer than the longest, or memory ran out
abbrev pub HasCause : PackErr → ℕ → ℕ → Type 0
HasCause (TooLong len) length longest = (len ≡ length) × (longest < length)
HasCause Memory length longest = Unit {0}
