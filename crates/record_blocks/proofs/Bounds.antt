-- What the rules of a format say of its lengths.
use Rattle.std.proofs.Common.{◌≡◌, ℕ, ◌+◌, ◌-◌, ◌<◌, ◌≤◌, Bool, true, false, None, List, length, arith, length-append}
use Rattle.std.specs.Prelude.{nat_lt, ◌==◌, not, ◌%◌, if◌then◌else◌}
use Rattle.std.proofs.lemmas.Grind.{common_steps}
use Rattle.std.proofs.lemmas.List.{length-replicate}
use Rattle.std.proofs.Math.Nat.{mod-eq_of_lt}
use Rattle.std.proofs.lemmas.Bool.Decides.{nat_tests}
use Rattle.record_blocks.specs.declared.formats.Format.{Format}
use Rattle.record_blocks.specs.declared.formats.Base.{Base}
use Rattle.record_blocks.specs.declared.formats.Base.TheVariants.{Fixed, Variable, Undefined}
use Rattle.record_blocks.specs.Formats.{base_of, is_blocked, has_s, bad_lrecl_of, bad_blksize_of, first_fault}
use Rattle.record_blocks.specs.Blocks.{block_as}
use Rattle.record_blocks.specs.Packing.{room_as, needed_as, longest_as, least_as, is_spanned_as, piece_as}

pub record Bounds (base : Base) (format : Format) : Type 0 where
  pub least : least_as base ≤ format.lrecl
  pub small : format.blksize ≤ 32760
  pub roomy : needed_as base format ≤ room_as base format

-- a format without a fault
pub record Lawful (base : Base) (format : Format) : Type 0 where
  pub lrecl : bad_lrecl_of base format ≡ false
  pub some : (format.blksize == 0) ≡ false
  pub small : nat_lt 32760 format.blksize ≡ false
  pub blksize : bad_blksize_of base format ≡ false

pub lawful : (format : Format) → first_fault format ≡ None → Lawful (base_of format) format
lawful format e = grind (arith, common_steps)

small-rest : (n m : ℕ) → n < m → 0 < n → n % m ≡ 0 → ⊥
small-rest n m p q e = omega (arith, mod-eq_of_lt p)

divided : (blocked : Bool) (blksize lrecl : ℕ) → 0 < blksize → not (if blocked then (blksize % lrecl == 0) else (blksize == lrecl)) ≡ false → lrecl ≤ blksize
divided true blksize lrecl p e = let zero : blksize % lrecl ≡ 0 = grind (arith, nat_tests) in let above : blksize < lrecl → ⊥ = λ q. small-rest blksize lrecl q p zero in omega arith
divided false blksize lrecl p e = grind (arith, nat_tests)

roomy-spread : (spanned : Bool) (lrecl blksize : ℕ) → nat_lt blksize (if spanned then 9 else (lrecl + 4)) ≡ false → (if spanned then 5 else lrecl) ≤ blksize - 4
roomy-spread true lrecl blksize e = grind (arith, nat_tests)
roomy-spread false lrecl blksize e = grind (arith, nat_tests)

bounds-of : (base : Base) (format : Format) → Lawful base format → Bounds base format
bounds-of Fixed format l = record { least = grind (arith, nat_tests, l.lrecl); small = grind (arith, nat_tests, l.small); roomy = divided (is_blocked format) format.blksize format.lrecl (grind (arith, nat_tests, l.some)) l.blksize }
bounds-of Variable format l = record { least = grind (arith, nat_tests, l.lrecl); small = grind (arith, nat_tests, l.small); roomy = roomy-spread (has_s format) format.lrecl format.blksize l.blksize }
bounds-of Undefined format l = record { least = omega arith; small = grind (arith, nat_tests, l.small); roomy = omega arith }

pub bounds : (format : Format) → first_fault format ≡ None → Bounds (base_of format) format
bounds format e = bounds-of (base_of format) format (lawful format e)

-- the room is within a block
pub room-within : (base : Base) (format : Format) → room_as base format ≤ format.blksize
room-within Fixed format = omega arith
room-within Variable format = omega arith
room-within Undefined format = omega arith

pub longest-fits : (base : Base) (format : Format) → is_spanned_as base format ≡ false → longest_as base format ≤ needed_as base format
longest-fits Fixed format e = omega arith
longest-fits Variable format e = rw e (omega arith)
longest-fits Undefined format e = omega arith

-- a piece fits the room of a block, where records aren't spread over several
pub piece-fits : (base : Base) (format : Format) (rec : List ℕ) → is_spanned_as base format ≡ false → least_as base ≤ format.lrecl → length rec ≤ longest_as base format → length (piece_as base format rec) ≤ needed_as base format
piece-fits Fixed format rec e l h = simp (length-append, length-replicate) (omega arith)
piece-fits Variable format rec e l h = rw e (omega arith)
piece-fits Undefined format rec e l h = h

some-needed : (spanned : Bool) (lrecl : ℕ) → 5 ≤ lrecl → 5 ≤ (if spanned then 5 else lrecl)
some-needed true lrecl h = omega arith
some-needed false lrecl h = h

-- a block of pieces that fit its room isn't longer than BLKSIZE
pub block-fits : (base : Base) (format : Format) (body : List ℕ) → least_as base ≤ format.lrecl → needed_as base format ≤ room_as base format → length body ≤ room_as base format → length (block_as base body) ≤ format.blksize
block-fits Fixed format body l n h = h
block-fits Variable format body l n h = let some = some-needed (has_s format) format.lrecl l in omega arith
block-fits Undefined format body l n h = h

pub ruleset rules_of_format = (bounds)

pub ruleset rules_of_pieces = (room-within, longest-fits, piece-fits, block-fits)

pub ruleset rules_of_blocks = (block-fits)
