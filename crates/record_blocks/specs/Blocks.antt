-- A block and its records or segments, with the block, record and segment descriptors of OS/360.
use Rattle.std.specs.Prelude.{◌≡◌, ℕ, ◌+◌, ◌/◌, ◌%◌, ◌≤◌, Bool, true, if◌then◌else◌, List, [], ◌∷◌, ◌++◌, length}
use Rattle.std.specs.List.{AllByRecursion}
use Rattle.record_blocks.specs.declared.formats.Format.{Format}
use Rattle.record_blocks.specs.declared.formats.Base.{Base}
use Rattle.record_blocks.specs.declared.formats.Base.TheVariants.{Fixed, Variable, Undefined}
use Rattle.record_blocks.specs.Formats.{base_of, is_blocked, has_s}

-- a segment: its code and its bytes; a record that isn't spread has code 0
pub record Segment : Type 0 where
  pub code : ℕ
  pub bytes : List ℕ

abbrev pub piece : ℕ → List ℕ → Segment
piece code bytes = record { code = code; bytes = bytes }

abbrev pub whole_segment : List ℕ → Segment
whole_segment bytes = piece 0 bytes

-- a descriptor, with the length that counts its own four bytes, the code and a zero byte, and the bytes after it
abbrev pub described_bytes : Segment → List ℕ
described_bytes s = let n = length s.bytes + 4 in n / 256 ∷ n % 256 ∷ s.code ∷ 0 ∷ s.bytes

-- what stands for a segment in a block
abbrev pub segment_bytes : Base → Segment → List ℕ
segment_bytes Fixed s = s.bytes
segment_bytes Variable s = described_bytes s
segment_bytes Undefined s = s.bytes

-- the bytes of these segments in a block
abbrev pub body_of : Base → List Segment → List ℕ
body_of base [] = []
body_of base (s ∷ ss) = segment_bytes base s ++ body_of base ss

-- the greatest code: 0 whole, 1 first, 2 last, 3 middle
abbrev pub greatest_code : Format → ℕ
greatest_code format = if has_s format then 3 else 0

-- a segment that may stand in a block of the format
abbrev pub IsLawfulAs : Base → Format → Segment → Type 0
IsLawfulAs Fixed format s = (s.code ≡ 0) × (length s.bytes ≡ format.lrecl)
IsLawfulAs Variable format s = s.code ≤ greatest_code format
IsLawfulAs Undefined format s = s.code ≡ 0

-- one with B, and else exactly one
abbrev pub IsMany : Bool → List Segment → Type 0
IsMany blocked [] = ⊥
IsMany blocked (s ∷ []) = Unit {0}
IsMany blocked (s ∷ t ∷ ss) = blocked ≡ true

-- the bytes of a block of these spelled segments: with V they stand after a descriptor of the block
abbrev pub block_as : Base → List ℕ → List ℕ
block_as Fixed bytes = bytes
block_as Variable bytes = described_bytes (whole_segment bytes)
block_as Undefined bytes = bytes

-- the block of a format with this base holds these records or segments
pub record IsBlockAs (base : Base) (format : Format) (block : List ℕ) (segments : List Segment) : Type 0 where
  pub spells : block ≡ block_as base (body_of (base_of format) segments)
  pub lawful : AllByRecursion (IsLawfulAs (base_of format) format) segments
  pub many : IsMany (is_blocked format) segments

-- the block holds these records or segments
abbrev pub IsBlock : Format → List ℕ → List Segment → Type 0
IsBlock format block segments = IsBlockAs (base_of format) format block segments
