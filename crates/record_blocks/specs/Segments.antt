-- Segments of records: what their codes say, and the records that they are parts of.
use Rattle.std.specs.Prelude.{ℕ, ◌≤◌, ◌==◌, Bool, ◌||◌, List, [], ◌∷◌, ◌++◌, length, Option, Some, None}
use Rattle.record_blocks.specs.Blocks.{Segment, piece}

-- code 0 is a whole record, 1 its first segment
abbrev pub begins : ℕ → Bool
begins code = (code == 0) || (code == 1)

-- code 0 is a whole record, 2 its last segment
abbrev pub ends : ℕ → Bool
ends code = (code == 0) || (code == 2)

-- the bytes of a record that is open, if one is, and of its next segment
abbrev pub bytes_with : Option (List ℕ) → List ℕ → List ℕ
bytes_with None bytes = bytes
bytes_with (Some body) bytes = body ++ bytes

-- the segments of a record after its first one, any number of code 3 and one of code 2, and their bytes
pub data AreRestOf : List Segment → List ℕ → Type 0 where
  last : (bytes : List ℕ) → AreRestOf (piece 2 bytes ∷ []) bytes
  middle : (bytes : List ℕ) (others : List Segment) (rest : List ℕ) → AreRestOf others rest → AreRestOf (piece 3 bytes ∷ others) (bytes ++ rest)

-- the segments of one record, one of code 0, or one of code 1 and those after it, and their bytes
pub data AreSegmentsOf : List Segment → List ℕ → Type 0 where
  whole : (bytes : List ℕ) → AreSegmentsOf (piece 0 bytes ∷ []) bytes
  parted : (bytes : List ℕ) (others : List Segment) (rest : List ℕ) → AreRestOf others rest → AreSegmentsOf (piece 1 bytes ∷ others) (bytes ++ rest)

-- segments fall, record by record, into those of records that aren't too long
pub data AreRecords (longest : ℕ) : List Segment → List (List ℕ) → Type 0 where
  empty : AreRecords longest [] []
  more : (front others : List Segment) (rec : List ℕ) (recs : List (List ℕ)) → AreSegmentsOf front rec → length rec ≤ longest → AreRecords longest others recs → AreRecords longest (front ++ others) (rec ∷ recs)

-- codes are at most 3
abbrev pub AreCodes : List Segment → Type 0
AreCodes [] = Unit {0}
AreCodes (s ∷ ss) = (s.code ≤ 3) × AreCodes ss
