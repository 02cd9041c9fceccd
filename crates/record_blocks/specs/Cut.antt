-- The cut of records into F, FB, V, VB and U blocks: each fits, and none could also take the next one's first record.
use Rattle.std.specs.Prelude.{◌≡◌, ℕ, ◌≤◌, Bool, true, false, List, [], ◌∷◌, ◌++◌, length, map}
use Rattle.record_blocks.specs.declared.formats.Format.{Format}
use Rattle.record_blocks.specs.Formats.{base_of, is_blocked}
use Rattle.record_blocks.specs.Blocks.{Segment, whole_segment, body_of}
use Rattle.record_blocks.specs.Packing.{room, longest, filled_record, piece_of, block_of, joins}

-- these records, each as one segment
abbrev pub whole_segments : Format → List (List ℕ) → List Segment
whole_segments format recs = map (λ rec. whole_segment (filled_record format rec)) recs

-- the bytes of these records in a block
abbrev pub pieces_of : Format → List (List ℕ) → List ℕ
pieces_of format recs = body_of (base_of format) (whole_segments format recs)

-- the records of these blocks
abbrev pub all_records : List (List (List ℕ)) → List (List ℕ)
all_records [] = []
all_records (b ∷ bs) = b ++ all_records bs

-- a block has a record, with B maybe more, and fits
abbrev pub IsRecordBlock : Format → List (List ℕ) → Type 0
IsRecordBlock format [] = ⊥
IsRecordBlock format (rec ∷ []) = length (pieces_of format (rec ∷ [])) ≤ room format
IsRecordBlock format (rec ∷ next ∷ recs) = (is_blocked format ≡ true) × (length (pieces_of format (rec ∷ next ∷ recs)) ≤ room format)

abbrev pub AreRecordBlocks : Format → List (List (List ℕ)) → Type 0
AreRecordBlocks format [] = Unit {0}
AreRecordBlocks format (b ∷ bs) = IsRecordBlock format b × AreRecordBlocks format bs

-- whether a block could also take the first record of the next one
abbrev pub takes_first : Format → List (List ℕ) → List (List ℕ) → Bool
takes_first format block [] = false
takes_first format block (rec ∷ recs) = joins format (pieces_of format block) (length (piece_of format rec))

-- no block could also take the first record of the next one
abbrev pub LeaveNoRoom : Format → List (List (List ℕ)) → Type 0
LeaveNoRoom format [] = Unit {0}
LeaveNoRoom format (b ∷ []) = Unit {0}
LeaveNoRoom format (b ∷ c ∷ cs) = (takes_first format b c ≡ false) × LeaveNoRoom format (c ∷ cs)

-- the bytes of these blocks
abbrev pub blocks_of : Format → List (List (List ℕ)) → List (List ℕ)
blocks_of format [] = []
blocks_of format (b ∷ bs) = block_of format (pieces_of format b) ∷ blocks_of format bs

-- these records, block by block, are the cut of these records
pub record IsCut (format : Format) (records : List (List ℕ)) (cut : List (List (List ℕ))) : Type 0 where
  pub holds : all_records cut ≡ records
  pub filled : AreRecordBlocks format cut
  pub full : LeaveNoRoom format cut

-- these blocks are the packing of these records into F, FB, V, VB or U blocks
pub record IsCutPacking (format : Format) (records : List (List ℕ)) (blocks : List (List ℕ)) : Type 0 where
  pub cut : List (List (List ℕ))
  pub are : IsCut format records cut
  pub bytes : blocks ≡ blocks_of format cut

-- no record is too long
abbrev pub AllShort : Format → List (List ℕ) → Type 0
AllShort format [] = Unit {0}
AllShort format (rec ∷ recs) = (length rec ≤ longest format) × AllShort format recs
