-- How records are spread over the blocks of VS and VBS.
use Rattle.std.specs.Prelude.{ℕ, zero, suc, ◌+◌, ◌-◌, Bool, true, false, not, ◌||◌, if◌then◌else◌, nat_lt, nat_le, List, [], ◌∷◌, ◌++◌, length, take, Option, Some, None}
use Rattle.record_blocks.specs.declared.formats.Format.{Format}
use Rattle.record_blocks.specs.Formats.{is_blocked}
use Rattle.record_blocks.specs.Blocks.{piece, described_bytes}
use Rattle.record_blocks.specs.Packing.{room, block_of}

-- the code of a segment: whether its record began before it, and whether it ends there
abbrev pub segment_code : Bool → Bool → ℕ
segment_code false true = 0
segment_code false false = 1
segment_code true true = 2
segment_code true false = 3

-- whether an open block takes no segment of this size
abbrev pub closes_at : Format → ℕ → ℕ → Bool
closes_at format used size = not (is_blocked format) || nat_lt (room format) (used + size)

abbrev pub closes : Format → List ℕ → ℕ → Bool
closes format body size = closes_at format (length body) size

-- a segment needs its descriptor, and a byte where the record has one
abbrev pub least : List ℕ → ℕ
least [] = 4
least (b ∷ bs) = 5

-- the blocks where the next segment of this size goes into the open block, or after it into a new one
abbrev pub in_open : Format → Option (List ℕ) → ℕ → (List ℕ → List (List ℕ)) → List (List ℕ)
in_open format None size then_ = then_ []
in_open format (Some body) size then_ = if closes format body size then block_of format body ∷ then_ [] else then_ body

-- whether all of these bytes fit the block
abbrev pub is_last_at : Format → ℕ → ℕ → Bool
is_last_at format used count = nat_le (count + (used + 4)) (room format)

abbrev pub is_last : Format → List ℕ → List ℕ → Bool
is_last format body rest = is_last_at format (length body) (length rest)

-- how many bytes the segment has that fills the block
abbrev pub filling_at : Format → ℕ → ℕ
filling_at format used = room format - (used + 4)

abbrev pub filling : Format → List ℕ → ℕ
filling format body = filling_at format (length body)

-- the bytes of a segment with its descriptor
abbrev pub segment : Bool → Bool → List ℕ → List ℕ
segment parted last bytes = described_bytes (piece (segment_code parted last) bytes)

-- a block that is filled by a segment of these bytes
abbrev pub filled_block : Format → Bool → List ℕ → List ℕ → List ℕ
filled_block format parted body rest = block_of format (body ++ segment parted false (take (filling format body) rest))

-- the blocks of what is left of a record, whose first bytes are passed over, and those after its last segment
unfoldable pub blocks_of_record : Format → (List ℕ → List (List ℕ)) → Option (List ℕ) → Bool → ℕ → List ℕ → List (List ℕ)
blocks_of_record format behind start parted passed [] = in_open format start 4 (λ body. behind (body ++ segment parted true []))
blocks_of_record format behind start parted zero (b ∷ bs) = in_open format start 5 (λ body.
    if is_last format body (b ∷ bs) then behind (body ++ segment parted true (b ∷ bs))
    else filled_block format parted body (b ∷ bs) ∷ blocks_of_record format behind None true (filling format body - 1) bs)
blocks_of_record format behind start parted (suc passed) (b ∷ bs) = blocks_of_record format behind start parted passed bs

abbrev pub last_block : Format → Option (List ℕ) → List (List ℕ)
last_block format None = []
last_block format (Some body) = block_of format body ∷ []

-- the blocks of an open one, if there is one, and of these records
unfoldable pub spanned_blocks : Format → Option (List ℕ) → List (List ℕ) → List (List ℕ)
spanned_blocks format start [] = last_block format start
spanned_blocks format start (rec ∷ recs) = blocks_of_record format (λ body. spanned_blocks format (Some body) recs) start false 0 rec

-- the same with what is left of a record, so many bytes of which are placed, in front of these records
unfoldable pub spanned_rest : Format → Option (List ℕ) → ℕ → List ℕ → List (List ℕ) → List (List ℕ)
spanned_rest format start placed rest recs = blocks_of_record format (λ body. spanned_blocks format (Some body) recs) start (nat_lt 0 placed) 0 rest

-- whether the block that is open takes no segment of these bytes
unfoldable pub must_close : Format → Option (List ℕ) → List ℕ → Bool
must_close format None rest = false
must_close format (Some body) rest = closes format body (least rest)

-- the segments of the block that is open
unfoldable pub pieces_in : Option (List ℕ) → List ℕ
pieces_in None = []
pieces_in (Some body) = body
