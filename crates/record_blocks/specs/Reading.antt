-- Reading a block from left to right, with the first fault that is met.
use Rattle.std.specs.Prelude.{◌≡◌, ◌⊎◌, ℕ, zero, suc, ◌<◌, ◌+◌, ◌-◌, ◌*◌, ◌==◌, Bool, true, false, not, ◌&&◌, if◌then◌else◌, nat_le, List, [], ◌∷◌, ◌++◌, length, take, drop, Option, Some, None, Result, Ok, Err}
use Rattle.record_blocks.specs.declared.formats.Format.{Format}
use Rattle.record_blocks.specs.declared.formats.Base.{Base}
use Rattle.record_blocks.specs.declared.formats.Base.TheVariants.{Fixed, Variable, Undefined}
use Rattle.record_blocks.specs.declared.pieces.BlockErr.{BlockErr}
use Rattle.record_blocks.specs.declared.pieces.BlockErr.TheVariants.{ShortBlock, BadDescriptor}
use Rattle.record_blocks.specs.Formats.{base_of, is_blocked}
use Rattle.std.specs.List.{AllByRecursion}
use Rattle.record_blocks.specs.Blocks.{Segment, piece, whole_segment, described_bytes, segment_bytes, greatest_code, body_of, IsLawfulAs}

-- a record of LRECL bytes at the front of these
abbrev pub first_fixed : ℕ → List ℕ → Option Segment
first_fixed lrecl rest = if not (lrecl == 0) && nat_le lrecl (length rest) then Some (whole_segment (take lrecl rest)) else None

-- a segment of so many bytes, its descriptor counted
abbrev pub piece_in : ℕ → ℕ → ℕ → ℕ → List ℕ → Option Segment
piece_in greatest n code last rest =
    if nat_le 4 n && (nat_le code greatest && ((last == 0) && nat_le n (length rest + 4)))
    then Some (piece code (take (n - 4) rest)) else None

-- a segment with its descriptor at the front of these bytes
abbrev pub first_described : ℕ → List ℕ → Option Segment
first_described greatest (high ∷ low ∷ code ∷ last ∷ rest) = piece_in greatest (256 * high + low) code last rest
first_described greatest _ = None

abbrev pub first_as : Base → Format → List ℕ → Option Segment
first_as Fixed format rest = first_fixed format.lrecl rest
first_as Variable format rest = first_described (greatest_code format) rest
first_as Undefined format rest = Some (whole_segment rest)

-- the record or segment at the front of these bytes
abbrev pub first : Format → List ℕ → Option Segment
first format rest = first_as (base_of format) format rest

-- how many bytes it takes
abbrev pub size_as : Base → Segment → ℕ
size_as Fixed s = length s.bytes
size_as Variable s = length s.bytes + 4
size_as Undefined s = length s.bytes

abbrev pub size : Format → Segment → ℕ
size format s = size_as (base_of format) s

abbrev pub fault_as : Base → ℕ → BlockErr
fault_as Fixed at = ShortBlock at
fault_as Variable at = BadDescriptor at
fault_as Undefined at = ShortBlock at

-- the fault where no record or segment begins here
abbrev pub fault : Format → ℕ → BlockErr
fault format at = fault_as (base_of format) at

-- the segments in front of the first fault, and the fault
pub record Reading : Type 0 where
  pub segments : List Segment
  pub fault : Option BlockErr

-- each is a byte
abbrev pub AreBytes : List ℕ → Type 0
AreBytes [] = Unit {0}
AreBytes (b ∷ bs) = (b < 256) × AreBytes bs

-- these segments and no fault
abbrev pub complete_reading : List Segment → Reading
complete_reading segments = record { segments = segments; fault = None }

-- these segments in front of a fault
abbrev pub broken_reading : List Segment → BlockErr → Reading
broken_reading segments e = record { segments = segments; fault = Some e }

abbrev pub empty_reading : Reading
empty_reading = record { segments = []; fault = None }

abbrev pub failed_reading : BlockErr → Reading
failed_reading e = record { segments = []; fault = Some e }

abbrev pub with_segment : Segment → Reading → Reading
with_segment s reading = record { segments = s ∷ reading.segments; fault = reading.fault }

abbrev pub read_on : BlockErr → (Segment → Reading) → Option Segment → Reading
read_on e next None = failed_reading e
read_on e next (Some s) = with_segment s (next s)

-- whether no other record or segment may begin
abbrev pub is_full : Format → Bool → Bool
is_full format begun = begun && not (is_blocked format)

-- what is read of these bytes of a block, the first of which are passed over; whether a segment was read before them
unfoldable pub read_from : Format → Bool → ℕ → ℕ → List ℕ → Reading
read_from format begun at passed [] = if begun then empty_reading else read_on (fault format at) (λ s. empty_reading) (first format [])
read_from format begun at zero (b ∷ bs) =
    if is_full format begun then failed_reading (fault format at)
    else read_on (fault format at) (λ s. read_from format true (at + 1) (size format s - 1) bs) (first format (b ∷ bs))
read_from format begun at (suc passed) (b ∷ bs) = read_from format begun (at + 1) passed bs

abbrev pub spans : List ℕ → Option Segment → Bool
spans block None = false
spans block (Some whole) = length whole.bytes + 4 == length block

abbrev pub has_block_descriptor_as : Base → List ℕ → Bool
has_block_descriptor_as Fixed block = true
has_block_descriptor_as Variable block = spans block (first_described 0 block)
has_block_descriptor_as Undefined block = true

-- with V, a block begins with its own descriptor, which has the block's length and two zero bytes
abbrev pub has_block_descriptor : Format → List ℕ → Bool
has_block_descriptor format block = has_block_descriptor_as (base_of format) block

abbrev pub start_as : Base → ℕ
start_as Fixed = 0
start_as Variable = 4
start_as Undefined = 0

-- where the first record or segment begins
abbrev pub start : Format → ℕ
start format = start_as (base_of format)

-- what is read from this place of a block on
unfoldable pub reading_at : Format → List ℕ → Bool → ℕ → Reading
reading_at format block begun at = if has_block_descriptor format block then read_from format begun at 0 (drop at block) else failed_reading (BadDescriptor 0)

-- the segments of a block in front of the first fault, and the fault
abbrev pub reading : Format → List ℕ → Reading
reading format block = reading_at format block false (start format)

abbrev pub piece_or : BlockErr → Option Segment → Result (Option Segment) BlockErr
piece_or e None = Err e
piece_or e (Some s) = Ok (Some s)

-- the next record or segment where these bytes stand, none at the end, or the fault
abbrev pub next_at : Format → Bool → ℕ → List ℕ → Result (Option Segment) BlockErr
next_at format begun at rest =
    if begun && (length rest == 0) then Ok None
    else (if is_full format begun then Err (fault format at)
    else piece_or (fault format at) (first format rest))

abbrev pub next_in : Format → List ℕ → Bool → ℕ → Result (Option Segment) BlockErr
next_in format block begun at = if has_block_descriptor format block then next_at format begun at (drop at block) else Err (BadDescriptor 0)

-- the next record or segment and what is read after it
abbrev pub go_on : (Segment → Reading) → Result (Option Segment) BlockErr → Reading
go_on behind (Ok (Some s)) = with_segment s (behind s)
go_on behind (Ok None) = empty_reading
go_on behind (Err e) = failed_reading e

-- one more segment would be a second one in a block that has one
abbrev pub IsSecond : Format → List Segment → Type 0
IsSecond format [] = ⊥
IsSecond format (s ∷ ss) = is_blocked format ≡ false

-- after the segments that stand from this place on is the fault, where no segment stands that may follow
pub record Breaks (format : Format) (at : ℕ) (rest : List ℕ) (segments : List Segment) (e : BlockErr) : Type 0 where
  pub behind : List ℕ
  pub front : rest ≡ body_of (base_of format) segments ++ behind
  pub lawful : AllByRecursion (IsLawfulAs (base_of format) format) segments
  pub stuck : (s : Segment) (others : List ℕ) → IsLawfulAs (base_of format) format s → behind ≡ segment_bytes (base_of format) s ++ others → IsSecond format segments
  pub place : e ≡ fault format (at + length (body_of (base_of format) segments))

-- with V: the block isn't a descriptor of its own length and what stands after it
pub record HasNoDescriptor (format : Format) (block : List ℕ) : Type 0 where
  pub variable : base_of format ≡ Variable
  pub none : (body : List ℕ) → block ≡ described_bytes (whole_segment body) → ⊥

-- the segments of a block in front of its fault, and the fault
pub record IsBroken (format : Format) (block : List ℕ) (segments : List Segment) (e : BlockErr) : Type 0 where
  pub cause : (HasNoDescriptor format block × (segments ≡ []) × (e ≡ BadDescriptor 0)) ⊎ Breaks format (start format) (drop (start format) block) segments e
