-- The records of cards, and of the blocks of a data set.
use Rattle.std.specs.Prelude.{ℕ, Bool, true, false, ◌||◌, if◌then◌else◌, List, [], ◌∷◌, ◌++◌, map, is_some, Option, Some, None, Result, Ok, Err}
use Rattle.card_text.specs.declared.cards.Card.{Card}
use Rattle.vol_model.specs.declared.contents.Block.{Block}
use Rattle.record_blocks.specs.declared.formats.Format.{Format}
use Rattle.record_blocks.specs.declared.joiner.JoinErr.{JoinErr}
use Rattle.record_blocks.specs.declared.pieces.BlockErr.{BlockErr}
use Rattle.record_blocks.specs.Blocks.{Segment}
use Rattle.record_blocks.specs.Joining.{bytes_taken}
use Rattle.record_blocks.specs.Packing.{is_spanned, longest}
use Rattle.record_blocks.specs.Reading.{Reading, empty_reading, reading}
use Rattle.record_blocks.specs.Segments.{ends}
use Rattle.record_files.specs.Streams.{in_ebcdic}
use Rattle.record_files.specs.Streams.{Stream, at_fault, with_record}

-- what is read of a block, and of those after it unless it has a fault
abbrev pub read_then : List Segment → Option BlockErr → Reading → Reading
read_then segments None others = record { segments = segments ++ others.segments; fault = others.fault }
read_then segments (Some e) others = record { segments = segments; fault = Some e }

-- the segments of blocks in front of the first fault, and the fault
abbrev pub blocks_reading : Format → List Block → Reading
blocks_reading format [] = empty_reading
blocks_reading format (b ∷ bs) = let r = reading format b.payload in read_then r.segments r.fault (blocks_reading format bs)

-- a record up to a segment, and the records after it
abbrev pub joined_then : Bool → (Option (List ℕ) → Stream) → Result (List ℕ) JoinErr → Stream
joined_then whole others (Err e) = at_fault
joined_then true others (Ok bytes) = with_record bytes (others None)
joined_then false others (Ok bytes) = others (Some bytes)

-- the records of segments in front of the first fault, and whether there is one: a wrong segment, or an open record at the end
unfoldable pub joined : ℕ → Bool → Option (List ℕ) → List Segment → Stream
joined longest broken start [] = record { records = []; broken = broken || is_some start }
joined longest broken start (s ∷ ss) = joined_then (ends s.code) (λ behind. joined longest broken behind ss) (bytes_taken longest start s)

-- the records of what is read: with VS and VBS they are joined, and else each segment is one
abbrev pub records_read : Format → Reading → Stream
records_read format r =
    if is_spanned format then joined (longest format) (is_some r.fault) None r.segments
    else record { records = map (λ (s : Segment). s.bytes) r.segments; broken = is_some r.fault }

-- the records of a data set
unfoldable pub set_records : Format → List Block → Stream
set_records format bs = records_read format (blocks_reading format bs)

-- the records of cards: 80 bytes each, in EBCDIC
unfoldable pub card_records : List (ℕ × Card) → Stream
card_records cards = record { records = map (λ (c : ℕ × Card). in_ebcdic c.1.bytes) cards; broken = false }
