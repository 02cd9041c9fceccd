-- What is left of a block after a `BlockMark`.
use Rattle.std.specs.Prelude.{◌≡◌, ℕ, List, Option, Some, None, Result, Ok, Err}
use Rattle.record_blocks.specs.declared.formats.Format.{Format}
use Rattle.record_blocks.specs.declared.marks.BlockMark.{BlockMark}
use Rattle.record_blocks.specs.declared.pieces.BlockErr.{BlockErr}
use Rattle.record_blocks.specs.Blocks.{Segment}
use Rattle.record_blocks.specs.Reading.{Reading, empty_reading, failed_reading, with_segment, reading_at}

-- the segments that are still to be read, and the fault after them
abbrev pub reading_behind : Format → List ℕ → BlockMark → Reading
reading_behind format block mark = reading_at format block mark.begun mark.at

-- a call gives the first segment of what is still to be read, and leaves the others; or the end, or the fault, again and again
abbrev pub GivesMarked : {X : Type 0} → (X → Segment) → Result (Option X) BlockErr → Format → List ℕ → BlockMark → BlockMark → Type 0
GivesMarked view (Ok (Some x)) format block old new = reading_behind format block old ≡ with_segment (view x) (reading_behind format block new)
GivesMarked view (Ok None) format block old new = (reading_behind format block old ≡ empty_reading) × (new ≡ old)
GivesMarked view (Err e) format block old new = (reading_behind format block old ≡ failed_reading e) × (new ≡ old)
