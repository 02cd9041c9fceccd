-- What a `Deblock` still reads.
use Rattle.std.specs.Prelude.{◌≡◌, ℕ, Option, Some, None, Result, Ok, Err}
use Rattle.record_blocks.specs.declared.pieces.BlockErr.{BlockErr}
use Rattle.record_blocks.specs.declared.deblock.Deblock.{Deblock}
use Rattle.record_blocks.specs.Blocks.{Segment}
use Rattle.record_blocks.specs.Reading.{Reading, empty_reading, failed_reading, with_segment}
use Rattle.record_blocks.specs.Marks.{reading_behind}

-- the segments that it still gives, and the fault after them
abbrev pub remaining_reading : Deblock → Reading
remaining_reading deblock = reading_behind deblock.format deblock.block.now deblock.mark

-- the code of the segment that was given last
abbrev pub code_of : Deblock → ℕ
code_of deblock = deblock.mark.code

-- the same is still to be read, and the code is as before
pub record IsUnchanged (old new : Deblock) : Type 0 where
  pub same : remaining_reading new ≡ remaining_reading old
  pub code : code_of new ≡ code_of old

-- a call gives the first segment of what is still to be read, and leaves the others; or the end, or the fault, again and again
abbrev pub GivesNext : {X : Type 0} → (X → Segment) → Result (Option X) BlockErr → Deblock → Deblock → Type 0
GivesNext view (Ok (Some x)) old new = remaining_reading old ≡ with_segment (view x) (remaining_reading new)
GivesNext view (Ok None) old new = (remaining_reading old ≡ empty_reading) × IsUnchanged old new
GivesNext view (Err e) old new = (remaining_reading old ≡ failed_reading e) × IsUnchanged old new
