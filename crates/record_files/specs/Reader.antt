-- What a reader of records still gives.
use Rattle.std.specs.Prelude.{◌≡◌, ◌<◌, ℕ, ◌+◌, ◌-◌, ◌*◌, Bool, if◌then◌else◌, List, length, Option, Some, None, Result, Ok, Err}
use Rattle.vol_model.specs.declared.contents.Block.{Block}
use Rattle.vol_model.specs.declared.contents.Place.{Place}
use Rattle.vol_model.specs.declared.contents.Shelf.{Shelf}
use Rattle.vol_model.specs.Reading.{blocks_from, member}
use Rattle.util_steps.specs.Copying.{source}
use Rattle.record_blocks.specs.declared.formats.Format.{Format}
use Rattle.record_blocks.specs.declared.marks.BlockMark.{BlockMark}
use Rattle.record_blocks.specs.declared.pieces.BlockErr.TheVariants.{ShortBlock}
use Rattle.record_blocks.specs.Marks.{reading_behind}
use Rattle.record_blocks.specs.Reading.{Reading, empty_reading, failed_reading}
use Rattle.record_files.specs.declared.block_records.BlockRecords.{BlockRecords}
use Rattle.record_files.specs.declared.reader.RecordReader.{RecordReader}
use Rattle.record_files.specs.declared.reader.RecordReader.TheVariants as readers
use Rattle.record_files.specs.declared.taken.Step.{Step}
use Rattle.record_files.specs.Joined.{GoesOn, StepGives, records_left, then_blocks}
use Rattle.record_files.specs.Reading.{blocks_reading, card_records}
use Rattle.record_files.specs.Streams.{Stream}

-- the blocks from a place on: of a set all, and within a member those in front of its end
abbrev pub blocks_left : Bool → Place → List Block → List Block
blocks_left within place bs = if within then member bs place else blocks_from place bs

-- what is left of a block, if one is read
abbrev pub block_left : Format → List ℕ → Option BlockMark → Reading
block_left format block None = empty_reading
block_left format block (Some mark) = reading_behind format block mark

-- what is left of the block that is read
abbrev pub in_block : BlockRecords → Reading
in_block r = block_left r.format r.buf.payload r.mark

-- what stands after it, where the set has these blocks; where it can't be read that is a fault
abbrev pub behind_block : BlockRecords → Result (List Block) ℕ → Reading
behind_block r (Ok bs) = blocks_reading r.format (blocks_left r.within r.place bs)
behind_block r (Err track) = failed_reading (ShortBlock 0)

-- the records that are left
unfoldable pub block_stream : BlockRecords → Shelf → Stream
block_stream r shelf = records_left r.joiner (then_blocks (in_block r) (behind_block r (source shelf r.set)))

-- how many places are left at most
abbrev pub places_left : Place → ℕ
places_left p = 16777216 - (p.tt * 256 + p.r)

-- how many segments are left at most: a block has 32760 bytes at most, and one segment more at most
unfoldable pub most_left : BlockRecords → ℕ
most_left r = 32762 * places_left r.place + length (in_block r).segments

-- a segment is taken of the block that is read, or none is left of it
abbrev pub HasTaken : Option Step → BlockRecords → BlockRecords → Type 0
HasTaken None old new = (in_block new ≡ empty_reading) × ((shelf : Shelf) → block_stream old shelf ≡ block_stream new shelf) × (most_left new ≡ most_left old)
HasTaken (Some step) old new = ((shelf : Shelf) → StepGives step (block_stream old shelf) new.rec.items (block_stream new shelf)) × (GoesOn step → most_left new < most_left old)

-- the records of cards that are left, or of blocks
abbrev pub reader_stream : RecordReader → Shelf → Stream
reader_stream (readers.Cards r) shelf = card_records r.cards.now
reader_stream (readers.Blocks r) shelf = block_stream r shelf

abbrev pub reader_given : RecordReader → List ℕ
reader_given (readers.Cards r) = r.rec.items
reader_given (readers.Blocks r) = r.rec.items

abbrev pub reader_most : RecordReader → ℕ
reader_most (readers.Cards r) = length r.cards.now
reader_most (readers.Blocks r) = most_left r
