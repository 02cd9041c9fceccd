-- What a reader still gives stays where what can be read does.
use Rattle.std.specs.Prelude.{◌≡◌, ℕ, List, Result, refl}
use Rattle.std.proofs.Common.{ap}
use Rattle.vol_model.specs.declared.contents.Block.{Block}
use Rattle.vol_model.specs.declared.contents.Shelf.{Shelf}
use Rattle.record_files.specs.declared.block_records.BlockRecords.{BlockRecords}
use Rattle.record_files.specs.declared.reader.RecordReader.{RecordReader}
use Rattle.record_files.specs.declared.reader.RecordReader.TheVariants as readers
use Rattle.record_files.specs.Joined.{records_left, then_blocks}
use Rattle.record_files.specs.Reader.{behind_block, block_stream, in_block, reader_stream}
use Rattle.record_files.specs.Sources.{KeepsSets}

pub block_stays : (r : BlockRecords) (s u : Shelf) → KeepsSets s u → block_stream r u ≡ block_stream r s
unfolding block_stream
block_stays r s u kept = ap (λ (x : Result (List Block) ℕ). records_left r.joiner (then_blocks (in_block r) (behind_block r x))) (kept r.set)

pub reader_stays : (r : RecordReader) (s u : Shelf) → KeepsSets s u → reader_stream r u ≡ reader_stream r s
reader_stays (readers.Cards r) s u kept = refl
reader_stays (readers.Blocks r) s u kept = block_stays r s u kept
