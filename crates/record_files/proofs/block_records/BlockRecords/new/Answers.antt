use Rattle.std.proofs.Common.{refl}
use Rattle.record_files.proofs.ReaderLemmas.{begun_stream}
use Rattle.record_files.proofs.block_records.BlockRecords.new.Goals as goal

pub returns : goal.returns
returns c shelf bs is =
    begun_stream _ c.args.from.now c.args.format c.args.start refl refl c.is_some-within.ensures c.first_from-place.ensures.place refl c.in_ok-joiner.ensures shelf bs is
