-- The parts of the label stand after one another.
use Rattle.std.proofs.Common.{arith}
use Rattle.pack_spec.proofs.WrittenTracks.{label_laid}
use Rattle.pack_spec.proofs.written.label_data.Goals as goal

pub returns : goal.returns
returns c =
    label_laid c.copy_from_slice.new.self c.copy_from_slice-2.new.self c.copy_from_slice-3.new.self c.to_be_bytes.result c.to_be_bytes-2.result c.args.serial.now.bytes c.args.vtoc
    c.copy_from_slice.ensures.after c.copy_from_slice-2.ensures.after (omega arith) c.to_be_bytes.ensures c.to_be_bytes-2.ensures c.copy_from_slice-3.ensures.after
