use Rattle.std.proofs.Common.{◌+◌, ◌-◌, ◌<◌, length, ◌∙◌, arith}
use Rattle.seq_access.proofs.HeldRecords.{data_short, key_short, length-put, lengths_more, part_of}
use Rattle.seq_access.proofs.held.lengths_of.Goals as goal

pub overflow_cast-lengths : goal.overflow_cast-lengths
overflow_cast-lengths c = omega (arith, key_short c.args.buf.now.records (c.loop-index.index + 1 - 1) c.key.result.now c.requires.blocks c.key.ensures)

pub overflow_cast-lengths-in-loop-index : goal.overflow_cast-lengths-in-loop-index
overflow_cast-lengths-in-loop-index c = omega (arith, data_short c.args.buf.now.records (c.loop-index.index + 1 - 1) c.data.result.now c.requires.blocks c.data.ensures)

pub loop-index-preserved : goal.loop-index-preserved
loop-index-preserved c =
    let xs = c.args.buf.now.records in
    let part = part_of xs (c.loop-index.index + 1 - 1) c.loop-index.index c.key.result.now c.data.result.now (omega arith) c.requires.blocks c.key.ensures c.data.ensures in
    let low : c.loop-index.index < length c.loop-index.lengths = omega (arith, c.loop-index.invariant.0, c.loop-index-test.true, c.len-index-end.ensures, c.requires.few) in (
      length-put c.loop-index.lengths c.loop-index.index (length c.key.result.now, length c.data.result.now) ∙ c.loop-index.invariant.0,
      lengths_more xs c.loop-index.lengths c.loop-index.index c.key.result.now c.data.result.now part low c.loop-index.invariant.1,
    )
