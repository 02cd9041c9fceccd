use Rattle.std.proofs.Common.{◌+◌, ◌-◌, arith}
use Rattle.seq_access.proofs.HeldRecords.{data_short, end_more, key_short, offset_none, part_of}
use Rattle.seq_access.proofs.held.end_of.Goals as goal

pub loop-index-init : goal.loop-index-init
loop-index-init c = (omega (arith, offset_none c.args.buf.now.records), omega arith)

pub overflow_add-at-in-loop-index : goal.overflow_add-at-in-loop-index
overflow_add-at-in-loop-index c =
    let xs = c.args.buf.now.records in
    let n = c.loop-index.index + 1 - 1 in
    omega (arith, key_short xs n c.key.result.now c.requires.blocks c.key.ensures, data_short xs n c.data.result.now c.requires.blocks c.data.ensures)

pub overflow_add-at-in-loop-index-2 : goal.overflow_add-at-in-loop-index-2
overflow_add-at-in-loop-index-2 c =
    let xs = c.args.buf.now.records in
    let n = c.loop-index.index + 1 - 1 in
    omega (arith, key_short xs n c.key.result.now c.requires.blocks c.key.ensures, data_short xs n c.data.result.now c.requires.blocks c.data.ensures)

pub loop-index-preserved : goal.loop-index-preserved
loop-index-preserved c =
    let xs = c.args.buf.now.records in
    let n = c.loop-index.index + 1 - 1 in
    let part = part_of xs n c.loop-index.index c.key.result.now c.data.result.now (omega arith) c.requires.blocks c.key.ensures c.data.ensures in (
      end_more xs c.loop-index.index c.loop-index.at c.key.result.now c.data.result.now part c.loop-index.invariant.0,
      omega (arith, key_short xs n c.key.result.now c.requires.blocks c.key.ensures, data_short xs n c.data.result.now c.requires.blocks c.data.ensures),
    )
