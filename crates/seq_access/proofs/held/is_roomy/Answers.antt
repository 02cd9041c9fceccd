use Rattle.std.proofs.Common.{arith, sym}
use Rattle.seq_access.proofs.HeldRecords.{offset_most}
use Rattle.seq_access.proofs.held.is_roomy.Goals as goal

pub overflow_add-result : goal.overflow_add-result
overflow_add-result c = omega (arith, offset_most c.args.buf.now.records (sym c.if-are_blocks.ensures), c.requires, c.end_of.ensures)
