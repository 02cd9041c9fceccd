use Rattle.std.proofs.Common.{arith}
use Rattle.sorted_chain.proofs.Walks.{total_more}
use Rattle.sorted_chain.proofs.planning.less.Goals as goal

pub loop-entry-preserved : goal.loop-entry-preserved
loop-entry-preserved g c =
    let more = total_more g.E.ChainEntry.bytes c.args.entries.now c.loop-entry.entry-index c.entry-item.result c.loop-entry-test.true c.entry-item.is in
    omega (arith, more, c.loop-entry.invariant, c.size.ensures, c.from.ensures, c.saturating_sub-left.ensures)
