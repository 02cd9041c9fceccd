use Rattle.std.proofs.Common.{arith}
use Rattle.sorted_chain.proofs.Walks.{total_more}
use Rattle.sorted_chain.proofs.planning.size_of.Goals as goal

pub loop-entry-preserved : goal.loop-entry-preserved
loop-entry-preserved g c =
    let more = total_more g.E.ChainEntry.bytes c.args.entries.now c.loop-entry.entry-index c.entry-item.result c.loop-entry-test.true c.entry-item.is in
    let law = g.met.E.ChainEntry.sizes c.entry-item.result in
    (omega (arith, more, c.loop-entry.invariant.0, c.size.ensures, c.from-sum.ensures), omega (arith, law, c.loop-entry.invariant.1, c.size.ensures, c.from-sum.ensures))
