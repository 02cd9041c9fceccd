use Rattle.std.proofs.Common.{arith, ap, take, map, vec_items}
use Rattle.chain_spec.proofs.CutLemmas.{total-append}
use Rattle.chain_spec.specs.Cut.{total}
use Rattle.chain_spec.specs.Kept.{joined}
use Rattle.sorted_chain.proofs.Walks.{joined_more}
use Rattle.sorted_chain.proofs.planning.outgrows.Goals as goal

pub loop-block-preserved : goal.loop-block-preserved
loop-block-preserved g c =
    let more = ap (total g.E.ChainEntry.bytes) (joined_more c.args.old.now c.loop-block.block-index c.block-item.result c.loop-block-test.true c.block-item.is) in
    omega (arith, more, total-append g.E.ChainEntry.bytes (joined (map vec_items (take c.loop-block.block-index c.args.old.now))) (vec_items c.block-item.result), c.loop-block.invariant, c.less-more.ensures, ap (total g.E.ChainEntry.bytes) c.deref.ensures.value)
