use Rattle.std.proofs.Common.{ap, sym, ◌∙◌, ◌++◌, map, take, vec_items}
use Rattle.chain_spec.specs.Kept.{joined, kept}
use Rattle.sorted_chain.proofs.Walks.{joined_more}
use Rattle.sorted_chain.proofs.keeping.kept.Goals as goal

pub loop-block-preserved : goal.loop-block-preserved
loop-block-preserved g c =
    let i = c.loop-block.block-index in
    let so_far = joined (map vec_items (take i c.args.blocks.now)) in
    c.in_ok-keep.ensures so_far c.loop-block.invariant ∙ ap (kept g.E.ChainEntry.name) (ap (λ es. so_far ++ es) c.deref.ensures.value ∙ sym (joined_more c.args.blocks.now i c.block-item.result c.loop-block-test.true c.block-item.is))
