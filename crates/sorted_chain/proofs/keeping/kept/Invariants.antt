use Rattle.std.proofs.Common.{◌≡◌, map, take, vec_items}
use Rattle.chain_spec.specs.Kept.{joined, kept}
use Rattle.sorted_chain.proofs.keeping.kept.Given as goal

abbrev pub invariant-loop-block : goal.invariant-loop-block
invariant-loop-block g l = vec_items l.entries ≡ kept g.E.ChainEntry.name (joined (map vec_items (take l.block-index l.blocks)))
