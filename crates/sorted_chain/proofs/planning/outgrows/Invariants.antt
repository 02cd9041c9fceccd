use Rattle.std.proofs.Common.{◌≡◌, ◌-◌, take, map, vec_items}
use Rattle.chain_spec.specs.Cut.{total}
use Rattle.chain_spec.specs.Kept.{joined}
use Rattle.sorted_chain.proofs.planning.outgrows.Given as goal

abbrev pub invariant-loop-block : goal.invariant-loop-block
invariant-loop-block g l = l.more ≡ total g.E.ChainEntry.bytes l.new - total g.E.ChainEntry.bytes (joined (map vec_items (take l.block-index l.old)))
