use Rattle.std.proofs.Common.{◌≡◌, ◌-◌, take}
use Rattle.chain_spec.specs.Cut.{total}
use Rattle.sorted_chain.proofs.planning.less.Given as goal

abbrev pub invariant-loop-entry : goal.invariant-loop-entry
invariant-loop-entry g l = l.left ≡ l.fn.from - total g.E.ChainEntry.bytes (take l.entry-index l.entries)
