use Rattle.std.proofs.Common.{◌≡◌, ◌*◌, ◌≤◌, take}
use Rattle.chain_spec.specs.Cut.{total}
use Rattle.sorted_chain.proofs.planning.size_of.Given as goal

abbrev pub invariant-loop-entry : goal.invariant-loop-entry
invariant-loop-entry g l = (l.sum ≡ total g.E.ChainEntry.bytes (take l.entry-index l.entries)) × (l.sum ≤ 242 * l.entry-index)
