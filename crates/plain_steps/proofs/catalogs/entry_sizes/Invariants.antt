-- The bytes of the control entry and of the entries so far.
use Rattle.std.proofs.Common.{◌≡◌, ◌∷◌, take, map}
use Rattle.vol_model.specs.Trees.{Node, node_size}
use Rattle.plain_steps.proofs.catalogs.entry_sizes.Given as goal

abbrev pub invariant-loop-node : goal.invariant-loop-node
invariant-loop-node l = l.sizes.items ≡ l.control ∷ map (λ (x : Node). node_size x.1) (take l.node-index l.nodes)
