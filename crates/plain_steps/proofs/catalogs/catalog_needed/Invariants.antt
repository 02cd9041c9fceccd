-- The blocks of the root, and of the indexes so far.
use Rattle.std.proofs.Common.{◌≡◌, ◌+◌, [], take}
use Rattle.std.specs.Prelude.{sum_by, if◌then◌else◌}
use Rattle.vol_model.specs.Slots.{index_needed}
use Rattle.vol_model.specs.Trees.{Node, has_index, way}
use Rattle.plain_steps.proofs.catalogs.catalog_needed.Given as goal

abbrev pub invariant-loop-node : goal.invariant-loop-node
invariant-loop-node l = l.blocks ≡ index_needed 22 l.nodes (way []) + sum_by (λ (x : Node). if has_index x.1 then index_needed 18 l.nodes x.0 else 0) (take l.node-index l.nodes)
