-- The nodes of the ranks so far stand in order.
use Rattle.std.proofs.Common.{◌≡◌, ◌==◌}
use Rattle.std.specs.Prelude.{filter}
use Rattle.std.specs.List.{flat_map, range_with_len}
use Rattle.vol_model.specs.Trees.{Node, stored_rank}
use Rattle.plain_steps.proofs.below.in_stored_order.Given as goal

abbrev pub invariant-loop-k : goal.invariant-loop-k
invariant-loop-k l = l.ordered ≡ flat_map (λ k. filter (λ (x : Node). stored_rank l.in_group l.nodes x == k) l.nodes) (range_with_len 0 l.k)
