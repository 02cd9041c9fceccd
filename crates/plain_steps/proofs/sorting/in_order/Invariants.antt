-- The data sets of the ranks so far stand in order.
use Rattle.std.proofs.Common.{◌≡◌, ◌==◌, take}
use Rattle.std.specs.Prelude.{filter}
use Rattle.std.specs.List.{flat_map, range_with_len}
use Rattle.vol_model.specs.Order.{rank}
use Rattle.plain_steps.proofs.sorting.in_order.Given as goal

abbrev pub invariant-loop-k : goal.invariant-loop-k
invariant-loop-k l = l.ordered ≡ flat_map (λ k. filter (λ x. rank l.sets x == k) l.sets) (range_with_len 0 l.k)
