use Rattle.std.proofs.Common.{◌≡◌, ◌+◌, ◌*◌, ℕ, map}
use Rattle.std.specs.Prelude.{slice_range}
use Rattle.std.specs.List.{range_with_len}
use Rattle.catalog_blocks.specs.Trees.{vol_in}
use Rattle.catalog_plan.proofs.entries.vols_in.Given as goal

abbrev pub invariant-loop-k : goal.invariant-loop-k
invariant-loop-k l = l.vols ≡ map (λ (k : ℕ). vol_in (slice_range l.payload (2 + 12 * k) (14 + 12 * k))) (range_with_len 0 l.k)
