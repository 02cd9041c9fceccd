use Rattle.std.proofs.Common.{◌≡◌, ◌++◌, length, reverse}
use Rattle.catalog_plan.proofs.reading.with_first.Given as goal

abbrev pub invariant-loop-visit : goal.invariant-loop-visit
invariant-loop-visit l = l.fn.below.items ++ reverse l.fn.visits.items ≡ l.below.items ++ reverse l.visits.items

abbrev pub decreases-loop-visit : goal.decreases-loop-visit
decreases-loop-visit l = length l.below.items
