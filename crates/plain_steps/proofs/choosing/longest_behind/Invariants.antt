-- The longest of those so far and of the others is that of all.
use Rattle.std.proofs.Common.{◌≡◌, drop}
use Rattle.std.specs.Prelude.{None}
use Rattle.vol_model.specs.Space.{left_after, longest_from}
use Rattle.plain_steps.proofs.choosing.longest_behind.Given as goal

abbrev pub invariant-loop-run : goal.invariant-loop-run
invariant-loop-run l = longest_from l.best (left_after l.last (drop l.run-index l.runs)) ≡ longest_from None (left_after l.last l.runs)
