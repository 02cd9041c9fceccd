-- After the first stand the items so far that pass.
use Rattle.std.proofs.Common.{◌≡◌, ◌++◌, take}
use Rattle.std.specs.Prelude.{filter}
use Rattle.plain_steps.proofs.lists.where_passed.Given as goal

abbrev pub invariant-loop-item : goal.invariant-loop-item
invariant-loop-item g l = l.before ≡ l.fn.before ++ filter (g.P.Test.passes l.test) (take l.item-index l.items)
