-- After the first stand the copies so far.
use Rattle.std.proofs.Common.{◌≡◌, ◌++◌, take}
use Rattle.plain_steps.proofs.lists.with_copies.Given as goal

abbrev pub invariant-loop-item : goal.invariant-loop-item
invariant-loop-item g l = l.before ≡ l.fn.before ++ take l.item-index l.items
