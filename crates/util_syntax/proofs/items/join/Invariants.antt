use Rattle.std.proofs.Common.{◌≡◌, drop}
use Rattle.util_syntax.specs.Items.{joined}
use Rattle.util_syntax.proofs.items.join.Given as goal

abbrev pub invariant-loop-next : goal.invariant-loop-next
invariant-loop-next l = joined l.field.items l.last (drop l.next-index l.others) ≡ joined l.fn.first l.fn.card l.others
