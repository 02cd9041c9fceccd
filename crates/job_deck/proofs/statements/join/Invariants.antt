use Rattle.std.proofs.Common.{◌≡◌, drop}
use Rattle.job_deck.specs.Statements.{joined}
use Rattle.job_deck.proofs.statements.join.Given as goal

abbrev pub invariant-loop-next : goal.invariant-loop-next
invariant-loop-next l = joined l.field.items l.last (drop l.next-index l.others) ≡ joined l.fn.first.items l.fn.card l.others
