use Rattle.std.proofs.Common.{◌≡◌, drop}
use Rattle.job_deck.specs.Jobs.{outside}
use Rattle.job_deck.proofs.reading.add_outside.Given as goal

abbrev pub invariant-loop-card : goal.invariant-loop-card
invariant-loop-card l = (l.jobs.items ≡ l.initial.jobs.items) × (outside (drop l.card-index l.cards) ≡ outside l.cards)
