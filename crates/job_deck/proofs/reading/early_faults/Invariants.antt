use Rattle.std.proofs.Common.{◌≡◌, drop, map}
use Rattle.job_deck.specs.Deck.{groups, begins_statement}
use Rattle.job_deck.specs.Faults.{first_some}
use Rattle.job_deck.specs.Jobs.{early_fault}
use Rattle.job_deck.proofs.reading.early_faults.Given as goal

abbrev pub invariant-loop-i : goal.invariant-loop-i
invariant-loop-i l =
    first_some (map (λ s. early_fault s.0 s.1 s.0.role) (groups begins_statement (drop l.i l.cards)))
    ≡ first_some (map (λ s. early_fault s.0 s.1 s.0.role) (groups begins_statement l.cards))
