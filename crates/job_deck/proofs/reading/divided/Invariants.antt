use Rattle.std.proofs.Common.{◌≡◌, ◌++◌, drop}
use Rattle.std.specs.Prelude.{flat_map}
use Rattle.job_deck.specs.Deck.{groups, divides}
use Rattle.job_deck.specs.Jobs.{jobs_behind, divided}
use Rattle.job_deck.proofs.reading.divided.Given as goal

abbrev pub invariant-loop-i : goal.invariant-loop-i
invariant-loop-i l =
    l.jobs.items ++ flat_map (λ part. jobs_behind l.date part.0 part.1) (groups divides (drop l.i l.cards))
    ≡ divided l.date l.cards
