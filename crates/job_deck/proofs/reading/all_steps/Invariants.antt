use Rattle.std.proofs.Common.{◌≡◌, drop, map}
use Rattle.job_deck.specs.Deck.{groups, begins_step}
use Rattle.job_deck.specs.Jobs.{step_of, all_steps}
use Rattle.job_deck.proofs.Steps.{with_steps}
use Rattle.job_deck.proofs.reading.all_steps.Given as goal

abbrev pub invariant-loop-i : goal.invariant-loop-i
invariant-loop-i l =
    with_steps l.date l.steps (groups begins_step (drop l.i l.cards))
    ≡ all_steps (map (λ s. step_of l.date s.0 s.1) (groups begins_step l.cards))
