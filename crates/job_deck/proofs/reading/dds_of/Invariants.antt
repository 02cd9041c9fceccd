use Rattle.std.proofs.Common.{◌≡◌, [], drop}
use Rattle.job_deck.specs.Deck.{groups, begins_statement}
use Rattle.job_deck.specs.Jobs.{with_statements}
use Rattle.job_deck.proofs.reading.dds_of.Given as goal

abbrev pub invariant-loop-i : goal.invariant-loop-i
invariant-loop-i l =
    with_statements l.date l.dds (groups begins_statement (drop l.i l.cards))
    ≡ with_statements l.date [] (groups begins_statement l.cards)
