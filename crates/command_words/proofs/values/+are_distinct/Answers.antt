use Rattle.command_words.proofs.WordLemmas.{distinct_first, repeated_first}
use Rattle.command_words.proofs.values.+are_distinct.Goals as goal

pub returns-then-not-is_among : goal.returns-then-not-is_among
returns-then-not-is_among t c =
    rw c.if-not-is_among.true at (distinct_first c.args.words.now c.in-Some.word.now c.in-Some.others.now c.is_among.result c.are_distinct.result c.in-Some.ensures.cases.0 c.is_among.ensures c.are_distinct.ensures)

pub returns-else-not-is_among : goal.returns-else-not-is_among
returns-else-not-is_among t c = repeated_first c.args.words.now c.in-Some.word.now c.in-Some.others.now c.is_among.result c.in-Some.ensures.cases.0 c.is_among.ensures c.if-not-is_among.false
