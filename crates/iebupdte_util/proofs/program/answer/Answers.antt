use Rattle.util_program.proofs.Answering.{answered_stops, answered_then}
use Rattle.iebupdte_util.specs.Items.{function_item, object_for, updated, verb_word}
use Rattle.iebupdte_util.proofs.program.answer.Goals as goal

pub returns-in_err-answer : goal.returns-in_err-answer
unfolding function_item
returns-in_err-answer g c =
    let f = c.args.function.now in
    let sets = c.args.sets.now in
    answered_stops g.M.Machine f.card (verb_word f.heading.verb) (object_for sets.out.to f.heading.name) (λ shelf. updated shelf sets f) c.from_residual.result c.from_residual.ensures (rw c.in_err-answer.was at c.update.ensures)

pub returns : goal.returns
unfolding function_item
returns g c =
    let f = c.args.function.now in
    let sets = c.args.sets.now in
    answered_then g.M.Machine f.card (verb_word f.heading.verb) (object_for sets.out.to f.heading.name) (λ shelf. updated shelf sets f) c.in_ok-answer.ensures (rw (c.object_for-object.ensures, c.verb_word-word.ensures) at c.report_steps.ensures.item)
