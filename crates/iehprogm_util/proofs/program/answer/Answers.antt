use Rattle.vol_model.specs.declared.contents.Shelf.{Shelf}
use Rattle.util_program.proofs.Answering.{answered_stops, answered_then}
use Rattle.iehprogm_util.specs.Items.{object_of, operation_word, steps_of}
use Rattle.iehprogm_util.proofs.program.answer.Goals as goal

pub returns-in_err-answer : goal.returns-in_err-answer
returns-in_err-answer g c =
    let request = c.args.request.now in
    answered_stops g.M.Machine c.args.card (operation_word request) (object_of request) (λ (shelf : Shelf). steps_of c.args.date.now shelf request) c.from_residual.result c.from_residual.ensures (rw c.in_err-answer.was at c.do_request.ensures)

pub returns : goal.returns
returns g c =
    let request = c.args.request.now in
    rw (← c.operation.ensures, ← c.object.ensures)
    (answered_then g.M.Machine c.args.card c.operation.result.now c.object.result (λ (shelf : Shelf). steps_of c.args.date.now shelf request) c.in_ok-answer.ensures c.report_steps.ensures.item)
