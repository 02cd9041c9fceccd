use Rattle.std.proofs.Common.{rules}
use Rattle.vol_model.specs.Writing.{did_apply}
use Rattle.job_runner.proofs.OperationLemmas.{operation_done, operation_stopped, operation_unsaid}
use Rattle.job_runner.proofs.operations.operate.Goals as goal

pub returns-in_err-done-clause-item : goal.returns-in_err-done-clause-item
returns-in_err-done-clause-item g c = record {
  works = λ told.
      let subject = c.args.subject.now in
      operation_stopped subject.card c.args.word.now subject.dsn c.args.refused (did_apply (g.M.Machine.meaning c.args.machine.now).state c.args.op.now) c.from_residual.result c.from_residual.ensures.0 (c.perform.ensures.works told);
  promise = search rules;
  faults = search rules;
}

pub returns-in_err-answer-clause-item : goal.returns-in_err-answer-clause-item
returns-in_err-answer-clause-item g c = record {
  works = λ told.
      let subject = c.args.subject.now in
      operation_unsaid subject.card c.args.word.now subject.dsn c.args.refused (did_apply (g.M.Machine.meaning c.args.machine.now).state c.args.op.now) c.from_residual-in_err-answer.result c.from_residual-in_err-answer.ensures.0 (c.in_ok-done.ensures.works told) (c.answer.ensures.item told);
  promise = search rules;
  faults = search rules;
}

pub returns-clause-item : goal.returns-clause-item
returns-clause-item g c = record {
  works = λ told.
      let subject = c.args.subject.now in
      operation_done subject.card c.args.word.now subject.dsn c.args.refused (did_apply (g.M.Machine.meaning c.args.machine.now).state c.args.op.now) c.in_ok-done.done (c.in_ok-done.ensures.works told) (c.in_ok-answer.ensures.item told);
  promise = search rules;
  faults = search rules;
}
