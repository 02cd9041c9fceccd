use Rattle.std.proofs.Common.{rules}
use Rattle.job_runner.proofs.JobLemmas.{step_done, step_stopped, step_uncoded, step_unsaid}
use Rattle.job_runner.proofs.steps.run_step.Goals as goal

pub returns-in_err-say_step-clause-step : goal.returns-in_err-say_step-clause-step
returns-in_err-say_step-clause-step g c = record {
  works = λ told. step_unsaid c.args.date.now c.args.step.now c.from_residual.result c.from_residual.ensures.0 (c.say_step.ensures.item told);
  promise = search rules;
  faults = search rules;
}

pub returns-in_err-end-clause-step : goal.returns-in_err-end-clause-step
returns-in_err-end-clause-step g c = record {
  works = λ told. step_stopped c.args.date.now c.args.step.now (c.in_ok-say_step.ensures.item told) c.from_residual-in_err-end.result c.from_residual-in_err-end.ensures.0 (c.run_body.ensures.step.works told);
  promise = search rules;
  faults = search rules;
}

pub returns-in_err-say_code-clause-step : goal.returns-in_err-say_code-clause-step
returns-in_err-say_code-clause-step g c = record {
  works = λ told. step_uncoded c.args.date.now c.args.step.now (c.in_ok-say_step.ensures.item told) c.in_ok-end.end (c.in_ok-end.ensures.step.works told) c.from_residual-in_err-say_code.result c.from_residual-in_err-say_code.ensures.0 (c.say_code.ensures.item told);
  promise = search rules;
  faults = search rules;
}

pub returns-clause-step : goal.returns-clause-step
returns-clause-step g c = record {
  works = λ told. step_done c.args.date.now c.args.step.now (c.in_ok-say_step.ensures.item told) c.in_ok-end.end (c.in_ok-end.ensures.step.works told) (c.in_ok-say_code.ensures.item told);
  promise = search rules;
  faults = search rules;
}
