use Rattle.std.proofs.Common.{false, refl, rules}
use Rattle.job_runner.proofs.JobLemmas.{step_broken, step_single}
use Rattle.job_runner.proofs.PartLemmas.{does_one}
use Rattle.job_runner.proofs.steps.refuse_program.Goals as goal

pub returns-in_err-code-clause-step : goal.returns-in_err-code-clause-step
returns-in_err-code-clause-step g c = record {
  works = λ told. step_broken c.from_residual.result c.from_residual.ensures.0 (does_one c.say_no_program.result (c.say_no_program.ensures.item told));
  promise = search rules;
  faults = search rules;
}

pub returns-clause-step : goal.returns-clause-step
returns-clause-step g c = record {
  works = λ told. step_single (record { code = c.in_ok-code.code; ends_job = false }) (c.in_ok-code.ensures.item told) refl;
  promise = search rules;
  faults = search rules;
}
