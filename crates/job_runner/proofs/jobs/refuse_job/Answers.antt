use Rattle.std.proofs.Common.{refl, rules}
use Rattle.job_runner.proofs.JobLemmas.{work_broken, work_single}
use Rattle.job_runner.proofs.PartLemmas.{does_one}
use Rattle.job_runner.proofs.jobs.refuse_job.Goals as goal

pub returns-in_err-code-clause-works : goal.returns-in_err-code-clause-works
returns-in_err-code-clause-works g c = record {
  works = λ told. work_broken c.from_residual.result c.from_residual.ensures.0 (does_one c.say_fault.result (c.say_fault.ensures.item told));
  promise = search rules;
  faults = search rules;
}

pub returns-clause-works : goal.returns-clause-works
returns-clause-works g c = record {
  works = λ told. work_single (record { code = c.in_ok-code.code; steps = 0 }) (c.in_ok-code.ensures.item told) refl;
  promise = search rules;
  faults = search rules;
}
