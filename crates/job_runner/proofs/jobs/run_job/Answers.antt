use Rattle.std.proofs.Common.{rules}
use Rattle.job_runner.proofs.JobLemmas.{job_done, job_stopped, job_uncoded, job_unsaid}
use Rattle.job_runner.proofs.jobs.run_job.Goals as goal

pub returns-in_err-say_job-clause-works : goal.returns-in_err-say_job-clause-works
returns-in_err-say_job-clause-works g c = record {
  works = λ told. job_unsaid c.args.date.now c.args.job.now c.from_residual.result c.from_residual.ensures.0 (c.say_job.ensures.item told);
  promise = search rules;
  faults = search rules;
}

pub returns-in_err-ran-clause-works : goal.returns-in_err-ran-clause-works
returns-in_err-ran-clause-works g c = record {
  works = λ told. job_stopped c.args.date.now c.args.job.now (c.in_ok-say_job.ensures.item told) c.from_residual-in_err-ran.result c.from_residual-in_err-ran.ensures.0 (c.run_body.ensures.works.works told);
  promise = search rules;
  faults = search rules;
}

pub returns-in_err-say_code-clause-works : goal.returns-in_err-say_code-clause-works
returns-in_err-say_code-clause-works g c = record {
  works = λ told. job_uncoded c.args.date.now c.args.job.now (c.in_ok-say_job.ensures.item told) c.in_ok-ran.ran (c.in_ok-ran.ensures.works.works told) c.from_residual-in_err-say_code.result c.from_residual-in_err-say_code.ensures.0 (c.say_code.ensures.item told);
  promise = search rules;
  faults = search rules;
}

pub returns-clause-works : goal.returns-clause-works
returns-clause-works g c = record {
  works = λ told. job_done c.args.date.now c.args.job.now (c.in_ok-say_job.ensures.item told) c.in_ok-ran.ran (c.in_ok-ran.ensures.works.works told) (c.in_ok-say_code.ensures.item told);
  promise = search rules;
  faults = search rules;
}
