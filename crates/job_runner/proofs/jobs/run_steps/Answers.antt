use Rattle.std.proofs.Common.{arith, rules}
use Rattle.job_runner.proofs.JobLemmas.{steps_end, steps_further, steps_last, steps_stop}
use Rattle.job_runner.proofs.jobs.run_steps.Goals as goal

pub returns-in-None-clause-works : goal.returns-in-None-clause-works
returns-in-None-clause-works g c = record {
  works = λ told. steps_end c.args.date.now c.loop-parts.rest.now (c.loop-parts.invariant.so_far told) c.in-None.ensures.cases;
  promise = search rules;
  faults = search rules;
}

pub returns-in_err-end-clause-works : goal.returns-in_err-end-clause-works
returns-in_err-end-clause-works g c = record {
  works = λ told. steps_stop c.args.date.now c.loop-parts.rest.now (c.loop-parts.invariant.so_far told) c.in-Some.parts.0.now c.in-Some.parts.1.now c.in-Some.ensures.cases.0 c.from_residual.result c.from_residual.ensures.0 (c.run_step.ensures.step.works told);
  promise = search rules;
  faults = search rules;
}

pub returns-then-end-clause-works : goal.returns-then-end-clause-works
returns-then-end-clause-works g c = record {
  works = λ told. steps_last c.args.date.now c.loop-parts.rest.now (c.loop-parts.invariant.so_far told) c.in-Some.parts.0.now c.in-Some.parts.1.now c.in-Some.ensures.cases.0 c.in_ok-end.end c.both-ran.result (c.in_ok-end.ensures.step.works told) c.if-end.true c.both-ran.ensures.code c.both-ran.ensures.steps;
  promise = search rules;
  faults = search rules;
}

pub loop-parts-preserved : goal.loop-parts-preserved
loop-parts-preserved g c =
    record {
      so_far = λ told. steps_further c.args.date.now c.loop-parts.rest.now (c.loop-parts.invariant.so_far told) c.in-Some.parts.0.now c.in-Some.parts.1.now c.in-Some.ensures.cases.0 c.in_ok-end.end c.both-ran.result (c.in_ok-end.ensures.step.works told) c.if-end.false c.both-ran.ensures.code c.both-ran.ensures.steps;
      later = λ told. omega (arith, c.loop-parts.invariant.later told, (c.run_step.ensures.step.works told).does.runs.moments.later);
      promise = λ told t known early kept. c.run_step.ensures.step.promise told t known (omega (arith, early, c.loop-parts.invariant.later told)) (c.loop-parts.invariant.promise told t known early kept);
      small = search (rules, arith);
      call = search rules;
    }
