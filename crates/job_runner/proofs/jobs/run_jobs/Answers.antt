use Rattle.std.proofs.Common.{arith, rules}
use Rattle.job_runner.proofs.JobLemmas.{jobs_end, jobs_further, jobs_stop}
use Rattle.job_runner.proofs.jobs.run_jobs.Goals as goal

pub returns-in-None-clause-works : goal.returns-in-None-clause-works
returns-in-None-clause-works g c told = jobs_end c.args.date c.loop-parts.rest.now (c.loop-parts.invariant.so_far told) c.in-None.ensures.cases

pub returns-in_err-one-clause-works : goal.returns-in_err-one-clause-works
returns-in_err-one-clause-works g c told =
    jobs_stop c.args.date c.loop-parts.rest.now (c.loop-parts.invariant.so_far told) c.in-Some.parts.0.now c.in-Some.parts.1.now c.in-Some.ensures.cases.0 c.from_residual.result c.from_residual.ensures.0 (c.run_job.ensures.works.works told)

pub loop-parts-preserved : goal.loop-parts-preserved
loop-parts-preserved g c =
    record {
      so_far = λ told. jobs_further c.args.date c.loop-parts.rest.now (c.loop-parts.invariant.so_far told) c.in-Some.parts.0.now c.in-Some.parts.1.now c.in-Some.ensures.cases.0 c.in_ok-one.one c.both-ran.result (c.in_ok-one.ensures.works.works told) c.both-ran.ensures.code c.both-ran.ensures.steps;
      later = λ told. omega (arith, c.loop-parts.invariant.later told, (c.run_job.ensures.works.works told).does.runs.moments.later);
      promise = λ told t known early kept. c.run_job.ensures.works.promise told t known (omega (arith, early, c.loop-parts.invariant.later told)) (c.loop-parts.invariant.promise told t known early kept);
      small = search (rules, arith);
      call = search rules;
    }
