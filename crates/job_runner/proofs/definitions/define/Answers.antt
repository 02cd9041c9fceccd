use Rattle.std.proofs.Common.{arith, false, refl, rules, true}
use Rattle.job_runner.specs.DataSets.{definitions}
use Rattle.job_runner.proofs.DefinitionLemmas.{defined_begins, dds_end, dds_further, dds_refused, dds_stop}
use Rattle.job_runner.proofs.definitions.define.Goals as goal

pub returns-in-None : goal.returns-in-None
returns-in-None g c = record {
  works = λ told. dds_end c.args.date.now c.loop-parts.rest.now (c.loop-parts.invariant.so_far told) c.in-None.ensures.cases;
  promise = search rules;
  faults = search rules;
}

pub returns-in_err-given : goal.returns-in_err-given
returns-in_err-given g c = record {
  works = λ told. dds_stop c.args.date.now c.loop-parts.rest.now (c.loop-parts.invariant.so_far told) c.in-Some.parts.0.now c.in-Some.parts.1.now c.in-Some.ensures.cases.0 c.from_residual.result c.from_residual.ensures.0 (c.resolve.ensures.works told);
  promise = search rules;
  faults = search rules;
}

pub loop-parts-init : goal.loop-parts-init
loop-parts-init g c =
    let m = g.M.Machine.meaning in
    record {
      so_far = λ told. defined_begins g.M.Machine.tells_prints (definitions c.args.date.now c.args.dds.now (m c.args.machine.now).state) (record { table = c.new.result; deletions = c.new-2.result; is_refused = false }) (m c.args.machine.now) (g.M.Machine.status c.args.machine.now).done c.new.ensures c.new-2.ensures.items refl;
      later = λ told. omega arith;
      promise = λ told t known early kept. kept;
      call = search rules;
    }

pub loop-parts-preserved : goal.loop-parts-preserved
loop-parts-preserved g c =
    record {
      so_far = λ told. dds_further c.args.date.now c.loop-parts.rest.now (c.loop-parts.invariant.so_far told) c.in-Some.parts.0.now c.in-Some.parts.1.now c.in-Some.ensures.cases.0 c.add.new.self c.in-Some-2.given (rw c.in-Some-2.is at (c.in_ok-given.ensures.works told)) c.in_ok-add-in-Some-2.ensures.table c.in_ok-add-in-Some-2.ensures.deletions c.in_ok-add-in-Some-2.ensures.refused;
      later = λ told. omega (arith, c.loop-parts.invariant.later told, (c.in_ok-given.ensures.works told).does.runs.moments.later);
      promise = λ told t known early kept. c.resolve.ensures.promise told t known (omega (arith, early, c.loop-parts.invariant.later told)) (c.loop-parts.invariant.promise told t known early kept);
      call = search rules;
    }

pub returns-in_err-add-in-Some-2 : goal.returns-in_err-add-in-Some-2
returns-in_err-add-in-Some-2 g c = record {
  works = λ told. dds_stop c.args.date.now c.loop-parts.rest.now (c.loop-parts.invariant.so_far told) c.in-Some.parts.0.now c.in-Some.parts.1.now c.in-Some.ensures.cases.0 c.from_residual-in_err-add-in-Some-2.result c.from_residual-in_err-add-in-Some-2.ensures.0 (c.resolve.ensures.works told);
  promise = search rules;
  faults = search rules;
}

pub returns-in-None-2 : goal.returns-in-None-2
returns-in-None-2 g c = record {
  works = λ told. dds_refused c.args.date.now c.loop-parts.rest.now (c.loop-parts.invariant.so_far told) c.in-Some.parts.0.now c.in-Some.parts.1.now c.in-Some.ensures.cases.0 (record c.loop-parts.defined { is_refused = true }) (rw c.in-None-2.is at (c.in_ok-given.ensures.works told)) refl refl refl;
  promise = search rules;
  faults = search rules;
}
