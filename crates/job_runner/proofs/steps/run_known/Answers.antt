use Rattle.std.proofs.Common.{◌∙◌, ap, subst, Bool, List, rules}
use Rattle.std.specs.Prelude.{Ok, if◌then◌else◌}
use Rattle.job_deck.specs.declared.job.Dd.{Dd}
use Rattle.job_runner.specs.DataSets.{definitions}
use Rattle.job_runner.specs.Resolving.{Defines}
use Rattle.job_runner.proofs.JobLemmas.{known_done, known_undefined, known_unfinished}
use Rattle.job_runner.proofs.steps.run_known.Goals as goal

pub returns-in_err-defined-clause-step : goal.returns-in_err-defined-clause-step
returns-in_err-defined-clause-step g c = record {
  works = λ told.
      let m = g.M.Machine.meaning in
      let s = g.M.Machine.status in
      known_undefined c.args.date.now c.args.program c.args.step.now c.from_residual.result c.from_residual.ensures.0
      (subst (λ (dds : List Dd). Defines g.M.Machine.tells_prints (definitions c.args.date.now dds (m c.args.machine.now).state) (m c.args.machine.now) (m c.define.new.machine) (s c.args.machine.now).done (s c.define.new.machine).done c.define.result) c.as_slice.ensures (c.define.ensures.works told));
  promise = search rules;
  faults = search rules;
}

pub returns-in_err-code-clause-step : goal.returns-in_err-code-clause-step
returns-in_err-code-clause-step g c = record {
  works = λ told.
      let m = g.M.Machine.meaning in
      let s = g.M.Machine.status in
      let d = definitions c.args.date.now c.args.step.now.dds (m c.args.machine.now).state in
      let defines = subst (λ (dds : List Dd). Defines g.M.Machine.tells_prints (definitions c.args.date.now dds (m c.args.machine.now).state) (m c.args.machine.now) (m c.define.new.machine) (s c.args.machine.now).done (s c.define.new.machine).done (Ok c.in_ok-defined.defined)) c.as_slice.ensures (c.in_ok-defined.ensures.works told) in
      known_unfinished c.args.date.now c.args.program c.args.step.now c.from_residual-in_err-code.result c.from_residual-in_err-code.ensures.0 defines (c.run_defined.ensures.items.works told d defines.defined);
  promise = search rules;
  faults = search rules;
}

pub returns-clause-step : goal.returns-clause-step
returns-clause-step g c = record {
  works = λ told.
      let m = g.M.Machine.meaning in
      let s = g.M.Machine.status in
      let d = definitions c.args.date.now c.args.step.now.dds (m c.args.machine.now).state in
      let defines = subst (λ (dds : List Dd). Defines g.M.Machine.tells_prints (definitions c.args.date.now dds (m c.args.machine.now).state) (m c.args.machine.now) (m c.define.new.machine) (s c.args.machine.now).done (s c.define.new.machine).done (Ok c.in_ok-defined.defined)) c.as_slice.ensures (c.in_ok-defined.ensures.works told) in
      known_done c.args.date.now c.args.program c.args.step.now c.in_ok-code.code c.definition_code.result (record { code = c.higher.result; ends_job = c.in_ok-defined.defined.is_refused }) defines (c.in_ok-code.ensures.items.works told d defines.defined)
      (c.definition_code.ensures ∙ ap (λ (b : Bool). if b then 12 else 0) defines.defined.is_refused) c.higher.ensures defines.defined.is_refused;
  promise = search rules;
  faults = search rules;
}
