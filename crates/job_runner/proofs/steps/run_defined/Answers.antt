use Rattle.std.proofs.Common.{◌∙◌, List, rules, subst}
use Rattle.vol_model.specs.Events.{Item}
use Rattle.job_runner.specs.Jobs.{behind_definitions}
use Rattle.job_runner.specs.Parts.{DoesCoded}
use Rattle.job_runner.proofs.JobLemmas.{behind_is, coded_nothing, step_in_is}
use Rattle.job_runner.proofs.PartLemmas.{coded_by}
use Rattle.job_runner.proofs.steps.run_defined.Goals as goal

pub returns-clause-items : goal.returns-clause-items
returns-clause-items g c = record {
  works = λ told d is.
      let m = g.M.Machine.meaning in
      let s = g.M.Machine.status in
      let date = c.args.date.now in
      let step = c.args.step.now in
      subst (λ (items : List Item). DoesCoded g.M.Machine.tells_prints items (m c.args.machine.now) (m c.finish.new.machine) (s c.args.machine.now).done (s c.finish.new.machine).done c.finish.result)
      (behind_is date c.args.program step d c.args.defined.is_refused c.deref.result.now (step_in_is date step d.dds c.args.defined.table c.in_ok-copy.field-0 is.table c.in_ok-copy.ensures) is.is_refused (c.deref.ensures.value ∙ is.deletions) (m c.args.machine.now).state)
      (coded_by g.M.Machine c.finish.ensures told);
  promise = search rules;
  faults = search rules;
}

pub returns-in_err-copy-clause-items : goal.returns-in_err-copy-clause-items
returns-in_err-copy-clause-items g c = record {
  works = λ told d is. coded_nothing (behind_definitions c.args.date.now c.args.program c.args.step.now d (g.M.Machine.meaning c.args.machine.now).state) (g.M.Machine.meaning c.args.machine.now) c.from_residual.result c.from_residual.ensures.0;
  promise = search rules;
  faults = search rules;
}
