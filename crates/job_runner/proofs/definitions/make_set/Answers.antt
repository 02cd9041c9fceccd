use Rattle.std.proofs.Common.{subst, rules}
use Rattle.std.specs.Prelude.{Result}
use Rattle.vol_model.specs.declared.refusals.Refusal.{Refusal}
use Rattle.job_runner.specs.declared.new_sets.NewSet.{NewSet}
use Rattle.job_runner.specs.DataSets.{new_set, new_with}
use Rattle.job_runner.specs.Resolving.{Resolves}
use Rattle.job_runner.proofs.definitions.make_set.Goals as goal

pub returns-in-Err : goal.returns-in-Err
unfolding new_set
returns-in-Err g c = record {
  works = λ told.
      let m = g.M.Machine.meaning in
      let s = g.M.Machine.status in
      subst (λ (w : Result NewSet Refusal). Resolves g.M.Machine.tells_prints (new_with c.args.date.now c.args.card c.args.set.now (m c.args.machine.now).state w) (m c.args.machine.now) (m c.refuse.new.machine) (s c.args.machine.now).done (s c.refuse.new.machine).done c.refuse.result)
      (c.in-Err.ensures.wanted told) (c.refuse.ensures.works told);
  promise = search rules;
  faults = search rules;
}
