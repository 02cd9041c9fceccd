use Rattle.std.proofs.Common.{◌≡◌, ◌∙◌, ap, subst, rules}
use Rattle.std.specs.Prelude.{Result, Ok}
use Rattle.vol_model.specs.declared.refusals.Refusal.{Refusal}
use Rattle.vol_model.specs.declared.requests.Op.{Op}
use Rattle.vol_model.specs.Writing.{did_apply}
use Rattle.job_runner.specs.DataSets.{if_done, makes, set_given}
use Rattle.job_runner.specs.Resolving.{Resolves}
use Rattle.job_runner.proofs.DefinitionLemmas.{resolve_done, resolve_stopped}
use Rattle.job_runner.proofs.definitions.allocate.Goals as goal

pub returns-in_err-done : goal.returns-in_err-done
returns-in_err-done g c = record {
  works = λ told.
      let m = g.M.Machine.meaning in
      let s = g.M.Machine.status in
      let set = c.args.set.now in
      let given = set_given set c.args.wanted.now.v in
      let shelf = (m c.args.machine.now).state in
      subst (λ (op : Op). Resolves g.M.Machine.tells_prints (makes c.args.card set.dsn (did_apply shelf op) given) (m c.args.machine.now) (m c.operate.new.machine) (s c.args.machine.now).done (s c.operate.new.machine).done c.from_residual.result) c.allocation-op.ensures
      (resolve_stopped (makes c.args.card set.dsn (did_apply shelf c.allocation-op.result) given) c.from_residual.result c.from_residual.ensures.0 (c.operate.ensures.item.works told));
  promise = search rules;
  faults = search rules;
}

pub returns : goal.returns
returns g c = record {
  works = λ told.
      let m = g.M.Machine.meaning in
      let s = g.M.Machine.status in
      let set = c.args.set.now in
      let given = set_given set c.args.wanted.now.v in
      let shelf = (m c.args.machine.now).state in
      let gives : c.if_done.result ≡ if_done (did_apply shelf c.allocation-op.result).answer given =
      c.if_done.ensures ∙ ap (if_done c.in_ok-done.done) c.set_given.ensures ∙ ap (λ (a : Result (Unit {0}) Refusal). if_done a given) (c.in_ok-done.ensures.answer told) in
      subst (λ (op : Op). Resolves g.M.Machine.tells_prints (makes c.args.card set.dsn (did_apply shelf op) given) (m c.args.machine.now) (m c.operate.new.machine) (s c.args.machine.now).done (s c.operate.new.machine).done (Ok c.if_done.result)) c.allocation-op.ensures
      (resolve_done (makes c.args.card set.dsn (did_apply shelf c.allocation-op.result) given) c.if_done.result (c.in_ok-done.ensures.item.works told) gives);
  promise = search rules;
  faults = search rules;
}
