use Rattle.std.proofs.Common.{rules}
use Rattle.vol_model.specs.Writing.{set_on}
use Rattle.iebupdte_util.specs.Items.{set_attr}
use Rattle.iebupdte_util.proofs.UpdateLemmas.{attr_told, attr_untold}
use Rattle.iebupdte_util.proofs.updating.set_attr.Goals as goal

pub returns-in-Some : goal.returns-in-Some
unfolding set_attr
returns-in-Some g c = record {
  value = λ told.
      let s = c.args.set.now in
      attr_told c.in-Some.info (set_on (g.M.Machine.meaning c.args.machine.now).state s.v s.dsn.bytes) (rw c.in-Some.is at (c.in_ok-info.ensures.value told));
  same = search rules;
  count = search rules;
  promise = search rules;
  faults = search rules;
}

pub returns-in-None : goal.returns-in-None
unfolding set_attr
returns-in-None g c = record {
  value = λ told.
      let s = c.args.set.now in
      attr_untold (set_on (g.M.Machine.meaning c.args.machine.now).state s.v s.dsn.bytes) (rw c.in-None.is at (c.in_ok-info.ensures.value told));
  same = search rules;
  count = search rules;
  promise = search rules;
  faults = search rules;
}
