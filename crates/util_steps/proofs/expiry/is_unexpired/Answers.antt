use Rattle.std.proofs.Common.{rules, ◌∙◌}
use Rattle.vol_model.specs.Writing.{set_on}
use Rattle.util_steps.proofs.ExpiryLemmas.{unexpired_by}
use Rattle.util_steps.proofs.expiry.is_unexpired.Goals as goal

pub returns-in-Ok-Some : goal.returns-in-Ok-Some
returns-in-Ok-Some g c = record {
  value = λ told.
      c.is_before.ensures
      ∙ unexpired_by c.args.date.now (set_on (g.M.Machine.meaning c.args.machine.now).state c.args.v c.args.dsn.now.bytes) c.in-Ok-Some.info (rw c.in-Ok-Some.field-0-is at (c.in-Ok-Some.ensures.value told));
  same = search rules;
  count = search rules;
  promise = search rules;
  faults = search rules;
}
