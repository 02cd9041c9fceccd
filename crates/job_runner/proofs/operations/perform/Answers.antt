use Rattle.std.proofs.Common.{refl, rules}
use Rattle.std.specs.Prelude.{Err}
use Rattle.vol_model.specs.declared.answers.Stop.TheVariants.{Memory, Device}
use Rattle.vol_model.proofs.Working.{applies_failed, applies_ok, applies_refused}
use Rattle.job_runner.proofs.operations.perform.Goals as goal

pub returns-in-Ok : goal.returns-in-Ok
returns-in-Ok g c = record {
  works = λ told. applies_ok g.M.Machine.tells_prints (c.in-Ok.ensures.shelf told) c.in-Ok.ensures.count;
  promise = search rules;
  faults = search rules;
}

pub returns-in-Err-Refused : goal.returns-in-Err-Refused
returns-in-Err-Refused g c = record {
  works = λ told. applies_refused g.M.Machine.tells_prints (rw c.in-Err-Refused.field-0-is at (c.in-Err-Refused.ensures.shelf told)) (rw c.in-Err-Refused.field-0-is at c.in-Err-Refused.ensures.count);
  promise = search rules;
  faults = search rules;
}

pub returns-in-Err-Memory : goal.returns-in-Err-Memory
returns-in-Err-Memory g c = record {
  works = λ told. applies_failed g.M.Machine.tells_prints (Err Memory) refl (c.apply.ensures.shelf told);
  promise = search rules;
  faults = search rules;
}

pub returns-in-Err-Device : goal.returns-in-Err-Device
returns-in-Err-Device g c = record {
  works = λ told. applies_failed g.M.Machine.tells_prints (Err Device) refl (c.apply.ensures.shelf told);
  promise = search rules;
  faults = search rules;
}
