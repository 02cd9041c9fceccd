use Rattle.std.proofs.Common.{rules}
use Rattle.vol_model.specs.declared.answers.Stop.TheVariants.{Memory, Device}
use Rattle.util_steps.proofs.CallLemmas.{apply_failed, apply_ok, apply_refused}
use Rattle.util_steps.proofs.calls.apply.Goals as goal

pub returns-in-Ok-clause-takes : goal.returns-in-Ok-clause-takes
returns-in-Ok-clause-takes g c = record { works = λ told. apply_ok g.M.Machine.tells_prints (c.in-Ok.ensures.shelf told) c.in-Ok.ensures.count; promise = search rules; faults = search rules }

pub returns-in-Err-Refused-clause-takes : goal.returns-in-Err-Refused-clause-takes
returns-in-Err-Refused-clause-takes g c = record { works = λ told. apply_refused g.M.Machine.tells_prints (rw c.in-Err-Refused.field-0-is at (c.in-Err-Refused.ensures.shelf told)) (rw c.in-Err-Refused.field-0-is at c.in-Err-Refused.ensures.count); promise = search rules; faults = search rules }

pub returns-in-Err-Memory-clause-takes : goal.returns-in-Err-Memory-clause-takes
returns-in-Err-Memory-clause-takes g c = record { works = λ told. apply_failed g.M.Machine.tells_prints Memory (c.apply.ensures.shelf told); promise = search rules; faults = search rules }

pub returns-in-Err-Device-clause-takes : goal.returns-in-Err-Device-clause-takes
returns-in-Err-Device-clause-takes g c = record { works = λ told. apply_failed g.M.Machine.tells_prints Device (c.apply.ensures.shelf told); promise = search rules; faults = search rules }
