use Rattle.std.specs.Prelude.{Ok, Err}
use Rattle.vol_model.specs.declared.contents.Shelf.{Shelf}
use Rattle.vol_model.specs.Writing.{did_apply}
use Rattle.util_steps.specs.Copying.{refusing}
use Rattle.util_steps.proofs.Taking.{takes_because, takes_because_stops}
use Rattle.util_program.specs.Outcomes.{outcome_for}
use Rattle.util_program.proofs.operations.perform.Goals as goal

pub returns-in_err-apply-clause-takes : goal.returns-in_err-apply-clause-takes
returns-in_err-apply-clause-takes g c = takes_because_stops g.M.Machine outcome_for (λ (shelf : Shelf). refusing (did_apply shelf c.args.op.now)) c.from_residual.result c.from_residual.ensures (rw c.in_err-apply.was at c.apply.ensures.takes)

pub returns-in-Ok-clause-takes : goal.returns-in-Ok-clause-takes
returns-in-Ok-clause-takes g c = takes_because g.M.Machine outcome_for (λ (shelf : Shelf). refusing (did_apply shelf c.args.op.now)) (Ok tt) (rw c.in-Ok.is at c.in_ok-apply.ensures.takes)

pub returns-in-Err-clause-takes : goal.returns-in-Err-clause-takes
returns-in-Err-clause-takes g c = rw c.outcome_for.ensures (takes_because g.M.Machine outcome_for (λ (shelf : Shelf). refusing (did_apply shelf c.args.op.now)) (Err c.in-Err.fault) (rw c.in-Err.is at c.in_ok-apply.ensures.takes))
