use Rattle.std.proofs.Common.{Ok}
use Rattle.std.specs.Prelude.{Some}
use Rattle.vol_model.specs.declared.contents.Shelf.{Shelf}
use Rattle.vol_model.specs.Did.{answered}
use Rattle.util_steps.proofs.Taking.{ready_after}
use Rattle.iebcopy_util.specs.Copying.{entered}
use Rattle.iebcopy_util.proofs.CopyLemmas.{entered_closed}
use Rattle.iebcopy_util.proofs.WholeLemmas.{whole_ends, whole_none, whole_stops, whole_then}
use Rattle.iebcopy_util.proofs.copying.finish.Goals as goal

pub returns-in_err-enter_copy : goal.returns-in_err-enter_copy
returns-in_err-enter_copy g c =
    whole_stops g.M.Machine (λ (s : Shelf). entered s c.args.out.now c.args.task.now c.args.copy) (λ x u. answered (Ok (Some c.args.copy))) c.from_residual.result c.from_residual.ensures (rw c.in_err-enter_copy.was at c.enter_copy.ensures)

pub returns-in-Ok : goal.returns-in-Ok
returns-in-Ok g c =
    let takes = (rw c.in-Ok.is at c.in_ok-enter_copy.ensures).takes in
    whole_then g.M.Machine (λ (s : Shelf). entered s c.args.out.now c.args.task.now c.args.copy) (λ x u. answered (Ok (Some c.args.copy))) (λ told. entered_closed _ c.args.out.now c.args.task.now c.args.copy) takes (whole_none g.M.Machine (Ok (Some c.args.copy)) (ready_after g.M.Machine takes.faults))

pub returns-in-Err : goal.returns-in-Err
returns-in-Err g c =
    whole_ends g.M.Machine (λ (s : Shelf). entered s c.args.out.now c.args.task.now c.args.copy) (λ x u. answered (Ok (Some c.args.copy))) (rw c.in-Err.is at c.in_ok-enter_copy.ensures).takes
