use Rattle.std.proofs.Common.{◌≡◌, true, false, Ok, Err}
use Rattle.std.specs.Prelude.{None}
use Rattle.vol_model.specs.declared.contents.Shelf.{Shelf}
use Rattle.vol_model.specs.Did.{answered}
use Rattle.util_steps.proofs.Taking.{ready_after}
use Rattle.util_syntax.specs.declared.listing.Outcome.TheVariants as outcome
use Rattle.iebcopy_util.specs.Copying.{can_move, entered}
use Rattle.iebcopy_util.proofs.CopyLemmas.{again_bad, again_moved, can_as, entered_closed}
use Rattle.iebcopy_util.proofs.StepItems.{not_false, not_true}
use Rattle.iebcopy_util.proofs.WholeLemmas.{whole_as, whole_ends, whole_none, whole_stops, whole_then, whole_unmade}
use Rattle.iebcopy_util.proofs.copying.copy_again.Goals as goal

pub returns-in_err-can : goal.returns-in_err-can
returns-in_err-can g c = whole_unmade g.M.Machine _ c.from_residual.result c.from_residual.ensures c.requires.ready

pub returns-then-not-can : goal.returns-then-not-can
returns-then-not-can g c =
    let bad : can_move c.args.copy.now.from c.args.task.now.entry ≡ false = can_as c.args.task.now.entry c.in_ok-can.can false _ _ c.in_ok-can.ensures c.as_slice.ensures (first_of (search (c.if-not-can.true), search (not_true, c.if-not-can.true))) in
    whole_as g.M.Machine (λ told. again_bad _ c.args.out.now c.args.task.now c.args.copy.now bad) (whole_none g.M.Machine (Err outcome.BadTtr) c.requires.ready)

pub returns-in_err-user : goal.returns-in_err-user
returns-in_err-user g c = whole_unmade g.M.Machine _ c.from_residual-in_err-user.result c.from_residual-in_err-user.ensures c.requires.ready

pub returns-in_err-enter_copy : goal.returns-in_err-enter_copy
returns-in_err-enter_copy g c =
    let can : can_move c.args.copy.now.from c.args.task.now.entry ≡ true = can_as c.args.task.now.entry c.in_ok-can.can true _ _ c.in_ok-can.ensures c.as_slice.ensures (first_of (search (c.if-not-can.false), search (not_false, c.if-not-can.false))) in
    whole_as g.M.Machine (λ told. again_moved _ c.args.out.now c.args.task.now c.args.copy.now can)
    (whole_stops g.M.Machine (λ (s : Shelf). entered s c.args.out.now c.args.task.now c.args.copy.now) (λ x u. answered (Ok None)) c.from_residual-in_err-enter_copy.result c.from_residual-in_err-enter_copy.ensures (rw c.in_err-enter_copy.was at c.enter_copy.ensures))

pub returns-in-Ok : goal.returns-in-Ok
returns-in-Ok g c =
    let can : can_move c.args.copy.now.from c.args.task.now.entry ≡ true = can_as c.args.task.now.entry c.in_ok-can.can true _ _ c.in_ok-can.ensures c.as_slice.ensures (first_of (search (c.if-not-can.false), search (not_false, c.if-not-can.false))) in
    let takes = (rw c.in-Ok.is at c.in_ok-enter_copy.ensures).takes in
    whole_as g.M.Machine (λ told. again_moved _ c.args.out.now c.args.task.now c.args.copy.now can)
    (whole_then g.M.Machine (λ (s : Shelf). entered s c.args.out.now c.args.task.now c.args.copy.now) (λ x u. answered (Ok None)) (λ told. entered_closed _ c.args.out.now c.args.task.now c.args.copy.now) takes (whole_none g.M.Machine (Ok None) (ready_after g.M.Machine takes.faults)))

pub returns-in-Err : goal.returns-in-Err
returns-in-Err g c =
    let can : can_move c.args.copy.now.from c.args.task.now.entry ≡ true = can_as c.args.task.now.entry c.in_ok-can.can true _ _ c.in_ok-can.ensures c.as_slice.ensures (first_of (search (c.if-not-can.false), search (not_false, c.if-not-can.false))) in
    whole_as g.M.Machine (λ told. again_moved _ c.args.out.now c.args.task.now c.args.copy.now can)
    (whole_ends g.M.Machine (λ (s : Shelf). entered s c.args.out.now c.args.task.now c.args.copy.now) (λ x u. answered (Ok None)) (rw c.in-Err.is at c.in_ok-enter_copy.ensures).takes)
