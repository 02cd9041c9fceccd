use Rattle.std.proofs.Common.{◌≡◌, ◌∙◌, true, false, sym, ap, subst, Err, refl}
use Rattle.vol_model.specs.declared.contents.Shelf.{Shelf}
use Rattle.util_steps.specs.Copying.{source}
use Rattle.util_steps.proofs.Progress.{source_blocks}
use Rattle.util_steps.proofs.Taking.{ready_after}
use Rattle.util_syntax.specs.declared.listing.Outcome.TheVariants as outcome
use Rattle.util_program.specs.Outcomes.{outcome_for}
use Rattle.iebcopy_util.specs.Copying.{can_move, copied, copied_from}
use Rattle.iebcopy_util.specs.Steps.{HasBlocks, IsRead}
use Rattle.iebcopy_util.proofs.CopiedLemmas.{from_bad_record, from_bad_ttr, from_copied, walk_refused, walk_told}
use Rattle.iebcopy_util.proofs.CopyLemmas.{can_as}
use Rattle.iebcopy_util.proofs.FoundLemmas.{has_member, member_at}
use Rattle.iebcopy_util.proofs.StepItems.{not_false, not_true}
use Rattle.iebcopy_util.proofs.WholeLemmas.{whole_none, whole_read, whole_unmade, whole_unread}
use Rattle.iebcopy_util.proofs.copying.copy_anew.Goals as goal

pub returns-in_err-walk : goal.returns-in_err-walk
returns-in_err-walk g c = whole_unread g.M.Machine (λ told. g.met.M.Machine.durable c.args.machine.now told c.requires.ready.sound) _ c.from_residual.result c.from_residual.ensures (rw c.in_err-walk.was at c.walk_member.ensures)

pub returns-in-Err : goal.returns-in-Err
returns-in-Err g c =
    let walked = rw c.in-Err.is at c.in_ok-walk.ensures in
    rw c.outcome_for.ensures
    (whole_read g.M.Machine (λ told. g.met.M.Machine.durable c.args.machine.now told c.requires.ready.sound) walked
    (λ told tells. walk_refused (g.M.Machine.meaning c.args.machine.now).state c.args.out.now c.args.task.now c.args.blank (source (g.M.Machine.meaning c.args.machine.now).state c.args.task.now.source.set) c.args.task.now.entry.place c.in-Err.fault tells) (whole_none g.M.Machine (Err (outcome_for c.in-Err.fault)) (ready_after g.M.Machine walked.faults)))

pub returns-in_err-can : goal.returns-in_err-can
returns-in_err-can g c =
    let walked = rw c.in-Ok.is at c.in_ok-walk.ensures in
    whole_read g.M.Machine (λ told. g.met.M.Machine.durable c.args.machine.now told c.requires.ready.sound) walked (λ told tells. refl) (whole_unmade g.M.Machine (λ (s : Shelf). copied_from s c.args.out.now c.args.task.now c.args.blank (source s c.args.task.now.source.set)) c.from_residual-in_err-can.result c.from_residual-in_err-can.ensures (ready_after g.M.Machine walked.faults))

pub returns-then-not-can : goal.returns-then-not-can
returns-then-not-can g c =
    let walked = rw c.in-Ok.is at c.in_ok-walk.ensures in
    let bad : can_move c.in-Ok.walk.places.items c.args.task.now.entry ≡ false = can_as c.args.task.now.entry c.in_ok-can.can false _ _ c.in_ok-can.ensures c.deref.ensures.value (first_of (search (c.if-not-can.true), search (not_true, c.if-not-can.true))) in
    whole_read g.M.Machine (λ told. g.met.M.Machine.durable c.args.machine.now told c.requires.ready.sound) walked
    (λ told tells. from_bad_ttr _ c.args.out.now c.args.task.now c.args.blank c.in-Ok.walk _ (walk_told _ _ c.in-Ok.walk tells) bad) (whole_none g.M.Machine (Err outcome.BadTtr) (ready_after g.M.Machine walked.faults))

pub returns-then-not-walk : goal.returns-then-not-walk
returns-then-not-walk g c =
    let walked = rw c.in-Ok.is at c.in_ok-walk.ensures in
    let good : can_move c.in-Ok.walk.places.items c.args.task.now.entry ≡ true = can_as c.args.task.now.entry c.in_ok-can.can true _ _ c.in_ok-can.ensures c.deref.ensures.value (first_of (search (c.if-not-can.false), search (not_false, c.if-not-can.false))) in
    whole_read g.M.Machine (λ told. g.met.M.Machine.durable c.args.machine.now told c.requires.ready.sound) walked
    (λ told tells. from_bad_record _ c.args.out.now c.args.task.now c.args.blank c.in-Ok.walk _ (walk_told _ _ c.in-Ok.walk tells) good c.if-not-walk.true) (whole_none g.M.Machine (Err outcome.BadRecord) (ready_after g.M.Machine walked.faults))

pub returns-in_err-to : goal.returns-in_err-to
returns-in_err-to g c =
    let walked = rw c.in-Ok.is at c.in_ok-walk.ensures in
    whole_read g.M.Machine (λ told. g.met.M.Machine.durable c.args.machine.now told c.requires.ready.sound) walked (λ told tells. refl) (whole_unmade g.M.Machine (λ (s : Shelf). copied_from s c.args.out.now c.args.task.now c.args.blank (source s c.args.task.now.source.set)) c.from_residual-in_err-to.result c.from_residual-in_err-to.ensures (ready_after g.M.Machine walked.faults))

pub returns-in_err-user : goal.returns-in_err-user
returns-in_err-user g c =
    let walked = rw c.in-Ok.is at c.in_ok-walk.ensures in
    whole_read g.M.Machine (λ told. g.met.M.Machine.durable c.args.machine.now told c.requires.ready.sound) walked (λ told tells. refl) (whole_unmade g.M.Machine (λ (s : Shelf). copied_from s c.args.out.now c.args.task.now c.args.blank (source s c.args.task.now.source.set)) c.from_residual-in_err-user.result c.from_residual-in_err-user.ensures (ready_after g.M.Machine walked.faults))

pub write_copy-requires-clause-found : goal.write_copy-requires-clause-found
write_copy-requires-clause-found g c told =
    let walked = rw c.in-Ok.is at c.in_ok-walk.ensures in
    let so = walk_told _ _ c.in-Ok.walk (walked.value told) in
    let are = source_blocks _ c.args.task.now.source.set so.all_blocks (g.met.M.Machine.lawful c.args.machine.now told c.requires.ready.sound) so.is in
    subst (λ (s : Shelf). HasBlocks (source s c.args.task.now.source.set) c.in-Ok.walk.places.items) (sym (walked.same told).state) (has_member _ so.all_blocks c.args.task.now.entry.place c.in-Ok.walk.places.items so.is are so.at)

pub write_copy-requires-clause-output : goal.write_copy-requires-clause-output
write_copy-requires-clause-output g c told = subst (λ (s : Shelf). IsRead s c.args.out.now) (sym (c.walk_member.ensures.same told).state) (c.requires.output told)

pub returns : goal.returns
returns g c =
    let out = c.args.out.now in
    let t = c.args.task.now in
    let s0 = (g.M.Machine.meaning c.args.machine.now).state in
    let walked = rw c.in-Ok.is at c.in_ok-walk.ensures in
    let good : can_move c.in-Ok.walk.places.items t.entry ≡ true = can_as t.entry c.in_ok-can.can true _ _ c.in_ok-can.ensures c.deref.ensures.value (first_of (search (c.if-not-can.false), search (not_false, c.if-not-can.false))) in
    whole_read g.M.Machine (λ told. g.met.M.Machine.durable c.args.machine.now told c.requires.ready.sound) walked
    (λ told tells.
    let so = walk_told (source s0 t.source.set) t.entry.place c.in-Ok.walk tells in
    let are = source_blocks s0 t.source.set so.all_blocks (g.met.M.Machine.lawful c.args.machine.now told c.requires.ready.sound) so.is in
    from_copied s0 out t c.args.blank c.in-Ok.walk (source s0 t.source.set) so good c.if-not-walk.false
    ∙ ap (copied s0 out t c.args.blank) (sym (member_at (source s0 t.source.set) so.all_blocks t.entry.place c.in-Ok.walk.places.items so.is are so.at)))
    c.write_copy.ensures
