use Rattle.std.proofs.Common.{◌≡◌, ◌∙◌, sym, ap, Err, subst}
use Rattle.std.specs.Prelude.{Some, None}
use Rattle.std.specs.Option.{option_copied}
use Rattle.vol_model.specs.declared.contents.Shelf.{Shelf}
use Rattle.util_steps.proofs.Taking.{ready_after}
use Rattle.util_program.specs.Outcomes.{outcome_for}
use Rattle.iebcopy_util.specs.Copying.{copy_before, first_refusal}
use Rattle.iebcopy_util.specs.Steps.{IsRead}
use Rattle.iebcopy_util.proofs.CopiedLemmas.{member_again, member_anew, member_none, member_refused}
use Rattle.iebcopy_util.proofs.CopyLemmas.{library_read}
use Rattle.iebcopy_util.proofs.WholeLemmas.{whole_none, whole_read, whole_unread}
use Rattle.iebcopy_util.proofs.copying.copy_member.Goals as goal

pub returns-in_err-found : goal.returns-in_err-found
returns-in_err-found g c = whole_unread g.M.Machine (λ told. g.met.M.Machine.durable c.args.machine.now told c.requires.ready.sound) _ c.from_residual.result c.from_residual.ensures (rw c.in_err-found.was at c.probe_output.ensures)

pub returns-in-Err : goal.returns-in-Err
returns-in-Err g c =
    let looked = rw c.in-Err.is at c.in_ok-found.ensures in
    rw c.outcome_for.ensures
    (whole_read g.M.Machine (λ told. g.met.M.Machine.durable c.args.machine.now told c.requires.ready.sound) looked
    (λ told looks. member_none _ c.args.out.now c.args.copies.now c.args.task.now c.in-Err.fault looks) (whole_none g.M.Machine (Err (outcome_for c.in-Err.fault)) (ready_after g.M.Machine looked.faults)))

pub returns-in-Some : goal.returns-in-Some
returns-in-Some g c =
    let looked = rw c.in-Ok.is at c.in_ok-found.ensures in
    let refused : first_refusal c.args.task.now c.in-Ok.found ≡ Some c.in-Some.outcome = cc (c.first_refusal.ensures, c.in-Some.is) in
    whole_read g.M.Machine (λ told. g.met.M.Machine.durable c.args.machine.now told c.requires.ready.sound) looked
    (λ told looks. member_refused _ c.args.out.now c.args.copies.now c.args.task.now looks.0 c.in-Ok.found looks.1 looks.2 c.in-Some.outcome refused) (whole_none g.M.Machine (Err c.in-Some.outcome) (ready_after g.M.Machine looked.faults))

pub returns-in-Some-copy_before : goal.returns-in-Some-copy_before
returns-in-Some-copy_before g c =
    let none : first_refusal c.args.task.now c.in-Ok.found ≡ None = cc (c.first_refusal.ensures, c.in_default.is) in
    let before : copy_before c.args.copies.now c.args.task.now ≡ Some c.in-Some-copy_before.copy.now = sym c.copy_before.ensures ∙ ap option_copied c.in-Some-copy_before.is in
    whole_read g.M.Machine (λ told. g.met.M.Machine.durable c.args.machine.now told c.requires.ready.sound) (rw c.in-Ok.is at c.in_ok-found.ensures)
    (λ told looks. member_again _ c.args.out.now c.args.copies.now c.args.task.now looks.0 c.in-Ok.found looks.1 looks.2 none c.in-Some-copy_before.copy.now before) c.copy_again.ensures

pub copy_anew-requires-clause-output : goal.copy_anew-requires-clause-output
copy_anew-requires-clause-output g c told =
    let looked = rw c.in-Ok.is at c.in_ok-found.ensures in
    let found = looked.value told in
    subst (λ (s : Shelf). IsRead s c.args.out.now) (sym (looked.same told).state) (library_read _ c.args.out.now found.0 found.1)

pub returns-in-None : goal.returns-in-None
returns-in-None g c =
    let none : first_refusal c.args.task.now c.in-Ok.found ≡ None = cc (c.first_refusal.ensures, c.in_default.is) in
    let before : copy_before c.args.copies.now c.args.task.now ≡ None = sym c.copy_before.ensures ∙ ap option_copied c.in-None.is in
    whole_read g.M.Machine (λ told. g.met.M.Machine.durable c.args.machine.now told c.requires.ready.sound) (rw c.in-Ok.is at c.in_ok-found.ensures)
    (λ told looks. member_anew _ c.args.out.now c.args.copies.now c.args.task.now looks.0 c.in-Ok.found looks.1 looks.2 none before) c.copy_anew.ensures
