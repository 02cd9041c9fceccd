use Rattle.std.proofs.Common.{◌<◌, ℕ, List, get_or, length, sym, ap, subst, ◌∙◌}
use Rattle.std.specs.Prelude.{Err, IfErr}
use Rattle.std.proofs.lemmas.Option.{slice_get-get_or}
use Rattle.std.proofs.lemmas.Result.{err_from_is_err_and}
use Rattle.hall_core.specs.Facts.{Attached}
use Rattle.shelf_machine.specs.Opening.{names_of}
use Rattle.mount_repair.proofs.DeviceCalls.{reported_more, reported_none}
use Rattle.shelf_machine.specs.Packs.{RefusesImages, StopCall}
use Rattle.shelf_machine.specs.declared.open_failure.OpenFailure.{OpenFailure}
use Rattle.shelf_machine.proofs.ReadingPacks.{number_at, refuses_pack, scanned_next, stop_memory, unit_attached}
use Rattle.shelf_machine.proofs.opening.scan_all.Goals as goal

pub scan_pack-requires : goal.scan_pack-requires
scan_pack-requires g c =
    let l = c.loop-k in
    let at = slice_get-get_or c.args.units.now l.k 0 c.loop-k-test.true in
    subst (λ (us : List Attached). get_or c.args.units.now l.k 0 < length us) (sym l.invariant.facts.units) (unit_attached (g.H.Hall.facts c.args.hall.now).units c.args.units.now l.k _ c.requires.units at)

pub returns-in_err-scanned-clause-refused : goal.returns-in_err-scanned-clause-refused
returns-in_err-scanned-clause-refused g c told =
    let l = c.loop-k in
    let at = slice_get-get_or c.args.units.now l.k 0 c.loop-k-test.true in
    let p = err_from_is_err_and c.from_residual.result c.from_residual.ensures.1 in
    subst (λ r. IfErr r (RefusesImages (names_of (g.H.Hall.facts c.args.hall.now).units c.args.units.now) (g.H.Hall.meaning c.args.hall.now).state)) (sym (p.1 ∙ ap Err p.2))
    (refuses_pack g.H.Hall.tells c.args.units.now _ _ _ _ l.scans.items l.k _ at l.invariant c.in_err-scanned.field-0.0 c.requires.units told c.in_err-scanned.ensures.place (c.in_err-scanned.ensures.refused told))

pub loop-k-preserved : goal.loop-k-preserved
loop-k-preserved g c =
    let l = c.loop-k in
    let at = slice_get-get_or c.args.units.now l.k 0 c.loop-k-test.true in
    let scanned = c.in_ok-scanned.ensures in
    scanned_next g.H.Hall.tells c.args.units.now _ _ _ _ l.scans.items l.k _ at l.invariant _ _ c.push.new.items.items c.in_ok-scanned.scanned scanned.unit scanned.image scanned.same scanned.faults c.in_ok-push.ensures.done

pub returns-in_err-scanned-clause-unit : goal.returns-in_err-scanned-clause-unit
returns-in_err-scanned-clause-unit g c =
    let l = c.loop-k in
    let at = slice_get-get_or c.args.units.now l.k 0 c.loop-k-test.true in
    let p = err_from_is_err_and c.from_residual.result c.from_residual.ensures.1 in
    subst (λ r. IfErr r (λ (s : OpenFailure). s.unit < length c.args.units.now)) (sym (p.1 ∙ ap Err p.2))
    (subst (λ (n : ℕ). n < length c.args.units.now) (sym c.in_err-scanned.ensures.place) (number_at c.args.units.now l.k (get_or c.args.units.now l.k 0) c.requires.units.numbered at))

pub returns-in_err-push-clause-unit : goal.returns-in_err-push-clause-unit
returns-in_err-push-clause-unit g c =
    let l = c.loop-k in
    let at = slice_get-get_or c.args.units.now l.k 0 c.loop-k-test.true in
    let p = err_from_is_err_and c.from_residual-in_err-push.result c.from_residual-in_err-push.ensures.1 in
    subst (λ r. IfErr r (λ (s : OpenFailure). s.unit < length c.args.units.now)) (sym (p.1 ∙ ap Err p.2))
    (subst (λ (n : ℕ). n < length c.args.units.now) (sym c.in_err-push.ensures.place) (number_at c.args.units.now l.k (get_or c.args.units.now l.k 0) c.requires.units.numbered at))

pub returns-in_err-scanned-clause-faults : goal.returns-in_err-scanned-clause-faults
returns-in_err-scanned-clause-faults g c =
    let p = err_from_is_err_and c.from_residual.result c.from_residual.ensures.1 in
    subst (λ r. StopCall (g.H.Hall.facts c.args.hall.now) (g.H.Hall.facts c.scan_pack.new.hall) r) (sym (p.1 ∙ ap Err p.2)) (reported_more _ _ _ c.loop-k.invariant.facts c.in_err-scanned.ensures.faults (λ is. is) (λ is. is))

pub returns-in_err-push-clause-faults : goal.returns-in_err-push-clause-faults
returns-in_err-push-clause-faults g c =
    let p = err_from_is_err_and c.from_residual-in_err-push.result c.from_residual-in_err-push.ensures.1 in
    subst (λ r. StopCall (g.H.Hall.facts c.args.hall.now) (g.H.Hall.facts c.scan_pack.new.hall) r) (sym (p.1 ∙ ap Err p.2))
    (stop_memory _ _ c.in_err-push.field-0.0 (reported_none _ _ _ c.loop-k.invariant.facts c.in_ok-scanned.ensures.faults (λ never. never)) c.in_err-push.ensures.memory)
