use Rattle.std.proofs.Common.{◌≡◌, ℕ, Some, sym, ap, subst, ◌∙◌, arith}
use Rattle.std.specs.Prelude.{Contains, Err, IfErr, slice_get}
use Rattle.std.proofs.lemmas.Option.{slice_get-get_or}
use Rattle.std.proofs.lemmas.Result.{err_from_is_err_and}
use Rattle.mount_repair.specs.declared.scanned.Scan.{Scan}
use Rattle.shelf_machine.specs.Machine.{units_of}
use Rattle.shelf_machine.specs.Packs.{indexes_of}
use Rattle.shelf_machine.specs.declared.open_failure.OpenFailure.{OpenFailure}
use Rattle.shelf_machine.proofs.KnownPacks.{known_all, known_next, scan_unit}
use Rattle.shelf_machine.proofs.opening.know_all.Goals as goal

pub returns-in_err-add_known-clause-unit : goal.returns-in_err-add_known-clause-unit
returns-in_err-add_known-clause-unit c =
    let scans = c.args.scans.now in
    let at : slice_get scans c.loop-scanned.scanned-index ≡ Some c.scanned-item.result = slice_get-get_or scans c.loop-scanned.scanned-index c.scanned-item.result c.loop-scanned-test.true ∙ ap (λ (s : Scan). Some s) (sym c.scanned-item.is) in
    let p = err_from_is_err_and c.from_residual.result c.from_residual.ensures.1 in
    subst (λ r. IfErr r (λ (s : OpenFailure). Contains (units_of (indexes_of scans)) s.unit)) (sym (p.1 ∙ ap Err p.2))
    (subst (λ (n : ℕ). Contains (units_of (indexes_of scans)) n) (sym c.in_err-add_known.ensures.place) (scan_unit scans c.loop-scanned.scanned-index c.scanned-item.result at))

pub loop-scanned-preserved : goal.loop-scanned-preserved
loop-scanned-preserved c =
    let l = c.loop-scanned in
    let at : slice_get c.args.scans.now l.scanned-index ≡ Some c.scanned-item.result = slice_get-get_or c.args.scans.now l.scanned-index c.scanned-item.result c.loop-scanned-test.true ∙ ap (λ (s : Scan). Some s) (sym c.scanned-item.is) in
    let more = c.in_ok-add_known.ensures.known in
    known_next c.args.scans.now l.known.items l.scanned-index l.invariant c.scanned-item.result more.0 c.add_known.new.known.items at more.1 more.2 more.3 more.4

pub returns-clause-known : goal.returns-clause-known
returns-clause-known c = known_all c.args.scans.now c.loop-scanned.known.items c.loop-scanned.scanned-index c.loop-scanned.invariant (omega (arith, c.loop-scanned-test.false))
