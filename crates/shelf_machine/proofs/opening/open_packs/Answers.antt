use Rattle.std.proofs.Common.{◌≡◌, ◌<◌, ◌∙◌, ℕ, List, length, sym, ap, subst}
use Rattle.std.specs.Prelude.{Contains, Err, IfErr}
use Rattle.std.proofs.lemmas.Result.{err_from_is_err_and}
use Rattle.hall_core.specs.Facts.{Attached}
use Rattle.stop_model.specs.Files.{File}
use Rattle.mount_repair.specs.Scans.{IsScanOn}
use Rattle.mount_repair.specs.declared.scanned.Scan.{Scan}
use Rattle.shelf_machine.specs.Known.{KnowsBodies}
use Rattle.shelf_machine.specs.Machine.{AreIndexes, serials_of, shelf_under, units_of}
use Rattle.shelf_machine.specs.Opening.{AreApart, names_of}
use Rattle.shelf_machine.specs.Packs.{AreKnown, StopsAtTwice, indexes_of}
use Rattle.shelf_machine.specs.declared.open_failure.OpenFailure.{OpenFailure}
use Rattle.shelf_machine.proofs.ForgottenTracks.{knows_kept}
use Rattle.shelf_machine.proofs.KnownLemmas.{known_repaired}
use Rattle.shelf_machine.proofs.KnownPacks.{known_bodies}
use Rattle.shelf_machine.proofs.Openings.{indexes_scanned, order_scanned, refuses_twice}
use Rattle.shelf_machine.proofs.ReadingPacks.{mounted_scans, number_low}
use Rattle.shelf_machine.specs.ReadyPacks.{caches_of, vols_of}
use Rattle.shelf_machine.proofs.opening.open_packs.Goals as goal

pub returns-in-Some-clause-refused : goal.returns-in-Some-clause-refused
returns-in-Some-clause-refused g c told =
    let scans = c.in_ok-scans.scans.items in
    refuses_twice (g.H.Hall.meaning c.args.hall.now).state (g.H.Hall.facts c.args.hall.now).units c.args.units.now (indexes_of scans) c.in-Some.stopped c.in_ok-scans.ensures.scanned.numbers
    (mounted_scans (g.H.Hall.meaning c.args.hall.now).state (g.H.Hall.facts c.args.hall.now).units scans (c.in_ok-scans.ensures.images told))
    (subst (λ (l : List Scan). StopsAtTwice (serials_of (indexes_of l)) c.in-Some.stopped) c.deref.ensures.value c.in-Some.ensures.found)

-- ---- memory ran out

pub returns-in_err-known-clause-unit : goal.returns-in_err-known-clause-unit
returns-in_err-known-clause-unit g c =
    let p = err_from_is_err_and c.from_residual-in_err-known.result c.from_residual-in_err-known.ensures.1 in
    subst (λ r. IfErr r (λ (s : OpenFailure). s.unit < length c.args.units.now)) (sym (p.1 ∙ ap Err p.2))
    (number_low c.args.units.now c.in_err-known.field-0.0.unit c.requires.units.numbered
    (subst (λ (us : List ℕ). Contains us c.in_err-known.field-0.0.unit) (ap (λ (l : List Scan). units_of (indexes_of l)) c.deref-2.ensures.value ∙ c.in_ok-scans.ensures.scanned.numbers) c.in_err-known.ensures.unit))

pub returns-in_err-packs-clause-unit : goal.returns-in_err-packs-clause-unit
returns-in_err-packs-clause-unit g c =
    let p = err_from_is_err_and c.from_residual-in_err-packs.result c.from_residual-in_err-packs.ensures.1 in
    subst (λ r. IfErr r (λ (s : OpenFailure). s.unit < length c.args.units.now)) (sym (p.1 ∙ ap Err p.2))
    (number_low c.args.units.now c.in_err-packs.field-0.0.unit c.requires.units.numbered
    (subst (λ (us : List ℕ). Contains us c.in_err-packs.field-0.0.unit) (ap (λ (l : List Scan). units_of (indexes_of l)) c.deref-3.ensures.value ∙ c.in_ok-scans.ensures.scanned.numbers) c.in_err-packs.ensures.unit))

-- ---- the repair

pub repair_all-requires-clause-indexes : goal.repair_all-requires-clause-indexes
repair_all-requires-clause-indexes g c =
    let scans = c.in_ok-scans.scans.items in
    subst (λ (us : List Attached). AreIndexes us (indexes_of scans)) (sym c.in_ok-scans.ensures.faults.units)
    (indexes_scanned (g.H.Hall.facts c.args.hall.now).units c.args.units.now scans c.requires.units c.in_ok-scans.ensures.scanned
    (subst (λ (l : List Scan). AreApart (serials_of (indexes_of l))) c.deref.ensures.value c.in_default.ensures.apart))

pub repair_all-requires-clause-order : goal.repair_all-requires-clause-order
repair_all-requires-clause-order g c = order_scanned (g.H.Hall.facts c.args.hall.now).units c.args.units.now c.in_ok-scans.scans.items c.in_ok-scans.ensures.scanned

pub repair_all-requires-clause-scanned : goal.repair_all-requires-clause-scanned
repair_all-requires-clause-scanned g c k s at = subst (λ (us : List Attached). IsScanOn us s.vol.unit s) (sym c.in_ok-scans.ensures.faults.units) (c.in_ok-scans.ensures.scanned.each k s at)

pub returns-in_err-repair_all-clause-unit : goal.returns-in_err-repair_all-clause-unit
returns-in_err-repair_all-clause-unit g c =
    let p = err_from_is_err_and c.from_residual-in_err-repair_all.result c.from_residual-in_err-repair_all.ensures.1 in
    subst (λ r. IfErr r (λ (s : OpenFailure). s.unit < length c.args.units.now)) (sym (p.1 ∙ ap Err p.2))
    (number_low c.args.units.now c.in_err-repair_all.field-0.0.unit c.requires.units.numbered
    (subst (λ (us : List ℕ). Contains us c.in_err-repair_all.field-0.0.unit) c.in_ok-scans.ensures.scanned.numbers c.in_err-repair_all.ensures.unit))

-- ---- the packs are opened

-- what is known of the bodies before the repair is known of them after it, since the images stand for the same shelf
pub returns-clause-known : goal.returns-clause-known
returns-clause-known g c told =
    let scans = c.in_ok-scans.scans.items in
    let run = c.in_ok-repair_all.ensures.files told in
    let vols' = vols_of c.repair_all.new.packs.items in
    let before = (g.H.Hall.facts c.scan_all.new.hall).units in
    let names : names_of (g.H.Hall.facts c.repair_all.new.hall).units (units_of vols') ≡ names_of before (units_of (indexes_of scans)) =
    ap (λ (us : List Attached). names_of us (units_of vols')) c.in_ok-repair_all.ensures.faults.units ∙ ap (names_of before) c.in_ok-repair_all.ensures.same.units in
    let first : names_of before (units_of (indexes_of scans)) ≡ names_of (g.H.Hall.facts c.args.hall.now).units (units_of (indexes_of scans)) =
    ap (λ (us : List Attached). names_of us (units_of (indexes_of scans))) c.in_ok-scans.ensures.faults.units in
    knows_kept c.in_ok-known.known.items (caches_of c.repair_all.new.packs.items) c.in_ok-repair_all.ensures.lists (shelf_under (names_of (g.H.Hall.facts c.repair_all.new.hall).units (units_of vols')) (g.H.Hall.meaning c.repair_all.new.hall).state)
    (known_repaired _ _ (g.H.Hall.meaning c.scan_all.new.hall).state (g.H.Hall.meaning c.repair_all.new.hall).state c.in_ok-known.known.items run.shelf names run.before run.after
    (subst (λ (ns : List (List ℕ)). KnowsBodies (shelf_under ns (g.H.Hall.meaning c.scan_all.new.hall).state) c.in_ok-known.known.items) (sym first)
    (subst (λ (fs : List File). KnowsBodies (shelf_under (names_of (g.H.Hall.facts c.args.hall.now).units (units_of (indexes_of scans))) fs) c.in_ok-known.known.items) (sym (c.in_ok-scans.ensures.same told).state)
    (known_bodies (g.H.Hall.meaning c.args.hall.now).state (g.H.Hall.facts c.args.hall.now).units c.args.units.now scans c.in_ok-known.known.items
    (subst (λ (l : List Scan). AreKnown l c.in_ok-known.known.items) c.deref-2.ensures.value c.in_ok-known.ensures.known) c.in_ok-scans.ensures.scanned (c.in_ok-scans.ensures.images told)
    (subst (λ (l : List Scan). AreApart (serials_of (indexes_of l))) c.deref.ensures.value c.in_default.ensures.apart)))))

pub repair_all-requires-clause-known : goal.repair_all-requires-clause-known
repair_all-requires-clause-known g c = subst (λ (l : List Scan). AreKnown l c.in_ok-known.known.items) c.deref-2.ensures.value c.in_ok-known.ensures.known
