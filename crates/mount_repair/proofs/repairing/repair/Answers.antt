use Rattle.std.proofs.Common.{◌∙◌, [], List, ℕ, refl, ap, subst, sym}
use Rattle.std.proofs.lemmas.Result.{err_from_is_err_and}
use Rattle.free_rebuild.specs.Repairs.{image_named}
use Rattle.hall_core.specs.Facts.{unit_of}
use Rattle.vtoc_index.specs.Index.{IsMounted}
use Rattle.vtoc_index.specs.Names.{AreByName, name_at}
use Rattle.vtoc_index.specs.declared.vol.Vol.{Vol}
use Rattle.mount_repair.specs.Scans.{AreSound, AreUnpacked}
use Rattle.mount_repair.specs.declared.scanned.Unpacked.{Unpacked}
use Rattle.mount_repair.proofs.PackLoops.{libraries_left_as, repairs_done_as, repairs_failed, repairs_stopped_as}
use Rattle.mount_repair.proofs.Rebuilt.{libraries_rebuilt, named_still, rebuilt, sound_rebuilt}
use Rattle.mount_repair.proofs.repairing.repair.Goals as goal

pub returns-in_err-repair_vtoc-clause-files : goal.returns-in_err-repair_vtoc-clause-files
returns-in_err-repair_vtoc-clause-files g c told =
    let p = err_from_is_err_and c.from_residual.result c.from_residual.ensures.1 in
    rw p.1 (repairs_failed _ c.repair_vtoc.new.vol (g.H.Hall.meaning c.args.hall.now) (g.H.Hall.meaning c.repair_vtoc.new.hall) _ _ (c.in_err-repair_vtoc.ensures.files told))

-- ---- the directories, after the repair of the VTOC

pub pack_all-requires-clause-sound : goal.pack_all-requires-clause-sound
pack_all-requires-clause-sound g c =
    let run = c.in_ok-repair_vtoc.ensures in
    let on = c.requires.unit in
    subst (AreSound c.repair_vtoc.new.vol.slots.items) (sym c.deref.ensures.value)
    (sound_rebuilt c.args.scan.vol c.repair_vtoc.new.vol c.args.scan.unpacked.items (ap (λ (w : Vol). w.by_name.items) run.index.others) on.names (run.index.names on.names) on.sound)

pub pack_all-requires-clause-mounted : goal.pack_all-requires-clause-mounted
pack_all-requires-clause-mounted g c told =
    let run = c.in_ok-repair_vtoc.ensures in
    let name = named_still (g.H.Hall.facts c.args.hall.now) (g.H.Hall.facts c.repair_vtoc.new.hall) c.args.scan.vol c.repair_vtoc.new.vol run.faults.units (ap (λ (w : Vol). w.unit) run.index.others) in
    subst (λ (n : List ℕ). IsMounted (image_named (g.H.Hall.meaning c.repair_vtoc.new.hall).state n) c.repair_vtoc.new.vol) (sym name) (run.files told).index

pub pack_all-requires-clause-unpacked : goal.pack_all-requires-clause-unpacked
pack_all-requires-clause-unpacked g c told =
    let run = c.in_ok-repair_vtoc.ensures in
    let on = c.requires.unit in
    let scan = c.requires.scan told in
    let name = named_still (g.H.Hall.facts c.args.hall.now) (g.H.Hall.facts c.repair_vtoc.new.hall) c.args.scan.vol c.repair_vtoc.new.vol run.faults.units (ap (λ (w : Vol). w.unit) run.index.others) in
    subst (λ (us : List Unpacked). AreUnpacked (image_named (g.H.Hall.meaning c.repair_vtoc.new.hall).state (unit_of (g.H.Hall.facts c.repair_vtoc.new.hall).units c.repair_vtoc.new.vol.unit).name) c.repair_vtoc.new.vol us) (sym c.deref.ensures.value)
    (subst (λ (n : List ℕ). AreUnpacked (image_named (g.H.Hall.meaning c.repair_vtoc.new.hall).state n) c.repair_vtoc.new.vol c.args.scan.unpacked.items) (sym name)
    (rebuilt _ c.args.scan.vol c.repair_vtoc.new.vol (g.H.Hall.meaning c.args.hall.now) (g.H.Hall.meaning c.repair_vtoc.new.hall) _ c.args.scan.unpacked.items run.index.others scan.mounted on.names (run.index.names on.names) (run.files told) scan.unpacked))

pub pack_all-requires-clause-durable : goal.pack_all-requires-clause-durable
pack_all-requires-clause-durable g c told = (c.in_ok-repair_vtoc.ensures.files told).durable

pub returns-in_err-pack_all-clause-files : goal.returns-in_err-pack_all-clause-files
returns-in_err-pack_all-clause-files g c told =
    let run = c.in_ok-repair_vtoc.ensures in
    let name = named_still (g.H.Hall.facts c.args.hall.now) (g.H.Hall.facts c.repair_vtoc.new.hall) c.args.scan.vol c.repair_vtoc.new.vol run.faults.units (ap (λ (w : Vol). w.unit) run.index.others) in
    let p = err_from_is_err_and c.from_residual-in_err-pack_all.result c.from_residual-in_err-pack_all.ensures.1 in
    rw p.1 (repairs_stopped_as _ c.repair_vtoc.new.vol c.pack_all.new.vol [] (g.H.Hall.meaning c.args.hall.now) (g.H.Hall.meaning c.repair_vtoc.new.hall) (g.H.Hall.meaning c.pack_all.new.hall) _ (run.files told) _ _ _ name (c.in_err-pack_all.ensures.files told))

-- ---- all is done

pub returns-clause-files : goal.returns-clause-files
returns-clause-files g c told =
    let first = c.in_ok-repair_vtoc.ensures in
    let second = c.in_ok-pack_all.ensures in
    let on = c.requires.unit in
    let scan = c.requires.scan told in
    let name = named_still (g.H.Hall.facts c.args.hall.now) (g.H.Hall.facts c.repair_vtoc.new.hall) c.args.scan.vol c.repair_vtoc.new.vol first.faults.units (ap (λ (w : Vol). w.unit) first.index.others) in
    let still = named_still (g.H.Hall.facts c.repair_vtoc.new.hall) (g.H.Hall.facts c.pack_all.new.hall) c.repair_vtoc.new.vol c.repair_vtoc.new.vol second.faults.units refl in
    let names = first.index.names on.names in
    let libraries = libraries_left_as _ _ _ c.repair_vtoc.new.vol c.pack_all.new.vol (g.H.Hall.meaning c.repair_vtoc.new.hall) (g.H.Hall.meaning c.pack_all.new.hall) c.args.scan.unpacked.items _ c.args.scan.libraries.items name (still ∙ name) c.deref.ensures.value (second.libraries told)
    (libraries_rebuilt _ c.args.scan.vol c.repair_vtoc.new.vol (g.H.Hall.meaning c.args.hall.now) (g.H.Hall.meaning c.repair_vtoc.new.hall) _ c.args.scan.unpacked.items first.index.others scan.mounted on.names names (first.files told) c.args.scan.libraries.items scan.libraries) in
    repairs_done_as _ c.repair_vtoc.new.vol c.pack_all.new.vol [] (g.H.Hall.meaning c.args.hall.now) (g.H.Hall.meaning c.repair_vtoc.new.hall) (g.H.Hall.meaning c.pack_all.new.hall) _ (first.files told) _ _ c.args.scan _ name refl (second.files told)
    (subst (λ (w : Vol). AreByName (name_at w.slots.items) w.by_name.items) (sym second.others) names) scan libraries refl refl refl refl c.clear.ensures.items
