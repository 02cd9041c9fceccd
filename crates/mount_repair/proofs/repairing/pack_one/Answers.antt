use Rattle.std.proofs.Common.{◌∷◌, [], List, subst, sym}
use Rattle.dscb_codec.specs.declared.F1.{F1}
use Rattle.hall_core.specs.Facts.{Attached, unit_of}
use Rattle.hall_core.specs.Images.{image_in}
use Rattle.free_rebuild.specs.Repairs.{image_named}
use Rattle.pack_spec.specs.Settled.{IsPacked}
use Rattle.pds_directory.specs.Directories.{directory_in}
use Rattle.stow_ops.specs.Packing.{IsPackingOf}
use Rattle.mount_repair.specs.Scans.{KeepsLibraries}
use Rattle.mount_repair.proofs.PackSteps.{one_done, one_failed, one_keeps}
use Rattle.mount_repair.proofs.WalkedBodies.{one_set}
use Rattle.mount_repair.proofs.repairing.pack_one.Goals as goal

pub pack-requires-clause-read : goal.pack-requires-clause-read
pack-requires-clause-read g c told f there =
    let can = c.requires.can told in
    let image = image_in (g.H.Hall.meaning c.args.hall.now) (g.H.Hall.facts c.args.hall.now) c.args.vol.now.unit in
    subst (λ (x : F1). IsPackingOf image c.args.vol.now x c.args.dir.now.packing) (one_set c.args.vol.now.slots.items c.args.dir.now.slot can.set f can.slot there) can.packing

pub returns-in-Ok-clause-files : goal.returns-in-Ok-clause-files
returns-in-Ok-clause-files g c told rest unpacked =
    let done = c.in-Ok.ensures in
    let name = (unit_of (g.H.Hall.facts c.args.hall.now).units c.args.vol.now.unit).name in
    one_done name c.args.vol.now c.pack.new.vol c.args.dir.now (g.H.Hall.meaning c.args.hall.now) (g.H.Hall.meaning c.pack.new.hall) done.others (c.requires.mounted told) c.requires.names (c.requires.can told) tt
    (done.files told) tt rest unpacked
    (λ x there. subst (λ (us : List Attached). IsPacked (directory_in (image_named (g.H.Hall.meaning c.pack.new.hall).state (unit_of us c.args.vol.now.unit).name) c.pack.new.vol x)) done.faults.units (done.packed told x there))

pub returns-in-Ok-clause-libraries : goal.returns-in-Ok-clause-libraries
returns-in-Ok-clause-libraries g c told =
    let done = c.in-Ok.ensures in
    let image = image_in (g.H.Hall.meaning c.args.hall.now) (g.H.Hall.facts c.args.hall.now) c.args.vol.now.unit in
    let name = (unit_of (g.H.Hall.facts c.args.hall.now).units c.args.vol.now.unit).name in
    subst (λ (us : List Attached). KeepsLibraries image c.args.vol.now (c.args.dir.now ∷ []) (image_named (g.H.Hall.meaning c.pack.new.hall).state (unit_of us c.args.vol.now.unit).name) c.pack.new.vol) (sym done.faults.units)
    (one_keeps name c.args.vol.now c.pack.new.vol c.args.dir.now (g.H.Hall.meaning c.args.hall.now) (g.H.Hall.meaning c.pack.new.hall) done.others (c.requires.mounted told) c.requires.names (c.requires.can told) tt (done.files told))

pub returns-in-Err-clause-files : goal.returns-in-Err-clause-files
returns-in-Err-clause-files g c told rest unpacked =
    let run = c.in-Err.ensures in
    let name = (unit_of (g.H.Hall.facts c.args.hall.now).units c.args.vol.now.unit).name in
    one_failed name c.args.vol.now c.pack.new.vol c.args.dir.now (g.H.Hall.meaning c.args.hall.now) (g.H.Hall.meaning c.pack.new.hall) run.others (c.requires.mounted told) c.requires.names (c.requires.can told) c.in-Err.field-0 _ rest
    (run.files told)
