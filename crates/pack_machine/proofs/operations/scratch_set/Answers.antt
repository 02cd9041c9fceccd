use Rattle.std.proofs.Common.{◌∙◌, ap, sym}
use Rattle.std.specs.Prelude.{is_some}
use Rattle.dadsm_ops.specs.Operations.{InVtoc}
use Rattle.hall_core.specs.Facts.{unit_of}
use Rattle.hall_core.specs.Images.{image_in}
use Rattle.vol_model.specs.Shelf.{scratch_on}
use Rattle.vol_model.specs.declared.refusals.Refusal.TheVariants.{NoSet}
use Rattle.vtoc_sets.specs.Sets.{volume_in}
use Rattle.pack_machine.proofs.FreeRooms.{room_for_more}
use Rattle.pack_machine.proofs.Scratching.{is_accepted, name_found, operates_done, operates_failed, operates_refused, scratch_none}
use Rattle.pack_machine.proofs.operations.scratch_set.Goals as goal

pub returns-in_default-clause-files : goal.returns-in_default-clause-files
returns-in_default-clause-files g c told =
    let v = c.args.vol.now in
    let m = g.H.Hall.meaning c.args.hall.now in
    let image = image_in m (g.H.Hall.facts c.args.hall.now) v.unit in
    let mounted = c.requires.mounted told in
    operates_refused (unit_of (g.H.Hall.facts c.args.hall.now).units v.unit).name (scratch_on c.args.dsn.now) v (InVtoc v) m (g.met.H.Hall.counts_now c.args.hall.now) (volume_in image v) mounted.volume NoSet
    (scratch_none image v c.args.dsn.now mounted (sym c.find.ensures ∙ c.in_default.is))

pub scratch-requires-clause-set : goal.scratch-requires-clause-set
scratch-requires-clause-set g c = ap is_some (name_found c.args.dsn.now.bytes c.args.vol.now.slots.items c.in-Some.slot (sym c.find.ensures ∙ c.in-Some.is))

pub scratch-requires-clause-room : goal.scratch-requires-clause-room
scratch-requires-clause-room g c = room_for_more (g.H.Hall.facts c.args.hall.now).units c.args.vol.now c.requires.unit c.requires.room

pub returns-in-Ok-clause-files : goal.returns-in-Ok-clause-files
returns-in-Ok-clause-files g c told =
    operates_done _ _ _ _ _ _ c.in-Ok.field-0 tt
    (c.in-Ok.ensures.files c.args.dsn.now (name_found c.args.dsn.now.bytes c.args.vol.now.slots.items c.in-Some.slot (sym c.find.ensures ∙ c.in-Some.is)) told)

pub returns-in-Err-clause-files : goal.returns-in-Err-clause-files
returns-in-Err-clause-files g c told =
    let v = c.args.vol.now in
    let image = image_in (g.H.Hall.meaning c.args.hall.now) (g.H.Hall.facts c.args.hall.now) v.unit in
    let first = sym c.find.ensures ∙ c.in-Some.is in
    operates_failed _ _ _ _ _ _ c.in-Err.field-0 (is_accepted image v c.args.dsn.now (c.requires.mounted told) c.in-Some.slot first)
    (c.in-Err.ensures.files c.args.dsn.now (name_found c.args.dsn.now.bytes v.slots.items c.in-Some.slot first) told)
