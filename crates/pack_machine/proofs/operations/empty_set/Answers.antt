use Rattle.std.proofs.Common.{ap}
use Rattle.std.specs.Prelude.{is_some}
use Rattle.dadsm_ops.specs.Operations.{InVtoc}
use Rattle.hall_core.specs.Facts.{unit_of}
use Rattle.hall_core.specs.Images.{image_in}
use Rattle.vol_model.specs.Shelf.{empty_on}
use Rattle.vtoc_sets.specs.Sets.{volume_in}
use Rattle.pack_machine.proofs.Refusing.{accepts, may_be_emptied}
use Rattle.pack_machine.proofs.Scratching.{name_found, operates_done, operates_error, operates_failed}
use Rattle.pack_machine.proofs.operations.empty_set.Goals as goal

pub returns-in-Err-clause-files : goal.returns-in-Err-clause-files
returns-in-Err-clause-files g c told =
    let v = c.args.vol.now in
    let m = g.H.Hall.meaning c.args.hall.now in
    let image = image_in m (g.H.Hall.facts c.args.hall.now) v.unit in
    let mounted = c.requires.mounted told in
    operates_error (unit_of (g.H.Hall.facts c.args.hall.now).units v.unit).name (empty_on c.args.dsn.now c.args.attr.now) v (InVtoc v) m (g.met.H.Hall.counts_now c.args.hall.now) (volume_in image v) mounted.volume c.in-Err.error
    (c.in-Err.ensures.refused image c.args.attr.now mounted (c.requires.bodies told) (c.requires.library told))

pub empty-requires-clause-set : goal.empty-requires-clause-set
empty-requires-clause-set g c = ap is_some (name_found c.args.dsn.now.bytes c.args.vol.now.slots.items c.in-Ok.slot c.in-Ok.ensures.slot)

pub empty-requires-clause-kind : goal.empty-requires-clause-kind
empty-requires-clause-kind g c dsn is told =
    let v = c.args.vol.now in
    let mounted = c.requires.mounted told in
    may_be_emptied _ v c.args.dsn.now dsn c.args.attr.now c.in-Ok.slot mounted c.in-Ok.ensures.slot is (c.in-Ok.ensures.accepted _ c.args.attr.now mounted (c.requires.bodies told) (c.requires.library told))

pub returns-in-Ok-empty-clause-files : goal.returns-in-Ok-empty-clause-files
returns-in-Ok-empty-clause-files g c told =
    operates_done _ _ _ _ _ _ c.in-Ok-empty.field-0 tt
    (c.in-Ok-empty.ensures.files c.args.dsn.now (name_found c.args.dsn.now.bytes c.args.vol.now.slots.items c.in-Ok.slot c.in-Ok.ensures.slot) told)

pub returns-in-Err-empty-clause-files : goal.returns-in-Err-empty-clause-files
returns-in-Err-empty-clause-files g c told =
    let v = c.args.vol.now in
    let mounted = c.requires.mounted told in
    operates_failed _ _ _ _ _ _ c.in-Err-empty.field-0
    (accepts _ v (empty_on c.args.dsn.now c.args.attr.now) mounted (c.in-Ok.ensures.accepted _ c.args.attr.now mounted (c.requires.bodies told) (c.requires.library told)))
    (c.in-Err-empty.ensures.files c.args.dsn.now (name_found c.args.dsn.now.bytes v.slots.items c.in-Ok.slot c.in-Ok.ensures.slot) told)
