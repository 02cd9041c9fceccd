use Rattle.std.proofs.Common.{arith}
use Rattle.dadsm_ops.specs.Operations.{InVtoc}
use Rattle.hall_core.specs.Facts.{unit_of}
use Rattle.hall_core.specs.Images.{image_in}
use Rattle.vol_model.specs.Shelf.{extend_on}
use Rattle.vtoc_sets.specs.Sets.{volume_in}
use Rattle.pack_machine.proofs.FreeRooms.{room_for_more}
use Rattle.pack_machine.proofs.Refusing.{may_be_extended}
use Rattle.pack_machine.proofs.Scratching.{name_found, operates_refused}
use Rattle.pack_machine.proofs.operations.extend_set.Goals as goal

pub returns-in-Err-clause-files : goal.returns-in-Err-clause-files
returns-in-Err-clause-files g c told =
    let v = c.args.vol.now in
    let m = g.H.Hall.meaning c.args.hall.now in
    let image = image_in m (g.H.Hall.facts c.args.hall.now) v.unit in
    let mounted = c.requires.mounted told in
    operates_refused (unit_of (g.H.Hall.facts c.args.hall.now).units v.unit).name (extend_on c.args.dsn.now) v (InVtoc v) m (g.met.H.Hall.counts_now c.args.hall.now) (volume_in image v) mounted.volume c.in-Err.refusal
    (c.in-Err.ensures.refused image mounted (c.requires.bodies told))

pub extend-requires-clause-body : goal.extend-requires-clause-body
extend-requires-clause-body g c told name is =
    let v = c.args.vol.now in
    let image = image_in (g.H.Hall.meaning c.args.hall.now) (g.H.Hall.facts c.args.hall.now) v.unit in
    may_be_extended image v c.args.dsn.now name c.in-Ok.slot c.in-Ok.ensures.slot is (c.in-Ok.ensures.readable image (c.requires.mounted told) (c.requires.bodies told))

pub extend-requires-clause-room : goal.extend-requires-clause-room
extend-requires-clause-room g c =
    let more = room_for_more (g.H.Hall.facts c.args.hall.now).units c.args.vol.now c.requires.unit c.requires.room in
    omega (arith, more)

pub returns-in-Ok-clause-files : goal.returns-in-Ok-clause-files
returns-in-Ok-clause-files g c told = c.extend.ensures.files c.args.dsn.now (name_found c.args.dsn.now.bytes c.args.vol.now.slots.items c.in-Ok.slot c.in-Ok.ensures.slot) told

pub returns-in-Ok-clause-refused : goal.returns-in-Ok-clause-refused
returns-in-Ok-clause-refused g c r is = (c.extend.ensures.refused r is).1
