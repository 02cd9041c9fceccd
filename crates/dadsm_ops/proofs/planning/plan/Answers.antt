use Rattle.std.proofs.Common.{◌≡◌, ◌+◌, ◌/◌, ◌≤◌, ◌<◌, true, false, max, length, sym, ap, ◌∙◌, arith}
use Rattle.pack_spec.specs.Volume.{volume_by}
use Rattle.space_alloc.specs.Units.{listed}
use Rattle.vol_model.specs.declared.contents.Volume.{Volume}
use Rattle.vol_model.specs.Places.{tracks_in}
use Rattle.vol_model.specs.Shelf.{lacks_room}
use Rattle.dadsm_ops.specs.Allocating.{own_slots}
use Rattle.dadsm_ops.proofs.NewPlans.{plan_crowded, plan_fits, plan_full, without_few}
use Rattle.dadsm_ops.proofs.planning.plan.Goals as goal

pub slots_for-slots-requires-clause-runs : goal.slots_for-slots-requires-clause-runs
slots_for-slots-requires-clause-runs c =
    let few = without_few c.args.vol.now (listed c.in_ok-extents.extents) c.runs_left.ensures.0 c.requires.unit c.runs_left.ensures.1 in
    omega (arith, few, c.runs_left.ensures.2)

pub returns-then-slots-len-clause-refused : goal.returns-then-slots-len-clause-refused
returns-then-slots-len-clause-refused c image volume mounted stands =
    let v = c.args.vol.now in
    let runs = listed c.in_ok-extents.extents in
    let left = c.runs_left.ensures.0 in
    let total = c.slots_for-slots.result in
    let all : total ≡ 1 + max 1 ((length left + 25) / 26) + (c.slots_of_sets.result + own_slots runs) =
    omega (arith, c.slots_for-slots.ensures, c.own_slots.ensures.slots, c.runs_left.ensures.2) in
    let more : length v.slots.items < total = omega (arith, c.if-slots-len.true, c.len.ensures, c.args.vol.now.slots.ok) in
    plan_full image v volume mounted stands c.args.dsn.now c.args.attr.now c.args.request.now c.args.dir runs left c.runs_left.ensures.1 c.slots_of_sets.result total (c.slots_of_sets.ensures.slots image mounted) all
    (c.in_ok-extents.ensures.chosen image volume mounted stands) more

pub returns-then-lacks_room-clause-refused : goal.returns-then-lacks_room-clause-refused
returns-then-lacks_room-clause-refused c image volume mounted stands =
    let v = c.args.vol.now in
    let runs = listed c.in_ok-extents.extents in
    let left = c.runs_left.ensures.0 in
    let total = c.slots_for-slots.result in
    let all : total ≡ 1 + max 1 ((length left + 25) / 26) + (c.slots_of_sets.result + own_slots runs) =
    omega (arith, c.slots_for-slots.ensures, c.own_slots.ensures.slots, c.runs_left.ensures.2) in
    let enough : total ≤ length v.slots.items = omega (arith, c.if-slots-len.false, c.len.ensures, c.args.vol.now.slots.ok) in
    let crowded : lacks_room v.geometry.device c.args.dsn.now.bytes c.args.dir (tracks_in runs) ≡ true =
    ap (lacks_room v.geometry.device c.args.dsn.now.bytes c.args.dir) (sym c.tracks_of.ensures) ∙ sym (c.lacks_room.ensures c.args.dsn.now.bytes c.requires.catalog) ∙ c.if-lacks_room.true in
    plan_crowded image v volume mounted stands c.args.dsn.now c.args.attr.now c.args.request.now c.args.dir runs left c.runs_left.ensures.1 c.slots_of_sets.result total (c.slots_of_sets.ensures.slots image mounted) all
    enough (c.in_ok-extents.ensures.chosen image volume mounted stands) crowded

pub returns-clause-room : goal.returns-clause-room
returns-clause-room c =
    let v = c.args.vol.now in
    ap (lacks_room v.geometry.device c.args.dsn.now.bytes c.args.dir) (sym c.tracks_of.ensures) ∙ sym (c.lacks_room.ensures c.args.dsn.now.bytes c.requires.catalog) ∙ c.if-lacks_room.false

pub returns-clause-plan : goal.returns-clause-plan
returns-clause-plan c image mounted =
    let v = c.args.vol.now in
    let volume : Volume = volume_by image v.geometry v.vtoc in
    let runs = listed c.in_ok-extents.extents in
    let left = c.runs_left.ensures.0 in
    let total = c.slots_for-slots.result in
    let all : total ≡ 1 + max 1 ((length left + 25) / 26) + (c.slots_of_sets.result + own_slots runs) =
    omega (arith, c.slots_for-slots.ensures, c.own_slots.ensures.slots, c.runs_left.ensures.2) in
    let enough : total ≤ length v.slots.items = omega (arith, c.if-slots-len.false, c.len.ensures, c.args.vol.now.slots.ok) in
    let roomy : lacks_room v.geometry.device c.args.dsn.now.bytes c.args.dir (tracks_in runs) ≡ false =
    ap (lacks_room v.geometry.device c.args.dsn.now.bytes c.args.dir) (sym c.tracks_of.ensures) ∙ sym (c.lacks_room.ensures c.args.dsn.now.bytes c.requires.catalog) ∙ c.if-lacks_room.false in
    plan_fits image v volume mounted mounted.volume c.args.dsn.now c.args.attr.now c.args.request.now c.args.dir runs left c.runs_left.ensures.1 c.slots_of_sets.result total (c.slots_of_sets.ensures.slots image mounted) all
    enough (c.in_ok-extents.ensures.chosen image volume mounted mounted.volume) roomy
