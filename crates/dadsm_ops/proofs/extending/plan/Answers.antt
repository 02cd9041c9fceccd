use Rattle.std.proofs.Common.{◌≡◌, ◌+◌, ◌/◌, ◌≤◌, ◌<◌, max, length, arith}
use Rattle.space_alloc.specs.Units.{listed}
use Rattle.dadsm_ops.specs.Extending.{further_slots}
use Rattle.dadsm_ops.proofs.ExtensionRefusals.{extension_fits, slots_refused}
use Rattle.dadsm_ops.proofs.NewPlans.{without_few}
use Rattle.dadsm_ops.proofs.extending.plan.Goals as goal

pub slots_for-slots-requires-clause-runs : goal.slots_for-slots-requires-clause-runs
slots_for-slots-requires-clause-runs c =
    let few = without_few c.args.vol.now (listed c.in_ok-extents.extents) c.runs_left.ensures.0 c.requires.unit c.runs_left.ensures.1 in
    omega (arith, few, c.runs_left.ensures.2)

pub returns-then-slots-len-clause-refused : goal.returns-then-slots-len-clause-refused
returns-then-slots-len-clause-refused c =
    let v = c.args.vol.now in
    let set = c.args.set.now in
    let runs = listed c.in_ok-extents.extents in
    let left = c.runs_left.ensures.0 in
    let total = c.slots_for-slots.result in
    let all : total ≡ 1 + max 1 ((length left + 25) / 26) + (c.slots_of_sets.result + further_slots set.extents runs) =
    omega (arith, c.slots_for-slots.ensures, c.further_slots.ensures.slots, c.runs_left.ensures.2) in
    let more : length v.slots.items < total = omega (arith, c.if-slots-len.true, c.len.ensures, c.args.vol.now.slots.ok) in
    slots_refused v set runs c.in_ok-extents.ensures.more left c.runs_left.ensures.1 c.slots_of_sets.result total c.slots_of_sets.ensures.slots all more

pub returns-clause-plan : goal.returns-clause-plan
returns-clause-plan c image slot mounted there =
    let v = c.args.vol.now in
    let set = c.args.set.now in
    let runs = listed c.in_ok-extents.extents in
    let left = c.runs_left.ensures.0 in
    let total = c.slots_for-slots.result in
    let all : total ≡ 1 + max 1 ((length left + 25) / 26) + (c.slots_of_sets.result + further_slots set.extents runs) =
    omega (arith, c.slots_for-slots.ensures, c.further_slots.ensures.slots, c.runs_left.ensures.2) in
    let enough : total ≤ length v.slots.items = omega (arith, c.if-slots-len.false, c.len.ensures, c.args.vol.now.slots.ok) in
    extension_fits v set runs c.in_ok-extents.ensures.more left c.runs_left.ensures.1 c.slots_of_sets.result total c.slots_of_sets.ensures.slots all enough image slot mounted there
