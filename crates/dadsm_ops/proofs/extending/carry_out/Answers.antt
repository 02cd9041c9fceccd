use Rattle.std.proofs.Common.{IsTrue, ◌≡◌, ◌≤◌, ◌∙◌, ℕ, List, true, ap, refl, subst, sym}
use Rattle.std.specs.Prelude.{Ok, slice_index_or}
use Rattle.std.specs.Vec.{vec_capacity}
use Rattle.dscb_codec.specs.declared.Dscb.TheVariants as formats
use Rattle.hall_core.specs.Facts.{unit_of}
use Rattle.hall_core.specs.declared.steps.Device.{Device}
use Rattle.pack_spec.specs.Settled.{IsMarked}
use Rattle.pack_spec.specs.Slots.{slots_of_vtoc}
use Rattle.pack_spec.specs.Volume.{attr_of}
use Rattle.space_alloc.specs.Units.{listed}
use Rattle.vol_model.specs.Shelf.{extend_on}
use Rattle.vtoc_index.specs.Bits.{with_bit}
use Rattle.vtoc_index.specs.Index.{IsMounted}
use Rattle.vtoc_index.specs.declared.vol.Vol.{Vol}
use Rattle.free_rebuild.specs.Updates.{Concludes, Marks}
use Rattle.free_rebuild.proofs.NameLemmas.{names_kept}
use Rattle.free_rebuild.proofs.RunCounts.{low_tracks}
use Rattle.dadsm_ops.specs.Allocating.{Decides, open_slots}
use Rattle.dadsm_ops.specs.Extending.{HasExtension, HoldAdded, IsReadable, added_type, further_slots}
use Rattle.dadsm_ops.specs.Operations.{HasVtocOf, InVtoc, image_named}
use Rattle.dadsm_ops.proofs.ExtendedNames.{set_marked}
use Rattle.dadsm_ops.proofs.ExtendedIndex.{changes_then, only_slots, same_vtoc}
use Rattle.dadsm_ops.proofs.ExtensionPlans.{further_room, readable_stays, still_extended}
use Rattle.dadsm_ops.proofs.NewIndex.{room_kept, room_then, slots_changed, vtoc_then}
use Rattle.dadsm_ops.proofs.NewSetCalls.{decided_marked, name_kept, open_marked, still_marked}
use Rattle.dadsm_ops.proofs.UpdateEnds.{ends, ends_deciding, ends_marking, ends_writing}
use Rattle.dadsm_ops.proofs.Updating.{vtoc_goes_on}
use Rattle.dadsm_ops.proofs.extending.carry_out.Given.{Over}
use Rattle.dadsm_ops.proofs.extending.carry_out.Goals.{After-put_added-arg-2-1, After-put_extended-arg-2-1}
use Rattle.dadsm_ops.proofs.extending.carry_out.Goals as goal

-- ---- what was done so far: the mark, the format 3, the format 1

marked_name : (g : Over) (c : After-put_added-arg-2-1 g) → (unit_of (g.H.Hall.facts c.mark.new.hall).units c.mark.new.vol.unit).name ≡ (unit_of (g.H.Hall.facts c.args.hall.now).units c.args.vol.now.unit).name
marked_name g c = name_kept (g.H.Hall.facts c.args.hall.now).units (g.H.Hall.facts c.mark.new.hall).units c.args.vol.now c.mark.new.vol c.in_ok-mark.ensures.faults.units (slots_changed c.args.vol.now c.mark.new.vol c.mark.ensures.others)

record HasAdded (g : Over) (c : After-put_extended-arg-2-1 g) : Type 0 where
  same : HasVtocOf c.args.vol.now c.put_added.new.vol
  name : (unit_of (g.H.Hall.facts c.put_added.new.hall).units c.put_added.new.vol.unit).name ≡ (unit_of (g.H.Hall.facts c.args.hall.now).units c.args.vol.now.unit).name
  room : vec_capacity c.put_added.new.vol.free ≡ vec_capacity c.args.vol.now.free

added : (g : Over) (c : After-put_extended-arg-2-1 g) → HasAdded g c
added g c =
    let v0 = c.args.vol.now in
    let v1 = c.mark.new.vol in
    let v2 = c.put_added.new.vol in
    let first = slots_changed v0 v1 c.mark.ensures.others in
    let next = slots_changed v1 v2 c.put_added.ensures.others in
    record {
      same = vtoc_then v0 v1 v2 first next;
      name = name_kept (g.H.Hall.facts c.mark.new.hall).units (g.H.Hall.facts c.put_added.new.hall).units v1 v2 c.in_ok-pointer.ensures.faults.units next ∙ name_kept (g.H.Hall.facts c.args.hall.now).units (g.H.Hall.facts c.mark.new.hall).units v0 v1 c.in_ok-mark.ensures.faults.units first;
      room = room_kept v1 v2 c.put_added.ensures.others ∙ room_kept v0 v1 c.mark.ensures.others;
    }

more : (g : Over) (c : After-put_extended-arg-2-1 g) → (unit_of (g.H.Hall.facts c.mark.new.hall).units c.mark.new.vol.unit).name ≡ (unit_of (g.H.Hall.facts c.args.hall.now).units c.args.vol.now.unit).name → IsTrue g.H.Hall.tells → Marks {T = List ℕ} {E = Device} (unit_of (g.H.Hall.facts c.args.hall.now).units c.args.vol.now.unit).name c.put_added.new.vol (g.H.Hall.meaning c.mark.new.hall) (g.H.Hall.meaning c.put_added.new.hall) (Ok c.in_ok-pointer.pointer)
more g c by told = subst (λ (n : List ℕ). Marks {T = List ℕ} {E = Device} n c.put_added.new.vol (g.H.Hall.meaning c.mark.new.hall) (g.H.Hall.meaning c.put_added.new.hall) (Ok c.in_ok-pointer.pointer)) by (c.in_ok-pointer.ensures.files told)

-- ---- how it ends

pub returns-in_err-mark-clause-files : goal.returns-in_err-mark-clause-files
returns-in_err-mark-clause-files g c dsn is told =
    let v0 = c.args.vol.now in
    ends_marking (unit_of (g.H.Hall.facts c.args.hall.now).units c.args.vol.now.unit).name (extend_on dsn) v0 c.mark.new.vol (g.H.Hall.meaning c.args.hall.now) (c.requires.mounted told)
    (slots_changed v0 c.mark.new.vol c.mark.ensures.others) (InVtoc c.mark.new.vol) (vtoc_goes_on c.mark.new.vol _) c.from_residual.result c.from_residual.ensures.0 (c.mark.ensures.files told)

pub returns-in_err-pointer-clause-files : goal.returns-in_err-pointer-clause-files
returns-in_err-pointer-clause-files g c dsn is told =
    let v0 = c.args.vol.now in
    let v1 = c.mark.new.vol in
    let v2 = c.put_added.new.vol in
    let here = subst (λ (n : List ℕ). Marks {T = List ℕ} {E = Device} n v2 (g.H.Hall.meaning c.mark.new.hall) (g.H.Hall.meaning c.put_added.new.hall) c.put_added.result) (marked_name g (goal.at.returns-in_err-pointer-clause-files g c).After-put_added-arg-2-1) (c.put_added.ensures.files told) in
    ends_writing (unit_of (g.H.Hall.facts c.args.hall.now).units c.args.vol.now.unit).name (extend_on dsn) v0 v2 (g.H.Hall.meaning c.args.hall.now) (c.requires.mounted told) (vtoc_then v0 v1 v2 (slots_changed v0 v1 c.mark.ensures.others) (slots_changed v1 v2 c.put_added.ensures.others)) (InVtoc v2) (vtoc_goes_on v2 _)
    (c.in_ok-mark.ensures.files told) c.from_residual-in_err-pointer.result c.from_residual-in_err-pointer.ensures.0 here

pub returns-in_err-put_extended-clause-files : goal.returns-in_err-put_extended-clause-files
returns-in_err-put_extended-clause-files g c dsn is told =
    let at = goal.at.returns-in_err-put_extended-clause-files g c in
    let w = at.After-put_extended-arg-2-1 in
    let v0 = c.args.vol.now in
    let v2 = c.put_added.new.vol in
    let v3 = c.put_extended.new.vol in
    let decides = subst (λ (n : List ℕ). Decides {T = Unit {0}} {E = Device} n (extend_on dsn) v3 (g.H.Hall.meaning c.put_added.new.hall) (g.H.Hall.meaning c.put_extended.new.hall) c.put_extended.result) (added g w).name (c.put_extended.ensures.files dsn is told) in
    ends_deciding (unit_of (g.H.Hall.facts c.args.hall.now).units c.args.vol.now.unit).name (extend_on dsn) v0 v3 (g.H.Hall.meaning c.args.hall.now) (c.requires.mounted told) (vtoc_then v0 v2 v3 (added g w).same (same_vtoc v2 v3 c.put_extended.ensures.index)) (InVtoc v3) (vtoc_goes_on v3 _)
    (c.in_ok-mark.ensures.files told) (more g w (marked_name g at.After-put_added-arg-2-1) told) c.from_residual-in_err-put_extended.result c.from_residual-in_err-put_extended.ensures.0 decides

pub returns-clause-files : goal.returns-clause-files
returns-clause-files g c dsn is told =
    let at = goal.at.returns-clause-files g c in
    let w = at.After-put_extended-arg-2-1 in
    let two = added g w in
    let v0 = c.args.vol.now in
    let v2 = c.put_added.new.vol in
    let v3 = c.put_extended.new.vol in
    let m3 = g.H.Hall.meaning c.put_extended.new.hall in
    let v4 = c.conclude.new.vol in
    let three = same_vtoc v2 v3 c.put_extended.ensures.index in
    let by3 = name_kept (g.H.Hall.facts c.put_added.new.hall).units (g.H.Hall.facts c.put_extended.new.hall).units v2 v3 c.in_ok-put_extended.ensures.faults.units three ∙ two.name in
    let decides = subst (λ (n : List ℕ). Decides {T = Unit {0}} {E = Device} n (extend_on dsn) v3 (g.H.Hall.meaning c.put_added.new.hall) m3 (Ok tt)) two.name (c.in_ok-put_extended.ensures.files dsn is told) in
    let concludes = subst (λ (n : List ℕ). Concludes {T = Unit {0}} {E = Device} n v4 m3 (g.H.Hall.meaning c.conclude.new.hall) c.conclude.result) by3 (c.conclude.ensures.files told) in
    ends (unit_of (g.H.Hall.facts c.args.hall.now).units c.args.vol.now.unit).name (extend_on dsn) v0 v4 (g.H.Hall.meaning c.args.hall.now) (c.requires.mounted told) (vtoc_then v0 v2 v4 two.same (vtoc_then v2 v3 v4 three (slots_changed v3 v4 c.conclude.ensures.others))) (InVtoc v4) (vtoc_goes_on v4 _)
    (c.in_ok-mark.ensures.files told) (more g w (marked_name g at.After-put_added-arg-2-1) told) c.conclude.result decides concludes

pub returns-clause-index : goal.returns-clause-index
returns-clause-index g c =
    let v1 = c.mark.new.vol in
    let v2 = c.put_added.new.vol in
    let v4 = c.conclude.new.vol in
    changes_then c.args.vol.now v1 v4 (only_slots c.args.vol.now v1 c.mark.ensures.others) (changes_then v1 v2 v4 (only_slots v1 v2 c.put_added.ensures.others) (changes_then v2 c.put_extended.new.vol v4 c.put_extended.ensures.index (only_slots c.put_extended.new.vol v4 c.conclude.ensures.others)))

pub returns-in_err-put_extended-clause-index : goal.returns-in_err-put_extended-clause-index
returns-in_err-put_extended-clause-index g c =
    let v1 = c.mark.new.vol in
    changes_then c.args.vol.now v1 c.put_extended.new.vol (only_slots c.args.vol.now v1 c.mark.ensures.others) (changes_then v1 c.put_added.new.vol c.put_extended.new.vol (only_slots v1 c.put_added.new.vol c.put_added.ensures.others) c.put_extended.ensures.index)

pub returns-in_err-pointer-clause-index : goal.returns-in_err-pointer-clause-index
returns-in_err-pointer-clause-index g c =
    let v1 = c.mark.new.vol in
    changes_then c.args.vol.now v1 c.put_added.new.vol (only_slots c.args.vol.now v1 c.mark.ensures.others) (only_slots v1 c.put_added.new.vol c.put_added.ensures.others)

pub returns-in_err-mark-clause-index : goal.returns-in_err-mark-clause-index
returns-in_err-mark-clause-index g c = only_slots c.args.vol.now c.mark.new.vol c.mark.ensures.others

-- ---- the format 3

pub put_added-requires-clause-set : goal.put_added-requires-clause-set
put_added-requires-clause-set g c = set_marked c.args.vol.now.slots.items c.mark.new.vol.slots.items c.args.slot c.args.set.now c.requires.set c.in_ok-mark.ensures.index.items

pub put_added-requires-clause-slots : goal.put_added-requires-clause-slots
put_added-requires-clause-slots g c told =
    let v0 = c.args.vol.now in
    let f0 = g.H.Hall.facts c.args.hall.now in
    let runs = listed c.args.extents.now in
    let room = further_room (image_named (g.H.Hall.meaning c.args.hall.now).state (unit_of f0.units v0.unit).name) v0 (c.requires.mounted told) c.args.slot c.args.set.now c.requires.set (low_tracks f0.units v0 c.requires.unit) (c.requires.settled told) runs (c.requires.plan told) in
    let same : open_slots c.mark.new.vol.slots.items ≡ open_slots v0.slots.items = ap open_slots c.in_ok-mark.ensures.index.items ∙ open_marked v0.slots.items (with_bit true (slice_index_or v0.slots.items 0 formats.F0)) in
    subst (λ (n : ℕ). further_slots c.args.set.now.extents runs ≤ n) (sym same) room

pub put_added-requires-clause-mounted : goal.put_added-requires-clause-mounted
put_added-requires-clause-mounted g c told = subst (λ (n : List ℕ). IsMounted (image_named (g.H.Hall.meaning c.mark.new.hall).state n) c.mark.new.vol) (sym (marked_name g c)) (c.in_ok-mark.ensures.files told).index

pub put_added-requires-clause-marked : goal.put_added-requires-clause-marked
put_added-requires-clause-marked g c told =
    let v1 = c.mark.new.vol in
    let m1 = g.H.Hall.meaning c.mark.new.hall in
    subst (λ (n : List ℕ). IsMarked (slots_of_vtoc (image_named m1.state n) v1.geometry v1.vtoc)) (sym (marked_name g c)) (still_marked (unit_of (g.H.Hall.facts c.args.hall.now).units c.args.vol.now.unit).name v1 (g.H.Hall.meaning c.args.hall.now) m1 (c.in_ok-mark.ensures.files told))

pub put_added-requires-clause-durable : goal.put_added-requires-clause-durable
put_added-requires-clause-durable g c told = (c.in_ok-mark.ensures.files told).durable

-- ---- the format 1

pub put_extended-requires-clause-names : goal.put_extended-requires-clause-names
put_extended-requires-clause-names g c =
    names_kept c.mark.new.vol c.put_added.new.vol c.put_added.ensures.others c.in_ok-pointer.ensures.names (c.in_ok-mark.ensures.names c.requires.names)

pub put_extended-requires-clause-room : goal.put_extended-requires-clause-room
put_extended-requires-clause-room g c = room_then c.mark.new.vol c.put_added.new.vol c.put_added.ensures.others (room_then c.args.vol.now c.mark.new.vol c.mark.ensures.others c.requires.room)

pub put_extended-requires-clause-plan : goal.put_extended-requires-clause-plan
put_extended-requires-clause-plan g c told =
    let runs = listed c.args.extents.now in
    let by = marked_name g (goal.at.put_extended-requires-clause-plan g c).After-put_added-arg-2-1 in
    subst (λ (n : List ℕ). HasExtension (image_named (g.H.Hall.meaning c.put_added.new.hall).state n) c.args.set.now runs) (sym (added g c).name)
    (still_extended (unit_of (g.H.Hall.facts c.args.hall.now).units c.args.vol.now.unit).name c.put_added.new.vol (g.H.Hall.meaning c.mark.new.hall) (g.H.Hall.meaning c.put_added.new.hall) (more g c by told) c.args.set.now runs (still_extended (unit_of (g.H.Hall.facts c.args.hall.now).units c.args.vol.now.unit).name c.mark.new.vol (g.H.Hall.meaning c.args.hall.now) (g.H.Hall.meaning c.mark.new.hall) (c.in_ok-mark.ensures.files told) c.args.set.now runs (c.requires.plan told)))

pub put_extended-requires-clause-body : goal.put_extended-requires-clause-body
put_extended-requires-clause-body g c told =
    let set = c.args.set.now.name in
    let by = marked_name g (goal.at.put_extended-requires-clause-body g c).After-put_added-arg-2-1 in
    subst (λ (n : List ℕ). IsReadable (image_named (g.H.Hall.meaning c.put_added.new.hall).state n) set) (sym (added g c).name)
    (readable_stays (unit_of (g.H.Hall.facts c.args.hall.now).units c.args.vol.now.unit).name c.put_added.new.vol (g.H.Hall.meaning c.mark.new.hall) (g.H.Hall.meaning c.put_added.new.hall) (more g c by told) set (readable_stays (unit_of (g.H.Hall.facts c.args.hall.now).units c.args.vol.now.unit).name c.mark.new.vol (g.H.Hall.meaning c.args.hall.now) (g.H.Hall.meaning c.mark.new.hall) (c.in_ok-mark.ensures.files told) set (c.requires.body told)))

pub put_extended-requires-clause-added : goal.put_extended-requires-clause-added
put_extended-requires-clause-added g c told =
    subst (λ (x : Vol). HoldAdded (slots_of_vtoc (image_named (g.H.Hall.meaning c.put_added.new.hall).state (unit_of (g.H.Hall.facts c.put_added.new.hall).units x.unit).name) x.geometry x.vtoc) x.geometry (added_type (attr_of c.args.set.now)) c.args.slot c.args.set.now (listed c.args.extents.now) c.in_ok-pointer.pointer) (sym c.put_added.ensures.others)
    (c.in_ok-pointer.ensures.added told)

pub put_extended-requires-clause-mounted : goal.put_extended-requires-clause-mounted
put_extended-requires-clause-mounted g c told =
    let v2 = c.put_added.new.vol in
    let by = name_kept (g.H.Hall.facts c.mark.new.hall).units (g.H.Hall.facts c.put_added.new.hall).units c.mark.new.vol v2 c.in_ok-pointer.ensures.faults.units (slots_changed c.mark.new.vol v2 c.put_added.ensures.others) in
    subst (λ (n : List ℕ). IsMounted (image_named (g.H.Hall.meaning c.put_added.new.hall).state n) v2) (sym by) (c.in_ok-pointer.ensures.files told).index

pub put_extended-requires-clause-marked : goal.put_extended-requires-clause-marked
put_extended-requires-clause-marked g c told =
    let v1 = c.mark.new.vol in
    let f1 = g.H.Hall.facts c.mark.new.hall in
    let v2 = c.put_added.new.vol in
    let m2 = g.H.Hall.meaning c.put_added.new.hall in
    let by = name_kept f1.units (g.H.Hall.facts c.put_added.new.hall).units v1 v2 c.in_ok-pointer.ensures.faults.units (slots_changed v1 v2 c.put_added.ensures.others) in
    subst (λ (n : List ℕ). IsMarked (slots_of_vtoc (image_named m2.state n) v2.geometry v2.vtoc)) (sym by)
    (still_marked (unit_of f1.units v1.unit).name v2 (g.H.Hall.meaning c.mark.new.hall) m2 (c.in_ok-pointer.ensures.files told))

pub put_extended-requires-clause-durable : goal.put_extended-requires-clause-durable
put_extended-requires-clause-durable g c told = (c.in_ok-pointer.ensures.files told).durable

-- ---- the end of the update

pub conclude-requires-clause-mounted : goal.conclude-requires-clause-mounted
conclude-requires-clause-mounted g c told =
    let v3 = c.put_extended.new.vol in
    let by = name_kept (g.H.Hall.facts c.put_added.new.hall).units (g.H.Hall.facts c.put_extended.new.hall).units c.put_added.new.vol v3 c.in_ok-put_extended.ensures.faults.units (same_vtoc c.put_added.new.vol v3 c.put_extended.ensures.index) in
    subst (λ (n : List ℕ). IsMounted (image_named (g.H.Hall.meaning c.put_extended.new.hall).state n) v3) (sym by) (c.in_ok-put_extended.ensures.files (record { bytes = c.args.set.now.name }) refl told).index

pub conclude-requires-clause-marked : goal.conclude-requires-clause-marked
conclude-requires-clause-marked g c told =
    let v2 = c.put_added.new.vol in
    let f2 = g.H.Hall.facts c.put_added.new.hall in
    let v3 = c.put_extended.new.vol in
    let m3 = g.H.Hall.meaning c.put_extended.new.hall in
    let by = name_kept f2.units (g.H.Hall.facts c.put_extended.new.hall).units v2 v3 c.in_ok-put_extended.ensures.faults.units (same_vtoc v2 v3 c.put_extended.ensures.index) in
    subst (λ (n : List ℕ). IsMarked (slots_of_vtoc (image_named m3.state n) v3.geometry v3.vtoc)) (sym by)
    (decided_marked (unit_of f2.units v2.unit).name (extend_on (record { bytes = c.args.set.now.name })) v3 (g.H.Hall.meaning c.put_added.new.hall) m3 (c.in_ok-put_extended.ensures.files (record { bytes = c.args.set.now.name }) refl told))

pub conclude-requires-clause-durable : goal.conclude-requires-clause-durable
conclude-requires-clause-durable g c told = (c.in_ok-put_extended.ensures.files (record { bytes = c.args.set.now.name }) refl told).durable

pub returns-clause-names : goal.returns-clause-names
returns-clause-names g c = c.conclude.ensures.names c.in_ok-put_extended.ensures.names

-- ---- the room of the list of free runs

pub returns-in_err-mark-clause-room : goal.returns-in_err-mark-clause-room
returns-in_err-mark-clause-room g c = room_kept c.args.vol.now c.mark.new.vol c.mark.ensures.others

pub returns-in_err-pointer-clause-room : goal.returns-in_err-pointer-clause-room
returns-in_err-pointer-clause-room g c = room_kept c.mark.new.vol c.put_added.new.vol c.put_added.ensures.others ∙ room_kept c.args.vol.now c.mark.new.vol c.mark.ensures.others

pub returns-in_err-put_extended-clause-room : goal.returns-in_err-put_extended-clause-room
returns-in_err-put_extended-clause-room g c = c.put_extended.ensures.room ∙ (added g (goal.at.returns-in_err-put_extended-clause-room g c).After-put_extended-arg-2-1).room

pub returns-clause-room : goal.returns-clause-room
returns-clause-room g c =
    room_kept c.put_extended.new.vol c.conclude.new.vol c.conclude.ensures.others ∙ c.put_extended.ensures.room ∙ (added g (goal.at.returns-clause-room g c).After-put_extended-arg-2-1).room
