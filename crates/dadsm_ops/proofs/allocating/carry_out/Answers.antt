use Rattle.std.proofs.Common.{IsTrue, ◌≡◌, ◌≤◌, ◌<◌, ◌∙◌, ℕ, List, true, ap, subst, sym}
use Rattle.std.specs.Prelude.{Ok, length, slice_index_or, vec_len}
use Rattle.std.specs.Vec.{vec_capacity}
use Rattle.dscb_codec.specs.declared.Dscb.TheVariants as formats
use Rattle.hall_core.specs.Facts.{Attached, unit_of}
use Rattle.hall_core.specs.declared.steps.Device.{Device}
use Rattle.space_alloc.specs.Units.{listed}
use Rattle.pack_spec.specs.Blocks.{owned_tracks}
use Rattle.pack_spec.specs.Settled.{IsMarked}
use Rattle.pack_spec.specs.Slots.{slots_of_vtoc}
use Rattle.vol_model.specs.Places.{directory_end}
use Rattle.vol_model.specs.Shelf.{allocate_on}
use Rattle.vtoc_index.specs.Bits.{with_bit}
use Rattle.vtoc_index.specs.Index.{IsMounted}
use Rattle.vtoc_index.specs.declared.vol.Vol.{Vol}
use Rattle.free_rebuild.specs.Updates.{Concludes, Marks}
use Rattle.free_rebuild.proofs.NameLemmas.{mark_names, names_kept}
use Rattle.free_rebuild.proofs.RunCounts.{low_tracks}
use Rattle.pack_spec.specs.declared.slot.VtocSlot.{VtocSlot}
use Rattle.dadsm_ops.specs.Allocating.{AreTracksOf, Decides, HasDirectory, HasPlan, HasFurtherIfMany, InNewSet, IsNewName, PutsDirectory, extent_type, open_slots, own_slots}
use Rattle.dadsm_ops.specs.Operations.{HasVtocOf, image_named}
use Rattle.dadsm_ops.proofs.DirectorySets.{planned_spare, puts_slots, room_there}
use Rattle.dadsm_ops.proofs.KeptDirectories.{directory_done}
use Rattle.dadsm_ops.proofs.NewIndex.{buffer_changed, room_kept, room_then, slots_changed, vtoc_then}
use Rattle.dadsm_ops.proofs.NewNames.{absent_same}
use Rattle.dadsm_ops.proofs.NewSetCalls.{decided_marked, name_kept, open_marked, plan_room, puts_marked, puts_planned, still_marked, still_planned}
use Rattle.dadsm_ops.proofs.NewSetChanges.{set_goes_on, set_onto}
use Rattle.dadsm_ops.proofs.UpdateEnds.{ends_formatting, ends_marking, ends_new, ends_set, ends_writing}
use Rattle.dadsm_ops.proofs.allocating.carry_out.Given.{Over}
use Rattle.dadsm_ops.proofs.allocating.carry_out.Goals.{After-conclude-arg-2-1, After-put_directory-arg-2-1, After-put_further-arg-2-1, After-put_set-arg-2-1}
use Rattle.dadsm_ops.proofs.allocating.carry_out.Goals as goal

-- ---- what was done so far: the mark, the format 3, the directory, the format 1

marked_index : (g : Over) (c : After-put_further-arg-2-1 g) → HasVtocOf c.args.vol.now c.mark.new.vol
marked_index g c = slots_changed c.args.vol.now c.mark.new.vol c.mark.ensures.others

marked_name : (g : Over) (c : After-put_further-arg-2-1 g) → (unit_of (g.H.Hall.facts c.mark.new.hall).units c.mark.new.vol.unit).name ≡ (unit_of (g.H.Hall.facts c.args.hall.now).units c.args.vol.now.unit).name
marked_name g c = name_kept (g.H.Hall.facts c.args.hall.now).units (g.H.Hall.facts c.mark.new.hall).units c.args.vol.now c.mark.new.vol c.in_ok-mark.ensures.faults.units (slots_changed c.args.vol.now c.mark.new.vol c.mark.ensures.others)

record HasFurther (g : Over) (c : After-put_directory-arg-2-1 g) : Type 0 where
  same : HasVtocOf c.args.vol.now c.put_further.new.vol
  name : (unit_of (g.H.Hall.facts c.put_further.new.hall).units c.put_further.new.vol.unit).name ≡ (unit_of (g.H.Hall.facts c.args.hall.now).units c.args.vol.now.unit).name
  room : vec_capacity c.put_further.new.vol.free ≡ vec_capacity c.args.vol.now.free

further : (g : Over) (c : After-put_directory-arg-2-1 g) → HasFurther g c
further g c =
    let v0 = c.args.vol.now in
    let v1 = c.mark.new.vol in
    let v2 = c.put_further.new.vol in
    let first = slots_changed v0 v1 c.mark.ensures.others in
    let next = slots_changed v1 v2 c.put_further.ensures.others in
    record {
      same = vtoc_then v0 v1 v2 first next;
      name = name_kept (g.H.Hall.facts c.mark.new.hall).units (g.H.Hall.facts c.put_further.new.hall).units v1 v2 c.in_ok-pointer.ensures.faults.units next ∙ name_kept (g.H.Hall.facts c.args.hall.now).units (g.H.Hall.facts c.mark.new.hall).units v0 v1 c.in_ok-mark.ensures.faults.units first;
      room = room_kept v1 v2 c.put_further.ensures.others ∙ room_kept v0 v1 c.mark.ensures.others;
    }

more : (g : Over) (c : After-put_directory-arg-2-1 g) → (unit_of (g.H.Hall.facts c.mark.new.hall).units c.mark.new.vol.unit).name ≡ (unit_of (g.H.Hall.facts c.args.hall.now).units c.args.vol.now.unit).name → IsTrue g.H.Hall.tells → Marks {T = List ℕ} {E = Device} (unit_of (g.H.Hall.facts c.args.hall.now).units c.args.vol.now.unit).name c.put_further.new.vol (g.H.Hall.meaning c.mark.new.hall) (g.H.Hall.meaning c.put_further.new.hall) (Ok c.in_ok-pointer.pointer)
more g c by told = subst (λ (n : List ℕ). Marks {T = List ℕ} {E = Device} n c.put_further.new.vol (g.H.Hall.meaning c.mark.new.hall) (g.H.Hall.meaning c.put_further.new.hall) (Ok c.in_ok-pointer.pointer)) by (c.in_ok-pointer.ensures.files told)

plan_now : (g : Over) (c : After-put_directory-arg-2-1 g) → (unit_of (g.H.Hall.facts c.mark.new.hall).units c.mark.new.vol.unit).name ≡ (unit_of (g.H.Hall.facts c.args.hall.now).units c.args.vol.now.unit).name → IsTrue g.H.Hall.tells → HasPlan (image_named (g.H.Hall.meaning c.put_further.new.hall).state (unit_of (g.H.Hall.facts c.args.hall.now).units c.args.vol.now.unit).name) c.args.dsn.now c.args.attr.now c.args.request.now c.args.dir (listed c.args.extents.now)
plan_now g c by told =
    let dsn = c.args.dsn.now in
    let attr = c.args.attr.now in
    let q = c.args.request.now in
    still_planned (unit_of (g.H.Hall.facts c.args.hall.now).units c.args.vol.now.unit).name c.put_further.new.vol (g.H.Hall.meaning c.mark.new.hall) (g.H.Hall.meaning c.put_further.new.hall) (more g c by told) dsn attr q c.args.dir (listed c.args.extents.now)
    (still_planned (unit_of (g.H.Hall.facts c.args.hall.now).units c.args.vol.now.unit).name c.mark.new.vol (g.H.Hall.meaning c.args.hall.now) (g.H.Hall.meaning c.mark.new.hall) (c.in_ok-mark.ensures.files told) dsn attr q c.args.dir (listed c.args.extents.now) (c.requires.plan told))

record HasItsDirectory (g : Over) (c : After-put_set-arg-2-1 g) : Type 0 where
  same : HasVtocOf c.args.vol.now c.put_directory.new.vol
  name : (unit_of (g.H.Hall.facts c.put_directory.new.hall).units c.put_directory.new.vol.unit).name ≡ (unit_of (g.H.Hall.facts c.args.hall.now).units c.args.vol.now.unit).name
  room : vec_capacity c.put_directory.new.vol.free ≡ vec_capacity c.args.vol.now.free

formatted : (g : Over) (c : After-put_set-arg-2-1 g) → HasVtocOf c.args.vol.now c.put_further.new.vol → (unit_of (g.H.Hall.facts c.put_further.new.hall).units c.put_further.new.vol.unit).name ≡ (unit_of (g.H.Hall.facts c.args.hall.now).units c.args.vol.now.unit).name → vec_capacity c.put_further.new.vol.free ≡ vec_capacity c.args.vol.now.free → HasItsDirectory g c
formatted g c same name room =
    let v2 = c.put_further.new.vol in
    let v3 = c.put_directory.new.vol in
    let slots = buffer_changed v2 v3 c.put_directory.ensures.others in
    let next = slots_changed v2 v3 slots in
    record {
      same = vtoc_then c.args.vol.now v2 v3 same next;
      name = name_kept (g.H.Hall.facts c.put_further.new.hall).units (g.H.Hall.facts c.put_directory.new.hall).units v2 v3 c.in_ok-put_directory.ensures.faults.units next ∙ name;
      room = room_kept v2 v3 slots ∙ room;
    }

puts : (g : Over) (c : After-put_set-arg-2-1 g) → (unit_of (g.H.Hall.facts c.put_further.new.hall).units c.put_further.new.vol.unit).name ≡ (unit_of (g.H.Hall.facts c.args.hall.now).units c.args.vol.now.unit).name → IsTrue g.H.Hall.tells → PutsDirectory {T = Unit {0}} {E = Device} (unit_of (g.H.Hall.facts c.args.hall.now).units c.args.vol.now.unit).name (listed c.args.extents.now) c.args.dir c.put_directory.new.vol (g.H.Hall.meaning c.put_further.new.hall) (g.H.Hall.meaning c.put_directory.new.hall) (Ok tt)
puts g c by told = subst (λ (n : List ℕ). PutsDirectory {T = Unit {0}} {E = Device} n (listed c.args.extents.now) c.args.dir c.put_directory.new.vol (g.H.Hall.meaning c.put_further.new.hall) (g.H.Hall.meaning c.put_directory.new.hall) (Ok tt)) by (c.in_ok-put_directory.ensures.files told)

decides : (g : Over) (c : After-conclude-arg-2-1 g) → (unit_of (g.H.Hall.facts c.put_directory.new.hall).units c.put_directory.new.vol.unit).name ≡ (unit_of (g.H.Hall.facts c.args.hall.now).units c.args.vol.now.unit).name → IsTrue g.H.Hall.tells → Decides {T = Unit {0}} {E = Device} (unit_of (g.H.Hall.facts c.args.hall.now).units c.args.vol.now.unit).name (allocate_on c.args.dsn.now c.args.attr.now c.args.request.now c.args.dir) c.put_set.new.vol (g.H.Hall.meaning c.put_directory.new.hall) (g.H.Hall.meaning c.put_set.new.hall) (Ok tt)
decides g c by told = subst (λ (n : List ℕ). Decides {T = Unit {0}} {E = Device} n (allocate_on c.args.dsn.now c.args.attr.now c.args.request.now c.args.dir) c.put_set.new.vol (g.H.Hall.meaning c.put_directory.new.hall) (g.H.Hall.meaning c.put_set.new.hall) (Ok tt)) by (c.in_ok-put_set.ensures.files told)

decided_name : (g : Over) (c : After-conclude-arg-2-1 g) → (unit_of (g.H.Hall.facts c.put_directory.new.hall).units c.put_directory.new.vol.unit).name ≡ (unit_of (g.H.Hall.facts c.args.hall.now).units c.args.vol.now.unit).name → (unit_of (g.H.Hall.facts c.put_set.new.hall).units c.put_set.new.vol.unit).name ≡ (unit_of (g.H.Hall.facts c.args.hall.now).units c.args.vol.now.unit).name
decided_name g c by = name_kept (g.H.Hall.facts c.put_directory.new.hall).units (g.H.Hall.facts c.put_set.new.hall).units c.put_directory.new.vol c.put_set.new.vol c.in_ok-put_set.ensures.faults.units c.put_set.ensures.index ∙ by

-- ---- how it ends

pub returns-in_err-mark-clause-files : goal.returns-in_err-mark-clause-files
returns-in_err-mark-clause-files g c told =
    let v0 = c.args.vol.now in
    let q = c.args.request.now in
    let v1 = c.mark.new.vol in
    ends_marking (unit_of (g.H.Hall.facts c.args.hall.now).units c.args.vol.now.unit).name (allocate_on c.args.dsn.now c.args.attr.now c.args.request.now c.args.dir) v0 v1 (g.H.Hall.meaning c.args.hall.now) (c.requires.mounted told) (slots_changed v0 v1 c.mark.ensures.others) (InNewSet q c.args.dir v1) (set_goes_on q c.args.dir v1 _)
    c.from_residual.result c.from_residual.ensures.0 (c.mark.ensures.files told)

pub returns-in_err-pointer-clause-files : goal.returns-in_err-pointer-clause-files
returns-in_err-pointer-clause-files g c told =
    let w = (goal.at.returns-in_err-pointer-clause-files g c).After-put_further-arg-2-1 in
    let v0 = c.args.vol.now in
    let q = c.args.request.now in
    let v1 = c.mark.new.vol in
    let v2 = c.put_further.new.vol in
    let here = subst (λ (n : List ℕ). Marks {T = List ℕ} {E = Device} n v2 (g.H.Hall.meaning c.mark.new.hall) (g.H.Hall.meaning c.put_further.new.hall) c.put_further.result) (marked_name g w) (c.put_further.ensures.files told) in
    ends_writing (unit_of (g.H.Hall.facts c.args.hall.now).units c.args.vol.now.unit).name (allocate_on c.args.dsn.now c.args.attr.now c.args.request.now c.args.dir) v0 v2 (g.H.Hall.meaning c.args.hall.now) (c.requires.mounted told) (vtoc_then v0 v1 v2 (marked_index g w) (slots_changed v1 v2 c.put_further.ensures.others)) (InNewSet q c.args.dir v2) (set_goes_on q c.args.dir v2 _)
    (c.in_ok-mark.ensures.files told) c.from_residual-in_err-pointer.result c.from_residual-in_err-pointer.ensures.0 here

pub returns-in_err-put_directory-clause-files : goal.returns-in_err-put_directory-clause-files
returns-in_err-put_directory-clause-files g c told =
    let at = goal.at.returns-in_err-put_directory-clause-files g c in
    let w = at.After-put_directory-arg-2-1 in
    let v0 = c.args.vol.now in
    let m0 = g.H.Hall.meaning c.args.hall.now in
    let q = c.args.request.now in
    let dir = c.args.dir in
    let v2 = c.put_further.new.vol in
    let v3 = c.put_directory.new.vol in
    let three = slots_changed v2 v3 (buffer_changed v2 v3 c.put_directory.ensures.others) in
    let here = subst (λ (n : List ℕ). PutsDirectory {T = Unit {0}} {E = Device} n (listed c.args.extents.now) dir v3 (g.H.Hall.meaning c.put_further.new.hall) (g.H.Hall.meaning c.put_directory.new.hall) c.put_directory.result) (further g w).name (c.put_directory.ensures.files told) in
    ends_formatting (unit_of (g.H.Hall.facts c.args.hall.now).units c.args.vol.now.unit).name (allocate_on c.args.dsn.now c.args.attr.now c.args.request.now c.args.dir) v0 v3 m0 (c.requires.mounted told) (vtoc_then v0 v2 v3 (further g w).same three) (InNewSet q dir v3) (set_goes_on q dir v3 _)
    (c.in_ok-mark.ensures.files told) (more g w (marked_name g at.After-put_further-arg-2-1) told) (listed c.args.extents.now) dir (set_onto q dir v3 (image_named m0.state (unit_of (g.H.Hall.facts c.args.hall.now).units c.args.vol.now.unit).name) c.args.dsn.now c.args.attr.now (listed c.args.extents.now) (c.requires.plan told)) c.from_residual-in_err-put_directory.result c.from_residual-in_err-put_directory.ensures.0 here

pub returns-in_err-put_set-clause-files : goal.returns-in_err-put_set-clause-files
returns-in_err-put_set-clause-files g c told =
    let at = goal.at.returns-in_err-put_set-clause-files g c in
    let two = further g at.After-put_directory-arg-2-1 in
    let three = formatted g at.After-put_set-arg-2-1 two.same two.name two.room in
    let m0 = g.H.Hall.meaning c.args.hall.now in
    let q = c.args.request.now in
    let dir = c.args.dir in
    let v3 = c.put_directory.new.vol in
    let v4 = c.put_set.new.vol in
    let here = subst (λ (n : List ℕ). Decides {T = Unit {0}} {E = Device} n (allocate_on c.args.dsn.now c.args.attr.now c.args.request.now c.args.dir) v4 (g.H.Hall.meaning c.put_directory.new.hall) (g.H.Hall.meaning c.put_set.new.hall) c.put_set.result) three.name (c.put_set.ensures.files told) in
    ends_set (unit_of (g.H.Hall.facts c.args.hall.now).units c.args.vol.now.unit).name (allocate_on c.args.dsn.now c.args.attr.now c.args.request.now c.args.dir) c.args.vol.now v4 m0 (c.requires.mounted told) (vtoc_then c.args.vol.now v3 v4 three.same c.put_set.ensures.index) (InNewSet q dir v4) (set_goes_on q dir v4 _)
    (c.in_ok-mark.ensures.files told) (more g at.After-put_directory-arg-2-1 (marked_name g at.After-put_further-arg-2-1) told) (listed c.args.extents.now) dir (set_onto q dir v4 (image_named m0.state (unit_of (g.H.Hall.facts c.args.hall.now).units c.args.vol.now.unit).name) c.args.dsn.now c.args.attr.now (listed c.args.extents.now) (c.requires.plan told)) (puts g at.After-put_set-arg-2-1 two.name told)
    c.from_residual-in_err-put_set.result c.from_residual-in_err-put_set.ensures.0 here

pub returns-clause-files : goal.returns-clause-files
returns-clause-files g c told =
    let at = goal.at.returns-clause-files g c in
    let two = further g at.After-put_directory-arg-2-1 in
    let three = formatted g at.After-put_set-arg-2-1 two.same two.name two.room in
    let m0 = g.H.Hall.meaning c.args.hall.now in
    let q = c.args.request.now in
    let dir = c.args.dir in
    let v3 = c.put_directory.new.vol in
    let v4 = c.put_set.new.vol in
    let v5 = c.conclude.new.vol in
    let concludes = subst (λ (n : List ℕ). Concludes {T = Unit {0}} {E = Device} n v5 (g.H.Hall.meaning c.put_set.new.hall) (g.H.Hall.meaning c.conclude.new.hall) c.conclude.result) (decided_name g at.After-conclude-arg-2-1 three.name) (c.conclude.ensures.files told) in
    ends_new (unit_of (g.H.Hall.facts c.args.hall.now).units c.args.vol.now.unit).name (allocate_on c.args.dsn.now c.args.attr.now c.args.request.now c.args.dir) c.args.vol.now v5 m0 (c.requires.mounted told) (vtoc_then c.args.vol.now v3 v5 three.same (vtoc_then v3 v4 v5 c.put_set.ensures.index (slots_changed v4 v5 c.conclude.ensures.others))) (InNewSet q dir v5) (set_goes_on q dir v5 _)
    (c.in_ok-mark.ensures.files told) (more g at.After-put_directory-arg-2-1 (marked_name g at.After-put_further-arg-2-1) told) (listed c.args.extents.now) dir (set_onto q dir v5 (image_named m0.state (unit_of (g.H.Hall.facts c.args.hall.now).units c.args.vol.now.unit).name) c.args.dsn.now c.args.attr.now (listed c.args.extents.now) (c.requires.plan told)) (puts g at.After-put_set-arg-2-1 two.name told)
    c.conclude.result (decides g at.After-conclude-arg-2-1 three.name told) concludes

-- ---- the directory

pub returns-clause-directory : goal.returns-clause-directory
returns-clause-directory g c told =
    let at = goal.at.returns-clause-directory g c in
    let two = further g at.After-put_directory-arg-2-1 in
    let three = formatted g at.After-put_set-arg-2-1 two.same two.name two.room in
    let v3 = c.put_directory.new.vol in
    let m3 = g.H.Hall.meaning c.put_directory.new.hall in
    let v4 = c.put_set.new.vol in
    let m4 = g.H.Hall.meaning c.put_set.new.hall in
    let v5 = c.conclude.new.vol in
    let m5 = g.H.Hall.meaning c.conclude.new.hall in
    let concludes = subst (λ (n : List ℕ). Concludes {T = Unit {0}} {E = Device} n v5 m4 m5 c.conclude.result) (decided_name g at.After-conclude-arg-2-1 three.name) (c.conclude.ensures.files told) in
    directory_done (unit_of (g.H.Hall.facts c.args.hall.now).units c.args.vol.now.unit).name (allocate_on c.args.dsn.now c.args.attr.now c.args.request.now c.args.dir) c.args.vol.now v3 v4 v5 (g.H.Hall.meaning c.args.hall.now) m3 m4 m5 c.conclude.result c.args.dsn.now c.args.attr.now c.args.request.now c.args.dir (listed c.args.extents.now) (c.requires.mounted told) (c.requires.plan told) three.same c.put_set.ensures.index (slots_changed v4 v5 c.conclude.ensures.others)
    (puts g at.After-put_set-arg-2-1 two.name told).tracks (decides g at.After-conclude-arg-2-1 three.name told) concludes

-- ---- the index

pub returns-clause-index : goal.returns-clause-index
returns-clause-index g c =
    let at = goal.at.returns-clause-index g c in
    let two = further g at.After-put_directory-arg-2-1 in
    let three = formatted g at.After-put_set-arg-2-1 two.same two.name two.room in
    let v4 = c.put_set.new.vol in
    let v5 = c.conclude.new.vol in
    vtoc_then c.args.vol.now c.put_directory.new.vol v5 three.same (vtoc_then c.put_directory.new.vol v4 v5 c.put_set.ensures.index (slots_changed v4 v5 c.conclude.ensures.others))

pub returns-in_err-put_set-clause-index : goal.returns-in_err-put_set-clause-index
returns-in_err-put_set-clause-index g c =
    let at = goal.at.returns-in_err-put_set-clause-index g c in
    let two = further g at.After-put_directory-arg-2-1 in
    let three = formatted g at.After-put_set-arg-2-1 two.same two.name two.room in
    vtoc_then c.args.vol.now c.put_directory.new.vol c.put_set.new.vol three.same c.put_set.ensures.index

pub returns-in_err-put_directory-clause-index : goal.returns-in_err-put_directory-clause-index
returns-in_err-put_directory-clause-index g c =
    let two = further g (goal.at.returns-in_err-put_directory-clause-index g c).After-put_directory-arg-2-1 in
    let v2 = c.put_further.new.vol in
    let v3 = c.put_directory.new.vol in
    vtoc_then c.args.vol.now v2 v3 two.same (slots_changed v2 v3 (buffer_changed v2 v3 c.put_directory.ensures.others))

pub returns-in_err-pointer-clause-index : goal.returns-in_err-pointer-clause-index
returns-in_err-pointer-clause-index g c =
    let v1 = c.mark.new.vol in
    vtoc_then c.args.vol.now v1 c.put_further.new.vol (slots_changed c.args.vol.now v1 c.mark.ensures.others) (slots_changed v1 c.put_further.new.vol c.put_further.ensures.others)

pub returns-in_err-mark-clause-index : goal.returns-in_err-mark-clause-index
returns-in_err-mark-clause-index g c = slots_changed c.args.vol.now c.mark.new.vol c.mark.ensures.others

-- ---- the format 3

pub put_further-requires-clause-slots : goal.put_further-requires-clause-slots
put_further-requires-clause-slots g c told =
    let v0 = c.args.vol.now in
    let f0 = g.H.Hall.facts c.args.hall.now in
    let runs = listed c.args.extents.now in
    let room = plan_room (image_named (g.H.Hall.meaning c.args.hall.now).state (unit_of f0.units v0.unit).name) v0 c.args.dsn.now c.args.attr.now c.args.request.now c.args.dir runs (c.requires.mounted told) (low_tracks f0.units v0 c.requires.unit) (c.requires.settled told) (c.requires.plan told) in
    let same : open_slots c.mark.new.vol.slots.items ≡ open_slots v0.slots.items = ap open_slots c.in_ok-mark.ensures.index.items ∙ open_marked v0.slots.items (with_bit true (slice_index_or v0.slots.items 0 formats.F0)) in
    subst (λ (n : ℕ). own_slots runs ≤ n) (sym same) room

pub put_further-requires-clause-mounted : goal.put_further-requires-clause-mounted
put_further-requires-clause-mounted g c told =
    subst (λ (n : List ℕ). IsMounted (image_named (g.H.Hall.meaning c.mark.new.hall).state n) c.mark.new.vol) (sym (marked_name g c)) (c.in_ok-mark.ensures.files told).index

pub put_further-requires-clause-marked : goal.put_further-requires-clause-marked
put_further-requires-clause-marked g c told =
    let v1 = c.mark.new.vol in
    let m1 = g.H.Hall.meaning c.mark.new.hall in
    subst (λ (n : List ℕ). IsMarked (slots_of_vtoc (image_named m1.state n) v1.geometry v1.vtoc)) (sym (marked_name g c))
    (still_marked (unit_of (g.H.Hall.facts c.args.hall.now).units c.args.vol.now.unit).name v1 (g.H.Hall.meaning c.args.hall.now) m1 (c.in_ok-mark.ensures.files told))

pub put_further-requires-clause-durable : goal.put_further-requires-clause-durable
put_further-requires-clause-durable g c told = (c.in_ok-mark.ensures.files told).durable

-- ---- the directory

pub put_directory-requires-clause-tracks : goal.put_directory-requires-clause-tracks
put_directory-requires-clause-tracks g c = subst (λ (x : Vol). AreTracksOf x.geometry (listed c.args.extents.now)) (sym (further g c).same) c.requires.tracks

pub put_directory-requires-clause-room : goal.put_directory-requires-clause-room
put_directory-requires-clause-room g c some =
    subst (λ (x : Vol). (directory_end x.geometry.device c.args.dir).tt < length (owned_tracks (listed c.args.extents.now))) (sym (further g c).same)
    (room_there c.args.vol.now.geometry.device c.args.dsn.now.bytes c.args.dir (listed c.args.extents.now) c.requires.catalog c.requires.tracks_room some)

pub put_directory-requires-clause-spare : goal.put_directory-requires-clause-spare
put_directory-requires-clause-spare g c volume stands told =
    let w = (goal.at.put_directory-requires-clause-spare g c).After-put_further-arg-2-1 in
    let dsn = c.args.dsn.now in
    let attr = c.args.attr.now in
    let q = c.args.request.now in
    let m2 = g.H.Hall.meaning c.put_further.new.hall in
    planned_spare (image_named m2.state (unit_of (g.H.Hall.facts c.put_further.new.hall).units c.put_further.new.vol.unit).name) dsn attr q c.args.dir (listed c.args.extents.now) (subst (λ (n : List ℕ). HasPlan (image_named m2.state n) dsn attr q c.args.dir (listed c.args.extents.now)) (sym (further g c).name) (plan_now g c (marked_name g w) told)) volume stands

pub put_directory-requires-clause-mounted : goal.put_directory-requires-clause-mounted
put_directory-requires-clause-mounted g c told =
    let v2 = c.put_further.new.vol in
    let by = name_kept (g.H.Hall.facts c.mark.new.hall).units (g.H.Hall.facts c.put_further.new.hall).units c.mark.new.vol v2 c.in_ok-pointer.ensures.faults.units (slots_changed c.mark.new.vol v2 c.put_further.ensures.others) in
    subst (λ (n : List ℕ). IsMounted (image_named (g.H.Hall.meaning c.put_further.new.hall).state n) v2) (sym by) (c.in_ok-pointer.ensures.files told).index

pub put_directory-requires-clause-marked : goal.put_directory-requires-clause-marked
put_directory-requires-clause-marked g c told =
    let v1 = c.mark.new.vol in
    let f1 = g.H.Hall.facts c.mark.new.hall in
    let v2 = c.put_further.new.vol in
    let m2 = g.H.Hall.meaning c.put_further.new.hall in
    let by = name_kept f1.units (g.H.Hall.facts c.put_further.new.hall).units v1 v2 c.in_ok-pointer.ensures.faults.units (slots_changed v1 v2 c.put_further.ensures.others) in
    subst (λ (n : List ℕ). IsMarked (slots_of_vtoc (image_named m2.state n) v2.geometry v2.vtoc)) (sym by)
    (still_marked (unit_of f1.units v1.unit).name v2 (g.H.Hall.meaning c.mark.new.hall) m2 (c.in_ok-pointer.ensures.files told))

pub put_directory-requires-clause-durable : goal.put_directory-requires-clause-durable
put_directory-requires-clause-durable g c told = (c.in_ok-pointer.ensures.files told).durable

-- ---- the format 1

pub put_set-requires-clause-name : goal.put_set-requires-clause-name
put_set-requires-clause-name g c =
    let name = c.args.dsn.now.bytes in
    let items = c.args.vol.now.slots.items in
    let marked = c.mark.new.vol.slots.items in
    subst (λ (x : Vol). IsNewName x name) (sym c.put_directory.ensures.others) (record {
      names = names_kept c.mark.new.vol c.put_further.new.vol c.put_further.ensures.others c.in_ok-pointer.ensures.names (c.in_ok-mark.ensures.names c.requires.name.names);
      absent = absent_same name marked c.put_further.new.vol.slots.items c.in_ok-pointer.ensures.names (absent_same name items marked (mark_names items marked c.in_ok-mark.ensures.index.items) c.requires.name.absent);
      room = subst (λ (x : Vol). vec_len x.by_name < vec_capacity x.by_name) (sym c.put_further.ensures.others) (subst (λ (x : Vol). vec_len x.by_name < vec_capacity x.by_name) (sym c.mark.ensures.others) c.requires.name.room);
    })

pub put_set-requires-clause-room : goal.put_set-requires-clause-room
put_set-requires-clause-room g c =
    let v2 = c.put_further.new.vol in
    room_then v2 c.put_directory.new.vol (buffer_changed v2 c.put_directory.new.vol c.put_directory.ensures.others) (room_then c.mark.new.vol v2 c.put_further.ensures.others (room_then c.args.vol.now c.mark.new.vol c.mark.ensures.others c.requires.room))

pub put_set-requires-clause-slots : goal.put_set-requires-clause-slots
put_set-requires-clause-slots g c told = subst (λ (x : Vol). 1 ≤ open_slots x.slots.items) (sym c.put_directory.ensures.others) (c.in_ok-pointer.ensures.slots told)

pub put_set-requires-clause-plan : goal.put_set-requires-clause-plan
put_set-requires-clause-plan g c told =
    let at = goal.at.put_set-requires-clause-plan g c in
    let two = further g at.After-put_directory-arg-2-1 in
    let three = formatted g c two.same two.name two.room in
    let dsn = c.args.dsn.now in
    let attr = c.args.attr.now in
    let q = c.args.request.now in
    let m3 = g.H.Hall.meaning c.put_directory.new.hall in
    subst (λ (n : List ℕ). HasPlan (image_named m3.state n) dsn attr q c.args.dir (listed c.args.extents.now)) (sym three.name)
    (puts_planned (unit_of (g.H.Hall.facts c.args.hall.now).units c.args.vol.now.unit).name (listed c.args.extents.now) c.args.dir c.put_directory.new.vol (g.H.Hall.meaning c.put_further.new.hall) m3 (puts g c two.name told) dsn attr q (plan_now g at.After-put_directory-arg-2-1 (marked_name g at.After-put_further-arg-2-1) told))

pub put_set-requires-clause-body : goal.put_set-requires-clause-body
put_set-requires-clause-body g c told =
    let v2 = c.put_further.new.vol in
    let v3 = c.put_directory.new.vol in
    let by = name_kept (g.H.Hall.facts c.put_further.new.hall).units (g.H.Hall.facts c.put_directory.new.hall).units v2 v3 c.in_ok-put_directory.ensures.faults.units (slots_changed v2 v3 (buffer_changed v2 v3 c.put_directory.ensures.others)) in
    subst (λ (n : List ℕ). HasDirectory (image_named (g.H.Hall.meaning c.put_directory.new.hall).state n) v3.geometry (listed c.args.extents.now) c.args.dir) (sym by) (c.in_ok-put_directory.ensures.files told).tracks

pub put_set-requires-clause-third : goal.put_set-requires-clause-third
put_set-requires-clause-third g c told =
    let at = goal.at.put_set-requires-clause-third g c in
    let by = marked_name g at.After-put_further-arg-2-1 in
    let two = further g at.After-put_directory-arg-2-1 in
    let dsn = c.args.dsn.now in
    let attr = c.args.attr.now in
    let q = c.args.request.now in
    let dir = c.args.dir in
    let runs = listed c.args.extents.now in
    let v2 = c.put_further.new.vol in
    let f2 = g.H.Hall.facts c.put_further.new.hall in
    let m2 = g.H.Hall.meaning c.put_further.new.hall in
    let m3 = g.H.Hall.meaning c.put_directory.new.hall in
    let kind = extent_type q.unit in
    let pointer = c.in_ok-pointer.pointer in
    let here : List ℕ = (unit_of f2.units v2.unit).name in
    let third = subst (λ (x : Vol). HasFurtherIfMany (slots_of_vtoc (image_named m2.state (unit_of f2.units x.unit).name) x.geometry x.vtoc) x.geometry kind runs pointer) (sym c.put_further.ensures.others) (c.in_ok-pointer.ensures.third told) in
    let mounted : IsMounted (image_named m2.state here) v2 = subst (λ (n : List ℕ). IsMounted (image_named m2.state n) v2) (sym two.name) (more g at.After-put_directory-arg-2-1 by told).index in
    let plan = subst (λ (n : List ℕ). HasPlan (image_named m2.state n) dsn attr q dir runs) (sym two.name) (plan_now g at.After-put_directory-arg-2-1 by told) in
    let slots = puts_slots here runs dir v2 c.put_directory.new.vol m2 m3 mounted (c.in_ok-put_directory.ensures.files told) (planned_spare (image_named m2.state here) dsn attr q dir runs plan) in
    let slots_now = subst (λ (ss : List VtocSlot). HasFurtherIfMany ss v2.geometry kind runs pointer) (sym slots) third in
    let units = subst (λ (us : List Attached). HasFurtherIfMany (slots_of_vtoc (image_named m3.state (unit_of us v2.unit).name) v2.geometry v2.vtoc) v2.geometry kind runs pointer) (sym c.in_ok-put_directory.ensures.faults.units) slots_now in
    subst (λ (x : Vol). HasFurtherIfMany (slots_of_vtoc (image_named m3.state (unit_of (g.H.Hall.facts c.put_directory.new.hall).units x.unit).name) x.geometry x.vtoc) x.geometry kind runs pointer) (sym c.put_directory.ensures.others) units

pub put_set-requires-clause-mounted : goal.put_set-requires-clause-mounted
put_set-requires-clause-mounted g c told =
    let v2 = c.put_further.new.vol in
    let v3 = c.put_directory.new.vol in
    let by = name_kept (g.H.Hall.facts c.put_further.new.hall).units (g.H.Hall.facts c.put_directory.new.hall).units v2 v3 c.in_ok-put_directory.ensures.faults.units (slots_changed v2 v3 (buffer_changed v2 v3 c.put_directory.ensures.others)) in
    subst (λ (n : List ℕ). IsMounted (image_named (g.H.Hall.meaning c.put_directory.new.hall).state n) v3) (sym by) (c.in_ok-put_directory.ensures.files told).index

pub put_set-requires-clause-marked : goal.put_set-requires-clause-marked
put_set-requires-clause-marked g c told =
    let v2 = c.put_further.new.vol in
    let f2 = g.H.Hall.facts c.put_further.new.hall in
    let v3 = c.put_directory.new.vol in
    let m3 = g.H.Hall.meaning c.put_directory.new.hall in
    let by = name_kept f2.units (g.H.Hall.facts c.put_directory.new.hall).units v2 v3 c.in_ok-put_directory.ensures.faults.units (slots_changed v2 v3 (buffer_changed v2 v3 c.put_directory.ensures.others)) in
    subst (λ (n : List ℕ). IsMarked (slots_of_vtoc (image_named m3.state n) v3.geometry v3.vtoc)) (sym by)
    (puts_marked (unit_of f2.units v2.unit).name (listed c.args.extents.now) c.args.dir v3 (g.H.Hall.meaning c.put_further.new.hall) m3 (c.in_ok-put_directory.ensures.files told))

pub put_set-requires-clause-durable : goal.put_set-requires-clause-durable
put_set-requires-clause-durable g c told = (c.in_ok-put_directory.ensures.files told).durable

-- ---- the end of the update

pub conclude-requires-clause-mounted : goal.conclude-requires-clause-mounted
conclude-requires-clause-mounted g c told =
    let by = name_kept (g.H.Hall.facts c.put_directory.new.hall).units (g.H.Hall.facts c.put_set.new.hall).units c.put_directory.new.vol c.put_set.new.vol c.in_ok-put_set.ensures.faults.units c.put_set.ensures.index in
    subst (λ (n : List ℕ). IsMounted (image_named (g.H.Hall.meaning c.put_set.new.hall).state n) c.put_set.new.vol) (sym by) (c.in_ok-put_set.ensures.files told).index

pub conclude-requires-clause-marked : goal.conclude-requires-clause-marked
conclude-requires-clause-marked g c told =
    let f3 = g.H.Hall.facts c.put_directory.new.hall in
    let v4 = c.put_set.new.vol in
    let m4 = g.H.Hall.meaning c.put_set.new.hall in
    let by = name_kept f3.units (g.H.Hall.facts c.put_set.new.hall).units c.put_directory.new.vol v4 c.in_ok-put_set.ensures.faults.units c.put_set.ensures.index in
    subst (λ (n : List ℕ). IsMarked (slots_of_vtoc (image_named m4.state n) v4.geometry v4.vtoc)) (sym by)
    (decided_marked (unit_of f3.units c.put_directory.new.vol.unit).name (allocate_on c.args.dsn.now c.args.attr.now c.args.request.now c.args.dir) v4 (g.H.Hall.meaning c.put_directory.new.hall) m4 (c.in_ok-put_set.ensures.files told))

pub conclude-requires-clause-durable : goal.conclude-requires-clause-durable
conclude-requires-clause-durable g c told = (c.in_ok-put_set.ensures.files told).durable

pub returns-clause-names : goal.returns-clause-names
returns-clause-names g c = c.conclude.ensures.names c.in_ok-put_set.ensures.names

-- ---- the room of the list of free runs

pub returns-in_err-mark-clause-room : goal.returns-in_err-mark-clause-room
returns-in_err-mark-clause-room g c = room_kept c.args.vol.now c.mark.new.vol c.mark.ensures.others

pub returns-in_err-pointer-clause-room : goal.returns-in_err-pointer-clause-room
returns-in_err-pointer-clause-room g c = room_kept c.mark.new.vol c.put_further.new.vol c.put_further.ensures.others ∙ room_kept c.args.vol.now c.mark.new.vol c.mark.ensures.others

pub returns-in_err-put_directory-clause-room : goal.returns-in_err-put_directory-clause-room
returns-in_err-put_directory-clause-room g c =
    room_kept c.put_further.new.vol c.put_directory.new.vol (buffer_changed c.put_further.new.vol c.put_directory.new.vol c.put_directory.ensures.others)
    ∙ (further g (goal.at.returns-in_err-put_directory-clause-room g c).After-put_directory-arg-2-1).room

pub returns-in_err-put_set-clause-room : goal.returns-in_err-put_set-clause-room
returns-in_err-put_set-clause-room g c =
    let at = goal.at.returns-in_err-put_set-clause-room g c in
    let two = further g at.After-put_directory-arg-2-1 in
    c.put_set.ensures.room ∙ (formatted g at.After-put_set-arg-2-1 two.same two.name two.room).room

pub returns-clause-room : goal.returns-clause-room
returns-clause-room g c =
    let at = goal.at.returns-clause-room g c in
    let two = further g at.After-put_directory-arg-2-1 in
    room_kept c.put_set.new.vol c.conclude.new.vol c.conclude.ensures.others ∙ c.put_set.ensures.room ∙ (formatted g at.After-put_set-arg-2-1 two.same two.name two.room).room
