use Rattle.std.proofs.Common.{rules, ◌≡◌, ◌≤◌, ◌+◌, ◌∙◌, ℕ, List, false, ap, subst, sym}
use Rattle.std.specs.Prelude.{Err, Ok, Result, vec_len}
use Rattle.std.specs.Vec.{vec_capacity}
use Rattle.std.proofs.lemmas.Result.{err_from_is_err_and}
use Rattle.hall_core.specs.Facts.{unit_of}
use Rattle.hall_core.specs.declared.steps.Device.{Device}
use Rattle.stop_model.proofs.MomentLemmas.{same_none}
use Rattle.pack_spec.specs.Settled.{IsSettledVtoc}
use Rattle.pack_spec.specs.Volume.{volume_of}
use Rattle.space_alloc.specs.Units.{listed}
use Rattle.vol_model.specs.declared.answers.StoreErr.{StoreErr}
use Rattle.vol_model.specs.declared.answers.StoreErr.TheVariants.{Refused}
use Rattle.vol_model.specs.Places.{tracks_in}
use Rattle.vol_model.specs.Shelf.{allocate_on, lacks_room}
use Rattle.vtoc_index.specs.Index.{IsMounted}
use Rattle.vtoc_index.specs.Names.{AreByName, name_at}
use Rattle.vtoc_index.specs.declared.vol.Vol.{Vol}
use Rattle.dadsm_ops.specs.Allocating.{AreTracksOf, HasDirectory, HasPlan, InNewSet, IsAbsent, new_tracks}
use Rattle.dadsm_ops.specs.Operations.{DoesOperation, Operates, image_named}
use Rattle.dadsm_ops.proofs.NewIndex.{order_changed}
use Rattle.dadsm_ops.proofs.Operating.{operates_none}
use Rattle.dadsm_ops.proofs.PlannedOperates.{operates_failed, operates_memory, operates_planned}
use Rattle.dadsm_ops.proofs.Reordering.{mounted_reordered, unit_reordered}
use Rattle.dadsm_ops.proofs.allocating.allocate.Goals as goal

pub returns-in_err-extents-clause-files : goal.returns-in_err-extents-clause-files
returns-in_err-extents-clause-files g c told =
    let hall = c.args.hall.now in
    let v = c.args.vol.now in
    let m = g.H.Hall.meaning hall in
    let name : List ℕ = (unit_of (g.H.Hall.facts hall).units v.unit).name in
    let operation = allocate_on c.args.dsn.now c.args.attr.now c.args.request.now c.args.dir in
    let mounted = c.requires.mounted told in
    let p = err_from_is_err_and c.from_residual.result c.from_residual.ensures.1 in
    let given : c.from_residual.result ≡ Err (Refused c.in_err-extents.field-0.0) = p.1 ∙ ap (λ (e : StoreErr). Err e) p.2 in
    subst (λ (x : Result (Unit {0}) StoreErr). Operates name operation v (InNewSet c.args.request.now c.args.dir v) m m x) (sym given)
    (operates_none name operation v (InNewSet c.args.request.now c.args.dir v) m _ c.in_err-extents.field-0.0 mounted.volume (c.in_err-extents.ensures.refused _ _ mounted mounted.volume) (same_none m (g.met.H.Hall.counts_now hall)))

pub returns-in_default-clause-files : goal.returns-in_default-clause-files
returns-in_default-clause-files g c told =
    let hall = c.args.hall.now in
    let m = g.H.Hall.meaning hall in
    let name : List ℕ = (unit_of (g.H.Hall.facts hall).units c.args.vol.now.unit).name in
    operates_memory name (allocate_on c.args.dsn.now c.args.attr.now c.args.request.now c.args.dir) c.reserve_name.new.vol (InNewSet c.args.request.now c.args.dir c.reserve_name.new.vol) m _ (c.requires.mounted told).volume (same_none m (g.met.H.Hall.counts_now hall))

pub returns-in_default-clause-unit : goal.returns-in_default-clause-unit
returns-in_default-clause-unit g c = unit_reordered (g.H.Hall.facts c.args.hall.now).units c.args.vol.now c.reserve_name.new.vol c.reserve_name.ensures.others c.requires.unit

pub returns-in_default-clause-index : goal.returns-in_default-clause-index
returns-in_default-clause-index g c = order_changed c.args.vol.now c.reserve_name.new.vol c.reserve_name.ensures.others

pub carry_out-requires-clause-unit : goal.carry_out-requires-clause-unit
carry_out-requires-clause-unit g c = unit_reordered (g.H.Hall.facts c.args.hall.now).units c.args.vol.now c.reserve_name.new.vol c.reserve_name.ensures.others c.requires.unit

pub carry_out-requires-clause-name : goal.carry_out-requires-clause-name
carry_out-requires-clause-name g c = record {
  names =
      subst (λ (x : Vol). AreByName (name_at x.slots.items) c.reserve_name.new.vol.by_name.items) (sym c.reserve_name.ensures.others)
      (subst (AreByName (name_at c.args.vol.now.slots.items)) (sym c.reserve_name.ensures.items) c.requires.names);
  absent = subst (λ (x : Vol). IsAbsent c.args.dsn.now.bytes x.slots.items) (sym c.reserve_name.ensures.others) c.in_ok-extents.ensures.absent;
  room = search rules;
}

pub carry_out-requires-clause-room : goal.carry_out-requires-clause-room
carry_out-requires-clause-room g c = subst (λ (x : Vol). vec_len x.free + 6 ≤ vec_capacity x.free) (sym c.reserve_name.ensures.others) c.requires.room

pub carry_out-requires-clause-tracks : goal.carry_out-requires-clause-tracks
carry_out-requires-clause-tracks g c = subst (λ (x : Vol). AreTracksOf x.geometry (listed c.in_ok-extents.extents)) (sym c.reserve_name.ensures.others) c.in_ok-extents.ensures.tracks

pub carry_out-requires-clause-tracks_room : goal.carry_out-requires-clause-tracks_room
carry_out-requires-clause-tracks_room g c =
    subst (λ (x : Vol). lacks_room x.geometry.device c.args.dsn.now.bytes c.args.dir (tracks_in (listed c.in_ok-extents.extents)) ≡ false) (sym c.reserve_name.ensures.others) c.in_ok-extents.ensures.room

pub carry_out-requires-clause-plan : goal.carry_out-requires-clause-plan
carry_out-requires-clause-plan g c told =
    let units = (g.H.Hall.facts c.args.hall.now).units in
    subst (λ (x : Vol). HasPlan (image_named (g.H.Hall.meaning c.args.hall.now).state (unit_of units x.unit).name) c.args.dsn.now c.args.attr.now c.args.request.now c.args.dir (listed c.in_ok-extents.extents)) (sym c.reserve_name.ensures.others)
    (c.in_ok-extents.ensures.plan _ (c.requires.mounted told))

pub carry_out-requires-clause-mounted : goal.carry_out-requires-clause-mounted
carry_out-requires-clause-mounted g c told =
    let units = (g.H.Hall.facts c.args.hall.now).units in
    subst (λ (x : Vol). IsMounted (image_named (g.H.Hall.meaning c.args.hall.now).state (unit_of units x.unit).name) c.reserve_name.new.vol) (sym c.reserve_name.ensures.others)
    (mounted_reordered _ c.args.vol.now c.reserve_name.new.vol c.reserve_name.ensures.others (c.requires.mounted told))

pub carry_out-requires-clause-settled : goal.carry_out-requires-clause-settled
carry_out-requires-clause-settled g c told =
    let units = (g.H.Hall.facts c.args.hall.now).units in
    subst (λ (x : Vol). IsSettledVtoc (image_named (g.H.Hall.meaning c.args.hall.now).state (unit_of units x.unit).name)) (sym c.reserve_name.ensures.others) (c.requires.settled told)

pub returns-in-Ok-carry_out-clause-files : goal.returns-in-Ok-carry_out-clause-files
returns-in-Ok-carry_out-clause-files g c told =
    let units = (g.H.Hall.facts c.args.hall.now).units in
    let m = g.H.Hall.meaning c.args.hall.now in
    let n = g.H.Hall.meaning c.carry_out.new.hall in
    let w = c.carry_out.new.vol in
    let q = c.args.request.now in
    let name : List ℕ = (unit_of units c.args.vol.now.unit).name in
    let by : (unit_of units c.reserve_name.new.vol.unit).name ≡ name = ap (λ (x : Vol). (unit_of units x.unit).name) c.reserve_name.ensures.others in
    let does = subst (λ (s : List ℕ). DoesOperation {T = Unit {0}} {E = Device} s (allocate_on c.args.dsn.now c.args.attr.now q c.args.dir) w (InNewSet q c.args.dir w) m n (Ok tt)) by (c.in-Ok-carry_out.ensures.files told) in
    operates_planned name c.args.dsn.now c.args.attr.now q c.args.dir w (InNewSet q c.args.dir w) m n (listed c.in_ok-extents.extents) (c.in_ok-extents.ensures.plan _ (c.requires.mounted told)) tt does

pub returns-in-Err-clause-files : goal.returns-in-Err-clause-files
returns-in-Err-clause-files g c told =
    let units = (g.H.Hall.facts c.args.hall.now).units in
    let m = g.H.Hall.meaning c.args.hall.now in
    let n = g.H.Hall.meaning c.carry_out.new.hall in
    let w = c.carry_out.new.vol in
    let q = c.args.request.now in
    let name : List ℕ = (unit_of units c.args.vol.now.unit).name in
    let by : (unit_of units c.reserve_name.new.vol.unit).name ≡ name = ap (λ (x : Vol). (unit_of units x.unit).name) c.reserve_name.ensures.others in
    let does = subst (λ (s : List ℕ). DoesOperation {T = Unit {0}} {E = Device} s (allocate_on c.args.dsn.now c.args.attr.now q c.args.dir) w (InNewSet q c.args.dir w) m n c.carry_out.result) by (c.carry_out.ensures.files told) in
    operates_failed name c.args.dsn.now c.args.attr.now q c.args.dir w (InNewSet q c.args.dir w) m n (listed c.in_ok-extents.extents) (c.in_ok-extents.ensures.plan _ (c.requires.mounted told)) does

pub returns-in-Ok-carry_out-clause-index : goal.returns-in-Ok-carry_out-clause-index
returns-in-Ok-carry_out-clause-index g c =
    let w = c.carry_out.new.vol in
    c.carry_out.ensures.index ∙ ap (λ (x : Vol). record x { slots = w.slots; free = w.free; by_name = w.by_name; buf = w.buf }) c.reserve_name.ensures.others

pub returns-in-Err-clause-index : goal.returns-in-Err-clause-index
returns-in-Err-clause-index g c =
    let w = c.carry_out.new.vol in
    c.carry_out.ensures.index ∙ ap (λ (x : Vol). record x { slots = w.slots; free = w.free; by_name = w.by_name; buf = w.buf }) c.reserve_name.ensures.others

-- ---- the room of the list of free runs

pub returns-in_default-clause-room : goal.returns-in_default-clause-room
returns-in_default-clause-room g c = ap (λ (x : Vol). vec_capacity x.free) c.reserve_name.ensures.others

pub returns-in-Ok-carry_out-clause-room : goal.returns-in-Ok-carry_out-clause-room
returns-in-Ok-carry_out-clause-room g c = c.carry_out.ensures.room ∙ ap (λ (x : Vol). vec_capacity x.free) c.reserve_name.ensures.others

pub returns-in-Err-clause-room : goal.returns-in-Err-clause-room
returns-in-Err-clause-room g c = c.carry_out.ensures.room ∙ ap (λ (x : Vol). vec_capacity x.free) c.reserve_name.ensures.others

-- ---- the directory

pub returns-in-Ok-carry_out-clause-directory : goal.returns-in-Ok-carry_out-clause-directory
returns-in-Ok-carry_out-clause-directory g c told =
    let units = (g.H.Hall.facts c.args.hall.now).units in
    let by : (unit_of units c.reserve_name.new.vol.unit).name ≡ (unit_of units c.args.vol.now.unit).name = ap (λ (x : Vol). (unit_of units x.unit).name) c.reserve_name.ensures.others in
    subst (λ (s : List ℕ). HasDirectory (image_named (g.H.Hall.meaning c.carry_out.new.hall).state s) c.carry_out.new.vol.geometry (new_tracks c.args.request.now c.args.dir (volume_of (image_named (g.H.Hall.meaning c.args.hall.now).state s))) c.args.dir) by (c.in-Ok-carry_out.ensures.directory told)
