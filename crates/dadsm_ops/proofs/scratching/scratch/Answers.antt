use Rattle.std.proofs.Common.{rules, IsTrue, ◌≡◌, ◌∙◌, ℕ, ◌+◌, ◌≤◌, List, true, arith, ap, refl, subst, sym}
use Rattle.std.specs.Prelude.{Ok, Some, length, slice_get, is_some, slice_index_or, vec_len}
use Rattle.std.specs.Vec.{vec_capacity}
use Rattle.dscb_codec.specs.declared.Dscb.TheVariants as formats
use Rattle.dscb_codec.specs.declared.F1.{F1}
use Rattle.hall_core.specs.Facts.{Attached, unit_of}
use Rattle.hall_core.specs.declared.steps.Device.{Device}
use Rattle.vtoc_index.specs.Bits.{with_bit}
use Rattle.vtoc_index.specs.Index.{IsIndexOf, IsMounted}
use Rattle.vtoc_index.specs.Names.{AreByName, name_at}
use Rattle.vtoc_index.specs.declared.vol.Vol.{Vol}
use Rattle.pack_spec.specs.Settled.{IsMarked}
use Rattle.pack_spec.specs.Slots.{slots_of_vtoc}
use Rattle.free_rebuild.specs.Updates.{Concludes}
use Rattle.dadsm_ops.specs.Operations.{image_named}
use Rattle.free_rebuild.specs.Durable.{PutsDurably}
use Rattle.dadsm_ops.proofs.NewIndex.{room_kept}
use Rattle.dadsm_ops.proofs.ScratchSteps.{marked_by, mounted_now, scratch_concluded, scratch_unmarked, scratch_unput}
use Rattle.dadsm_ops.proofs.ScratchedImages.{set_extents}
use Rattle.dadsm_ops.proofs.ScratchedIndex.{HasBase, base_differs, base_freed, base_put, base_then, forgotten, freed_within, name_marked, named_low, set_at, set_of, set_still, unit_freed}
use Rattle.dadsm_ops.proofs.scratching.scratch.Given.{Over}
use Rattle.dadsm_ops.proofs.scratching.scratch.Goals.{After-forget_set, After-runs_at-runs}
use Rattle.dadsm_ops.proofs.scratching.scratch.Goals as goal

pub returns-in_err-mark-clause-files : goal.returns-in_err-mark-clause-files
returns-in_err-mark-clause-files g c dsn named told =
    let v0 = c.args.vol.now in
    let set = set_at v0.slots.items c.args.slot dsn.bytes named in
    let base = base_put v0 c.mark.new.vol c.mark.ensures.others in
    scratch_unmarked (unit_of (g.H.Hall.facts c.args.hall.now).units v0.unit).name dsn c.args.slot set.0 set.1.1 v0 (g.H.Hall.meaning c.args.hall.now) (c.requires.mounted told) c.from_residual.result c.mark.new.vol (g.H.Hall.meaning c.mark.new.hall) c.from_residual.ensures.0 base.geometry base.vtoc (c.mark.ensures.files told)

-- ---- what was done so far

-- the mark
marked_name : (g : Over) (c : After-runs_at-runs g) → (unit_of (g.H.Hall.facts c.mark.new.hall).units c.mark.new.vol.unit).name ≡ (unit_of (g.H.Hall.facts c.args.hall.now).units c.args.vol.now.unit).name
marked_name g c = ap (λ (v : Vol). (unit_of (g.H.Hall.facts c.mark.new.hall).units v.unit).name) c.mark.ensures.others ∙ ap (λ (us : List Attached). (unit_of us c.args.vol.now.unit).name) c.in_ok-mark.ensures.faults.units

still : (g : Over) (c : After-runs_at-runs g) → IsTrue g.H.Hall.tells → (f : F1) → slice_get c.args.vol.now.slots.items c.args.slot ≡ Some (formats.F1 f) → slice_get c.mark.new.vol.slots.items c.args.slot ≡ Some (formats.F1 f)
still g c told f there = set_still (image_named (g.H.Hall.meaning c.args.hall.now).state (unit_of (g.H.Hall.facts c.args.hall.now).units c.args.vol.now.unit).name) c.args.vol.now c.mark.new.vol c.args.slot f (with_bit true (slice_index_or c.args.vol.now.slots.items 0 formats.F0)) (c.requires.mounted told) there c.in_ok-mark.ensures.index.items

-- and the set's format 1 cleared
put : (g : Over) (c : After-forget_set g) → (unit_of (g.H.Hall.facts c.mark.new.hall).units c.mark.new.vol.unit).name ≡ (unit_of (g.H.Hall.facts c.args.hall.now).units c.args.vol.now.unit).name → IsTrue g.H.Hall.tells → PutsDurably {T = Unit {0}} {E = Device} (unit_of (g.H.Hall.facts c.args.hall.now).units c.args.vol.now.unit).name c.mark.new.vol c.args.slot formats.F0 c.put_durably.new.vol (g.H.Hall.meaning c.mark.new.hall) (g.H.Hall.meaning c.put_durably.new.hall) (Ok tt)
put g c by told = subst (λ (n : List ℕ). PutsDurably {T = Unit {0}} {E = Device} n c.mark.new.vol c.args.slot formats.F0 c.put_durably.new.vol (g.H.Hall.meaning c.mark.new.hall) (g.H.Hall.meaning c.put_durably.new.hall) (Ok tt)) by (c.in_ok-put_durably.ensures.files told)

forgotten_base : (g : Over) (c : After-forget_set g) → HasBase c.mark.new.vol c.forget_set.new.vol
forgotten_base g c =
    let v1 = c.mark.new.vol in
    let v2 = c.put_durably.new.vol in
    let v3 = c.forget_set.new.vol in
    base_then v1 v2 v3 (base_put v1 v2 c.put_durably.ensures.others) (base_freed v2 v3 c.forget_set.ensures.others)

last_name : (g : Over) (c : After-forget_set g) → (unit_of (g.H.Hall.facts c.mark.new.hall).units c.mark.new.vol.unit).name ≡ (unit_of (g.H.Hall.facts c.args.hall.now).units c.args.vol.now.unit).name → (unit_of (g.H.Hall.facts c.put_durably.new.hall).units c.forget_set.new.vol.unit).name ≡ (unit_of (g.H.Hall.facts c.args.hall.now).units c.args.vol.now.unit).name
last_name g c by = ap (λ (u : ℕ). (unit_of (g.H.Hall.facts c.put_durably.new.hall).units u).name) (forgotten_base g c).unit ∙ ap (λ (us : List Attached). (unit_of us c.mark.new.vol.unit).name) c.in_ok-put_durably.ensures.faults.units ∙ by

-- ---- how it ends

pub returns-in_err-put_durably-clause-files : goal.returns-in_err-put_durably-clause-files
returns-in_err-put_durably-clause-files g c dsn named told =
    let w = (goal.at.returns-in_err-put_durably-clause-files g c).After-runs_at-runs in
    let v0 = c.args.vol.now in
    let set = set_at v0.slots.items c.args.slot dsn.bytes named in
    let v1 = c.mark.new.vol in
    let m1 = g.H.Hall.meaning c.mark.new.hall in
    let v2 = c.put_durably.new.vol in
    let m2 = g.H.Hall.meaning c.put_durably.new.hall in
    let here = subst (λ (n : List ℕ). PutsDurably {T = Unit {0}} {E = Device} n v1 c.args.slot formats.F0 v2 m1 m2 c.put_durably.result) (marked_name g w) (c.put_durably.ensures.files told) in
    let base = base_put v1 v2 c.put_durably.ensures.others in
    scratch_unput (unit_of (g.H.Hall.facts c.args.hall.now).units c.args.vol.now.unit).name dsn c.args.slot set.0 set.1.1 v0 (g.H.Hall.meaning c.args.hall.now) (c.requires.mounted told) v1 m1 (still g w told set.0 set.1.0) (c.in_ok-mark.ensures.files told) v2 m2 here v2 base.geometry base.vtoc c.from_residual-in_err-put_durably.result c.from_residual-in_err-put_durably.ensures.0

pub returns-clause-files : goal.returns-clause-files
returns-clause-files g c dsn named told =
    let at = goal.at.returns-clause-files g c in
    let by = marked_name g at.After-runs_at-runs in
    let w = at.After-forget_set in
    let v0 = c.args.vol.now in
    let set = set_at v0.slots.items c.args.slot dsn.bytes named in
    let v1 = c.mark.new.vol in
    let m2 = g.H.Hall.meaning c.put_durably.new.hall in
    let v3 = c.forget_set.new.vol in
    let v4 = c.conclude.new.vol in
    let m3 = g.H.Hall.meaning c.conclude.new.hall in
    let base = base_then v1 v3 v4 (forgotten_base g w) (base_put v3 v4 c.conclude.ensures.others) in
    let ends = subst (λ (n : List ℕ). Concludes {T = Unit {0}} {E = Device} n v4 m2 m3 c.conclude.result) (last_name g w by) (c.conclude.ensures.files told) in
    scratch_concluded (unit_of (g.H.Hall.facts c.args.hall.now).units c.args.vol.now.unit).name dsn c.args.slot set.0 set.1.1 v0 (g.H.Hall.meaning c.args.hall.now) (c.requires.mounted told) v1 (g.H.Hall.meaning c.mark.new.hall) (still g at.After-runs_at-runs told set.0 set.1.0) (c.in_ok-mark.ensures.files told) c.put_durably.new.vol m2 (put g w by told) v4 base.geometry base.vtoc m3 c.conclude.result ends

-- ---- what the steps ask for

pub runs_at-runs-requires-clause-slot : goal.runs_at-runs-requires-clause-slot
runs_at-runs-requires-clause-slot g c =
    let same = name_marked c.args.vol.now.slots.items c.mark.new.vol.slots.items c.args.slot c.in_ok-mark.ensures.index.items in
    named_low c.mark.new.vol.slots.items c.args.slot (ap is_some same ∙ c.requires.set)

pub put_durably-requires-clause-slot : goal.put_durably-requires-clause-slot
put_durably-requires-clause-slot g c =
    let same = name_marked c.args.vol.now.slots.items c.mark.new.vol.slots.items c.args.slot c.in_ok-mark.ensures.index.items in
    named_low c.mark.new.vol.slots.items c.args.slot (ap is_some same ∙ c.requires.set)

pub put_durably-requires-clause-index : goal.put_durably-requires-clause-index
put_durably-requires-clause-index g c told =
    let w = (goal.at.put_durably-requires-clause-index g c).After-runs_at-runs in
    subst (λ (n : List ℕ). IsIndexOf (image_named (g.H.Hall.meaning c.mark.new.hall).state n) c.mark.new.vol) (sym (marked_name g w)) (c.in_ok-mark.ensures.files told).index.index

pub put_durably-requires-clause-durable : goal.put_durably-requires-clause-durable
put_durably-requires-clause-durable g c told = (c.in_ok-mark.ensures.files told).durable

pub forget_set-requires-clause-room : goal.forget_set-requires-clause-room
forget_set-requires-clause-room g c =
    let marked = subst (λ (x : Vol). vec_len x.free + 16 ≤ vec_capacity x.free) (sym c.mark.ensures.others) c.requires.room in
    let put = subst (λ (x : Vol). vec_len x.free + 16 ≤ vec_capacity x.free) (sym c.put_durably.ensures.others) marked in
    let size : length c.runs_at-runs.result ≡ 16 = search rules in
    omega (arith, put, size)

pub conclude-requires-clause-unit : goal.conclude-requires-clause-unit
conclude-requires-clause-unit g c =
    let units = (g.H.Hall.facts c.put_durably.new.hall).units in
    unit_freed units c.put_durably.new.vol c.forget_set.new.vol c.forget_set.ensures.others (freed_within units c.put_durably.new.vol c.forget_set.new.vol _ c.put_durably.ensures.unit c.forget_set.ensures.free) c.put_durably.ensures.unit

pub conclude-requires-clause-mounted : goal.conclude-requires-clause-mounted
conclude-requires-clause-mounted g c told =
    let at = goal.at.conclude-requires-clause-mounted g c in
    let w = at.After-forget_set in
    let by = marked_name g at.After-runs_at-runs in
    let set = set_of c.args.vol.now.slots.items c.args.slot c.requires.set in
    let set1 = still g at.After-runs_at-runs told set.0 set.1 in
    let v1 = c.mark.new.vol in
    let m1 = g.H.Hall.meaning c.mark.new.hall in
    let v3 = c.forget_set.new.vol in
    let m2 = g.H.Hall.meaning c.put_durably.new.hall in
    let marks = c.in_ok-mark.ensures.files told in
    let have = c.runs_at-runs.ensures (image_named m1.state (unit_of (g.H.Hall.facts c.args.hall.now).units c.args.vol.now.unit).name) set.0 set1 (record { mounted = marks.index; extents = set_extents (image_named m1.state (unit_of (g.H.Hall.facts c.args.hall.now).units c.args.vol.now.unit).name) v1 c.args.slot set.0 marks.index set1 }) in
    subst (λ (n : List ℕ). IsMounted (image_named m2.state n) v3) (sym (last_name g w by))
    (mounted_now (unit_of (g.H.Hall.facts c.args.hall.now).units c.args.vol.now.unit).name (record { bytes = set.0.name }) c.args.slot set.0 refl c.args.vol.now (g.H.Hall.meaning c.args.hall.now) (c.requires.mounted told) v1 m1 set1 marks c.put_durably.new.vol m2 (put g w by told) v3 _ c.put_durably.ensures.others c.forget_set.ensures.others have c.forget_set.ensures.free)

pub conclude-requires-clause-marked : goal.conclude-requires-clause-marked
conclude-requires-clause-marked g c told =
    let at = goal.at.conclude-requires-clause-marked g c in
    let w = at.After-forget_set in
    let by = marked_name g at.After-runs_at-runs in
    let set = set_of c.args.vol.now.slots.items c.args.slot c.requires.set in
    let set1 = still g at.After-runs_at-runs told set.0 set.1 in
    let m2 = g.H.Hall.meaning c.put_durably.new.hall in
    let v3 = c.forget_set.new.vol in
    subst (λ (n : List ℕ). IsMarked (slots_of_vtoc (image_named m2.state n) v3.geometry v3.vtoc)) (sym (last_name g w by))
    (marked_by (unit_of (g.H.Hall.facts c.args.hall.now).units c.args.vol.now.unit).name (record { bytes = set.0.name }) c.args.slot set.0 refl c.args.vol.now (g.H.Hall.meaning c.args.hall.now) (c.requires.mounted told) c.mark.new.vol (g.H.Hall.meaning c.mark.new.hall) set1 (c.in_ok-mark.ensures.files told) c.put_durably.new.vol m2 (put g w by told) v3 (forgotten_base g w))

pub conclude-requires-clause-durable : goal.conclude-requires-clause-durable
conclude-requires-clause-durable g c told = (c.in_ok-put_durably.ensures.files told).step.done.1

pub returns-clause-index : goal.returns-clause-index
returns-clause-index g c =
    let v0 = c.args.vol.now in
    let v1 = c.mark.new.vol in
    let v2 = c.put_durably.new.vol in
    let v3 = c.forget_set.new.vol in
    let v4 = c.conclude.new.vol in
    base_differs v0 v4 (base_then v0 v1 v4 (base_put v0 v1 c.mark.ensures.others) (base_then v1 v2 v4 (base_put v1 v2 c.put_durably.ensures.others) (base_then v2 v3 v4 (base_freed v2 v3 c.forget_set.ensures.others) (base_put v3 v4 c.conclude.ensures.others))))

pub returns-clause-names : goal.returns-clause-names
returns-clause-names g c =
    let v1 = c.mark.new.vol in
    let was = ap is_some (name_marked c.args.vol.now.slots.items v1.slots.items c.args.slot c.in_ok-mark.ensures.index.items) ∙ c.requires.set in
    let by_name = subst (λ (x : Vol). AreByName (name_at v1.slots.items) x.by_name.items) (sym c.put_durably.ensures.others) (c.in_ok-mark.ensures.names c.requires.names) in
    c.conclude.ensures.names (c.forget_set.ensures.names v1.slots.items by_name (forgotten v1.slots.items c.put_durably.new.vol.slots.items c.args.slot was (named_low v1.slots.items c.args.slot was) c.in_ok-put_durably.ensures.index.items))

pub returns-in_err-mark-clause-room : goal.returns-in_err-mark-clause-room
returns-in_err-mark-clause-room g c = room_kept c.args.vol.now c.mark.new.vol c.mark.ensures.others

pub returns-in_err-put_durably-clause-room : goal.returns-in_err-put_durably-clause-room
returns-in_err-put_durably-clause-room g c = room_kept c.mark.new.vol c.put_durably.new.vol c.put_durably.ensures.others ∙ room_kept c.args.vol.now c.mark.new.vol c.mark.ensures.others

pub returns-clause-room : goal.returns-clause-room
returns-clause-room g c =
    room_kept c.forget_set.new.vol c.conclude.new.vol c.conclude.ensures.others ∙ c.forget_set.ensures.room ∙ room_kept c.mark.new.vol c.put_durably.new.vol c.put_durably.ensures.others ∙ room_kept c.args.vol.now c.mark.new.vol c.mark.ensures.others
