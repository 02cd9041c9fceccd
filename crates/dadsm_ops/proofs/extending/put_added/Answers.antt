use Rattle.std.proofs.Common.{◌≡◌, ◌+◌, ◌≤◌, ◌<◌, ◌∙◌, ℕ, List, Some, length, ap, arith, lt-ltb, subst, sym}
use Rattle.std.specs.Prelude.{Err, Ok, Result, slice_get}
use Rattle.dscb_codec.specs.declared.Dscb.{Dscb}
use Rattle.dscb_codec.specs.declared.Dscb.TheVariants as formats
use Rattle.dscb_codec.specs.declared.F3.{F3}
use Rattle.hall_core.specs.Facts.{unit_of}
use Rattle.hall_core.specs.declared.steps.Device.{Device}
use Rattle.pack_spec.specs.Slots.{slots_of_vtoc}
use Rattle.pack_spec.specs.Volume.{attr_of}
use Rattle.space_alloc.specs.Units.{listed}
use Rattle.vol_model.specs.declared.contents.Attr.{Attr}
use Rattle.vtoc_index.specs.Index.{IsIndexOf, IsOfUnit, address_in}
use Rattle.vtoc_index.specs.declared.vol.Vol.{Vol}
use Rattle.free_rebuild.proofs.RunCounts.{low_tracks}
use Rattle.dadsm_ops.specs.Allocating.{HaveSameNames}
use Rattle.dadsm_ops.specs.Extending.{HoldAdded, added_type, f3_with}
use Rattle.dadsm_ops.specs.Operations.{image_named}
use Rattle.free_rebuild.specs.Durable.{PutsDurably}
use Rattle.dadsm_ops.proofs.ExtendedNames.{own_third}
use Rattle.dadsm_ops.proofs.ExtendedThirds.{hold_none}
use Rattle.dadsm_ops.proofs.ExtensionPlans.{three_on}
use Rattle.dadsm_ops.proofs.ExtendedHolds.{place_held, place_low, place_marks, place_names, place_set}
use Rattle.dadsm_ops.proofs.NewSetCalls.{marks_as, marks_none, marks_not, put_low}
use Rattle.dadsm_ops.proofs.Reordering.{set_there}
use Rattle.dadsm_ops.proofs.extending.put_added.Given.{Over}
use Rattle.dadsm_ops.proofs.extending.put_added.Goals.{After-put_durably}
use Rattle.dadsm_ops.proofs.extending.put_added.Goals as goal

-- ---- three extents or fewer

pub returns-then-set-extent_count-le-OWN_EXTENTS-clause-files : goal.returns-then-set-extent_count-le-OWN_EXTENTS-clause-files
returns-then-set-extent_count-le-OWN_EXTENTS-clause-files g c told =
    let name : List ℕ = (unit_of (g.H.Hall.facts c.args.hall.now).units c.args.vol.now.unit).name in
    marks_none name c.args.vol.now (g.H.Hall.meaning c.args.hall.now) _ (c.requires.mounted told) (c.requires.marked told) (c.requires.durable told)

pub returns-then-set-extent_count-le-OWN_EXTENTS-clause-added : goal.returns-then-set-extent_count-le-OWN_EXTENTS-clause-added
returns-then-set-extent_count-le-OWN_EXTENTS-clause-added g c told =
    let v = c.args.vol.now in
    let set = c.args.set.now in
    let image : List ℕ = image_named (g.H.Hall.meaning c.args.hall.now).state (unit_of (g.H.Hall.facts c.args.hall.now).units v.unit).name in
    let runs = listed c.args.extents.now in
    let few : set.extents + length runs ≤ 3 = omega (arith, c.extent_count.ensures) in
    hold_none v.geometry (added_type (attr_of set)) c.args.slot set runs (three_on image v (c.requires.mounted told) c.args.slot set c.requires.set) (slots_of_vtoc image v.geometry v.vtoc) set.pointer few

-- ---- the format 3

pub place_for-requires-clause-own : goal.place_for-requires-clause-own
place_for-requires-clause-own g c told more =
    own_third (image_named (g.H.Hall.meaning c.args.hall.now).state (unit_of (g.H.Hall.facts c.args.hall.now).units c.args.vol.now.unit).name) c.args.vol.now (c.requires.mounted told) c.args.slot c.args.set.now c.requires.set (lt-ltb 3 c.args.set.now.extents more)

pub put_durably-requires-clause-unit : goal.put_durably-requires-clause-unit
put_durably-requires-clause-unit g c = subst (λ h. IsOfUnit (g.H.Hall.facts h).units c.args.vol.now) (sym c.in_ok-place.ensures.hall) c.requires.unit

pub put_durably-requires-clause-slot : goal.put_durably-requires-clause-slot
put_durably-requires-clause-slot g c = let p = c.in_ok-place.place in place_low c.args.vol.now c.args.set.now p.0 p.1 c.in_ok-place.ensures.found

pub put_durably-requires-clause-index : goal.put_durably-requires-clause-index
put_durably-requires-clause-index g c told =
    subst (λ h. IsIndexOf (image_named (g.H.Hall.meaning h).state (unit_of (g.H.Hall.facts h).units c.args.vol.now.unit).name) c.args.vol.now) (sym c.in_ok-place.ensures.hall) (c.requires.mounted told).index

pub slot_address-requires-clause-slot : goal.slot_address-requires-clause-slot
slot_address-requires-clause-slot g c =
    let p = c.in_ok-place.place in
    put_low c.args.vol.now p.0 (formats.F3 c.f3_with-more.result) c.put_durably.new.vol.slots.items (place_low c.args.vol.now c.args.set.now p.0 p.1 c.in_ok-place.ensures.found) c.in_ok-put_durably.ensures.index.items

-- the write of a format 3, as one of the hall at the entry
put_now : (g : Over) (c : After-put_durably g) → (result : Result (Unit {0}) Device) → PutsDurably {T = Unit {0}} {E = Device} (unit_of (g.H.Hall.facts c.place_for.new.hall).units c.args.vol.now.unit).name c.args.vol.now c.in_ok-place.place.0 (formats.F3 c.f3_with-more.result) c.put_durably.new.vol (g.H.Hall.meaning c.place_for.new.hall) (g.H.Hall.meaning c.put_durably.new.hall) result
    → PutsDurably {T = Unit {0}} {E = Device} (unit_of (g.H.Hall.facts c.args.hall.now).units c.args.vol.now.unit).name c.args.vol.now c.in_ok-place.place.0 (formats.F3 (f3_with c.args.vol.now.geometry c.added_type-kind.result c.args.set.now.extents (listed c.args.extents.now) c.in_ok-place.place.1)) c.put_durably.new.vol (g.H.Hall.meaning c.args.hall.now) (g.H.Hall.meaning c.put_durably.new.hall) result
put_now g c result puts =
    let seen = subst (λ x. PutsDurably {T = Unit {0}} {E = Device} (unit_of (g.H.Hall.facts x).units c.args.vol.now.unit).name c.args.vol.now c.in_ok-place.place.0 (formats.F3 c.f3_with-more.result) c.put_durably.new.vol (g.H.Hall.meaning x) (g.H.Hall.meaning c.put_durably.new.hall) result) c.in_ok-place.ensures.hall puts in
    subst (λ (d : F3). PutsDurably {T = Unit {0}} {E = Device} (unit_of (g.H.Hall.facts c.args.hall.now).units c.args.vol.now.unit).name c.args.vol.now c.in_ok-place.place.0 (formats.F3 d) c.put_durably.new.vol (g.H.Hall.meaning c.args.hall.now) (g.H.Hall.meaning c.put_durably.new.hall) result) c.f3_with-more.ensures seen

pub returns-in_err-put_durably-clause-files : goal.returns-in_err-put_durably-clause-files
returns-in_err-put_durably-clause-files g c told =
    let v = c.args.vol.now in
    let m = g.H.Hall.meaning c.args.hall.now in
    let units = (g.H.Hall.facts c.args.hall.now).units in
    let name : List ℕ = (unit_of units v.unit).name in
    let p = c.in_ok-place.place in
    let v' = c.put_durably.new.vol in
    let n = g.H.Hall.meaning c.put_durably.new.hall in
    let put = put_now g (goal.at.returns-in_err-put_durably-clause-files g c).After-put_durably (Err c.in_err-put_durably.field-0.0) (c.in_err-put_durably.ensures.files told) in
    marks_not name v' m n c.from_residual-in_err-put_durably.result c.from_residual-in_err-put_durably.ensures.0
    (place_marks v c.args.set.now p.0 p.1 c.in_ok-place.ensures.found name v' m n (c.requires.mounted told) (low_tracks units v c.requires.unit) (c.requires.marked told) c.args.slot c.requires.set (omega arith) (omega arith) (omega arith) c.added_type-kind.result (listed c.args.extents.now) (Err c.in_err-put_durably.field-0.0) c.put_durably.ensures.others put)

pub returns-clause-files : goal.returns-clause-files
returns-clause-files g c told =
    let v = c.args.vol.now in
    let m = g.H.Hall.meaning c.args.hall.now in
    let units = (g.H.Hall.facts c.args.hall.now).units in
    let name : List ℕ = (unit_of units v.unit).name in
    let p = c.in_ok-place.place in
    let v' = c.put_durably.new.vol in
    let n = g.H.Hall.meaning c.put_durably.new.hall in
    let put = put_now g (goal.at.returns-clause-files g c).After-put_durably (Ok tt) (c.in_ok-put_durably.ensures.files told) in
    marks_as name v' m n
    (place_marks v c.args.set.now p.0 p.1 c.in_ok-place.ensures.found name v' m n (c.requires.mounted told) (low_tracks units v c.requires.unit) (c.requires.marked told) c.args.slot c.requires.set (omega arith) (omega arith) (omega arith) c.added_type-kind.result (listed c.args.extents.now) (Ok tt) c.put_durably.ensures.others put)
    c.slot_address.result

pub returns-clause-added : goal.returns-clause-added
returns-clause-added g c told =
    let v = c.args.vol.now in
    let set = c.args.set.now in
    let m = g.H.Hall.meaning c.args.hall.now in
    let f0 = g.H.Hall.facts c.args.hall.now in
    let f2 = g.H.Hall.facts c.put_durably.new.hall in
    let name : List ℕ = (unit_of f0.units v.unit).name in
    let p = c.in_ok-place.place in
    let v' = c.put_durably.new.vol in
    let n = g.H.Hall.meaning c.put_durably.new.hall in
    let runs = listed c.args.extents.now in
    let kind : ℕ = c.added_type-kind.result in
    let put = put_now g (goal.at.returns-clause-added g c).After-put_durably (Ok tt) (c.in_ok-put_durably.ensures.files told) in
    let most = c.requires.more.total in
    let many : 3 < set.extents + length runs = omega (arith, c.extent_count.ensures) in
    let held = place_held v set p.0 p.1 c.in_ok-place.ensures.found name v' m n (c.requires.mounted told) (low_tracks f0.units v c.requires.unit) (c.requires.marked told) c.args.slot c.requires.set (omega arith) (omega arith) (omega arith) kind runs most many put in
    let units : f2.units ≡ f0.units = c.in_ok-put_durably.ensures.faults.units ∙ ap (λ x. (g.H.Hall.facts x).units) c.in_ok-place.ensures.hall in
    let by : (unit_of f2.units v.unit).name ≡ name = ap (λ us. (unit_of us v.unit).name) units in
    let address : c.slot_address.result ≡ address_in v p.0 = c.slot_address.ensures ∙ ap (λ (x : Vol). address_in x p.0) c.put_durably.ensures.others in
    let type_is : kind ≡ added_type (attr_of set) = c.added_type-kind.ensures ∙ ap (λ (a : Attr). added_type a) c.attr_of.ensures.attr in
    subst (λ (s : List ℕ). HoldAdded (slots_of_vtoc (image_named n.state s) v.geometry v.vtoc) v.geometry (added_type (attr_of set)) c.args.slot set runs c.slot_address.result) (sym by)
    (subst (λ (k : ℕ). HoldAdded (slots_of_vtoc (image_named n.state name) v.geometry v.vtoc) v.geometry k c.args.slot set runs c.slot_address.result) type_is
    (subst (λ (a : List ℕ). HoldAdded (slots_of_vtoc (image_named n.state name) v.geometry v.vtoc) v.geometry kind c.args.slot set runs a) (sym address) held))

pub returns-clause-set : goal.returns-clause-set
returns-clause-set g c =
    ap (λ (l : List Dscb). slice_get l c.args.slot) c.in_ok-put_durably.ensures.index.items ∙ place_set c.args.vol.now c.args.set.now c.in_ok-place.place.0 c.in_ok-place.place.1 c.in_ok-place.ensures.found c.f3_with-more.result c.args.slot c.requires.set

pub returns-clause-names : goal.returns-clause-names
returns-clause-names g c =
    subst (λ (l : List Dscb). HaveSameNames c.args.vol.now.slots.items l) (sym c.in_ok-put_durably.ensures.index.items) (place_names c.args.vol.now c.args.set.now c.in_ok-place.place.0 c.in_ok-place.place.1 c.in_ok-place.ensures.found c.f3_with-more.result)

pub returns-clause-format_3 : goal.returns-clause-format_3
returns-clause-format_3 g c many =
    let v = c.args.vol.now in
    let set = c.args.set.now in
    let p = c.in_ok-place.place in
    let with_type : ℕ → F3 = λ k. f3_with v.geometry k set.extents (listed c.args.extents.now) p.1 in
    let is : c.f3_with-more.result ≡ with_type (added_type (attr_of set)) = c.f3_with-more.ensures ∙ ap with_type (c.added_type-kind.ensures ∙ ap (λ (a : Attr). added_type a) c.attr_of.ensures.attr) in
    record {
      slot = p.0;
      before = p.1;
      place = c.in_ok-place.ensures.found;
      there =
          ap (λ (l : List Dscb). slice_get l p.0) c.in_ok-put_durably.ensures.index.items
          ∙ set_there v.slots.items p.0 (formats.F3 c.f3_with-more.result) (place_low v set p.0 p.1 c.in_ok-place.ensures.found)
          ∙ ap (λ (x : F3). Some (formats.F3 x)) is;
    }

pub returns-then-set-extent_count-le-OWN_EXTENTS-clause-format_3 : goal.returns-then-set-extent_count-le-OWN_EXTENTS-clause-format_3
returns-then-set-extent_count-le-OWN_EXTENTS-clause-format_3 g c many = absurd (omega (arith, many, c.extent_count.ensures))
