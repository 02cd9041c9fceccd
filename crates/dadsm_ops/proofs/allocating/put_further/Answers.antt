use Rattle.std.proofs.Common.{◌≡◌, ◌≤◌, ◌∙◌, ℕ, List, ap, subst, sym, arith}
use Rattle.std.specs.Prelude.{Err, Ok}
use Rattle.dscb_codec.specs.declared.Dscb.{Dscb}
use Rattle.dscb_codec.specs.declared.Dscb.TheVariants as formats
use Rattle.dscb_codec.specs.declared.F3.{F3}
use Rattle.hall_core.specs.Facts.{unit_of}
use Rattle.hall_core.specs.declared.steps.Device.{Device}
use Rattle.pack_spec.specs.Slots.{slots_of_vtoc}
use Rattle.space_alloc.specs.Units.{listed}
use Rattle.vtoc_index.specs.Index.{IsIndexOf, IsOfUnit, address_in}
use Rattle.vtoc_index.specs.declared.vol.Vol.{Vol}
use Rattle.free_rebuild.proofs.RunCounts.{low_tracks}
use Rattle.dadsm_ops.specs.Allocating.{HasFurther, HaveSameNames, extent_type, new_f3, open_slots}
use Rattle.dadsm_ops.specs.Operations.{image_named}
use Rattle.free_rebuild.specs.Durable.{PutsDurably}
use Rattle.dadsm_ops.proofs.NewNames.{third_names}
use Rattle.dadsm_ops.proofs.NewSetCalls.{found_open, marks_as, marks_none, marks_not, open_less, own_some, own_two, put_low}
use Rattle.dadsm_ops.proofs.NewSetSteps.{third_further, third_marks}
use Rattle.dadsm_ops.proofs.allocating.put_further.Goals as goal

-- ---- three extents or fewer

pub returns-then-own_slots-eq1-clause-files : goal.returns-then-own_slots-eq1-clause-files
returns-then-own_slots-eq1-clause-files g c told =
    let v = c.args.vol.now in
    let name : List ℕ = (unit_of (g.H.Hall.facts c.args.hall.now).units v.unit).name in
    marks_none name v (g.H.Hall.meaning c.args.hall.now) _ (c.requires.mounted told) (c.requires.marked told) (c.requires.durable told)

pub returns-then-own_slots-eq1-clause-third : goal.returns-then-own_slots-eq1-clause-third
returns-then-own_slots-eq1-clause-third g c told more = absurd (omega (arith, own_two (listed c.args.extents.now) more))

pub put_durably-requires-clause-unit : goal.put_durably-requires-clause-unit
put_durably-requires-clause-unit g c = subst (λ h. IsOfUnit (g.H.Hall.facts h).units c.args.vol.now) (sym c.in_ok-slot.ensures.hall) c.requires.unit

pub put_durably-requires-clause-slot : goal.put_durably-requires-clause-slot
put_durably-requires-clause-slot g c = (found_open c.args.vol.now c.in_ok-slot.slot c.in_ok-slot.ensures.found).low

pub put_durably-requires-clause-index : goal.put_durably-requires-clause-index
put_durably-requires-clause-index g c told =
    let v = c.args.vol.now in
    subst (λ h. IsIndexOf (image_named (g.H.Hall.meaning h).state (unit_of (g.H.Hall.facts h).units v.unit).name) v) (sym c.in_ok-slot.ensures.hall) (c.requires.mounted told).index

pub slot_address-requires-clause-slot : goal.slot_address-requires-clause-slot
slot_address-requires-clause-slot g c =
    let v = c.args.vol.now in
    let slot = c.in_ok-slot.slot in
    put_low v slot (formats.F3 c.new_f3-further.result) c.put_durably.new.vol.slots.items (found_open v slot c.in_ok-slot.ensures.found).low c.in_ok-put_durably.ensures.index.items

pub returns-in_err-put_durably-clause-files : goal.returns-in_err-put_durably-clause-files
returns-in_err-put_durably-clause-files g c told =
    let v = c.args.vol.now in
    let m = g.H.Hall.meaning c.args.hall.now in
    let units = (g.H.Hall.facts c.args.hall.now).units in
    let name : List ℕ = (unit_of units v.unit).name in
    let slot = c.in_ok-slot.slot in
    let v' = c.put_durably.new.vol in
    let n = g.H.Hall.meaning c.put_durably.new.hall in
    let h : F3 = c.new_f3-further.result in
    let put = subst (λ x. PutsDurably {T = Unit {0}} {E = Device} (unit_of (g.H.Hall.facts x).units v.unit).name v slot (formats.F3 h) v' (g.H.Hall.meaning x) n (Err c.in_err-put_durably.field-0.0)) c.in_ok-slot.ensures.hall (c.in_err-put_durably.ensures.files told) in
    marks_not name v' m n c.from_residual-in_err-put_durably.result c.from_residual-in_err-put_durably.ensures.0
    (third_marks name v v' slot m n (c.requires.mounted told) (low_tracks units v c.requires.unit) (found_open v slot c.in_ok-slot.ensures.found) (c.requires.marked told) (Err c.in_err-put_durably.field-0.0) h c.put_durably.ensures.others put)

pub returns-clause-files : goal.returns-clause-files
returns-clause-files g c told =
    let v = c.args.vol.now in
    let m = g.H.Hall.meaning c.args.hall.now in
    let units = (g.H.Hall.facts c.args.hall.now).units in
    let name : List ℕ = (unit_of units v.unit).name in
    let slot = c.in_ok-slot.slot in
    let v' = c.put_durably.new.vol in
    let n = g.H.Hall.meaning c.put_durably.new.hall in
    let h : F3 = c.new_f3-further.result in
    let put = subst (λ x. PutsDurably {T = Unit {0}} {E = Device} (unit_of (g.H.Hall.facts x).units v.unit).name v slot (formats.F3 h) v' (g.H.Hall.meaning x) n (Ok tt)) c.in_ok-slot.ensures.hall (c.in_ok-put_durably.ensures.files told) in
    marks_as name v' m n (third_marks name v v' slot m n (c.requires.mounted told) (low_tracks units v c.requires.unit) (found_open v slot c.in_ok-slot.ensures.found) (c.requires.marked told) (Ok tt) h c.put_durably.ensures.others put) c.slot_address.result

pub returns-clause-third : goal.returns-clause-third
returns-clause-third g c told more =
    let v = c.args.vol.now in
    let m = g.H.Hall.meaning c.args.hall.now in
    let f0 = g.H.Hall.facts c.args.hall.now in
    let f2 = g.H.Hall.facts c.put_durably.new.hall in
    let name : List ℕ = (unit_of f0.units v.unit).name in
    let slot = c.in_ok-slot.slot in
    let v' = c.put_durably.new.vol in
    let n = g.H.Hall.meaning c.put_durably.new.hall in
    let kind = extent_type c.args.request.now.unit in
    let runs = listed c.args.extents.now in
    let h : F3 = new_f3 v.geometry kind runs in
    let is : c.new_f3-further.result ≡ h = c.new_f3-further.ensures ∙ ap (λ (k : ℕ). new_f3 v.geometry k runs) c.extent_type.ensures in
    let seen = subst (λ x. PutsDurably {T = Unit {0}} {E = Device} (unit_of (g.H.Hall.facts x).units v.unit).name v slot (formats.F3 c.new_f3-further.result) v' (g.H.Hall.meaning x) n (Ok tt)) c.in_ok-slot.ensures.hall (c.in_ok-put_durably.ensures.files told) in
    let put = subst (λ (d : F3). PutsDurably {T = Unit {0}} {E = Device} name v slot (formats.F3 d) v' m n (Ok tt)) is seen in
    let further = third_further name v v' slot m n (c.requires.mounted told) (low_tracks f0.units v c.requires.unit) (found_open v slot c.in_ok-slot.ensures.found) (c.requires.marked told) kind runs put in
    let units : f2.units ≡ f0.units = c.in_ok-put_durably.ensures.faults.units ∙ ap (λ x. (g.H.Hall.facts x).units) c.in_ok-slot.ensures.hall in
    let by : (unit_of f2.units v.unit).name ≡ name = ap (λ us. (unit_of us v.unit).name) units in
    let place : c.slot_address.result ≡ address_in v slot = c.slot_address.ensures ∙ ap (λ (x : Vol). address_in x slot) c.put_durably.ensures.others in
    subst (λ (s : List ℕ). HasFurther (slots_of_vtoc (image_named n.state s) v.geometry v.vtoc) v.geometry kind runs c.slot_address.result) (sym by)
    (subst (λ (a : List ℕ). HasFurther (slots_of_vtoc (image_named n.state name) v.geometry v.vtoc) v.geometry kind runs a) (sym place) further)

pub returns-clause-slots : goal.returns-clause-slots
returns-clause-slots g c told =
    let v = c.args.vol.now in
    let runs = listed c.args.extents.now in
    let two : 2 ≤ open_slots v.slots.items = omega (arith, c.requires.slots told, own_some runs) in
    subst (λ (l : List Dscb). 1 ≤ open_slots l) (sym c.in_ok-put_durably.ensures.index.items) (open_less v c.in_ok-slot.slot c.new_f3-further.result runs (found_open v c.in_ok-slot.slot c.in_ok-slot.ensures.found) two)

pub returns-clause-names : goal.returns-clause-names
returns-clause-names g c =
    let v = c.args.vol.now in
    let slot = c.in_ok-slot.slot in
    let at = found_open v slot c.in_ok-slot.ensures.found in
    subst (λ (l : List Dscb). HaveSameNames v.slots.items l) (sym c.in_ok-put_durably.ensures.index.items) (third_names v.slots.items slot at.item at.there at.opened c.new_f3-further.result)
