use Rattle.std.proofs.Common.{◌≡◌, ◌<◌, ◌^◌, ◌∙◌, ℕ, List, Some, ap, ap₂, subst, sym}
use Rattle.std.specs.Prelude.{Err, Ok, slice_get, slice_set, vec_len}
use Rattle.std.specs.Vec.{vec_capacity}
use Rattle.dscb_codec.specs.declared.Dscb.{Dscb}
use Rattle.dscb_codec.specs.declared.Dscb.TheVariants as formats
use Rattle.dscb_codec.specs.declared.F1.{F1}
use Rattle.hall_core.specs.Facts.{unit_of}
use Rattle.hall_core.specs.declared.steps.Device.{Device}
use Rattle.space_alloc.specs.Edits.{AreWithout}
use Rattle.space_alloc.specs.Units.{listed}
use Rattle.vol_model.specs.Shelf.{allocate_on, new_attr}
use Rattle.vol_model.specs.declared.contents.Attr.{Attr}
use Rattle.vtoc_index.specs.Index.{IsIndexOf, IsOfUnit}
use Rattle.vtoc_index.specs.Names.{AreByName, name_at}
use Rattle.vtoc_index.specs.declared.vol.Vol.{Vol}
use Rattle.dadsm_ops.specs.Allocating.{extent_type, new_f1}
use Rattle.dadsm_ops.specs.Operations.{image_named}
use Rattle.free_rebuild.specs.Durable.{PutsDurably}
use Rattle.dadsm_ops.proofs.NewAttributes.{asked, attr_asked}
use Rattle.dadsm_ops.proofs.NewIndex.{both_changed, index_with, room_kept, room_then, slots_changed, unit_with}
use Rattle.dadsm_ops.proofs.NewSetCalls.{decides_not, entered_changes, found_open, put_decides, set_enters, set_is, set_named}
use Rattle.dadsm_ops.proofs.Reordering.{set_there}
use Rattle.dadsm_ops.proofs.allocating.put_set.Goals as goal

pub new_f1-set-requires-clause-secondary : goal.new_f1-set-requires-clause-secondary
new_f1-set-requires-clause-secondary g c =
    let attrs = c.new_attr.ensures c.args.dsn.now.bytes c.requires.catalog ∙ attr_asked c.args.dsn.now.bytes c.args.attr.now c.args.request.now c.requires.catalog in
    subst (λ (a : Attr). a.secondary < 2 ^ 24) (sym attrs) c.requires.quantities

pub put_durably-requires-clause-unit : goal.put_durably-requires-clause-unit
put_durably-requires-clause-unit g c = subst (λ h. IsOfUnit (g.H.Hall.facts h).units c.args.vol.now) (sym c.in_ok-slot.ensures.hall) c.requires.unit

pub put_durably-requires-clause-slot : goal.put_durably-requires-clause-slot
put_durably-requires-clause-slot g c = (found_open c.args.vol.now c.in_ok-slot.slot c.in_ok-slot.ensures.found).low

pub put_durably-requires-clause-index : goal.put_durably-requires-clause-index
put_durably-requires-clause-index g c told =
    subst (λ h. IsIndexOf (image_named (g.H.Hall.meaning h).state (unit_of (g.H.Hall.facts h).units c.args.vol.now.unit).name) c.args.vol.now) (sym c.in_ok-slot.ensures.hall) (c.requires.mounted told).index

pub enter_name-requires : goal.enter_name-requires
enter_name-requires g c = record {
  room = subst (λ (x : Vol). vec_len x.by_name < vec_capacity x.by_name) (sym c.take_runs.ensures.others)
      (subst (λ (x : Vol). vec_len x.by_name < vec_capacity x.by_name) (sym c.put_durably.ensures.others) c.requires.name.room);
}

pub take_runs-requires-clause-room : goal.take_runs-requires-clause-room
take_runs-requires-clause-room g c = room_then c.args.vol.now c.put_durably.new.vol c.put_durably.ensures.others c.requires.room

pub returns-in_err-put_durably-clause-files : goal.returns-in_err-put_durably-clause-files
returns-in_err-put_durably-clause-files g c told =
    let v = c.args.vol.now in
    let dsn = c.args.dsn.now in
    let attr = c.args.attr.now in
    let q = c.args.request.now in
    let runs = listed c.args.extents.now in
    let m = g.H.Hall.meaning c.args.hall.now in
    let units = (g.H.Hall.facts c.args.hall.now).units in
    let name : List ℕ = (unit_of units v.unit).name in
    let v' = c.put_durably.new.vol in
    let n = g.H.Hall.meaning c.put_durably.new.hall in
    let f : F1 = c.new_f1-set.result in
    let attrs = c.new_attr.ensures dsn.bytes c.requires.catalog ∙ attr_asked dsn.bytes attr q c.requires.catalog in
    let is = set_is f dsn.bytes v.serial.bytes _ v.geometry _ runs c.args.pointer c.args.dir c.new_f1-set.ensures (asked attr q) (extent_type q.unit) attrs c.extent_type.ensures in
    let put = subst (λ x. PutsDurably {T = Unit {0}} {E = Device} (unit_of (g.H.Hall.facts x).units v.unit).name v c.in_ok-slot.slot (formats.F1 f) v' (g.H.Hall.meaning x) n (Err c.in_err-put_durably.field-0.0)) c.in_ok-slot.ensures.hall (c.in_err-put_durably.ensures.files told) in
    decides_not name (allocate_on dsn attr q c.args.dir) v' m n c.from_residual-in_err-put_durably.result c.from_residual-in_err-put_durably.ensures.0
    (put_decides name v v' c.in_ok-slot.slot m n units c.requires.unit (c.requires.mounted told) c.in_ok-slot.ensures.found (c.requires.marked told) dsn attr q c.args.dir runs c.args.pointer c.requires.dir c.requires.catalog c.requires.quantities (c.requires.third told) (c.requires.plan told) (c.requires.body told) f is
    (Err c.in_err-put_durably.field-0.0) v' tt tt tt put)

pub returns-clause-files : goal.returns-clause-files
returns-clause-files g c told =
    let v = c.args.vol.now in
    let dsn = c.args.dsn.now in
    let attr = c.args.attr.now in
    let q = c.args.request.now in
    let runs = listed c.args.extents.now in
    let units = (g.H.Hall.facts c.args.hall.now).units in
    let name : List ℕ = (unit_of units v.unit).name in
    let v' = c.put_durably.new.vol in
    let w = c.enter_name.new.vol in
    let n = g.H.Hall.meaning c.put_durably.new.hall in
    let f : F1 = c.new_f1-set.result in
    let attrs = c.new_attr.ensures dsn.bytes c.requires.catalog ∙ attr_asked dsn.bytes attr q c.requires.catalog in
    let is = set_is f dsn.bytes v.serial.bytes _ v.geometry _ runs c.args.pointer c.args.dir c.new_f1-set.ensures (asked attr q) (extent_type q.unit) attrs c.extent_type.ensures in
    let put = subst (λ x. PutsDurably {T = Unit {0}} {E = Device} (unit_of (g.H.Hall.facts x).units v.unit).name v c.in_ok-slot.slot (formats.F1 f) v' (g.H.Hall.meaning x) n (Ok tt)) c.in_ok-slot.ensures.hall (c.in_ok-put_durably.ensures.files told) in
    let last = entered_changes v' c.take_runs.new.vol w c.take_runs.ensures.others c.enter_name.ensures.others in
    let taken = subst (λ (x : Vol). AreWithout x.free.items runs c.take_runs.new.vol.free.items) c.put_durably.ensures.others c.take_runs.ensures.runs in
    let without = subst (λ (x : Vol). AreWithout v.free.items runs x.free.items) (sym c.enter_name.ensures.others) taken in
    put_decides name v v' c.in_ok-slot.slot (g.H.Hall.meaning c.args.hall.now) n units c.requires.unit (c.requires.mounted told) c.in_ok-slot.ensures.found (c.requires.marked told) dsn attr q c.args.dir runs c.args.pointer c.requires.dir c.requires.catalog c.requires.quantities (c.requires.third told) (c.requires.plan told) (c.requires.body told) f is
    (Ok tt) w (both_changed v v' w c.put_durably.ensures.others last) (index_with v' w last (image_named n.state name)) without put

pub returns-clause-unit : goal.returns-clause-unit
returns-clause-unit g c =
    let v' = c.put_durably.new.vol in
    let runs = listed c.args.extents.now in
    let units = (g.H.Hall.facts c.put_durably.new.hall).units in
    let without = subst (λ (x : Vol). AreWithout v'.free.items runs x.free.items) (sym c.enter_name.ensures.others) c.take_runs.ensures.runs in
    unit_with v' c.enter_name.new.vol (entered_changes v' c.take_runs.new.vol c.enter_name.new.vol c.take_runs.ensures.others c.enter_name.ensures.others) units runs c.put_durably.ensures.unit without

pub returns-clause-names : goal.returns-clause-names
returns-clause-names g c =
    let v = c.args.vol.now in
    let named = set_named c.new_f1-set.result c.args.dsn.now.bytes v.serial.bytes _ v.geometry _ (listed c.args.extents.now) c.args.pointer c.args.dir c.new_f1-set.ensures in
    let put = subst (λ (x : Vol). AreByName (name_at v.slots.items) x.by_name.items) (sym c.put_durably.ensures.others) c.requires.name.names in
    let ordered = subst (λ (x : Vol). AreByName (name_at v.slots.items) x.by_name.items) (sym c.take_runs.ensures.others) put in
    let items = ap (λ (x : Vol). x.slots.items) c.take_runs.ensures.others ∙ c.in_ok-put_durably.ensures.index.items in
    c.enter_name.ensures.names v.slots.items ordered (set_enters v c.in_ok-slot.slot c.new_f1-set.result c.args.dsn.now.bytes c.take_runs.new.vol.slots.items (found_open v c.in_ok-slot.slot c.in_ok-slot.ensures.found) named c.requires.name.absent items)

pub returns-clause-index : goal.returns-clause-index
returns-clause-index g c =
    both_changed c.args.vol.now c.put_durably.new.vol c.enter_name.new.vol c.put_durably.ensures.others (entered_changes c.put_durably.new.vol c.take_runs.new.vol c.enter_name.new.vol c.take_runs.ensures.others c.enter_name.ensures.others)

pub returns-in_err-put_durably-clause-index : goal.returns-in_err-put_durably-clause-index
returns-in_err-put_durably-clause-index g c = slots_changed c.args.vol.now c.put_durably.new.vol c.put_durably.ensures.others

pub returns-clause-room : goal.returns-clause-room
returns-clause-room g c =
    ap (λ (x : Vol). vec_capacity x.free) c.enter_name.ensures.others ∙ c.take_runs.ensures.room ∙ room_kept c.args.vol.now c.put_durably.new.vol c.put_durably.ensures.others

pub returns-in_err-put_durably-clause-room : goal.returns-in_err-put_durably-clause-room
returns-in_err-put_durably-clause-room g c = room_kept c.args.vol.now c.put_durably.new.vol c.put_durably.ensures.others

pub returns-clause-format_1 : goal.returns-clause-format_1
returns-clause-format_1 g c =
    let v = c.args.vol.now in
    let dsn = c.args.dsn.now in
    let slot = c.in_ok-slot.slot in
    let f : F1 = c.new_f1-set.result in
    let make : Attr → ℕ → F1 = λ a k. new_f1 dsn.bytes v.serial.bytes a v.geometry k (listed c.args.extents.now) c.args.pointer c.args.dir in
    let is : f ≡ make (new_attr dsn.bytes c.args.attr.now c.args.request.now) (extent_type c.args.request.now.unit) = c.new_f1-set.ensures ∙ ap₂ make (c.new_attr.ensures dsn.bytes c.requires.catalog) c.extent_type.ensures in
    let items : c.enter_name.new.vol.slots.items ≡ slice_set v.slots.items slot (formats.F1 f) =
    ap (λ (x : Vol). x.slots.items) c.enter_name.ensures.others ∙ ap (λ (x : Vol). x.slots.items) c.take_runs.ensures.others ∙ c.in_ok-put_durably.ensures.index.items in (
      slot,
      ap (λ (l : List Dscb). slice_get l slot) items
          ∙ set_there v.slots.items slot (formats.F1 f) (found_open v slot c.in_ok-slot.ensures.found).low
          ∙ ap (λ (x : F1). Some (formats.F1 x)) is,
    )
