use Rattle.std.proofs.Common.{◌≡◌, ◌∙◌, ℕ, List, Some, ap, subst, sym}
use Rattle.std.specs.Prelude.{Err, Ok, slice_get}
use Rattle.dscb_codec.specs.declared.Dscb.{Dscb}
use Rattle.dscb_codec.specs.declared.Dscb.TheVariants as formats
use Rattle.dscb_codec.specs.declared.F1.{F1}
use Rattle.hall_core.specs.Facts.{unit_of}
use Rattle.pack_spec.specs.Volume.{attr_of}
use Rattle.space_alloc.specs.Edits.{AreWithout}
use Rattle.space_alloc.specs.Units.{listed}
use Rattle.vol_model.specs.declared.contents.Attr.{Attr}
use Rattle.vol_model.specs.Shelf.{extend_on}
use Rattle.vtoc_index.specs.Names.{AreByName, name_at}
use Rattle.vtoc_index.specs.declared.vol.Vol.{Vol}
use Rattle.free_rebuild.proofs.ChainLemmas.{get_low}
use Rattle.free_rebuild.proofs.NameLemmas.{names_kept}
use Rattle.dadsm_ops.specs.Allocating.{HaveSameNames}
use Rattle.dadsm_ops.specs.Extending.{added_type, f1_with}
use Rattle.dadsm_ops.specs.Operations.{image_named}
use Rattle.dadsm_ops.proofs.AddedExtents.{after_name}
use Rattle.dadsm_ops.proofs.ExtendedIndex.{index_freed, only_slots, same_vtoc, then_free, unit_freed}
use Rattle.dadsm_ops.proofs.ExtendedNames.{names_set}
use Rattle.dadsm_ops.proofs.ExtensionPlans.{put_extends}
use Rattle.dadsm_ops.proofs.NewIndex.{room_kept, room_then}
use Rattle.dadsm_ops.proofs.NewSetCalls.{decides_not}
use Rattle.dadsm_ops.proofs.Reordering.{set_there}
use Rattle.dadsm_ops.proofs.extending.put_extended.Goals as goal

pub put_durably-requires-clause-slot : goal.put_durably-requires-clause-slot
put_durably-requires-clause-slot g c = get_low c.args.vol.now.slots.items c.args.slot (formats.F1 c.args.set.now) c.requires.set

pub returns-in_err-put_durably-clause-files : goal.returns-in_err-put_durably-clause-files
returns-in_err-put_durably-clause-files g c dsn is told =
    let v = c.args.vol.now in
    let set = c.args.set.now in
    let runs = listed c.args.extents.now in
    let m = g.H.Hall.meaning c.args.hall.now in
    let units = (g.H.Hall.facts c.args.hall.now).units in
    let name : List ℕ = (unit_of units v.unit).name in
    let v' = c.put_durably.new.vol in
    let n = g.H.Hall.meaning c.put_durably.new.hall in
    let e : F1 = c.f1_with-more.result in
    let attrs : added_type c.attr_of.result ≡ added_type (attr_of set) = ap (λ (a : Attr). added_type a) c.attr_of.ensures.attr in
    let same : e ≡ f1_with v.geometry (added_type (attr_of set)) runs c.args.pointer set = c.f1_with-more.ensures ∙ ap (λ (k : ℕ). f1_with v.geometry k runs c.args.pointer set) (c.added_type-kind.ensures ∙ attrs) in
    decides_not name (extend_on dsn) v' m n c.from_residual.result c.from_residual.ensures.0
    (put_extends name v v' c.args.slot m n units c.requires.unit (c.requires.mounted told) (c.requires.marked told) set c.requires.set runs c.args.pointer c.requires.catalog (c.requires.added told) (c.requires.plan told) (c.requires.body told) e same dsn is
    (Err c.in_err-put_durably.field-0.0) v' tt tt tt (c.in_err-put_durably.ensures.files told))

pub returns-clause-files : goal.returns-clause-files
returns-clause-files g c dsn is told =
    let v = c.args.vol.now in
    let set = c.args.set.now in
    let runs = listed c.args.extents.now in
    let m = g.H.Hall.meaning c.args.hall.now in
    let units = (g.H.Hall.facts c.args.hall.now).units in
    let name : List ℕ = (unit_of units v.unit).name in
    let v' = c.put_durably.new.vol in
    let w = c.take_runs.new.vol in
    let n = g.H.Hall.meaning c.put_durably.new.hall in
    let e : F1 = c.f1_with-more.result in
    let attrs : added_type c.attr_of.result ≡ added_type (attr_of set) = ap (λ (a : Attr). added_type a) c.attr_of.ensures.attr in
    let same : e ≡ f1_with v.geometry (added_type (attr_of set)) runs c.args.pointer set = c.f1_with-more.ensures ∙ ap (λ (k : ℕ). f1_with v.geometry k runs c.args.pointer set) (c.added_type-kind.ensures ∙ attrs) in
    let without = subst (λ (x : Vol). AreWithout x.free.items runs w.free.items) c.put_durably.ensures.others c.take_runs.ensures.runs in
    put_extends name v v' c.args.slot m n units c.requires.unit (c.requires.mounted told) (c.requires.marked told) set c.requires.set runs c.args.pointer c.requires.catalog (c.requires.added told) (c.requires.plan told) (c.requires.body told) e same dsn is
    (Ok tt) w (same_vtoc v w (then_free v v' w c.put_durably.ensures.others c.take_runs.ensures.others)) (index_freed v' w c.take_runs.ensures.others (image_named n.state name)) without (c.in_ok-put_durably.ensures.files told)

pub returns-clause-unit : goal.returns-clause-unit
returns-clause-unit g c =
    let units = (g.H.Hall.facts c.put_durably.new.hall).units in
    unit_freed c.put_durably.new.vol c.take_runs.new.vol c.take_runs.ensures.others units (listed c.args.extents.now) c.put_durably.ensures.unit c.take_runs.ensures.runs

pub returns-clause-index : goal.returns-clause-index
returns-clause-index g c = then_free c.args.vol.now c.put_durably.new.vol c.take_runs.new.vol c.put_durably.ensures.others c.take_runs.ensures.others

pub take_runs-requires-clause-room : goal.take_runs-requires-clause-room
take_runs-requires-clause-room g c = room_then c.args.vol.now c.put_durably.new.vol c.put_durably.ensures.others c.requires.room

pub returns-clause-room : goal.returns-clause-room
returns-clause-room g c = c.take_runs.ensures.room ∙ room_kept c.args.vol.now c.put_durably.new.vol c.put_durably.ensures.others

pub returns-in_err-put_durably-clause-room : goal.returns-in_err-put_durably-clause-room
returns-in_err-put_durably-clause-room g c = room_kept c.args.vol.now c.put_durably.new.vol c.put_durably.ensures.others

pub returns-in_err-put_durably-clause-index : goal.returns-in_err-put_durably-clause-index
returns-in_err-put_durably-clause-index g c = only_slots c.args.vol.now c.put_durably.new.vol c.put_durably.ensures.others

pub returns-clause-names : goal.returns-clause-names
returns-clause-names g c =
    let v = c.args.vol.now in
    let v' = c.put_durably.new.vol in
    let set = c.args.set.now in
    let e : F1 = c.f1_with-more.result in
    let named : e.name ≡ set.name = ap (λ (x : F1). x.name) c.f1_with-more.ensures ∙ after_name v.geometry c.added_type-kind.result set (listed c.args.extents.now) c.args.pointer in
    let same : HaveSameNames v.slots.items v'.slots.items = subst (λ (l : List Dscb). HaveSameNames v.slots.items l) (sym c.in_ok-put_durably.ensures.index.items) (names_set v.slots.items c.args.slot set e c.requires.set named) in
    subst (λ (x : Vol). AreByName (name_at x.slots.items) x.by_name.items) (sym c.take_runs.ensures.others) (names_kept v v' c.put_durably.ensures.others same c.requires.names)

pub returns-clause-format_1 : goal.returns-clause-format_1
returns-clause-format_1 g c =
    let v = c.args.vol.now in
    let set = c.args.set.now in
    let e : F1 = c.f1_with-more.result in
    let with_type : ℕ → F1 = λ k. f1_with v.geometry k (listed c.args.extents.now) c.args.pointer set in
    let is : e ≡ with_type (added_type (attr_of set)) = c.f1_with-more.ensures ∙ ap with_type (c.added_type-kind.ensures ∙ ap (λ (a : Attr). added_type a) c.attr_of.ensures.attr) in
    ap (λ (x : Vol). slice_get x.slots.items c.args.slot) c.take_runs.ensures.others
    ∙ ap (λ (l : List Dscb). slice_get l c.args.slot) c.in_ok-put_durably.ensures.index.items
    ∙ set_there v.slots.items c.args.slot (formats.F1 e) (get_low v.slots.items c.args.slot (formats.F1 set) c.requires.set)
    ∙ ap (λ (x : F1). Some (formats.F1 x)) is
