-- The two writes of an extension, each made durable, as steps of an update: the format 3 leaves the volume as it is, and the format 1 decides the operation.
use Rattle.std.proofs.Common.{◌≡◌, ◌+◌, ◌≤◌, ℕ, true, false, List, [], ◌++◌, length, take, Some, None, Ok, Err, refl, sym, ap, subst, ◌∙◌, arith}
use Rattle.std.specs.Prelude.{Result, OnOk, slice_get}
use Rattle.std.specs.Option.{option_map}
use Rattle.std.specs.Str.{bytes_eq}
use Rattle.std.specs.List.{AllByRecursion}
use Rattle.std.proofs.lemmas.List.{length-map}
use Rattle.std.proofs.lemmas.Slice.Eq.{bytes_eq-Decides}
use Rattle.dscb_codec.specs.declared.Dscb.{Dscb}
use Rattle.dscb_codec.specs.declared.Dscb.TheVariants as formats
use Rattle.dscb_codec.specs.declared.F1.{F1}
use Rattle.dscb_codec.specs.declared.F3.{F3}
use Rattle.ebcdic_names.specs.declared.names.Dsn.{Dsn}
use Rattle.stop_model.specs.Files.{File}
use Rattle.stop_model.specs.Moments.{Meaning}
use Rattle.pack_spec.specs.declared.slot.VtocSlot.{VtocSlot}
use Rattle.pack_spec.specs.Blocks.{data_tracks}
use Rattle.pack_spec.specs.Label.{tracks_of}
use Rattle.pack_spec.specs.Owned.{volume_faults}
use Rattle.pack_spec.specs.Rules.{counted_extents, has_chain, has_extents, has_types, is_chained, slots_faults}
use Rattle.pack_spec.specs.Settled.{IsMarked}
use Rattle.pack_spec.specs.Volume.{attr_of, data_set_of, volume_by, volume_with}
use Rattle.pack_spec.specs.Vtoc.{run_of_extent}
use Rattle.pack_spec.proofs.AddressesApart.{AreApart, slots_apart}
use Rattle.pack_spec.proofs.AlikeSlots.{IsSetOf}
use Rattle.pack_spec.proofs.Lawful.{lawful_volume}
use Rattle.shelf_laws.proofs.Extending.{secondary_new}
use Rattle.space_alloc.specs.Edits.{AreWithout}
use Rattle.vol_model.specs.declared.contents.DataSet.{DataSet}
use Rattle.vol_model.specs.declared.contents.Run.{Run}
use Rattle.vol_model.specs.declared.contents.Volume.{Volume}
use Rattle.vol_model.specs.Lawful.{IsOnPack}
use Rattle.vol_model.specs.Shelf.{extend_on, is_catalog, secondary_choice, set_of, unreadable, with_extents, with_set}
use Rattle.vol_model.specs.Slots.{slots_needed}
use Rattle.vol_model.specs.Space.{free_runs}
use Rattle.vtoc_index.specs.declared.vol.Vol.{Vol}
use Rattle.vtoc_index.specs.Index.{IsIndexOf, IsMounted, address_in, with_dscb}
use Rattle.free_rebuild.specs.Updates.{Marks}
use Rattle.free_rebuild.proofs.AddressLemmas.{held_slots}
use Rattle.free_rebuild.proofs.ChainLemmas.{get_low}
use Rattle.dadsm_ops.specs.Allocating.{Decides}
use Rattle.dadsm_ops.specs.Extending.{HasMore, HoldAdded, IsLedTo, IsPointedBy, added_fields, added_type, f1_with, f3_with}
use Rattle.dadsm_ops.specs.Operations.{image_named}
use Rattle.free_rebuild.specs.Durable.{PutsDurably}
use Rattle.dadsm_ops.proofs.AddedFields.{behind_own, fields_append}
use Rattle.dadsm_ops.proofs.ChangedFormats.{format_faults}
use Rattle.dadsm_ops.proofs.ChangedThirds.{third_behind, third_faults, third_volume}
use Rattle.slot_laws.proofs.ChangedVolumes.{set_there, volume_changed}
use Rattle.dadsm_ops.proofs.CountedMany.{counted_many}
use Rattle.dadsm_ops.proofs.ExtendedSets.{added_counted, extended_inside, extended_read, extended_types}
use Rattle.dadsm_ops.proofs.ExtendedThirds.{pointed_once, set_rules}
use Rattle.dadsm_ops.proofs.ExtendedVolumes.{extend_keeps, extend_ok, free_runs_then}
use Rattle.dadsm_ops.proofs.LawfulFaults.{lawful_faults}
use Rattle.slot_laws.proofs.FoundSlots.{set_behind}
use Rattle.slot_laws.proofs.StandingPuts.{label_by, slots_by}
use Rattle.dadsm_ops.proofs.StandingSteps.{alike_marks, put_decides}

-- what the index holds of a mounted image stands in its slots
pub stands_there : (image : List ℕ) (v : Vol) → IsMounted image v → (slot : ℕ) (d : Dscb) → slice_get v.slots.items slot ≡ Some d → slice_get (slots_by image v) slot ≡ Some (record { address = address_in v slot; content = Ok d })
stands_there image v mounted slot d there = held_slots image v mounted.index slot ∙ ap (option_map (λ (x : Dscb). record { address = address_in v slot; content = Ok x })) there

module _ (name : List ℕ) (v v' : Vol) (m n : Meaning (List File)) (mounted : IsMounted (image_named m.state name) v) (few : v.vtoc.start + v.vtoc.len ≤ 65536) (marked : IsMarked (slots_by (image_named m.state name) v)) (slot : ℕ) (f : F1) (set : slice_get v.slots.items slot ≡ Some (formats.F1 f)) where
  abbrev image : List ℕ
  image = image_named m.state name

  abbrev slots : List VtocSlot
  slots = slots_by image v

  abbrev volume : Volume
  volume = volume_by image v.geometry v.vtoc

  abbrev here : VtocSlot
  here = record { address = address_in v slot; content = Ok (formats.F1 f) }

  there : slice_get slots slot ≡ Some here
  there = stands_there image v mounted slot (formats.F1 f) set

  apart : AreApart slots
  apart = slots_apart image v.geometry v.vtoc few

  -- ---- the set's own format 3

  module _ (number : ℕ) (h : F3) (own : IsLedTo v f number h) (chained : is_chained f ≡ true) (three : length f.runs ≡ 3) (front : length h.front ≡ 4) (kind : ℕ) (runs : List Run) where
    abbrev d : F3
    d = f3_with v.geometry kind f.extents runs h

    abbrev third : VtocSlot
    third = record { address = address_in v number; content = Ok (formats.F3 h) }

    third_there : slice_get slots number ≡ Some third
    third_there = stands_there image v mounted number (formats.F3 h) own.there

    -- the extents that a set counts in it are the same
    rows_kept : take f.extents (f.runs ++ ((f3_with v.geometry kind f.extents runs h).front ++ (f3_with v.geometry kind f.extents runs h).back)) ≡ take f.extents (f.runs ++ (h.front ++ h.back))
    unfolding f3_with
    rows_kept =
        let behind : 3 + length h.front ≡ 7 = omega (arith, front) in
        let number : 3 ≡ 0 + length f.runs = omega (arith, three) in
        ap (λ (k : ℕ). take f.extents (f.runs ++ (added_fields v.geometry kind f.extents runs 3 h.front ++ added_fields v.geometry kind f.extents runs k h.back))) (sym behind)
        ∙ ap (λ (l : List (List ℕ)). take f.extents (f.runs ++ l)) (sym (fields_append v.geometry kind f.extents runs 3 h.front h.back))
        ∙ ap (λ (k : ℕ). take f.extents (f.runs ++ added_fields v.geometry kind f.extents runs k (h.front ++ h.back))) number
        ∙ behind_own v.geometry kind f.extents runs f.extents 0 f.runs (h.front ++ h.back) (omega arith)

    kept : (e : F1) → IsSetOf slots e → is_chained e ≡ true → bytes_eq (address_in v number) e.pointer ≡ true → take e.extents (e.runs ++ (d.front ++ d.back)) ≡ take e.extents (e.runs ++ (h.front ++ h.back))
    kept e at counts leads =
        let pointers : f.pointer ≡ e.pointer = sym ((bytes_eq-Decides (address_in v number) f.pointer).0 own.address) ∙ (bytes_eq-Decides (address_in v number) e.pointer).0 leads in
        let one : at.0 ≡ slot = pointed_once v.geometry slots mounted.lawful slot here f there refl chained at.0 at.1 e at.2 at.3 counts ((bytes_eq-Decides f.pointer e.pointer).1 pointers) in
        let both : Some at.1 ≡ Some here = sym at.2 ∙ ap (slice_get slots) one ∙ there in
        let slot_is : at.1 ≡ here = cc in
        let contents : Ok (formats.F1 e) ≡ Ok (formats.F1 f) = sym at.3 ∙ ap (λ (x : VtocSlot). x.content) slot_is in
        let same : f ≡ e = cc in
        subst (λ (x : F1). take x.extents (x.runs ++ (d.front ++ d.back)) ≡ take x.extents (x.runs ++ (h.front ++ h.back))) same rows_kept

    -- It is put and made durable: the image stands for the same volume.
    pub own_marks : {T E : Type 0} (result : Result T E) → v' ≡ record v { slots = v'.slots; buf = v'.buf } → PutsDurably name v number (formats.F3 (f3_with v.geometry kind f.extents runs h)) v' m n result → Marks name v' m n result
    own_marks result others put =
        let lawful = third_faults v.geometry slots number third h d third_there refl kept mounted.lawful in
        let other = third_behind v.geometry slots number third h d third_there refl kept mounted.lawful in
        alike_marks name v v' number (formats.F3 d) m n mounted (get_low v.slots.items number (formats.F3 h) own.there) other marked lawful
        (third_volume v.geometry slots number third h d third_there refl kept (data_tracks image v.geometry v.vtoc) (label_by image v) v.vtoc) result others put

  -- ---- the format 1

  module _ (runs : List Run) (pointer : List ℕ) (small : tracks_of v.geometry ≤ 65536) (plain : is_catalog f.name ≡ false) (added : HoldAdded slots v.geometry (added_type (attr_of f)) slot f runs pointer) (more : HasMore f volume runs) (fits : slots_needed (with_set volume f.name (with_extents runs)) ≤ volume.slots)
      (readable : (x : DataSet) → set_of f.name volume ≡ Some x → unreadable x.body ≡ None) where
    abbrev kind : ℕ
    kind = added_type (attr_of f)

    abbrev then : F1
    then = f1_with v.geometry kind runs pointer f

    abbrev x : DataSet
    x = data_set_of v.geometry (data_tracks image v.geometry v.vtoc) slots f

    found : set_of f.name volume ≡ Some x
    found = set_there v.geometry (data_tracks image v.geometry v.vtoc) slots slot here f there refl mounted.lawful (label_by image v) v.vtoc

    attr_is : x.attr ≡ attr_of f
    unfolding data_set_of
    attr_is = refl

    on_pack : AllByRecursion (IsOnPack v.geometry) runs
    unfolding volume_with
    on_pack = (secondary_new volume (attr_of f) runs more.chosen).on_pack

    rules : (has_types slots f ≡ true) × (has_extents v.geometry slots f ≡ true) × (has_chain slots (take slot slots) f ≡ true)
    rules = set_rules v.geometry slots mounted.lawful slot here f there refl

    named : then.name ≡ f.name
    unfolding f1_with
    named = refl

    pointed : then.pointer ≡ pointer
    unfolding f1_with
    pointed = refl

    lawful : slots_faults v.geometry (with_dscb slot (formats.F1 then) slots) ≡ []
    lawful = format_faults v.geometry slots slot here f then there refl named
        (extended_types v.geometry small slots kind (added_counted (attr_of f)) f runs pointer on_pack added.counted rules.0)
        (extended_inside v.geometry small slots kind (added_counted (attr_of f)) f runs pointer on_pack added.counted more.few rules.1)
        added.third
        (λ chained. subst (λ (p : List ℕ). IsPointedBy slots p slot) (sym pointed) (added.alone chained))
        mounted.lawful

    read : data_set_of v.geometry (data_tracks image v.geometry v.vtoc) slots then ≡ with_extents runs x
    read = extended_read v.geometry small slots kind (added_counted (attr_of f)) f runs pointer on_pack added.counted (data_tracks image v.geometry v.vtoc) (readable x found)

    after : volume_with v.geometry (data_tracks image v.geometry v.vtoc) (label_by image v) v.vtoc (with_dscb slot (formats.F1 then) slots) ≡ with_set volume f.name (with_extents runs)
    after = volume_changed v.geometry (data_tracks image v.geometry v.vtoc) slots slot here f there refl mounted.lawful then (with_extents runs) (λ y. refl) read (label_by image v) v.vtoc

    extents_many : length x.extents ≡ f.extents
    unfolding data_set_of
    extents_many = length-map (counted_extents slots f) (run_of_extent v.geometry) ∙ (counted_many image v mounted f (slot, here, there, refl) rules.1).0

    stepped : (dsn : Dsn) → f.name ≡ dsn.bytes → extend_on dsn volume ≡ Ok (with_set volume f.name (with_extents runs))
    stepped dsn is =
        let one : extend_on (record { bytes = f.name }) volume ≡ Ok (with_set volume f.name (with_extents runs)) =
        extend_ok (record { bytes = f.name }) volume x found plain (readable x found) runs (ap (secondary_choice volume) attr_is ∙ more.chosen) (omega (arith, extents_many, more.few)) fits in
        let dsn_is : (let e : Dsn = record { bytes = f.name } in e) ≡ dsn = ap (λ (l : List ℕ). let e : Dsn = record { bytes = l } in e) is in
        ap (λ (e : Dsn). extend_on e volume) (sym dsn_is) ∙ one

    -- It is put and made durable: the image stands for the volume with the added extents.
    pub extended_decides : {T E : Type 0} (dsn : Dsn) → f.name ≡ dsn.bytes → (result : Result T E) (w : Vol) → OnOk result (w ≡ record v { slots = w.slots; free = w.free; by_name = w.by_name; buf = w.buf }) → OnOk result (IsIndexOf (image_named n.state name) v' → IsIndexOf (image_named n.state name) w)
        → OnOk result (AreWithout v.free.items runs w.free.items) → PutsDurably name v slot (formats.F1 (f1_with v.geometry (added_type (attr_of f)) runs pointer f)) v' m n result → Decides name (extend_on dsn) w m n result
    extended_decides dsn is result w others indexed without put =
        let step = stepped dsn is in
        put_decides name v v' slot (formats.F1 then) m n mounted (get_low v.slots.items slot (formats.F1 f) set) (set_behind v.geometry slots slot here f there refl mounted.lawful) marked lawful
        (extend_on dsn) (step ∙ ap (λ (y : Volume). Ok y) (sym after))
        (ap volume_faults after ∙ lawful_faults (with_set volume f.name (with_extents runs)) (extend_keeps dsn volume (with_set volume f.name (with_extents runs)) (lawful_volume image volume mounted.volume) step))
        result w others indexed (freed result w without) put
      where
        freed : {T E : Type 0} (result : Result T E) (w : Vol) → OnOk result (AreWithout v.free.items runs w.free.items) → OnOk result (w.free.items ≡ free_runs (volume_with v.geometry (data_tracks image v.geometry v.vtoc) (label_by image v) v.vtoc (with_dscb slot (formats.F1 then) slots)))
        freed (Ok y) w without = free_runs_then f.name volume x found runs v.free.items w.free.items mounted.free without ∙ sym (ap free_runs after)
        freed (Err e) w without = tt
