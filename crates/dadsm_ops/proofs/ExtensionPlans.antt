-- What is judged before a data set gets extents, by the index of a mounted image: why it is refused, or that the volume has the slots.
use Rattle.std.proofs.Common.{◌≡◌, ◌+◌, ◌/◌, ◌≤◌, ◌<◌, ℕ, max, false, List, length, Some, None, refl, sym, ap, subst, ◌∙◌, arith}
use Rattle.std.specs.Prelude.{Result, Ok, Err, OnOk, slice_get}
use Rattle.std.specs.List.{sum_by}
use Rattle.std.proofs.lemmas.List.{length-map}
use Rattle.dscb_codec.specs.declared.Dscb.TheVariants as formats
use Rattle.dscb_codec.specs.declared.F1.{F1}
use Rattle.ebcdic_names.specs.declared.names.Dsn.{Dsn}
use Rattle.hall_core.specs.Facts.{Attached, unit_of}
use Rattle.stop_model.specs.Files.{File}
use Rattle.stop_model.specs.Moments.{Meaning}
use Rattle.pack_spec.specs.declared.slot.VtocSlot.{VtocSlot}
use Rattle.pack_spec.specs.Blocks.{data_tracks}
use Rattle.pack_spec.specs.Label.{tracks_of}
use Rattle.pack_spec.specs.Rules.{counted_extents}
use Rattle.pack_spec.specs.Settled.{AreSettled, IsMarked, IsSettledVtoc, slots_for}
use Rattle.pack_spec.specs.Volume.{attr_of, data_set_of, volume_by, volume_with}
use Rattle.pack_spec.specs.Vtoc.{run_of_extent}
use Rattle.pack_spec.proofs.Lawful.{lawful_volume}
use Rattle.space_alloc.specs.Edits.{AreWithout}
use Rattle.vol_model.specs.declared.contents.DataSet.{DataSet}
use Rattle.vol_model.specs.declared.contents.Run.{Run}
use Rattle.vol_model.specs.declared.contents.Volume.{Volume}
use Rattle.vol_model.specs.declared.refusals.Refusal.TheVariants.{ExtentsFull, NoSpace, VtocFull}
use Rattle.vol_model.specs.Shelf.{extend_on, is_catalog, secondary_asked, secondary_choice, set_of, unreadable, with_extents, with_set}
use Rattle.vol_model.specs.Slots.{slots_needed}
use Rattle.vol_model.specs.Space.{free_runs}
use Rattle.vtoc_index.specs.declared.vol.Vol.{Vol}
use Rattle.vtoc_index.specs.Index.{IsIndexOf, IsMounted, IsOfUnit, address_in}
use Rattle.vtoc_index.proofs.HeldDscbs.{dscbs_many}
use Rattle.vtoc_index.proofs.OwnedVolumes.{few_tracks}
use Rattle.vtoc_sets.specs.Sets.{slots_taken, volume_in}
use Rattle.free_rebuild.specs.Updates.{Marks}
use Rattle.free_rebuild.proofs.RunCounts.{low_tracks}
use Rattle.dadsm_ops.specs.Allocating.{Decides, open_slots}
use Rattle.dadsm_ops.specs.Extending.{HasExtension, HasMore, HoldAdded, IsReadable, added_type, f1_with, further_slots}
use Rattle.dadsm_ops.specs.Operations.{HasVtocOf, image_named}
use Rattle.free_rebuild.specs.Durable.{PutsDurably}
use Rattle.free_rebuild.proofs.DecodedSlots.{slot_decoded, three_runs}
use Rattle.dadsm_ops.proofs.CountedMany.{counted_many}
use Rattle.slot_laws.proofs.ChangedVolumes.{set_there}
use Rattle.dadsm_ops.proofs.ExtendedSteps.{extended_decides, stands_there}
use Rattle.dadsm_ops.proofs.ExtendedThirds.{set_rules}
use Rattle.dadsm_ops.proofs.ExtendedVolumes.{extend_extents_full, extend_full, extend_no_space, free_runs_then, needed_then}
use Rattle.dadsm_ops.proofs.NewChoices.{volume_is}
use Rattle.dadsm_ops.proofs.NewVolumes.{takes}
use Rattle.dadsm_ops.proofs.OpenRoom.{more_room}
use Rattle.slot_laws.proofs.StandingPuts.{label_by, slots_by}

-- a data set of the index on the volume of its image
module _ (image : List ℕ) (v : Vol) (mounted : IsMounted image v) (slot : ℕ) (f : F1) (set : slice_get v.slots.items slot ≡ Some (formats.F1 f)) where
  abbrev slots : List VtocSlot
  slots = slots_by image v

  abbrev here : VtocSlot
  here = record { address = address_in v slot; content = Ok (formats.F1 f) }

  abbrev volume : Volume
  volume = volume_by image v.geometry v.vtoc

  abbrev x : DataSet
  x = data_set_of v.geometry (data_tracks image v.geometry v.vtoc) slots f

  there : slice_get slots slot ≡ Some here
  there = stands_there image v mounted slot (formats.F1 f) set

  -- it has the three fields of a format 1
  pub three_on : length f.runs ≡ 3
  three_on = three_runs here f (slot_decoded image v.geometry v.vtoc slot here there) refl

  pub found_on : set_of f.name volume ≡ Some x
  found_on = set_there v.geometry (data_tracks image v.geometry v.vtoc) slots slot here f there refl mounted.lawful (label_by image v) v.vtoc

  pub attr_on : x.attr ≡ attr_of f
  unfolding data_set_of
  attr_on = refl

  pub many_on : length x.extents ≡ f.extents
  unfolding data_set_of
  many_on = length-map (counted_extents slots f) (run_of_extent v.geometry) ∙ (counted_many image v mounted f (slot, here, there, refl) (set_rules v.geometry slots mounted.lawful slot here f there refl).1).0

  pub slots_on : volume.slots ≡ length v.slots.items
  unfolding volume_with
  slots_on = sym (dscbs_many v.slots.items slots mounted.index.slots)

  -- ---- the refusals

  module _ (other : is_catalog f.name ≡ false) (readable : unreadable x.body ≡ None) where
    abbrev dsn : Dsn
    dsn = record { bytes = f.name }

    pub refused_space : secondary_choice volume (attr_of f) ≡ None → extend_on dsn volume ≡ Err (NoSpace (secondary_asked (attr_of f)))
    refused_space none = extend_no_space dsn volume x found_on other readable (ap (secondary_choice volume) attr_on ∙ none) ∙ ap (λ a. Err (NoSpace (secondary_asked a))) attr_on

    module _ (runs : List Run) (chosen : secondary_choice volume (attr_of f) ≡ Some runs) where
      by_attr : secondary_choice volume x.attr ≡ Some runs
      by_attr = ap (secondary_choice volume) attr_on ∙ chosen

      pub refused_extents : 16 < f.extents + length runs → extend_on dsn volume ≡ Err ExtentsFull
      refused_extents more = extend_extents_full dsn volume x found_on other readable runs by_attr (omega (arith, more, many_on))

      pub refused_slots : f.extents + length runs ≤ 16 → volume.slots < slots_needed (with_set volume f.name (with_extents runs)) → extend_on dsn volume ≡ Err (VtocFull (slots_needed (with_set volume f.name (with_extents runs))))
      refused_slots few more = extend_full dsn volume x found_on other readable runs by_attr (omega (arith, few, many_on)) more

  -- ---- the slots that are needed

  module _ (runs free : List Run) (without : AreWithout v.free.items runs free) (taken total : ℕ) (sets : taken ≡ slots_taken (volume_in image v).sets) (all : total ≡ 1 + max 1 ((length free + 25) / 26) + (taken + further_slots f.extents runs)) where
    pub needed_on : slots_needed (with_set volume f.name (with_extents runs)) ≡ total
    needed_on =
        let need = needed_then f.name volume x runs (lawful_volume image volume mounted.volume).order found_on in
        let same : free ≡ free_runs (with_set volume f.name (with_extents runs)) = free_runs_then f.name volume x found_on runs v.free.items free mounted.free without in
        need
        ∙ ap (λ (rs : List Run). 1 + max 1 ((length rs + 25) / 26) + (sum_by takes volume.sets + further_slots (length x.extents) runs)) (sym same)
        ∙ ap (λ (n : ℕ). 1 + max 1 ((length free + 25) / 26) + (sum_by takes volume.sets + further_slots n runs)) many_on
        ∙ ap (λ (n : ℕ). 1 + max 1 ((length free + 25) / 26) + (n + further_slots f.extents runs)) (sym sets)
        ∙ sym all

  settled_on : IsSettledVtoc image → AreSettled slots volume
  unfolding volume_with
  settled_on settled = subst (λ (y : Volume). AreSettled (slots_for image y) y) (volume_is image v settled.0 mounted settled.1) settled.2

  -- a settled image has the open slots that the extension takes
  pub further_room : v.vtoc.start + v.vtoc.len ≤ 65536 → IsSettledVtoc image → (runs : List Run) → HasExtension image f runs → further_slots f.extents runs ≤ open_slots v.slots.items
  further_room few settled runs plan =
      let is : plan.volume ≡ volume = volume_is image v plan.volume mounted plan.stands in
      let fits : slots_needed (with_set volume f.name (with_extents runs)) ≤ volume.slots = subst (λ (y : Volume). slots_needed (with_set y f.name (with_extents runs)) ≤ y.slots) is plan.fits in
      let need = needed_then f.name volume x runs (lawful_volume image volume mounted.volume).order found_on in
      let room = more_room image v mounted few (settled_on settled) ((length (free_runs (with_set volume f.name (with_extents runs))) + 25) / 26) (further_slots (length x.extents) runs) (slots_needed (with_set volume f.name (with_extents runs))) need fits in
      subst (λ (n : ℕ). further_slots n runs ≤ open_slots v.slots.items) many_on room

-- ---- what a step that marks an image leaves

-- what is planned on a volume is planned on each image that stands for it
module _ {T E : Type 0} {y : T} (name : List ℕ) (v : Vol) (m n : Meaning (List File)) (marks : Marks {T = T} {E = E} name v m n (Ok y)) where
  pub still_extended : (f : F1) (runs : List Run) → HasExtension (image_named m.state name) f runs → HasExtension (image_named n.state name) f runs
  still_extended f runs plan = record {
    volume = plan.volume;
    stands = marks.marked.stands ∙ sym marks.before ∙ plan.stands;
    has = plan.has;
    fits = plan.fits;
  }

  pub readable_stays : (set : List ℕ) → IsReadable (image_named m.state name) set → IsReadable (image_named n.state name) set
  readable_stays set readable w x stands found = readable w x (marks.before ∙ sym marks.marked.stands ∙ stands) found

-- ---- the deciding write

-- The format 1 with the added extents decides the operation.
pub put_extends : {T E : Type 0} (name : List ℕ) (v v' : Vol) (slot : ℕ) (m n : Meaning (List File)) (units : List Attached) → IsOfUnit units v → IsMounted (image_named m.state name) v → IsMarked (slots_by (image_named m.state name) v) → (f : F1) → slice_get v.slots.items slot ≡ Some (formats.F1 f)
    → (runs : List Run) (pointer : List ℕ) → is_catalog f.name ≡ false → HoldAdded (slots_by (image_named m.state name) v) v.geometry (added_type (attr_of f)) slot f runs pointer → HasExtension (image_named m.state name) f runs → IsReadable (image_named m.state name) f.name
    → (e : F1) → e ≡ f1_with v.geometry (added_type (attr_of f)) runs pointer f → (dsn : Dsn) → f.name ≡ dsn.bytes
    → (result : Result T E) (w : Vol) → OnOk result (HasVtocOf v w) → OnOk result (IsIndexOf (image_named n.state name) v' → IsIndexOf (image_named n.state name) w) → OnOk result (AreWithout v.free.items runs w.free.items)
    → PutsDurably name v slot (formats.F1 e) v' m n result → Decides name (extend_on dsn) w m n result
put_extends name v v' slot m n units unit mounted marked f set runs pointer plain added plan readable e same dsn is result w others indexed without put =
    let image : List ℕ = image_named m.state name in
    let here : Volume = volume_by image v.geometry v.vtoc in
    let volume_same : plan.volume ≡ here = volume_is image v plan.volume mounted plan.stands in
    let more : HasMore f here runs = subst (λ (y : Volume). HasMore f y runs) volume_same plan.has in
    let fits : slots_needed (with_set here f.name (with_extents runs)) ≤ here.slots = subst (λ (y : Volume). slots_needed (with_set y f.name (with_extents runs)) ≤ y.slots) volume_same plan.fits in
    let small : tracks_of v.geometry ≤ 65536 = omega (arith, few_tracks v.geometry ((unit_of units v.unit).size, unit.whole)) in
    extended_decides name v v' m n mounted (low_tracks units v unit) marked slot f set runs pointer small plain added more fits (λ x found. readable here x mounted.volume found) dsn is result w others indexed without
    (subst (λ (x : F1). PutsDurably name v slot (formats.F1 x) v' m n result) same put)
