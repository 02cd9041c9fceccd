-- An image in which one slot holds a data set's format 1 without blocks: it stands for the volume after its Empty.
use Rattle.std.proofs.Common.{◌≡◌, ◌≢◌, ℕ, ◌<◌, ◌*◌, Bool, true, false, cond, List, [], ◌∷◌, map, length, get_or, Some, Result, Ok, Err, refl, sym, ap, subst, ◌∙◌}
use Rattle.std.specs.Prelude.{◌||◌, ◌==◌, filter, not, slice_get, unwrap_or}
use Rattle.std.specs.List.{list_any, range_with_len}
use Rattle.std.specs.Str.{bytes_eq}
use Rattle.std.proofs.lemmas.Slice.Eq.{bytes_eq-Decides}
use Rattle.ckd_image.specs.Device.{row_of}
use Rattle.dscb_codec.specs.declared.Dscb.{Dscb}
use Rattle.dscb_codec.specs.declared.Dscb.TheVariants as formats
use Rattle.dscb_codec.specs.declared.DscbErr.{DscbErr}
use Rattle.dscb_codec.specs.declared.F1.{F1}
use Rattle.dscb_codec.specs.Layout.{decoded}
use Rattle.stop_model.specs.Files.{patched}
use Rattle.pack_spec.specs.declared.slot.VtocSlot.{VtocSlot}
use Rattle.pack_spec.specs.Blocks.{data_tracks}
use Rattle.pack_spec.specs.FreeChain.{entries_of, free_entries}
use Rattle.pack_spec.specs.Label.{heads_of, label_of}
use Rattle.pack_spec.specs.Owned.{volume_faults}
use Rattle.pack_spec.specs.Rules.{is_named, slots_faults}
use Rattle.pack_spec.specs.Settled.{AreGuarded, AreSettled, IsGuarded, IsSettledVtoc, slots_for}
use Rattle.pack_spec.specs.Volume.{volume_by, volume_of, volume_with}
use Rattle.pack_spec.proofs.Lawful.{groups_hold, lawful_volume}
use Rattle.vol_model.specs.declared.contents.Attr.{Attr}
use Rattle.vol_model.specs.declared.contents.DataSet.{DataSet}
use Rattle.vol_model.specs.declared.contents.Run.{Run}
use Rattle.vol_model.specs.declared.contents.Volume.{Volume}
use Rattle.vol_model.specs.Lawful.{IsLawfulVolume}
use Rattle.vol_model.specs.Shelf.{changed, empty_on, emptied, has_name, with_set}
use Rattle.vol_model.specs.Space.{covers, free_runs, is_in, is_unowned, runs_of, usable_cylinders}
use Rattle.vtoc_index.specs.declared.vol.Vol.{Vol}
use Rattle.vtoc_index.specs.Index.{IsIndexOf, IsMounted, IsPut, place_of_slot, with_dscb}
use Rattle.dadsm_ops.specs.Emptying.{MayEmpty, emptied_format_1}
use Rattle.dadsm_ops.proofs.EmptiedSets.{volume_emptied, volume_then}
use Rattle.slot_laws.proofs.FoundSlots.{content_at, has_named, low_of, others_apart, set_behind, slot_there}
use Rattle.slot_laws.proofs.KeptGuards.{guarded_alike, settled_alike}
use Rattle.slot_laws.proofs.KeptSlots.{HasExtentsOf, changed_content, changed_slot, faults_alike, put_is_change}
use Rattle.dadsm_ops.proofs.LawfulFaults.{emptied_lawful, lawful_faults}
use Rattle.dadsm_ops.proofs.RenamedImages.{StandsAfter, differs_in_vtoc, slots_on_image, volume_on_image}
use Rattle.slot_laws.proofs.StandingPuts.{put_mounted, put_stands}

-- a format 1, without blocks where it has this name
abbrev one_emptied : List ℕ → Attr → F1 → F1
one_emptied name attr f = cond (bytes_eq f.name name) (emptied_format_1 attr f) f

module _ (name : List ℕ) (attr : Attr) where
  keeps : (f : F1) → HasExtentsOf f (one_emptied name attr f)
  keeps f = by_test (bytes_eq f.name name)
    where
      by_test : (b : Bool) → HasExtentsOf f (cond b (emptied_format_1 attr f) f)
      by_test true = record { count = refl; runs = refl; pointer = refl }
      by_test false = record { count = refl; runs = refl; pointer = refl }

  names : (f : F1) → (one_emptied name attr f).name ≡ f.name
  names f = by_test (bytes_eq f.name name)
    where
      by_test : (b : Bool) → (cond b (emptied_format_1 attr f) f).name ≡ f.name
      by_test true = refl
      by_test false = refl

  -- what is in a slot without the name stays
  unnamed : (d : Result Dscb DscbErr) → is_named name d ≡ false → changed_content (one_emptied name attr) d ≡ d
  unnamed (Ok formats.F0) apart = refl
  unnamed (Ok (formats.F1 f)) apart = ap (λ (b : Bool). Ok (formats.F1 (cond b (emptied_format_1 attr f) f))) apart
  unnamed (Ok (formats.F3 f)) apart = refl
  unnamed (Ok (formats.F4 f)) apart = refl
  unnamed (Ok (formats.F5 f)) apart = refl
  unnamed (Err e) apart = refl

  same_slot : (s : VtocSlot) → has_named name s ≡ false → s ≡ changed_slot (one_emptied name attr) s
  same_slot s apart = ap (λ (d : Result Dscb DscbErr). record s { content = d }) (sym (unnamed s.content apart))

  -- no track comes or goes
  same_covers : (t : ℕ) (sets : List DataSet) → list_any (λ (x : DataSet). covers x.extents t) (changed name (emptied attr) sets) ≡ list_any (λ (x : DataSet). covers x.extents t) sets
  same_covers t [] = refl
  same_covers t (x ∷ sets) = by_test (has_name name x) ∙ ap (λ (b : Bool). covers x.extents t || b) (same_covers t sets)
    where
      by_test : (b : Bool) → (covers (cond b (emptied attr x) x).extents t || list_any (λ (y : DataSet). covers y.extents t) (changed name (emptied attr) sets)) ≡ (covers x.extents t || list_any (λ (y : DataSet). covers y.extents t) (changed name (emptied attr) sets))
      by_test true = refl
      by_test false = refl

  module _ (volume : Volume) where
    abbrev runs_by : (ℕ → Bool) → List Run
    runs_by p = runs_of (filter p (range_with_len 0 (usable_cylinders volume.geometry * (row_of volume.geometry.device).heads)))

    runs_alike : free_runs (with_set volume name (emptied attr)) ≡ free_runs volume
    runs_alike =
        let same : (t : ℕ) → is_unowned (with_set volume name (emptied attr)) t ≡ is_unowned volume t = λ t. ap (λ (b : Bool). not (t == 0 || (is_in t volume.vtoc || b))) (same_covers t volume.sets) in
        ap runs_by (λ i t. same t i)

    space_alike : free_entries (with_set volume name (emptied attr)) ≡ free_entries volume
    space_alike = ap (entries_of (heads_of volume.geometry)) runs_alike

-- A data set stands in a slot, and may be emptied.
pub record CanEmpty (image : List ℕ) (v : Vol) (slot : ℕ) (f : F1) (attr : Attr) : Type 0 where
  pub mounted : IsMounted image v
  pub set : slice_get v.slots.items slot ≡ Some (formats.F1 f)
  pub may : MayEmpty image (record { bytes = f.name }) attr

-- What the DSCB that is put makes of the slots and the volume.
record IsEmptying (image : List ℕ) (v : Vol) (slot : ℕ) (f : F1) (attr : Attr) : Type 0 where
  after : Volume
  low : slot < length v.slots.items
  behind : slot ≢ 0
  slots : with_dscb slot (formats.F1 (emptied_format_1 attr f)) (slots_on_image image v) ≡ map (changed_slot (one_emptied f.name attr)) (slots_on_image image v)
  lawful : slots_faults v.geometry (with_dscb slot (formats.F1 (emptied_format_1 attr f)) (slots_on_image image v)) ≡ []
  step : empty_on (record { bytes = f.name }) attr (volume_on_image image v) ≡ Ok after
  made : volume_with v.geometry (data_tracks image v.geometry v.vtoc) (unwrap_or (label_of image v.geometry) []) v.vtoc (with_dscb slot (formats.F1 (emptied_format_1 attr f)) (slots_on_image image v)) ≡ with_set (volume_on_image image v) f.name (emptied attr)
  outcome : with_set (volume_on_image image v) f.name (emptied attr) ≡ after
  whole : volume_faults (volume_with v.geometry (data_tracks image v.geometry v.vtoc) (unwrap_or (label_of image v.geometry) []) v.vtoc (with_dscb slot (formats.F1 (emptied_format_1 attr f)) (slots_on_image image v))) ≡ []
  free : v.free.items ≡ free_runs (volume_with v.geometry (data_tracks image v.geometry v.vtoc) (unwrap_or (label_of image v.geometry) []) v.vtoc (with_dscb slot (formats.F1 (emptied_format_1 attr f)) (slots_on_image image v)))

is_emptying : (image : List ℕ) (v : Vol) (slot : ℕ) (f : F1) (attr : Attr) → CanEmpty image v slot f attr → IsEmptying image v slot f attr
is_emptying image v slot f attr can =
    let c : F1 → F1 = one_emptied f.name attr in
    let slots : List VtocSlot = slots_on_image image v in
    let d : Dscb = formats.F1 (emptied_format_1 attr f) in
    let g = v.geometry in
    let tracks : List (List ℕ) = data_tracks image g v.vtoc in
    let label : List ℕ = unwrap_or (label_of image g) [] in
    let groups = groups_hold g slots can.mounted.lawful in
    let content = content_at v.slots.items slots slot (formats.F1 f) can.mounted.index.slots can.set in
    let at = slot_there (slice_get slots slot) (Ok (formats.F1 f)) content in
    let itself : bytes_eq f.name f.name ≡ true = (bytes_eq-Decides f.name f.name).1 refl in
    let this : c f ≡ emptied_format_1 attr f = ap (λ (b : Bool). cond b (emptied_format_1 attr f) f) itself in
    let only = others_apart f.name slots slot at.0 at.1.0 (ap (is_named f.name) at.1.1 ∙ itself) groups.2 in
    let is : with_dscb slot d slots ≡ map (changed_slot c) slots =
    ap (λ (h : F1). with_dscb slot (formats.F1 h) slots) (sym this)
    ∙ put_is_change c slot slots f content (λ k e low other. same_slot f.name attr (get_or slots k e) (only k e low other)) in
    let allowed = can.may (volume_on_image image v) can.mounted.volume in
    let made : volume_with g tracks label v.vtoc (with_dscb slot d slots) ≡ with_set (volume_on_image image v) f.name (emptied attr) =
    volume_emptied g tracks slots slot at.0 f attr at.1.0 at.1.1 can.mounted.lawful label v.vtoc allowed.0 allowed.1 in
    let outcome : with_set (volume_on_image image v) f.name (emptied attr) ≡ allowed.0 =
    volume_then g tracks slots slot at.0 f attr at.1.0 at.1.1 can.mounted.lawful label v.vtoc allowed.0 allowed.1 in
    let law : IsLawfulVolume (volume_on_image image v) = lawful_volume image (volume_by image g v.vtoc) can.mounted.volume in
    record {
      after = allowed.0;
      low = low_of v.slots.items slot (formats.F1 f) can.set;
      behind = set_behind g slots slot at.0 f at.1.0 at.1.1 can.mounted.lawful;
      slots = is;
      lawful = ap (slots_faults g) is ∙ faults_alike c (keeps f.name attr) (names f.name attr) g slots ∙ can.mounted.lawful;
      step = allowed.1;
      made = made;
      outcome = outcome;
      whole = ap volume_faults (made ∙ outcome) ∙ lawful_faults allowed.0 (emptied_lawful (record { bytes = f.name }) attr (volume_on_image image v) allowed.0 law allowed.1);
      free = can.mounted.free ∙ sym (ap free_runs made ∙ runs_alike f.name attr (volume_on_image image v));
    }

module _ (image put : List ℕ) (v : Vol) (slot : ℕ) (f : F1) (attr : Attr) (bytes : List ℕ) (can : CanEmpty image v slot f attr) (size : length bytes ≡ 140) (dscb : decoded bytes ≡ Ok (formats.F1 (emptied_format_1 attr f)))
    (written : put ≡ patched image (place_of_slot v slot) bytes) (is : IsPut v slot (formats.F1 (emptied_format_1 attr f)) image put) where
  abbrev d : Dscb
  d = formats.F1 (emptied_format_1 attr f)

  abbrev before : Volume
  before = volume_on_image image v

  of : IsEmptying image v slot f attr
  of = is_emptying image v slot f attr can

  -- where it is done, the index is the image's
  pub empty_put : (w : Vol) → w ≡ record v { slots = w.slots; free = w.free; by_name = w.by_name; buf = w.buf } → IsIndexOf put w → w.free.items ≡ v.free.items → IsMounted put w
  empty_put w others index free =
      put_mounted image put v slot d bytes can.mounted of.low size dscb written is of.behind of.lawful of.whole w others index (free ∙ of.free)

  stands : volume_of put ≡ Ok of.after
  stands = put_stands image put v slot d bytes can.mounted of.low size dscb written is of.behind of.lawful of.whole ∙ ap (λ (x : Volume). Ok x) (of.made ∙ of.outcome)

  slots_now : slots_on_image put v ≡ map (changed_slot (one_emptied f.name attr)) (slots_on_image image v)
  slots_now = is.slots ∙ of.slots

  same_space : free_entries of.after ≡ free_entries before
  same_space = ap free_entries (sym of.outcome) ∙ space_alike f.name attr before

  same_volume : (volume : Volume) → volume_of image ≡ Ok volume → volume ≡ before
  same_volume volume there = let same : Ok volume ≡ Ok before = sym there ∙ can.mounted.volume in cc

  -- the slots on an image with this volume
  slots_for_put : slots_for put of.after ≡ map (changed_slot (one_emptied f.name attr)) (slots_on_image image v)
  unfolding volume_with
  slots_for_put = ap (slots_for put) (sym of.outcome) ∙ slots_now

  slots_for_image : slots_for image before ≡ slots_on_image image v
  unfolding volume_with
  slots_for_image = refl

  keeps_guarded : IsGuarded image → IsGuarded put
  keeps_guarded was =
      let here : AreGuarded (slots_for image before) before = subst (λ (x : Volume). AreGuarded (slots_for image x) x) (same_volume was.0 was.1) was.2 in
      let there : AreGuarded (slots_on_image image v) before = subst (λ (ss : List VtocSlot). AreGuarded ss before) slots_for_image here in
      (of.after, stands, subst (λ (ss : List VtocSlot). AreGuarded ss of.after) (sym slots_for_put) (guarded_alike (one_emptied f.name attr) (keeps f.name attr) (slots_on_image image v) before of.after same_space there))

  keeps_settled : IsSettledVtoc image → IsSettledVtoc put
  keeps_settled was =
      let here : AreSettled (slots_for image before) before = subst (λ (x : Volume). AreSettled (slots_for image x) x) (same_volume was.0 was.1) was.2 in
      let there : AreSettled (slots_on_image image v) before = subst (λ (ss : List VtocSlot). AreSettled ss before) slots_for_image here in
      (of.after, stands, subst (λ (ss : List VtocSlot). AreSettled ss of.after) (sym slots_for_put) (settled_alike (one_emptied f.name attr) (keeps f.name attr) (slots_on_image image v) before of.after same_space there))

  -- Each image with the slot put, also one that a stop leaves, stands for the volume after the Empty.
  pub empty_stands : (volume : Volume) → volume_of image ≡ Ok volume → StandsAfter v (empty_on (record { bytes = f.name }) attr volume) image put
  empty_stands volume there = record {
    after = of.after;
    step = ap (empty_on (record { bytes = f.name }) attr) (same_volume volume there) ∙ of.step;
    stands = stands;
    guarded = keeps_guarded;
    settled = keeps_settled;
    changes = differs_in_vtoc image put v slot d can.mounted.index of.low is;
  }
