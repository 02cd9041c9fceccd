-- An image in which one slot holds a data set's format 1 under another name: it stands for the renamed volume.
use Rattle.std.proofs.Common.{◌≡◌, inl, ℕ, ◌<◌, Bool, true, false, cond, List, [], ◌∷◌, ◌++◌, map, length, Option, Some, None, refl, sym, ap, subst, ◌∙◌, arith}
use Rattle.std.specs.Prelude.{◌||◌, is_some, position, slice_get, slice_set, unwrap_or, not, Result, Ok, Err, if◌then◌else◌}
use Rattle.std.specs.List.{list_any}
use Rattle.std.specs.Vec.{with_items}
use Rattle.std.proofs.lemmas.Bool.{or_parts}
use Rattle.std.proofs.lemmas.List.{length-set, with_items_is}
use Rattle.std.proofs.lemmas.List.Quantifiers.{position-Some}
use Rattle.ckd_image.specs.declared.header.Geometry.{Geometry}
use Rattle.dscb_codec.specs.declared.Dscb.{Dscb}
use Rattle.dscb_codec.specs.declared.F1.{F1}
use Rattle.dscb_codec.specs.Layout.{decoded}
use Rattle.pack_spec.proofs.Lawful.{groups_hold}
use Rattle.vtoc_index.proofs.HeldDscbs.{dscbs_many}
use Rattle.pack_spec.specs.declared.MountErr.{MountErr}
use Rattle.pack_spec.specs.declared.slot.VtocSlot.{VtocSlot}
use Rattle.pack_spec.specs.Label.{heads_of, label_of}
use Rattle.pack_spec.specs.FreeChain.{entries_of, free_entries}
use Rattle.pack_spec.specs.Settled.{AreGuarded, AreSettled, IsGuarded, IsSettledVtoc, slots_for}
use Rattle.pack_spec.specs.Slots.{slots_of_vtoc}
use Rattle.pack_spec.specs.Rules.{front_faults, slots_faults, is_f4}
use Rattle.pack_spec.specs.Blocks.{data_tracks}
use Rattle.pack_spec.specs.Volume.{volume_of, volume_with}
use Rattle.vol_model.specs.declared.contents.Run.{Run}
use Rattle.vol_model.specs.declared.contents.Volume.{Volume}
use Rattle.vol_model.specs.declared.refusals.Refusal.{Refusal}
use Rattle.vol_model.specs.declared.refusals.Refusal.TheVariants.{NoSet, SetExists, WrongKind}
use Rattle.pack_spec.specs.Owned.{volume_faults}
use Rattle.vol_model.specs.Space.{free_runs}
use Rattle.vol_model.specs.Shelf.{has_set, is_catalog, rename_on, rename_refusal, renamed, unless_refused}
use Rattle.vtoc_index.specs.declared.vol.Vol.{Vol}
use Rattle.vtoc_index.specs.Index.{IsIndexOf, IsMounted, IsPut, with_dscb, place_of_slot}
use Rattle.vtoc_index.specs.Puts.{IsHeld, IsReplaced}
use Rattle.vtoc_index.proofs.ExtentLaw.{KeepsExtent, keeps_other, mounted_put, volume_put}
use Rattle.vtoc_index.proofs.PutLaw.{slot_found}
use Rattle.dscb_codec.specs.declared.Dscb.TheVariants as formats
use Rattle.stop_model.specs.Files.{patched}
use Rattle.std.specs.Option.{option_map}
use Rattle.std.proofs.lemmas.Slice.Eq.{bytes_eq-Decides}
use Rattle.ebcdic_names.specs.declared.names.Dsn.{Dsn}
use Rattle.pack_spec.specs.Alike.{DifferInVtoc}
use Rattle.slot_laws.proofs.ChangedLists.{any_first, none_passes}
use Rattle.slot_laws.proofs.FoundSlots.{content_at, has_named, named_once}
use Rattle.dadsm_ops.proofs.RenamedFaults.{runs_alike, volume_alike}
use Rattle.dadsm_ops.proofs.RenamedGuards.{guarded_alike, settled_alike}
use Rattle.dadsm_ops.proofs.RenamedSets.{has_set_found, volume_renamed}
use Rattle.dadsm_ops.proofs.RenamedSlots.{faults_alike, put_is_renaming, renamed_slot}

-- the slots of the VTOC of an image, by an index
abbrev pub slots_on_image : List ℕ → Vol → List VtocSlot
slots_on_image image v = slots_of_vtoc image v.geometry v.vtoc

-- the volume of an image, by an index
abbrev pub volume_on_image : List ℕ → Vol → Volume
volume_on_image image v = volume_with v.geometry (data_tracks image v.geometry v.vtoc) (unwrap_or (label_of image v.geometry) []) v.vtoc (slots_on_image image v)

-- A data set of the old name stands in a slot, and none of the new name anywhere; neither name is the catalog's.
pub record CanRename (image : List ℕ) (v : Vol) (old new : Dsn) (slot : ℕ) (f : F1) : Type 0 where
  pub mounted : IsMounted image v
  pub found : position (has_named old.bytes) (slots_on_image image v) ≡ Some slot
  pub absent : position (has_named new.bytes) (slots_on_image image v) ≡ None
  pub set : slice_get v.slots.items slot ≡ Some (formats.F1 f)
  pub named : f.name ≡ old.bytes
  pub not_catalog : (is_catalog old.bytes || is_catalog new.bytes) ≡ false

-- An image after the step stands for the volume then, and differs in the VTOC alone.
pub record StandsAfter (v : Vol) (stepped : Result Volume Refusal) (image put : List ℕ) : Type 0 where
  pub after : Volume
  pub step : stepped ≡ Ok after
  pub stands : volume_of put ≡ Ok after
  pub guarded : IsGuarded image → IsGuarded put
  pub settled : IsSettledVtoc image → IsSettledVtoc put
  pub changes : DifferInVtoc v.geometry v.vtoc image put

-- a put slot changes a track of the VTOC alone
pub differs_in_vtoc : (image put : List ℕ) (v : Vol) (slot : ℕ) (d : Dscb) → IsIndexOf image v → slot < length v.slots.items → IsPut v slot d image put → DifferInVtoc v.geometry v.vtoc image put
differs_in_vtoc image put v slot d index low is =
    let stands = (slot_found image v slot index low).stands in
    record {
      size = is.size;
      header = is.header;
      tracks = λ track outside. is.others track (λ same. outside (omega (arith, same), omega (arith, same, stands.inside)));
    }

-- and the image itself differs in none
pub differs_not : (image : List ℕ) (g : Geometry) (vtoc : Run) → DifferInVtoc g vtoc image image
differs_not image g vtoc = record { size = refl; header = refl; tracks = λ track outside. refl }

-- a data set doesn't stand in slot 0
not_first : (slots : List VtocSlot) (f : F1) → slice_get (front_faults slots) 0 ≡ None → option_map (λ s. s.content) (slice_get slots 0) ≡ Some (Ok (formats.F1 f)) → ⊥
unfolding front_faults
not_first [] f none here = cc
not_first (s ∷ slots) f none here =
    let this : s.content ≡ Ok (formats.F1 f) = cc in
    let four : is_f4 s.content ≡ true = front_none (is_f4 s.content) _ _ none in
    let never : false ≡ true = sym (ap is_f4 this) ∙ four in
    cc
  where
    front_none : (b : Bool) (x : MountErr) (ys : List MountErr) → slice_get (cond b [] (x ∷ []) ++ ys) 0 ≡ None → b ≡ true
    front_none true x ys e = refl
    front_none false x ys e = cc

-- What the DSCB that is put makes of the slots.
record IsRenaming (image : List ℕ) (v : Vol) (old new : List ℕ) (slot : ℕ) (d : Dscb) : Type 0 where
  low : slot < length v.slots.items
  slots : with_dscb slot d (slots_on_image image v) ≡ map (renamed_slot old new) (slots_on_image image v)
  lawful : slots_faults v.geometry (with_dscb slot d (slots_on_image image v)) ≡ []
  volume : volume_with v.geometry (data_tracks image v.geometry v.vtoc) (unwrap_or (label_of image v.geometry) []) v.vtoc (with_dscb slot d (slots_on_image image v)) ≡ renamed (volume_on_image image v) old (record { bytes = new })
  whole : volume_faults (volume_with v.geometry (data_tracks image v.geometry v.vtoc) (unwrap_or (label_of image v.geometry) []) v.vtoc (with_dscb slot d (slots_on_image image v))) ≡ []
  free : v.free.items ≡ free_runs (volume_with v.geometry (data_tracks image v.geometry v.vtoc) (unwrap_or (label_of image v.geometry) []) v.vtoc (with_dscb slot d (slots_on_image image v)))
  keeps : KeepsExtent slot d (slots_on_image image v)
  apart : list_any (has_named new) (slots_on_image image v) ≡ false

is_renaming : (image : List ℕ) (v : Vol) (old new : Dsn) (slot : ℕ) (f : F1) → CanRename image v old new slot f → IsRenaming image v old.bytes new.bytes slot (formats.F1 (record f { name = new.bytes }))
is_renaming image v old new slot f can =
    let slots : List VtocSlot = slots_on_image image v in
    let d : Dscb = formats.F1 (record f { name = new.bytes }) in
    let groups = groups_hold v.geometry slots can.mounted.lawful in
    let content = content_at v.slots.items slots slot (formats.F1 f) can.mounted.index.slots can.set in
    let at = position-Some (has_named old.bytes) slots slot no_slot can.found in
    let once = named_once old.bytes slots slot groups.2 can.found in
    let is : with_dscb slot d slots ≡ map (renamed_slot old.bytes new.bytes) slots = put_is_renaming old.bytes new.bytes slot slots f content ((bytes_eq-Decides f.name old.bytes).1 can.named) once in
    let apart : list_any (has_named new.bytes) slots ≡ false = any_first (has_named new.bytes) slots ∙ ap is_some can.absent in
    let kinds = or_parts (is_catalog old.bytes) (is_catalog new.bytes) can.not_catalog in
    let label : List ℕ = unwrap_or (label_of image v.geometry) [] in
    let volume : volume_with v.geometry (data_tracks image v.geometry v.vtoc) label v.vtoc (with_dscb slot d slots) ≡ renamed (volume_on_image image v) old.bytes new =
    ap (volume_with v.geometry (data_tracks image v.geometry v.vtoc) label v.vtoc) is ∙ volume_renamed v.geometry (data_tracks image v.geometry v.vtoc) label v.vtoc slots old.bytes new kinds.0 kinds.1 apart in
    record {
      low = omega (arith, at.0, dscbs_many v.slots.items slots can.mounted.index.slots);
      slots = is;
      lawful = ap (slots_faults v.geometry) is ∙ faults_alike old.bytes new.bytes v.geometry slots (none_passes (has_named new.bytes) slots can.absent) ∙ can.mounted.lawful;
      volume = volume;
      whole = ap volume_faults volume ∙ volume_alike old.bytes new (volume_on_image image v) ∙ can.mounted.whole;
      free = can.mounted.free ∙ sym (ap free_runs volume ∙ runs_alike old.bytes new (volume_on_image image v));
      keeps = keeps_other slot d slots (λ none. not_first slots f groups.0 (ap (λ (k : ℕ). option_map (λ s. s.content) (slice_get slots k)) (sym none) ∙ content));
      apart = apart;
    }
  where
    no_slot : VtocSlot
    no_slot = record { address = []; content = Ok formats.F0 }

-- where it is done, the index is the image's
pub rename_put : (image put : List ℕ) (v v' : Vol) (old new : Dsn) (slot : ℕ) (f : F1) (bytes : List ℕ) → CanRename image v old new slot f → length bytes ≡ 140 → decoded bytes ≡ Ok (formats.F1 (record f { name = new.bytes })) → put ≡ patched image (place_of_slot v slot) bytes
    → IsPut v slot (formats.F1 (record f { name = new.bytes })) image put → IsReplaced slot (formats.F1 (record f { name = new.bytes })) v v' → IsHeld put v'.buf → IsMounted put v'
rename_put image put v v' old new slot f bytes can size dscb written is replaced held =
    let of = is_renaming image v old new slot f can in
    mounted_put image put v v' slot (formats.F1 (record f { name = new.bytes })) bytes can.mounted of.low size dscb written is replaced held of.keeps of.lawful of.whole of.free

-- an index of the image that a stop leaves
index_then : Vol → ℕ → Dscb → Vol
index_then v slot d = record v { slots = with_items v.slots (slice_set v.slots.items slot d); buf = record v.buf { records = [] } }

is_replaced : (v : Vol) (slot : ℕ) (d : Dscb) → IsReplaced slot d v (index_then v slot d)
unfolding index_then
is_replaced v slot d = record {
  items = with_items_is v.slots (slice_set v.slots.items slot d) (length-set v.slots.items slot d ∙ sym v.slots.ok.0);
  others = refl;
  geometry = refl;
  unit = refl;
}

-- the volume that an image stands for, by its index
volume_is : (image : List ℕ) (v : Vol) (volume : Volume) → IsMounted image v → volume_of image ≡ Ok volume → volume ≡ volume_on_image image v
volume_is image v volume mounted stands = let same : Ok volume ≡ Ok (volume_on_image image v) = sym stands ∙ mounted.volume in cc

-- by the answers to the three tests
outcome : Bool → Bool → Bool → Volume → Result Volume Refusal
outcome has_old has_new is_kept after = unless_refused (if not has_old then Some NoSet else (if has_new then Some SetExists else (if is_kept then Some WrongKind else None))) after

renamed_by : (image : List ℕ) (v : Vol) (old new : Dsn) (volume : Volume) → volume ≡ volume_on_image image v
    → rename_on old new volume ≡ outcome (is_some (position (has_named old.bytes) (slots_on_image image v))) (is_some (position (has_named new.bytes) (slots_on_image image v))) (is_catalog old.bytes || is_catalog new.bytes) (renamed volume old.bytes new)
unfolding rename_on rename_refusal outcome
renamed_by image v old new volume is =
    let g : Geometry = v.geometry in
    let label : List ℕ = unwrap_or (label_of image g) [] in
    let has : (name : List ℕ) → has_set volume name ≡ is_some (position (has_named name) (slots_on_image image v)) = λ name. ap (λ (x : Volume). has_set x name) is ∙ has_set_found g (data_tracks image v.geometry v.vtoc) label v.vtoc (slots_on_image image v) name in
    let kept : Bool = is_catalog old.bytes || is_catalog new.bytes in
    let after : Volume = renamed volume old.bytes new in
    ap (λ (b : Bool). outcome b (has_set volume new.bytes) kept after) (has old.bytes)
    ∙ ap (λ (b : Bool). outcome (is_some (position (has_named old.bytes) (slots_on_image image v))) b kept after) (has new.bytes)

-- An image whose slots are those of another under a new name is guarded and settled as that was.
module _ (image put : List ℕ) (v : Vol) (old : List ℕ) (new : Dsn) (mounted : IsMounted image v) (slots : slots_on_image put v ≡ map (renamed_slot old new.bytes) (slots_on_image image v)) (stands : volume_of put ≡ Ok (renamed (volume_on_image image v) old new)) where
  same_space : free_entries (renamed (volume_on_image image v) old new) ≡ free_entries (volume_on_image image v)
  unfolding renamed
  same_space = ap (entries_of (heads_of (volume_on_image image v).geometry)) (runs_alike old new (volume_on_image image v))

  keeps_guarded : IsGuarded image → IsGuarded put
  unfolding renamed volume_with
  keeps_guarded was =
      let volume : Volume = volume_on_image image v in
      let after : Volume = renamed volume old new in
      let here : AreGuarded (slots_on_image image v) volume = subst (λ (x : Volume). AreGuarded (slots_for image x) x) (volume_is image v was.0 mounted was.1) was.2 in
      (after, stands, subst (λ (ss : List VtocSlot). AreGuarded ss after) (sym slots) (guarded_alike old new.bytes (slots_on_image image v) volume after same_space here))

  keeps_settled : IsSettledVtoc image → IsSettledVtoc put
  unfolding renamed volume_with
  keeps_settled was =
      let volume : Volume = volume_on_image image v in
      let after : Volume = renamed volume old new in
      let here : AreSettled (slots_on_image image v) volume = subst (λ (x : Volume). AreSettled (slots_for image x) x) (volume_is image v was.0 mounted was.1) was.2 in
      (after, stands, subst (λ (ss : List VtocSlot). AreSettled ss after) (sym slots) (settled_alike old new.bytes (slots_on_image image v) volume after same_space here))

-- Each image with the slot put, also one that a stop leaves, stands for the renamed volume.
pub rename_stands : (image put : List ℕ) (v : Vol) (old new : Dsn) (slot : ℕ) (f : F1) (bytes : List ℕ) (volume : Volume) → CanRename image v old new slot f → volume_of image ≡ Ok volume → length bytes ≡ 140 → decoded bytes ≡ Ok (formats.F1 (record f { name = new.bytes }))
    → put ≡ patched image (place_of_slot v slot) bytes → IsPut v slot (formats.F1 (record f { name = new.bytes })) image put → StandsAfter v (rename_on old new volume) image put
unfolding index_then outcome
rename_stands image put v old new slot f bytes volume can stands size dscb written is =
    let g : Geometry = v.geometry in
    let d : Dscb = formats.F1 (record f { name = new.bytes }) in
    let of = is_renaming image v old new slot f can in
    let read = rename_put image put v (index_then v slot d) old new slot f bytes can size dscb written is (is_replaced v slot d) (inl refl) in
    let before : volume ≡ volume_on_image image v = volume_is image v volume can.mounted stands in
    let made : volume_on_image put v ≡ renamed (volume_on_image image v) old.bytes new =
    volume_put image put v slot d is ∙ of.volume in
    let after : volume_on_image put v ≡ renamed volume old.bytes new = made ∙ ap (λ (x : Volume). renamed x old.bytes new) (sym before) in
    let slots : slots_on_image put v ≡ map (renamed_slot old.bytes new.bytes) (slots_on_image image v) = is.slots ∙ of.slots in
    let stands_made : volume_of put ≡ Ok (renamed (volume_on_image image v) old.bytes new) = read.volume ∙ ap Ok made in
    record {
      after = renamed volume old.bytes new;
      step = renamed_by image v old new volume before
          ∙ ap (λ (o : Option ℕ). outcome (is_some o) (is_some (position (has_named new.bytes) (slots_on_image image v))) (is_catalog old.bytes || is_catalog new.bytes) (renamed volume old.bytes new)) can.found
          ∙ ap (λ (o : Option ℕ). outcome true (is_some o) (is_catalog old.bytes || is_catalog new.bytes) (renamed volume old.bytes new)) can.absent
          ∙ ap (λ (b : Bool). outcome true false b (renamed volume old.bytes new)) can.not_catalog;
      stands = read.volume ∙ ap Ok after;
      guarded = keeps_guarded image put v old.bytes new can.mounted slots stands_made;
      settled = keeps_settled image put v old.bytes new can.mounted slots stands_made;
      changes = differs_in_vtoc image put v slot d can.mounted.index of.low is;
    }

module _ (image : List ℕ) (v : Vol) (old new : Dsn) (volume : Volume) (mounted : IsMounted image v) (stands : volume_of image ≡ Ok volume) where
  -- there is no data set of the old name
  pub rename_no_set : position (has_named old.bytes) (slots_on_image image v) ≡ None → rename_on old new volume ≡ Err NoSet
  unfolding outcome
  rename_no_set none =
      renamed_by image v old new volume (volume_is image v volume mounted stands)
      ∙ ap (λ (o : Option ℕ). outcome (is_some o) (is_some (position (has_named new.bytes) (slots_on_image image v))) (is_catalog old.bytes || is_catalog new.bytes) (renamed volume old.bytes new)) none

  -- there is one of the new name
  pub rename_set_exists : (slot other : ℕ) → position (has_named old.bytes) (slots_on_image image v) ≡ Some slot → position (has_named new.bytes) (slots_on_image image v) ≡ Some other → rename_on old new volume ≡ Err SetExists
  unfolding outcome
  rename_set_exists slot other found exists =
      renamed_by image v old new volume (volume_is image v volume mounted stands)
      ∙ ap (λ (o : Option ℕ). outcome (is_some o) (is_some (position (has_named new.bytes) (slots_on_image image v))) (is_catalog old.bytes || is_catalog new.bytes) (renamed volume old.bytes new)) found
      ∙ ap (λ (o : Option ℕ). outcome true (is_some o) (is_catalog old.bytes || is_catalog new.bytes) (renamed volume old.bytes new)) exists

  -- a name is the catalog's
  pub rename_wrong_kind : (slot : ℕ) → position (has_named old.bytes) (slots_on_image image v) ≡ Some slot → position (has_named new.bytes) (slots_on_image image v) ≡ None → (is_catalog old.bytes || is_catalog new.bytes) ≡ true → rename_on old new volume ≡ Err WrongKind
  unfolding outcome
  rename_wrong_kind slot found absent catalog =
      renamed_by image v old new volume (volume_is image v volume mounted stands)
      ∙ ap (λ (o : Option ℕ). outcome (is_some o) (is_some (position (has_named new.bytes) (slots_on_image image v))) (is_catalog old.bytes || is_catalog new.bytes) (renamed volume old.bytes new)) found
      ∙ ap (λ (o : Option ℕ). outcome true (is_some o) (is_catalog old.bytes || is_catalog new.bytes) (renamed volume old.bytes new)) absent
      ∙ ap (λ (b : Bool). outcome true false b (renamed volume old.bytes new)) catalog
