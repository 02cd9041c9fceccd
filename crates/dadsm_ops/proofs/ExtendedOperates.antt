-- More extents of a data set as an operation that may be refused: what is planned isn't, and is done or fails.
use Rattle.std.proofs.Common.{◌≡◌, ◌≤◌, ℕ, false, List, Some, sym, ap, subst, ◌∙◌, arith}
use Rattle.std.specs.Prelude.{Result, Ok, Err, slice_get}
use Rattle.dscb_codec.specs.declared.Dscb.TheVariants as formats
use Rattle.dscb_codec.specs.declared.F1.{F1}
use Rattle.ebcdic_names.specs.declared.names.Dsn.{Dsn}
use Rattle.stop_model.specs.Files.{File}
use Rattle.stop_model.specs.Moments.{Meaning}
use Rattle.pack_spec.specs.Blocks.{data_tracks}
use Rattle.pack_spec.specs.Volume.{data_set_of, volume_by, volume_of}
use Rattle.vol_model.specs.declared.answers.StoreErr.TheVariants.{Device}
use Rattle.vol_model.specs.declared.contents.DataSet.{DataSet}
use Rattle.vol_model.specs.declared.contents.Run.{Run}
use Rattle.vol_model.specs.declared.contents.Volume.{Volume}
use Rattle.vol_model.specs.declared.refusals.Refusal.{Refusal}
use Rattle.vol_model.specs.Shelf.{extend_on, is_catalog, secondary_choice, with_extents, with_set}
use Rattle.vol_model.specs.Slots.{slots_needed}
use Rattle.vtoc_index.specs.declared.vol.Vol.{Vol}
use Rattle.vtoc_index.specs.Index.{IsMounted}
use Rattle.dadsm_ops.specs.Extending.{HasExtension, HasMore, IsReadable, IsRefused}
use Rattle.dadsm_ops.specs.Operations.{DoesOperation, InVtoc, Operates, image_named}
use Rattle.dadsm_ops.proofs.ExtendedVolumes.{extend_ok}
use Rattle.dadsm_ops.proofs.ExtensionPlans.{attr_on, found_on, many_on}
use Rattle.dadsm_ops.proofs.NewChoices.{volume_is}
use Rattle.slot_laws.proofs.StandingPuts.{slots_by}
use Rattle.dadsm_ops.proofs.Operating.{operates_done, operates_failed}

module _ (name : List ℕ) (v w : Vol) (m n : Meaning (List File)) (mounted : IsMounted (image_named m.state name) v) (slot : ℕ) (f : F1) (set : slice_get v.slots.items slot ≡ Some (formats.F1 f)) (plain : is_catalog f.name ≡ false) (readable : IsReadable (image_named m.state name) f.name)
    (runs : List Run) (plan : HasExtension (image_named m.state name) f runs) (dsn : Dsn) (is : f.name ≡ dsn.bytes) where
  abbrev image : List ℕ
  image = image_named m.state name

  abbrev volume : Volume
  volume = volume_by image v.geometry v.vtoc

  abbrev x : DataSet
  x = data_set_of v.geometry (data_tracks image v.geometry v.vtoc) (slots_by image v) f

  volume_same : plan.volume ≡ volume
  volume_same = volume_is image v plan.volume mounted plan.stands

  more : HasMore f volume runs
  more = subst (λ (y : Volume). HasMore f y runs) volume_same plan.has

  fits : slots_needed (with_set volume f.name (with_extents runs)) ≤ volume.slots
  fits = subst (λ (y : Volume). slots_needed (with_set y f.name (with_extents runs)) ≤ y.slots) volume_same plan.fits

  extends : extend_on (record { bytes = f.name }) volume ≡ Ok (with_set volume f.name (with_extents runs))
  extends = extend_ok (record { bytes = f.name }) volume x (found_on image v mounted slot f set) plain (readable volume x mounted.volume (found_on image v mounted slot f set)) runs
      (ap (secondary_choice volume) (attr_on image v mounted slot f set) ∙ more.chosen) (omega (arith, many_on image v mounted slot f set, more.few)) fits

  -- what is planned isn't refused
  not_refused : (other : Volume) → volume_of image ≡ Ok other → (r : Refusal) → extend_on dsn other ≡ Err r → ⊥
  not_refused other stands r refused =
      let dsn_is : (let e : Dsn = record { bytes = f.name } in e) ≡ dsn = ap (λ (l : List ℕ). let e : Dsn = record { bytes = l } in e) is in
      let here : extend_on dsn volume ≡ Err r = sym (ap (extend_on dsn) (volume_is image v other mounted stands)) ∙ refused in
      let wrong = sym extends ∙ ap (λ (e : Dsn). extend_on e volume) dsn_is ∙ here in
      cc wrong

  -- it is done
  pub operates_extended : {T A B : Type 0} {y : A} (answer : T) → DoesOperation {T = A} {E = B} name (extend_on dsn) w (InVtoc w) m n (Ok y) → Operates name (extend_on dsn) w (InVtoc w) m n (Ok answer)
  operates_extended answer does = operates_done name (extend_on dsn) w (InVtoc w) m n not_refused answer does

  -- or the device failed
  pub operates_unextended : {T A B : Type 0} {result : Result A B} → DoesOperation name (extend_on dsn) w (InVtoc w) m n result → Operates {T = T} name (extend_on dsn) w (InVtoc w) m n (Err Device)
  operates_unextended does = operates_failed name (extend_on dsn) w (InVtoc w) m n not_refused does

-- What is refused on each volume that the index is of is refused on that of its image.
pub refused_at : (v : Vol) (slot : ℕ) (f : F1) → slice_get v.slots.items slot ≡ Some (formats.F1 f) → is_catalog f.name ≡ false → (dsn : Dsn) → f.name ≡ dsn.bytes → (r : Refusal) → IsRefused v f r
    → (image : List ℕ) → IsMounted image v → IsReadable image f.name → extend_on dsn (volume_by image v.geometry v.vtoc) ≡ Err r
refused_at v slot f set plain dsn is r refused image mounted readable =
    let dsn_is : (let e : Dsn = record { bytes = f.name } in e) ≡ dsn = ap (λ (l : List ℕ). let e : Dsn = record { bytes = l } in e) is in
    ap (λ (e : Dsn). extend_on e (volume_by image v.geometry v.vtoc)) (sym dsn_is) ∙ refused image slot (volume_by image v.geometry v.vtoc) mounted set plain readable mounted.volume
