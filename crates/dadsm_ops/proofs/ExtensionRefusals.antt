-- Why a data set of an index gets no more extents, or that it may have them, whatever mounted image the index is of.
use Rattle.std.proofs.Common.{◌≡◌, ◌+◌, ◌/◌, ◌≤◌, ◌<◌, ℕ, max, false, List, length, Some, None, sym, ap, ◌∙◌, arith}
use Rattle.std.specs.Prelude.{Ok, Err, slice_get}
use Rattle.dscb_codec.specs.declared.Dscb.TheVariants as formats
use Rattle.dscb_codec.specs.declared.F1.{F1}
use Rattle.ebcdic_names.specs.declared.names.Dsn.{Dsn}
use Rattle.pack_spec.specs.Blocks.{data_tracks}
use Rattle.pack_spec.specs.Volume.{attr_of, data_set_of, volume_by, volume_of}
use Rattle.space_alloc.specs.Edits.{AreWithout}
use Rattle.vol_model.specs.declared.contents.DataSet.{DataSet}
use Rattle.vol_model.specs.declared.contents.Run.{Run}
use Rattle.vol_model.specs.declared.contents.Volume.{Volume}
use Rattle.vol_model.specs.declared.refusals.Refusal.{Refusal}
use Rattle.vol_model.specs.declared.refusals.Refusal.TheVariants.{ExtentsFull, NoSpace, VtocFull}
use Rattle.vol_model.specs.Shelf.{extend_on, is_catalog, secondary_asked, secondary_choice, unreadable}
use Rattle.vtoc_index.specs.declared.vol.Vol.{Vol}
use Rattle.vtoc_index.specs.Index.{IsMounted}
use Rattle.vtoc_sets.specs.Sets.{slots_taken, volume_in}
use Rattle.dadsm_ops.specs.Extending.{HasExtension, HasMore, IsRefused, further_slots}
use Rattle.dadsm_ops.proofs.ExtensionPlans.{found_on, needed_on, refused_extents, refused_slots, refused_space, slots_on}
use Rattle.dadsm_ops.proofs.NewChoices.{volume_is}
use Rattle.slot_laws.proofs.StandingPuts.{slots_by}

module _ (v : Vol) (f : F1) where
  abbrev dsn : Dsn
  dsn = record { bytes = f.name }

  abbrev volume_on : List ℕ → Volume
  volume_on image = volume_by image v.geometry v.vtoc

  abbrev set_on : List ℕ → DataSet
  set_on image = data_set_of v.geometry (data_tracks image v.geometry v.vtoc) (slots_by image v) f

  -- it is refused on the volume of each image, so by whatever volume the image stands for
  refuses : (r : Refusal) → ((image : List ℕ) (slot : ℕ) → IsMounted image v → slice_get v.slots.items slot ≡ Some (formats.F1 f) → is_catalog f.name ≡ false → unreadable (set_on image).body ≡ None → extend_on dsn (volume_on image) ≡ Err r) → IsRefused v f r
  refuses r each image slot volume mounted set plain readable stands =
      ap (extend_on dsn) (volume_is image v volume mounted stands) ∙ each image slot mounted set plain (readable (volume_on image) (set_on image) mounted.volume (found_on image v mounted slot f set))

  -- no tracks serve its secondary quantity
  pub space_refused : (r : Refusal) → ((image : List ℕ) (volume : Volume) → IsMounted image v → volume_of image ≡ Ok volume → (secondary_choice volume (attr_of f) ≡ None) × (r ≡ NoSpace (secondary_asked (attr_of f)))) → IsRefused v f r
  space_refused r none =
      refuses r (λ image slot mounted set plain readable.
      let is = none image (volume_on image) mounted mounted.volume in
      refused_space image v mounted slot f set plain readable is.0 ∙ sym (ap (λ (x : Refusal). Err x) is.1))

  module _ (runs : List Run) (chosen : (image : List ℕ) (volume : Volume) → IsMounted image v → volume_of image ≡ Ok volume → secondary_choice volume (attr_of f) ≡ Some runs) where
    -- it would have too many extents
    pub extents_refused : 16 < f.extents + length runs → IsRefused v f ExtentsFull
    extents_refused more =
        refuses ExtentsFull (λ image slot mounted set plain readable.
        refused_extents image v mounted slot f set plain readable runs (chosen image (volume_on image) mounted mounted.volume) more)

  module _ (runs : List Run) (has : (image : List ℕ) (volume : Volume) → IsMounted image v → volume_of image ≡ Ok volume → HasMore f volume runs) (free : List Run) (without : AreWithout v.free.items runs free)
      (taken total : ℕ) (sets : (image : List ℕ) → IsMounted image v → taken ≡ slots_taken (volume_in image v).sets) (all : total ≡ 1 + max 1 ((length free + 25) / 26) + (taken + further_slots f.extents runs)) where
    -- the VTOC would need more slots than it has
    pub slots_refused : length v.slots.items < total → IsRefused v f (VtocFull total)
    slots_refused more =
        refuses (VtocFull total) (λ image slot mounted set plain readable.
        let here : HasMore f (volume_on image) runs = has image (volume_on image) mounted mounted.volume in
        let need = needed_on image v mounted slot f set runs free without taken total (sets image mounted) all in
        let many = slots_on image v mounted slot f set in
        refused_slots image v mounted slot f set plain readable runs here.chosen here.few (omega (arith, more, need, many))
        ∙ ap (λ (n : ℕ). Err (VtocFull n)) need)

    -- or it may have them
    pub extension_fits : total ≤ length v.slots.items → (image : List ℕ) (slot : ℕ) → IsMounted image v → slice_get v.slots.items slot ≡ Some (formats.F1 f) → HasExtension image f runs
    extension_fits enough image slot mounted set =
        let need = needed_on image v mounted slot f set runs free without taken total (sets image mounted) all in
        let many = slots_on image v mounted slot f set in
        record {
          volume = volume_on image;
          stands = mounted.volume;
          has = has image (volume_on image) mounted mounted.volume;
          fits = omega (arith, enough, need, many);
        }
