-- The shelf of the images of several indexes.
use Rattle.std.proofs.Common.{◌≡◌, ℕ, suc, List, [], ◌∷◌, map, Some, refl, sym, ap, subst, ◌∙◌}
use Rattle.std.specs.Prelude.{Ok, slice_get}
use Rattle.std.specs.Option.{option_map}
use Rattle.std.proofs.lemmas.Option.{slice_get-map}
use Rattle.free_rebuild.specs.Repairs.{image_named}
use Rattle.hall_core.specs.Facts.{Attached, unit_of}
use Rattle.stop_model.specs.Files.{File}
use Rattle.pack_spec.specs.Label.{label_of}
use Rattle.pack_spec.specs.Shelf.{shelf_of}
use Rattle.pack_spec.specs.Volume.{volume_with}
use Rattle.vol_model.specs.declared.contents.Shelf.{Shelf}
use Rattle.vol_model.specs.declared.contents.Volume.{Volume}
use Rattle.vtoc_index.specs.declared.vol.Vol.{Vol}
use Rattle.vtoc_index.proofs.KeptLemmas.{mounted_of}
use Rattle.shelf_machine.specs.Machine.{AreKept, shelf_or_none, shelf_under, serials_of, units_of}
use Rattle.shelf_machine.specs.Opening.{AreApart, images_named, names_of}
use Rattle.shelf_machine.specs.Packs.{AreMounted}
use Rattle.pack_machine.specs.Reads.{HasVolumes}
use Rattle.vtoc_sets.specs.Sets.{volume_in}
use Rattle.pack_machine.proofs.FreeCounts.{labelled}
use Rattle.pack_machine.proofs.ListPlaces.{get_map}
use Rattle.shelf_machine.proofs.ShelfLemmas.{AllStand, serials_in, shelf_there}

-- the volume of the image of an index, and those of several
abbrev pub volume_held : List File → List Attached → Vol → Volume
volume_held files attached v = volume_in (image_named files (unit_of attached v.unit).name) v

abbrev pub volumes_held : List File → List Attached → List Vol → List Volume
volumes_held files attached vols = map (volume_held files attached) vols

pub held_stand : (files : List File) (attached : List Attached) (vols : List Vol) → AreMounted files attached vols → AllStand (images_named files (names_of attached (units_of vols))) (volumes_held files attached vols)
held_stand files attached [] mounted = tt
held_stand files attached (v ∷ vols) mounted = ((mounted 0 v refl).volume, held_stand files attached vols (λ k w at. mounted (suc k) w at))

pub held_serials : (files : List File) (attached : List Attached) (vols : List Vol) → AreMounted files attached vols → serials_in (volumes_held files attached vols) ≡ serials_of vols
unfolding volume_with
held_serials files attached [] mounted = refl
held_serials files attached (v ∷ vols) mounted =
    let image : List ℕ = image_named files (unit_of attached v.unit).name in
    let first : (volume_in image v).serial.bytes ≡ v.serial.bytes = labelled (label_of image v.geometry) v.serial.bytes (mounted 0 v refl).index.serial in
    ap (λ (s : List ℕ). s ∷ serials_in (volumes_held files attached vols)) first
    ∙ ap (λ (ss : List (List ℕ)). v.serial.bytes ∷ ss) (held_serials files attached vols (λ k w at. mounted (suc k) w at))

pub kept_mounted : (files : List File) (attached : List Attached) (vols : List Vol) → AreKept files attached vols → AreMounted files attached vols
kept_mounted files attached vols kept k v at = mounted_of _ _ (kept k v at).kept

module _ (files : List File) (attached : List Attached) (vols : List Vol) (mounted : AreMounted files attached vols) (apart : AreApart (serials_of vols)) where
  pub serials_apart : AreApart (serials_in (volumes_held files attached vols))
  serials_apart = subst AreApart (sym (held_serials files attached vols mounted)) apart

  -- they stand for the shelf of these volumes
  pub shelf_held : shelf_of (images_named files (names_of attached (units_of vols))) ≡ Ok (record { volumes = volumes_held files attached vols })
  shelf_held = shelf_there (images_named files (names_of attached (units_of vols))) (volumes_held files attached vols) (held_stand files attached vols mounted) serials_apart

  pub shelf_is : shelf_under (names_of attached (units_of vols)) files ≡ record { volumes = volumes_held files attached vols }
  shelf_is = ap shelf_or_none shelf_held

  -- the volume of the image of an index
  pub volume_there : (n : ℕ) (v : Vol) → slice_get vols n ≡ Some v → slice_get (shelf_under (names_of attached (units_of vols)) files).volumes n ≡ Some (volume_held files attached v)
  volume_there n v at = ap (λ (s : Shelf). slice_get s.volumes n) shelf_is ∙ get_map (volume_held files attached) vols n v at

  pub has_volumes : HasVolumes (shelf_under (names_of attached (units_of vols)) files) vols
  has_volumes = record {
    each = λ n v at. record {
      image = image_named files (unit_of attached v.unit).name;
      mounted = mounted n v at;
      there = volume_there n v at;
    };
    none = λ n none. ap (λ (s : Shelf). slice_get s.volumes n) shelf_is ∙ slice_get-map (volume_held files attached) vols n ∙ ap (option_map (volume_held files attached)) none;
  }
