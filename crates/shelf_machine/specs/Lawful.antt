-- The shelf of several images is lawful, whatever they hold.
use Rattle.std.specs.Prelude.{◌≡◌, ℕ, ◌+◌, ◌≤◌, List, [], ◌∷◌, length, slice_get, Option, Some, None, Result, Ok, Err}
use Rattle.std.specs.List.{AllByRecursion}
use Rattle.std.proofs.Common.{refl, subst, ◌∙◌, arith}
use Rattle.std.proofs.lemmas.List.{length-map}
use Rattle.free_rebuild.specs.Repairs.{image_named}
use Rattle.hall_core.specs.Facts.{Attached, unit_of}
use Rattle.stop_model.specs.Files.{File}
use Rattle.pack_spec.specs.declared.MountErr.{MountErr}
use Rattle.pack_spec.specs.Shelf.{UnitRefusal, serial_faults, shelf_of, shelf_unless, shelf_with, volume_then, volumes_from}
use Rattle.pack_spec.specs.Volume.{volume_of}
use Rattle.pack_spec.proofs.Lawful.{lawful_volume}
use Rattle.vol_model.specs.Lawful.{IsLawful, IsLawfulVolume}
use Rattle.vol_model.specs.declared.contents.Volume.{Volume}
use Rattle.vtoc_index.specs.declared.vol.Vol.{Vol}
use Rattle.shelf_machine.specs.Machine.{shelf_or_none, shelf_under, units_of}
use Rattle.shelf_machine.specs.Opening.{images_named, names_of}

-- volumes of images, one an image, each lawful
abbrev AreLawful : List (List ℕ) → List Volume → Type 0
AreLawful images volumes = (length volumes ≡ length images) × AllByRecursion IsLawfulVolume volumes

volumes_lawful : (unit : ℕ) (images : List (List ℕ)) (volumes : List Volume) → volumes_from unit images ≡ Ok volumes → AreLawful images volumes
volumes_lawful unit [] [] is = (refl, tt)
volumes_lawful unit [] (w ∷ volumes) is = absurd cc
volumes_lawful unit (image ∷ images) volumes is = by_first (volume_of image) (volumes_from (unit + 1) images) refl refl (λ ws rest. volumes_lawful (unit + 1) images ws rest) is
  where
    by_first : (r : Result Volume MountErr) (others : Result (List Volume) UnitRefusal) → volume_of image ≡ r → volumes_from (unit + 1) images ≡ others
        → ((ws : List Volume) → volumes_from (unit + 1) images ≡ Ok ws → AreLawful images ws) → volume_then unit r others ≡ Ok volumes → AreLawful (image ∷ images) volumes
    by_first (Err e) others first rest each whole = absurd cc
    by_first (Ok w) (Err r) first rest each whole = absurd cc
    by_first (Ok w) (Ok ws) first rest each whole =
        let all : w ∷ ws ≡ volumes = cc in
        let behind = each ws rest in
        subst (AreLawful (image ∷ images)) all (omega (arith, behind.0), (lawful_volume image w first, behind.1))

no_volumes : IsLawful (record { volumes = [] })
no_volumes = record { few = omega arith; volumes = tt }

-- the shelf of the images of at most 255 indexes is lawful
pub lawful_under : (files : List File) (attached : List Attached) (vols : List Vol) → length vols ≤ 255 → IsLawful (shelf_under (names_of attached (units_of vols)) files)
unfolding shelf_of
lawful_under files attached vols few = by_volumes (volumes_from 0 images) refl
  where
    images : List (List ℕ)
    images = images_named files (names_of attached (units_of vols))

    many : length images ≡ length vols
    many = length-map (names_of attached (units_of vols)) (image_named files) ∙ length-map (units_of vols) (λ (unit : ℕ). (unit_of attached unit).name) ∙ length-map vols (λ (v : Vol). v.unit)

    by_fault : (volumes : List Volume) → AreLawful images volumes → (o : Option UnitRefusal) → IsLawful (shelf_or_none (shelf_unless o volumes))
    by_fault volumes lawful None = record { few = omega (arith, lawful.0, many, few); volumes = lawful.1 }
    by_fault volumes lawful (Some r) = no_volumes

    by_volumes : (r : Result (List Volume) UnitRefusal) → volumes_from 0 images ≡ r → IsLawful (shelf_or_none (shelf_with r))
    by_volumes (Err e) is = no_volumes
    by_volumes (Ok volumes) is = by_fault volumes (volumes_lawful 0 images volumes is) (slice_get (serial_faults volumes) 0)
