-- The first track of the data set of a name on a mounted image, by the index of the image.
use Rattle.std.proofs.Common.{◌≡◌, ℕ, List, [], ◌∷◌, Some, None, refl, ap}
use Rattle.std.specs.Prelude.{option_and_then, slice_get}
use Rattle.dscb_codec.specs.declared.Dscb.TheVariants as formats
use Rattle.dscb_codec.specs.declared.F1.{F1}
use Rattle.pack_spec.specs.Blocks.{owned_tracks}
use Rattle.pack_spec.specs.Volume.{data_set_of}
use Rattle.pds_directory.specs.Directories.{owned_in}
use Rattle.vol_model.specs.declared.contents.DataSet.{DataSet}
use Rattle.vol_model.specs.declared.contents.Shelf.{Shelf}
use Rattle.vol_model.specs.Writing.{set_on}
use Rattle.vtoc_index.specs.Index.{IsMounted, first_named}
use Rattle.vtoc_index.specs.declared.vol.Vol.{Vol}
use Rattle.vtoc_sets.specs.Sets.{HasSet, volume_in}
use Rattle.pack_machine.specs.NewSets.{first_track}
use Rattle.pack_machine.specs.Reads.{HasVolume}
use Rattle.pack_machine.proofs.ShelfReads.{is_set, no_set}

module _ (image : List ℕ) (v : Vol) (mounted : IsMounted image v) (name : List ℕ) where
  abbrev alone : Shelf
  alone = record { volumes = volume_in image v ∷ [] }

  abbrev here : HasVolume alone 0 v
  here = record { image = image; mounted = mounted; there = refl }

  -- the set in the slot of the name begins on it,
  pub first_found : (slot : ℕ) (f : F1) → first_named name v.slots.items ≡ Some slot → slice_get v.slots.items slot ≡ Some (formats.F1 f) → HasSet image v f × (first_track name (volume_in image v) ≡ slice_get (owned_in image v f) 0)
  unfolding set_on data_set_of
  first_found slot f first there =
      let set = is_set alone 0 v here name slot f first there in
      (set.0.set, ap (option_and_then (λ (x : DataSet). slice_get (owned_tracks x.extents) 0)) set.1)

  -- and where no slot has the name there is none
  pub first_none : first_named name v.slots.items ≡ None → first_track name (volume_in image v) ≡ None
  unfolding set_on
  first_none none = ap (option_and_then (λ (x : DataSet). slice_get (owned_tracks x.extents) 0)) (no_set alone 0 v here name none)
