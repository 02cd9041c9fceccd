-- What reads of mounted packs find, by a shelf that has their volumes, in this project's profile.
use Rattle.std.specs.Prelude.{◌≡◌, ℕ, List, [], slice_get, Option, Some, None, Ok, Err}
use Rattle.dscb_codec.specs.declared.F1.{F1}
use Rattle.pack_spec.specs.Slots.{slots_of_vtoc}
use Rattle.pack_spec.specs.Volume.{data_set_of}
use Rattle.vol_model.specs.declared.catalogs.CatBody.{CatBody}
use Rattle.vol_model.specs.declared.contents.DataSet.{DataSet}
use Rattle.vol_model.specs.declared.contents.Shelf.{Shelf}
use Rattle.vol_model.specs.Reading.{nodes_in}
use Rattle.seq_access.specs.Bodies.{IsSetIn, data_in}
use Rattle.vtoc_index.specs.Index.{IsMounted}
use Rattle.vtoc_index.specs.declared.vol.Vol.{Vol}
use Rattle.vtoc_sets.specs.Sets.{volume_in}

-- An index is that of an image, and the shelf has the image's volume under this number.
pub record HasVolume (shelf : Shelf) (n : ℕ) (v : Vol) : Type 0 where
  pub image : List ℕ
  pub mounted : IsMounted image v
  pub there : slice_get shelf.volumes n ≡ Some (volume_in image v)

-- The shelf has the volumes of these indexes, in order, and no others.
pub record HasVolumes (shelf : Shelf) (vols : List Vol) : Type 0 where
  pub each : (n : ℕ) (v : Vol) → slice_get vols n ≡ Some v → HasVolume shelf n v
  pub none : (n : ℕ) → slice_get vols n ≡ None → slice_get shelf.volumes n ≡ None

-- the data set of a format 1 of an image
abbrev pub set_by : List ℕ → Vol → F1 → DataSet
set_by image v f = data_set_of v.geometry (data_in image v) (slots_of_vtoc image v.geometry v.vtoc) f

-- a data set of an image is that of a format 1, or there is none
abbrev pub IsSetOn : List ℕ → Vol → Option DataSet → Option F1 → Type 0
IsSetOn image v set None = set ≡ None
IsSetOn image v set (Some f) = IsSetIn image v f × (set ≡ Some (set_by image v f))

-- a catalog can't be read from this track on, or isn't there
abbrev pub IsUnreadCatalog : Option ℕ → Option CatBody → Type 0
IsUnreadCatalog (Some track) catalog = nodes_in catalog ≡ Err track
IsUnreadCatalog None catalog = nodes_in catalog ≡ Ok []
