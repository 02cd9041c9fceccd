-- What is known of the bodies on the image of an index, in this project's profile.
use Rattle.std.specs.Prelude.{◌≡◌, ℕ, List, slice_get, Some}
use Rattle.dscb_codec.specs.declared.F1.{F1}
use Rattle.pds_directory.specs.Directories.{IsPartIn}
use Rattle.seq_access.specs.Bodies.{part_in}
use Rattle.seq_access.specs.Reading.{HoldsTrack}
use Rattle.vol_model.specs.declared.answers.Kind.TheVariants.{Part}
use Rattle.vol_model.specs.declared.contents.Body.{Body}
use Rattle.vol_model.specs.declared.contents.Shelf.{Shelf}
use Rattle.vol_model.specs.Reading.{kind_of}
use Rattle.vtoc_index.specs.Index.{IsMounted}
use Rattle.vtoc_index.specs.declared.vol.Vol.{Vol}
use Rattle.vtoc_sets.specs.Sets.{volume_in}
use Rattle.pack_machine.specs.Known.{HoldLibraries, ListsUnread}
use Rattle.pack_machine.specs.declared.pack_cache.PackCache.{PackCache}

-- A shelf has the volume of the image under some number; the list has its sets that can't be read, the libraries are those of its sets, and the buffer holds its track.
pub record IsOnImage (image : List ℕ) (v : Vol) (b : PackCache) : Type 0 where
  pub shelf : Shelf
  pub number : ℕ
  pub mounted : IsMounted image v
  pub there : slice_get shelf.volumes number ≡ Some (volume_in image v)
  pub lists : ListsUnread shelf number b.unread.items
  pub libraries : HoldLibraries image v b.libraries.items
  pub held : HoldsTrack image b.buf

-- A data set of an image is a partitioned one with this body, which can be read.
pub record IsPartOn (image : List ℕ) (v : Vol) (f : F1) (body : Body) : Type 0 where
  pub part : IsPartIn image v f
  pub content : body ≡ part_in image v f
  pub readable : kind_of (part_in image v f) ≡ Part
