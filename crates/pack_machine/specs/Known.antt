-- What is known of the bodies on a pack, in this project's profile.
use Rattle.std.specs.Prelude.{◌≡◌, ℕ, List, [], length, slice_get, Some, option_and_then}
use Rattle.seq_access.specs.Reading.{HoldsTrack}
use Rattle.seq_access.specs.declared.read_buf.Reach.TheVariants.{Nothing}
use Rattle.vol_model.specs.declared.contents.Body.{Body}
use Rattle.vol_model.specs.declared.contents.Body.TheVariants.{Part}
use Rattle.vol_model.specs.declared.contents.Shelf.{Shelf}
use Rattle.vol_model.specs.declared.contents.Volume.{Volume}
use Rattle.vol_model.specs.Shelf.{blocks_of, set_of}
use Rattle.vol_model.specs.Writing.{set_on}
use Rattle.vtoc_index.specs.declared.vol.Vol.{Vol}
use Rattle.vtoc_sets.specs.Sets.{volume_in}
use Rattle.pack_machine.specs.Standing.{IsDirectoryAt}
use Rattle.pack_machine.specs.Unread.{broken_in, track_in}
use Rattle.pack_machine.specs.declared.pack_cache.PackCache.{PackCache}
use Rattle.mount_repair.specs.declared.library.Library.{Library}
use Rattle.pack_machine.specs.declared.unread.Unread.{Unread}

-- of a volume just those sequential and partitioned data sets are listed whose bodies can't be read
abbrev pub ListsBroken : Volume → List Unread → Type 0
ListsBroken w unread = (name : List ℕ) → track_in unread name ≡ option_and_then broken_in (set_of name w)

-- of the volume of this number just those sequential and partitioned data sets are listed whose bodies can't be read
abbrev pub ListsUnread : Shelf → ℕ → List Unread → Type 0
ListsUnread shelf n unread = (name : List ℕ) → track_in unread name ≡ option_and_then broken_in (set_on shelf n name)

-- a library is that of a partitioned data set with this body
abbrev pub IsLibraryOf : Library → Body → Type 0
IsLibraryOf l body = body ≡ Part (length l.dir.places.items) l.dir.end l.entries.items (blocks_of body)

-- the directories of libraries stand on the image of an index
abbrev pub HoldLibraries : List ℕ → Vol → List Library → Type 0
HoldLibraries image v libraries = (n : ℕ) (l : Library) → slice_get libraries n ≡ Some l → IsDirectoryAt image (volume_in image v) l.start l.dir

-- A buffer holds its track of the image of an index, and the libraries are those of its data sets.
pub record HoldsPack (image : List ℕ) (v : Vol) (b : PackCache) : Type 0 where
  pub track : HoldsTrack image b.buf
  pub libraries : HoldLibraries image v b.libraries.items

-- No track is held, and no library.
pub record IsFresh (b : PackCache) : Type 0 where
  pub reach : b.buf.reach ≡ Nothing
  pub libraries : b.libraries.items ≡ []
