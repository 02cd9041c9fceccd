-- A directory that was read, as an image has it still, in this project's profile.
use Rattle.std.specs.Prelude.{◌≡◌, ℕ, List, length, map, slice_get, take, Some}
use Rattle.chain_spec.specs.Store.{stored}
use Rattle.pack_spec.specs.Blocks.{data_tracks, owned_tracks}
use Rattle.pack_spec.specs.Directories.{stored_in}
use Rattle.pack_spec.specs.Settled.{directory_upto}
use Rattle.pds_directory.specs.declared.dir.Dir.{Dir}
use Rattle.pds_directory.specs.Directories.{entries_read}
use Rattle.vol_model.specs.declared.contents.Block.{Block}
use Rattle.vol_model.specs.declared.contents.Body.TheVariants.{Part}
use Rattle.vol_model.specs.declared.contents.DataSet.{DataSet}
use Rattle.vol_model.specs.declared.contents.Entry.{Entry}
use Rattle.vol_model.specs.declared.contents.Place.{Place}
use Rattle.vol_model.specs.declared.contents.Volume.{Volume}

-- Of a directory in these blocks all places are those that were read, and the entries of its first blocks.
pub record StandsSo (directory : List Block) (dir : Dir) : Type 0 where
  pub places : dir.places.items ≡ map (λ (b : Block). b.place) directory
  pub blocks : take (length (entries_read dir)) (map stored_in directory) ≡ stored (entries_read dir)

-- a directory that was read is that of the data set of a volume which begins on this track, if one does and has a directory that can be read
abbrev pub IsDirectoryAt : List ℕ → Volume → ℕ → Dir → Type 0
IsDirectoryAt image w start dir = (k n : ℕ) (x : DataSet) (end : Place) (es : List Entry) (bs : List Block)
    → slice_get w.sets k ≡ Some x → slice_get (owned_tracks x.extents) 0 ≡ Some start → x.body ≡ Part n end es bs
    → (dir.end ≡ end) × StandsSo (directory_upto w.geometry (data_tracks image w.geometry w.vtoc) (owned_tracks x.extents) end) dir

-- each directory that stood on an image stands on another, too
abbrev pub DirectoriesStay : List ℕ → List ℕ → Volume → Volume → Type 0
DirectoriesStay before after w w' = (start : ℕ) (dir : Dir) → IsDirectoryAt before w start dir → IsDirectoryAt after w' start dir
