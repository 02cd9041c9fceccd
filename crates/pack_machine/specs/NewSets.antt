-- Which directories of a pack are held still after a new data set, in this project's profile.
use Rattle.std.specs.Prelude.{ℕ, ◌==◌, not, List, filter, slice_get, Option, Some, None, option_and_then}
use Rattle.pack_spec.specs.Blocks.{owned_tracks}
use Rattle.vol_model.specs.declared.contents.DataSet.{DataSet}
use Rattle.vol_model.specs.declared.contents.Volume.{Volume}
use Rattle.vol_model.specs.Shelf.{set_of}
use Rattle.mount_repair.specs.declared.library.Library.{Library}

-- the first track of the data set of this name on a volume, if it has one
abbrev pub first_track : List ℕ → Volume → Option ℕ
first_track name w = option_and_then (λ (x : DataSet). slice_get (owned_tracks x.extents) 0) (set_of name w)

-- libraries without those of a data set that begins on this track; all where there is none
abbrev pub without_first : Option ℕ → List Library → List Library
without_first None libraries = libraries
without_first (Some start) libraries = filter (λ (l : Library). not (l.start == start)) libraries
