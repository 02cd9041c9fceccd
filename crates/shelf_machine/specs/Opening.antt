-- What the opening of a shelf over the images of units leaves, in this project's profile: all are scanned, then their serials are compared, then each that isn't settled is repaired.
use Rattle.std.specs.Prelude.{◌≡◌, ◌⊎◌, ℕ, ◌≤◌, List, length, map, position, slice_get, Some, None, Ok, Err}
use Rattle.std.specs.List.{range_with_len}
use Rattle.std.specs.Str.{bytes_eq}
use Rattle.hall_core.specs.Facts.{Attached, unit_of}
use Rattle.stop_model.specs.Files.{File, file_of}
use Rattle.stop_model.specs.Moments.{Meaning, Elapses, Same}
use Rattle.pack_spec.specs.Settled.{IsGuarded, IsSettled}
use Rattle.pack_spec.specs.Shelf.{UnitRefusal, shelf_of}
use Rattle.vol_model.specs.declared.contents.Shelf.{Shelf}
use Rattle.vol_model.specs.declared.contents.Volume.{Volume}
use Rattle.free_rebuild.specs.Repairs.{HaveSameVtoc, image_named}

-- the images under names
abbrev pub images_named : List File → List (List ℕ) → List (List ℕ)
images_named files names = map (image_named files) names

-- the names of units
abbrev pub names_of : List Attached → List ℕ → List (List ℕ)
names_of attached units = map (λ unit. (unit_of attached unit).name) units

-- no text stands twice
abbrev pub AreApart : List (List ℕ) → Type 0
AreApart texts = (j k : ℕ) (text : List ℕ) → slice_get texts j ≡ Some text
    → slice_get texts k ≡ Some text → j ≡ k

-- These are the first units that are attached, at most 255, in order, and each has a name of its own.
pub record AreUnits (files : List Attached) (units : List ℕ) : Type 0 where
  pub numbered : units ≡ range_with_len 0 (length units)
  pub attached : length units ≤ length files
  pub few : length units ≤ 255
  pub apart : AreApart (names_of files units)

-- Of an image that stood for a volume: it is guarded, or its VTOC has the bytes that it had.
pub record IsSafeImage (volume : Volume) (before after : List ℕ) : Type 0 where
  pub guarded : IsGuarded after ⊎ HaveSameVtoc volume before after

-- Files in which each of these images is so, and that are otherwise as before.
pub record AreSafe (names : List (List ℕ)) (volumes : List Volume)
    (before files : List File) : Type 0 where
  pub images : (k : ℕ) (name : List ℕ) (volume : Volume) → slice_get names k ≡ Some name
      → slice_get volumes k ≡ Some volume
      → IsSafeImage volume (image_named before name) (image_named files name)
  pub others : (other : List ℕ) → position (bytes_eq other) names ≡ None
      → file_of files other ≡ file_of before other

-- each image is settled
abbrev pub AreSettledImages : List (List ℕ) → List File → Type 0
AreSettledImages names files = (k : ℕ) (name : List ℕ) → slice_get names k ≡ Some name
    → IsSettled (image_named files name)

-- The opening of the shelf of images that stand for one: a stop leaves images that stand for the same shelf and are safe.
pub record OpensSafely (names : List (List ℕ)) (shelf : Shelf) (old new : Meaning (List File)) : Type 0 where
  pub printed : new.printed ≡ old.printed
  pub moments : Elapses old new (λ files p. (shelf_of (images_named files names) ≡ Ok shelf)
      × (AreSafe names shelf.volumes old.state files × (p ≡ old.printed)))

-- What an opening leaves, whatever it answers: where the images stand for no shelf nothing changes but the time, and else they are safe.
pub record LeavesSafe (names : List (List ℕ)) (old new : Meaning (List File)) : Type 0 where
  pub none : (r : UnitRefusal) → shelf_of (images_named old.state names) ≡ Err r → Same old new
  pub some : (shelf : Shelf) → shelf_of (images_named old.state names) ≡ Ok shelf
      → OpensSafely names shelf old new
