-- The directory of a new partitioned data set as it is written, on tracks that nothing owns, in this project's profile.
use Rattle.std.specs.Prelude.{◌≡◌, ◌≢◌, ◌⊎◌, ℕ, ◌<◌, ◌≤◌, List, [], length, map, slice_get, take, true, Some, None, Ok, Result, OnOk}
use Rattle.ckd_image.specs.declared.header.Geometry.{Geometry}
use Rattle.ckd_image.specs.Track.{Record}
use Rattle.stop_model.specs.Blocks.{Keeps}
use Rattle.stop_model.specs.Files.{File, file_of}
use Rattle.stop_model.specs.Moments.{Elapses, IsDurable, Meaning}
use Rattle.pack_spec.specs.Blocks.{owned_tracks}
use Rattle.pack_spec.specs.Directories.{new_records}
use Rattle.pack_spec.specs.Label.{records_on, track_bytes}
use Rattle.pack_spec.specs.Settled.{IsMarked, slots_for}
use Rattle.pack_spec.specs.Volume.{volume_of}
use Rattle.vol_model.specs.declared.contents.Run.{Run}
use Rattle.vol_model.specs.declared.contents.Volume.{Volume}
use Rattle.vol_model.specs.Places.{Content, directory_end}
use Rattle.vol_model.specs.Space.{is_unowned}
use Rattle.vtoc_index.specs.Index.{IsMounted}
use Rattle.vtoc_index.specs.declared.vol.Vol.{Vol}
use Rattle.dadsm_ops.specs.Operations.{image_named}

-- Images that differ in the tracks of runs alone.
pub record DifferOn (g : Geometry) (runs : List Run) (before after : List ℕ) : Type 0 where
  pub size : length after ≡ length before
  pub header : take 512 after ≡ take 512 before
  pub others : (track : ℕ) → ((k : ℕ) → slice_get (owned_tracks runs) k ≢ Some track)
      → track_bytes after g track ≡ track_bytes before g track

-- Files that differ so in the image of this name alone.
pub record AreOn (name : List ℕ) (g : Geometry) (runs : List Run) (before files : List File)
    : Type 0 where
  pub image : DifferOn g runs (image_named before name) (image_named files name)
  pub others : (other : List ℕ) → other ≢ name → file_of files other ≡ file_of before other

-- Writes on one track of an image that share a sync with others: where what a stop leaves differed in the tracks of runs alone, and this is one of them, it does so still.
abbrev pub KeepsOn : {T E : Type 0} → List ℕ → Geometry → ℕ → Meaning (List File) → Meaning (List File) → Result T E → Type 0
KeepsOn name g track old new result = (runs : List Run) (k : ℕ) (before : List File) → slice_get (owned_tracks runs) k ≡ Some track
    → ((files : List File) → old.left files → AreOn name g runs before files) → Keeps (AreOn name g runs before) new.state old new result

-- what records hold
abbrev pub contents_of : List Record → List Content
contents_of xs = map (λ (x : Record). (x.key, x.data)) xs

-- these are all records of a track, unless there are none
abbrev pub AreAll : List ℕ → Geometry → ℕ → List Record → Type 0
AreAll image g track xs = (xs ≡ []) ⊎ (records_on image g None track ≡ Some xs)

-- Records are written on one track of an image, which no sync has made durable: these are all that it has then, and no other track is changed.
pub record WritesOn {T E : Type 0} (name : List ℕ) (g : Geometry) (track : ℕ) (xs : List Record)
    (old new : Meaning (List File)) (result : Result T E) : Type 0 where
  pub keeps : KeepsOn name g track old new result
  pub others : OnOk result ((other : ℕ) → other ≢ track
      → track_bytes (image_named new.state name) g other
      ≡ track_bytes (image_named old.state name) g other)
  pub all : OnOk result (AreAll (image_named new.state name) g track xs)

-- Such writes on the tracks of runs.
abbrev pub KeepsRuns : {T E : Type 0} → List ℕ → Geometry → List Run → Meaning (List File) → Meaning (List File) → Result T E → Type 0
KeepsRuns name g runs old new result = (before : List File) → ((files : List File) → old.left files → AreOn name g runs before files)
    → Keeps (AreOn name g runs before) new.state old new result

-- A relative track of runs has the records of a new directory of so many blocks that stand there, and no others.
pub record IsFormatted (image : List ℕ) (g : Geometry) (runs : List Run) (n k : ℕ) : Type 0 where
  pub track : ℕ
  pub there : slice_get (owned_tracks runs) k ≡ Some track
  pub xs : List Record
  pub records : records_on image g None track ≡ Some xs
  pub holds : contents_of xs ≡ new_records g.device n k

-- A new directory of so many blocks is written on the tracks of runs, before this relative one, which no sync has made durable.
pub record Formats {T E : Type 0} (name : List ℕ) (g : Geometry) (runs : List Run) (n end : ℕ)
    (old new : Meaning (List File)) (result : Result T E) : Type 0 where
  pub keeps : KeepsRuns name g runs old new result
  pub tracks : OnOk result ((k : ℕ) → k < end
      → IsFormatted (image_named new.state name) g runs n k)

-- Nothing on the volume owns a track of these runs.
pub record AreSpare (volume : Volume) (runs : List Run) : Type 0 where
  pub free : (k track : ℕ) → slice_get (owned_tracks runs) k ≡ Some track
      → is_unowned volume track ≡ true

-- Files of which one, under a name, stands for this volume and tells that an update is under way; only tracks of runs differ in it, and the other files are as before.
pub record AreSpared (name : List ℕ) (volume : Volume) (runs : List Run) (before files : List File)
    : Type 0 where
  pub stands : volume_of (image_named files name) ≡ Ok volume
  pub marked : IsMarked (slots_for (image_named files name) volume)
  pub differ : AreOn name volume.geometry runs before files

-- A new directory of so many blocks is written on the tracks of runs, which nothing owns, and made durable: at each stop the marked image stands for the same volume. Once it is done the tracks have its records, and the index is the image's.
pub record FormatsSet {T E : Type 0} (name : List ℕ) (runs : List Run) (n : ℕ) (v : Vol)
    (old new : Meaning (List File)) (result : Result T E) : Type 0 where
  pub volume : Volume
  pub before : volume_of (image_named old.state name) ≡ Ok volume
  pub spared : OnOk result (AreSpared name volume runs old.state new.state)
  pub tracks : OnOk result ((k : ℕ) → k ≤ (directory_end v.geometry.device n).tt
      → IsFormatted (image_named new.state name) v.geometry runs n k)
  pub index : OnOk result (IsMounted (image_named new.state name) v)
  pub durable : OnOk result (IsDurable new)
  pub printed : new.printed ≡ old.printed
  pub moments : Elapses old new (λ files p. AreSpared name volume runs old.state files
      × (p ≡ old.printed))
