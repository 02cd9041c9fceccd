-- The packs of several units, as they are scanned, compared and repaired.
use Rattle.std.specs.Prelude.{◌≡◌, ◌≢◌, ◌<◌, ℕ, List, map, position, slice_get, take, Some, None, Result, Ok, Err, OnOk}
use Rattle.std.specs.Str.{bytes_eq}
use Rattle.hall_core.specs.Facts.{Attached, Facts, ReportedCall, unit_of}
use Rattle.stop_model.specs.Files.{File}
use Rattle.stop_model.specs.Moments.{Meaning, IsDurable}
use Rattle.pack_spec.specs.Shelf.{shelf_of}
use Rattle.pack_spec.specs.declared.MountErr.{MountErr}
use Rattle.pack_spec.specs.declared.MountErr.TheVariants.{Memory, Device, SameSerial}
use Rattle.vol_model.specs.declared.contents.Shelf.{Shelf}
use Rattle.free_rebuild.specs.Repairs.{image_named}
use Rattle.mount_repair.specs.Scans.{IsScanOf, IsScanOn}
use Rattle.mount_repair.specs.declared.scanned.Scan.{Scan}
use Rattle.vtoc_index.specs.Index.{IsMounted}
use Rattle.vtoc_index.specs.declared.vol.Vol.{Vol}
use Rattle.pack_machine.specs.Checking.{unread_in}
use Rattle.shelf_machine.specs.Known.{AreFresh, buffers_of, geometries_of}
use Rattle.shelf_machine.specs.Machine.{AreIndexes, AreInOrder, AreKept, serials_of, units_of}
use Rattle.shelf_machine.specs.Opening.{OpensSafely, images_named}
use Rattle.pack_machine.specs.declared.pack_cache.PackCache.{PackCache}
use Rattle.shelf_machine.specs.declared.open_failure.OpenFailure.{OpenFailure}

-- the indexes of scans
abbrev pub indexes_of : List Scan → List Vol
indexes_of scans = map (λ s. s.vol) scans

-- Scans of the packs on units, in order.
pub record AreScanned (attached : List Attached) (units : List ℕ) (scans : List Scan) : Type 0 where
  pub numbers : units_of (indexes_of scans) ≡ units
  pub each : (k : ℕ) (s : Scan) → slice_get scans k ≡ Some s → IsScanOn attached s.vol.unit s

-- each scan is one of its unit's image, which stands for a volume
abbrev pub AreScansOf : List File → List Attached → List Scan → Type 0
AreScansOf files attached scans = (k : ℕ) (s : Scan) → slice_get scans k ≡ Some s
    → IsScanOf (image_named files (unit_of attached s.vol.unit).name) s

-- What is known of the bodies on packs that were scanned: which can't be read, and no track and no library.
pub record AreKnown (scans : List Scan) (known : List PackCache) : Type 0 where
  pub buffers : buffers_of known ≡ geometries_of (indexes_of scans)
  pub fresh : AreFresh known
  pub unread : (n : ℕ) (b : PackCache) → slice_get known n ≡ Some b → (s : Scan) × (slice_get scans n ≡ Some s)
      × (b.unread.items ≡ unread_in s.volume.items)

-- each index is that of its unit's image, which stands for a volume
abbrev pub AreMounted : List File → List Attached → List Vol → Type 0
AreMounted files attached vols = (k : ℕ) (v : Vol) → slice_get vols k ≡ Some v
    → IsMounted (image_named files (unit_of attached v.unit).name) v

-- Of serials this is the first that stands twice, and that is the first place of it.
pub record IsFirstTwice (serials : List (List ℕ)) (unit other : ℕ) : Type 0 where
  pub serial : List ℕ
  pub at : slice_get serials unit ≡ Some serial
  pub first : position (λ s. bytes_eq s serial) (take unit serials) ≡ Some other
  pub before : (k : ℕ) (s : List ℕ) → k < unit → slice_get serials k ≡ Some s
      → position (λ t. bytes_eq t s) (take k serials) ≡ None

-- the opening stopped at such a serial
abbrev pub StopsAtTwice : List (List ℕ) → OpenFailure → Type 0
StopsAtTwice serials s = (other : ℕ) × (s.why ≡ SameSerial s.unit other)
    × IsFirstTwice serials s.unit other

-- the images under names stand for no shelf, for this reason; `Memory` and `Device` say nothing of them
abbrev pub RefusesImages : List (List ℕ) → List File → OpenFailure → Type 0
RefusesImages names files s = s.why ≢ Memory → s.why ≢ Device
    → shelf_of (images_named files names) ≡ Err (record { unit = s.unit; why = s.why })

-- an opening stopped for this reason
abbrev pub IsStoppedBy : {T : Type 0} → MountErr → Result T OpenFailure → Type 0
IsStoppedBy why (Ok x) = ⊥
IsStoppedBy why (Err s) = s.why ≡ why

-- calls of a device in an opening, which answers a fault of it as one
abbrev pub StopCall : {T : Type 0} → Facts → Facts → Result T OpenFailure → Type 0
StopCall old new result = ReportedCall (IsStoppedBy Device result) old new

-- What a repair of packs leaves, done or failed: at each stop the images stand for the same shelf and are safe. Once it is done they are settled, durably, and the indexes are theirs.
pub record RepairsAll {T E : Type 0} (names : List (List ℕ)) (attached : List Attached)
    (vols : List Vol) (old new : Meaning (List File)) (result : Result T E) : Type 0 where
  pub shelf : Shelf
  pub before : shelf_of (images_named old.state names) ≡ Ok shelf
  pub after : OnOk result (shelf_of (images_named new.state names) ≡ Ok shelf)
  pub kept : OnOk result (AreKept new.state attached vols)
  pub durable : OnOk result (IsDurable new)
  pub safe : OpensSafely names shelf old new

-- the indexes are those of the same packs as before
pub record AreOfSamePacks (old new : List Vol) : Type 0 where
  pub units : units_of new ≡ units_of old
  pub serials : serials_of new ≡ serials_of old
  pub geometries : geometries_of new ≡ geometries_of old

-- Indexes of the packs on units, in order, whose serials differ.
pub record AreOpened (attached : List Attached) (units : List ℕ) (vols : List Vol) : Type 0 where
  pub numbers : units_of vols ≡ units
  pub indexes : AreIndexes attached vols
  pub order : AreInOrder vols
