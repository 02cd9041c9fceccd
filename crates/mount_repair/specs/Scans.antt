-- What a scan of a pack tells of its image, in this project's profile.
use Rattle.std.specs.Prelude.{◌≡◌, ◌⊎◌, ◌↔◌, ℕ, true, List, is_some, slice_get, IsTrue, Some, Result, Ok, Err}
use Rattle.dscb_codec.specs.declared.Dscb.{Dscb}
use Rattle.dscb_codec.specs.declared.Dscb.TheVariants as formats
use Rattle.dscb_codec.specs.declared.F1.{F1}
use Rattle.hall_core.specs.Facts.{Attached}
use Rattle.pack_spec.specs.Settled.{IsSettled}
use Rattle.pack_spec.specs.declared.MountErr.{MountErr}
use Rattle.vtoc_index.specs.Index.{IsMounted, IsOfUnit, IsReason}
use Rattle.vtoc_index.specs.Names.{AreByName, name_at}
use Rattle.vtoc_index.specs.declared.vol.Vol.{Vol}
use Rattle.vtoc_sets.specs.Sets.{volume_in}
use Rattle.pds_directory.specs.Directories.{IsReadIn, IsReadablePart, owned_in}
use Rattle.stow_ops.specs.Packing.{IsPackingOf, IsSomePacking}
use Rattle.mount_repair.specs.Sets.{HasRoom, IsPackedSet, names_and_kinds}
use Rattle.mount_repair.specs.declared.library.Library.{Library}
use Rattle.mount_repair.specs.declared.scanned.Scan.{Scan}
use Rattle.mount_repair.specs.declared.scanned.Unpacked.{Unpacked}

-- The directory of the data set in a slot can be read, and can be packed so.
pub record CanBePacked (image : List ℕ) (v : Vol) (u : Unpacked) : Type 0 where
  pub set : F1
  pub slot : slice_get v.slots.items u.slot ≡ Some (formats.F1 set)
  pub part : IsReadablePart image v set
  pub packing : IsPackingOf image v set u.packing

-- in the slots of these are data sets, and some directory can be packed by each
abbrev pub AreSound : List Dscb → List Unpacked → Type 0
AreSound slots unpacked = (k : ℕ) (u : Unpacked) → slice_get unpacked k ≡ Some u
    → (is_some (name_at slots u.slot) ≡ true) × IsSomePacking u.packing

-- the data set in a slot is one of these
abbrev pub IsListed : List Unpacked → ℕ → Type 0
IsListed unpacked slot = (k : ℕ) × (u : Unpacked) × (slice_get unpacked k ≡ Some u) × (u.slot ≡ slot)

-- Each can be packed so, none is listed twice, and every directory that isn't listed and can be read is packed.
pub record AreUnpacked (image : List ℕ) (v : Vol) (unpacked : List Unpacked) : Type 0 where
  pub each : (k : ℕ) (u : Unpacked) → slice_get unpacked k ≡ Some u → CanBePacked image v u
  pub apart : (j k : ℕ) (u w : Unpacked) → slice_get unpacked j ≡ Some u → slice_get unpacked k ≡ Some w
      → u.slot ≡ w.slot → j ≡ k
  pub others : (slot : ℕ) (f : F1) → slice_get v.slots.items slot ≡ Some (formats.F1 f)
      → IsPackedSet image v f ⊎ IsListed unpacked slot

-- A library is that of the data set in a slot: the directory that was read, and the track on which the set begins.
pub record IsLibraryIn (image : List ℕ) (v : Vol) (slot : ℕ) (l : Library) : Type 0 where
  pub set : F1
  pub there : slice_get v.slots.items slot ≡ Some (formats.F1 set)
  pub part : IsReadablePart image v set
  pub start : slice_get (owned_in image v set) 0 ≡ Some l.start
  pub read : IsReadIn image v set l.dir

-- each library is that of a data set whose directory isn't listed
abbrev pub AreLibraries : List ℕ → Vol → List Unpacked → List Library → Type 0
AreLibraries image v unpacked libraries = (k : ℕ) (l : Library) → slice_get libraries k ≡ Some l
    → (slot : ℕ) × (¬ IsListed unpacked slot) × IsLibraryIn image v slot l

-- the libraries of data sets whose directories aren't listed are those of another image, too
abbrev pub KeepsLibraries : List ℕ → Vol → List Unpacked → List ℕ → Vol → Type 0
KeepsLibraries image v unpacked image' v' = (slot : ℕ) (l : Library) → ¬ IsListed unpacked slot → IsLibraryIn image v slot l → IsLibraryIn image' v' slot l

-- A scan tells of an image that stands for a volume: its index, the names and kinds of its data sets, whether it is settled, and which directories are packed and which aren't.
pub record IsScanOf (image : List ℕ) (s : Scan) : Type 0 where
  pub mounted : IsMounted image s.vol
  pub volume : s.volume.items ≡ names_and_kinds (volume_in image s.vol)
  pub settled : IsTrue s.settled ↔ IsSettled image
  pub unpacked : AreUnpacked image s.vol s.unpacked.items
  pub libraries : AreLibraries image s.vol s.unpacked.items s.libraries.items

-- an image is scanned, or this is why it isn't: the first rule that it breaks, want of memory, or a fault of the device
abbrev pub Scans : List ℕ → Result Scan MountErr → Type 0
Scans image (Ok s) = IsScanOf image s
Scans image (Err e) = IsReason image e

-- A scan is one of a unit: its index is the unit's, with room for free runs, and with its data sets in the order of their names; and what it lists is sound.
pub record IsScanOn (units : List Attached) (number : ℕ) (s : Scan) : Type 0 where
  pub unit : s.vol.unit ≡ number
  pub index : IsOfUnit units s.vol
  pub room : HasRoom s.vol
  pub names : AreByName (name_at s.vol.slots.items) s.vol.by_name.items
  pub sound : AreSound s.vol.slots.items s.unpacked.items
