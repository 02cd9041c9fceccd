-- What the repair of a pack leaves, done or failed, and what a stop in it leaves, in this project's profile.
use Rattle.std.specs.Prelude.{◌≡◌, ◌≢◌, ◌⊎◌, ℕ, List, IfErr, IfOk, OnOk, Ok, Result}
use Rattle.free_rebuild.specs.Repairs.{HaveSameVtoc, image_named}
use Rattle.pack_spec.specs.Settled.{IsGuarded, IsSettled, IsSettledVtoc}
use Rattle.pack_spec.specs.Volume.{volume_of}
use Rattle.pack_spec.specs.declared.MountErr.{MountErr}
use Rattle.pack_spec.specs.declared.MountErr.TheVariants.{Device}
use Rattle.stop_model.specs.Files.{File, file_of}
use Rattle.stop_model.specs.Moments.{Meaning, Elapses, IsDurable, Same}
use Rattle.vol_model.specs.declared.contents.Volume.{Volume}
use Rattle.vtoc_index.specs.Index.{IsMounted, IsReason}
use Rattle.vtoc_index.specs.declared.vol.Vol.{Vol}
use Rattle.mount_repair.specs.Scans.{AreUnpacked, IsScanOf}
use Rattle.mount_repair.specs.declared.scanned.Scan.{Scan}
use Rattle.mount_repair.specs.declared.scanned.Unpacked.{Unpacked}

-- What a stop in a repair leaves: the image stands for the same volume and is guarded, or has the VTOC of its entry; other files are as before.
pub record StaysVolume (name : List ℕ) (volume : Volume) (before files : List File) : Type 0 where
  pub stands : volume_of (image_named files name) ≡ Ok volume
  pub guarded : IsGuarded (image_named files name)
      ⊎ HaveSameVtoc volume (image_named before name) (image_named files name)
  pub others : (other : List ℕ) → other ≢ name → file_of files other ≡ file_of before other

-- What a stop in the packing of directories leaves: the image stands for the same volume, is guarded where it was, and has the same VTOC; other files are as before.
pub record KeepsVtoc (name : List ℕ) (volume : Volume) (before files : List File) : Type 0 where
  pub stands : volume_of (image_named files name) ≡ Ok volume
  pub guarded : IsGuarded (image_named before name) → IsGuarded (image_named files name)
  pub vtoc : HaveSameVtoc volume (image_named before name) (image_named files name)
  pub others : (other : List ℕ) → other ≢ name → file_of files other ≡ file_of before other

-- The packing of directories, which prints nothing: once it is done, these are left.
pub record PacksDirs {T E : Type 0} (name : List ℕ) (v' : Vol) (rest : List Unpacked)
    (old new : Meaning (List File)) (result : Result T E) : Type 0 where
  pub volume : Volume
  pub before : volume_of (image_named old.state name) ≡ Ok volume
  pub keeps : OnOk result (KeepsVtoc name volume old.state new.state)
  pub settled : OnOk result (IsSettledVtoc (image_named old.state name)
      → IsSettledVtoc (image_named new.state name))
  pub index : OnOk result (IsMounted (image_named new.state name) v')
  pub left : OnOk result (AreUnpacked (image_named new.state name) v' rest)
  pub durable : OnOk result (IsDurable new)
  pub printed : new.printed ≡ old.printed
  pub moments : Elapses old new (λ files p. KeepsVtoc name volume old.state files
      × (p ≡ old.printed))

-- Where a repair is done, the image stands durably for the same volume and is settled, and the scan is one of it.
pub record IsRepaired (name : List ℕ) (volume : Volume) (before : List File) (s : Scan)
    (new : Meaning (List File)) : Type 0 where
  pub stays : StaysVolume name volume before new.state
  pub settled : IsSettled (image_named new.state name)
  pub scan : IsScanOf (image_named new.state name) s
  pub durable : IsDurable new

-- A repair of a pack, which prints nothing.
pub record RepairsPack {E : Type 0} (name : List ℕ) (old new : Meaning (List File))
    (result : Result Scan E) : Type 0 where
  pub volume : Volume
  pub before : volume_of (image_named old.state name) ≡ Ok volume
  pub done : IfOk result (λ s. IsRepaired name volume old.state s new)
  pub printed : new.printed ≡ old.printed
  pub moments : Elapses old new (λ files p. StaysVolume name volume old.state files
      × (p ≡ old.printed))

-- The mounting of a pack: it is repaired, or refused by the first rule that its image breaks; where it is refused, or memory runs out, nothing changes but the time.
pub record MountsPack (name : List ℕ) (old new : Meaning (List File))
    (result : Result Scan MountErr) : Type 0 where
  pub repairs : (volume : Volume) → volume_of (image_named old.state name) ≡ Ok volume
      → RepairsPack name old new result
  pub refused : IfErr result (IsReason (image_named old.state name))
  pub same : IfErr result (λ e. e ≢ Device → Same old new)
