-- A mounted pack that a hall may be called for, and what an operation or a read leaves of it, in this project's profile.
use Rattle.std.specs.Prelude.{◌≡◌, Bool, Err, IsTrue, List, Ok, Result, true, vec_capacity, ℕ}
use Rattle.hall_core.specs.Facts.{Facts, ReportedCall, unit_of}
use Rattle.stop_model.specs.Files.{File}
use Rattle.stop_model.specs.Moments.{IsDurable, Meaning, Same}
use Rattle.vol_model.specs.declared.contents.Volume.{Volume}
use Rattle.free_rebuild.specs.Repairs.{image_named}
use Rattle.vtoc_index.specs.declared.vol.Vol.{Vol}
use Rattle.vtoc_index.specs.Index.{IsOfUnit}
use Rattle.vtoc_index.specs.Kept.{IsKept}
use Rattle.vtoc_index.specs.Names.{AreByName, name_at}
use Rattle.free_rebuild.specs.Settled.{is_settled_vtoc}
use Rattle.pds_directory.specs.Packed.{are_packed}
pub use Rattle.mount_repair.specs.Sets.{HasRoom, IsRoomed}
use Rattle.vol_model.specs.Calls.{sound_after}
use Rattle.vol_model.specs.declared.answers.StoreErr.{StoreErr}
use Rattle.free_rebuild.specs.Operations.{Operates, StoreCall}
use Rattle.vol_model.specs.declared.refusals.Refusal.{Refusal}
use Rattle.vtoc_sets.specs.Sets.{volume_in}
use Rattle.pack_machine.specs.Known.{HoldsPack, ListsBroken}
use Rattle.pack_machine.specs.declared.pack.Pack.{Pack}
use Rattle.vol_model.specs.declared.answers.MachErr.{MachErr}
use Rattle.vol_model.specs.declared.answers.MachErr.TheVariants as mach
use Rattle.vol_model.specs.declared.answers.StoreErr.TheVariants as store

-- the answer of an operation, as one of the machine
abbrev pub reported : {T : Type 0} → Result T StoreErr → Result T MachErr
reported (Ok x) = Ok x
reported (Err (store.Refused r)) = Err (mach.Refused r)
reported (Err store.Memory) = Err mach.Memory
reported (Err store.Device) = Err mach.Device

-- the name of the file of a pack
abbrev pub file_name : Facts → Vol → List ℕ
file_name facts v = (unit_of facts.units v.unit).name

-- An index is that of an image, which is settled: its VTOC is, and each directory that can be read is packed.
pub record IsKeptSettled (image : List ℕ) (v : Vol) : Type 0 where
  pub kept : IsKept image v
  pub settled : is_settled_vtoc image ≡ true
  pub packed : are_packed image ≡ true

-- The index is one of the same pack as another, with the same room for free runs.
pub record IsSamePack (v v' : Vol) : Type 0 where
  pub unit : v'.unit ≡ v.unit
  pub serial : v'.serial.bytes ≡ v.serial.bytes
  pub geometry : v'.geometry ≡ v.geometry
  pub vtoc : v'.vtoc ≡ v.vtoc
  pub room : vec_capacity v'.free ≡ vec_capacity v.free

-- A pack and an image: the index is the image's, which is settled; the sets that can't be read are listed; the track and the directories that are held are the image's.
pub record IsOfImage (image : List ℕ) (p : Pack) : Type 0 where
  pub kept : IsKeptSettled image p.vol
  pub lists : ListsBroken (volume_in image p.vol) p.cache.unread.items
  pub held : HoldsPack image p.vol p.cache

-- A pack that a hall may be called for: it is that of an attached unit and, where the hall tells, of its image.
pub record IsReady (tells : Bool) (facts : Facts) (m : Meaning (List File)) (p : Pack) : Type 0 where
  pub unit : IsOfUnit facts.units p.vol
  pub names : AreByName (name_at p.vol.slots.items) p.vol.by_name.items
  pub image : IsTrue tells → IsOfImage (image_named m.state (file_name facts p.vol)) p

-- images may differ in any way
abbrev pub Anyhow : List ℕ → List ℕ → Type 0
Anyhow before after = Unit {0}

-- What an operation on a pack leaves: its step on the pack's image and on no other; the pack is ready again unless the device failed.
pub record Leaves {T : Type 0} (tells : Bool) (operation : Volume → Result Volume Refusal) (f f' : Facts)
    (m m' : Meaning (List File)) (p p' : Pack) (result : Result T StoreErr) : Type 0 where
  pub step : IsTrue tells → Operates (file_name f p.vol) operation p'.vol Anyhow m m' result
  pub ready : sound_after (reported result) ≡ true → IsReady tells f' m' p'
  pub durable : sound_after (reported result) ≡ true → IsTrue tells → IsDurable m'
  pub unit : IsOfUnit f'.units p'.vol
  pub pack : IsSamePack p.vol p'.vol
  pub faults : StoreCall f f' result

-- What a read of a pack leaves: nothing changes but the time, and what is held of the pack.
pub record Rest (IsFault : Type 0) (tells : Bool) (f f' : Facts) (m m' : Meaning (List File)) (p p' : Pack) : Type 0 where
  pub ready : IsReady tells f' m' p'
  pub same : IsTrue tells → Same m m'
  pub vol : p'.vol ≡ p.vol
  pub faults : ReportedCall IsFault f f'
