-- What a walk over the data sets of a pack notes of each, in this project's profile.
use Rattle.std.specs.Prelude.{◌≡◌, ℕ, true, false, List, [], ◌∷◌, ◌++◌, slice_get, Option, Some, None, Result, Ok, Err, OnOk}
use Rattle.dscb_codec.specs.declared.Dscb.TheVariants as formats
use Rattle.dscb_codec.specs.declared.F1.{F1}
use Rattle.hall_core.specs.declared.hall.Hall.{Ghosts}
use Rattle.hall_core.specs.Told.{ImageHas}
use Rattle.pack_spec.specs.declared.MountErr.{MountErr}
use Rattle.pack_spec.specs.declared.MountErr.TheVariants as mounts
use Rattle.pds_directory.specs.declared.dir.Dir.{Dir}
use Rattle.pds_directory.specs.Directories.{IsRead, IsReadablePart}
use Rattle.pds_directory.specs.Packed.{is_packed as is_packed_directory}
use Rattle.stow_ops.specs.Packing.{IsPacking, IsPackingOf}
use Rattle.vol_model.specs.declared.answers.CheckErr.{CheckErr}
use Rattle.vol_model.specs.declared.answers.CheckErr.TheVariants as checks
use Rattle.vol_model.specs.declared.answers.Kind.{Kind}
use Rattle.vol_model.specs.declared.answers.ReadErr.{ReadErr}
use Rattle.vol_model.specs.declared.answers.ReadErr.TheVariants as reads
use Rattle.vol_model.specs.declared.contents.Block.{Block}
use Rattle.vol_model.specs.declared.answers.Kind.TheVariants as kinds
use Rattle.vtoc_index.specs.declared.vol.Vol.{Vol}
use Rattle.vtoc_sets.specs.Sets.{volume_in}
use Rattle.mount_repair.specs.Scans.{AreSound, AreUnpacked, IsLibraryIn}
use Rattle.mount_repair.specs.Sets.{IsPackedSet, name_and_kind, names_and_kinds, set_by}
use Rattle.mount_repair.specs.declared.library.Library.{Library}
use Rattle.mount_repair.specs.declared.scanned.Unpacked.{Unpacked}
use Rattle.mount_repair.specs.declared.walk.Walk.{Walk}

-- What is noted of the directory of a data set: nothing where it is packed, or there is none that can be read; else how it comes to be packed.
pub data NotesDir (image : List ℕ) (v : Vol) (slot : ℕ) (f : F1) (old new : List Unpacked) : Type 0 where
  is_packed : IsPackedSet image v f → new ≡ old → NotesDir image v slot f old new
  is_noted : (u : Unpacked) → ¬ IsPackedSet image v f → u.slot ≡ slot → IsReadablePart image v f → IsPackingOf image v f u.packing → new ≡ old ++ u ∷ [] → NotesDir image v slot f old new

-- What is kept of a data set: its library, where its directory is packed, or nothing.
pub data NotesLibrary (image : List ℕ) (v : Vol) (slot : ℕ) (f : F1) (old new : List Library) : Type 0 where
  keeps_none : new ≡ old → NotesLibrary image v slot f old new
  keeps_one : (l : Library) → IsLibraryIn image v slot l → IsPackedSet image v f → new ≡ old ++ l ∷ [] → NotesLibrary image v slot f old new

-- What is noted of a data set that is walked: of its directory, its library, and that all that is noted is of data sets.
pub record NotesSet {X T E : Type 0} (g : Ghosts X) (hall : X) (v : Vol) (slot : ℕ) (f : F1) (old new : Walk) (result : Result T E) : Type 0 where
  pub directory : ImageHas g hall v.unit (λ image. OnOk result (NotesDir image v slot f old.unpacked.items new.unpacked.items))
  pub library : ImageHas g hall v.unit (λ image. OnOk result (NotesLibrary image v slot f old.libraries.items new.libraries.items))
  pub sound : AreSound v.slots.items old.unpacked.items → OnOk result (AreSound v.slots.items new.unpacked.items)
  pub volume : new.volume ≡ old.volume

-- the library of a directory is kept of a data set that begins on this track, if it has one
abbrev pub HoldsFrom : Option ℕ → Dir → List Library → List Library → Type 0
HoldsFrom None dir old new = new ≡ old
HoldsFrom (Some start) dir old new = (l : Library) × (l.dir ≡ dir) × (l.start ≡ start) × (new ≡ old ++ l ∷ [])

-- and so of a directory that was read, if it is packed
pub data Holds (start : Option ℕ) (dir : Dir) (old new : List Library) : Type 0 where
  holds_none : new ≡ old → Holds start dir old new
  holds_one : ((directory : List Block) → IsRead directory dir → is_packed_directory directory ≡ true) → HoldsFrom start dir old new → Holds start dir old new

-- what is noted of a directory that was read
pub data Notes (slot : ℕ) (dir : Dir) (old new : List Unpacked) : Type 0 where
  passes : ((directory : List Block) → IsRead directory dir → is_packed_directory directory ≡ true) → new ≡ old → Notes slot dir old new
  lists : (u : Unpacked) → ((directory : List Block) → IsRead directory dir → is_packed_directory directory ≡ false) → u.slot ≡ slot → IsPacking dir u.packing → new ≡ old ++ u ∷ [] → Notes slot dir old new

-- A data set is walked: its name and kind are noted, and its directory, packed or not.
pub record WalksSet (image : List ℕ) (v : Vol) (slot : ℕ) (f : F1) (old new : Walk) : Type 0 where
  pub kind : new.volume.items ≡ old.volume.items ++ name_and_kind (set_by image v f) ∷ []
  pub directory : NotesDir image v slot f old.unpacked.items new.unpacked.items
  pub library : NotesLibrary image v slot f old.libraries.items new.libraries.items

-- the kind of a body whose records are walked: this, or unreadable; or the device failed
abbrev pub IsKindWalked : Kind → Result (Unit {0}) CheckErr → Result Kind MountErr → Type 0
IsKindWalked kind (Ok x) found = found ≡ Ok kind
IsKindWalked kind (Err (checks.Unreadable track)) found = found ≡ Ok (kinds.Unreadable track)
IsKindWalked kind (Err checks.Device) found = found ≡ Err mounts.Device

-- the kind of a body whose directory isn't read
abbrev pub IsKindUnread : ReadErr → Result Kind MountErr → Type 0
IsKindUnread (reads.Unreadable track) found = found ≡ Ok (kinds.Unreadable track)
IsKindUnread reads.Memory found = found ≡ Err mounts.Memory
IsKindUnread reads.Device found = found ≡ Err mounts.Device

-- All data sets of an image are walked: their names and kinds are noted, and the directories, packed or not.
pub record IsWalkOf (image : List ℕ) (v : Vol) (w : Walk) : Type 0 where
  pub volume : w.volume.items ≡ names_and_kinds (volume_in image v)
  pub unpacked : AreUnpacked image v w.unpacked.items
  pub none : (k : ℕ) (u : Unpacked) (f : F1) → slice_get w.unpacked.items k ≡ Some u
      → slice_get v.slots.items u.slot ≡ Some (formats.F1 f) → ¬ IsPackedSet image v f
  pub libraries : (k : ℕ) (l : Library) → slice_get w.libraries.items k ≡ Some l
      → (slot : ℕ) × (f : F1) × (slice_get v.slots.items slot ≡ Some (formats.F1 f)) × IsLibraryIn image v slot l × IsPackedSet image v f
