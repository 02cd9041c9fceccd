-- What a change of the entries of a directory on a pack leaves, in this project's profile.
use Rattle.std.specs.Prelude.{◌≡◌, ◌⊎◌, ℕ, ◌++◌, Bool, true, List, [], ◌∷◌, slice_get, IsTrue, Result, Ok, Err, OnOk, Some}
use Rattle.dscb_codec.specs.declared.Dscb.TheVariants as formats
use Rattle.ebcdic_names.specs.declared.names.Dsn.{Dsn}
use Rattle.hall_core.specs.Facts.{Facts, ReportedCall}
use Rattle.pds_directory.specs.Directories.{IsReadablePart}
use Rattle.seq_access.specs.declared.read_buf.Reach.TheVariants.{Nothing}
use Rattle.stow_ops.specs.Changes.{HasDir}
use Rattle.vol_model.specs.Shelf.{on_directory}
use Rattle.vol_model.specs.declared.contents.Entry.{Entry}
use Rattle.pack_machine.specs.Libraries.{AreOthers, IsLibraryAt}
use Rattle.pack_machine.specs.Ready.{Leaves, file_name}
use Rattle.pack_machine.specs.declared.pack.Pack.{Pack}
use Rattle.dscb_codec.specs.declared.F1.{F1}
use Rattle.free_rebuild.specs.Operations.{Operates}
use Rattle.free_rebuild.specs.Repairs.{image_named}
use Rattle.pds_directory.specs.Packed.{are_packed}
use Rattle.stop_model.specs.Files.{File}
use Rattle.stop_model.specs.Moments.{Meaning, Same}
use Rattle.stow_ops.specs.Stores.{DifferOn, directory_tracks}
use Rattle.vol_model.specs.declared.answers.StoreErr.{StoreErr}
use Rattle.vol_model.specs.declared.contents.Volume.{Volume}
use Rattle.vol_model.specs.declared.refusals.Refusal.{Refusal}
use Rattle.vtoc_index.specs.declared.vol.Vol.{Vol}
use Rattle.pds_directory.specs.declared.dir.Dir.{Dir}
use Rattle.mount_repair.specs.declared.library.Library.{Library}

-- images differ in the tracks of one directory alone, that of a data set of an index
abbrev pub InDirectory : Vol → List ℕ → List ℕ → Type 0
InDirectory v before after = (f : F1) × DifferOn v.geometry (directory_tracks before v f) before after

-- A change of the entries of a directory on the image of an index, whose index becomes this: it is an operation, and each directory that can be read stays packed.
pub record ChangesEntries {T : Type 0} (name : List ℕ) (operation : Volume → Result Volume Refusal) (v v' : Vol)
    (m m' : Meaning (List File)) (result : Result T StoreErr) : Type 0 where
  pub operates : Operates name operation v' (InDirectory v) m m' result
  pub packed : OnOk result (are_packed (image_named m'.state name) ≡ true)

-- an operation is one on the directory of the data set of this name
abbrev pub IsOnDirectory : Dsn → (Volume → Result Volume Refusal) → Type 0
IsOnDirectory dsn operation = (w : Volume) → (change : ℕ → List Entry → Result Volume Refusal) × (operation w ≡ on_directory dsn w change)

-- each of those fails so
abbrev pub FailsOnDirectory : Bool → Dsn → Facts → Facts → Meaning (List File) → Meaning (List File) → Pack → Pack → StoreErr → Type 0
FailsOnDirectory tells dsn f f' m m' p p' e = (operation : Volume → Result Volume Refusal) → IsOnDirectory dsn operation
    → Leaves {T = Unit {0}} tells operation f f' m m' p p' (Err e)

-- The library of the data set of a name is taken from a pack, and no track is held; it is the one in this slot, and can be changed there.
pub record TakesLibrary (tells : Bool) (dsn : Dsn) (f f' : Facts) (m m' : Meaning (List File)) (p p' : Pack)
    (slot : ℕ) (l : Library) : Type 0 where
  pub set : F1
  pub there : slice_get p.vol.slots.items slot ≡ Some (formats.F1 set)
  pub named : IsTrue tells → set.name ≡ dsn.bytes
  pub part : IsTrue tells → IsReadablePart (image_named m.state (file_name f p.vol)) p.vol set
  pub library : IsTrue tells → IsLibraryAt (image_named m.state (file_name f p.vol)) p.vol set l
  pub dir : HasDir tells f' m' p'.vol slot l.dir
  pub others : AreOthers l.start p.cache.libraries.items p'.cache.libraries.items
  pub unread : p'.cache.unread ≡ p.cache.unread
  pub reach : p'.cache.buf.reach ≡ Nothing
  pub vol : p'.vol ≡ p.vol
  pub same : IsTrue tells → Same m m'
  pub faults : ReportedCall ⊥ f f'

-- the answer of a change whose entries aren't given
abbrev pub answer_to : {T : Type 0} → Result T StoreErr → Result (Unit {0}) StoreErr
answer_to (Ok entries) = Ok tt
answer_to (Err e) = Err e

-- the library of this directory, which begins on this track, is put after others, or memory ran out
abbrev pub IsPutBack : ℕ → Dir → List Library → List Library → Type 0
IsPutBack start dir old new = ((l : Library) × (l.start ≡ start) × (l.dir ≡ dir) × (new ≡ old ++ l ∷ [])) ⊎ (new ≡ old)
