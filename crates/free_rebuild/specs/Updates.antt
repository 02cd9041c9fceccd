-- What the two ends of a change of a VTOC leave: format 4 tells that an update is under way, and then that none is (System Control Blocks GC28-6628; the bit of an interrupted update: this project's profile).
use Rattle.std.specs.Prelude.{◌≡◌, ◌≢◌, ◌⊎◌, ℕ, List, Result, Ok, OnOk}
use Rattle.hall_core.specs.declared.hall.Hall.{Ghosts}
use Rattle.stop_model.specs.Files.{File, file_of}
use Rattle.stop_model.specs.Moments.{Meaning, IsDurable, Elapses}
use Rattle.pack_spec.specs.Alike.{DifferInVtoc}
use Rattle.pack_spec.specs.Settled.{IsGuarded, IsMarked, IsSettledVtoc, slots_for}
use Rattle.pack_spec.specs.Volume.{volume_of}
use Rattle.vol_model.specs.declared.contents.Volume.{Volume}
use Rattle.vtoc_index.specs.Index.{IsMounted, IsOfUnit}
use Rattle.vtoc_index.specs.Names.{AreByName, name_at}
use Rattle.vtoc_index.specs.declared.vol.Vol.{Vol}
use Rattle.free_rebuild.specs.Repairs.{image_named}

-- What writes of slots keep of an index: its order of names, its unit, and all but its slots and its buffer.
pub record KeepsIndex {X T E : Type 0} (g : Ghosts X) (hall : X) (v v' : Vol) (result : Result T E) : Type 0 where
  pub names : AreByName (name_at v.slots.items) v.by_name.items
      → OnOk result (AreByName (name_at v'.slots.items) v'.by_name.items)
  pub others : v' ≡ record v { slots = v'.slots; buf = v'.buf }
  pub unit : IsOfUnit (g.facts hall).units v'

-- Files of which one, under a name, stands for this volume and tells that an update is under way; its tracks outside the VTOC and the other files are as before.
pub record IsMarkedFor (name : List ℕ) (volume : Volume) (before files : List File) : Type 0 where
  pub stands : volume_of (image_named files name) ≡ Ok volume
  pub marked : IsMarked (slots_for (image_named files name) volume)
  pub tracks : DifferInVtoc volume.geometry volume.vtoc (image_named before name)
      (image_named files name)
  pub others : (other : List ℕ) → other ≢ name → file_of files other ≡ file_of before other

-- Files of which one, under a name, stands for this volume and is guarded; its tracks outside the VTOC and the other files are as before.
pub record IsGuardedFor (name : List ℕ) (volume : Volume) (before files : List File) : Type 0 where
  pub stands : volume_of (image_named files name) ≡ Ok volume
  pub guarded : IsGuarded (image_named files name)
  pub tracks : DifferInVtoc volume.geometry volume.vtoc (image_named before name)
      (image_named files name)
  pub others : (other : List ℕ) → other ≢ name → file_of files other ≡ file_of before other

-- An update of an image that stands for a volume begins: a stop leaves the files as before, or marked. Once it is done they are marked durably, and the index is the image's.
pub record Marks {T E : Type 0} (name : List ℕ) (v : Vol) (old new : Meaning (List File))
    (result : Result T E) : Type 0 where
  pub volume : Volume
  pub before : volume_of (image_named old.state name) ≡ Ok volume
  pub marked : OnOk result (IsMarkedFor name volume old.state new.state)
  pub index : OnOk result (IsMounted (image_named new.state name) v)
  pub durable : OnOk result (IsDurable new)
  pub printed : new.printed ≡ old.printed
  pub moments : Elapses old new (λ files p. ((files ≡ old.state)
      ⊎ IsMarkedFor name volume old.state files) × (p ≡ old.printed))

-- An update of a marked image that stands for a volume ends: at each stop the image stands for that volume and is guarded. Once it is done it is settled as far as the VTOC goes, durably, and the index is the image's.
pub record Concludes {T E : Type 0} (name : List ℕ) (v : Vol) (old new : Meaning (List File))
    (result : Result T E) : Type 0 where
  pub volume : Volume
  pub before : volume_of (image_named old.state name) ≡ Ok volume
  pub safe : OnOk result (IsGuardedFor name volume old.state new.state)
  pub settled : OnOk result (IsSettledVtoc (image_named new.state name))
  pub index : OnOk result (IsMounted (image_named new.state name) v)
  pub durable : OnOk result (IsDurable new)
  pub printed : new.printed ≡ old.printed
  pub moments : Elapses old new (λ files p. IsGuardedFor name volume old.state files
      × (p ≡ old.printed))
