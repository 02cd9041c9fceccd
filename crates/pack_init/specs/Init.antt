-- What the making of a new pack does to files, and what a stop in it leaves, in this project's profile.
use Rattle.std.specs.Prelude.{◌≡◌, ◌⊎◌, ℕ, ◌+◌, ◌*◌, ◌≤◌, List, [], ◌∷◌, ◌++◌, Some, None, Result, Err, OnOk, IsErrOf}
use Rattle.ckd_image.specs.declared.header.Geometry.{Geometry}
use Rattle.ckd_image.specs.declared.header.ImageErr.TheVariants.{BadMagic}
use Rattle.hall_core.specs.declared.hall.HallErr.{HallErr}
use Rattle.hall_core.specs.declared.hall.HallErr.TheVariants as hall
use Rattle.hall_core.specs.Facts.{Facts}
use Rattle.stop_model.specs.Counts.{Rose}
use Rattle.stop_model.specs.Files.{File, file_of}
use Rattle.stop_model.specs.Moments.{Meaning, IsDurable, Same, Elapses}
use Rattle.pack_spec.specs.Label.{tracks_of}
use Rattle.pack_spec.specs.New.{IsNewImage}
use Rattle.pack_spec.specs.Volume.{volume_of}
use Rattle.pack_spec.specs.declared.MountErr.TheVariants.{Image, NoLabel}
use Rattle.pack_init.specs.declared.error.InitErr.{InitErr}
use Rattle.pack_init.specs.declared.error.InitErr.TheVariants.{Exists, Memory, Device}

-- the error that a call of a hall comes to
abbrev pub error_of : HallErr → InitErr
error_of hall.Missing = Device
error_of hall.Exists = Exists
error_of hall.Failed = Device
error_of hall.Memory = Memory

-- the bytes of an image: its header and its tracks
abbrev pub size_of : Geometry → ℕ
size_of g = 512 + tracks_of g * g.track_size

-- files, and one of this name after them
abbrev pub with_file : List File → List ℕ → List ℕ → List File
with_file files name image = files ++ record { name = name; bytes = image } ∷ []

-- an image that is refused, for its header or for its label, or that of the whole new pack
abbrev pub IsRefusedOrNew : Geometry → List ℕ → ℕ → List ℕ → Type 0
IsRefusedOrNew g serial tracks image = (volume_of image ≡ Err (Image BadMagic))
    ⊎ ((volume_of image ≡ Err NoLabel) ⊎ IsNewImage g serial tracks image)

-- what a stop leaves of files: them, or also a file of the name, with such an image
abbrev pub IsInitLeft : Geometry → List ℕ → ℕ → List ℕ → List File → List File → Type 0
IsInitLeft g serial tracks name files j = (j ≡ files)
    ⊎ ((image : List ℕ) × (j ≡ with_file files name image) × IsRefusedOrNew g serial tracks image)

-- A new pack is made as a file after the others, durably, where none has its name; where one has it nothing changes but the time. From durable files on, a stop leaves what is said above.
pub record MakesPack (g : Geometry) (serial : List ℕ) (tracks : ℕ) (name : List ℕ) (old new : Meaning (List File)) (result : Result (Unit {0}) InitErr) : Type 0 where
  pub fresh : OnOk result (file_of old.state name ≡ None)
  pub done : OnOk result ((image : List ℕ) × (new.state ≡ with_file old.state name image) × IsNewImage g serial tracks image)
  pub durable : OnOk result (IsDurable new)
  pub exists : IsErrOf result Exists → (image : List ℕ) × (file_of old.state name ≡ Some image)
  pub stays : (image : List ℕ) → file_of old.state name ≡ Some image → Same old new
  pub memory : IsErrOf result Memory → Same old new
  pub printed : new.printed ≡ old.printed
  pub moments : IsDurable old → Elapses old new (λ j p. IsInitLeft g serial tracks name old.state j × (p ≡ old.printed))

-- The file is the next unit when the pack is made, and it may be so after a fault; the device count rose where the device failed, and else stands still.
pub record InitCall (name : List ℕ) (len : ℕ) (old new : Facts) (result : Result (Unit {0}) InitErr) : Type 0 where
  pub added : OnOk result (new.units ≡ old.units ++ record { name = name; size = len } ∷ [])
  pub units : (new.units ≡ old.units) ⊎ (new.units ≡ old.units ++ record { name = name; size = len } ∷ [])
  pub references : new.references ≡ old.references
  pub prints : new.print_faults ≡ old.print_faults
  pub later : old.dev_faults ≤ new.dev_faults
  pub device : IsErrOf result Device → Rose old.dev_faults new.dev_faults
  pub others : ¬ IsErrOf result Device → new.dev_faults ≡ old.dev_faults
