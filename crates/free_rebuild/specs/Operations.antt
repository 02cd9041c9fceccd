-- What an operation on one volume leaves, done or failed, and what a stop in it leaves, where a change of the image is of a given kind, in this project's profile.
use Rattle.std.specs.Prelude.{◌≡◌, ◌≢◌, ◌⊎◌, ℕ, List, Result, Ok, Err, IsErrOf, OnOk}
use Rattle.hall_core.specs.Facts.{Facts, ReportedCall}
use Rattle.stop_model.specs.Files.{File, file_of}
use Rattle.stop_model.specs.Moments.{Meaning, IsDurable, Elapses, Same}
use Rattle.pack_spec.specs.Settled.{IsGuarded, IsSettledVtoc}
use Rattle.pack_spec.specs.Volume.{volume_of}
use Rattle.free_rebuild.specs.Repairs.{image_named}
use Rattle.vol_model.specs.declared.answers.StoreErr.{StoreErr}
use Rattle.vol_model.specs.declared.answers.StoreErr.TheVariants.{Refused, Memory, Device}
use Rattle.vol_model.specs.declared.contents.Volume.{Volume}
use Rattle.vol_model.specs.declared.refusals.Refusal.{Refusal}
use Rattle.vtoc_index.specs.declared.vol.Vol.{Vol}
use Rattle.vtoc_index.specs.Index.{IsMounted}

-- Files differ in the image of this name alone, and that so. A name stands for the first file that has it.
pub record ChangesImage (name : List ℕ) (Changes : List ℕ → List ℕ → Type 0) (before after : List File) : Type 0 where
  pub others : (other : List ℕ) → other ≢ name → file_of after other ≡ file_of before other
  pub image : Changes (image_named before name) (image_named after name)

-- the image stands for the volume before an operation, or for the one after it
abbrev pub IsBeforeOrAfter : Volume → Result Volume Refusal → List ℕ → Type 0
IsBeforeOrAfter volume stepped image = (volume_of image ≡ Ok volume)
    ⊎ ((after : Volume) × (stepped ≡ Ok after) × (volume_of image ≡ Ok after))

-- Where an operation is done, the image stands durably for the volume after it, and the index is the image's.
pub record IsDone (name : List ℕ) (stepped : Result Volume Refusal) (v : Vol) (Changes : List ℕ → List ℕ → Type 0)
    (before : List File) (new : Meaning (List File)) : Type 0 where
  pub after : Volume
  pub step : stepped ≡ Ok after
  pub stands : volume_of (image_named new.state name) ≡ Ok after
  pub index : IsMounted (image_named new.state name) v
  pub durable : IsDurable new
  pub changes : ChangesImage name Changes before new.state

-- What a stop in an operation leaves: an image that stands for the volume before or after it, guarded where it was.
pub record IsLeftInOperation (name : List ℕ) (volume : Volume) (stepped : Result Volume Refusal)
    (Changes : List ℕ → List ℕ → Type 0) (before files : List File) : Type 0 where
  pub stands : IsBeforeOrAfter volume stepped (image_named files name)
  pub guarded : IsGuarded (image_named before name) → IsGuarded (image_named files name)
  pub changes : ChangesImage name Changes before files

-- An operation on the volume of an image, whose index becomes this, and which prints nothing: once it is done it is durable, and settled where it was.
pub record DoesOperation {T E : Type 0} (name : List ℕ) (operation : Volume → Result Volume Refusal)
    (v : Vol) (Changes : List ℕ → List ℕ → Type 0) (old new : Meaning (List File)) (result : Result T E) : Type 0 where
  pub volume : Volume
  pub before : volume_of (image_named old.state name) ≡ Ok volume
  pub done : OnOk result (IsDone name (operation volume) v Changes old.state new)
  pub settled : OnOk result (IsSettledVtoc (image_named old.state name)
      → IsSettledVtoc (image_named new.state name))
  pub printed : new.printed ≡ old.printed
  pub moments : Elapses old new (λ files p.
      IsLeftInOperation name volume (operation volume) Changes old.state files × (p ≡ old.printed))

-- Such an operation, which may be refused: that is where its step is, and then, or where memory ran out, nothing changes but the time.
pub record Operates {T : Type 0} (name : List ℕ) (operation : Volume → Result Volume Refusal)
    (v : Vol) (Changes : List ℕ → List ℕ → Type 0) (old new : Meaning (List File)) (result : Result T StoreErr) : Type 0 where
  pub does : DoesOperation name operation v Changes old new result
  pub refused : (r : Refusal) → IsErrOf result (Refused r) → operation does.volume ≡ Err r
  pub idle : (r : Refusal) → operation does.volume ≡ Err r → Same old new
  pub memory : IsErrOf result Memory → Same old new

-- calls of a device by an operation, which answers a fault of it as one
abbrev pub StoreCall : {T : Type 0} → Facts → Facts → Result T StoreErr → Type 0
StoreCall old new result = ReportedCall (IsErrOf result Device) old new
