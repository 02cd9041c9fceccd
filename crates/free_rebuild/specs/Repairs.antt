-- What the repair of a VTOC leaves, done or failed, and what a stop in it leaves, in this project's profile.
use Rattle.std.specs.Prelude.{◌≡◌, ◌≢◌, ◌⊎◌, ℕ, List, [], Result, Ok, OnOk, unwrap_or}
use Rattle.stop_model.specs.Files.{File, file_of}
use Rattle.stop_model.specs.Moments.{Meaning, IsDurable, Elapses}
use Rattle.pack_spec.specs.Alike.{DifferInVtoc, IsIn}
use Rattle.pack_spec.specs.Label.{track_bytes}
use Rattle.pack_spec.specs.Settled.{IsGuarded, IsSettledVtoc}
use Rattle.pack_spec.specs.Volume.{volume_of}
use Rattle.vol_model.specs.declared.contents.Volume.{Volume}
use Rattle.vtoc_index.specs.Index.{IsMounted}
use Rattle.vtoc_index.specs.declared.vol.Vol.{Vol}

-- the image under a name: the bytes of its file
abbrev pub image_named : List File → List ℕ → List ℕ
image_named files name = unwrap_or (file_of files name) []

-- the tracks of a volume's VTOC have the same bytes on two images
abbrev pub HaveSameVtoc : Volume → List ℕ → List ℕ → Type 0
HaveSameVtoc volume before after = (track : ℕ) → IsIn volume.vtoc track
    → track_bytes after volume.geometry track ≡ track_bytes before volume.geometry track

-- What a stop in a repair leaves: the image stands for the same volume and is guarded, or has the VTOC of its entry; the other tracks and files are as before.
pub record IsSafe (name : List ℕ) (volume : Volume) (before files : List File) : Type 0 where
  pub stands : volume_of (image_named files name) ≡ Ok volume
  pub guarded : IsGuarded (image_named files name)
      ⊎ HaveSameVtoc volume (image_named before name) (image_named files name)
  pub tracks : DifferInVtoc volume.geometry volume.vtoc (image_named before name)
      (image_named files name)
  pub others : (other : List ℕ) → other ≢ name → file_of files other ≡ file_of before other

-- A repair of the VTOC of an image that stands for a volume, whose index becomes this, and which prints nothing. Once it is done the image is settled as far as the VTOC goes, durably.
pub record Repairs {T E : Type 0} (name : List ℕ) (v : Vol) (old new : Meaning (List File))
    (result : Result T E) : Type 0 where
  pub volume : Volume
  pub before : volume_of (image_named old.state name) ≡ Ok volume
  pub safe : OnOk result (IsSafe name volume old.state new.state)
  pub settled : OnOk result (IsSettledVtoc (image_named new.state name))
  pub index : OnOk result (IsMounted (image_named new.state name) v)
  pub durable : OnOk result (IsDurable new)
  pub printed : new.printed ≡ old.printed
  pub moments : Elapses old new (λ files p. IsSafe name volume old.state files
      × (p ≡ old.printed))
