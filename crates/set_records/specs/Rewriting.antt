-- One record of a data set that is written over and made durable, and what a stop leaves of that, in this project's profile.
use Rattle.std.specs.Prelude.{◌≡◌, ◌≢◌, ◌⊎◌, ◌<◌, ◌-◌, ℕ, Bool, true, false, List, length, take, Option, Some, None, Result, OnOk, slice_get}
use Rattle.std.specs.Option.{option_map}
use Rattle.ckd_image.specs.Track.{Record}
use Rattle.dscb_codec.specs.declared.F1.{F1}
use Rattle.stop_model.specs.Files.{File, file_of}
use Rattle.stop_model.specs.Moments.{Elapses, IsDurable, Meaning}
use Rattle.pack_spec.specs.Label.{records_on, track_bytes, tracks_of}
use Rattle.track_records.specs.Buffers.{Buffer}
use Rattle.track_records.specs.Updates.{HasLengths, with_parts}
use Rattle.track_records.specs.Written.{StandsOn}
use Rattle.vol_model.specs.declared.contents.Place.{Place}
use Rattle.vtoc_index.specs.declared.vol.Vol.{Vol}
use Rattle.vtoc_sets.specs.Sets.{owned_in}
use Rattle.free_rebuild.specs.Repairs.{image_named}

-- A record of a data set stands at a place, with a key and data of these lengths.
pub record HasRecord (image : List ℕ) (v : Vol) (f : F1) (place : Place) (keys contents : ℕ) : Type 0 where
  pub track : ℕ
  pub owned : slice_get (owned_in image v f) place.tt ≡ Some track
  pub records : List Record
  pub read : records_on image v.geometry (Some place.r) track ≡ Some records
  pub lengths : HasLengths records (place.r - 1) keys contents

-- An image has this key and these data in the record at a place of a data set; else it is as another.
pub record HasRewritten (v : Vol) (f : F1) (place : Place) (key content before after : List ℕ) : Type 0 where
  pub track : ℕ
  pub owned : slice_get (owned_in before v f) place.tt ≡ Some track
  pub inside : track < tracks_of v.geometry
  pub size : length after ≡ length before
  pub header : take 512 after ≡ take 512 before
  pub records : (upto : Option ℕ) → records_on after v.geometry upto track
      ≡ option_map (with_parts (place.r - 1) key content) (records_on before v.geometry upto track)
  pub others : (other : ℕ) → other ≢ track
      → track_bytes after v.geometry other ≡ track_bytes before v.geometry other

-- Files differ in the image of this name alone, and that in the record.
pub record HaveRewritten (name : List ℕ) (v : Vol) (f : F1) (place : Place) (key content : List ℕ)
    (before after : List File) : Type 0 where
  pub others : (other : List ℕ) → other ≢ name → file_of after other ≡ file_of before other
  pub image : HasRewritten v f place key content (image_named before name) (image_named after name)

-- A record of a data set is written over and made durable: a stop leaves the files as they were, or with it. Where it is done they have it, and the buffer holds records of its track.
pub record RewritesRecord {T E : Type 0} (name : List ℕ) (v : Vol) (f : F1) (place : Place) (key content : List ℕ)
    (buf : Buffer) (old new : Meaning (List File)) (result : Result T E) : Type 0 where
  pub done : OnOk result (HaveRewritten name v f place key content old.state new.state)
  pub durable : OnOk result (IsDurable new)
  pub buffer : OnOk result (StandsOn (image_named new.state name) buf)
  pub printed : new.printed ≡ old.printed
  pub moments : Elapses old new (λ files p.
      ((files ≡ old.state) ⊎ HaveRewritten name v f place key content old.state files) × (p ≡ old.printed))

-- The buffer of an index holds the records of a data set's track up to that at a place.
pub record HoldsRecord (image : List ℕ) (v : Vol) (f : F1) (place : Place) : Type 0 where
  pub owned : slice_get (owned_in image v f) place.tt ≡ Some v.buf.track
  pub stand : records_on image v.geometry (Some place.r) v.buf.track ≡ Some v.buf.records

-- the records of a track up to a record, or to its end marker, are these; or they break the grammar before that
abbrev pub IsReadUpTo : Bool → Option (List Record) → List Record → Type 0
IsReadUpTo true found records = found ≡ Some records
IsReadUpTo false found records = found ≡ None

-- records are read of a track, and the k-th of them has a key and data of these lengths; or that isn't so
abbrev pub AreHeld : Bool → ℕ → ℕ → Option (List Record) → List Record → ℕ → Type 0
AreHeld true keys contents found records k = found ≡ Some records
AreHeld false keys contents found records k = (xs : List Record) → found ≡ Some xs → HasLengths xs k keys contents → ⊥
