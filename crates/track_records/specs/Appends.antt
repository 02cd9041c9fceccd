-- What a write after the last record of a track does to an image, in this project's profile.
use Rattle.std.specs.Prelude.{◌≡◌, ◌≢◌, ◌⊎◌, ℕ, ◌+◌, ◌*◌, ◌/◌, ◌%◌, ◌≤◌, List, [], ◌∷◌, ◌++◌, length, take, slice_range, IsTrue, Some, None}
use Rattle.ckd_image.specs.Track.{Record, end_marker, records_bytes}
use Rattle.ckd_image.specs.Writing.{front_bytes, record_on}
use Rattle.stop_model.specs.Files.{patched}
use Rattle.pack_spec.specs.Label.{heads_of, records_on, track_bytes}
use Rattle.track_records.specs.Buffers.{Buffer, records_at, are_places}
use Rattle.track_records.specs.Updates.{offset_of}
use Rattle.track_records.specs.Written.{StandsOn}

-- a record with this key and these data, whose count names the buffer's track
abbrev pub record_of : Buffer → List ℕ → List ℕ → Record
record_of b key content = record_on (b.track / heads_of b.geometry) (b.track % heads_of b.geometry) key content

-- where the records of a buffer end, in bytes from the home address of its track
abbrev pub end_of : Buffer → ℕ
end_of b = 21 + offset_of b.records (length b.records)

-- where what follows records is written, in bytes from the home address: after them, and with that address if there are none
abbrev pub start_behind : List Record → ℕ
start_behind [] = 0
start_behind (x ∷ xs) = 21 + offset_of (x ∷ xs) (length (x ∷ xs))

-- the home address and R0, if no records stand after them yet
abbrev pub front_before : ℕ → ℕ → List Record → List ℕ
front_before cylinder head [] = front_bytes cylinder head
front_before cylinder head (x ∷ xs) = []

-- what is written after records: more of them, and the end marker
abbrev pub bytes_behind : ℕ → ℕ → List Record → List Record → List ℕ
bytes_behind cylinder head old new = front_before cylinder head old ++ (records_bytes (length old + 1) new ++ end_marker)

-- the same for a buffer
abbrev pub continuation : Buffer → List Record → List ℕ
continuation b new = bytes_behind (b.track / heads_of b.geometry) (b.track % heads_of b.geometry) b.records new

-- where it stands in the image
abbrev pub place_behind : Buffer → ℕ
place_behind b = 512 + b.track * b.geometry.track_size + start_behind b.records

-- a buffer is empty, or its records are those of its track of the image, as far as they are read
abbrev pub MayContinue : List ℕ → Buffer → Type 0
MayContinue image b = (b.records ≡ []) ⊎ StandsOn image b

-- The track ends after a buffer's records and these new ones, and nothing before them or on other tracks is changed.
pub record IsContinued (b : Buffer) (new : List Record) (image continued : List ℕ) : Type 0 where
  pub bytes : continued ≡ patched image (place_behind b) (continuation b new)
  pub size : length continued ≡ length image
  pub header : take 512 continued ≡ take 512 image
  pub records : records_on continued b.geometry None b.track ≡ Some (b.records ++ new)
  pub earlier : (r : ℕ) → 1 ≤ r → r ≤ length b.records → records_on continued b.geometry (Some r) b.track ≡ records_on image b.geometry (Some r) b.track
  pub others : (track : ℕ) → track ≢ b.track
      → track_bytes continued b.geometry track ≡ track_bytes image b.geometry track

-- a record with this key and these data is the last of the track
abbrev pub IsAppended : Buffer → List ℕ → List ℕ → List ℕ → List ℕ → Type 0
IsAppended b key content image appended = IsContinued b (record_of b key content ∷ []) image appended

-- the last of a buffer's records is the last of the track
abbrev pub IsSealed : Buffer → List ℕ → List ℕ → Type 0
IsSealed b image sealed = IsContinued b [] image sealed

-- for lemmas: what follows its records was put into the bytes of a track, and is to be written from a start to an end
pub record IsPutBehind (cylinder head : ℕ) (new : List Record) (bytes places put put_places : List ℕ) (stretch : ℕ × ℕ) : Type 0 where
  pub start : stretch.0 ≡ start_behind (records_at bytes places)
  pub order : stretch.0 ≤ stretch.1
  pub inside : stretch.1 ≤ length put
  pub part : slice_range put stretch.0 stretch.1 ≡ bytes_behind cylinder head (records_at bytes places) new
  pub size : length put ≡ length bytes
  pub are : IsTrue (are_places 1 21 put put_places)
  pub records : records_at put put_places ≡ records_at bytes places ++ new

-- for lemmas: the buffer with more records
abbrev pub with_more : Buffer → List Record → Buffer
with_more b new = record b { records = b.records ++ new }
