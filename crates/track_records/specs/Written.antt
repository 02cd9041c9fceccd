-- What a write of one record does to an image, in this project's profile.
use Rattle.std.specs.Prelude.{◌≡◌, ◌≢◌, ℕ, ◌+◌, ◌*◌, List, ◌++◌, length, take, Option, Some}
use Rattle.std.specs.Option.{option_map}
use Rattle.stop_model.specs.Files.{patched}
use Rattle.pack_spec.specs.Label.{records_on, track_bytes}
use Rattle.track_records.specs.Buffers.{Buffer}
use Rattle.track_records.specs.Updates.{offset_of, with_parts}

-- where the key of the k-th record of a buffer, counted from 0, stands in the image: after the header, the tracks
-- before it, the home address and R0, the records before it, and its count
abbrev pub place_of : Buffer → ℕ → ℕ
place_of b k = 512 + b.track * b.geometry.track_size + (21 + offset_of b.records k + 8)

-- the records that a buffer holds are those of its track of the image, to its end marker or up to one of them
abbrev pub StandsOn : List ℕ → Buffer → Type 0
StandsOn image b = (upto : Option ℕ) × (records_on image b.geometry upto b.track ≡ Some b.records)

-- for lemmas: the buffer of which the k-th record has this key and these data
abbrev pub with_record : Buffer → ℕ → List ℕ → List ℕ → Buffer
with_record b k key content = record b { records = with_parts k key content b.records }

-- The k-th record of a track has this key and these data, and nothing else on the image is changed.
pub record IsUpdated (b : Buffer) (k : ℕ) (key content image updated : List ℕ) : Type 0 where
  pub bytes : updated ≡ patched image (place_of b k) (key ++ content)
  pub size : length updated ≡ length image
  pub header : take 512 updated ≡ take 512 image
  pub records : (upto : Option ℕ) → records_on updated b.geometry upto b.track
      ≡ option_map (with_parts k key content) (records_on image b.geometry upto b.track)
  pub others : (track : ℕ) → track ≢ b.track
      → track_bytes updated b.geometry track ≡ track_bytes image b.geometry track
