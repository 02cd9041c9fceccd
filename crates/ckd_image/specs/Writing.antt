-- The bytes of a track that is written, part by part.
use Rattle.std.specs.Prelude.{ℕ, ◌+◌, ◌-◌, List, [], ◌++◌, length, replicate}
use Rattle.std.specs.Int.{w16, to_be_bytes}
use Rattle.ckd_image.specs.Track.{Record, end_marker, home_address, record_bytes, records_bytes}

-- a record whose count names the track that it is on
abbrev pub record_on : ℕ → ℕ → List ℕ → List ℕ → Record
record_on cylinder head key content = record {
  address = to_be_bytes w16 cylinder ++ to_be_bytes w16 head;
  key = key;
  «data» = content;
}

-- the home address, of which the byte that isn't judged is 0, and R0 with zeros
abbrev pub front_bytes : ℕ → ℕ → List ℕ
front_bytes cylinder head = home_address 0 cylinder head ++ record_bytes 0 (record_on cylinder head [] (replicate 8 0))

-- a track with these records after R0, and any rest after its end marker
abbrev pub track_bytes : ℕ → ℕ → List Record → List ℕ → List ℕ
track_bytes cylinder head records rest = front_bytes cylinder head ++ (records_bytes 1 records ++ (end_marker ++ rest))

-- the same with zeros after its end marker up to its size
abbrev pub new_track : ℕ → ℕ → List Record → ℕ → List ℕ
new_track cylinder head records size = track_bytes cylinder head records (replicate (size - (29 + length (records_bytes 1 records))) 0)
