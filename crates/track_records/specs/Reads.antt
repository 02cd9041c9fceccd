-- What a read of a track that breaks the grammar of a Hercules image answers.
use Rattle.std.specs.Prelude.{◌≡◌, ℕ, ◌/◌, ◌%◌, List, Option, None}
use Rattle.ckd_image.specs.declared.header.Geometry.{Geometry}
use Rattle.ckd_image.specs.Reading.{records_of}
use Rattle.ckd_image.specs.Track.{BreaksAt}
use Rattle.pack_spec.specs.Label.{heads_of, track_bytes}
use Rattle.track_records.specs.declared.error.TrackErr.{TrackErr}
use Rattle.track_records.specs.declared.error.TrackErr.TheVariants.{BadCount, Device}

-- the bytes that are reported broken follow the grammar by no records, and break it at the byte that is named
abbrev pub IsBrokenTrack : ℕ → ℕ → Option ℕ → List ℕ → TrackErr → Type 0
IsBrokenTrack cylinder head upto bytes (BadCount at) = (records_of cylinder head upto bytes ≡ None)
    × BreaksAt cylinder head upto bytes at
IsBrokenTrack cylinder head upto bytes Device = Unit {0}

-- so do those of a track of an image
abbrev pub IsBroken : List ℕ → Geometry → Option ℕ → ℕ → TrackErr → Type 0
IsBroken image g upto track e = IsBrokenTrack (track / heads_of g) (track % heads_of g) upto
    (track_bytes image g track) e
