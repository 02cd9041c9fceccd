-- Parts of a new pack as they are written: the tracks of its VTOC, and the begin of a track without records.
use Rattle.std.specs.Prelude.{ℕ, ◌+◌, ◌-◌, ◌*◌, ◌/◌, ◌%◌, zero, suc, List, ◌++◌, map}
use Rattle.std.specs.List.{flat_map, range_with_len}
use Rattle.ckd_image.specs.declared.header.Geometry.{Geometry}
use Rattle.ckd_image.specs.Track.{end_marker}
use Rattle.ckd_image.specs.Writing.{front_bytes, new_track}
use Rattle.stop_model.specs.Files.{patched}
use Rattle.pack_spec.specs.Label.{heads_of, tracks_of}
use Rattle.pack_spec.specs.New.{address_of, slots_of_track}
use Rattle.pack_spec.specs.Written.{slot_record}

-- where a track begins in an image
abbrev pub offset_of : Geometry → ℕ → ℕ
offset_of g track = 512 + track * g.track_size

-- a track of the VTOC
unfoldable pub vtoc_track : Geometry → List ℕ → List ℕ → ℕ → List ℕ
vtoc_track g slot_0 slot_1 track =
    new_track (track / heads_of g) (track % heads_of g)
    (map (slot_record (address_of g track)) (slots_of_track g slot_0 slot_1 track)) g.track_size

-- so many tracks of the VTOC, from its first on
abbrev pub vtoc_tracks : Geometry → List ℕ → List ℕ → ℕ → List ℕ
vtoc_tracks g slot_0 slot_1 tracks = flat_map (vtoc_track g slot_0 slot_1) (range_with_len 1 tracks)

-- home address, R0 and end marker of a track
abbrev pub empty_bytes : Geometry → ℕ → List ℕ
empty_bytes g track = front_bytes (track / heads_of g) (track % heads_of g) ++ end_marker

-- an image on which so many tracks from a first one on were made empty
unfoldable pub with_empties : Geometry → ℕ → ℕ → List ℕ → List ℕ
with_empties g first zero image = image
with_empties g first (suc n) image =
    patched (with_empties g first n image) (offset_of g (first + n)) (empty_bytes g (first + n))

-- an image of which all tracks but track 0 are written, over zeros
unfoldable pub with_tracks : Geometry → ℕ → List ℕ → List ℕ → List ℕ
with_tracks g tracks vtoc image =
    with_empties g (tracks + 1) (tracks_of g - (tracks + 1)) (patched image (offset_of g 1) vtoc)

-- an image with a header and a track 0 written over it
abbrev pub with_front : List ℕ → List ℕ → List ℕ → List ℕ
with_front header label image = patched (patched image 0 header) 512 label
