-- Tracks of an image, addresses, and the volume label (System Control Blocks GC28-6628).
use Rattle.std.specs.Prelude.{ℕ, ◌+◌, ◌*◌, ◌/◌, ◌%◌, ◌==◌, ◌&&◌, nat_lt, Bool, List, [], ◌∷◌, length, take, drop, Option, Some, None, option_and_then, slice_range, if◌then◌else◌}
use Rattle.std.specs.Str.{bytes_eq}
use Rattle.std.specs.Int.{w16, from_be_bytes}
use Rattle.ckd_image.specs.declared.header.Geometry.{Geometry}
use Rattle.ckd_image.specs.Device.{row_of}
use Rattle.ckd_image.specs.Track.{Record}
use Rattle.ckd_image.specs.Reading.{records_of}
use Rattle.pack_spec.specs.declared.address.Address.{Address}

-- the tracks of a cylinder
abbrev pub heads_of : Geometry → ℕ
heads_of g = (row_of g.device).heads

-- the tracks of an image
abbrev pub tracks_of : Geometry → ℕ
tracks_of g = g.cylinders * heads_of g

-- the bytes of a track, counted from 0 over all cylinders; the header's 512 bytes stand before the first
unfoldable pub track_bytes : List ℕ → Geometry → ℕ → List ℕ
track_bytes image g track = take g.track_size (drop (512 + track * g.track_size) image)

-- the records after R0 of a track, to its end marker or up to a record; nothing where it breaks the grammar
unfoldable pub records_on : List ℕ → Geometry → Option ℕ → ℕ → Option (List Record)
records_on image g upto track = records_of (track / heads_of g) (track % heads_of g) upto
    (track_bytes image g track)

-- CCHH at an offset
abbrev pub address_at : ℕ → List ℕ → Address
address_at at bytes = record {
  cylinder = from_be_bytes w16 (slice_range bytes at (at + 2));
  head = from_be_bytes w16 (slice_range bytes (at + 2) (at + 4));
}

-- the address is one of the image
abbrev pub is_inside : Geometry → Address → Bool
is_inside g a = nat_lt a.cylinder g.cylinders && nat_lt a.head (heads_of g)

-- the track of an address
abbrev pub track_of_address : Geometry → Address → ℕ
track_of_address g a = a.cylinder * heads_of g + a.head

-- IPL1 in EBCDIC
abbrev pub ipl1 : List ℕ
ipl1 = 0xC9 ∷ 0xD7 ∷ 0xD3 ∷ 0xF1 ∷ []

-- IPL2 in EBCDIC
abbrev pub ipl2 : List ℕ
ipl2 = 0xC9 ∷ 0xD7 ∷ 0xD3 ∷ 0xF2 ∷ []

-- VOL1 in EBCDIC
abbrev pub vol1 : List ℕ
vol1 = 0xE5 ∷ 0xD6 ∷ 0xD3 ∷ 0xF1 ∷ []

-- a record has this key, and so many bytes of data
abbrev pub is_keyed : List ℕ → ℕ → Record → Bool
is_keyed key len x = bytes_eq x.key key && (length x.data == len)

-- these records are IPL1, IPL2 and the volume label, whose data begin with its key
abbrev pub are_label : Record → Record → Record → Bool
are_label r1 r2 r3 = is_keyed ipl1 24 r1 && is_keyed ipl2 144 r2 && is_keyed vol1 80 r3 && bytes_eq
    (take 4 r3.data) vol1

-- the data of the volume label, where the first three records are these
unfoldable pub label_in : List Record → Option (List ℕ)
label_in (r1 ∷ r2 ∷ r3 ∷ []) = if are_label r1 r2 r3 then Some r3.data else None
label_in _ = None

-- the volume label on cylinder 0, head 0
unfoldable pub label_of : List ℕ → Geometry → Option (List ℕ)
label_of image g = option_and_then label_in (records_on image g (Some 3) 0)
