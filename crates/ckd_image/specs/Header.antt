-- The header of an image: 512 bytes in the layout of Hercules, numbers with their low byte first.
use Rattle.std.specs.Prelude.{true, ◌≤◌, ◌≡◌, ℕ, ◌+◌, ◌-◌, ◌*◌, ◌/◌, ◌%◌, ◌==◌, ◌&&◌, ◌||◌, nat_lt, nat_le, not, Bool, List, ◌∷◌, ◌++◌, Option, Some, None, Result, Ok, Err, take, replicate, slice_index, slice_range, codes, if◌then◌else◌}
use Rattle.std.specs.Str.{bytes_eq}
use Rattle.std.specs.Int.{w16, w32, from_le_bytes, to_le_bytes}
use Rattle.ckd_image.specs.declared.device.DiskType.{DiskType}
use Rattle.ckd_image.specs.declared.header.Geometry.{Geometry}
use Rattle.ckd_image.specs.declared.header.ImageErr.{ImageErr}
use Rattle.ckd_image.specs.declared.header.ImageErr.TheVariants.{Compressed, BadMagic, BadType, BadHeads, BadTrackSize, MultiFile, BadLength}
use Rattle.ckd_image.specs.Device.{row_of, device_of}

-- the heads, four bytes at 8
abbrev pub heads_field : List ℕ → ℕ
heads_field bytes = from_le_bytes w32 (slice_range bytes 8 12)

-- the track size in bytes, four bytes at 12
abbrev pub track_size_field : List ℕ → ℕ
track_size_field bytes = from_le_bytes w32 (slice_range bytes 12 16)

-- the device's type, the byte at 16
abbrev pub type_field : List ℕ → ℕ
type_field bytes = slice_index bytes 16

-- the number of the file among several of one image, the byte at 17
abbrev pub sequence_field : List ℕ → ℕ
sequence_field bytes = slice_index bytes 17

-- the highest cylinder of one file among several, two bytes at 18
abbrev pub high_cylinder_field : List ℕ → ℕ
high_cylinder_field bytes = from_le_bytes w16 (slice_range bytes 18 20)

-- the header begins with this text of eight characters
abbrev pub has_magic : List ℕ → List ℕ → Bool
has_magic text bytes = bytes_eq (take 8 bytes) text

-- a track of so many bytes is a multiple of 512, holds the largest R1 with what stands around it, and isn't above 65,536
abbrev pub is_track_size : DiskType → ℕ → Bool
is_track_size device size = (size % 512 == 0) && nat_le ((row_of device).largest_record + 37) size && nat_le size 65536

-- after the header stand whole cylinders of so many bytes, from one to the device's most
abbrev pub is_length : DiskType → ℕ → ℕ → Bool
is_length device cylinder len = ((len - 512) % cylinder == 0) && nat_le cylinder (len - 512) && nat_le (len - 512) ((row_of device).most_cylinders * cylinder)

-- the geometry of an image of a known device, or the first rule that its header or length breaks
unfoldable pub geometry_on : DiskType → List ℕ → ℕ → Result Geometry ImageErr
geometry_on device bytes len =
    let heads = heads_field bytes in
    let size = track_size_field bytes in
    if not (heads == (row_of device).heads) then Err (BadHeads heads)
    else (if not (is_track_size device size) then Err (BadTrackSize size)
    else (if nat_lt 1 (sequence_field bytes) || not (high_cylinder_field bytes == 0) then Err MultiFile
    else (if not (is_length device (heads * size) len) then Err (BadLength len)
    else Ok (record { device = device; cylinders = (len - 512) / (heads * size); track_size = size }))))

-- the same where the device is known, or not
abbrev pub geometry_at : Option DiskType → List ℕ → ℕ → Result Geometry ImageErr
geometry_at None bytes len = Err (BadType (type_field bytes))
geometry_at (Some device) bytes len = geometry_on device bytes len

-- the geometry that the header of a file of this length gives, or the first rule that is broken
unfoldable pub geometry_of : List ℕ → ℕ → Result Geometry ImageErr
geometry_of bytes len =
    if nat_lt len 512 then Err BadMagic
    else (if has_magic (codes "CKD_C370") bytes then Err Compressed
    else (if not (has_magic (codes "CKD_P370") bytes) then Err BadMagic
    else geometry_at (device_of (type_field bytes)) bytes len))

-- an image of this length has the geometry: its cylinders stand whole after the header
pub record HasGeometry (len : ℕ) (g : Geometry) : Type 0 where
  pub cylinders : 1 ≤ g.cylinders
  pub most : g.cylinders ≤ (row_of g.device).most_cylinders
  pub track_size : is_track_size g.device g.track_size ≡ true
  pub whole : len ≡ 512 + g.cylinders * ((row_of g.device).heads * g.track_size)

-- the header of a new image: text, heads, track size, type, sequence 0, high cylinder 0, and reserved bytes of 0
abbrev pub header_bytes : Geometry → List ℕ
header_bytes g =
    codes "CKD_P370"
    ++ (to_le_bytes w32 (row_of g.device).heads
    ++ (to_le_bytes w32 g.track_size
    ++ ((row_of g.device).type_byte ∷ 0 ∷ 0 ∷ 0 ∷ replicate 492 0)))
