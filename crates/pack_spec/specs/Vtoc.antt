-- Extents in DSCBs, and that of the VTOC (System Control Blocks GC28-6628).
use Rattle.std.specs.Prelude.{ℕ, ◌+◌, ◌-◌, ◌==◌, ◌&&◌, ◌||◌, nat_le, Bool, List, [], ◌∷◌, ◌++◌, length, Option, Some, None, Result, Ok, Err, option_and_then, slice_index, slice_range, if◌then◌else◌}
use Rattle.ckd_image.specs.declared.header.Geometry.{Geometry}
use Rattle.ckd_image.specs.Track.{Record}
use Rattle.vol_model.specs.declared.contents.Run.{Run}
use Rattle.pack_spec.specs.declared.MountErr.{MountErr}
use Rattle.pack_spec.specs.declared.MountErr.TheVariants.{NoLabel, BadVtoc, VtocTrack}
use Rattle.pack_spec.specs.declared.address.Address.{Address}
use Rattle.pack_spec.specs.Label.{address_at, is_inside, track_of_address, records_on, label_of}

-- the type of an extent; its ten bytes are type, sequence, lower CCHH and upper CCHH
abbrev pub type_of : List ℕ → ℕ
type_of extent = slice_index extent 0

-- its first track
abbrev pub lower_of : List ℕ → Address
lower_of extent = address_at 2 extent

-- its last track
abbrev pub upper_of : List ℕ → Address
upper_of extent = address_at 6 extent

-- data, or data on cylinder boundaries
abbrev pub is_counted_type : List ℕ → Bool
is_counted_type extent = (type_of extent == 0x01) || (type_of extent == 0x81)

-- the same, or no extent
abbrev pub is_field_type : List ℕ → Bool
is_field_type extent = (type_of extent == 0x00) || is_counted_type extent

-- its ends are tracks of the image, in this order or the same
abbrev pub is_extent : Geometry → List ℕ → Bool
is_extent g extent =
    is_inside g (lower_of extent) && is_inside g (upper_of extent)
    && nat_le (track_of_address g (lower_of extent)) (track_of_address g (upper_of extent))

-- the tracks of an extent
abbrev pub run_of_extent : Geometry → List ℕ → Run
run_of_extent g extent = record {
  start = track_of_address g (lower_of extent);
  len = track_of_address g (upper_of extent) - track_of_address g (lower_of extent) + 1;
}

-- a slot is a record with a key of 44 bytes and 96 bytes of data
abbrev pub is_slot : Record → Bool
is_slot x = (length x.key == 44) && (length x.data == 96)

-- the 140 bytes of a slot
abbrev pub slot_bytes : Record → List ℕ
slot_bytes x = x.key ++ x.data

-- the bytes of the slot that the one record is
abbrev pub first_slot : List Record → Option (List ℕ)
first_slot (x ∷ []) = if is_slot x then Some (slot_bytes x) else None
first_slot _ = None

-- an extent of the image that begins at this address and has 1 to 257 tracks
abbrev pub is_vtoc_extent : Geometry → Address → List ℕ → Bool
is_vtoc_extent g at extent =
    is_extent g extent
    && ((lower_of extent).cylinder == at.cylinder) && ((lower_of extent).head == at.head)
    && nat_le (run_of_extent g extent).len 257

-- the VTOC that begins at an address, by the first slot there, whose extent stands at byte 105
abbrev pub vtoc_by : Geometry → Address → Option (List ℕ) → Result Run MountErr
vtoc_by g at None = Err (VtocTrack (track_of_address g at))
vtoc_by g at (Some slot) =
    let extent = slice_range slot 105 115 in
    if is_vtoc_extent g at extent then Ok (run_of_extent g extent) else Err BadVtoc

-- the same, by the first slot on an image
unfoldable pub vtoc_on : List ℕ → Geometry → Address → Result Run MountErr
vtoc_on image g at = vtoc_by g at (option_and_then first_slot
    (records_on image g (Some 1) (track_of_address g at)))

-- the VTOC to which a label leads; the address stands at byte 11 of its data
unfoldable pub vtoc_at : List ℕ → Geometry → Option (List ℕ) → Result Run MountErr
vtoc_at image g None = Err NoLabel
vtoc_at image g (Some label) =
    let at = address_at 11 label in
    if is_inside g at then vtoc_on image g at else Err BadVtoc

-- the VTOC's extent on an image, or the first rule that is broken
unfoldable pub vtoc_of : List ℕ → Geometry → Result Run MountErr
vtoc_of image g = vtoc_at image g (label_of image g)
