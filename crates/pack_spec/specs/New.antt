-- A new pack, its VTOC from relative track 1 on (label and DSCBs: System Control Blocks GC28-6628; numbers of devices: this project's profile).
use Rattle.std.specs.Prelude.{◌≡◌, ℕ, ◌+◌, ◌-◌, ◌*◌, ◌/◌, ◌%◌, ◌<◌, ◌≤◌, ◌==◌, nat_le, List, [], ◌∷◌, ◌++◌, length, map, replicate, None, Ok, if◌then◌else◌}
use Rattle.std.specs.List.{flat_map, range_with_len}
use Rattle.std.specs.Int.{w16, to_be_bytes}
use Rattle.ckd_image.specs.declared.device.DiskType.{DiskType}
use Rattle.ckd_image.specs.declared.device.DiskType.TheVariants.{D2311, D2314, D3330, D3350}
use Rattle.ckd_image.specs.declared.header.Geometry.{Geometry}
use Rattle.ckd_image.specs.Device.{row_of}
use Rattle.ckd_image.specs.Header.{header_bytes}
use Rattle.ckd_image.specs.Track.{Record}
use Rattle.ckd_image.specs.Writing.{new_track}
use Rattle.dscb_codec.specs.declared.F4.{F4}
use Rattle.dscb_codec.specs.declared.F5.{F5}
use Rattle.dscb_codec.specs.declared.Dscb.{Dscb}
use Rattle.dscb_codec.specs.declared.Dscb.TheVariants as formats
use Rattle.dscb_codec.specs.Layout.{decoded}
use Rattle.vol_model.specs.declared.contents.Run.{Run}
use Rattle.vol_model.specs.declared.contents.Volume.{Volume}
use Rattle.pack_spec.specs.declared.address.Address.{Address}
use Rattle.pack_spec.specs.Label.{heads_of, tracks_of}
use Rattle.pack_spec.specs.Written.{label_records, slot_record}

-- A new pack may have this geometry and so many VTOC tracks: its primary cylinders or fewer, the track size that is written, and a track after the VTOC or none.
pub record IsNewPack (g : Geometry) (tracks : ℕ) : Type 0 where
  pub some : 1 ≤ g.cylinders
  pub primary : g.cylinders ≤ (row_of g.device).primary_cylinders
  pub size : g.track_size ≡ (row_of g.device).written_track_size
  pub first : 1 ≤ tracks
  pub most : tracks ≤ 100
  pub room : tracks < tracks_of g

-- the tracks of the VTOC
abbrev pub new_vtoc : ℕ → Run
new_vtoc tracks = record { start = 1; len = tracks }

-- the slots that they have
abbrev pub new_slots : Geometry → ℕ → ℕ
new_slots g tracks = tracks * (row_of g.device).dscbs_per_track

-- the free tracks, which are all tracks after the VTOC
abbrev pub new_space : Geometry → ℕ → Run
new_space g tracks = record { start = tracks + 1; len = tracks_of g - (tracks + 1) }

-- the volume that has no data set and no catalog
abbrev pub new_volume : Geometry → List ℕ → ℕ → Volume
new_volume g serial tracks = record {
  serial = record { bytes = serial };
  geometry = g;
  vtoc = new_vtoc tracks;
  slots = new_slots g tracks;
  sets = [];
  catalog = None;
}

-- a number in two bytes
abbrev pub half : ℕ → List ℕ
half n = to_be_bytes w16 n

-- the address of a track
abbrev pub address_of : Geometry → ℕ → Address
address_of g track = record { cylinder = track / heads_of g; head = track % heads_of g }

-- CCHH of a track
abbrev pub track_address : Geometry → ℕ → List ℕ
track_address g track = half (track / heads_of g) ++ half (track % heads_of g)

-- the extent of the VTOC: type X'01', sequence 0, its first track and its last
abbrev pub vtoc_extent : Geometry → ℕ → List ℕ
vtoc_extent g tracks = 0x01 ∷ 0 ∷ (track_address g 1 ++ track_address g tracks)

-- I of a device; on a 3350 the high byte of the one overhead
abbrev pub i_of : DiskType → ℕ
i_of D3350 = 0x01
i_of device = (row_of device).overhead

-- L of a device; on a 3350 the low byte of the one overhead
abbrev pub l_of : DiskType → ℕ
l_of D3350 = 0x0B
l_of device = (row_of device).last_overhead

-- the flag of a device
abbrev pub flag_of : DiskType → ℕ
flag_of D2311 = 0x01
flag_of D2314 = 0x01
flag_of D3330 = 0x00
flag_of D3350 = 0x08

-- format 4: all slots but two are free, no bit of the indicators is on, and the VTOC has one extent
unfoldable pub new_f4 : Geometry → ℕ → F4
new_f4 g tracks = record {
  id = replicate 44 0x04;
  highest = replicate 5 0;
  free = new_slots g tracks - 2;
  next_alt = 0;
  alternates = 0;
  indicators = 0;
  extents = 1;
  res60 = replicate 2 0;
  size = g.cylinders * 65536 + heads_of g;
  capacity = (row_of g.device).track_capacity;
  i = i_of g.device;
  l = l_of g.device;
  k = (row_of g.device).key_overhead;
  flag = flag_of g.device;
  tolerance = (row_of g.device).tolerance;
  dscbs = (row_of g.device).dscbs_per_track;
  dirs = (row_of g.device).directory_blocks_per_track;
  res76 = replicate 29 0;
  vtoc = vtoc_extent g tracks;
  res115 = replicate 25 0;
}

-- the cylinders that lie whole in a run
abbrev pub whole_cylinders : Geometry → Run → ℕ
whole_cylinders g run =
    (run.start + run.len) / heads_of g - (run.start + (heads_of g - 1)) / heads_of g

-- no entry
abbrev pub no_entry : List ℕ
no_entry = replicate 5 0

-- the entry of a run in a format 5: its first track, the cylinders that lie whole in it, and its other tracks; none where it has no track
abbrev pub space_entry : Geometry → Run → List ℕ
space_entry g run =
    if run.len == 0 then no_entry
    else half run.start ++ (half (whole_cylinders g run)
    ++ (run.len - whole_cylinders g run * heads_of g) ∷ [])

-- format 5 with one entry
unfoldable pub new_f5 : Geometry → ℕ → F5
new_f5 g tracks = record {
  id = 0x05050505;
  front = space_entry g (new_space g tracks) ∷ replicate 7 no_entry;
  back = replicate 18 no_entry;
  pointer = replicate 5 0;
}

-- the bytes of a slot that hold a DSCB
pub record IsSlotOf (dscb : Dscb) (slot : List ℕ) : Type 0 where
  pub len : length slot ≡ 140
  pub decodes : decoded slot ≡ Ok dscb

-- a free slot
abbrev pub free_slot : List ℕ
free_slot = replicate 140 0

-- the slots on a track of the VTOC, as many as the device has on a track: on the first one these two, and else free ones
abbrev pub slots_of_track : Geometry → List ℕ → List ℕ → ℕ → List (List ℕ)
slots_of_track g slot_0 slot_1 track =
    if track == 1
    then slot_0 ∷ slot_1 ∷ replicate ((row_of g.device).dscbs_per_track - 2) free_slot
    else replicate (row_of g.device).dscbs_per_track free_slot

-- the records after R0 of a track: the label on track 0, slots on those of the VTOC, and none on any other
abbrev pub new_records : Geometry → List ℕ → ℕ → List ℕ → List ℕ → ℕ → List Record
new_records g serial tracks slot_0 slot_1 track =
    if track == 0 then label_records serial (address_of g 1)
    else (if nat_le track tracks
    then map (slot_record (address_of g track)) (slots_of_track g slot_0 slot_1 track)
    else [])

-- the bytes of a track, in which zeros stand after the end marker
unfoldable pub new_track_at : Geometry → List ℕ → ℕ → List ℕ → List ℕ → ℕ → List ℕ
new_track_at g serial tracks slot_0 slot_1 track =
    new_track (track / heads_of g) (track % heads_of g)
    (new_records g serial tracks slot_0 slot_1 track) g.track_size

-- an image of so many VTOC tracks, with these two slots and free ones
unfoldable pub image_with : Geometry → List ℕ → ℕ → List ℕ → List ℕ → List ℕ
image_with g serial tracks slot_0 slot_1 =
    header_bytes g
    ++ flat_map (new_track_at g serial tracks slot_0 slot_1) (range_with_len 0 (tracks_of g))

-- The image is that of a new pack with this geometry and serial, and so many VTOC tracks: header and label, slot 0 with format 4 and slot 1 with format 5, and else free slots and empty tracks.
pub record IsNewImage (g : Geometry) (serial : List ℕ) (tracks : ℕ) (image : List ℕ) : Type 0 where
  pub slot_0 : List ℕ
  pub slot_1 : List ℕ
  pub format_4 : IsSlotOf (formats.F4 (new_f4 g tracks)) slot_0
  pub format_5 : IsSlotOf (formats.F5 (new_f5 g tracks)) slot_1
  pub bytes : image ≡ image_with g serial tracks slot_0 slot_1
