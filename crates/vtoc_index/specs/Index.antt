-- What the index of a VTOC holds of an image, and what a write of one slot does to that (System Control Blocks GC28-6628).
use Rattle.std.specs.Prelude.{◌≡◌, ◌≢◌, ◌⊎◌, ℕ, ◌+◌, ◌-◌, ◌*◌, ◌≤◌, ◌<◌, nat_le, List, [], ◌∷◌, length, map, filter, take, Option, Some, Ok, Err, slice_index_or, slice_range, position}
use Rattle.std.proofs.Common.{zero, suc}
use Rattle.std.specs.Option.{option_map}
use Rattle.std.specs.List.{range_with_len}
use Rattle.ckd_image.specs.declared.header.Geometry.{Geometry}
use Rattle.ckd_image.specs.Header.{HasGeometry, geometry_of}
use Rattle.hall_core.specs.Facts.{Attached, unit_of}
use Rattle.dscb_codec.specs.declared.Dscb.{Dscb}
use Rattle.pack_spec.specs.Label.{label_of, track_bytes, tracks_of}
use Rattle.pack_spec.specs.Vtoc.{vtoc_of}
use Rattle.pack_spec.specs.Slots.{record_address, slots_of_vtoc, track_faults}
use Rattle.pack_spec.specs.Rules.{is_named, slots_faults}
use Rattle.pack_spec.specs.Owned.{volume_faults}
use Rattle.pack_spec.specs.Blocks.{data_tracks}
use Rattle.pack_spec.specs.Volume.{volume_by, volume_of}
use Rattle.pack_spec.specs.declared.MountErr.{MountErr}
use Rattle.pack_spec.specs.declared.MountErr.TheVariants.{Memory, Device}
use Rattle.pack_spec.specs.declared.slot.VtocSlot.{VtocSlot}
use Rattle.vol_model.specs.declared.contents.Run.{Run}
use Rattle.vol_model.specs.Space.{AreMaximal, EndBy, free_runs}
use Rattle.track_records.specs.Written.{StandsOn}
use Rattle.vtoc_index.specs.declared.vol.Vol.{Vol}

-- the slots hold these DSCBs, in order
abbrev pub AreDscbs : List Dscb → List VtocSlot → Type 0
AreDscbs dscbs slots = map (λ s. s.content) slots ≡ map Ok dscbs

-- the lowest of these DSCBs, counted from 0, that is a format 1 of this name
abbrev pub first_named : List ℕ → List Dscb → Option ℕ
first_named name dscbs = position (λ d. is_named name (Ok d)) dscbs

-- slots of which one, counted from 0, holds this DSCB
abbrev pub with_dscb : ℕ → Dscb → List VtocSlot → List VtocSlot
with_dscb k d [] = []
with_dscb zero d (s ∷ ss) = record s { content = Ok d } ∷ ss
with_dscb (suc k) d (s ∷ ss) = s ∷ with_dscb k d ss

-- the serial in the label
abbrev pub serial_on : List ℕ → Geometry → Option (List ℕ)
serial_on image g = option_map (λ label. slice_range label 4 10) (label_of image g)

-- how many slots stand on the first tracks of a VTOC, so many of these
abbrev pub slots_before : List ℕ → Geometry → Run → ℕ → ℕ
slots_before image g vtoc tracks = length
    (slots_of_vtoc image g (record { start = vtoc.start; len = tracks }))

-- the number of the first slot of each track of a VTOC
unfoldable pub firsts_of : List ℕ → Geometry → Run → List ℕ
firsts_of image g vtoc = map (slots_before image g vtoc) (range_with_len 0 vtoc.len)

-- the numbers of the first slots of tracks, from this number on to this end; a track has at most 255 slots
abbrev pub AreFirsts : ℕ → List ℕ → ℕ → Type 0
AreFirsts number [] end = number ≡ end
AreFirsts number (first ∷ firsts) end = (first ≡ number)
    × ((count : ℕ) × (count ≤ 255) × AreFirsts (number + count) firsts end)

-- The index is one of an attached unit: its VTOC and its free runs lie on the unit, and its slots are numbered over the tracks of that.
pub record IsOfUnit (units : List Attached) (v : Vol) : Type 0 where
  pub attached : v.unit < length units
  pub whole : HasGeometry (unit_of units v.unit).size v.geometry
  pub inside : v.vtoc.start + v.vtoc.len ≤ tracks_of v.geometry
  pub tracks : length v.firsts.items ≡ v.vtoc.len
  pub few : v.vtoc.len ≤ 257
  pub most : length v.slots.items ≤ 65535
  pub firsts : AreFirsts 0 v.firsts.items (length v.slots.items)
  pub free : AreMaximal v.free.items × EndBy (tracks_of v.geometry) v.free.items
  pub buffer : (v.buf.geometry ≡ v.geometry) × (v.buf.unit ≡ v.unit)

-- The index holds what stands on the image: its geometry, its serial, and the slots of the VTOC; and so does the buffer.
pub record IsIndexOf (image : List ℕ) (v : Vol) : Type 0 where
  pub header : geometry_of (take 512 image) (length image) ≡ Ok v.geometry
  pub serial : serial_on image v.geometry ≡ Some v.serial.bytes
  pub tracks : track_faults image v.geometry v.vtoc ≡ []
  pub slots : AreDscbs v.slots.items (slots_of_vtoc image v.geometry v.vtoc)
  pub firsts : v.firsts.items ≡ firsts_of image v.geometry v.vtoc
  pub buffer : (v.buf.records ≡ []) ⊎ StandsOn image v.buf

-- The image stands for a volume, and this is the index of its VTOC, with the volume's free runs.
pub record IsMounted (image : List ℕ) (v : Vol) : Type 0 where
  pub index : IsIndexOf image v
  pub vtoc : vtoc_of image v.geometry ≡ Ok v.vtoc
  pub lawful : slots_faults v.geometry (slots_of_vtoc image v.geometry v.vtoc) ≡ []
  pub whole : volume_faults (volume_by image v.geometry v.vtoc) ≡ []
  pub free : v.free.items ≡ free_runs (volume_by image v.geometry v.vtoc)
  pub volume : volume_of image ≡ Ok (volume_by image v.geometry v.vtoc)

-- why there is no index: the first rule that the image breaks; want of memory and a fault of the device say nothing of it
abbrev pub IsReason : List ℕ → MountErr → Type 0
IsReason image Memory = Unit {0}
IsReason image Device = Unit {0}
IsReason image e = volume_of image ≡ Err e

-- which track of the VTOC holds a slot, counted from 0: the last whose first slot doesn't stand after it
abbrev pub track_index : List ℕ → ℕ → ℕ
track_index firsts slot = length (filter (λ first. nat_le first slot) firsts) - 1

-- how many slots stand before a slot on its track
abbrev pub slots_in_front : List ℕ → ℕ → ℕ
slots_in_front firsts slot = slot - slice_index_or firsts (track_index firsts slot) 0

-- the address CCHHR of a slot, by the tracks of the VTOC and the numbers of their first slots
abbrev pub address_in : Vol → ℕ → List ℕ
address_in v slot = record_address v.geometry (v.vtoc.start + track_index v.firsts.items slot)
    (slots_in_front v.firsts.items slot + 1)

-- where the 140 bytes of a slot stand in the image: after the header, the tracks before it, the home address
-- and R0, the slots before it of 148 bytes each, and its count
abbrev pub place_of_slot : Vol → ℕ → ℕ
place_of_slot v slot =
    512 + (v.vtoc.start + track_index v.firsts.items slot) * v.geometry.track_size +
    (21 + 148 * slots_in_front v.firsts.items slot + 8)

-- One slot of the VTOC holds this DSCB, and nothing else on the image is changed.
pub record IsPut (v : Vol) (slot : ℕ) (d : Dscb) (image put : List ℕ) : Type 0 where
  pub size : length put ≡ length image
  pub header : take 512 put ≡ take 512 image
  pub label : label_of put v.geometry ≡ label_of image v.geometry
  pub slots : slots_of_vtoc put v.geometry v.vtoc
      ≡ with_dscb slot d (slots_of_vtoc image v.geometry v.vtoc)
  pub tracks : track_faults put v.geometry v.vtoc ≡ []
  pub firsts : firsts_of put v.geometry v.vtoc ≡ firsts_of image v.geometry v.vtoc
  pub contents : data_tracks put v.geometry v.vtoc ≡ data_tracks image v.geometry v.vtoc
  pub others : (track : ℕ) → track ≢ v.vtoc.start + track_index v.firsts.items slot
      → track_bytes put v.geometry track ≡ track_bytes image v.geometry track
