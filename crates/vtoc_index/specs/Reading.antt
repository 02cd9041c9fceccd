-- What the reading of a VTOC finds, a step at a time (System Control Blocks GC28-6628); `Index` has the whole.
use Rattle.std.specs.Prelude.{◌≡◌, ◌≢◌, ℕ, ◌+◌, ◌*◌, ◌≤◌, List, [], ◌++◌, length, Option, Some, None, Result, Err, slice_get, slice_range, unwrap_or, if◌then◌else◌}
use Rattle.ckd_image.specs.declared.header.Geometry.{Geometry}
use Rattle.ckd_image.specs.Track.{Record}
use Rattle.pack_spec.specs.Label.{address_at, track_of_address, tracks_of}
use Rattle.pack_spec.specs.Vtoc.{is_slot, slot_bytes}
use Rattle.pack_spec.specs.Slots.{slots_in, slots_of_vtoc, track_faults}
use Rattle.pack_spec.specs.declared.MountErr.{MountErr}
use Rattle.pack_spec.specs.declared.MountErr.TheVariants.{Memory, Device}
use Rattle.pack_spec.specs.declared.address.Address.{Address}
use Rattle.pack_spec.specs.declared.slot.VtocSlot.{VtocSlot}
use Rattle.vol_model.specs.declared.contents.Run.{Run}
use Rattle.vtoc_index.specs.declared.label.Label.{Label}
use Rattle.vtoc_index.specs.declared.tracks.ReadSlots.{ReadSlots}
use Rattle.vtoc_index.specs.Index.{AreFirsts, firsts_of}

-- the definition refuses with this error, unless memory ran out or the device failed, which say nothing of it
pub record Refuses {X : Type 0} (given : Result X MountErr) (e : MountErr) : Type 0 where
  pub why : e ≢ Memory → e ≢ Device → given ≡ Err e

-- what a label says, whose data are these
pub record Says (x : Label) (content : List ℕ) : Type 0 where
  pub serial : x.serial.bytes ≡ slice_range content 4 10
  pub vtoc : x.vtoc ≡ address_at 11 content

-- there is a label, and this is what it says
abbrev pub IsLabel : Option (List ℕ) → Label → Type 0
IsLabel None x = ⊥
IsLabel (Some content) x = Says x content

-- the record of this number, counted from 0; one without key and data where there is none
abbrev pub record_number : List Record → ℕ → Record
record_number records k = unwrap_or (slice_get records k)
    (record { address = []; key = []; «data» = [] })

-- the slot that a record is, if it has a slot's lengths
abbrev pub slot_of : Record → Option (List ℕ)
slot_of x = if is_slot x then Some (slot_bytes x) else None

-- the extent has 1 to 257 tracks, begins at this address and lies in the image
pub record IsExtent (g : Geometry) (at : Address) (vtoc : Run) : Type 0 where
  pub begins : vtoc.start ≡ track_of_address g at
  pub some : 1 ≤ vtoc.len
  pub few : vtoc.len ≤ 257
  pub inside : vtoc.start + vtoc.len ≤ tracks_of g

-- the records of a track are slots, and these were added
pub record Adds (g : Geometry) (track : ℕ) (records : List Record)
    (old new : List VtocSlot) : Type 0 where
  pub slots : List VtocSlot
  pub are_slots : slots_in g track records ≡ Some slots
  pub added : new ≡ old ++ slots

-- the slots are numbered over so many tracks, each of which has at most 255
pub record AreNumbered (len : ℕ) (found : ReadSlots) : Type 0 where
  pub tracks : length found.firsts.items ≡ len
  pub firsts : AreFirsts 0 found.firsts.items (length found.slots.items)
  pub few : length found.slots.items ≤ len * 255

-- so many tracks from this one on: none breaks the rules, these are their slots, and these are numbered so
pub record AreTracksRead (image : List ℕ) (g : Geometry) (start len : ℕ)
    (found : ReadSlots) : Type 0 where
  pub tracks : track_faults image g (record { start = start; len = len }) ≡ []
  pub slots : found.slots.items ≡ slots_of_vtoc image g (record { start = start; len = len })
  pub firsts : found.firsts.items ≡ firsts_of image g (record { start = start; len = len })
