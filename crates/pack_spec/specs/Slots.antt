-- The slots of a VTOC: their addresses, and what decoding gives of them (System Control Blocks GC28-6628).
use Rattle.std.specs.Prelude.{ℕ, ◌/◌, ◌%◌, List, [], ◌∷◌, ◌++◌, map, is_none, Option, Some, None, option_and_then, unwrap_or, if◌then◌else◌}
use Rattle.std.specs.List.{enumerate_from, filter_map, flat_map, list_all, range_with_len}
use Rattle.std.specs.Int.{w16, to_be_bytes}
use Rattle.ckd_image.specs.declared.header.Geometry.{Geometry}
use Rattle.ckd_image.specs.Track.{Record}
use Rattle.dscb_codec.specs.Layout.{decoded}
use Rattle.vol_model.specs.declared.contents.Run.{Run}
use Rattle.pack_spec.specs.declared.MountErr.{MountErr}
use Rattle.pack_spec.specs.declared.MountErr.TheVariants.{VtocTrack}
use Rattle.pack_spec.specs.declared.slot.VtocSlot.{VtocSlot}
use Rattle.pack_spec.specs.Label.{heads_of, records_on}
use Rattle.pack_spec.specs.Vtoc.{is_slot, slot_bytes}

-- the tracks of a run
abbrev pub tracks_in : Run → List ℕ
tracks_in run = range_with_len run.start run.len

-- the address CCHHR of the record R = r on a track
abbrev pub record_address : Geometry → ℕ → ℕ → List ℕ
record_address g track r = to_be_bytes w16 (track / heads_of g) ++
    (to_be_bytes w16 (track % heads_of g) ++ r ∷ [])

-- the slot that the record R = r on a track is
abbrev pub slot_at : Geometry → ℕ → ℕ → Record → VtocSlot
slot_at g track r x = record {
  address = record_address g track r;
  content = decoded
      (slot_bytes x);
}

-- the slots that records on a track are, the first of which is R = r
abbrev pub slots_from : Geometry → ℕ → ℕ → List Record → List VtocSlot
slots_from g track r records = map (λ p. slot_at g track p.0 p.1) (enumerate_from r records)

-- the slots that all records of a track are
abbrev pub slots_in : Geometry → ℕ → List Record → Option (List VtocSlot)
slots_in g track records = if list_all is_slot records then Some
    (slots_from g track 1 records) else None

-- the slots on a track; none where it breaks the grammar, or has a record that is no slot
unfoldable pub slots_on : List ℕ → Geometry → ℕ → Option (List VtocSlot)
slots_on image g track = option_and_then (slots_in g track) (records_on image g None track)

-- the slots on the tracks of a VTOC, in order
unfoldable pub slots_of_vtoc : List ℕ → Geometry → Run → List VtocSlot
slots_of_vtoc image g vtoc = flat_map (λ track. unwrap_or (slots_on image g track) [])
    (tracks_in vtoc)

-- a track breaks the grammar, or has a record that is no slot
unfoldable pub track_fault : List ℕ → Geometry → ℕ → Option MountErr
track_fault image g track = if is_none (slots_on image g track) then Some
    (VtocTrack track) else None

-- the tracks of a VTOC that break these rules, in order
unfoldable pub track_faults : List ℕ → Geometry → Run → List MountErr
track_faults image g vtoc = filter_map (track_fault image g) (tracks_in vtoc)
