-- A data set that gets extents after its own: what it gets, and its DSCBs then (System Control Blocks GC28-6628).
use Rattle.std.specs.Prelude.{◌≡◌, ℕ, ◌+◌, ◌-◌, ◌/◌, ◌≤◌, ◌<◌, ◌==◌, ◌&&◌, nat_le, nat_lt, is_some, true, false, List, ◌++◌, length, map, replicate, slice_get, Option, Some, None, Ok, Err, if◌then◌else◌}
use Rattle.std.specs.List.{enumerate_from}
use Rattle.std.specs.Option.{option_map, option_map_or}
use Rattle.std.specs.Str.{bytes_eq}
use Rattle.ckd_image.specs.declared.header.Geometry.{Geometry}
use Rattle.dscb_codec.specs.declared.Dscb.{Dscb}
use Rattle.dscb_codec.specs.declared.Dscb.TheVariants as formats
use Rattle.dscb_codec.specs.declared.F1.{F1}
use Rattle.dscb_codec.specs.declared.F3.{F3}
use Rattle.pack_spec.specs.declared.slot.VtocSlot.{VtocSlot}
use Rattle.pack_spec.specs.Rules.{counted_extents, format_3_of, is_chained}
use Rattle.pack_spec.specs.Volume.{attr_of, volume_of}
use Rattle.vol_model.specs.declared.contents.Attr.{Attr}
use Rattle.vol_model.specs.declared.contents.DataSet.{DataSet}
use Rattle.vol_model.specs.declared.contents.Run.{Run}
use Rattle.vol_model.specs.declared.contents.Volume.{Volume}
use Rattle.vol_model.specs.declared.refusals.Refusal.{Refusal}
use Rattle.vol_model.specs.declared.requests.Request.{Request}
use Rattle.vol_model.specs.declared.requests.SpaceUnit.{SpaceUnit}
use Rattle.vol_model.specs.declared.requests.SpaceUnit.TheVariants.{Track, Cylinder}
use Rattle.vol_model.specs.Shelf.{extend_on, is_catalog, secondary_choice, set_of, unreadable, with_extents, with_set}
use Rattle.vol_model.specs.Slots.{slots_needed}
use Rattle.vtoc_index.specs.Free.{open_slot}
use Rattle.vtoc_index.specs.Index.{IsMounted, address_in}
use Rattle.vtoc_index.specs.declared.vol.Vol.{Vol}
use Rattle.space_alloc.specs.declared.extents.Extents.{Extents}
use Rattle.space_alloc.specs.Units.{listed}
use Rattle.dadsm_ops.specs.Allocating.{AreExtents, extent_bytes, no_extent}

-- A slot holds the format 1 of a data set that isn't the catalog.
pub record HoldsSet (dscbs : List Dscb) (slot : ℕ) : Type 0 where
  pub set : F1
  pub there : slice_get dscbs slot ≡ Some (formats.F1 set)
  pub other : is_catalog set.name ≡ false

-- the body of the data set of a name can be read, on the volume of an image
abbrev pub IsReadable : List ℕ → List ℕ → Type 0
IsReadable image name = (volume : Volume) (x : DataSet) → volume_of image ≡ Ok volume → set_of name volume ≡ Some x → unreadable x.body ≡ None

-- the unit of the secondary quantity, by the flags of a set's request
abbrev pub secondary_unit : ℕ → Option SpaceUnit
secondary_unit flags = if flags / 64 == 3 then Some Cylinder else (if flags / 64 == 2 then Some Track else None)

-- the request for the secondary quantity of a set, which needn't be contiguous; none where it has no such quantity
abbrev pub secondary_request : Attr → Option Request
secondary_request attr = if attr.secondary == 0 then None
    else option_map (λ unit. record { unit = unit; primary = attr.secondary; secondary = 0; contig = false }) (secondary_unit attr.scalo)

-- the type of the extents that a set gets: data, on cylinder boundaries where its request was for cylinders
abbrev pub added_type : Attr → ℕ
added_type attr = if attr.scalo / 64 == 3 then 0x81 else 0x01

-- runs as extents after so many
abbrev pub added_extents : Geometry → ℕ → ℕ → List Run → List (List ℕ)
added_extents g kind count runs = map (λ p. extent_bytes g kind p.0 p.1) (enumerate_from count runs)

-- the field for the extent of a number, where runs are added after so many extents, and it was this
abbrev pub added_field : Geometry → ℕ → ℕ → List Run → ℕ → List ℕ → List ℕ
added_field g kind count runs k field =
    if nat_lt k count then field else option_map_or (extent_bytes g kind k) (slice_get runs (k - count)) field

-- the same of fields for the extents from a number on
abbrev pub added_fields : Geometry → ℕ → ℕ → List Run → ℕ → List (List ℕ) → List (List ℕ)
added_fields g kind count runs first fields = map (λ p. added_field g kind count runs p.0 p.1) (enumerate_from first fields)

-- the format 1 of a data set that has these runs too, with the address of its format 3
unfoldable pub f1_with : Geometry → ℕ → List Run → List ℕ → F1 → F1
f1_with g kind runs pointer f = record f {
  extents = f.extents + length runs;
  runs = added_fields g kind f.extents runs 0 f.runs;
  pointer = pointer;
}

-- the format 3 of a data set that had so many extents and has these runs too
unfoldable pub f3_with : Geometry → ℕ → ℕ → List Run → F3 → F3
f3_with g kind count runs h = record h {
  front = added_fields g kind count runs 3 h.front;
  back = added_fields g kind count runs 7 h.back;
}

-- a format 3 without an extent
abbrev pub empty_f3 : F3
empty_f3 = record { id = 0x03030303; front = replicate 4 no_extent; back = replicate 9 no_extent; pointer = replicate 5 0 }

-- no slot but this holds a format 1 that counts a pointer to this address
abbrev pub IsPointedBy : List VtocSlot → List ℕ → ℕ → Type 0
IsPointedBy slots address slot = (k : ℕ) (s : VtocSlot) (h : F1) → slice_get slots k ≡ Some s → s.content ≡ Ok (formats.F1 h) → is_chained h ≡ true → bytes_eq address h.pointer ≡ true → k ≡ slot

-- a slot of the index holds this format 3, to which the pointer of a set leads
pub record IsLedTo (v : Vol) (set : F1) (slot : ℕ) (h : F3) : Type 0 where
  pub there : slice_get v.slots.items slot ≡ Some (formats.F3 h)
  pub address : bytes_eq (address_in v slot) set.pointer ≡ true

-- A slot of the index for the format 3 of a set that gets extents, and what it holds: its own where it has one, and else an open slot without an extent.
pub record IsForFurther (v : Vol) (set : F1) (slot : ℕ) (h : F3) : Type 0 where
  pub own : 3 < set.extents → IsLedTo v set slot h
  pub opened : set.extents ≤ 3 → (open_slot v.slots.items ≡ Some slot) × (h ≡ empty_f3)

-- A slot has the format 3 of a set with the added extents: that which the set had, or a new one.
pub record HoldsFurther (v : Vol) (dscbs : List Dscb) (set : F1) (kind : ℕ) (runs : List Run) : Type 0 where
  pub slot : ℕ
  pub before : F3
  pub place : IsForFurther v set slot before
  pub there : slice_get dscbs slot ≡ Some (formats.F3 (f3_with v.geometry kind set.extents runs before))

-- Slots that hold the added extents of the set in one of them, as far as they don't stand in its format 1: with that it counts its extents and these, and it alone leads to its format 3.
pub record HoldAdded (slots : List VtocSlot) (g : Geometry) (kind : ℕ) (slot : ℕ) (set : F1) (runs : List Run) (pointer : List ℕ) : Type 0 where
  pub counted : counted_extents slots (f1_with g kind runs pointer set)
      ≡ counted_extents slots set ++ added_extents g kind set.extents runs
  pub third : is_chained (f1_with g kind runs pointer set) ≡ true
      → is_some (format_3_of slots (f1_with g kind runs pointer set)) ≡ true
  pub alone : is_chained (f1_with g kind runs pointer set) ≡ true → IsPointedBy slots pointer slot

-- a data set may get these extents: five at most, and sixteen with those that it has
pub record MayBeAdded (set : F1) (extents : Extents) : Type 0 where
  pub few : extents.n ≤ 5
  pub total : set.extents + length (listed extents) ≤ 16
  pub written : AreExtents (listed extents)

-- A data set of a volume may have these tracks too: they are the choice for its secondary quantity, and its extents are few enough.
pub record HasMore (set : F1) (volume : Volume) (runs : List Run) : Type 0 where
  pub chosen : secondary_choice volume (attr_of set) ≡ Some runs
  pub few : set.extents + length runs ≤ 16

-- the slots that a set takes besides, where it has so many extents and gets these
abbrev pub further_slots : ℕ → List Run → ℕ
further_slots count runs = if nat_le count 3 && nat_lt 3 (count + length runs) then 1 else 0

-- A data set may have these tracks too on the volume of an image, and the volume has the slots that it needs then.
pub record HasExtension (image : List ℕ) (set : F1) (runs : List Run) : Type 0 where
  pub volume : Volume
  pub stands : volume_of image ≡ Ok volume
  pub has : HasMore set volume runs
  pub fits : slots_needed (with_set volume set.name (with_extents runs)) ≤ volume.slots

-- the extension of a data set of the index is refused so on each volume that this is the index of, unless it is the catalog or its body can't be read
abbrev pub IsRefused : Vol → F1 → Refusal → Type 0
IsRefused v set r = (image : List ℕ) (slot : ℕ) (volume : Volume) → IsMounted image v → slice_get v.slots.items slot ≡ Some (formats.F1 set) → is_catalog set.name ≡ false → IsReadable image set.name → volume_of image ≡ Ok volume
    → extend_on (record { bytes = set.name }) volume ≡ Err r
