-- What a write of one slot of a VTOC leaves of the image and of the index, in this project's profile.
use Rattle.std.specs.Prelude.{◌≡◌, ◌⊎◌, ℕ, ◌≤◌, List, [], length, Some, Ok, Result, OnOk, OnErr, slice_set}
use Rattle.dscb_codec.specs.declared.Dscb.{Dscb}
use Rattle.dscb_codec.specs.Layout.{decoded}
use Rattle.ckd_image.specs.declared.header.Geometry.{Geometry}
use Rattle.stop_model.specs.Files.{File, AfterWrite, patched}
use Rattle.stop_model.specs.Moments.{Meaning}
use Rattle.pack_spec.specs.Slots.{slots_on}
use Rattle.pack_spec.specs.declared.slot.VtocSlot.{VtocSlot}
use Rattle.track_records.specs.Buffers.{Buffer}
use Rattle.track_records.specs.Written.{StandsOn}
use Rattle.vtoc_index.specs.declared.vol.Vol.{Vol}
use Rattle.vtoc_index.specs.Index.{IsIndexOf, IsPut, place_of_slot}

-- the buffer holds no record, or those of its track of the image
abbrev pub IsHeld : List ℕ → Buffer → Type 0
IsHeld image b = (b.records ≡ []) ⊎ StandsOn image b

-- all records of a track are slots, and the one of this number is there
pub record HasSlot (image : List ℕ) (g : Geometry) (track r : ℕ) : Type 0 where
  pub found : List VtocSlot
  pub slots : slots_on image g track ≡ Some found
  pub there : r ≤ length found

-- an index that differs from another in its buffer alone, which is of the same unit
pub record SameBut (old new : Vol) : Type 0 where
  pub others : new ≡ record old { buf = new.buf }
  pub geometry : new.buf.geometry ≡ old.buf.geometry
  pub unit : new.buf.unit ≡ old.buf.unit

-- an index in which one slot holds this DSCB, and that else differs from another in its buffer alone
pub record IsReplaced (slot : ℕ) (d : Dscb) (old new : Vol) : Type 0 where
  pub items : new.slots.items ≡ slice_set old.slots.items slot d
  pub others : new ≡ record old { slots = new.slots; buf = new.buf }
  pub geometry : new.buf.geometry ≡ old.buf.geometry
  pub unit : new.buf.unit ≡ old.buf.unit

-- where a slot is put, the index holds the DSCB, and after an error what it held
pub record IsWith {T E : Type 0} (slot : ℕ) (d : Dscb) (old new : Vol)
    (result : Result T E) : Type 0 where
  pub done : OnOk result (IsReplaced slot d old new)
  pub failed : OnErr result (SameBut old new)

-- A DSCB is put into a slot by one write of its bytes at the slot's place.
-- Where the write is kept, the image has that slot and is else as before; where it is done, the index is the image's.
pub record AfterPut {T E : Type 0} (name : List ℕ) (v : Vol) (slot : ℕ) (d : Dscb) (v' : Vol)
    (image put : List ℕ) (old new : Meaning (List File)) (result : Result T E) : Type 0 where
  pub bytes : List ℕ
  pub dscb : decoded bytes ≡ Ok d
  pub size : length bytes ≡ 140
  pub write : AfterWrite name (place_of_slot v slot) bytes old new result
  pub kept : IsPut v slot d image (patched image (place_of_slot v slot) bytes)
  pub done : OnOk result (IsPut v slot d image put × IsIndexOf put v')
