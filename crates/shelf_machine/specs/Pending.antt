-- What a writer put on a pack that no sync has made durable, in this project's profile.
use Rattle.std.specs.Prelude.{◌≡◌, ◌≢◌, ◌<◌, ℕ, true, false, List, [], ◌++◌, length, slice_get, Option, Some, None, Result, OnOk, OnErr}
use Rattle.std.specs.Option.{option_map_or}
use Rattle.dscb_codec.specs.declared.Dscb.{Dscb}
use Rattle.dscb_codec.specs.declared.Dscb.TheVariants as formats
use Rattle.dscb_codec.specs.declared.F1.{F1}
use Rattle.ebcdic_names.specs.declared.names.Dsn.{Dsn}
use Rattle.hall_core.specs.Facts.{Attached, unit_of}
use Rattle.stop_model.specs.Files.{File}
use Rattle.stop_model.specs.Moments.{ElapsesExactly, IsDurable, LeavesSame, LeftNow, Meaning}
use Rattle.pack_spec.specs.Label.{records_on}
use Rattle.pack_spec.specs.Rules.{has_extents}
use Rattle.pack_spec.specs.Slots.{slots_of_vtoc}
use Rattle.pack_spec.specs.Volume.{attr_of}
use Rattle.vol_model.specs.declared.answers.Mode.{Mode}
use Rattle.vol_model.specs.declared.contents.Body.TheVariants.{Seq}
use Rattle.vol_model.specs.Places.{Content, is_before, placed}
use Rattle.vol_model.specs.Shelf.{blocks_of, fits_mode, is_catalog, put_first}
use Rattle.vtoc_index.specs.declared.vol.Vol.{Vol}
use Rattle.vtoc_index.specs.Index.{first_named}
use Rattle.free_rebuild.specs.Repairs.{image_named}
use Rattle.seq_access.specs.declared.writer.Writer.{Writer as BlockWriter}
use Rattle.seq_access.specs.Bodies.{HasBlocks, IsWritable, body_of_set, last_in, owned_in}
use Rattle.seq_access.specs.Writing.{AreSpared, body_so_far, front_in, has_put, puts_in}
use Rattle.shelf_machine.specs.Fronts.{BeginsWell, firsts}
use Rattle.shelf_machine.specs.declared.writer.Writer.{Writer}

-- A writer of blocks stands on the mounted image of an index by this format 1, said by clauses of which each has one proof: see `writes_by`.
pub record IsWritingBy (image : List ℕ) (v : Vol) (f : F1) (w : BlockWriter) : Type 0 where
  pub extents : has_extents v.geometry (slots_of_vtoc image v.geometry v.vtoc) f ≡ true
  pub writable : IsWritable (body_of_set image v f)
  pub front : HasBlocks (front_in image v f) (blocks_of (front_in image v f))
  pub so_far : HasBlocks (body_so_far image v f w) (blocks_of (front_in image v f)
      ++ placed v.geometry.device (Seq (blocks_of (front_in image v f))) (puts_in image v f w))
  pub begun : has_put w ≡ false → w.last ≡ last_in image v f
  pub some : has_put w ≡ true → puts_in image v f w ≢ []
  pub behind : is_before w.last (last_in image v f) ≡ false
  pub ended : has_put w ≡ true → (track : ℕ) → slice_get (owned_in image v f) w.last.tt ≡ Some track
      → records_on image v.geometry None track ≡ records_on image v.geometry (Some w.last.r) track

-- what a writer put after the set whose format 1 this is
abbrev pub puts_by : List ℕ → Vol → BlockWriter → Option Dscb → List Content
puts_by image v w (Some (formats.F1 f)) = puts_in image v f w
puts_by image v w _ = []

-- A writer stands on an image by the format 1 in its slot: that is a set of the kind that its mode needs, and what it put begins with what goes in front.
pub record IsWriterOn (image : List ℕ) (v : Vol) (w : Writer) : Type 0 where
  pub fits : (f : F1) → slice_get v.slots.items w.inner.slot ≡ Some (formats.F1 f)
      → fits_mode w.mode f.name (attr_of f) ≡ true
  pub first : (f : F1) → slice_get v.slots.items w.inner.slot ≡ Some (formats.F1 f)
      → put_first w.mode (body_of_set image v f) ≡ firsts w.owes_end_of_file
  pub begins : (f : F1) → slice_get v.slots.items w.inner.slot ≡ Some (formats.F1 f)
      → BeginsWell w.owes_end_of_file (puts_in image v f w.inner)
  pub writing : (f : F1) → slice_get v.slots.items w.inner.slot ≡ Some (formats.F1 f)
      → IsWritingBy image v f w.inner

-- what a stop leaves differs from what is read after the last record of a writer's set alone, in the image of this name
abbrev pub LeavesSpared : List ℕ → Meaning (List File) → Vol → Writer → Type 0
LeavesSpared name m v w = (f : F1) → slice_get v.slots.items w.inner.slot ≡ Some (formats.F1 f)
    → (files : List File) → m.left files
    → AreSpared name v f (last_in (image_named m.state name) v f) m.state files

-- no write is pending but what this writer put, whether it is open or was abandoned; and none where there is no writer
abbrev pub IsPendingBy : Meaning (List File) → List Attached → List Vol → Option Writer → Type 0
IsPendingBy m attached vols None = IsDurable m
IsPendingBy m attached vols (Some w) = (v : Vol) → slice_get vols w.v ≡ Some v →
    let name = (unit_of attached v.unit).name in
    IsWriterOn (image_named m.state name) v w × LeavesSpared name m v w

-- a writer that put nothing yet stands on an image, and on the images of packs
abbrev pub IsBegunAt : List ℕ → Vol → Writer → Type 0
IsBegunAt image v w = IsWriterOn image v w
    × (puts_by image v w.inner (slice_get v.slots.items w.inner.slot) ≡ [])

abbrev pub IsBegunOn : List File → List Attached → List Vol → Writer → Type 0
IsBegunOn files attached vols w = (v : Vol) → slice_get vols w.v ≡ Some v
    → IsBegunAt (image_named files (unit_of attached v.unit).name) v w

-- a writer that is open no more
abbrev pub closed : Option Writer → Option Writer
closed None = None
closed (Some w) = Some (record w { is_open = false })

-- the slot of a writer is that of its data set, which isn't the catalog
abbrev pub IsInSlot : Vol → Writer → Type 0
IsInSlot v w = (first_named w.dsn.bytes v.slots.items ≡ Some w.inner.slot)
    × (is_catalog w.dsn.bytes ≡ false)

-- there is a pack of the writer's number, with the writer's slot
abbrev pub HasSlot : List Vol → Option Writer → Type 0
HasSlot vols None = Unit {0}
HasSlot vols (Some w) = (w.v < length vols)
    × ((v : Vol) → slice_get vols w.v ≡ Some v → IsInSlot v w)

-- A writer that is open for this mode on the data set of this name on the pack of this number.
pub record IsFor (v : ℕ) (dsn : Dsn) (mode : Mode) (w : Writer) : Type 0 where
  pub number : w.v ≡ v
  pub name : w.dsn ≡ dsn
  pub purpose : w.mode ≡ mode
  pub opened : w.is_open ≡ true

-- what a writer put on its pack
unfoldable pub puts_on : List File → List Attached → List Vol → Writer → List Content
puts_on files attached vols w = option_map_or
    (λ (v : Vol). puts_by (image_named files (unit_of attached v.unit).name) v w.inner
    (slice_get v.slots.items w.inner.slot)) (slice_get vols w.v) []

-- A sync, or none where no write is pending: what is read is durable then, and a stop leaves what one left before.
pub record Settles {T E : Type 0} (old new : Meaning (List File)) (result : Result T E) : Type 0 where
  pub state : new.state ≡ old.state
  pub printed : new.printed ≡ old.printed
  pub done : OnOk result (IsDurable new)
  pub failed : OnErr result (LeavesSame old new)
  pub time : ElapsesExactly old new (LeftNow old)
