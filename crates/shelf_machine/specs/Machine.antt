-- The shelf that the machine over several images holds, and what it promises besides.
use Rattle.std.specs.Prelude.{◌≡◌, ℕ, ◌≤◌, Bool, false, List, [], ◌∷◌, ◌++◌, length, map, replicate, slice_get, Option, Some, None, Result, Ok, Err}
use Rattle.ckd_image.specs.Device.{row_of}
use Rattle.ckd_image.specs.declared.header.Geometry.{Geometry}
use Rattle.hall_core.specs.Facts.{Attached, Facts, unit_of}
use Rattle.stop_model.specs.Files.{File}
use Rattle.stop_model.specs.Moments.{Meaning}
use Rattle.pack_spec.specs.Shelf.{UnitRefusal, shelf_of}
use Rattle.vol_model.specs.Calls.{Bytes, Files, Known, Status}
use Rattle.vol_model.specs.Writing.{OpenWriter, begun}
use Rattle.vol_model.specs.declared.answers.Mode.TheVariants.{Fill}
use Rattle.vol_model.specs.declared.contents.Shelf.{Shelf}
use Rattle.vol_model.specs.declared.contents.Volume.{Volume}
use Rattle.free_rebuild.specs.Repairs.{image_named}
use Rattle.vtoc_index.specs.declared.vol.Vol.{Vol}
use Rattle.vtoc_index.specs.Index.{IsOfUnit}
use Rattle.vtoc_index.specs.Names.{AreByName, name_at}
use Rattle.shelf_machine.specs.Opening.{AreApart, AreSafe, images_named, names_of}
use Rattle.shelf_machine.specs.Fronts.{behind_first}
use Rattle.shelf_machine.specs.Pending.{puts_on}
use Rattle.shelf_machine.specs.declared.writer.Writer.{Writer}
use Rattle.pack_machine.specs.Ready.{IsKeptSettled}

-- the shelf, or one without volumes where there is none
abbrev pub shelf_or_none : Result Shelf UnitRefusal → Shelf
shelf_or_none (Ok shelf) = shelf
shelf_or_none (Err r) = record { volumes = [] }

-- the shelf of the images under names
abbrev pub shelf_under : List (List ℕ) → List File → Shelf
shelf_under names files = shelf_or_none (shelf_of (images_named files names))

-- the units of indexes
abbrev pub units_of : List Vol → List ℕ
units_of vols = map (λ v. v.unit) vols

-- their serials
abbrev pub serials_of : List Vol → List (List ℕ)
serials_of vols = map (λ v. v.serial.bytes) vols

-- a geometry in numbers
abbrev pub numbers_of : Geometry → List ℕ
numbers_of g = (row_of g.device).type_byte ∷ g.cylinders ∷ g.track_size ∷ []

-- the geometry and the VTOC of each index
abbrev pub plans_of : List Vol → List (List ℕ)
plans_of [] = []
plans_of (v ∷ vols) = numbers_of v.geometry ∷ (v.vtoc.start ∷ v.vtoc.len ∷ []) ∷ plans_of vols

-- the name and the size of each unit
abbrev pub texts_of : List Attached → List (List ℕ)
texts_of [] = []
texts_of (u ∷ us) = u.name ∷ (u.size ∷ []) ∷ texts_of us

-- what a machine stands on: which hall it is, the units of its packs, the geometry and the VTOC of each, and all units
abbrev pub base_of : Facts → List Vol → List (List ℕ)
base_of facts vols = facts.references ∷ units_of vols ∷ plans_of vols ++ texts_of facts.units

-- whether a writer is there that wasn't abandoned
abbrev pub is_open_in : Option Writer → Bool
is_open_in (Some w) = w.is_open
is_open_in None = false

-- what a machine always tells, by whether it is sound, its writer, its count, its hall's facts and its indexes
abbrev pub status_with : Bool → Option Writer → ℕ → Facts → List Vol → Status
status_with is_sound writer done facts vols = record { is_sound = is_sound; is_open = is_open_in writer; done = done; base = base_of facts vols; dev_faults = facts.dev_faults; print_faults = facts.print_faults }

-- a writer and all that it placed, by the image of its pack
abbrev pub placed_in : List File → List Attached → List Vol → Writer → OpenWriter
placed_in files attached vols w = record {
  target = record { v = w.v; dsn = w.dsn; mode = w.mode };
  puts = puts_on files attached vols w;
}

-- the writer and what was put by it: all that it placed, but for what goes in front; where none is open, some writer
abbrev pub writer_in : List File → List Attached → List Vol → Option Writer → OpenWriter
writer_in files attached vols (Some w) = record {
  target = record { v = w.v; dsn = w.dsn; mode = w.mode };
  puts = behind_first w.owes_end_of_file (puts_on files attached vols w);
}
writer_in files attached vols None = begun (record { v = 0; dsn = record { bytes = replicate 44 0x40 }; mode = Fill })

-- The indexes are those of attached units, whose names differ, as do the serials; there are at most 255.
pub record AreIndexes (attached : List Attached) (vols : List Vol) : Type 0 where
  pub each : (k : ℕ) (v : Vol) → slice_get vols k ≡ Some v → IsOfUnit attached v
  pub names : AreApart (names_of attached (units_of vols))
  pub serials : AreApart (serials_of vols)
  pub few : length vols ≤ 255

-- the data sets of each index stand in the order of their names
abbrev pub AreInOrder : List Vol → Type 0
AreInOrder vols = (k : ℕ) (v : Vol) → slice_get vols k ≡ Some v
    → AreByName (name_at v.slots.items) v.by_name.items

abbrev pub AreKept : List File → List Attached → List Vol → Type 0
AreKept files attached vols = (k : ℕ) (v : Vol) → slice_get vols k ≡ Some v
    → IsKeptSettled (image_named files (unit_of attached v.unit).name) v

-- a promise on files alone
abbrev pub ByFiles : (ℕ → List File → Type 0) → ℕ → Known → Type 0
ByFiles promise t (Files files) = promise t files
ByFiles promise t (Bytes bytes) = Unit {0}

-- volumes have the geometry and the VTOC of these indexes
abbrev pub HavePlans : List Vol → List Volume → Type 0
HavePlans vols volumes = (k : ℕ) (v : Vol) (volume : Volume) → slice_get vols k ≡ Some v
    → slice_get volumes k ≡ Some volume → (volume.geometry ≡ v.geometry) × (volume.vtoc ≡ v.vtoc)

-- Since a moment every stop leaves images that are safe, by the volumes of the images in these files.
pub record StaysSafe (names : List (List ℕ)) (vols : List Vol) (m : Meaning (List File)) (t : ℕ)
    (files : List File) (volumes : List Volume) : Type 0 where
  pub plans : HavePlans vols volumes
  pub stops : (j : List File) (p : List ℕ) → m.left_since t j p → AreSafe names volumes files j

-- the same, where the images in these files stand for a shelf
abbrev pub KeepsSafe : List (List ℕ) → List Vol → Meaning (List File) → ℕ → List File → Type 0
KeepsSafe names vols m t files = (shelf : Shelf) → shelf_of (images_named files names) ≡ Ok shelf
    → StaysSafe names vols m t files shelf.volumes

-- since that moment every stop leaves just these files
abbrev pub LeavesJust : Meaning (List File) → ℕ → List File → Type 0
LeavesJust m t files = (j : List File) (p : List ℕ) → m.left_since t j p → j ≡ files
