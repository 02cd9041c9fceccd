-- The data sets in an index of a VTOC, and the extents in their DSCBs (System Control Blocks GC28-6628).
use Rattle.std.specs.Prelude.{◌≡◌, ℕ, ◌&&◌, Bool, true, List, [], ◌++◌, length, map, nat_lt, slice_get, sum_by, if◌then◌else◌, Option, Some, None, Ok}
use Rattle.std.specs.Str.{bytes_eq}
use Rattle.ckd_image.specs.declared.header.Geometry.{Geometry}
use Rattle.dscb_codec.specs.declared.Dscb.{Dscb}
use Rattle.dscb_codec.specs.declared.Dscb.TheVariants as formats
use Rattle.dscb_codec.specs.declared.F1.{F1}
use Rattle.dscb_codec.specs.declared.F3.{F3}
use Rattle.pack_spec.specs.Blocks.{data_tracks, owned_tracks, seq_body}
use Rattle.pack_spec.specs.Directories.{part_body}
use Rattle.pack_spec.specs.Rules.{counted_extents, has_extents, is_f3}
use Rattle.pack_spec.specs.Slots.{slots_of_vtoc}
use Rattle.pack_spec.specs.Volume.{volume_by}
use Rattle.pack_spec.specs.Vtoc.{run_of_extent}
use Rattle.vol_model.specs.declared.contents.Attr.{Attr}
use Rattle.vol_model.specs.declared.contents.Body.{Body}
use Rattle.vol_model.specs.declared.contents.Body.TheVariants as bodies
use Rattle.vol_model.specs.declared.contents.DataSet.{DataSet}
use Rattle.vol_model.specs.declared.contents.Run.{Run}
use Rattle.vol_model.specs.declared.contents.Volume.{Volume}
use Rattle.vol_model.specs.Shelf.{is_catalog, is_partitioned, is_sequential}
use Rattle.vtoc_index.specs.Index.{IsMounted, address_in}
use Rattle.vtoc_index.specs.declared.vol.Vol.{Vol}
use Rattle.vtoc_sets.specs.declared.sets.BodyKind.{BodyKind}
use Rattle.vtoc_sets.specs.declared.sets.BodyKind.TheVariants as kinds

-- a slot is the format 3 to which the pointer of a format 1 leads
abbrev pub leads_to : Vol → F1 → ℕ → Dscb → Bool
leads_to v f slot d = bytes_eq (address_in v slot) f.pointer && is_f3 (Ok d)

-- the thirteen extents of a format 3, if there is one
abbrev pub rows_of : Option F3 → List (List ℕ)
rows_of None = []
rows_of (Some f) = f.front ++ f.back

-- the runs that a data set counts, in an image by its index
abbrev pub extents_in : List ℕ → Vol → F1 → List Run
extents_in image v f = map (run_of_extent v.geometry) (counted_extents (slots_of_vtoc image v.geometry v.vtoc) f)

-- A format 1 of a mounted image, whose extents are runs of its tracks.
pub record HasSet (image : List ℕ) (v : Vol) (f : F1) : Type 0 where
  pub mounted : IsMounted image v
  pub extents : has_extents v.geometry (slots_of_vtoc image v.geometry v.vtoc) f ≡ true

-- A data set of a mounted image by its format 1, which stands in a slot of the index.
pub record IsSetIn (image : List ℕ) (v : Vol) (f : F1) : Type 0 where
  pub set : HasSet image v f
  pub slot : ℕ
  pub dscb : slice_get v.slots.items slot ≡ Some (formats.F1 f)

-- the tracks of a data set, in relative order
abbrev pub owned_in : List ℕ → Vol → F1 → List ℕ
owned_in image v f = owned_tracks (extents_in image v f)

-- the bytes of the tracks outside the VTOC
abbrev pub data_in : List ℕ → Vol → List (List ℕ)
data_in image v = data_tracks image v.geometry v.vtoc

-- the volume of an image, by its index
abbrev pub volume_in : List ℕ → Vol → Volume
volume_in image v = volume_by image v.geometry v.vtoc

-- the slots that these data sets take: one each, and one more for more than three extents
abbrev pub slots_taken : List DataSet → ℕ
slots_taken sets = sum_by (λ (x : DataSet). if nat_lt 3 (length x.extents) then 2 else 1) sets

-- the slots that a data set takes with its format 1; another DSCB takes none for itself
abbrev pub TakesSlots : List ℕ → Vol → Dscb → ℕ → Type 0
TakesSlots image v (formats.F1 f) n = HasSet image v f → n ≡ (if nat_lt 3 (length (extents_in image v f)) then 2 else 1)
TakesSlots image v d n = n ≡ 0

-- what the body of a set of this name and these attributes is
abbrev pub kind_by : List ℕ → Attr → BodyKind
kind_by name attr =
    if is_catalog name then kinds.Catalog
    else (if is_sequential name attr then kinds.Seq
    else (if is_partitioned name attr then kinds.Part else kinds.Other))

-- the body of a set of this kind with these extents and this LSTAR, where the data tracks are these
abbrev pub body_by : BodyKind → Geometry → List (List ℕ) → List Run → List ℕ → Body
body_by kinds.Seq g tracks extents lstar = seq_body g tracks extents lstar
body_by kinds.Part g tracks extents lstar = part_body g tracks extents lstar
body_by kinds.Catalog g tracks extents lstar = bodies.Unreadable 0
body_by kinds.Other g tracks extents lstar = bodies.Other
