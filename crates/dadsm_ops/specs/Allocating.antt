-- The DSCBs of a new data set (System Control Blocks GC28-6628).
use Rattle.std.specs.Prelude.{◌≡◌, ◌≢◌, ◌⊎◌, ℕ, ◌+◌, ◌-◌, ◌*◌, ◌^◌, ◌≤◌, ◌<◌, nat_lt, not, false, Bool, IsTrue, List, [], ◌∷◌, ◌++◌, count_by, drop, length, map, replicate, slice_get, take, unwrap_or, vec_len, Some, Result, Ok, Err, OnOk, ◌==◌, if◌then◌else◌}
use Rattle.std.specs.List.{range_with_len}
use Rattle.std.specs.Option.{option_map_or}
use Rattle.std.specs.Vec.{vec_capacity}
use Rattle.ckd_image.specs.declared.device.DiskType.{DiskType}
use Rattle.ckd_image.specs.declared.header.Geometry.{Geometry}
use Rattle.dscb_codec.specs.declared.Dscb.{Dscb}
use Rattle.dscb_codec.specs.declared.Dscb.TheVariants as formats
use Rattle.dscb_codec.specs.declared.F1.{F1}
use Rattle.dscb_codec.specs.declared.F3.{F3}
use Rattle.pack_spec.specs.New.{track_address}
use Rattle.hall_core.specs.declared.hall.Hall.{Ghosts}
use Rattle.hall_core.specs.Facts.{unit_of}
use Rattle.stop_model.specs.Files.{File}
use Rattle.stop_model.specs.Moments.{Meaning, IsDurable, Elapses}
use Rattle.ebcdic_names.specs.declared.names.Dsn.{Dsn}
use Rattle.free_rebuild.specs.Chain.{is_open}
use Rattle.free_rebuild.specs.Repairs.{image_named}
use Rattle.pack_spec.specs.declared.slot.VtocSlot.{VtocSlot}
use Rattle.pack_spec.specs.Alike.{IsIn}
use Rattle.pack_spec.specs.Blocks.{owned_tracks}
use Rattle.pack_spec.specs.Label.{track_bytes, tracks_of}
use Rattle.pack_spec.specs.Settled.{is_used}
use Rattle.space_alloc.specs.Edits.{cut_all}
use Rattle.vol_model.specs.declared.requests.Request.{Request}
use Rattle.vol_model.specs.Places.{directory_end, tracks_in}
use Rattle.vol_model.specs.Shelf.{has_set, is_partitioned, lacks_room, with_new}
use Rattle.vol_model.specs.Slots.{slots_needed}
use Rattle.vol_model.specs.Space.{choice}
use Rattle.free_rebuild.specs.Updates.{IsMarkedFor}
use Rattle.pack_spec.specs.Volume.{volume_of}
use Rattle.vtoc_index.specs.Index.{IsMounted}
use Rattle.vtoc_index.specs.Last.{lstar_of}
use Rattle.vtoc_index.specs.Names.{AreByName, name_at}
use Rattle.vtoc_index.specs.declared.vol.Vol.{Vol}
use Rattle.vol_model.specs.declared.contents.Attr.{Attr}
use Rattle.vol_model.specs.declared.contents.Volume.{Volume}
use Rattle.vol_model.specs.declared.refusals.Refusal.{Refusal}
use Rattle.vol_model.specs.declared.contents.Run.{Run}
use Rattle.vol_model.specs.declared.requests.SpaceUnit.{SpaceUnit}
use Rattle.vol_model.specs.declared.requests.SpaceUnit.TheVariants.{Track, Cylinder}
use Rattle.dadsm_ops.specs.Formatting.{AreSpared, IsFormatted}

-- Runs that can be written as extents: each has a track, and none past track 65,534.
pub record AreExtents (runs : List Run) : Type 0 where
  pub each : (k : ℕ) (r : Run) → slice_get runs k ≡ Some r
      → (1 ≤ r.len) × (r.start + r.len ≤ 65535)

-- Runs whose tracks are on a pack, each once.
pub record AreTracksOf (g : Geometry) (runs : List Run) : Type 0 where
  pub inside : (k t : ℕ) → slice_get (owned_tracks runs) k ≡ Some t → t < tracks_of g
  pub apart : (j k t : ℕ) → slice_get (owned_tracks runs) j ≡ Some t
      → slice_get (owned_tracks runs) k ≡ Some t → j ≡ k

-- what is left of runs without the tracks of others, one after the other
abbrev pub cut_by : List Run → List Run → List Run
cut_by [] runs = runs
cut_by (e ∷ es) runs = cut_by es (cut_all e.start (e.start + e.len) runs)

-- the type of an extent: data, on cylinder boundaries where cylinders were asked for
abbrev pub extent_type : SpaceUnit → ℕ
extent_type Track = 0x01
extent_type Cylinder = 0x81

-- an extent: its type, its number in the set, and CCHH of its first track and of its last
abbrev pub extent_bytes : Geometry → ℕ → ℕ → Run → List ℕ
extent_bytes g kind number run =
    kind ∷ number ∷ (track_address g run.start ++ track_address g (run.start + run.len - 1))

-- a field without an extent
abbrev pub no_extent : List ℕ
no_extent = replicate 10 0

-- the field for the extent of a number, if there is one
abbrev pub extent_field : Geometry → ℕ → List Run → ℕ → List ℕ
extent_field g kind runs k = option_map_or (extent_bytes g kind k) (slice_get runs k) no_extent

-- so many fields for extents, from that of a number on
abbrev pub extent_fields : Geometry → ℕ → List Run → ℕ → ℕ → List (List ℕ)
extent_fields g kind runs first count = map (extent_field g kind runs) (range_with_len first count)

-- LSTAR of a data set without a member or block: the place of the record that ends its directory of so many blocks, or zeros
abbrev pub new_lstar : DiskType → ℕ → List ℕ
new_lstar device dir = if dir == 0 then replicate 3 0 else lstar_of (directory_end device dir)

-- the format 1 of a data set without a member or block, with so many directory blocks: its name, the serial of its volume, its attributes, its first three extents, and the address of its format 3
unfoldable pub new_f1 : List ℕ → List ℕ → Attr → Geometry → ℕ → List Run → List ℕ → ℕ → F1
new_f1 name serial attr g kind runs pointer dir = record {
  name = name;
  serial = serial;
  volseq = attr.volseq;
  created = attr.created;
  expires = attr.expires;
  extents = length runs;
  dir_used = 0;
  res61 = replicate 1 0;
  system = attr.system;
  res75 = replicate 7 0;
  dsorg = attr.dsorg;
  recfm = attr.recfm;
  optcd = attr.optcd;
  blksize = attr.blksize;
  lrecl = attr.lrecl;
  keylen = attr.keylen;
  rkp = attr.rkp;
  indicators = attr.indicators;
  scalo = attr.scalo * 2 ^ 24 + attr.secondary;
  lstar = new_lstar g.device dir;
  balance = 0;
  res103 = replicate 2 0;
  runs = extent_fields g kind runs 0 3;
  pointer = pointer;
}

-- the format 3 of a data set: its extents after the first three
unfoldable pub new_f3 : Geometry → ℕ → List Run → F3
new_f3 g kind runs = record {
  id = 0x03030303;
  front = extent_fields g kind runs 3 4;
  back = extent_fields g kind runs 7 9;
  pointer = replicate 5 0;
}

-- The write that decides an operation on the volume of a marked image, made durable: a stop leaves the files as before, or an image that is marked and stands for the volume after it, with the VTOC alone changed.
pub record Decides {T E : Type 0} (name : List ℕ) (operation : Volume → Result Volume Refusal)
    (v : Vol) (old new : Meaning (List File)) (result : Result T E) : Type 0 where
  pub volume : Volume
  pub before : volume_of (image_named old.state name) ≡ Ok volume
  pub after : Volume
  pub step : operation volume ≡ Ok after
  pub geometry : after.geometry ≡ volume.geometry
  pub vtoc : after.vtoc ≡ volume.vtoc
  pub decided : OnOk result (IsMarkedFor name after old.state new.state)
  pub index : OnOk result (IsMounted (image_named new.state name) v)
  pub durable : OnOk result (IsDurable new)
  pub printed : new.printed ≡ old.printed
  pub moments : Elapses old new (λ files p. ((files ≡ old.state)
      ⊎ IsMarkedFor name after old.state files) × (p ≡ old.printed))

-- A slot of this address holds the format 3 of a new set, and no format 1 leads to it.
pub record HasFurther (slots : List VtocSlot) (g : Geometry) (kind : ℕ) (runs : List Run)
    (pointer : List ℕ) : Type 0 where
  pub number : ℕ
  pub slot : VtocSlot
  pub there : slice_get slots number ≡ Some slot
  pub address : slot.address ≡ pointer
  pub content : slot.content ≡ Ok (formats.F3 (new_f3 g kind runs))
  pub unused : is_used slots slot ≡ false

-- where a new set has more than three extents, there is such a slot
abbrev pub HasFurtherIfMany : List VtocSlot → Geometry → ℕ → List Run → List ℕ → Type 0
HasFurtherIfMany slots g kind runs pointer = 3 < length runs → HasFurther slots g kind runs pointer

-- so many directory blocks are none for a partitioned set, or some for another
abbrev pub is_wrong : Dsn → Attr → ℕ → Bool
is_wrong dsn attr dir =
    if dir == 0 then is_partitioned dsn.bytes attr else not (is_partitioned dsn.bytes attr)

-- A new set may have these tracks: no set of the volume has its name, it has a directory if its organization needs one, and they are the choice for its request.
pub record HasChoice (dsn : Dsn) (attr : Attr) (q : Request) (dir : ℕ) (volume : Volume)
    (runs : List Run) : Type 0 where
  pub absent : has_set volume dsn.bytes ≡ false
  pub right : is_wrong dsn attr dir ≡ false
  pub chosen : choice volume q.unit q.contig q.primary ≡ Some runs

-- the slots that a new set takes
abbrev pub own_slots : List Run → ℕ
own_slots runs = if nat_lt 3 (length runs) then 2 else 1

-- how many slots may take a DSCB while an update is under way
abbrev pub open_slots : List Dscb → ℕ
open_slots dscbs = count_by is_open (drop 2 dscbs)

-- A new set may have these tracks on the volume of an image, which take its directory, and the volume has the slots that it needs then.
pub record HasPlan (image : List ℕ) (dsn : Dsn) (attr : Attr) (q : Request) (dir : ℕ)
    (runs : List Run) : Type 0 where
  pub volume : Volume
  pub stands : volume_of image ≡ Ok volume
  pub has : HasChoice dsn attr q dir volume runs
  pub fits : slots_needed (with_new dsn attr q dir volume runs) ≤ volume.slots
  pub roomy : lacks_room volume.geometry.device dsn.bytes dir (tracks_in runs) ≡ false

-- one of these slots holds this DSCB
abbrev pub HoldsDscb : List Dscb → Dscb → Type 0
HoldsDscb dscbs d = (slot : ℕ) × (slice_get dscbs slot ≡ Some d)

-- no slot holds a data set of this name
abbrev pub IsAbsent : List ℕ → List Dscb → Type 0
IsAbsent name dscbs = (slot : ℕ) → name_at dscbs slot ≢ Some name

-- slots hold data sets of the same names
abbrev pub HaveSameNames : List Dscb → List Dscb → Type 0
HaveSameNames before after = (slot : ℕ) → name_at after slot ≡ name_at before slot

-- of the tracks of a new set those that are written for its directory of so many blocks: any, or none where it has none
abbrev pub directory_runs : ℕ → List Run → List Run
directory_runs dir runs = if dir == 0 then [] else runs

-- the tracks of a new set hold its directory of so many blocks, if it has one
abbrev pub HasDirectory : List ℕ → Geometry → List Run → ℕ → Type 0
HasDirectory image g runs dir = 1 ≤ dir → (k : ℕ) → k ≤ (directory_end g.device dir).tt
    → IsFormatted image g runs dir k

-- The directory of a new set is written on its tracks, which nothing owns, and made durable, or nothing is written where it has none: at each stop the marked image stands for the same volume. Once it is done the index is the image's.
pub record PutsDirectory {T E : Type 0} (name : List ℕ) (runs : List Run) (dir : ℕ) (v : Vol)
    (old new : Meaning (List File)) (result : Result T E) : Type 0 where
  pub volume : Volume
  pub before : volume_of (image_named old.state name) ≡ Ok volume
  pub spared : OnOk result (AreSpared name volume (directory_runs dir runs) old.state new.state)
  pub tracks : OnOk result (HasDirectory (image_named new.state name) v.geometry runs dir)
  pub index : OnOk result (IsMounted (image_named new.state name) v)
  pub durable : OnOk result (IsDurable new)
  pub printed : new.printed ≡ old.printed
  pub moments : Elapses old new (λ files p.
      AreSpared name volume (directory_runs dir runs) old.state files × (p ≡ old.printed))

-- Images that differ in the tracks of a VTOC and of runs alone.
pub record DifferBeside (g : Geometry) (vtoc : Run) (runs : List Run) (before after : List ℕ)
    : Type 0 where
  pub size : length after ≡ length before
  pub header : take 512 after ≡ take 512 before
  pub tracks : (track : ℕ) → ¬ IsIn vtoc track
      → ((k : ℕ) → slice_get (owned_tracks runs) k ≢ Some track)
      → track_bytes after g track ≡ track_bytes before g track

-- the tracks that are written for the directory of a new set on a volume: those that are chosen for the set, if it has a directory
abbrev pub new_tracks : {E : Type 0} → Request → ℕ → Result Volume E → List Run
new_tracks q dir (Ok volume) =
    directory_runs dir (unwrap_or (choice volume q.unit q.contig q.primary) [])
new_tracks q dir (Err e) = []

-- images differ in the tracks of an index's VTOC, and in those of the directory of a new set, if it has one
abbrev pub InNewSet : Request → ℕ → Vol → List ℕ → List ℕ → Type 0
InNewSet q dir v before =
    DifferBeside v.geometry v.vtoc (new_tracks q dir (volume_of before)) before

-- No set of an index has this name, and the order of names has room for it.
pub record IsNewName (v : Vol) (name : List ℕ) : Type 0 where
  pub names : AreByName (name_at v.slots.items) v.by_name.items
  pub absent : IsAbsent name v.slots.items
  pub room : vec_len v.by_name < vec_capacity v.by_name

-- a new set that is asked for has its directory once it is made
abbrev pub GivesDirectory : {X T E : Type 0} → Ghosts X → Request → ℕ → Vol → Vol → X → X → Result T E → Type 0
GivesDirectory g q dir v v' old new result = let name = (unit_of (g.facts old).units v.unit).name in
    IsTrue g.tells → OnOk result (HasDirectory (image_named (g.meaning new).state name) v'.geometry
    (new_tracks q dir (volume_of (image_named (g.meaning old).state name))) dir)
