-- What makes a shelf lawful, in this project's profile: what the image of a pack that mounts stands for is so, and operations keep it so.
use Rattle.std.specs.Prelude.{◌≡◌, ℕ, ◌+◌, ◌*◌, ◌%◌, ◌^◌, ◌≤◌, ◌<◌, ◌&&◌, ◌||◌, ◌==◌, not, nat_lt, Bool, true, false, List, [], ◌∷◌, length, replicate, is_some, Option, Some, None}
use Rattle.std.specs.List.{AllByRecursion, count_by, flat_map}
use Rattle.std.specs.Ordering.{is_lt, nat_cmp}
use Rattle.std.specs.Cmp.Lexicographic.{slice_cmp}
use Rattle.std.specs.Str.{bytes_eq}
use Rattle.ckd_image.specs.declared.header.Geometry.{Geometry}
use Rattle.ckd_image.specs.Device.{row_of}
use Rattle.ebcdic_names.specs.declared.names.Name8.{Name8}
use Rattle.vol_model.specs.declared.catalogs.CatBody.{CatBody}
use Rattle.vol_model.specs.declared.catalogs.CatBody.TheVariants as catalogs
use Rattle.vol_model.specs.declared.catalogs.CatPath.{CatPath}
use Rattle.vol_model.specs.declared.contents.Attr.{Attr}
use Rattle.vol_model.specs.declared.contents.Block.{Block}
use Rattle.vol_model.specs.declared.contents.Body.{Body}
use Rattle.vol_model.specs.declared.contents.Body.TheVariants as bodies
use Rattle.vol_model.specs.declared.contents.DataSet.{DataSet}
use Rattle.vol_model.specs.declared.contents.Entry.{Entry}
use Rattle.vol_model.specs.declared.contents.Place.{Place}
use Rattle.vol_model.specs.declared.contents.Run.{Run}
use Rattle.vol_model.specs.declared.contents.Shelf.{Shelf}
use Rattle.vol_model.specs.declared.contents.Volume.{Volume}
use Rattle.vol_model.specs.declared.requests.Op.{Op}
use Rattle.vol_model.specs.declared.requests.Op.TheVariants.{Allocate, Extend, Scratch, Rename, Empty, Fill, Area, Enter, Drop, BuildIndex, BuildGroup, DropNode, Catalog, Uncatalog, Alias}
use Rattle.vol_model.specs.Order.{IsAscending}
use Rattle.vol_model.specs.Places.{tracks_in}
use Rattle.vol_model.specs.Shelf.{catalog_name, has_set, is_catalog, is_entry_before, is_partitioned, is_sequential}
use Rattle.vol_model.specs.Slots.{catalog_needed, directory_needed, slots_needed}
use Rattle.vol_model.specs.Space.{is_in}
use Rattle.vol_model.specs.Trees.{AreAscending, Node, has_parent}

-- a run has at least one track, and lies on the pack
abbrev pub IsOnPack : Geometry → Run → Type 0
IsOnPack g run = (1 ≤ run.len) × (run.start + run.len ≤ g.cylinders * (row_of g.device).heads)

-- A block is lawful: its key and data have at most the lengths that are written, and its place can be said in a TTR, as that after it.
pub record IsLawfulBlock (b : Block) : Type 0 where
  pub key : length b.key ≤ 255
  pub payload : length b.payload ≤ 32760
  pub track : b.place.tt < 65535
  pub place : b.place.r ≤ 255

-- An entry is lawful: its user data have the length that its flags say, and its name isn't that of the end entry.
pub record IsLawfulEntry (e : Entry) : Type 0 where
  pub user : length e.user ≡ 2 * (e.flags % 32)
  pub name : bytes_eq e.name.bytes (replicate 8 255) ≡ false

-- a place is the next record on the track of another, or the first of a later track
abbrev pub is_next : Place → Place → Bool
is_next p q = (q.tt == p.tt && q.r == p.r + 1) || (nat_lt p.tt q.tt && q.r == 1)

-- blocks stand on so many tracks, after a place, each next to the one before it, so that no track has a gap
abbrev pub FollowFrom : ℕ → Place → List Block → Type 0
FollowFrom tracks p [] = Unit {0}
FollowFrom tracks p (b ∷ bs) = (b.place.tt < tracks) × (is_next p b.place ≡ true) × FollowFrom tracks b.place bs

-- the entries rise by their names, so none stands twice
abbrev pub EntriesAscend : List Entry → Type 0
EntriesAscend [] = Unit {0}
EntriesAscend (e ∷ es) = AllByRecursion (λ (x : Entry). is_entry_before e x ≡ true) es × EntriesAscend es

-- A partitioned body on so many tracks is lawful: its directory has fewer than 2^24 blocks and room for its entries, and its end and blocks stand on owned tracks.
pub record IsLawfulPart (tracks dir : ℕ) (last : Place) (es : List Entry) (bs : List Block) : Type 0 where
  pub few : dir < 2 ^ 24
  pub room : directory_needed es ≤ dir
  pub order : EntriesAscend es
  pub entries : AllByRecursion IsLawfulEntry es
  pub end : last.tt < tracks
  pub follow : FollowFrom tracks last bs
  pub blocks : AllByRecursion IsLawfulBlock bs

-- a body on so many tracks is lawful
abbrev pub IsLawfulBody : ℕ → Body → Type 0
IsLawfulBody tracks (bodies.Seq bs) = FollowFrom tracks (record { tt = 0; r = 0 }) bs × AllByRecursion IsLawfulBlock bs
IsLawfulBody tracks (bodies.Part dir end es bs) = IsLawfulPart tracks dir end es bs
IsLawfulBody tracks bodies.Catalog = Unit {0}
IsLawfulBody tracks bodies.Other = Unit {0}
IsLawfulBody tracks (bodies.Unreadable track) = Unit {0}

-- a body is of the kind that its set's name and organization give, or it can't be read
abbrev pub is_of_kind : List ℕ → Attr → Body → Bool
is_of_kind name attr (bodies.Seq bs) = is_sequential name attr
is_of_kind name attr (bodies.Part dir end es bs) = is_partitioned name attr
is_of_kind name attr bodies.Catalog = is_catalog name
is_of_kind name attr bodies.Other = not (is_catalog name || (is_sequential name attr || is_partitioned name attr))
is_of_kind name attr (bodies.Unreadable track) = true

-- A data set is lawful: at most 16 extents on the pack, a secondary quantity of three bytes, and a body of its kind.
pub record IsLawfulSet (g : Geometry) (x : DataSet) : Type 0 where
  pub few : length x.extents ≤ 16
  pub extents : AllByRecursion (IsOnPack g) x.extents
  pub secondary : x.attr.secondary < 2 ^ 24
  pub kind : is_of_kind x.name.bytes x.attr x.body ≡ true
  pub body : IsLawfulBody (tracks_in x.extents) x.body

-- the runs of a volume that are owned: track 0, the VTOC and all extents
abbrev pub owned_runs : Volume → List Run
owned_runs volume = record { start = 0; len = 1 } ∷ volume.vtoc ∷ flat_map (λ (x : DataSet). x.extents) volume.sets

-- no track is owned twice
abbrev pub OwnsOnce : Volume → Type 0
OwnsOnce volume = (track : ℕ) → count_by (is_in track) (owned_runs volume) ≤ 1

-- The nodes of a catalog of so many blocks are lawful: they rise, the parent of each is there and of its kind, and there are fewer than 2^24 blocks, enough for them.
pub record IsLawfulTree (blocks : ℕ) (nodes : List Node) : Type 0 where
  pub few : blocks < 2 ^ 24
  pub room : catalog_needed nodes ≤ blocks
  pub order : AreAscending nodes
  pub parents : AllByRecursion (λ (x : Node). has_parent nodes x.0.names x.1 ≡ true) nodes

-- a catalog that can be read is lawful
abbrev pub IsLawfulCatalog : Option CatBody → Type 0
IsLawfulCatalog None = Unit {0}
IsLawfulCatalog (Some (catalogs.Unreadable track)) = Unit {0}
IsLawfulCatalog (Some (catalogs.Tree blocks nodes)) = IsLawfulTree blocks nodes

-- A volume is lawful: as many cylinders as its device may have, at most 65,535 slots and enough of them, lawful data sets in the order of their names, no track owned twice, and a catalog where there is a SYSCTLG.
pub record IsLawfulVolume (volume : Volume) : Type 0 where
  pub some : 1 ≤ volume.geometry.cylinders
  pub most : volume.geometry.cylinders ≤ (row_of volume.geometry.device).most_cylinders
  pub slots : volume.slots ≤ 65535
  pub room : slots_needed volume ≤ volume.slots
  pub order : IsAscending volume.sets
  pub sets : AllByRecursion (IsLawfulSet volume.geometry) volume.sets
  pub owned : OwnsOnce volume
  pub has_catalog : has_set volume catalog_name ≡ is_some volume.catalog
  pub catalog : IsLawfulCatalog volume.catalog

-- A shelf is lawful: at most 256 volumes, and each is so.
pub record IsLawful (shelf : Shelf) : Type 0 where
  pub few : length shelf.volumes ≤ 256
  pub volumes : AllByRecursion IsLawfulVolume shelf.volumes

-- X'0000000000000001', the name of the control entry of an index
abbrev pub control_name : List ℕ
control_name = 0 ∷ 0 ∷ 0 ∷ 0 ∷ 0 ∷ 0 ∷ 0 ∷ 1 ∷ []

-- A name may stand in the catalog: it stands after that of the control entry, and isn't that of the link entry.
pub record IsLawfulName (name : List ℕ) : Type 0 where
  pub above : is_lt (slice_cmp nat_cmp control_name name) ≡ true
  pub no_link : bytes_eq name (replicate 8 255) ≡ false

-- A path may be asked for: it has 1 to 22 names, all of which may stand in the catalog.
pub record IsLawfulPath (path : CatPath) : Type 0 where
  pub some : 1 ≤ length path.names
  pub few : length path.names ≤ 22
  pub names : AllByRecursion (λ (n : Name8). IsLawfulName n.bytes) path.names

-- An operation may be asked for: its directory, quantities, entries, paths and lists are within their limits. The blocks of a data set are written by a writer, and not so.
abbrev pub IsLawfulOp : Op → Type 0
IsLawfulOp (Allocate v dsn attr request dir) = (dir ≤ 2000) × (request.secondary < 2 ^ 24)
IsLawfulOp (Extend v dsn) = Unit {0}
IsLawfulOp (Scratch v dsn) = Unit {0}
IsLawfulOp (Rename v old new) = Unit {0}
IsLawfulOp (Empty v dsn attr) = Unit {0}
IsLawfulOp (Fill v dsn blocks) = ⊥
IsLawfulOp (Area v dsn blocks) = ⊥
IsLawfulOp (Enter v dsn entry replace) = IsLawfulEntry entry
IsLawfulOp (Drop v dsn name) = Unit {0}
IsLawfulOp (BuildIndex v path) = IsLawfulPath path
IsLawfulOp (BuildGroup v path limit empty delete) = IsLawfulPath path × (1 ≤ limit)
IsLawfulOp (DropNode v path) = IsLawfulPath path
IsLawfulOp (Catalog v path vols replace) = IsLawfulPath path × (1 ≤ length vols) × (length vols ≤ 5)
IsLawfulOp (Uncatalog v path) = IsLawfulPath path
IsLawfulOp (Alias v name of) = IsLawfulName name.bytes × IsLawfulName of.bytes
