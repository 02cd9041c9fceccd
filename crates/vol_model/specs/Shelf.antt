-- The shelf of volumes, what makes it lawful, and what an operation makes of it, in this project's profile.
use Rattle.std.specs.Prelude.{ℕ, ◌+◌, ◌*◌, ◌/◌, ◌&&◌, ◌||◌, ◌==◌, not, nat_le, nat_lt, Bool, true, false, List, [], ◌∷◌, ◌++◌, length, map, filter, find, replicate, position, slice_get, slice_set, Option, Some, None, Result, Ok, Err, if◌then◌else◌}
use Rattle.std.specs.List.{list_any}
use Rattle.std.specs.Option.{option_map_or}
use Rattle.std.specs.Ordering.{is_lt, nat_cmp}
use Rattle.std.specs.Cmp.Lexicographic.{slice_cmp}
use Rattle.std.specs.Str.{bytes_eq}
use Rattle.ckd_image.specs.declared.device.DiskType.{DiskType}
use Rattle.ckd_image.specs.Device.{row_of}
use Rattle.ebcdic_names.specs.declared.names.Dsn.{Dsn}
use Rattle.ebcdic_names.specs.declared.names.Name8.{Name8}
use Rattle.vol_model.specs.declared.answers.Mode.{Mode}
use Rattle.vol_model.specs.declared.answers.Mode.TheVariants as modes
use Rattle.vol_model.specs.declared.catalogs.CatBody.{CatBody}
use Rattle.vol_model.specs.declared.catalogs.CatBody.TheVariants as catalogs
use Rattle.vol_model.specs.declared.catalogs.CatNode.{CatNode}
use Rattle.vol_model.specs.declared.catalogs.CatNode.TheVariants.{Index, Group, Set, Alias}
use Rattle.vol_model.specs.declared.catalogs.CatPath.{CatPath}
use Rattle.vol_model.specs.declared.catalogs.VolRef.{VolRef}
use Rattle.vol_model.specs.declared.contents.Attr.{Attr}
use Rattle.vol_model.specs.declared.contents.Block.{Block}
use Rattle.vol_model.specs.declared.contents.Body.{Body}
use Rattle.vol_model.specs.declared.contents.Body.TheVariants as bodies
use Rattle.vol_model.specs.declared.contents.DataSet.{DataSet}
use Rattle.vol_model.specs.declared.contents.Entry.{Entry}
use Rattle.vol_model.specs.declared.contents.Run.{Run}
use Rattle.vol_model.specs.declared.contents.Shelf.{Shelf}
use Rattle.vol_model.specs.declared.contents.Volume.{Volume}
use Rattle.vol_model.specs.declared.refusals.Refusal.{Refusal}
use Rattle.vol_model.specs.declared.refusals.Refusal.TheVariants.{NoVolume, NoSet, SetExists, WrongKind, Unreadable, NoSpace, ExtentsFull, VtocFull, NoRoom, NoMember, MemberExists, DirFull, NoCatalog, NoNode, NodeExists, NotEmpty, CatalogFull}
use Rattle.vol_model.specs.declared.requests.Op.{Op}
use Rattle.vol_model.specs.declared.requests.Op.TheVariants.{Allocate, Extend, Scratch, Rename, Empty, Fill, Area, Enter, Drop, BuildIndex, BuildGroup, DropNode, Catalog, Uncatalog}
use Rattle.vol_model.specs.declared.requests.Op.TheVariants as ops
use Rattle.vol_model.specs.declared.requests.Request.{Request}
use Rattle.vol_model.specs.declared.requests.SpaceUnit.{SpaceUnit}
use Rattle.vol_model.specs.declared.requests.SpaceUnit.TheVariants as units
use Rattle.vol_model.specs.Order.{in_order}
use Rattle.vol_model.specs.Places.{Content, content, directory_end, end_of_file, is_open_ended, placed, tracks_in, with_blocks}
use Rattle.vol_model.specs.Slots.{catalog_needed, directory_needed, slots_needed}
use Rattle.vol_model.specs.Space.{choice}
use Rattle.vol_model.specs.Trees.{Node, fits_group, front, has_index, has_node, is_index, named_path, node_at, nodes_below, parent_at, stands_under, true_path, way, with_node, without_node}

-- SYSCTLG, the name of the catalog's data set, in EBCDIC
abbrev pub catalog_name : List ℕ
catalog_name = 0xE2 ∷ 0xE8 ∷ 0xE2 ∷ 0xC3 ∷ 0xE3 ∷ 0xD3 ∷ 0xC7 ∷ replicate 37 0x40

-- the name is that of the catalog's data set
abbrev pub is_catalog : List ℕ → Bool
is_catalog name = bytes_eq name catalog_name

-- the data set has this name
abbrev pub has_name : List ℕ → DataSet → Bool
has_name name x = bytes_eq x.name.bytes name

-- the volume has a data set of this name
abbrev pub has_set : Volume → List ℕ → Bool
has_set volume name = list_any (has_name name) volume.sets

-- the first reason for which a data set of a volume can't be given another name
unfoldable pub rename_refusal : Volume → List ℕ → List ℕ → Option Refusal
rename_refusal volume old new =
    if not (has_set volume old) then Some NoSet
    else (if has_set volume new then Some SetExists
    else (if is_catalog old || is_catalog new then Some WrongKind else None))

-- a data set, under the new name where it had the old one
abbrev pub with_name : List ℕ → Dsn → DataSet → DataSet
with_name old new x = if has_name old x then record x { name = new } else x

-- the volume after a data set was given another name
unfoldable pub renamed : Volume → List ℕ → Dsn → Volume
renamed volume old new = record volume { sets = in_order (map (with_name old new) volume.sets) }

-- the outcome, unless there is a refusal
abbrev pub unless_refused : {X : Type 0} → Option Refusal → X → Result X Refusal
unless_refused None x = Ok x
unless_refused (Some r) x = Err r

-- the volume after a data set is given another name, or why that is refused
unfoldable pub rename_on : Dsn → Dsn → Volume → Result Volume Refusal
rename_on old new volume = unless_refused (rename_refusal volume old.bytes new.bytes) (renamed volume old.bytes new)

-- the shelf with another volume of this number, or the refusal
abbrev pub with_volume : Shelf → ℕ → Result Volume Refusal → Result Shelf Refusal
with_volume shelf v (Ok volume) = Ok (record { volumes = slice_set shelf.volumes v volume })
with_volume shelf v (Err r) = Err r

-- an operation on the volume of this number, if there is one
abbrev pub on_volume : Shelf → ℕ → (Volume → Result Volume Refusal) → Option Volume → Result Shelf Refusal
on_volume shelf v operation None = Err NoVolume
on_volume shelf v operation (Some volume) = with_volume shelf v (operation volume)

-- refused where the test holds, and else what follows
abbrev pub refuse : {X : Type 0} → Bool → Refusal → Result X Refusal → Result X Refusal
refuse true r rest = Err r
refuse false r rest = rest

-- the data set of this name
abbrev pub set_of : List ℕ → Volume → Option DataSet
set_of name volume = find (has_name name) volume.sets

-- data sets, of which the ones of this name are changed
abbrev pub changed : List ℕ → (DataSet → DataSet) → List DataSet → List DataSet
changed name f sets = map (λ x. if has_name name x then f x else x) sets

-- the volume with this data set changed
abbrev pub with_set : Volume → List ℕ → (DataSet → DataSet) → Volume
with_set volume name f = record volume { sets = changed name f volume.sets }

-- an operation on the data set of this name, if there is one
abbrev pub on_found : {X : Type 0} → Option DataSet → (DataSet → Result X Refusal) → Result X Refusal
on_found None operation = Err NoSet
on_found (Some x) operation = operation x

-- the first byte of DSORG without its lowest bit, halved
abbrev pub organization : Attr → ℕ
organization attr = attr.dsorg / 512

abbrev pub is_sequential : List ℕ → Attr → Bool
is_sequential name attr = not (is_catalog name) && organization attr == 32

abbrev pub is_partitioned : List ℕ → Attr → Bool
is_partitioned name attr = not (is_catalog name) && organization attr == 1

-- the body of a new data set, with so many directory blocks
abbrev pub new_body : DiskType → List ℕ → Attr → ℕ → Body
new_body device name attr dir =
    if is_catalog name then bodies.Catalog
    else (if is_sequential name attr then bodies.Seq []
    else (if is_partitioned name attr then bodies.Part dir (directory_end device dir) [] []
    else bodies.Other))

-- the flags of a request for space
abbrev pub flags_of : SpaceUnit → Bool → ℕ
flags_of units.Track contig = if contig then 0x88 else 0x80
flags_of units.Cylinder contig = if contig then 0xC8 else 0xC0

-- the attributes of a new data set; the catalog's are given
abbrev pub new_attr : List ℕ → Attr → Request → Attr
new_attr name attr q =
    let asked = record attr { scalo = flags_of q.unit q.contig; secondary = q.secondary } in
    if is_catalog name then record asked { dsorg = 0x2000; recfm = 0x80; blksize = 256; keylen = 8 } else asked

-- a directory, or for the catalog one block, doesn't fit in so many tracks
abbrev pub lacks_room : DiskType → List ℕ → ℕ → ℕ → Bool
lacks_room device name dir tracks = if is_catalog name then tracks == 0 else (not (dir == 0) && nat_le tracks (directory_end device dir).tt)

-- the volume with a new data set on these tracks
abbrev pub with_new : Dsn → Attr → Request → ℕ → Volume → List Run → Volume
with_new dsn attr q dir volume runs =
    let x : DataSet = record { name = dsn; attr = new_attr dsn.bytes attr q; extents = runs; body = new_body volume.geometry.device dsn.bytes attr dir } in
    let tree : CatBody = catalogs.Tree (tracks_in runs * (row_of volume.geometry.device).directory_blocks_per_track) [] in
    record volume { sets = in_order (x ∷ volume.sets); catalog = if is_catalog dsn.bytes then Some tree else volume.catalog }

-- an operation with the tracks that are chosen, if there is a choice
abbrev pub on_choice : {X : Type 0} → ℕ → Option (List Run) → (List Run → Result X Refusal) → Result X Refusal
on_choice asked None operation = Err (NoSpace asked)
on_choice asked (Some runs) operation = operation runs

-- the volume, unless it needs more slots than it has
abbrev pub if_slots : Volume → Result Volume Refusal
if_slots volume = refuse (nat_lt volume.slots (slots_needed volume)) (VtocFull (slots_needed volume)) (Ok volume)

-- the volume, unless it needs more slots than it has, or there is no room
abbrev pub if_room : Bool → Volume → Result Volume Refusal
if_room lacks volume = refuse (nat_lt volume.slots (slots_needed volume)) (VtocFull (slots_needed volume)) (refuse lacks NoRoom (Ok volume))

unfoldable pub allocate_on : Dsn → Attr → Request → ℕ → Volume → Result Volume Refusal
allocate_on dsn attr q dir volume =
    let name = dsn.bytes in
    let wants_dir = is_partitioned name attr in
    refuse (has_set volume name) SetExists
    (refuse (if dir == 0 then wants_dir else not wants_dir) WrongKind
    (on_choice q.primary (choice volume q.unit q.contig q.primary) (λ runs.
    if_room (lacks_room volume.geometry.device name dir (tracks_in runs)) (with_new dsn attr q dir volume runs))))

-- an operation refused where the body can't be read
abbrev pub if_readable : {X : Type 0} → Body → Result X Refusal → Result X Refusal
if_readable (bodies.Unreadable track) rest = Err (Unreadable track)
if_readable body rest = rest

-- the choice for a set's secondary quantity; there is none where it has no such quantity
abbrev pub secondary_choice : Volume → Attr → Option (List Run)
secondary_choice volume attr =
    if attr.secondary == 0 then None
    else (if attr.scalo / 64 == 3 then choice volume units.Cylinder false attr.secondary
    else (if attr.scalo / 64 == 2 then choice volume units.Track false attr.secondary else None))

-- the quantity that an extension asks for
abbrev pub secondary_asked : Attr → ℕ
secondary_asked attr = if nat_le 128 attr.scalo then attr.secondary else 0

-- a data set with more extents
abbrev pub with_extents : List Run → DataSet → DataSet
with_extents runs x = record x { extents = x.extents ++ runs }

-- a data set gets these extents
abbrev pub extended_by : Dsn → Volume → DataSet → List Run → Result Volume Refusal
extended_by dsn volume x runs = refuse (nat_lt 16 (length x.extents + length runs)) ExtentsFull (if_slots (with_set volume dsn.bytes (with_extents runs)))

abbrev pub extend_set : Dsn → Volume → DataSet → Result Volume Refusal
extend_set dsn volume x =
    refuse (is_catalog dsn.bytes) WrongKind (if_readable x.body (on_choice (secondary_asked x.attr) (secondary_choice volume x.attr) (extended_by dsn volume x)))

unfoldable pub extend_on : Dsn → Volume → Result Volume Refusal
extend_on dsn volume = on_found (set_of dsn.bytes volume) (extend_set dsn volume)

unfoldable pub scratch_on : Dsn → Volume → Result Volume Refusal
scratch_on dsn volume = on_found (set_of dsn.bytes volume) (λ x.
    Ok (record volume { sets = filter (λ y. not (has_name dsn.bytes y)) volume.sets; catalog = if is_catalog dsn.bytes then None else volume.catalog }))

-- a body without entries and blocks, as far as it can be read
abbrev pub is_vacant : Body → Bool
is_vacant (bodies.Part dir end [] []) = true
is_vacant (bodies.Unreadable track) = true
is_vacant body = false

-- a set of this kind may be emptied: a sequential one, one without an organization, and a partitioned one without entries and blocks
abbrev pub may_empty : List ℕ → Attr → Body → Bool
may_empty name attr body = is_sequential name attr || ((attr.dsorg == 0 && not (is_catalog name)) || (is_partitioned name attr && is_vacant body))

-- without blocks; a set without an organization becomes sequential
abbrev pub without_blocks : Body → Body
without_blocks (bodies.Part dir end entries blocks) = bodies.Part dir end [] []
without_blocks body = bodies.Seq []

-- a data set that is emptied, with the record format and lengths of these attributes
abbrev pub emptied : Attr → DataSet → DataSet
emptied a x = record x {
  attr = record x.attr { dsorg = if x.attr.dsorg == 0 then 0x4000 else x.attr.dsorg; recfm = a.recfm; optcd = a.optcd; blksize = a.blksize; lrecl = a.lrecl; keylen = a.keylen; rkp = a.rkp };
  body = without_blocks x.body;
}

abbrev pub empty_set : Dsn → Attr → Volume → DataSet → Result Volume Refusal
empty_set dsn attr volume x = refuse (not (may_empty dsn.bytes x.attr x.body)) WrongKind (if_readable x.body (Ok (with_set volume dsn.bytes (emptied attr))))

unfoldable pub empty_on : Dsn → Attr → Volume → Result Volume Refusal
empty_on dsn attr volume = on_found (set_of dsn.bytes volume) (empty_set dsn attr volume)

-- the kind of set that a mode of writing needs
abbrev pub fits_mode : Mode → List ℕ → Attr → Bool
fits_mode modes.Fill name attr = is_sequential name attr
fits_mode modes.Area name attr = is_partitioned name attr

-- the blocks of a set's body; none of one that isn't sequential or partitioned
abbrev pub blocks_of : Body → List Block
blocks_of (bodies.Seq blocks) = blocks
blocks_of (bodies.Part dir end entries blocks) = blocks
blocks_of body = []

-- what a mode of writing puts first: before an area an end-of-file block, where the last member has none
abbrev pub put_first : Mode → Body → List Content
put_first modes.Fill body = []
put_first modes.Area body = if is_open_ended (blocks_of body) then end_of_file ∷ [] else []

-- what it puts last: after an area an end-of-file block
abbrev pub put_last : Mode → List Content
put_last modes.Fill = []
put_last modes.Area = end_of_file ∷ []

-- all that stands after a body when these contents were written
abbrev pub written : Mode → Body → List Content → List Content
written mode body cs = put_first mode body ++ cs ++ put_last mode

-- a data set with contents written after its blocks
abbrev pub with_written : DiskType → Mode → List Content → DataSet → DataSet
with_written device mode cs x = record x { body = with_blocks x.body (placed device x.body (written mode x.body cs)) }

-- the refusal for a body that can't be read
abbrev pub unreadable : Body → Option Refusal
unreadable (bodies.Unreadable track) = Some (Unreadable track)
unreadable body = None

abbrev pub write_refusal_for : Mode → List ℕ → Option DataSet → Option Refusal
write_refusal_for mode name None = Some NoSet
write_refusal_for mode name (Some x) = if fits_mode mode name x.attr then unreadable x.body else Some WrongKind

-- why a set can't be written to
unfoldable pub write_refusal : Mode → Dsn → Volume → Option Refusal
write_refusal mode dsn volume = write_refusal_for mode dsn.bytes (set_of dsn.bytes volume)

unfoldable pub write_on : Mode → Dsn → List Content → Volume → Result Volume Refusal
write_on mode dsn cs volume = unless_refused (write_refusal mode dsn volume) (with_set volume dsn.bytes (with_written volume.geometry.device mode cs))

-- the name of one entry stands before that of another, by its bytes
abbrev pub is_entry_before : Entry → Entry → Bool
is_entry_before a b = is_lt (slice_cmp nat_cmp a.name.bytes b.name.bytes)

-- entries with one more, in the order of their names; one of the same name goes
abbrev pub with_entry : Entry → List Entry → List Entry
with_entry e entries = filter (λ (x : Entry). is_entry_before x e) entries ++ e ∷ filter (λ (x : Entry). is_entry_before e x) entries

-- an entry has this name
abbrev pub has_member : List ℕ → List Entry → Bool
has_member name entries = list_any (λ (e : Entry). bytes_eq e.name.bytes name) entries

-- a body with these entries
abbrev pub with_directory : List Entry → Body → Body
with_directory entries (bodies.Part dir end old blocks) = bodies.Part dir end entries blocks
with_directory entries body = body

abbrev pub with_entries : List Entry → DataSet → DataSet
with_entries entries x = record x { body = with_directory entries x.body }

-- an operation on a directory: its blocks, and its entries
abbrev pub in_directory : {X : Type 0} → Body → (ℕ → List Entry → Result X Refusal) → Result X Refusal
in_directory (bodies.Part dir end entries blocks) operation = operation dir entries
in_directory (bodies.Unreadable track) operation = Err (Unreadable track)
in_directory body operation = Err WrongKind

-- an operation on the directory of a data set
abbrev pub on_directory : Dsn → Volume → (ℕ → List Entry → Result Volume Refusal) → Result Volume Refusal
on_directory dsn volume operation = on_found (set_of dsn.bytes volume) (λ x. refuse (not (is_partitioned dsn.bytes x.attr)) WrongKind (in_directory x.body operation))

unfoldable pub enter_on : Dsn → Entry → Bool → Volume → Result Volume Refusal
enter_on dsn e replace volume = on_directory dsn volume (λ dir entries.
    let after = with_entry e entries in
    refuse (not replace && has_member e.name.bytes entries) MemberExists
    (refuse (nat_lt dir (directory_needed after)) (DirFull (directory_needed after)) (Ok (with_set volume dsn.bytes (with_entries after)))))

unfoldable pub drop_on : Dsn → Name8 → Volume → Result Volume Refusal
drop_on dsn name volume = on_directory dsn volume (λ dir entries.
    refuse (not (has_member name.bytes entries)) NoMember
    (Ok (with_set volume dsn.bytes (with_entries (filter (λ (e : Entry). not (bytes_eq e.name.bytes name.bytes)) entries)))))

-- the volume with these nodes in its catalog, unless they need more blocks than it has
abbrev pub with_nodes : Volume → ℕ → List Node → Result Volume Refusal
with_nodes volume blocks nodes = refuse (nat_lt blocks (catalog_needed nodes)) (CatalogFull (catalog_needed nodes)) (Ok (record volume { catalog = Some (catalogs.Tree blocks nodes) }))

-- the volume after an operation on the nodes of its catalog
abbrev pub after_nodes : Volume → ℕ → Result (List Node) Refusal → Result Volume Refusal
after_nodes volume blocks (Ok nodes) = with_nodes volume blocks nodes
after_nodes volume blocks (Err r) = Err r

-- an operation on the nodes of a catalog that is there and can be read
abbrev pub in_catalog : Volume → (List Node → Result (List Node) Refusal) → Option CatBody → Result Volume Refusal
in_catalog volume operation None = Err NoCatalog
in_catalog volume operation (Some (catalogs.Unreadable track)) = Err (Unreadable track)
in_catalog volume operation (Some (catalogs.Tree blocks nodes)) = after_nodes volume blocks (operation nodes)

-- an operation on the nodes of a volume's catalog
unfoldable pub on_catalog : (List Node → Result (List Node) Refusal) → Volume → Result Volume Refusal
on_catalog operation volume = in_catalog volume operation volume.catalog

-- a new index, or group, at a path
unfoldable pub built : CatPath → CatNode → List Node → Result (List Node) Refusal
built path node nodes = let p = true_path nodes path in
    refuse (not (stands_under is_index nodes p.names)) NoNode
    (refuse (has_node nodes p) NodeExists
    (Ok (with_node p node nodes)))

-- an index, a group or an alias, which a path without nodes below it may lose
abbrev pub may_go : CatNode → Bool
may_go Index = true
may_go (Group limit empty delete) = true
may_go (Alias of) = true
may_go _ = false

unfoldable pub node_dropped : CatPath → List Node → Result (List Node) Refusal
node_dropped path nodes = let p = named_path nodes path in
    refuse (not (option_map_or may_go (node_at nodes p) false)) NoNode
    (refuse (nat_lt 0 (length (nodes_below nodes p))) NotEmpty
    (Ok (without_node p nodes)))

-- a group that holds its limit or more
abbrev pub is_full : Option CatNode → ℕ → Bool
is_full (Some (Group limit empty delete)) held = nat_le limit held
is_full _ held = false

-- a data set may be put in the place of this: of nothing, or of one that is replaced
abbrev pub gives_way : Option CatNode → Bool → Bool
gives_way None replace = true
gives_way (Some (Set vols)) replace = replace
gives_way (Some _) replace = false

-- a data set at a path
unfoldable pub cataloged : CatPath → List VolRef → Bool → List Node → Result (List Node) Refusal
cataloged path vols replace nodes = let p = true_path nodes path in let parent = way (front p.names) in
    refuse (not (fits_group nodes p.names)) WrongKind
    (refuse (not (has_node nodes p) && is_full (parent_at nodes p.names) (length (nodes_below nodes parent))) NoRoom
    (refuse (not (stands_under has_index nodes p.names)) NoNode
    (refuse (not (gives_way (node_at nodes p) replace)) NodeExists
    (Ok (with_node p (Set vols) nodes)))))

abbrev pub is_data_set : CatNode → Bool
is_data_set (Set vols) = true
is_data_set _ = false

unfoldable pub uncataloged : CatPath → List Node → Result (List Node) Refusal
uncataloged path nodes = let p = true_path nodes path in
    refuse (not (option_map_or is_data_set (node_at nodes p) false)) NoNode (Ok (without_node p nodes))

-- another name of an index at the root
unfoldable pub aliased : Name8 → Name8 → List Node → Result (List Node) Refusal
aliased name of nodes =
    refuse (not (option_map_or is_index (node_at nodes (way (of ∷ []))) false)) NoNode
    (refuse (has_node nodes (way (name ∷ []))) NodeExists
    (Ok (with_node (way (name ∷ [])) (Alias of) nodes)))

-- The volume after an operation on it, or the first reason for which that is refused.
unfoldable pub step_on : Op → Volume → Result Volume Refusal
step_on (Allocate v dsn attr request dir) volume = allocate_on dsn attr request dir volume
step_on (Extend v dsn) volume = extend_on dsn volume
step_on (Scratch v dsn) volume = scratch_on dsn volume
step_on (Rename v old new) volume = rename_on old new volume
step_on (Empty v dsn attr) volume = empty_on dsn attr volume
step_on (Fill v dsn blocks) volume = write_on modes.Fill dsn (map content blocks) volume
step_on (Area v dsn blocks) volume = write_on modes.Area dsn (map content blocks) volume
step_on (Enter v dsn entry replace) volume = enter_on dsn entry replace volume
step_on (Drop v dsn name) volume = drop_on dsn name volume
step_on (BuildIndex v path) volume = on_catalog (built path Index) volume
step_on (BuildGroup v path limit empty delete) volume = on_catalog (built path (Group limit empty delete)) volume
step_on (DropNode v path) volume = on_catalog (node_dropped path) volume
step_on (Catalog v path vols replace) volume = on_catalog (cataloged path vols replace) volume
step_on (Uncatalog v path) volume = on_catalog (uncataloged path) volume
step_on (ops.Alias v name of) volume = on_catalog (aliased name of) volume

-- the number of the volume on which an operation is
abbrev pub volume_number : Op → ℕ
volume_number (Allocate v dsn attr request dir) = v
volume_number (Extend v dsn) = v
volume_number (Scratch v dsn) = v
volume_number (Rename v old new) = v
volume_number (Empty v dsn attr) = v
volume_number (Fill v dsn blocks) = v
volume_number (Area v dsn blocks) = v
volume_number (Enter v dsn entry replace) = v
volume_number (Drop v dsn name) = v
volume_number (BuildIndex v path) = v
volume_number (BuildGroup v path limit empty delete) = v
volume_number (DropNode v path) = v
volume_number (Catalog v path vols replace) = v
volume_number (Uncatalog v path) = v
volume_number (ops.Alias v name of) = v

-- The shelf after an operation, or the first reason for which that is refused.
unfoldable pub step : Shelf → Op → Result Shelf Refusal
step shelf op = on_volume shelf (volume_number op) (step_on op) (slice_get shelf.volumes (volume_number op))

-- the number of the volume with this serial
abbrev pub number_of : Shelf → List ℕ → Option ℕ
number_of shelf serial = position (λ (volume : Volume). bytes_eq volume.serial.bytes serial) shelf.volumes
