-- What reads of a shelf give, in this project's profile.
use Rattle.std.specs.Prelude.{◌≡◌, ℕ, ◌-◌, not, Bool, true, false, List, [], ◌∷◌, length, filter, take_while, slice_get, Option, Some, None, option_map, option_and_then, Result, Ok, Err}
use Rattle.ebcdic_names.specs.declared.names.Dsn.{Dsn}
use Rattle.vol_model.specs.declared.answers.Kind.{Kind}
use Rattle.vol_model.specs.declared.answers.Kind.TheVariants as kinds
use Rattle.vol_model.specs.declared.answers.ReadErr.{ReadErr}
use Rattle.vol_model.specs.declared.answers.ReadErr.TheVariants as reads
use Rattle.vol_model.specs.declared.answers.SetInfo.{SetInfo}
use Rattle.vol_model.specs.declared.answers.VolumeInfo.{VolumeInfo}
use Rattle.vol_model.specs.declared.answers.WorkErr.{WorkErr}
use Rattle.vol_model.specs.declared.contents.DataSet.{DataSet}
use Rattle.vol_model.specs.declared.contents.Entry.{Entry}
use Rattle.vol_model.specs.declared.contents.Run.{Run}
use Rattle.vol_model.specs.declared.contents.Volume.{Volume}
use Rattle.vol_model.specs.declared.answers.CheckErr.{CheckErr}
use Rattle.vol_model.specs.declared.answers.CheckErr.TheVariants as errors
use Rattle.vol_model.specs.declared.catalogs.CatBody.{CatBody}
use Rattle.vol_model.specs.declared.catalogs.CatBody.TheVariants as catalogs
use Rattle.vol_model.specs.declared.contents.Block.{Block}
use Rattle.vol_model.specs.declared.contents.Body.{Body}
use Rattle.vol_model.specs.declared.contents.Body.TheVariants as bodies
use Rattle.vol_model.specs.declared.contents.Place.{Place}
use Rattle.vol_model.specs.declared.contents.Shelf.{Shelf}
use Rattle.vol_model.specs.Places.{is_before, is_end_of_file, tracks_in}
use Rattle.vol_model.specs.Shelf.{blocks_of}
use Rattle.vol_model.specs.Slots.{slots_needed}
use Rattle.vol_model.specs.Space.{free_runs, free_tracks}
use Rattle.vol_model.specs.Trees.{Node}
use Rattle.vol_model.specs.Writing.{set_on}

-- the blocks of a body, or the track at which it can't be read
abbrev pub readable : Body → Result (List Block) ℕ
readable (bodies.Unreadable track) = Err track
readable body = Ok (blocks_of body)

-- the blocks at or after a place
abbrev pub blocks_from : Place → List Block → List Block
blocks_from p bs = filter (λ (b : Block). not (is_before b.place p)) bs

-- a block without key and data
abbrev pub IsBlank : Block → Type 0
IsBlank b = (b.key ≡ []) × (b.payload ≡ [])

-- of these blocks the first, or there is none
abbrev pub FirstOf : Bool → List Block → Block → Type 0
FirstOf true found block = (rest : List Block) × (found ≡ block ∷ rest)
FirstOf false found block = found ≡ []

-- the first of the blocks at or after a place, or why there is none
abbrev pub ReadsInto : Result Bool CheckErr → Result (List Block) ℕ → Place → Block → Type 0
ReadsInto (Ok more) body from block = (blocks : List Block) × (body ≡ Ok blocks) × FirstOf more (blocks_from from blocks) block
ReadsInto (Err (errors.Unreadable track)) body from block = body ≡ Err track
ReadsInto (Err errors.Device) body from block = Unit {0}

-- where no block is read, the one that was to hold it is blank
abbrev pub LeavesBlank : Result Bool CheckErr → Block → Type 0
LeavesBlank (Ok true) block = Unit {0}
LeavesBlank (Ok false) block = IsBlank block
LeavesBlank (Err e) block = IsBlank block

-- the blocks of the member at a place: those from there up to the next end-of-file block
unfoldable pub member : List Block → Place → List Block
member bs from = take_while (λ (b : Block). not (is_end_of_file b)) (blocks_from from bs)

-- a volume in short
unfoldable pub volume_info : Volume → VolumeInfo
volume_info volume = record {
  serial = volume.serial;
  geometry = volume.geometry;
  free_tracks = length (free_tracks volume);
  free_runs = length (free_runs volume);
  free_slots = volume.slots - slots_needed volume;
}

-- the kind of a body
abbrev pub kind_of : Body → Kind
kind_of (bodies.Seq blocks) = kinds.Seq
kind_of (bodies.Part dir end entries blocks) = kinds.Part
kind_of bodies.Catalog = kinds.Catalog
kind_of bodies.Other = kinds.Other
kind_of (bodies.Unreadable track) = kinds.Unreadable track

-- the number of blocks of a directory; 0 where there is none
abbrev pub directory_size : Body → ℕ
directory_size (bodies.Part dir end entries blocks) = dir
directory_size body = 0

-- a data set in short
unfoldable pub set_info : DataSet → SetInfo
set_info x = record { attr = x.attr; kind = kind_of x.body; extents = length x.extents; tracks = tracks_in x.extents; dir = directory_size x.body }

-- the name of the k-th data set of a volume, from 0
unfoldable pub name_on : Shelf → ℕ → ℕ → Option Dsn
name_on shelf v k = option_map (λ (x : DataSet). x.name) (option_and_then (λ (volume : Volume). slice_get volume.sets k) (slice_get shelf.volumes v))

-- the k-th extent of a data set, from 0
unfoldable pub extent_on : Shelf → ℕ → List ℕ → ℕ → Option Run
extent_on shelf v name k = option_and_then (λ (x : DataSet). slice_get x.extents k) (set_on shelf v name)

-- the entries of a body, or the track at which it can't be read; none of one that isn't partitioned
abbrev pub entries_in : Body → Result (List Entry) ℕ
entries_in (bodies.Part dir end entries blocks) = Ok entries
entries_in (bodies.Unreadable track) = Err track
entries_in body = Ok []

-- a read gives this value, unless it failed
abbrev pub GivesValue : {X : Type 0} → Result X WorkErr → X → Type 0
GivesValue (Ok x) value = x ≡ value
GivesValue (Err e) value = Unit {0}

-- a read gives what is picked of a content that can be read, or the track at which it can't
abbrev pub Picks : {X L : Type 0} → Result (Option X) ReadErr → Result L ℕ → (L → Option X) → Type 0
Picks (Ok x) (Ok found) pick = x ≡ pick found
Picks (Ok x) (Err track) pick = ⊥
Picks (Err (reads.Unreadable track)) found pick = found ≡ Err track
Picks (Err reads.Memory) found pick = Unit {0}
Picks (Err reads.Device) found pick = Unit {0}

-- the first of a list
abbrev pub first : {X : Type 0} → List X → Option X
first [] = None
first (x ∷ xs) = Some x

-- the catalog of the volume of this number
unfoldable pub catalog_on : Shelf → ℕ → Option CatBody
catalog_on shelf v = option_and_then (λ (volume : Volume). volume.catalog) (slice_get shelf.volumes v)

-- the nodes of a catalog, or the track at which it can't be read; none where there is no catalog
abbrev pub nodes_in : Option CatBody → Result (List Node) ℕ
nodes_in None = Ok []
nodes_in (Some (catalogs.Tree blocks nodes)) = Ok nodes
nodes_in (Some (catalogs.Unreadable track)) = Err track
