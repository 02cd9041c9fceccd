-- The directory of a partitioned data set as an image has it, by the index of its VTOC, and what is read of it, in this project's profile.
use Rattle.std.specs.Prelude.{◌≡◌, ℕ, ◌^◌, ◌≤◌, ◌<◌, true, List, [], ◌++◌, length, map, position, is_none, slice_get, unwrap_or, Option, Some, None, Result, Ok, Err, vec_items}
use Rattle.std.specs.List.{AllByRecursion, flat_map}
use Rattle.chain_spec.specs.Cut.{AllFit}
use Rattle.chain_spec.specs.Kept.{joined, kept}
use Rattle.chain_spec.specs.Store.{Block as Stored, stored}
use Rattle.dscb_codec.specs.declared.Dscb.TheVariants as formats
use Rattle.dscb_codec.specs.declared.F1.{F1}
use Rattle.vol_model.specs.declared.answers.ReadErr.{ReadErr}
use Rattle.vol_model.specs.declared.answers.ReadErr.TheVariants.{Unreadable, Memory, Device}
use Rattle.vol_model.specs.declared.contents.Block.{Block}
use Rattle.vol_model.specs.declared.contents.Body.{Body}
use Rattle.vol_model.specs.declared.contents.Body.TheVariants as bodies
use Rattle.vol_model.specs.declared.contents.Entry.{Entry}
use Rattle.vol_model.specs.declared.contents.Place.{Place}
use Rattle.vol_model.specs.Shelf.{is_partitioned, unreadable}
use Rattle.vol_model.specs.Slots.{entry_size}
use Rattle.pack_spec.specs.Directories.{before_end, behind_end, end_from, name_number, part_body, part_tracks, read_to, stored_in}
pub use Rattle.pack_spec.specs.Settled.{IsPacked}
use Rattle.pack_spec.specs.Volume.{attr_of}
use Rattle.vtoc_index.specs.declared.vol.Vol.{Vol}
pub use Rattle.vtoc_sets.specs.Sets.{data_in, owned_in}
use Rattle.vtoc_sets.specs.Sets.{HasSet, extents_in}
use Rattle.pds_directory.specs.declared.dir.Dir.{Dir}
use Rattle.pds_directory.specs.Entries.{IsReadEntry}

-- A partitioned data set of a mounted image by its format 1, which stands in a slot of the index.
pub record IsPartIn (image : List ℕ) (v : Vol) (f : F1) : Type 0 where
  pub set : HasSet image v f
  pub slot : ℕ
  pub dscb : slice_get v.slots.items slot ≡ Some (formats.F1 f)
  pub partitioned : is_partitioned f.name (attr_of f) ≡ true

-- the body of a partitioned data set
abbrev pub part_in : List ℕ → Vol → F1 → Body
part_in image v f = part_body v.geometry (data_in image v) (extents_in image v f) f.lstar

-- the place of its directory's end-of-file record; where there is none, after its tracks
abbrev pub end_in : List ℕ → Vol → F1 → Place
end_in image v f = end_from v.geometry (data_in image v) 0 (owned_in image v f)

-- its blocks on each relative track up to the last
abbrev pub tracks_in : List ℕ → Vol → F1 → List (Option (List Block))
tracks_in image v f = part_tracks v.geometry (data_in image v) (owned_in image v f) (end_in image v f) (read_to (end_in image v f) f.lstar)

-- the first relative track whose records break its body, whatever the entries of its directory are
abbrev pub broken_in : List ℕ → Vol → F1 → Option ℕ
broken_in image v f = position (λ o. is_none o) (tracks_in image v f)

-- all its blocks
abbrev pub blocks_in : List ℕ → Vol → F1 → List Block
blocks_in image v f = flat_map (λ o. unwrap_or o []) (tracks_in image v f)

-- the blocks of its directory
abbrev pub directory_in : List ℕ → Vol → F1 → List Block
directory_in image v f = before_end (end_in image v f) (blocks_in image v f)

-- the blocks of its members
abbrev pub members_in : List ℕ → Vol → F1 → List Block
members_in image v f = behind_end (end_in image v f) (blocks_in image v f)

-- the entries of each block that was read
abbrev pub entries_read : Dir → List (List Entry)
entries_read dir = map vec_items dir.blocks.items

-- Of a directory of these blocks all places were read, and the entries of the blocks up to the one that ends it.
pub record IsRead (directory : List Block) (dir : Dir) : Type 0 where
  pub places : dir.places.items ≡ map (λ (b : Block). b.place) directory
  pub behind : List (Option (Stored Entry))
  pub blocks : map stored_in directory ≡ stored (entries_read dir) ++ behind

-- A directory was read that is the body's, with the place of its end-of-file record.
pub record IsReadIn (image : List ℕ) (v : Vol) (f : F1) (dir : Dir) : Type 0 where
  pub body : part_in image v f ≡ bodies.Part (length dir.places.items) (end_in image v f) (kept name_number (joined (entries_read dir))) (members_in image v f)
  pub read : IsRead (directory_in image v f) dir
  pub end : dir.end ≡ end_in image v f

-- a directory was read that is the body's, unless the records of a relative track break that
abbrev pub IsReadUnless : Option ℕ → List ℕ → Vol → F1 → Dir → Type 0
IsReadUnless None image v f dir = IsReadIn image v f dir
IsReadUnless (Some k) image v f dir = part_in image v f ≡ bodies.Unreadable k

-- a directory is read, or else the first relative track is answered that breaks the body
abbrev pub ReadsDir : Result Dir ReadErr → List ℕ → Vol → F1 → Type 0
ReadsDir (Ok dir) image v f = IsReadUnless (broken_in image v f) image v f dir
ReadsDir (Err (Unreadable k)) image v f = part_in image v f ≡ bodies.Unreadable k
ReadsDir (Err Memory) image v f = Unit {0}
ReadsDir (Err Device) image v f = Unit {0}

-- A partitioned data set of an image whose body can be read.
pub record IsReadablePart (image : List ℕ) (v : Vol) (f : F1) : Type 0 where
  pub part : IsPartIn image v f
  pub readable : unreadable (part_in image v f) ≡ None

-- a place is that of a record
abbrev pub IsOfRecord : Place → Type 0
IsOfRecord p = (1 ≤ p.r) × (p.r ≤ 255)

-- A directory that was read: it has fewer than 2^24 blocks, of which one ends it; the entries of each are lawful, and with the end entry they fit; and each place is that of a record.
pub record IsLawfulDir (dir : Dir) : Type 0 where
  pub room : length dir.blocks.items ≤ length dir.places.items
  pub few : length dir.places.items < 2 ^ 24
  pub entries : AllByRecursion (AllByRecursion IsReadEntry) (entries_read dir)
  pub fit : AllFit entry_size 254 12 (entries_read dir)
  pub places : AllByRecursion IsOfRecord dir.places.items
