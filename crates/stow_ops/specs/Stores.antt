-- The directory of a partitioned data set as a store of blocks, what a write of one of them leaves of it, and what writes in their safe order do, in this project's profile.
use Rattle.std.specs.Prelude.{◌≡◌, ◌≢◌, ◌⊎◌, ℕ, suc, ◌+◌, ◌-◌, ◌^◌, ◌<◌, ◌==◌, false, List, [], ◌∷◌, length, map, nat_eq, nat_lt, set, take, slice_get, slice_set, Option, Some, None, Result, Ok, OnErr, OnOk}
use Rattle.std.specs.List.{AllByRecursion, list_any}
use Rattle.chain_spec.specs.Cut.{IsCut}
use Rattle.chain_spec.specs.Kept.{Rises, joined, kept}
use Rattle.chain_spec.specs.Store.{Block as Stored}
use Rattle.ckd_image.specs.declared.header.Geometry.{Geometry}
use Rattle.dscb_codec.specs.declared.F1.{F1}
use Rattle.stop_model.specs.Files.{File, file_of}
use Rattle.stop_model.specs.Moments.{Meaning, IsDurable, Elapses}
use Rattle.pack_spec.specs.Directories.{name_number, stored_in}
use Rattle.pack_spec.specs.Label.{track_bytes}
use Rattle.pack_spec.specs.Volume.{volume_of}
use Rattle.sorted_chain.specs.Plan.{ChangesOne, IsPlan, after_writes}
use Rattle.vol_model.specs.declared.contents.Block.{Block}
use Rattle.vol_model.specs.declared.contents.Entry.{Entry}
use Rattle.vol_model.specs.declared.contents.Place.{Place}
use Rattle.vol_model.specs.declared.contents.Volume.{Volume}
use Rattle.vol_model.specs.declared.refusals.Refusal.{Refusal}
use Rattle.vol_model.specs.declared.refusals.Refusal.TheVariants.{DirFull}
use Rattle.vol_model.specs.Shelf.{refuse, with_entries, with_set}
use Rattle.vol_model.specs.Slots.{directory_needed, entry_size}
use Rattle.free_rebuild.specs.Repairs.{image_named}
use Rattle.vtoc_index.specs.declared.vol.Vol.{Vol}
use Rattle.vtoc_index.specs.Index.{IsMounted}
use Rattle.pds_directory.specs.declared.dir.Dir.{Dir}
use Rattle.pds_directory.specs.Directories.{IsReadIn, IsReadablePart, broken_in, directory_in, end_in, entries_read, members_in, owned_in}
use Rattle.pds_directory.specs.Entries.{AreForBlock, IsReadEntry, chain_size}

-- Images that differ on these tracks alone.
pub record DifferOn (g : Geometry) (tracks : List ℕ) (before after : List ℕ) : Type 0 where
  pub size : length after ≡ length before
  pub header : take 512 after ≡ take 512 before
  pub others : (track : ℕ) → list_any (λ t. t == track) tracks ≡ false
      → track_bytes after g track ≡ track_bytes before g track

-- the tracks on which the directory of a data set stands
abbrev pub directory_tracks : List ℕ → Vol → F1 → List ℕ
directory_tracks image v f = take (suc (end_in image v f).tt) (owned_in image v f)

-- the directory of a data set as a store of blocks
abbrev pub store_in : List ℕ → Vol → F1 → List (Option (Stored Entry))
store_in image v f = map stored_in (directory_in image v f)

-- An image has this store in the directory of a data set; else it is as another.
pub record HasStore (v : Vol) (f : F1) (store : List (Option (Stored Entry))) (before after : List ℕ) : Type 0 where
  pub differ : DifferOn v.geometry (directory_tracks before v f) before after
  pub end : end_in after v f ≡ end_in before v f
  pub places : map (λ (b : Block). b.place) (directory_in after v f) ≡ map (λ (b : Block). b.place) (directory_in before v f)
  pub stored : store_in after v f ≡ store
  pub members : members_in after v f ≡ members_in before v f
  pub whole : broken_in after v f ≡ None

-- Files differ in the image of this name alone, and that has this store in the directory of a data set.
pub record HaveStore (name : List ℕ) (v : Vol) (f : F1) (store : List (Option (Stored Entry))) (before files : List File) : Type 0 where
  pub others : (other : List ℕ) → other ≢ name → file_of files other ≡ file_of before other
  pub image : HasStore v f store (image_named before name) (image_named files name)

-- the k-th block of a directory, from 0, stands at this place
abbrev pub IsBlockAt : List ℕ → Vol → F1 → ℕ → Place → Type 0
IsBlockAt image v f k place = (b : Block) × (slice_get (directory_in image v f) k ≡ Some b) × (b.place ≡ place)

-- one of them does
abbrev pub IsPlaceIn : List ℕ → Vol → F1 → Place → Type 0
IsPlaceIn image v f place = (k : ℕ) × IsBlockAt image v f k place

-- A directory's block of a number is written and made durable: a stop leaves the files as they were, or with it. Where it is done they have it, and the index is the image's.
pub record WritesBlock {T E : Type 0} (name : List ℕ) (v : Vol) (f : F1) (k : ℕ) (block : Stored Entry) (v' : Vol)
    (old new : Meaning (List File)) (result : Result T E) : Type 0 where
  pub done : OnOk result (HaveStore name v f (slice_set (store_in (image_named old.state name) v f) k (Some block)) old.state new.state)
  pub durable : OnOk result (IsDurable new)
  pub index : OnOk result (IsMounted (image_named new.state name) v')
  pub printed : new.printed ≡ old.printed
  pub moments : Elapses old new (λ files p.
      ((files ≡ old.state) ⊎ HaveStore name v f (slice_set (store_in (image_named old.state name) v f) k (Some block)) old.state files) × (p ≡ old.printed))

-- A block of a directory that is to have so many blocks stays as it was read.
pub record IsLeft {T E : Type 0} (dir : Dir) (blocks k : ℕ) (entries : List Entry) (result : Result T E) : Type 0 where
  pub done : OnErr result ⊥
  pub stays : slice_get (entries_read dir) k ≡ Some entries
  pub last : nat_eq (k + 1) (length (entries_read dir)) ≡ nat_eq (k + 1) blocks

-- after so many first writes of these, of a directory that is to have so many blocks
abbrev pub store_after : List ℕ → Vol → F1 → ℕ → List (ℕ × List Entry) → ℕ → List (Option (Stored Entry))
store_after image v f blocks writes k = after_writes blocks (take k writes) (store_in image v f)

-- These writes of a directory are done in their order, each durable before the next; one may be left out that changes nothing.
pub record CarriesOut {T E : Type 0} (name : List ℕ) (v : Vol) (f : F1) (blocks : ℕ) (writes : List (ℕ × List Entry)) (v' : Vol)
    (old new : Meaning (List File)) (result : Result T E) : Type 0 where
  pub done : OnOk result (HaveStore name v f (store_after (image_named old.state name) v f blocks writes (length writes)) old.state new.state)
  pub durable : OnOk result (IsDurable new)
  pub index : OnOk result (IsMounted (image_named new.state name) v')
  pub printed : new.printed ≡ old.printed
  pub moments : Elapses old new (λ files p.
      ((k : ℕ) × HaveStore name v f (store_after (image_named old.state name) v f blocks writes k) old.state files) × (p ≡ old.printed))

-- So many first writes of a directory are done, each durable before the next.
pub record SoFar (name : List ℕ) (v : Vol) (f : F1) (blocks : ℕ) (writes : List (ℕ × List Entry)) (k : ℕ) (v' : Vol) (old now : Meaning (List File)) : Type 0 where
  pub have : HaveStore name v f (store_after (image_named old.state name) v f blocks writes k) old.state now.state
  pub durable : IsDurable now
  pub index : IsMounted (image_named now.state name) v'
  pub printed : now.printed ≡ old.printed
  pub moments : Elapses old now (λ files p.
      ((j : ℕ) × HaveStore name v f (store_after (image_named old.state name) v f blocks writes j) old.state files) × (p ≡ old.printed))

-- Writes can be done on a directory of so many places: each is that of one of them, and of entries for a block.
pub record CanBeWritten (places blocks : ℕ) (writes : List (ℕ × List Entry)) : Type 0 where
  pub places_are : AllByRecursion (λ (w : ℕ × List Entry). w.0 < places) writes
  pub few : AllByRecursion (λ (w : ℕ × List Entry). w.0 < blocks) writes
  pub entries : AllByRecursion (λ (w : ℕ × List Entry). AreForBlock w.1 (nat_eq (w.0 + 1) blocks)) writes

-- blocks of entries, with those of these writes put in their places
abbrev pub with_writes : List (ℕ × List Entry) → List (List Entry) → List (List Entry)
with_writes [] blocks = blocks
with_writes (w ∷ ws) blocks = with_writes ws (set blocks w.0 w.1)

-- A directory was read that is packed, and one of its entries is to change, so that it has these.
pub record IsToHave (image : List ℕ) (v : Vol) (f : F1) (dir : Dir) (entries : List Entry) : Type 0 where
  pub part : IsReadablePart image v f
  pub read : IsReadIn image v f dir
  pub packed : IsCut entry_size 254 12 (entries_read dir) (kept name_number (joined (entries_read dir)))
  pub changes : ChangesOne name_number (kept name_number (joined (entries_read dir))) entries

-- so many blocks and these writes are a plan for a directory of these old blocks that is to have these entries
abbrev pub IsDirPlan : List (List Entry) → List Entry → ℕ → List (ℕ × List Entry) → Type 0
IsDirPlan old entries blocks writes = IsPlan name_number chain_size 254 12 old entries blocks writes

-- Entries that a directory may have: each is lawful, and their names rise.
pub record AreForDir (entries : List Entry) : Type 0 where
  pub few : length entries < 2 ^ 32 - 1
  pub rise : Rises name_number entries
  pub each : AllByRecursion IsReadEntry entries

-- an operation on the volume of an image makes these the entries of the directory of a data set, unless they need more blocks than it has
abbrev pub MakesEntries : (Volume → Result Volume Refusal) → List ℕ → F1 → ℕ → List Entry → Type 0
MakesEntries operation image f dir entries = (volume : Volume) → volume_of image ≡ Ok volume
    → operation volume ≡ refuse (nat_lt dir (directory_needed entries)) (DirFull (directory_needed entries)) (Ok (with_set volume f.name (with_entries entries)))
