-- What is known of the bodies on several packs, in this project's profile.
use Rattle.std.specs.Prelude.{◌≡◌, ◌≢◌, ℕ, List, length, map, slice_get, Some}
use Rattle.ckd_image.specs.declared.header.Geometry.{Geometry}
use Rattle.free_rebuild.specs.Repairs.{image_named}
use Rattle.hall_core.specs.Facts.{Attached, unit_of}
use Rattle.seq_access.specs.declared.read_buf.Reach.TheVariants.{Nothing}
use Rattle.stop_model.specs.Files.{File}
use Rattle.vol_model.specs.declared.contents.Shelf.{Shelf}
use Rattle.vtoc_index.specs.declared.vol.Vol.{Vol}
use Rattle.pack_machine.specs.declared.pack_cache.PackCache.{PackCache}
use Rattle.mount_repair.specs.declared.library.Library.{Library}
use Rattle.pack_machine.specs.Known.{HoldsPack, IsFresh, ListsUnread}

-- of each pack of a shelf just those sequential and partitioned data sets are listed whose bodies can't be read
abbrev pub KnowsBodies : Shelf → List PackCache → Type 0
KnowsBodies shelf known = (n : ℕ) (b : PackCache) → slice_get known n ≡ Some b → ListsUnread shelf n b.unread.items

-- the geometries of packs, and those of buffers
abbrev pub geometries_of : List Vol → List Geometry
geometries_of vols = map (λ (v : Vol). v.geometry) vols

abbrev pub buffers_of : List PackCache → List Geometry
buffers_of known = map (λ (b : PackCache). b.buf.records.geometry) known

-- there is a buffer for each pack, of its geometry
abbrev pub HaveBuffers : List Vol → List PackCache → Type 0
HaveBuffers vols known = buffers_of known ≡ geometries_of vols

-- the buffer of each pack holds its track, and its libraries are those of its data sets
abbrev pub AreHeld : List File → List Attached → List Vol → List PackCache → Type 0
AreHeld files attached vols known = (n : ℕ) (v : Vol) (b : PackCache) → slice_get vols n ≡ Some v
    → slice_get known n ≡ Some b
    → HoldsPack (image_named files (unit_of attached v.unit).name) v b

-- no track is held of any pack, and no library
abbrev pub AreFresh : List PackCache → Type 0
AreFresh known = (n : ℕ) (b : PackCache) → slice_get known n ≡ Some b → IsFresh b

-- Which data sets can't be read is known as before, and the buffers have the same geometries.
pub record KeepsLists (old new : List PackCache) : Type 0 where
  pub buffers : buffers_of new ≡ buffers_of old
  pub unread : (n : ℕ) (b : PackCache) → slice_get new n ≡ Some b → (a : PackCache) × (slice_get old n ≡ Some a) × (b.unread.items ≡ a.unread.items)

-- No track is held any more of the pack of this number; the rest of what is known stays.
pub record ForgetsOn (k : ℕ) (old new : List PackCache) : Type 0 where
  pub buffers : buffers_of new ≡ buffers_of old
  pub rest : (n : ℕ) (b : PackCache) → slice_get new n ≡ Some b → (a : PackCache) × (slice_get old n ≡ Some a)
      × (b.unread.items ≡ a.unread.items) × (b.libraries.items ≡ a.libraries.items)
  pub others : (n : ℕ) → n ≢ k → slice_get new n ≡ slice_get old n
  pub here : (b : PackCache) → slice_get new k ≡ Some b → b.buf.reach ≡ Nothing

-- These libraries are held of the pack of this number, instead of others; the rest of what is known stays.
pub record HoldsOn (k : ℕ) (libraries : List Library) (old new : List PackCache) : Type 0 where
  pub size : length new ≡ length old
  pub others : (n : ℕ) → n ≢ k → slice_get new n ≡ slice_get old n
  pub here : (b : PackCache) → slice_get new k ≡ Some b → (a : PackCache) × (slice_get old k ≡ Some a)
      × (b.unread ≡ a.unread) × (b.buf ≡ a.buf) × (b.libraries.items ≡ libraries)
