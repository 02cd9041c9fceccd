-- What is known of the bodies on several packs, kept through the calls of a machine.
use Rattle.std.proofs.Common.{◌≡◌, ℕ, List, length, set, Option, Some, sym, ap, subst, ◌∙◌}
use Rattle.std.specs.Prelude.{Ok, option_and_then, slice_get}
use Rattle.std.proofs.lemmas.List.{length-map}
use Rattle.std.proofs.lemmas.Option.{same_Some}
use Rattle.free_rebuild.specs.Repairs.{image_named}
use Rattle.hall_core.specs.Facts.{Attached, unit_of}
use Rattle.mount_repair.specs.declared.library.Library.{Library}
use Rattle.stop_model.specs.Files.{File}
use Rattle.ckd_image.specs.declared.header.Geometry.{Geometry}
use Rattle.vol_model.specs.declared.contents.Shelf.{Shelf}
use Rattle.vol_model.specs.declared.contents.Volume.{Volume}
use Rattle.vol_model.specs.Shelf.{set_of}
use Rattle.vol_model.specs.Writing.{set_on}
use Rattle.vtoc_index.specs.declared.vol.Vol.{Vol}
use Rattle.vtoc_sets.specs.Sets.{volume_in}
use Rattle.shelf_machine.specs.Machine.{AreIndexes, AreKept, shelf_or_none, shelf_under, units_of}
use Rattle.shelf_machine.specs.Opening.{images_named, names_of}
use Rattle.pack_spec.specs.Shelf.{shelf_of}
use Rattle.shelf_machine.specs.Known.{AreFresh, AreHeld, HaveBuffers, HoldsOn, KnowsBodies}
use Rattle.pack_machine.specs.Known.{ListsBroken}
use Rattle.pack_machine.specs.declared.pack_cache.PackCache.{PackCache}
use Rattle.pack_machine.specs.Unread.{broken_in}
use Rattle.shelf_machine.proofs.Holding.{kept_mounted, volume_there}
use Rattle.pack_machine.proofs.ListPlaces.{get_map, get_other, get_set, set_size}
use Rattle.pack_machine.proofs.KnownLemmas.{fresh_pack}

pub fresh_held : (files : List File) (attached : List Attached) (vols : List Vol) (known : List PackCache) → AreFresh known → AreHeld files attached vols known
fresh_held files attached vols known fresh n v b at there = fresh_pack (image_named files (unit_of attached v.unit).name) v b (fresh n b there)

-- a pack and its buffer have one geometry
pub one_geometry : (vols : List Vol) (known : List PackCache) (n : ℕ) (v : Vol) (b : PackCache) → HaveBuffers vols known → slice_get vols n ≡ Some v → slice_get known n ≡ Some b → b.buf.records.geometry ≡ v.geometry
one_geometry vols known n v b have at there = some_geometry (
    sym (get_map (λ (x : PackCache). x.buf.records.geometry) known n b there)
    ∙ ap (λ (gs : List Geometry). slice_get gs n) have
    ∙ get_map (λ (w : Vol). w.geometry) vols n v at)
  where
    some_geometry : {a b : Geometry} → Some a ≡ Some b → a ≡ b
    some_geometry same = cc

-- there are as many
pub as_many : (vols : List Vol) (known : List PackCache) → HaveBuffers vols known → length known ≡ length vols
as_many vols known have =
    sym (length-map known (λ (b : PackCache). b.buf.records.geometry)) ∙ ap length have ∙ length-map vols (λ (v : Vol). v.geometry)

-- ---- one pack

-- libraries are held of one pack
pub holds_set : (known : List PackCache) (k : ℕ) (a b : PackCache) (libraries : List Library) → slice_get known k ≡ Some a → b.unread ≡ a.unread → b.buf ≡ a.buf → b.libraries.items ≡ libraries → HoldsOn k libraries known (set known k b)
holds_set known k a b libraries there unread buf held = record {
  size = set_size known k b;
  others = λ n differs. get_other known n k b differs;
  here = λ x is.
      let this : b ≡ x = same_Some _ _ (sym (get_set known k a b there) ∙ is) in
      subst (λ (y : PackCache). (o : PackCache) × (slice_get known k ≡ Some o) × (y.unread ≡ o.unread) × (y.buf ≡ o.buf) × (y.libraries.items ≡ libraries)) this (a, there, unread, buf, held);
}

-- the list of a pack has the sets of its image's volume that can't be read
pub lists_held : (files : List File) (attached : List Attached) (vols : List Vol) (known : List PackCache) (k : ℕ) (v : Vol) (b : PackCache) → AreIndexes attached vols → AreKept files attached vols
    → KnowsBodies (shelf_under (names_of attached (units_of vols)) files) known → slice_get vols k ≡ Some v → slice_get known k ≡ Some b
    → ListsBroken (volume_in (image_named files (unit_of attached v.unit).name) v) b.unread.items
unfolding set_on
lists_held files attached vols known k v b indexes kept knows at there name =
    knows k b there name
    ∙ ap (λ (o : Option Volume). option_and_then broken_in (option_and_then (set_of name) o)) (volume_there files attached vols (kept_mounted files attached vols kept) indexes.serials k v at)

-- ---- the repair

-- images that stand for the same shelf have the same bodies
pub known_repaired : (names names' : List (List ℕ)) (files files' : List File) (known : List PackCache) (shelf : Shelf) → names' ≡ names → shelf_of (images_named files names) ≡ Ok shelf → shelf_of (images_named files' names) ≡ Ok shelf
    → KnowsBodies (shelf_under names files) known → KnowsBodies (shelf_under names' files') known
known_repaired names names' files files' known shelf same before after knows =
    subst (λ (s : Shelf). KnowsBodies s known) (ap shelf_or_none (before ∙ sym after) ∙ ap (λ (ns : List (List ℕ)). shelf_under ns files') (sym same)) knows
