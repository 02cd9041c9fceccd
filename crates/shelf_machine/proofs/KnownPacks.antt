-- What is known of the bodies on packs that were scanned, pack by pack, and of the shelf of their images.
use Rattle.std.proofs.Common.{◌≡◌, ◌≤◌, ◌+◌, ⊎_elim, ℕ, suc, zero, List, [], ◌∷◌, ◌++◌, length, Option, Some, sym, ap, subst, ◌∙◌, refl, arith}
use Rattle.std.specs.Prelude.{Contains, option_and_then, slice_get, take}
use Rattle.std.proofs.lemmas.List.{length-map}
use Rattle.ckd_image.specs.declared.header.Geometry.{Geometry}
use Rattle.free_rebuild.specs.Repairs.{image_named}
use Rattle.hall_core.specs.Facts.{Attached, unit_of}
use Rattle.mount_repair.specs.declared.scanned.Scan.{Scan}
use Rattle.mount_repair.proofs.Lists.{of_push, take_all, take_push}
use Rattle.stop_model.specs.Files.{File}
use Rattle.vol_model.specs.declared.contents.Volume.{Volume}
use Rattle.vol_model.specs.Shelf.{set_of}
use Rattle.vol_model.specs.Writing.{set_on}
use Rattle.vtoc_index.specs.declared.vol.Vol.{Vol}
use Rattle.pack_machine.specs.Checking.{unread_in}
use Rattle.shelf_machine.specs.Known.{AreFresh, KnowsBodies, buffers_of, geometries_of}
use Rattle.pack_machine.specs.Known.{IsFresh}
use Rattle.shelf_machine.specs.Machine.{serials_of, shelf_under, units_of}
use Rattle.shelf_machine.specs.Opening.{AreApart, names_of}
use Rattle.shelf_machine.specs.Packs.{AreKnown, AreScanned, AreScansOf, indexes_of}
use Rattle.pack_machine.specs.Unread.{broken_in, track_in}
use Rattle.pack_machine.specs.declared.pack_cache.PackCache.{PackCache}
use Rattle.pack_machine.specs.declared.unread.Unread.{Unread}
use Rattle.shelf_machine.proofs.Holding.{volume_there}
use Rattle.pack_machine.proofs.ListPlaces.{contains_at, get_map}
use Rattle.shelf_machine.proofs.ListedSets.{lists_all}
use Rattle.shelf_machine.proofs.ReadingPacks.{map_push, mounted_scans}

-- what is known of a pack, by its scan
abbrev pub IsKnownOf : List Scan → ℕ → PackCache → Type 0
IsKnownOf scans n b = (s : Scan) × (slice_get scans n ≡ Some s) × (b.unread.items ≡ unread_in s.volume.items)

-- the unit of a scan is one of all
pub scan_unit : (scans : List Scan) (k : ℕ) (s : Scan) → slice_get scans k ≡ Some s → Contains (units_of (indexes_of scans)) s.vol.unit
scan_unit scans k s at = contains_at (units_of (indexes_of scans)) k s.vol.unit (get_map (λ (w : Vol). w.unit) (indexes_of scans) k s.vol (get_map (λ (x : Scan). x.vol) scans k s at))

-- So many packs are looked at.
pub record KnownSoFar (scans : List Scan) (known : List PackCache) (k : ℕ) : Type 0 where
  pub buffers : buffers_of known ≡ take k (geometries_of (indexes_of scans))
  pub fresh : AreFresh known
  pub unread : (n : ℕ) (b : PackCache) → slice_get known n ≡ Some b → IsKnownOf scans n b

pub known_none : (scans : List Scan) (known : List PackCache) → known ≡ [] → KnownSoFar scans known 0
known_none scans known none = subst (λ (l : List PackCache). KnownSoFar scans l 0) (sym none) (record { buffers = refl; fresh = λ n b at. absurd cc; unread = λ n b at. absurd cc })

module _ (scans : List Scan) (known : List PackCache) (k : ℕ) (so_far : KnownSoFar scans known k) where
  -- one more
  pub known_next : (s : Scan) (b : PackCache) (known' : List PackCache) → slice_get scans k ≡ Some s → known' ≡ known ++ b ∷ [] → IsFresh b → b.buf.records.geometry ≡ s.vol.geometry → b.unread.items ≡ unread_in s.volume.items → KnownSoFar scans known' (k + 1)
  known_next s b known' at pushed fresh geometry unread = subst (λ (l : List PackCache). KnownSoFar scans l (k + 1)) (sym pushed) (record {
    buffers = map_push (λ (x : PackCache). x.buf.records.geometry) known b
        ∙ ap (λ (gs : List Geometry). gs ++ b.buf.records.geometry ∷ []) so_far.buffers
        ∙ ap (λ (g : Geometry). take k geometries ++ g ∷ []) geometry
        ∙ sym (take_push geometries k s.vol.geometry here);
    fresh = λ n x there. ⊎_elim (λ was. so_far.fresh n x was) (λ now. subst IsFresh now.1 fresh) (of_push known b n x there);
    unread = λ n x there. ⊎_elim (λ was. so_far.unread n x was) (λ now. subst (IsKnownOf scans n) now.1 (s, ap (slice_get scans) (now.0 ∙ many) ∙ at, unread)) (of_push known b n x there);
  })
    where
      geometries : List Geometry
      geometries = geometries_of (indexes_of scans)

      here : slice_get geometries k ≡ Some s.vol.geometry
      here = get_map (λ (w : Vol). w.geometry) (indexes_of scans) k s.vol (get_map (λ (x : Scan). x.vol) scans k s at)

      within : {X : Type 0} (xs : List X) (j : ℕ) (x : X) → slice_get xs j ≡ Some x → (length (take j xs) ≡ j)
      within [] j x there = cc
      within (y ∷ ys) zero x there = refl
      within (y ∷ ys) (suc j) x there = ap suc (within ys j x there)

      many : length known ≡ k
      many = sym (length-map known (λ (x : PackCache). x.buf.records.geometry)) ∙ ap (λ (gs : List Geometry). length gs) so_far.buffers ∙ within geometries k s.vol.geometry here

  -- all are
  pub known_all : length scans ≤ k → AreKnown scans known
  known_all low = record {
    buffers = so_far.buffers ∙ take_all (geometries_of (indexes_of scans)) k (omega (arith, low, length-map (indexes_of scans) (λ (w : Vol). w.geometry), length-map scans (λ (x : Scan). x.vol)));
    fresh = so_far.fresh;
    unread = so_far.unread;
  }

-- the bodies of the shelf of the images are known so
pub known_bodies : (files : List File) (attached : List Attached) (units : List ℕ) (scans : List Scan) (known : List PackCache) → AreKnown scans known → AreScanned attached units scans → AreScansOf files attached scans → AreApart (serials_of (indexes_of scans))
    → KnowsBodies (shelf_under (names_of attached (units_of (indexes_of scans))) files) known
unfolding set_on
known_bodies files attached units scans known are scanned images apart n b at name =
    let one = are.unread n b at in
    let s : Scan = one.0 in
    let image : List ℕ = image_named files (unit_of attached s.vol.unit).name in
    let here : slice_get (indexes_of scans) n ≡ Some s.vol = get_map (λ (x : Scan). x.vol) scans n s one.1 in
    let there = volume_there files attached (indexes_of scans) (mounted_scans files attached scans images) apart n s.vol here in
    let scan = images n s one.1 in
    ap (λ (l : List Unread). track_in l name) (one.2 ∙ ap unread_in scan.volume) ∙ lists_all image s.vol scan.mounted (scanned.each n s one.1).names name
    ∙ sym (ap (λ (o : Option Volume). option_and_then broken_in (option_and_then (set_of name) o)) there)
