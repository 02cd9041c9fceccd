-- Packs that are ready, by the list of their indexes and that of what is known of them.
use Rattle.std.proofs.Common.{◌≡◌, ◌<◌, ◌∙◌, ℕ, zero, suc, Bool, IsTrue, List, [], ◌∷◌, get_or, length, set, Some, refl, sym, ap, subst, arith}
use Rattle.std.specs.Prelude.{slice_get}
use Rattle.std.proofs.lemmas.List.{length-map}
use Rattle.std.proofs.lemmas.Option.{slice_get-get_or}
use Rattle.ckd_image.specs.declared.header.Geometry.{Geometry}
use Rattle.free_rebuild.specs.Repairs.{image_named}
use Rattle.hall_core.specs.Facts.{Attached, Facts, unit_of}
use Rattle.stop_model.specs.Files.{File}
use Rattle.stop_model.specs.Moments.{Meaning}
use Rattle.vtoc_index.specs.Index.{IsOfUnit}
use Rattle.vtoc_index.specs.Names.{AreByName, name_at}
use Rattle.vtoc_index.specs.declared.vol.Vol.{Vol}
use Rattle.vtoc_sets.specs.Sets.{volume_in}
use Rattle.shelf_machine.specs.Known.{AreHeld, HaveBuffers, KnowsBodies, buffers_of}
use Rattle.pack_machine.specs.Known.{HoldsPack, ListsUnread}
use Rattle.shelf_machine.specs.Machine.{AreIndexes, AreInOrder, AreKept, shelf_under, units_of}
use Rattle.shelf_machine.specs.Opening.{names_of}
use Rattle.shelf_machine.specs.PendingShelves.{kept_in}
use Rattle.shelf_machine.specs.ReadyPacks.{AreAlike, AreReady, caches_of, vols_of}
use Rattle.pack_machine.specs.Ready.{IsOfImage, file_name}
use Rattle.pack_machine.specs.declared.pack.Pack.{Pack}
use Rattle.pack_machine.specs.declared.pack_cache.PackCache.{PackCache}
use Rattle.shelf_machine.proofs.Holding.{kept_mounted, volume_there}
use Rattle.shelf_machine.proofs.KnownLemmas.{lists_held}
use Rattle.pack_machine.proofs.ListPlaces.{get_map, map_set, of_map, set_itself}
use Rattle.shelf_machine.proofs.ReadMachines.{both_same}
use Rattle.pack_machine.proofs.Resting.{lists_on}

-- each has a buffer of its geometry
pub have_buffers : (packs : List Pack) → HaveBuffers (vols_of packs) (caches_of packs)
have_buffers [] = refl
have_buffers (p ∷ packs) = ap (λ (g : Geometry). g ∷ buffers_of (caches_of packs)) p.buffer ∙ ap (λ (gs : List Geometry). p.vol.geometry ∷ gs) (have_buffers packs)

-- the lists of packs of which one is set
pub vols_set : (packs : List Pack) (k : ℕ) (p : Pack) → vols_of (set packs k p) ≡ set (vols_of packs) k p.vol
vols_set packs k p = map_set (λ (q : Pack). q.vol) packs k p

pub caches_set : (packs : List Pack) (k : ℕ) (p : Pack) → caches_of (set packs k p) ≡ set (caches_of packs) k p.cache
caches_set packs k p = map_set (λ (q : Pack). q.cache) packs k p

-- they stay where the index of that pack does
pub vols_kept : (packs : List Pack) (k : ℕ) (p p' : Pack) → slice_get packs k ≡ Some p → p'.vol ≡ p.vol → vols_of (set packs k p') ≡ vols_of packs
vols_kept packs k p p' at same =
    vols_set packs k p' ∙ ap (λ (v : Vol). set (vols_of packs) k v) same ∙ set_itself (vols_of packs) k p.vol (get_map (λ (q : Pack). q.vol) packs k p at)

-- what an index of the list finds
pub pack_at : (packs : List Pack) (k : ℕ) (p : Pack) → k < length packs → p ≡ get_or packs k p → slice_get packs k ≡ Some p
pack_at packs k p low is = slice_get-get_or packs k p low ∙ ap (λ (q : Pack). Some q) (sym is)

-- the pack that it finds of a number below that of all, and its index
pub pack_of : (packs : List Pack) (k n : ℕ) (p : Pack) → k ≡ n → n < length (vols_of packs) → p ≡ get_or packs k p → slice_get packs k ≡ Some p
pack_of packs k n p same low is = pack_at packs k p (omega (arith, same, low, length-map packs (λ (q : Pack). q.vol))) is

pub index_vol : (packs : List Pack) (k n : ℕ) (p : Pack) → k ≡ n → n < length (vols_of packs) → p ≡ get_or packs k p → slice_get (vols_of packs) n ≡ Some p.vol
index_vol packs k n p same low is = ap (slice_get (vols_of packs)) (sym same) ∙ get_map (λ (q : Pack). q.vol) packs k p (pack_of packs k n p same low is)

-- the pack of which this is the index, and this is known
pub pack_there : (packs : List Pack) (k : ℕ) (v : Vol) (b : PackCache) → slice_get (vols_of packs) k ≡ Some v → slice_get (caches_of packs) k ≡ Some b → (p : Pack) × (slice_get packs k ≡ Some p) × (p.vol ≡ v) × (p.cache ≡ b)
pack_there [] k v b at there = absurd cc
pack_there (p ∷ packs) zero v b at there = (p, refl, cc, cc)
pack_there (p ∷ packs) (suc k) v b at there = pack_there packs k v b at there

module _ {tells : Bool} {f : Facts} {m : Meaning (List File)} {packs : List Pack} (ready : AreReady tells f m packs) where
  -- their data sets stand in order
  pub order_in : AreInOrder (vols_of packs)
  order_in k v at =
      let one = of_map (λ (p : Pack). p.vol) packs k v at in
      subst (λ (w : Vol). AreByName (name_at w.slots.items) w.by_name.items) one.2 (ready.each k one.0 one.1).names

  -- the sets of their shelf that can't be read are known
  pub bodies_in : IsTrue tells → KnowsBodies (shelf_under (names_of f.units (units_of (vols_of packs))) m.state) (caches_of packs)
  bodies_in told n b there =
      let vols = vols_of packs in
      let shelf = shelf_under (names_of f.units (units_of vols)) m.state in
      let one = of_map (λ (p : Pack). p.cache) packs n b there in
      let p : Pack = one.0 in
      let volume = volume_there m.state f.units vols (kept_mounted m.state f.units vols (kept_in ready told)) ready.indexes.serials n p.vol (get_map (λ (q : Pack). q.vol) packs n p one.1) in
      subst (λ (c : PackCache). ListsUnread shelf n c.unread.items) one.2
      (lists_on (volume_in (image_named m.state (file_name f p.vol)) p.vol) p.cache.unread.items ((ready.each n p one.1).image told).lists shelf n volume)

  -- what is held of them is that of their images
  pub held_in : IsTrue tells → AreHeld m.state f.units (vols_of packs) (caches_of packs)
  held_in told n v b at there =
      let one = pack_there packs n v b at there in
      let p : Pack = one.0 in
      subst (λ (w : Vol). HoldsPack (image_named m.state (unit_of f.units w.unit).name) w b) one.2
      (subst (HoldsPack (image_named m.state (file_name f p.vol)) p.vol) one.3 ((ready.each n p one.1).image told).held)

-- packs are ready where all this is so
pub ready_by : (tells : Bool) (f : Facts) (m : Meaning (List File)) (packs : List Pack) → AreIndexes f.units (vols_of packs) → AreInOrder (vols_of packs) → (IsTrue tells → AreKept m.state f.units (vols_of packs))
    → (IsTrue tells → KnowsBodies (shelf_under (names_of f.units (units_of (vols_of packs))) m.state) (caches_of packs)) → (IsTrue tells → AreHeld m.state f.units (vols_of packs) (caches_of packs)) → AreReady tells f m packs
ready_by tells f m packs indexes order kept bodies held = record {
  indexes = indexes;
  each = λ k p at.
      let here = get_map (λ (q : Pack). q.vol) packs k p at in
      let known = get_map (λ (q : Pack). q.cache) packs k p at in
      record {
        unit = indexes.each k p.vol here;
        names = order k p.vol here;
        image = λ told. record {
          kept = kept told k p.vol here;
          lists = lists_held m.state f.units (vols_of packs) (caches_of packs) k p.vol p.cache indexes (kept told) (bodies told) here known;
          held = held told k p.vol p.cache here known;
        };
      };
}

-- and where it is so of the lists of packs of which one is set
pub ready_set : (tells : Bool) (f : Facts) (m : Meaning (List File)) (packs : List Pack) (k : ℕ) (p : Pack) → AreIndexes f.units (set (vols_of packs) k p.vol) → AreInOrder (set (vols_of packs) k p.vol)
    → (IsTrue tells → AreKept m.state f.units (set (vols_of packs) k p.vol))
    → (IsTrue tells → KnowsBodies (shelf_under (names_of f.units (units_of (set (vols_of packs) k p.vol))) m.state) (set (caches_of packs) k p.cache))
    → (IsTrue tells → AreHeld m.state f.units (set (vols_of packs) k p.vol) (set (caches_of packs) k p.cache)) → AreReady tells f m (set packs k p)
ready_set tells f m packs k p indexes order kept bodies held =
    let vols : set (vols_of packs) k p.vol ≡ vols_of (set packs k p) = sym (vols_set packs k p) in
    let caches : set (caches_of packs) k p.cache ≡ caches_of (set packs k p) = sym (caches_set packs k p) in
    ready_by tells f m (set packs k p) (subst (AreIndexes f.units) vols indexes) (subst AreInOrder vols order) (λ told. subst (AreKept m.state f.units) vols (kept told))
    (λ told. subst (λ (vs : List Vol). KnowsBodies (shelf_under (names_of f.units (units_of vs)) m.state) (caches_of (set packs k p))) vols
    (subst (KnowsBodies (shelf_under (names_of f.units (units_of (set (vols_of packs) k p.vol))) m.state)) caches (bodies told)))
    (λ told. subst (λ (vs : List Vol). AreHeld m.state f.units vs (caches_of (set packs k p))) vols (subst (AreHeld m.state f.units (set (vols_of packs) k p.vol)) caches (held told)))

-- they are ready still where the images and the units are as they were
pub ready_later : (tells : Bool) (f f' : Facts) (m m' : Meaning (List File)) (packs : List Pack) → f'.units ≡ f.units → (IsTrue tells → m'.state ≡ m.state) → AreReady tells f m packs → AreReady tells f' m' packs
ready_later tells f f' m m' packs units state ready = record {
  indexes = subst (λ (us : List Attached). AreIndexes us (vols_of packs)) (sym units) ready.indexes;
  each = λ k p at.
      let one = ready.each k p at in
      record {
        unit = subst (λ (us : List Attached). IsOfUnit us p.vol) (sym units) one.unit;
        names = one.names;
        image = λ told. both_same (λ (fs : List File) (us : List Attached). IsOfImage (image_named fs (unit_of us p.vol.unit).name) p) (state told) units (one.image told);
      };
}

-- and so are packs that are alike
pub ready_alike : (tells : Bool) (f : Facts) (m : Meaning (List File)) (packs packs' : List Pack) → AreAlike packs packs' → AreReady tells f m packs → AreReady tells f m packs'
ready_alike tells f m packs packs' alike ready = ready_by tells f m packs'
    (subst (AreIndexes f.units) (sym alike.vols) ready.indexes)
    (subst AreInOrder (sym alike.vols) (order_in ready))
    (λ told. subst (AreKept m.state f.units) (sym alike.vols) (kept_in ready told))
    (λ told. subst (λ (vs : List Vol). KnowsBodies (shelf_under (names_of f.units (units_of vs)) m.state) (caches_of packs')) (sym alike.vols)
    (subst (KnowsBodies (shelf_under (names_of f.units (units_of (vols_of packs))) m.state)) (sym alike.caches) (bodies_in ready told)))
    (λ told. subst (λ (vs : List Vol). AreHeld m.state f.units vs (caches_of packs')) (sym alike.vols)
    (subst (AreHeld m.state f.units (vols_of packs)) (sym alike.caches) (held_in ready told)))
