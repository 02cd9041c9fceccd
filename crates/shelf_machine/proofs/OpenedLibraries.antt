-- What is held of packs while one after another is repaired and its libraries are held.
use Rattle.std.proofs.Common.{◌≡◌, ◌≤◌, ◌+◌, ⊎_elim, ℕ, suc, Bool, List, [], ◌∷◌, ◌++◌, drop, length, set, Some, refl, sym, ap, subst, ◌∙◌, arith}
use Rattle.std.specs.Prelude.{IsTrue, Ok, slice_get}
use Rattle.std.proofs.lemmas.Bool.{cases_eq}
use Rattle.std.proofs.lemmas.List.{length-map}
use Rattle.ckd_image.specs.declared.header.Geometry.{Geometry}
use Rattle.free_rebuild.specs.Repairs.{image_named}
use Rattle.hall_core.specs.Facts.{Attached, Facts, unit_of}
use Rattle.mount_repair.specs.Repairs.{RepairsPack}
use Rattle.mount_repair.specs.Scans.{IsScanOf}
use Rattle.mount_repair.specs.declared.library.Library.{Library}
use Rattle.mount_repair.specs.declared.scanned.Scan.{Scan}
use Rattle.mount_repair.proofs.DeviceCalls.{Unreported}
use Rattle.seq_access.specs.declared.read_buf.Reach.TheVariants.{Nothing}
use Rattle.seq_access.specs.declared.read_buf.ReadBuf.{ReadBuf}
use Rattle.stop_model.specs.Files.{File}
use Rattle.stop_model.specs.Moments.{Meaning}
use Rattle.vtoc_index.specs.declared.vol.Vol.{Vol}
use Rattle.shelf_machine.specs.Known.{AreFresh, AreHeld, HoldsOn, KeepsLists, buffers_of}
use Rattle.pack_machine.specs.Known.{HoldLibraries, HoldsPack}
use Rattle.shelf_machine.specs.Packs.{AreKnown, indexes_of}
use Rattle.pack_machine.specs.declared.pack.Pack.{Pack}
use Rattle.pack_machine.specs.declared.pack_cache.PackCache.{PackCache}
use Rattle.shelf_machine.specs.ReadyPacks.{caches_of, vols_of}
use Rattle.shelf_machine.proofs.ForgottenTracks.{held_still, same_lists}
use Rattle.shelf_machine.proofs.KnownLemmas.{as_many, fresh_held, holds_set, one_geometry}
use Rattle.pack_machine.proofs.KnownLemmas.{nothing_held}
use Rattle.pack_machine.proofs.ListPlaces.{get_map}
use Rattle.shelf_machine.proofs.RepairLoops.{OpenedSoFar, at_last, none_more_scans, put_there, set_last, there}
use Rattle.pack_machine.proofs.StandingDirectories.{directory_read}
use Rattle.std.proofs.lemmas.Option.{same_Some}

-- the libraries of a scan stand on its image
pub scan_holds : (image : List ℕ) (s : Scan) → IsScanOf image s → HoldLibraries image s.vol s.libraries.items
scan_holds image s scan n l at =
    let is = (scan.libraries n l at).2 in
    directory_read image s.vol is.set is.part l.start l.dir is.start is.read

-- ---- other libraries are held of one pack

module _ (k : ℕ) (libraries : List Library) (old new : List PackCache) (holds : HoldsOn k libraries old new) where
  -- but for its libraries each is as it was
  pub holds_rest : (n : ℕ) (b : PackCache) → slice_get new n ≡ Some b → (a : PackCache) × (slice_get old n ≡ Some a) × (b.unread ≡ a.unread) × (b.buf ≡ a.buf)
  holds_rest n b at = ⊎_elim
      (λ same. let was = holds.here b (ap (slice_get new) (sym same) ∙ at) in (was.0, ap (slice_get old) same ∙ was.1, was.2, was.3))
      (λ differs. (b, sym (holds.others n differs) ∙ at, refl, refl))
      (cases_eq n k)

-- where each has the same buffer, the buffers' geometries are the same
pub same_buffers : (old new : List PackCache) → length new ≡ length old → ((n : ℕ) (b : PackCache) → slice_get new n ≡ Some b → (a : PackCache) × (slice_get old n ≡ Some a) × (b.buf ≡ a.buf)) → buffers_of new ≡ buffers_of old
same_buffers [] [] size each = refl
same_buffers [] (y ∷ new) size each = absurd (omega (arith, size))
same_buffers (x ∷ old) [] size each = absurd (omega (arith, size))
same_buffers (x ∷ old) (y ∷ new) size each =
    let first = each 0 y refl in
    let buffer : y.buf.records.geometry ≡ x.buf.records.geometry = ap (λ (b : ReadBuf). b.records.geometry) (first.2 ∙ ap (λ (a : PackCache). a.buf) (sym (same_Some _ _ first.1))) in
    let rest = same_buffers old new (omega (arith, size)) (λ n b at. each (suc n) b at) in
    ap (λ (g : Geometry). g ∷ buffers_of new) buffer ∙ ap (λ (gs : List Geometry). x.buf.records.geometry ∷ gs) rest

-- they are held of the first of the rest
pub holds_next : (first rest : List PackCache) (k : ℕ) (a b : PackCache) (libraries : List Library) → length first ≡ k → b.unread ≡ a.unread → b.buf ≡ a.buf → b.libraries.items ≡ libraries → HoldsOn k libraries (first ++ a ∷ rest) ((first ++ b ∷ []) ++ rest)
holds_next first rest k a b libraries size unread buf held =
    subst (HoldsOn k libraries (first ++ a ∷ rest)) (set_last first rest k a b size) (holds_set (first ++ a ∷ rest) k a b libraries (at_last first rest k a size) unread buf held)

-- and none is left
pub none_left : (first rest : List PackCache) → length (first ++ rest) ≡ length first → first ++ rest ≡ first
none_left [] [] same = refl
none_left [] (x ∷ rest) same = absurd (omega (arith, same))
none_left (x ∷ first) rest same = ap (λ (l : List PackCache). x ∷ l) (none_left first rest (omega (arith, same)))

-- so which data sets can't be read is known as before
pub holds_lists : (k : ℕ) (libraries : List Library) (old new : List PackCache) → HoldsOn k libraries old new → KeepsLists old new
holds_lists k libraries old new holds =
    let rest = holds_rest k libraries old new holds in record {
      buffers = same_buffers old new holds.size (λ n b at. let was = rest n b at in (was.0, was.1, was.3));
      unread = λ n b at. let was = rest n b at in (was.0, was.1, ap (λ us. us.items) was.2);
    }

pub lists_then : (a b c : List PackCache) → KeepsLists a b → KeepsLists b c → KeepsLists a c
lists_then a b c first next = record {
  buffers = next.buffers ∙ first.buffers;
  unread = λ n x at. let was = next.unread n x at in let before = first.unread n was.0 was.1 in (before.0, before.1, was.2 ∙ before.2);
}

-- ---- pack by pack

-- the buffer of the first of the rest has the geometry of its pack, repaired or not
pub buffer_next : (scans : List Scan) (known now : List PackCache) → AreKnown scans known → KeepsLists known now → (k : ℕ) (s : Scan) (v : Vol) (first rest : List PackCache) (b : PackCache) → slice_get scans k ≡ Some s → now ≡ first ++ b ∷ rest → length first ≡ k
    → v ≡ record s.vol { slots = v.slots; buf = v.buf } → b.buf.records.geometry ≡ v.geometry
buffer_next scans known now are keeps k s v first rest b at is size others =
    one_geometry (indexes_of scans) now k s.vol b (keeps.buffers ∙ are.buffers) (get_map (λ (x : Scan). x.vol) scans k s at) (ap (λ (l : List PackCache). slice_get l k) is ∙ at_last first rest k b size)
    ∙ sym (ap (λ (w : Vol). w.geometry) others)

-- What is known of packs of which so many first are repaired: no track is held, and the libraries that are held stand, on the repaired packs and on the rest.
pub record HeldSoFar (tells : Bool) (now : Facts) (m' : Meaning (List File)) (scans : List Scan) (vols : List Vol) (old known : List PackCache) (k : ℕ) : Type 0 where
  pub lists : KeepsLists old known
  pub tracks : (n : ℕ) (b : PackCache) → slice_get known n ≡ Some b → b.buf.reach ≡ Nothing
  pub held : IsTrue tells → AreHeld m'.state now.units (vols ++ indexes_of (drop k scans)) known

pub held_none : (tells : Bool) (facts : Facts) (m : Meaning (List File)) (scans : List Scan) (vols : List Vol) (known : List PackCache) → AreFresh known → HeldSoFar tells facts m scans vols known known 0
held_none tells facts m scans vols known fresh = record {
  lists = same_lists known;
  tracks = λ n b at. (fresh n b at).reach;
  held = λ told. fresh_held m.state facts.units (vols ++ indexes_of scans) known fresh;
}

module _ (tells : Bool) (old now : Facts) (m m' : Meaning (List File)) (scans : List Scan) (vols : List Vol) (k : ℕ) (so_far : OpenedSoFar tells old now m m' scans vols k) (s : Scan) (at : slice_get scans k ≡ Some s)
    (before known known' : List PackCache) (held : HeldSoFar tells now m' scans vols before known k) (s' : Scan) (holds : HoldsOn k s'.libraries.items known known') where
  -- the indexes of all, those that are repaired first
  abbrev all : List Vol
  all = vols ++ indexes_of (drop k scans)

  no_track : (n : ℕ) (b : PackCache) → slice_get known' n ≡ Some b → b.buf.reach ≡ Nothing
  no_track n b is =
      let was = holds_rest k s'.libraries.items known known' holds n b is in
      ap (λ (x : ReadBuf). x.reach) was.3 ∙ held.tracks n was.0 was.1

  -- the pack that was repaired
  this_held : (image : List ℕ) → IsScanOf image s' → (b : PackCache) → slice_get known' k ≡ Some b → HoldsPack image s'.vol b
  this_held image scan b is = record {
    track = nothing_held image b (no_track k b is);
    libraries = subst (HoldLibraries image s'.vol) (sym (holds.here b is).4) (scan_holds image s' scan);
  }

  -- one more is repaired
  pub held_next : {E : Type 0} (next : Facts) (m'' : Meaning (List File)) (vols' : List Vol) → s'.vol ≡ record s.vol { slots = s'.vol.slots; buf = s'.vol.buf } → Unreported now next
      → (IsTrue tells → RepairsPack {E = E} (unit_of now.units s.vol.unit).name m' m'' (Ok s')) → vols' ≡ vols ++ s'.vol ∷ [] → HeldSoFar tells next m'' scans vols' before known' (k + 1)
  held_next next m'' vols' others call run pushed = record {
    lists = lists_then before known known' held.lists (holds_lists k s'.libraries.items known known' holds);
    tracks = no_track;
    held = λ told.
        let done = (run told).done in
        let same : set all k s'.vol ≡ vols' ++ indexes_of (drop (k + 1) scans) =
        put_there tells old now m m' scans vols k so_far s at s'.vol ∙ ap (λ (l : List Vol). l ++ indexes_of (drop (k + 1) scans)) (sym pushed) in
        subst (λ (us : List Attached). AreHeld m''.state us (vols' ++ indexes_of (drop (k + 1) scans)) known') (sym call.units)
        (subst (λ (l : List Vol). AreHeld m''.state now.units l known') same
        (held_still m'.state m''.state now.units all known known' k s.vol s'.vol (there tells old now m m' scans vols k so_far s at)
        so_far.repairs.indexes.names (ap (λ (v : Vol). v.unit) others) done.stays.others holds.others (this_held (image_named m''.state (unit_of now.units s.vol.unit).name) done.scan) (held.held told)));
  }

-- all are repaired
pub held_done : (tells : Bool) (now : Facts) (m' : Meaning (List File)) (scans : List Scan) (vols : List Vol) (old known : List PackCache) (k : ℕ) → HeldSoFar tells now m' scans vols old known k → length scans ≤ k → IsTrue tells → AreHeld m'.state now.units vols known
held_done tells now m' scans vols old known k held low told = subst (λ (l : List Vol). AreHeld m'.state now.units l known) (none_more_scans scans k vols low) (held.held told)

-- and nothing that is known is left over
pub none_over : (tells : Bool) (old now : Facts) (m m' : Meaning (List File)) (scans : List Scan) (packs : List Pack) (known rest : List PackCache) (k : ℕ) → OpenedSoFar tells old now m m' scans (vols_of packs) k → AreKnown scans known
    → KeepsLists known (caches_of packs ++ rest) → k ≡ length scans → caches_of packs ++ rest ≡ caches_of packs
none_over tells old now m m' scans packs known rest k so_far are keeps low =
    none_left (caches_of packs) rest (omega (
      arith,
      low,
      so_far.size,
      length-map packs (λ (p : Pack). p.cache),
      length-map packs (λ (p : Pack). p.vol),
      length-map scans (λ (x : Scan). x.vol),
      as_many (indexes_of scans) (caches_of packs ++ rest) (keeps.buffers ∙ are.buffers),
    ))
