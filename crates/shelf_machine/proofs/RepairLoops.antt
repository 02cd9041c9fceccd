-- How far the repair of the packs of several indexes has come.
use Rattle.std.proofs.Common.{◌≡◌, ◌≢◌, ◌<◌, ◌≤◌, ◌+◌, ⊎_elim, ℕ, zero, suc, Bool, List, [], ◌∷◌, ◌++◌, drop, length, set, Option, Some, sym, ap, subst, ◌∙◌, refl, arith}
use Rattle.std.specs.Prelude.{Contains, IsTrue, Result, Ok, Err, slice_get, unwrap_or}
use Rattle.std.proofs.lemmas.Bool.{cases_eq}
use Rattle.std.proofs.lemmas.List.{length-map}
use Rattle.free_rebuild.specs.Repairs.{image_named}
use Rattle.free_rebuild.proofs.SettledBool.{settled_true}
use Rattle.hall_core.specs.Facts.{Attached, Facts, unit_of}
use Rattle.stop_model.specs.Files.{File, file_of}
use Rattle.stop_model.specs.Moments.{IsDurable, Meaning}
use Rattle.mount_repair.specs.Repairs.{RepairsPack}
use Rattle.mount_repair.specs.Scans.{IsScanOf, IsScanOn}
use Rattle.mount_repair.specs.declared.scanned.Scan.{Scan}
use Rattle.mount_repair.proofs.DeviceCalls.{Unreported, reported_none, unreported}
use Rattle.pack_spec.specs.Settled.{IsSettled}
use Rattle.pds_directory.proofs.PackedTests.{are_packed_is}
use Rattle.vtoc_index.specs.Index.{IsMounted, IsOfUnit}
use Rattle.vtoc_index.specs.Names.{AreByName, name_at}
use Rattle.vtoc_index.specs.declared.vol.Vol.{Vol}
use Rattle.vtoc_index.proofs.KeptLemmas.{kept_of}
use Rattle.shelf_machine.specs.Machine.{AreIndexes, AreInOrder, AreKept, units_of}
use Rattle.shelf_machine.specs.Opening.{images_named, names_of}
use Rattle.shelf_machine.specs.Packs.{AreMounted, AreOfSamePacks, AreScansOf, RepairsAll, indexes_of}
use Rattle.shelf_machine.proofs.Holding.{held_stand, serials_apart, shelf_held, volumes_held}
use Rattle.pack_machine.proofs.ListPlaces.{contains_at, get_map, get_other, get_set, map_set_same}
use Rattle.pack_machine.specs.Ready.{IsSamePack}
use Rattle.shelf_machine.proofs.Operating.{indexes_after, name_there, order_after}
use Rattle.shelf_machine.proofs.Repairing.{Repaired, opens_more, repaired_more, repaired_none}
use Rattle.shelf_machine.proofs.ShelfLemmas.{shelf_there}
use Rattle.std.proofs.lemmas.Option.{slice_get_within}
use Rattle.pack_machine.proofs.OneVolume.{pack_same}

pub record RepairsSoFar (tells : Bool) (old now : Facts) (m m' : Meaning (List File)) (before vols : List Vol) (k : ℕ) : Type 0 where
  pub facts : Unreported old now
  pub packs : AreOfSamePacks before vols
  pub indexes : AreIndexes now.units vols
  pub order : AreInOrder vols
  pub mounted : IsTrue tells → AreMounted m'.state now.units vols
  pub settled : IsTrue tells → (j : ℕ) (v : Vol) → j < k → slice_get vols j ≡ Some v → IsSettled (image_named m'.state (unit_of now.units v.unit).name)
  pub durable : IsTrue tells → IsDurable m'
  pub run : IsTrue tells → Repaired (names_of old.units (units_of before)) (volumes_held m.state old.units before) k m m'

-- ---- one pack more

-- a number up to another that isn't it is lower
lower : (i k : ℕ) → i ≤ k → i ≢ k → i < k
lower zero zero low differs = absurd (differs refl)
lower zero (suc k) low differs = omega arith
lower (suc i) zero low differs = absurd (omega (arith, low))
lower (suc i) (suc k) low differs = omega (arith, lower i k (omega (arith, low)) (λ same. differs (ap suc same)))

module _ (old new : Facts) (vols : List Vol) (k : ℕ) (v v' : Vol) (there : slice_get vols k ≡ Some v) (same : IsSamePack v v') (units : new.units ≡ old.units) (indexes : AreIndexes old.units vols)
    (files after : List File) (others : (other : List ℕ) → other ≢ (unit_of old.units v.unit).name → file_of after other ≡ file_of files other) where
  -- what holds of each index and its image holds where it holds of the one that is repaired
  pub each_after : (P : List ℕ → Vol → Type 0) (n : ℕ) → ((j : ℕ) (u : Vol) → j < n → j ≢ k → slice_get vols j ≡ Some u → P (image_named files (unit_of old.units u.unit).name) u)
      → P (image_named after (unit_of old.units v.unit).name) v' → (j : ℕ) (u : Vol) → j < n → slice_get (set vols k v') j ≡ Some u → P (image_named after (unit_of new.units u.unit).name) u
  each_after P n each here j u low at = subst (λ (us : List Attached). P (image_named after (unit_of us u.unit).name) u) (sym units) (⊎_elim
      (λ is. let this : v' ≡ u = some_vol (sym (get_set vols k v v' there) ∙ ap (slice_get (set vols k v')) (sym is) ∙ at) in
      subst (λ (w : Vol). P (image_named after (unit_of old.units w.unit).name) w) this
      (subst (λ (n : ℕ). P (image_named after (unit_of old.units n).name) v') (sym same.unit) here))
      (λ differs. let was : slice_get vols j ≡ Some u = sym (get_other vols j k v' differs) ∙ at in
      let another : (unit_of old.units u.unit).name ≢ (unit_of old.units v.unit).name =
      λ is. differs (indexes.names j k (unit_of old.units v.unit).name (name_there old.units vols j u was ∙ ap (λ (n : List ℕ). Some n) is) (name_there old.units vols k v there)) in
      let image : image_named after (unit_of old.units u.unit).name ≡ image_named files (unit_of old.units u.unit).name =
      ap (λ (o : Option (List ℕ)). unwrap_or o []) (others (unit_of old.units u.unit).name another) in
      subst (λ (i : List ℕ). P i u) (sym image) (each j u low differs was))
      (cases_eq j k))
    where
      some_vol : {a b : Vol} → Some a ≡ Some b → a ≡ b
      some_vol is = cc

  pub mounted_after : AreMounted files old.units vols → IsMounted (image_named after (unit_of old.units v.unit).name) v' → AreMounted after new.units (set vols k v')
  mounted_after mounted here j u at = each_after IsMounted (suc j) (λ i w low differs was. mounted i w was) here j u (omega arith) at

  pub settled_after : ((j : ℕ) (u : Vol) → j < k → slice_get vols j ≡ Some u → IsSettled (image_named files (unit_of old.units u.unit).name)) → IsSettled (image_named after (unit_of old.units v.unit).name)
      → (j : ℕ) (u : Vol) → j < k + 1 → slice_get (set vols k v') j ≡ Some u → IsSettled (image_named after (unit_of new.units u.unit).name)
  settled_after settled here j u low at = each_after (λ image _. IsSettled image) (k + 1) (λ i w less differs was. settled i w (below i less differs) was) here j u low at
    where
      below : (i : ℕ) → i < k + 1 → i ≢ k → i < k
      below i less differs = lower i k (omega (arith, less)) differs

pub packs_after : (before vols : List Vol) (k : ℕ) (v v' : Vol) → slice_get vols k ≡ Some v → IsSamePack v v' → AreOfSamePacks before vols → AreOfSamePacks before (set vols k v')
packs_after before vols k v v' there same packs = record {
  units = map_set_same (λ (w : Vol). w.unit) vols k v v' there same.unit ∙ packs.units;
  serials = map_set_same (λ (w : Vol). w.serial.bytes) vols k v v' there same.serial ∙ packs.serials;
  geometries = map_set_same (λ (w : Vol). w.geometry) vols k v v' there same.geometry ∙ packs.geometries;
}

-- the unit of an index is one of the packs'
pub unit_there : (before vols : List Vol) (k : ℕ) (v : Vol) → slice_get vols k ≡ Some v → AreOfSamePacks before vols → Contains (units_of before) v.unit
unit_there before vols k v there packs = subst (λ (us : List ℕ). Contains us v.unit) packs.units (contains_at (units_of vols) k v.unit (get_map (λ (w : Vol). w.unit) vols k v there))

-- there are as many
pub same_size : (before vols : List Vol) → AreOfSamePacks before vols → length vols ≡ length before
same_size before vols packs = sym (length-map vols (λ (w : Vol). w.unit)) ∙ ap length packs.units ∙ length-map before (λ (w : Vol). w.unit)

module _ (tells : Bool) (old now : Facts) (m m' : Meaning (List File)) (before vols : List Vol) (k : ℕ) (so_far : RepairsSoFar tells old now m m' before vols k) where
  abbrev names : List (List ℕ)
  names = names_of old.units (units_of before)

  -- the name of a pack's unit stands among those of all
  pub name_before : (v : Vol) → slice_get vols k ≡ Some v → slice_get names k ≡ Some (unit_of now.units v.unit).name
  name_before v there =
      ap (λ (us : List ℕ). slice_get (names_of old.units us) k) (sym so_far.packs.units)
      ∙ ap (λ (us : List Attached). slice_get (names_of us (units_of vols)) k) (sym so_far.facts.units)
      ∙ name_there now.units vols k v there

  -- one more is repaired
  pub repairs_next : {E : Type 0} (next : Facts) (m'' : Meaning (List File)) (v : Vol) (s : Scan) → AreIndexes old.units before → (IsTrue tells → AreMounted m.state old.units before) → slice_get vols k ≡ Some v
      → s.vol ≡ record v { slots = s.vol.slots; buf = s.vol.buf } → IsOfUnit next.units s.vol → AreByName (name_at s.vol.slots.items) s.vol.by_name.items
      → Unreported now next → (IsTrue tells → RepairsPack {E = E} (unit_of now.units v.unit).name m' m'' (Ok s)) → RepairsSoFar tells old next m m'' before (set vols k s.vol) (k + 1)
  repairs_next next m'' v s indexes mounted there others unit order call run =
      let same = pack_same v s.vol others in record {
        facts = reported_none old now next so_far.facts call (λ never. never);
        packs = packs_after before vols k v s.vol there same so_far.packs;
        indexes = indexes_after now next vols k v s.vol there same call.units so_far.indexes unit;
        order = order_after now next vols k v s.vol there same call.units so_far.order order;
        mounted = λ told. mounted_after now next vols k v s.vol there same call.units so_far.indexes m'.state m''.state (run told).done.stays.others (so_far.mounted told) (run told).done.scan.mounted;
        settled = λ told. settled_after now next vols k v s.vol there same call.units so_far.indexes m'.state m''.state (run told).done.stays.others (so_far.settled told) (run told).done.settled;
        durable = λ told. (run told).done.durable;
        run = λ told. repaired_more names (volumes_held m.state old.units before) indexes.names (serials_apart m.state old.units before (mounted told) indexes.serials) k (unit_of now.units v.unit).name (name_before v there)
            m m' (so_far.run told) m'' (Ok s) (run told) (run told).done.stays;
      }

  module _ (told : IsTrue tells) (indexes : AreIndexes old.units before) (mounted : AreMounted m.state old.units before) where
    -- a repair that failed
    pub repairs_stopped : {E F G : Type 0} (v : Vol) (new : Meaning (List File)) (r : Result Scan E) (e : F) (held : List Vol) → slice_get vols k ≡ Some v → RepairsPack (unit_of now.units v.unit).name m' new r
        → RepairsAll {T = G} names old.units held m new (Err e)
    repairs_stopped v new r e held there run =
        let serials = serials_apart m.state old.units before mounted indexes.serials in record {
          shelf = record { volumes = volumes_held m.state old.units before };
          before = shelf_held m.state old.units before mounted indexes.serials;
          after = tt;
          kept = tt;
          durable = tt;
          safe = opens_more names (volumes_held m.state old.units before) indexes.names serials k (unit_of now.units v.unit).name (name_before v there) m m' (so_far.run told) new r run;
        }

    -- all are repaired
    pub repairs_done : {T E : Type 0} (x : T) → length vols ≤ k → RepairsAll {E = E} names old.units vols m m' (Ok x)
    repairs_done x all =
        let serials = serials_apart m.state old.units before mounted indexes.serials in
        let kept : AreKept m'.state now.units vols = λ j v at.
        let image : List ℕ = image_named m'.state (unit_of now.units v.unit).name in
        let settled = so_far.settled told j v (omega (arith, slice_get_within vols j v at, all)) at in
        record {
          kept = kept_of image v (so_far.mounted told j v at);
          settled = settled_true image (settled.0, settled.1, settled.2);
          packed = are_packed_is image settled.0 settled.1 settled.3;
        } in
        record {
          shelf = record { volumes = volumes_held m.state old.units before };
          before = shelf_held m.state old.units before mounted indexes.serials;
          after = shelf_there (images_named m'.state names) (volumes_held m.state old.units before) (so_far.run told).all serials;
          kept = subst (λ (us : List Attached). AreKept m'.state us vols) so_far.facts.units kept;
          durable = so_far.durable told;
          safe = (so_far.run told).opens;
        }

-- ---- scans, of which the first are repaired

-- So many first scans are repaired, and these are their indexes.
pub record OpenedSoFar (tells : Bool) (old now : Facts) (m m' : Meaning (List File)) (scans : List Scan) (vols : List Vol) (k : ℕ) : Type 0 where
  pub size : length vols ≡ k
  pub repairs : RepairsSoFar tells old now m m' (indexes_of scans) (vols ++ indexes_of (drop k scans)) k

-- the first of those that aren't repaired
pub rest_at : (scans : List Scan) (k : ℕ) (s : Scan) → slice_get scans k ≡ Some s → indexes_of (drop k scans) ≡ s.vol ∷ indexes_of (drop (k + 1) scans)
rest_at [] k s at = absurd cc
rest_at (x ∷ scans) zero s at = let same : x ≡ s = cc in ap (λ (y : Scan). y.vol ∷ indexes_of scans) same
rest_at (x ∷ scans) (suc k) s at = let next : suc k + 1 ≡ suc (k + 1) = omega arith in rest_at scans k s at ∙ ap (λ (n : ℕ). s.vol ∷ indexes_of (drop n (x ∷ scans))) (sym next)

pub set_last : {X : Type 0} (vols rest : List X) (k : ℕ) (v v' : X) → length vols ≡ k → set (vols ++ v ∷ rest) k v' ≡ (vols ++ v' ∷ []) ++ rest
set_last [] rest zero v v' size = refl
set_last [] rest (suc k) v v' size = absurd (omega (arith, size))
set_last (x ∷ vols) rest zero v v' size = absurd (omega (arith, size))
set_last (x ∷ vols) rest (suc k) v v' size = ap (λ l. x ∷ l) (set_last vols rest k v v' (omega (arith, size)))

pub at_last : {X : Type 0} (vols rest : List X) (k : ℕ) (v : X) → length vols ≡ k → slice_get (vols ++ v ∷ rest) k ≡ Some v
at_last [] rest zero v size = refl
at_last [] rest (suc k) v size = absurd (omega (arith, size))
at_last (x ∷ vols) rest zero v size = absurd (omega (arith, size))
at_last (x ∷ vols) rest (suc k) v size = at_last vols rest k v (omega (arith, size))

one_longer : (vols : List Vol) (k : ℕ) (v : Vol) → length vols ≡ k → length (vols ++ v ∷ []) ≡ k + 1
one_longer [] zero v size = omega arith
one_longer [] (suc k) v size = absurd (omega (arith, size))
one_longer (x ∷ vols) zero v size = absurd (omega (arith, size))
one_longer (x ∷ vols) (suc k) v size = let rest : length (vols ++ v ∷ []) ≡ k + 1 = one_longer vols k v (omega (arith, size)) in omega (arith, rest)

pub none_more_scans : (scans : List Scan) (k : ℕ) (vols : List Vol) → length scans ≤ k → vols ++ indexes_of (drop k scans) ≡ vols
none_more_scans scans k vols low = ap (λ (l : List Scan). vols ++ indexes_of l) (past scans k low) ∙ nothing vols
  where
    past : (xs : List Scan) (j : ℕ) → length xs ≤ j → drop j xs ≡ []
    past [] zero low = refl
    past [] (suc j) low = refl
    past (x ∷ xs) zero low = absurd (omega (arith, low))
    past (x ∷ xs) (suc j) low = past xs j (omega (arith, low))

    nothing : (xs : List Vol) → xs ++ [] ≡ xs
    nothing [] = refl
    nothing (x ∷ xs) = ap (λ (l : List Vol). x ∷ l) (nothing xs)

pub opened_none : (tells : Bool) (facts : Facts) (m : Meaning (List File)) (scans : List Scan) (vols : List Vol) → vols ≡ [] → AreIndexes facts.units (indexes_of scans) → AreInOrder (indexes_of scans) → (IsTrue tells → AreMounted m.state facts.units (indexes_of scans)) → (IsTrue tells → IsDurable m)
    → OpenedSoFar tells facts facts m m scans vols 0
opened_none tells facts m scans vols none indexes order mounted durable = subst (λ (l : List Vol). OpenedSoFar tells facts facts m m scans l 0) (sym none) (record {
  size = refl;
  repairs = record {
    facts = unreported facts;
    packs = record { units = refl; serials = refl; geometries = refl };
    indexes = indexes;
    order = order;
    mounted = mounted;
    settled = λ told j v low at. absurd (omega (arith, low));
    durable = durable;
    run = λ told. repaired_none _ _ m (held_stand m.state facts.units (indexes_of scans) (mounted told));
  };
})

module _ (tells : Bool) (old now : Facts) (m m' : Meaning (List File)) (scans : List Scan) (vols : List Vol) (k : ℕ) (so_far : OpenedSoFar tells old now m m' scans vols k) (s : Scan) (at : slice_get scans k ≡ Some s) where
  abbrev both : List Vol
  both = vols ++ indexes_of (drop k scans)

  pub there : slice_get both k ≡ Some s.vol
  there = ap (λ (l : List Vol). slice_get (vols ++ l) k) (rest_at scans k s at) ∙ at_last vols (indexes_of (drop (k + 1) scans)) k s.vol so_far.size

  -- its index as it is repaired stands after those before
  pub put_there : (v' : Vol) → set both k v' ≡ (vols ++ v' ∷ []) ++ indexes_of (drop (k + 1) scans)
  put_there v' = ap (λ (l : List Vol). set (vols ++ l) k v') (rest_at scans k s at) ∙ set_last vols (indexes_of (drop (k + 1) scans)) k s.vol v' so_far.size

  -- the pack is as it was scanned
  pub scan_still : IsTrue tells → AreScansOf m.state old.units scans → IsScanOf (image_named m'.state (unit_of now.units s.vol.unit).name) s
  scan_still told images =
      let name : slice_get (names_of old.units (units_of (indexes_of scans))) k ≡ Some (unit_of old.units s.vol.unit).name =
      get_map (λ (u : ℕ). (unit_of old.units u).name) (units_of (indexes_of scans)) k s.vol.unit (get_map (λ (w : Vol). w.unit) (indexes_of scans) k s.vol (get_map (λ (x : Scan). x.vol) scans k s at)) in
      let same : image_named m'.state (unit_of now.units s.vol.unit).name ≡ image_named m.state (unit_of old.units s.vol.unit).name =
      ap (λ (us : List Attached). image_named m'.state (unit_of us s.vol.unit).name) so_far.repairs.facts.units
      ∙ (so_far.repairs.run told).untouched k (unit_of old.units s.vol.unit).name (omega arith) name in
      subst (λ (i : List ℕ). IsScanOf i s) (sym same) (images k s at)

  pub opened_next : {E : Type 0} (next : Facts) (m'' : Meaning (List File)) (s' : Scan) (vols' : List Vol) → AreIndexes old.units (indexes_of scans) → (IsTrue tells → AreMounted m.state old.units (indexes_of scans))
      → s'.vol ≡ record s.vol { slots = s'.vol.slots; buf = s'.vol.buf } → IsScanOn next.units s.vol.unit s' → Unreported now next → (IsTrue tells → RepairsPack {E = E} (unit_of now.units s.vol.unit).name m' m'' (Ok s'))
      → vols' ≡ vols ++ s'.vol ∷ [] → OpenedSoFar tells old next m m'' scans vols' (k + 1)
  opened_next next m'' s' vols' indexes mounted others on call run pushed = subst (λ (l : List Vol). OpenedSoFar tells old next m m'' scans l (k + 1)) (sym pushed) (record {
    size = one_longer vols k s'.vol so_far.size;
    repairs = subst (λ (l : List Vol). RepairsSoFar tells old next m m'' (indexes_of scans) l (k + 1)) (put_there s'.vol)
        (repairs_next tells old now m m' (indexes_of scans) both k so_far.repairs next m'' s.vol s' indexes mounted there others on.index on.names call run);
  })

  pub opened_stopped : {E F G : Type 0} → IsTrue tells → AreIndexes old.units (indexes_of scans) → AreMounted m.state old.units (indexes_of scans) → (new : Meaning (List File)) (r : Result Scan E) (e : F) (held : List Vol) → RepairsPack (unit_of now.units s.vol.unit).name m' new r
      → RepairsAll {T = G} (names_of old.units (units_of (indexes_of scans))) old.units held m new (Err e)
  opened_stopped told indexes mounted new r e held run = repairs_stopped tells old now m m' (indexes_of scans) both k so_far.repairs told indexes mounted s.vol new r e held there run

-- all are repaired
pub opened_done : {T E : Type 0} (tells : Bool) (old now : Facts) (m m' : Meaning (List File)) (scans : List Scan) (vols : List Vol) (k : ℕ) → OpenedSoFar tells old now m m' scans vols k → length scans ≤ k → IsTrue tells → AreIndexes old.units (indexes_of scans) → AreMounted m.state old.units (indexes_of scans) → (x : T)
    → RepairsAll {E = E} (names_of old.units (units_of (indexes_of scans))) old.units vols m m' (Ok x)
opened_done {T} {E} tells old now m m' scans vols k so_far low told indexes mounted x =
    let none = none_more_scans scans k vols low in
    let repairs = subst (λ (l : List Vol). RepairsSoFar tells old now m m' (indexes_of scans) l k) none so_far.repairs in
    repairs_done tells old now m m' (indexes_of scans) vols k repairs told indexes mounted x (omega (arith, so_far.size))
