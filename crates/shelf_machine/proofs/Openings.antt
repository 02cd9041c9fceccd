-- What the opening of a machine leaves, by what the reading and the repair of its packs left.
use Rattle.std.proofs.Common.{◌≡◌, ◌≤◌, ⊎_elim, ℕ, List, length, Some, refl, sym, ap, subst, ◌∙◌, arith}
use Rattle.std.specs.Prelude.{Result, Ok, Err, slice_get}
use Rattle.std.proofs.lemmas.List.{length-map}
use Rattle.hall_core.specs.Facts.{Attached}
use Rattle.stop_model.specs.Files.{File}
use Rattle.stop_model.specs.Moments.{IsDurable, Meaning, Same}
use Rattle.stop_model.proofs.MomentLemmas.{durable_leaves, elapses_none, elapses_same, elapses_then, elapses_weaker}
use Rattle.pack_spec.specs.Shelf.{UnitRefusal, shelf_of}
use Rattle.pack_spec.specs.Volume.{volume_with}
use Rattle.pack_spec.specs.declared.MountErr.{MountErr}
use Rattle.vol_model.specs.declared.contents.Shelf.{Shelf}
use Rattle.vol_model.specs.declared.contents.Volume.{Volume}
use Rattle.mount_repair.specs.declared.scanned.Scan.{Scan}
use Rattle.vtoc_index.specs.Index.{IsOfUnit}
use Rattle.vtoc_index.specs.Names.{AreByName, name_at}
use Rattle.vtoc_index.specs.declared.vol.Vol.{Vol}
use Rattle.shelf_machine.specs.Machine.{AreInOrder, AreIndexes, AreKept, HavePlans, KeepsSafe, LeavesJust, serials_of, units_of}
use Rattle.shelf_machine.specs.Opening.{AreApart, AreSafe, AreUnits, LeavesSafe, OpensSafely, images_named, names_of}
use Rattle.shelf_machine.specs.Packs.{AreMounted, AreScanned, RefusesImages, RepairsAll, StopsAtTwice, indexes_of}
use Rattle.shelf_machine.specs.declared.open_failure.OpenFailure.{OpenFailure}
use Rattle.shelf_machine.proofs.Holding.{kept_mounted, shelf_held, volume_held, volumes_held}
use Rattle.pack_machine.proofs.ListPlaces.{get_map, of_map}
use Rattle.shelf_machine.proofs.ReadingPacks.{twice_refused}
use Rattle.shelf_machine.proofs.Repairing.{safe_same}

-- images stand for one shelf alone
one_shelf : {a b : Shelf} → ◌≡◌ {A = Result Shelf UnitRefusal} (Ok a) (Ok b) → a ≡ b
one_shelf same = cc

some_volume : {a b : Volume} → Some a ≡ Some b → a ≡ b
some_volume same = cc

-- what is so of the scan of each index is so of that
each_index : (P : Vol → Type 0) (scans : List Scan) → ((k : ℕ) (s : Scan) → slice_get scans k ≡ Some s → P s.vol) → (k : ℕ) (v : Vol) → slice_get (indexes_of scans) k ≡ Some v → P v
each_index P scans each k v at = let of = of_map (λ (s : Scan). s.vol) scans k v at in subst P of.2 (each k of.0 of.1)

-- the indexes of packs that were scanned, whose serials differ
pub indexes_scanned : (attached : List Attached) (units : List ℕ) (scans : List Scan) → AreUnits attached units → AreScanned attached units scans → AreApart (serials_of (indexes_of scans)) → AreIndexes attached (indexes_of scans)
indexes_scanned attached units scans are scanned apart = record {
  each = each_index (IsOfUnit attached) scans (λ k s at. (scanned.each k s at).index);
  names = subst (λ (us : List ℕ). AreApart (names_of attached us)) (sym scanned.numbers) are.apart;
  serials = apart;
  few = omega (arith, length-map (indexes_of scans) (λ (v : Vol). v.unit), ap length scanned.numbers, are.few);
}

pub order_scanned : (attached : List Attached) (units : List ℕ) (scans : List Scan) → AreScanned attached units scans → AreInOrder (indexes_of scans)
order_scanned attached units scans scanned = each_index (λ (v : Vol). AreByName (name_at v.slots.items) v.by_name.items) scans (λ k s at. (scanned.each k s at).names)

-- there are at most 255
pub few_scanned : (attached : List Attached) (units : List ℕ) (scans : List Scan) → AreUnits attached units → AreScanned attached units scans → length scans ≤ 255
few_scanned attached units scans are scanned = omega (arith, length-map (indexes_of scans) (λ (v : Vol). v.unit), length-map scans (λ (s : Scan). s.vol), ap length scanned.numbers, are.few)

-- volumes of images that the indexes are of have their plans
plans_held : (files : List File) (attached : List Attached) (vols : List Vol) → HavePlans vols (volumes_held files attached vols)
unfolding volume_with
plans_held files attached vols k v w at is =
    let same : volume_held files attached v ≡ w = some_volume (sym (get_map (volume_held files attached) vols k v at) ∙ is) in
    (ap (λ (x : Volume). x.geometry) (sym same), ap (λ (x : Volume). x.vtoc) (sym same))

-- an opened machine keeps images safe that stops left as they were
pub opened_safe : (attached : List Attached) (vols : List Vol) (names : List (List ℕ)) (old new : Meaning (List File)) (shelf : Shelf) → names_of attached (units_of vols) ≡ names → AreIndexes attached vols → AreKept new.state attached vols
    → shelf_of (images_named old.state names) ≡ Ok shelf → shelf_of (images_named new.state names) ≡ Ok shelf → OpensSafely names shelf old new
    → (t : ℕ) → t ≤ old.clock → LeavesJust old t old.state → KeepsSafe names vols new t old.state
opened_safe attached vols names old new shelf same indexes kept before after safe t early just other is =
    let held = subst (λ (ns : List (List ℕ)). shelf_of (images_named new.state ns) ≡ Ok (record { volumes = volumes_held new.state attached vols })) same
    (shelf_held new.state attached vols (kept_mounted new.state attached vols kept) indexes.serials) in
    let one : shelf ≡ other = one_shelf (sym before ∙ is) in
    let this : volumes_held new.state attached vols ≡ other.volumes = ap (λ (s : Shelf). s.volumes) (one_shelf (sym held ∙ after) ∙ one) in
    record {
      plans = subst (HavePlans vols) this (plans_held new.state attached vols);
      stops = λ j p stop. ⊎_elim
          (λ was. subst (AreSafe names other.volumes old.state) (sym (just j p was)) (safe_same names other.volumes old.state))
          (λ now. subst (λ (s : Shelf). AreSafe names s.volumes old.state j) one now.1.0)
          (safe.moments.moments t j p early stop);
    }

-- a serial that stands twice refuses the images
pub refuses_twice : (files : List File) (attached : List Attached) (units : List ℕ) (vols : List Vol) (s : OpenFailure) → units_of vols ≡ units → AreMounted files attached vols → StopsAtTwice (serials_of vols) s → RefusesImages (names_of attached units) files s
refuses_twice files attached units vols s numbers mounted twice memory device =
    ap (λ (us : List ℕ). shelf_of (images_named files (names_of attached us))) (sym numbers)
    ∙ twice_refused files attached vols s.unit twice.0 mounted twice.2
    ∙ ap (λ (w : MountErr). Err (record { unit = s.unit; why = w })) (sym twice.1)

-- ---- calls that change nothing, before the repair

module _ (names : List (List ℕ)) (old mid : Meaning (List File)) (durable : IsDurable old) (same : Same old mid) where
  opens_after : (shelf : Shelf) (new : Meaning (List File)) → shelf_of (images_named old.state names) ≡ Ok shelf → OpensSafely names shelf mid new → OpensSafely names shelf old new
  opens_after shelf new before safe = record {
    printed = safe.printed ∙ same.printed;
    moments = elapses_then
        (elapses_same same (durable_leaves old (λ (files : List File). (shelf_of (images_named files names) ≡ Ok shelf) × (AreSafe names shelf.volumes old.state files × (old.printed ≡ old.printed))) durable
        (before, (safe_same names shelf.volumes old.state, refl))))
        (elapses_weaker safe.moments (λ files p stop. (stop.0, (subst (λ (fs : List File). AreSafe names shelf.volumes fs files) same.state stop.1.0, stop.1.1 ∙ same.printed))));
  }

  pub leaves_same : LeavesSafe names old mid
  leaves_same = record {
    none = λ r is. same;
    some = λ shelf is. opens_after shelf mid is (record { printed = refl; moments = elapses_none mid _ });
  }

  shelf_before : (shelf : Shelf) → shelf_of (images_named mid.state names) ≡ Ok shelf → shelf_of (images_named old.state names) ≡ Ok shelf
  shelf_before shelf is = ap (λ (fs : List File). shelf_of (images_named fs names)) (sym same.state) ∙ is

  pub leaves_run : {T E : Type 0} (attached : List Attached) (vols : List Vol) (new : Meaning (List File)) (r : Result T E) → RepairsAll names attached vols mid new r → LeavesSafe names old new
  leaves_run attached vols new r run =
      let before = shelf_before run.shelf run.before in record {
        none = λ refusal is. absurd (cc (is, before));
        some = λ shelf is. subst (λ (s : Shelf). OpensSafely names s old new) (one_shelf (sym before ∙ is)) (opens_after run.shelf new before run.safe);
      }

  pub repairs_after : {T E U F : Type 0} (attached : List Attached) (vols : List Vol) (new : Meaning (List File)) (x : T) (y : U) → RepairsAll {E = E} names attached vols mid new (Ok x) → RepairsAll {E = F} names attached vols old new (Ok y)
  repairs_after attached vols new x y run = record {
    shelf = run.shelf;
    before = shelf_before run.shelf run.before;
    after = run.after;
    kept = run.kept;
    durable = run.durable;
    safe = opens_after run.shelf new (shelf_before run.shelf run.before) run.safe;
  }

-- a repair of packs, by other names for their units
pub repairs_named : {T E : Type 0} (attached attached' : List Attached) (units units' : List ℕ) (vols : List Vol) (m m' : Meaning (List File)) (r : Result T E) → attached' ≡ attached → units' ≡ units
    → RepairsAll (names_of attached' units') attached' vols m m' r → RepairsAll (names_of attached units) attached vols m m' r
repairs_named attached attached' units units' vols m m' r same_files same_units run =
    subst (λ (us : List Attached). RepairsAll (names_of us units) us vols m m' r) same_files (subst (λ (ns : List ℕ). RepairsAll (names_of attached' ns) attached' vols m m' r) same_units run)
