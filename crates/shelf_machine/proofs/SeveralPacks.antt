-- What an operation on one of several packs leaves of all of them.
use Rattle.std.proofs.Common.{◌≡◌, ◌≢◌, ◌∙◌, ⊎_elim, ℕ, Bool, true, IsTrue, List, [], set, Option, Some, None, refl, sym, ap, subst, arith}
use Rattle.std.specs.Prelude.{OnOk, Result, Ok, Err, slice_get, unwrap_or}
use Rattle.std.proofs.lemmas.Bool.{cases_eq}
use Rattle.free_rebuild.specs.Operations.{Operates, StoreCall}
use Rattle.free_rebuild.specs.Repairs.{image_named}
use Rattle.hall_core.specs.Facts.{Attached, DeviceCall, Facts, unit_of}
use Rattle.stop_model.specs.Counts.{Rose}
use Rattle.stop_model.specs.Files.{File, file_of}
use Rattle.stop_model.specs.Moments.{IsDurable, Meaning}
use Rattle.stop_model.proofs.MomentLemmas.{CountsNow}
use Rattle.vol_model.specs.Calls.{sound_after}
use Rattle.vol_model.specs.Shelf.{step_on, volume_number}
use Rattle.vol_model.specs.declared.answers.StoreErr.{StoreErr}
use Rattle.vol_model.specs.declared.answers.StoreErr.TheVariants as store
use Rattle.vol_model.specs.declared.refusals.Refusal.TheVariants.{NoVolume}
use Rattle.vol_model.specs.declared.requests.Op.{Op}
use Rattle.vtoc_index.specs.Index.{IsOfUnit}
use Rattle.vtoc_index.specs.Kept.{IsKept}
use Rattle.vtoc_index.specs.declared.vol.Vol.{Vol}
use Rattle.shelf_machine.specs.Machine.{AreIndexes, base_of, units_of}
use Rattle.shelf_machine.specs.Opening.{names_of}
use Rattle.shelf_machine.specs.Operating.{OperatesOnShelf}
use Rattle.shelf_machine.specs.PendingShelves.{kept_in}
use Rattle.pack_machine.specs.Ready.{Anyhow, IsOfImage, IsReady, Leaves, file_name, reported}
use Rattle.shelf_machine.specs.ReadyPacks.{AreReady, LeavesPacks, vols_of}
use Rattle.pack_machine.specs.declared.pack.Pack.{Pack}
use Rattle.pack_machine.proofs.ListPlaces.{get_map, get_other, get_set, map_none}
use Rattle.shelf_machine.proofs.Operating.{base_same, indexes_after, name_there, operates_here, operates_nowhere}
use Rattle.pack_machine.proofs.PackedImages.{IsStillPacked}
use Rattle.shelf_machine.proofs.ReadyPacks.{vols_set}
use Rattle.shelf_machine.proofs.Serials.{serial_keeps}
use Rattle.shelf_machine.proofs.Settling.{base_called}
use Rattle.std.proofs.lemmas.Option.{same_Some}

-- a number that no pack has no index has
pub missing : (packs : List Pack) (k : ℕ) → slice_get packs k ≡ None → slice_get (vols_of packs) k ≡ None
missing packs k none = map_none (λ (p : Pack). p.vol) packs k none

-- no pack has this number
pub leaves_nowhere : {T : Type 0} (tells : Bool) (f : Facts) (m : Meaning (List File)) (packs : List Pack) → AreReady tells f m packs → (op : Op) → (IsTrue tells → IsDurable m) → CountsNow m → slice_get packs (volume_number op) ≡ None → StoreCall {T = T} f f (Err (store.Refused NoVolume))
    → LeavesPacks {T = T} tells op f f m m packs packs (Err (store.Refused NoVolume))
leaves_nowhere tells f m packs ready op durable counts none faults = record {
  shelf = λ told. operates_nowhere op f.units (vols_of packs) m ready.indexes counts (kept_in ready told) (durable told) (missing packs (volume_number op) none);
  ready = λ sound. ready;
  indexes = ready.indexes;
  base = refl;
  faults = faults;
}

-- what an operation leaves, counted from an earlier moment at which the packs were the same
pub leaves_later : {T : Type 0} (tells : Bool) (op : Op) (f mid f' : Facts) (m middle m' : Meaning (List File)) (packs packs' : List Pack) (r : Result T StoreErr) → mid.units ≡ f.units → mid.references ≡ f.references
    → (IsTrue tells → OperatesOnShelf op (names_of f.units (units_of (vols_of packs))) (names_of f'.units (units_of (vols_of packs'))) f'.units (vols_of packs) (vols_of packs') m m' r) → StoreCall f f' r
    → LeavesPacks tells op mid f' middle m' packs packs' r → LeavesPacks tells op f f' m m' packs packs' r
leaves_later tells op f mid f' m middle m' packs packs' r units references shelf faults leaves = record {
  shelf = shelf;
  ready = leaves.ready;
  indexes = leaves.indexes;
  base = leaves.base ∙ base_called f mid (vols_of packs) references units;
  faults = faults;
}

-- the device failed before the operation
pub leaves_failed : {T : Type 0} (tells : Bool) (op : Op) (f f' : Facts) (m m' : Meaning (List File)) (packs : List Pack) → AreReady tells f m packs
    → (IsTrue tells → OperatesOnShelf {T = T} op (names_of f.units (units_of (vols_of packs))) (names_of f.units (units_of (vols_of packs))) f.units (vols_of packs) (vols_of packs) m m' (Err store.Device)) → StoreCall {T = T} f f' (Err store.Device)
    → LeavesPacks {T = T} tells op f f' m m' packs packs (Err store.Device)
leaves_failed {T} tells op f f' m m' packs ready shelf faults =
    let vols = vols_of packs in
    record {
      shelf = λ told. subst (λ (us : List Attached). OperatesOnShelf {T = T} op (names_of f.units (units_of vols)) (names_of us (units_of vols)) us vols vols m m' (Err store.Device)) (sym faults.units) (shelf told);
      ready = λ sound. absurd cc;
      indexes = subst (λ (us : List Attached). AreIndexes us vols) (sym faults.units) ready.indexes;
      base = base_called f f' vols faults.references faults.units;
      faults = faults;
    }

-- it failed after the operation, which it can't where the hall tells
pub leaves_broken : {T U S D : Type 0} (tells : Bool) (op : Op) (f mid f' : Facts) (m middle m' : Meaning (List File)) (packs packs' : List Pack) (x : U) (d : D) → LeavesPacks tells op f mid m middle packs packs' (Ok x)
    → DeviceCall {T = S} mid f' (Err d) → (IsTrue tells → ⊥) → LeavesPacks {T = T} tells op f f' m m' packs packs' (Err store.Device)
leaves_broken {U = U} tells op f mid f' m middle m' packs packs' x d leaves call never =
    let still : mid.dev_faults ≡ f.dev_faults = leaves.faults.others (λ failed. let wrong : ◌≡◌ {A = Result U StoreErr} (Ok x) (Err store.Device) = failed in cc) in
    record {
      shelf = λ told. absurd (never told);
      ready = λ sound. absurd cc;
      indexes = subst (λ (us : List Attached). AreIndexes us (vols_of packs')) (sym call.units) leaves.indexes;
      base = base_called mid f' (vols_of packs') call.references call.units ∙ leaves.base;
      faults = record {
        units = call.units ∙ leaves.faults.units;
        references = call.references ∙ leaves.faults.references;
        prints = call.prints ∙ leaves.faults.prints;
        later = omega (arith, call.later, leaves.faults.later);
        device = λ is. subst (λ (n : ℕ). Rose n f'.dev_faults) still call.failed;
        others = λ none. absurd (none refl);
      };
    }

module _ {T : Type 0} (tells : Bool) (op : Op) (f f' : Facts) (m m' : Meaning (List File)) (packs : List Pack) (k : ℕ) (p p' : Pack) (r : Result T StoreErr)
    (ready : AreReady tells f m packs) (there : slice_get packs k ≡ Some p) (leaves : Leaves tells (step_on op) f f' m m' p p' r) where
  abbrev vols : List Vol
  vols = vols_of packs

  abbrev name : List ℕ
  name = file_name f p.vol

  at : slice_get vols k ≡ Some p.vol
  at = get_map (λ (q : Pack). q.vol) packs k p there

  same_name : file_name f' p'.vol ≡ name
  same_name = ap (λ (us : List Attached). (unit_of us p'.vol.unit).name) leaves.faults.units ∙ ap (λ (n : ℕ). (unit_of f.units n).name) leaves.pack.unit

  of_image : IsTrue tells → IsReady tells f' m' p' → IsOfImage (image_named m'.state name) p'
  of_image told now = subst (λ (n : List ℕ). IsOfImage (image_named m'.state n) p') same_name (now.image told)

  abbrev Run : Result T StoreErr → Type 0
  Run a = Operates name (step_on op) p'.vol Anyhow m m' a

  -- where the operation isn't done nothing changes, and where it is no other image does
  idle : IsTrue tells → (a : Result T StoreErr) → Run a → (sound_after (reported a) ≡ true → IsReady tells f' m' p') → (e : StoreErr) → a ≡ Err e → e ≢ store.Device → IsKept (image_named m.state name) p'.vol
  idle told (Ok x) run now e is differs = absurd cc
  idle told (Err (store.Refused why)) run now e is differs = subst (λ (fs : List File). IsKept (image_named fs name) p'.vol) (run.idle why (run.refused why refl)).state (of_image told (now refl)).kept.kept
  idle told (Err store.Memory) run now e is differs = subst (λ (fs : List File). IsKept (image_named fs name) p'.vol) (run.memory refl).state (of_image told (now refl)).kept.kept
  idle told (Err store.Device) run now e is differs = absurd (let same : store.Device ≡ e = cc in differs (sym same))

  still : IsTrue tells → (a : Result T StoreErr) → (sound_after (reported a) ≡ true → IsReady tells f' m' p') → OnOk a (IsStillPacked (image_named m.state name) (image_named m'.state name))
  still told (Ok x) now = λ was. (of_image told (now refl)).kept.packed
  still told (Err e) now = tt

  others : (a : Result T StoreErr) → Run a → sound_after (reported a) ≡ true → (other : List ℕ) → other ≢ name → file_of m'.state other ≡ file_of m.state other
  others (Ok x) run sound other differs = run.does.done.changes.others other differs
  others (Err (store.Refused why)) run sound other differs = ap (λ (fs : List File). file_of fs other) (run.idle why (run.refused why refl)).state
  others (Err store.Memory) run sound other differs = ap (λ (fs : List File). file_of fs other) (run.memory refl).state
  others (Err store.Device) run sound other differs = absurd cc

  -- another pack is ready still
  another : sound_after (reported r) ≡ true → (j : ℕ) (q : Pack) → j ≢ k → slice_get packs j ≡ Some q → IsReady tells f' m' q
  another sound j q differs was =
      let one = ready.each j q was in
      let apart : file_name f q.vol ≢ name =
      λ is. differs (ready.indexes.names j k name (name_there f.units vols j q.vol (get_map (λ (x : Pack). x.vol) packs j q was) ∙ ap (λ (n : List ℕ). Some n) is) (name_there f.units vols k p.vol at)) in
      let named : file_name f' q.vol ≡ file_name f q.vol = ap (λ (us : List Attached). (unit_of us q.vol.unit).name) leaves.faults.units in
      record {
        unit = subst (λ (us : List Attached). IsOfUnit us q.vol) (sym leaves.faults.units) one.unit;
        names = one.names;
        image = λ told. subst (λ (i : List ℕ). IsOfImage i q)
            (sym (ap (image_named m'.state) named ∙ ap (λ (o : Option (List ℕ)). unwrap_or o []) (others r (leaves.step told) sound (file_name f q.vol) apart))) (one.image told);
      }

  vols_after : vols_of (set packs k p') ≡ set vols k p'.vol
  vols_after = vols_set packs k p'

  indexes_now : AreIndexes f'.units (vols_of (set packs k p'))
  indexes_now = subst (AreIndexes f'.units) (sym vols_after) (indexes_after f f' vols k p.vol p'.vol at leaves.pack leaves.faults.units ready.indexes leaves.unit)

  ready_after : sound_after (reported r) ≡ true → AreReady tells f' m' (set packs k p')
  ready_after sound = record {
    indexes = indexes_now;
    each = λ j q is. ⊎_elim
        (λ here. subst (IsReady tells f' m') (same_Some _ _ (sym (get_set packs k p p' there) ∙ ap (slice_get (set packs k p')) (sym here) ∙ is)) (leaves.ready sound))
        (λ differs. another sound j q differs (sym (get_other packs j k p' differs) ∙ is))
        (cases_eq j k);
  }

  pub leaves_packs : volume_number op ≡ k → (IsTrue tells → IsDurable m) → CountsNow m → m.left m.state → LeavesPacks tells op f f' m m' packs (set packs k p') r
  leaves_packs number durable counts left = record {
    shelf = λ told. subst (λ (vs : List Vol). OperatesOnShelf op (names_of f.units (units_of vols)) (names_of f'.units (units_of vs)) f'.units vols vs m m' r) (sym vols_after)
        (operates_here op (serial_keeps op) f f' vols k number p.vol p'.vol at leaves.pack leaves.faults.units ready.indexes Anyhow m m' r counts left (kept_in ready told) (durable told) (leaves.step told)
        (λ was. idle told r (leaves.step told) leaves.ready) (still told r leaves.ready));
    ready = ready_after;
    indexes = indexes_now;
    base = ap (base_of f') vols_after ∙ base_same f f' vols k p.vol p'.vol at leaves.pack leaves.faults.units leaves.faults.references;
    faults = leaves.faults;
  }
