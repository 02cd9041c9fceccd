-- What an operation on a pack leaves of its image and of its volume.
use Rattle.std.proofs.Common.{◌≡◌, ◌≢◌, ℕ, Bool, true, false, List, Option, Some, None, refl, sym, ap, subst}
use Rattle.std.specs.Prelude.{◌+◌, length, nat_lt, OnOk, Result, Ok, Err}
use Rattle.dadsm_ops.specs.Operations.{Operates}
use Rattle.free_rebuild.specs.Repairs.{image_named}
use Rattle.free_rebuild.proofs.SettledBool.{settled_true, settled_vtoc}
use Rattle.stop_model.specs.Files.{File, file_of}
use Rattle.stop_model.specs.Moments.{IsDurable, Meaning, Same}
use Rattle.stop_model.proofs.MomentLemmas.{durable_same}
use Rattle.vol_model.specs.Calls.{sound_after}
use Rattle.ebcdic_names.specs.declared.names.Dsn.{Dsn}
use Rattle.vol_model.specs.Shelf.{extend_on, extend_set, extended_by, if_readable, if_slots, is_catalog, on_choice, on_found, refuse, secondary_asked, secondary_choice, set_of, with_extents, with_set}
use Rattle.vol_model.specs.Slots.{slots_needed}
use Rattle.vol_model.specs.declared.contents.Body.{Body}
use Rattle.vol_model.specs.declared.contents.Body.TheVariants as bodies
use Rattle.vol_model.specs.declared.contents.DataSet.{DataSet}
use Rattle.vol_model.specs.declared.contents.Run.{Run}
use Rattle.vol_model.specs.declared.answers.StoreErr.{StoreErr}
use Rattle.vol_model.specs.declared.answers.StoreErr.TheVariants as store
use Rattle.vol_model.specs.declared.contents.Volume.{Volume}
use Rattle.vol_model.specs.declared.refusals.Refusal.{Refusal}
use Rattle.vol_model.specs.declared.refusals.Refusal.TheVariants.{ExtentsFull, VtocFull, WrongKind}
use Rattle.vtoc_index.specs.Kept.{IsKept}
use Rattle.vtoc_index.specs.declared.vol.Vol.{Vol}
use Rattle.vtoc_index.proofs.KeptLemmas.{kept_of}
use Rattle.pack_machine.specs.Ready.{IsKeptSettled, reported}
use Rattle.pack_machine.specs.Unread.{broken_at}
use Rattle.pack_machine.proofs.PackedImages.{IsStillPacked}

-- What an operation on a pack leaves of its image and of the other files, unless the device failed.
pub record LeavesPack (name : List ℕ) (v' : Vol) (m m' : Meaning (List File)) : Type 0 where
  pub others : (other : List ℕ) → other ≢ name → file_of m'.state other ≡ file_of m.state other
  pub here : IsKeptSettled (image_named m'.state name) v'
  pub durable : IsDurable m'

module _ (name : List ℕ) (operation : Volume → Result Volume Refusal) (v v' : Vol) (Changes : List ℕ → List ℕ → Type 0) (m m' : Meaning (List File)) (kept : IsKeptSettled (image_named m.state name) v) (durable : IsDurable m) where
  leaves_same : Same m m' → IsKept (image_named m.state name) v' → LeavesPack name v' m m'
  leaves_same same is = record {
    others = λ other differs. ap (λ (files : List File). file_of files other) same.state;
    here = subst (λ (files : List File). IsKeptSettled (image_named files name) v') (sym same.state) (record { kept = is; settled = kept.settled; packed = kept.packed });
    durable = durable_same same durable;
  }

  pub leaves_pack : {T : Type 0} (r : Result T StoreErr) → Operates name operation v' Changes m m' r → (IsKept (image_named m.state name) v → (e : StoreErr) → r ≡ Err e → e ≢ store.Device → IsKept (image_named m.state name) v')
      → OnOk r (IsStillPacked (image_named m.state name) (image_named m'.state name)) → sound_after (reported r) ≡ true → LeavesPack name v' m m'
  leaves_pack (Ok x) run idle still sound = record {
    others = run.does.done.changes.others;
    here = record {
      kept = kept_of _ _ run.does.done.index;
      settled = settled_true (image_named m'.state name) (run.does.settled (settled_vtoc (image_named m.state name) kept.settled));
      packed = still kept.packed;
    };
    durable = run.does.done.durable;
  }
  leaves_pack (Err (store.Refused why)) run idle still sound = leaves_same (run.idle why (run.refused why refl)) (idle kept.kept (store.Refused why) refl (λ is. cc))
  leaves_pack (Err store.Memory) run idle still sound = leaves_same (run.memory refl) (idle kept.kept store.Memory refl (λ is. cc))
  leaves_pack (Err store.Device) run idle still sound = absurd cc

-- the operations keep the serial of a volume
pub ok_volume : {a b : Volume} → ◌≡◌ {A = Result Volume Refusal} (Ok a) (Ok b) → a ≡ b
ok_volume same = cc

pub unrefused : (b : Bool) (r : Refusal) (rest : Result Volume Refusal) (after : Volume) → refuse b r rest ≡ Ok after → rest ≡ Ok after
unrefused true r rest after is = absurd cc
unrefused false r rest after is = is

-- what isn't refused for its body can be read
pub read_through : (b : Body) (rest : Result Volume Refusal) (after : Volume) → if_readable b rest ≡ Ok after → (rest ≡ Ok after) × (broken_at b ≡ None)
read_through (bodies.Seq blocks) rest after is = (is, refl)
read_through (bodies.Part dir end entries blocks) rest after is = (is, refl)
read_through bodies.Catalog rest after is = (is, refl)
read_through bodies.Other rest after is = (is, refl)
read_through (bodies.Unreadable track) rest after is = absurd cc

-- a volume after an extension has a set with more extents
pub extend_is : (dsn : Dsn) (w after : Volume) → extend_on dsn w ≡ Ok after → (runs : List Run) × (with_set w dsn.bytes (with_extents runs) ≡ after)
unfolding extend_on
extend_is dsn w after is = by_set (set_of dsn.bytes w) is
  where
    by_runs : (x : DataSet) (runs : List Run) → extended_by dsn w x runs ≡ Ok after → with_set w dsn.bytes (with_extents runs) ≡ after
    by_runs x runs done =
        let new : Volume = with_set w dsn.bytes (with_extents runs) in
        let few = unrefused (nat_lt 16 (length x.extents + length runs)) ExtentsFull (if_slots new) after done in
        ok_volume (unrefused (nat_lt new.slots (slots_needed new)) (VtocFull (slots_needed new)) (Ok new) after few)

    by_choice : (x : DataSet) (o : Option (List Run)) → on_choice (secondary_asked x.attr) o (extended_by dsn w x) ≡ Ok after → (runs : List Run) × (with_set w dsn.bytes (with_extents runs) ≡ after)
    by_choice x None done = absurd cc
    by_choice x (Some runs) done = (runs, by_runs x runs done)

    by_set : (o : Option DataSet) → on_found o (extend_set dsn w) ≡ Ok after → (runs : List Run) × (with_set w dsn.bytes (with_extents runs) ≡ after)
    by_set None done = absurd cc
    by_set (Some x) done =
        let step : Result Volume Refusal = on_choice (secondary_asked x.attr) (secondary_choice w x.attr) (extended_by dsn w x) in
        by_choice x (secondary_choice w x.attr) (read_through x.body step after (unrefused (is_catalog dsn.bytes) WrongKind (if_readable x.body step) after done)).0
