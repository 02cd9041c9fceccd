-- A pack whose index an operation changed, or left as it was.
use Rattle.std.proofs.Common.{◌∙◌, ◌≡◌, ◌≢◌, Err, List, Ok, Result, ap, refl, subst, sym, true, vec_capacity, ℕ}
use Rattle.std.specs.Prelude.{Err, IsErrOf, List, Ok, OnOk, Result, ℕ}
use Rattle.vol_model.specs.Calls.{sound_after}
use Rattle.vol_model.specs.declared.answers.StoreErr.{StoreErr}
use Rattle.vol_model.specs.declared.answers.StoreErr.TheVariants as store
use Rattle.vol_model.specs.declared.refusals.Refusal.{Refusal}
use Rattle.vtoc_index.specs.declared.vol.Vol.{Vol}
use Rattle.vtoc_index.specs.Kept.{IsKept}
use Rattle.vtoc_index.specs.Names.{AreByName, name_at}
use Rattle.mount_repair.specs.Sets.{IsRoomed}
use Rattle.pack_machine.specs.Ready.{IsSamePack, reported}
use Rattle.pack_spec.specs.declared.MountErr.{MountErr}
use Rattle.pack_spec.specs.Volume.{volume_of}
use Rattle.vol_model.specs.declared.answers.StoreErr.TheVariants as store
use Rattle.vol_model.specs.declared.contents.Volume.{Volume}

-- the data sets of an index stand in the order of their names
abbrev pub IsInOrder : Vol → Type 0
IsInOrder v = AreByName (name_at v.slots.items) v.by_name.items

-- an index with more room is that of the same image
module _ (v v' : Vol) (roomed : IsRoomed v v') where
  wide : Vol
  wide = record v { free = v'.free; by_name = v'.by_name }

  pub roomed_kept : (image : List ℕ) → IsKept image v → IsKept image v'
  roomed_kept image kept = subst (IsKept image) (sym roomed.others) (record {
    header = kept.header;
    serial = kept.serial;
    vtoc = kept.vtoc;
    tracks = kept.tracks;
    lawful = kept.lawful;
    whole = kept.whole;
    free = roomed.free ∙ kept.free;
    slots = kept.slots;
    firsts = kept.firsts;
    buffer = kept.buffer;
  })

  pub roomed_order : IsInOrder v → IsInOrder v'
  roomed_order order = subst IsInOrder (sym roomed.others) (subst (AreByName (name_at v.slots.items)) (sym roomed.names) order)

-- an index with room for more names alone
pub name_roomed : (v v' : Vol) → v' ≡ record v { by_name = v'.by_name } → v'.by_name.items ≡ v.by_name.items → IsRoomed v v'
name_roomed v v' others names = record {
  others = others ∙ sym (ap (λ (w : Vol). record v { free = w.free; by_name = v'.by_name }) others);
  free = ap (λ (w : Vol). w.free.items) others;
  names = names;
}

-- where an operation is refused, or memory ran out, the index is as before
module _ {T : Type 0} (v v' : Vol) (r : Result T StoreErr) (refused : (why : Refusal) → IsErrOf r (store.Refused why) → v' ≡ v) (memory : IsErrOf r store.Memory → IsRoomed v v') where
  is_error : (e : StoreErr) → r ≡ Err e → IsErrOf r e
  is_error e is = subst (λ (s : Result T StoreErr). IsErrOf s e) (sym is) refl

  pub kept_idle : (image : List ℕ) → IsKept image v → (e : StoreErr) → r ≡ Err e → e ≢ store.Device → IsKept image v'
  kept_idle image kept (store.Refused why) is differs = subst (IsKept image) (sym (refused why (is_error (store.Refused why) is))) kept
  kept_idle image kept store.Memory is differs = roomed_kept v v' (memory (is_error store.Memory is)) image kept
  kept_idle image kept store.Device is differs = absurd (differs refl)

pub order_kept : {T : Type 0} (v v' : Vol) (r : Result T StoreErr) → ((why : Refusal) → IsErrOf r (store.Refused why) → v' ≡ v) → (IsErrOf r store.Memory → IsRoomed v v') → OnOk r (IsInOrder v') → IsInOrder v
    → sound_after (reported r) ≡ true → IsInOrder v'
order_kept v v' (Ok x) refused memory done order sound = done
order_kept v v' (Err (store.Refused why)) refused memory done order sound = subst IsInOrder (sym (refused why refl)) order
order_kept v v' (Err store.Memory) refused memory done order sound = roomed_order v v' (memory refl) order
order_kept v v' (Err store.Device) refused memory done order sound = absurd cc

-- an index with another buffer is of the same pack
pub same_pack : (v v' : Vol) → v' ≡ record v { buf = v'.buf } → IsSamePack v v'
same_pack v v' others = record {
  unit = ap (λ (x : Vol). x.unit) others;
  serial = ap (λ (x : Vol). x.serial.bytes) others;
  geometry = ap (λ (x : Vol). x.geometry) others;
  vtoc = ap (λ (x : Vol). x.vtoc) others;
  room = ap (λ (x : Vol). vec_capacity x.free) others;
}

-- and so is one that differs in its slots too
pub pack_same : (v v' : Vol) → v' ≡ record v { slots = v'.slots; buf = v'.buf } → IsSamePack v v'
pack_same v v' others = record {
  unit = ap (λ (x : Vol). x.unit) others;
  serial = ap (λ (x : Vol). x.serial.bytes) others;
  geometry = ap (λ (x : Vol). x.geometry) others;
  vtoc = ap (λ (x : Vol). x.vtoc) others;
  room = ap (λ (x : Vol). vec_capacity x.free) others;
}

-- what stands for two volumes stands for one
pub one_volume : {a b : Volume} (image : List ℕ) → volume_of image ≡ Ok a → volume_of image ≡ Ok b → a ≡ b
one_volume {a} {b} image first second = ok_same (sym first ∙ second)
  where
    ok_same : ◌≡◌ {A = Result Volume MountErr} (Ok a) (Ok b) → a ≡ b
    ok_same same = cc
