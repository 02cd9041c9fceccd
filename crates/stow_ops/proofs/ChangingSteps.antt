-- The calls of a change of one entry: what each of their answers is, and the index then.
use Rattle.std.proofs.Common.{◌≡◌, ℕ, List, Result, Ok, Err, refl, sym, ap, subst}
use Rattle.std.specs.Prelude.{IsErrOf, OnOk}
use Rattle.hall_core.specs.Facts.{Attached, Facts, unit_of}
use Rattle.hall_core.specs.Images.{image_in}
use Rattle.pack_spec.specs.Volume.{volume_of}
use Rattle.stop_model.specs.Files.{File}
use Rattle.stop_model.specs.Moments.{Meaning}
use Rattle.stop_model.proofs.MomentLemmas.{CountsNow, elapses_none, same_none}
use Rattle.vol_model.specs.declared.answers.StoreErr.{StoreErr}
use Rattle.vol_model.specs.declared.answers.StoreErr.TheVariants as errors
use Rattle.vol_model.specs.declared.contents.Volume.{Volume}
use Rattle.vol_model.specs.declared.refusals.Refusal.{Refusal}
use Rattle.vtoc_index.specs.declared.vol.Vol.{Vol}
use Rattle.vtoc_index.specs.Index.{IsMounted}
use Rattle.free_rebuild.specs.Operations.{Operates}
use Rattle.free_rebuild.specs.Repairs.{image_named}

-- what holds of each answer but a fault of the device
pub but_device : {T P : Type 0} (r : Result T StoreErr) → (IsErrOf r errors.Device → ⊥) → OnOk r P → (IsErrOf r errors.Memory → P) → ((q : Refusal) → IsErrOf r (errors.Refused q) → P) → P
but_device (Ok x) other done memory refused = done
but_device (Err errors.Memory) other done memory refused = memory refl
but_device (Err errors.Device) other done memory refused = absurd (other refl)
but_device (Err (errors.Refused q)) other done memory refused = refused q refl

module _ {T U : Type 0} (name : List ℕ) (operation : Volume → Result Volume Refusal) (v : Vol) (Changes : List ℕ → List ℕ → Type 0) (old new : Meaning (List File)) where
  -- what is done, is done with whatever answer
  pub done_as : (x : T) (y : U) → Operates name operation v Changes old new (Ok x) → Operates name operation v Changes old new (Ok y)
  done_as x y operates = record {
    does = record {
      volume = operates.does.volume;
      before = operates.does.before;
      done = operates.does.done;
      settled = operates.does.settled;
      printed = operates.does.printed;
      moments = operates.does.moments;
    };
    refused = λ r is. cc;
    idle = operates.idle;
    memory = λ is. cc;
  }

  -- and so is what fails
  pub failed_as : (result : Result U StoreErr) (e : StoreErr) → result ≡ Err e → Operates {T = T} name operation v Changes old new (Err e) → Operates {T = U} name operation v Changes old new result
  failed_as result e is operates = subst (Operates name operation v Changes old new) (sym is) (record {
    does = record {
      volume = operates.does.volume;
      before = operates.does.before;
      done = tt;
      settled = tt;
      printed = operates.does.printed;
      moments = operates.does.moments;
    };
    refused = λ r is. let same : e ≡ errors.Refused r = cc in operates.refused r (ap Err same);
    idle = operates.idle;
    memory = λ is. let same : e ≡ errors.Memory = cc in operates.memory (ap Err same);
  })

-- it isn't begun
pub not_memory : (r : Refusal) → errors.Refused r ≡ errors.Memory → ⊥
not_memory r same = cc

pub as_other : {T U : Type 0} {e d : StoreErr} → IsErrOf {T = T} (Err e) d → IsErrOf {T = U} (Err e) d
as_other is = cc

-- an image is mounted as before where the pack and its index are the same
pub failed_mounted : {H T : Type 0} (meaning : H → Meaning (List File)) (facts : H → Facts) (h0 h1 : H) (v0 v1 : Vol) (e : StoreErr) → IsMounted (image_in (meaning h0) (facts h0) v0.unit) v0
    → (IsErrOf {T = T} (Err e) errors.Device → ⊥) → (IsErrOf {T = T} (Err e) errors.Memory → (h1 ≡ h0) × (v1 ≡ v0)) → ((q : Refusal) → IsErrOf {T = T} (Err e) (errors.Refused q) → (h1 ≡ h0) × (v1 ≡ v0))
    → IsMounted (image_in (meaning h1) (facts h1) v0.unit) v1
failed_mounted {H = H} {T = T} meaning facts h0 h1 v0 v1 e before other memory refused = but_device {T = T} (Err e) other tt (λ is. as_before (memory is)) (λ q is. as_before (refused q is))
  where
    as_before : (h1 ≡ h0) × (v1 ≡ v0) → IsMounted (image_in (meaning h1) (facts h1) v0.unit) v1
    as_before same = subst (λ (h : H). IsMounted (image_in (meaning h) (facts h) v0.unit) v1) (sym same.0) (subst (λ (u : Vol). IsMounted (image_in (meaning h0) (facts h0) v0.unit) u) (sym same.1) before)

pub not_operated : {T : Type 0} (name : List ℕ) (operation : Volume → Result Volume Refusal) (v : Vol) (Changes : List ℕ → List ℕ → Type 0) (old : Meaning (List File)) (counts : CountsNow old) (result : Result T StoreErr) (e : StoreErr) → result ≡ Err e → (volume : Volume)
    → volume_of (image_named old.state name) ≡ Ok volume → ((r : Refusal) → e ≡ errors.Refused r → operation volume ≡ Err r) → Operates {T = T} name operation v Changes old old result
not_operated name operation v Changes old counts result e answer volume stands refused = subst (Operates name operation v Changes old old) (sym answer) (record {
  does = record {
    volume = volume;
    before = stands;
    done = tt;
    settled = tt;
    printed = refl;
    moments = elapses_none old _;
  };
  refused = λ r is. let this : e ≡ errors.Refused r = cc in refused r this;
  idle = λ r is. same_none old counts;
  memory = λ is. same_none old counts;
})

-- the index is that of the image by whatever list of the same units
pub index_by : (us us1 : List Attached) (new : Meaning (List File)) (v v1 : Vol) → us1 ≡ us → IsMounted (image_named new.state (unit_of us v.unit).name) v1 → IsMounted (image_named new.state (unit_of us1 v.unit).name) v1
index_by us us1 new v v1 units index = subst (λ (u : List Attached). IsMounted (image_named new.state (unit_of u v.unit).name) v1) (sym units) index
