-- A call that leaves the index of a pack and its image as they were, and one after it.
use Rattle.std.proofs.Common.{◌∙◌, ◌≡◌, Err, List, Ok, Result, ap, arith, subst, sym, ℕ}
use Rattle.std.specs.Prelude.{Err, IfErr, IsErrOf, Ok, Result}
use Rattle.free_rebuild.specs.Repairs.{image_named}
use Rattle.hall_core.specs.Facts.{Attached, DeviceCall, Facts, NotedCall, ReportedCall, unit_of}
use Rattle.stop_model.specs.Counts.{Rose}
use Rattle.stop_model.specs.Files.{File}
use Rattle.stop_model.specs.Moments.{Meaning}
use Rattle.vtoc_index.specs.Index.{IsOfUnit}
use Rattle.vtoc_index.specs.declared.vol.Vol.{Vol}
use Rattle.mount_repair.proofs.OtherBuffers.{image_at}
use Rattle.vol_model.specs.declared.answers.ReadErr.{ReadErr}
use Rattle.vol_model.specs.declared.answers.ReadErr.TheVariants as errors

module _ (m m' : Meaning (List File)) (old new : Facts) (v v' : Vol) (state : m'.state ≡ m.state) (units : new.units ≡ old.units) (same : v' ≡ v) where
  image_still : image_at m' new v' ≡ image_at m old v
  image_still =
      ap (λ (fs : List File). image_named fs (unit_of new.units v'.unit).name) state
      ∙ ap (λ (us : List Attached). image_named m.state (unit_of us v'.unit).name) units
      ∙ ap (λ (w : Vol). image_named m.state (unit_of old.units w.unit).name) same

  -- what holds of the image and the index holds of them then, and the other way round
  pub stays : (P : List ℕ → Vol → Type 0) → P (image_at m old v) v → P (image_at m' new v') v'
  stays P is = subst (λ (i : List ℕ). P i v') (sym image_still) (subst (P (image_at m old v)) (sym same) is)

  pub stayed : (P : List ℕ → Vol → Type 0) → P (image_at m' new v') v' → P (image_at m old v) v
  stayed P is = subst (P (image_at m old v)) same (subst (λ (i : List ℕ). P i v') image_still is)

pub unit_stays : (old new : List Attached) (v v' : Vol) → new ≡ old → v' ≡ v → IsOfUnit old v → IsOfUnit new v'
unit_stays old new v v' units same is = subst (λ (us : List Attached). IsOfUnit us v') (sym units) (subst (IsOfUnit old) (sym same) is)

-- two calls of a device
pub device_behind : {T S E F : Type 0} (a b c : Facts) (x : T) (r : Result S F) → DeviceCall {E = E} a b (Ok x) → DeviceCall b c r → DeviceCall a c r
device_behind a b c x (Ok y) first second = record {
  units = second.units ∙ first.units;
  references = second.references ∙ first.references;
  prints = second.prints ∙ first.prints;
  later = omega (arith, second.later, first.later);
  done = second.done ∙ first.done;
  failed = tt;
}
device_behind a b c x (Err e) first second = record {
  units = second.units ∙ first.units;
  references = second.references ∙ first.references;
  prints = second.prints ∙ first.prints;
  later = omega (arith, second.later, first.later);
  done = tt;
  failed = subst (λ (n : ℕ). Rose n c.dev_faults) first.done second.failed;
}

-- a fault that is noted after other calls
pub noted_reported : (P S : Type 0) (f0 f1 f2 : Facts) → P → ReportedCall S f0 f1 → NotedCall f1 f2 → Rose f1.dev_faults f2.dev_faults → ReportedCall P f0 f2
noted_reported P S f0 f1 f2 here call noted rose = record {
  units = noted.units ∙ call.units;
  references = noted.references ∙ call.references;
  prints = noted.prints ∙ call.prints;
  later = omega (arith, noted.later, call.later);
  device = λ _. omega (arith, rose, call.later);
  others = λ no. absurd (no here);
}

-- memory that runs out is no fault of the device
pub not_device : {T : Type 0} (r : Result T ReadErr) → IfErr r (λ e. e ≡ errors.Memory) → IsErrOf r errors.Device → ⊥
not_device (Ok x) memory is = cc
not_device (Err e) memory is = cc

-- calls after one that is done, and one that failed alone
pub reported_behind : {T E : Type 0} {P : Type 0} (a b c : Facts) (x : T) → DeviceCall {E = E} a b (Ok x) → ReportedCall P b c → ReportedCall P a c
reported_behind a b c x first second = record {
  units = second.units ∙ first.units;
  references = second.references ∙ first.references;
  prints = second.prints ∙ first.prints;
  later = omega (arith, first.later, second.later);
  device = λ is. subst (λ (n : ℕ). Rose n c.dev_faults) first.done (second.device is);
  others = λ none. second.others none ∙ first.done;
}
