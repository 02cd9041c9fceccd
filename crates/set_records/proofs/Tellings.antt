-- What a hall that tells its content can't come to, and what is noted of any other.
use Rattle.std.proofs.Common.{◌≡◌, arith, ℕ, Bool, true, false, Option, Some, None, refl, ◌∙◌}
use Rattle.std.specs.Prelude.{IsFalse, IsTrue, Err, Ok}
use Rattle.hall_core.specs.Facts.{DeviceCall, Facts, NotedCall}
use Rattle.stop_model.specs.Counts.{Rose}

-- what holds where it tells can't be, so it doesn't tell
pub tells_not : (P : Type 0) (tells : Bool) → (IsTrue tells → ⊥) → (IsFalse tells → P) → P
tells_not P true never other = absurd (never refl)
tells_not P false never other = other refl

pub none_there : (o : Option ℕ) (t : ℕ) → o ≡ Some t → None ≡ o → ⊥
none_there o t some none = cc

pub same_track : (x y : ℕ) → Some x ≡ Some y → x ≡ y
same_track x y e = cc

pub noted_first : {T E : Type 0} (e : E) (f0 f1 : Facts) → NotedCall f0 f1 → Rose f0.dev_faults f1.dev_faults → DeviceCall {T = T} f0 f1 (Err e)
noted_first e f0 f1 noted rose = record {
  units = noted.units;
  references = noted.references;
  prints = noted.prints;
  later = noted.later;
  done = tt;
  failed = rose;
}

pub noted_device : {S T D E : Type 0} (x : S) (e : E) (f0 f1 f2 : Facts) → DeviceCall {T = S} {E = D} f0 f1 (Ok x) → NotedCall f1 f2 → Rose f1.dev_faults f2.dev_faults → DeviceCall {T = T} f0 f2 (Err e)
noted_device x e f0 f1 f2 call noted rose = record {
  units = noted.units ∙ call.units;
  references = noted.references ∙ call.references;
  prints = noted.prints ∙ call.prints;
  later = omega (arith, noted.later, call.later);
  done = tt;
  failed = omega (arith, rose, call.later);
}
