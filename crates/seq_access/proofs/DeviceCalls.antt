-- Calls of a device, one after another.
use Rattle.std.proofs.Common.{◌≡◌, sym, ◌∙◌, subst, arith}
use Rattle.std.specs.Prelude.{Err, Ok, Result}
use Rattle.hall_core.specs.Facts.{DeviceCall, Facts, ReportedCall}

module _ {T U D E : Type 0} (f0 f1 f2 : Facts) (first : ReportedCall ⊥ f0 f1) where
  -- after calls that are done one fails
  pub device_fails : {d : D} {e : E} (r : Result U E) → DeviceCall {T = T} {E = D} f1 f2 (Err d) → r ≡ Err e → DeviceCall f0 f2 r
  device_fails {e = e} r call is =
      let P : Result U E → Type 0 = λ x. DeviceCall f0 f2 x in
      subst P (sym is) (record {
        units = call.units ∙ first.units;
        references = call.references ∙ first.references;
        prints = call.prints ∙ first.prints;
        later = omega (arith, first.later, call.later);
        done = tt;
        failed = omega (arith, call.failed, first.others (λ none. none));
      })

  -- or is done too
  pub device_done : {x : T} {y : U} → DeviceCall {T = T} {E = D} f1 f2 (Ok x) → DeviceCall {T = U} {E = E} f0 f2 (Ok y)
  device_done call = record {
    units = call.units ∙ first.units;
    references = call.references ∙ first.references;
    prints = call.prints ∙ first.prints;
    later = omega (arith, first.later, call.later);
    done = call.done ∙ first.others (λ none. none);
    failed = tt;
  }

pub no_fault : {T E : Type 0} {f1 f2 : Facts} {x : T} → DeviceCall {T = T} {E = E} f1 f2 (Ok x) → ReportedCall ⊥ f1 f2
no_fault call = record {
  units = call.units;
  references = call.references;
  prints = call.prints;
  later = call.later;
  device = λ none. absurd none;
  others = λ _. call.done;
}

pub all_done : {T E : Type 0} {f0 f1 : Facts} {x : T} → ReportedCall ⊥ f0 f1 → DeviceCall {T = T} {E = E} f0 f1 (Ok x)
all_done calls = record {
  units = calls.units;
  references = calls.references;
  prints = calls.prints;
  later = calls.later;
  done = calls.others (λ none. none);
  failed = tt;
}
