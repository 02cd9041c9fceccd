-- Calls of a device, one after another.
use Rattle.std.proofs.Common.{◌≡◌, ℕ, refl, subst, ◌∙◌, arith}
use Rattle.hall_core.specs.Facts.{Facts, ReportedCall}
use Rattle.stop_model.specs.Counts.{Rose}

-- nothing is reported
abbrev pub Unreported : Facts → Facts → Type 0
Unreported old new = ReportedCall ⊥ old new

pub unreported : (facts : Facts) → Unreported facts facts
unreported facts = record { units = refl; references = refl; prints = refl; later = omega arith; device = λ never. absurd never; others = λ none. refl }

pub reported_more : {P Q : Type 0} (a b c : Facts) → Unreported a b → ReportedCall P b c → (Q → P) → (P → Q) → ReportedCall Q a c
reported_more a b c first second from to =
    let stays : b.dev_faults ≡ a.dev_faults = first.others (λ never. never) in record {
      units = second.units ∙ first.units;
      references = second.references ∙ first.references;
      prints = second.prints ∙ first.prints;
      later = omega (arith, second.later, stays);
      device = λ q. subst (λ (n : ℕ). Rose n c.dev_faults) stays (second.device (from q));
      others = λ differs. second.others (λ p. differs (to p)) ∙ stays;
    }

pub reported_none : {P : Type 0} (a b c : Facts) → Unreported a b → ReportedCall P b c → ¬ P → Unreported a c
reported_none a b c first second differs = reported_more a b c first second (λ never. absurd never) differs
