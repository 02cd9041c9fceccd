use Rattle.std.proofs.Common.{◌≡◌, ◌∙◌, ℕ, List, Some, ap, subst, sym}
use Rattle.std.specs.Prelude.{Err, Ok}
use Rattle.space_alloc.specs.Units.{Chooses}
use Rattle.vol_model.specs.declared.contents.Run.{Run}
use Rattle.vol_model.specs.declared.refusals.Refusal.TheVariants.{NoSpace}
use Rattle.vol_model.specs.Space.{EndBy}
use Rattle.dadsm_ops.specs.Extending.{secondary_request}
use Rattle.dadsm_ops.proofs.NewChoices.{chosen_written}
use Rattle.dadsm_ops.proofs.NewPlans.{free_within}
use Rattle.dadsm_ops.proofs.SecondaryChoices.{secondary_none, secondary_refused, secondary_some}
use Rattle.dadsm_ops.proofs.extending.chosen.Goals as goal

pub returns-in_default-clause-refused : goal.returns-in_default-clause-refused
returns-in_default-clause-refused c image volume mounted stands =
    (secondary_none volume c.args.attr.now (sym c.secondary_request.ensures ∙ c.in_default.is), ap (λ (n : ℕ). NoSpace n) c.secondary_asked.ensures)

pub choose-requires-clause-within : goal.choose-requires-clause-within
choose-requires-clause-within c =
    subst (EndBy 65535) (sym c.deref.ensures.value) (free_within c.args.vol.now c.requires.unit)

pub returns-in-Ok-clause-written : goal.returns-in-Ok-clause-written
returns-in-Ok-clause-written c =
    let e = c.in-Ok.extents in
    let q = c.in-Some.request in
    let v = c.args.vol.now in
    let chooses = subst (λ (rs : List Run). Chooses rs v.geometry q (Ok e)) c.deref.ensures.value c.in-Ok.ensures.choice in
    chosen_written v q e c.requires.unit chooses c.in-Ok.ensures.within

pub returns-in-Ok-clause-chosen : goal.returns-in-Ok-clause-chosen
returns-in-Ok-clause-chosen c image volume mounted stands =
    let e = c.in-Ok.extents in
    let q = c.in-Some.request in
    let v = c.args.vol.now in
    let asked : secondary_request c.args.attr.now ≡ Some q = sym c.secondary_request.ensures ∙ c.in-Some.is in
    let chooses = subst (λ (rs : List Run). Chooses rs v.geometry q (Ok e)) c.deref.ensures.value c.in-Ok.ensures.choice in
    secondary_some image v volume mounted stands c.args.attr.now q asked e chooses

pub returns-in-Err-clause-refused : goal.returns-in-Err-clause-refused
returns-in-Err-clause-refused c image volume mounted stands =
    let e = c.in-Err.none in
    let q = c.in-Some.request in
    let v = c.args.vol.now in
    let asked : secondary_request c.args.attr.now ≡ Some q = sym c.secondary_request.ensures ∙ c.in-Some.is in
    let chooses = subst (λ (rs : List Run). Chooses rs v.geometry q (Err e)) c.deref.ensures.value c.in-Err.ensures.choice in
    secondary_refused image v volume mounted stands c.args.attr.now q asked e chooses
