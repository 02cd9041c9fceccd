use Rattle.std.proofs.Common.{◌≡◌, List, ℕ, ap, refl, sym, ◌∙◌, false, true}
use Rattle.std.proofs.lemmas.Result.{on_ok_weaker}
use Rattle.hall_core.specs.Facts.{Attached, unit_of}
use Rattle.hall_core.specs.Images.{image_in}
use Rattle.seq_access.proofs.EndSteps.{blocks_back, end_back, spares_from}
use Rattle.seq_access.proofs.PutCalls.{image_as}
use Rattle.seq_access.proofs.writing.put_end.Goals as goal

pub returns-clause-spares : goal.returns-clause-spares
returns-clause-spares g c told is =
    let v = c.args.vol.now in
    let m0 = g.H.Hall.meaning c.args.hall.now in
    let m1 = g.H.Hall.meaning c.ends_with_a_record.new.hall in
    let m2 = g.H.Hall.meaning c.put_end_record.new.hall in
    let f0 = g.H.Hall.facts c.args.hall.now in
    let f1 = g.H.Hall.facts c.ends_with_a_record.new.hall in
    let quiet = c.in_ok-ends_with_a_record.ensures.same told in
    let units = c.in_ok-ends_with_a_record.ensures.faults.units in
    let image = image_as m0 m1 f0 f1 v.unit v.unit quiet.state units refl in
    let n0 : List ℕ = (unit_of f0.units v.unit).name in
    let n1 : List ℕ = (unit_of f1.units v.unit).name in
    let names : n1 ≡ n0 = ap (λ (us : List Attached). (unit_of us v.unit).name) units in
    spares_from (image_in m0 f0 v.unit) (image_in m1 f1 v.unit) v v c.args.writer image refl is.set.mounted is n0 n1 m0 m1 m2 c.put_end_record.result names quiet (c.put_end_record.ensures.spares told)

pub returns-clause-blocks : goal.returns-clause-blocks
returns-clause-blocks g c told =
    let v = c.args.vol.now in
    let m0 = g.H.Hall.meaning c.args.hall.now in
    let m1 = g.H.Hall.meaning c.ends_with_a_record.new.hall in
    let m2 = g.H.Hall.meaning c.put_end_record.new.hall in
    let f0 = g.H.Hall.facts c.args.hall.now in
    let f1 = g.H.Hall.facts c.ends_with_a_record.new.hall in
    let f2 = g.H.Hall.facts c.put_end_record.new.hall in
    let image = image_as m0 m1 f0 f1 v.unit v.unit (c.in_ok-ends_with_a_record.ensures.same told).state c.in_ok-ends_with_a_record.ensures.faults.units refl in
    on_ok_weaker c.put_end_record.result (λ there is. blocks_back (image_in m0 f0 v.unit) (image_in m1 f1 v.unit) v v c.args.writer image refl is.set.mounted is (image_in m2 f2 v.unit) c.put_end_record.new.vol there) (c.put_end_record.ensures.blocks told)

pub returns-then-not-branch-clause-end : goal.returns-then-not-branch-clause-end
returns-then-not-branch-clause-end g c told is fill =
    let other : false ≡ true = sym c.if-not-branch.true ∙ c.in_ok-ends_with_a_record.ensures.kind is.f is.slot ∙ fill in
    absurd (never other)
  where
    never : false ≡ true → ⊥
    never e = cc

pub returns-clause-end : goal.returns-clause-end
returns-clause-end g c told =
    let v = c.args.vol.now in
    let m0 = g.H.Hall.meaning c.args.hall.now in
    let m1 = g.H.Hall.meaning c.ends_with_a_record.new.hall in
    let f0 = g.H.Hall.facts c.args.hall.now in
    let f1 = g.H.Hall.facts c.ends_with_a_record.new.hall in
    let i2 = image_in (g.H.Hall.meaning c.put_end_record.new.hall) (g.H.Hall.facts c.put_end_record.new.hall) v.unit in
    let image = image_as m0 m1 f0 f1 v.unit v.unit (c.in_ok-ends_with_a_record.ensures.same told).state c.in_ok-ends_with_a_record.ensures.faults.units refl in
    on_ok_weaker c.put_end_record.result (λ there is fill. end_back (image_in m0 f0 v.unit) (image_in m1 f1 v.unit) v v c.args.writer image refl is.set.mounted is i2 (λ x mode. there x) fill) (c.put_end_record.ensures.end told)
