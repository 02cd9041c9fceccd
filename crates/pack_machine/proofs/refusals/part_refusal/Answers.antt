use Rattle.std.proofs.Common.{Bool, Option, subst, sym}
use Rattle.pack_spec.specs.Bodies.{body_of}
use Rattle.pack_spec.specs.Volume.{attr_of}
use Rattle.pack_machine.specs.Libraries.{IsVacancyOf}
use Rattle.pack_machine.proofs.Refusing.{vacancy_none, vacancy_some}
use Rattle.pack_machine.proofs.refusals.part_refusal.Goals as goal

pub returns-in-Some-true-clause-reason : goal.returns-in-Some-true-clause-reason
returns-in-Some-true-clause-reason c g tracks extents part told =
    let f = c.args.set.now in
    vacancy_none g tracks f.name (attr_of f) extents f.lstar c.in-Some-true.field-0 (subst (λ (o : Option Bool). IsVacancyOf o (body_of g tracks f.name (attr_of f) extents f.lstar) f.lstar) c.in-Some-true.is told) (sym part) c.in-Some-true.field-0-test

pub returns-in-Some-false-clause-reason : goal.returns-in-Some-false-clause-reason
returns-in-Some-false-clause-reason c g tracks extents part told =
    let f = c.args.set.now in
    vacancy_some g tracks f.name (attr_of f) extents f.lstar c.in-Some-false.field-0 (subst (λ (o : Option Bool). IsVacancyOf o (body_of g tracks f.name (attr_of f) extents f.lstar) f.lstar) c.in-Some-false.is told) (sym part) c.in-Some-false.field-0-test
