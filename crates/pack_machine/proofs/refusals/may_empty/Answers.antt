use Rattle.std.proofs.Common.{ap, subst, ◌≢◌, ◌∙◌}
use Rattle.pack_spec.specs.Bodies.{body_of}
use Rattle.pack_spec.specs.Volume.{attr_of}
use Rattle.vol_model.specs.declared.answers.Kind.TheVariants.{Part}
use Rattle.vol_model.specs.declared.contents.Body.{Body}
use Rattle.vol_model.specs.Reading.{kind_of}
use Rattle.vol_model.specs.Shelf.{is_vacant}
use Rattle.pack_machine.proofs.Refusing.{may_not, may_other, may_partitioned, may_sequential, vacant_by}
use Rattle.pack_machine.proofs.refusals.may_empty.Goals as goal

pub returns-in-Seq : goal.returns-in-Seq
returns-in-Seq c g tracks extents not = may_sequential c.args.set.now.name (attr_of c.args.set.now) _ c.in-Seq.ensures.kind

pub returns-in-Part : goal.returns-in-Part
returns-in-Part c g tracks extents not =
    let f = c.args.set.now in
    let body = c.in-Part.ensures.body g tracks extents in
    may_partitioned f.name (attr_of f) _ c.in-Part.ensures.kind
    (ap is_vacant body ∙ vacant_by g tracks extents f.lstar (subst (λ (b : Body). kind_of b ≢ Part) body not))

pub returns-in-Catalog : goal.returns-in-Catalog
returns-in-Catalog c g tracks extents not = may_not c.args.set.now.name (attr_of c.args.set.now) _ c.in-Catalog.ensures.kind

pub returns-in-Other : goal.returns-in-Other
unfolding attr_of
returns-in-Other c g tracks extents not = may_other c.args.set.now.name (attr_of c.args.set.now) (body_of g tracks c.args.set.now.name (attr_of c.args.set.now) extents c.args.set.now.lstar) c.in-Other.ensures.kind
