use Rattle.std.proofs.Common.{false, true, sym, ◌∙◌}
use Rattle.pack_spec.specs.Volume.{attr_of}
use Rattle.pack_machine.proofs.Refusing.{empty_tested}
use Rattle.pack_machine.proofs.refusals.empty_refusal.Goals as goal

pub returns-then-not-may_empty-clause-reason : goal.returns-then-not-may_empty-clause-reason
returns-then-not-may_empty-clause-reason c g tracks extents listed vacant =
    empty_tested c.args.set.now.name (attr_of c.args.set.now) _ false (c.if-not-may_empty.ensures g tracks extents (c.if-is_part.ensures g tracks extents listed))

pub returns-in-Some-clause-reason : goal.returns-in-Some-clause-reason
returns-in-Some-clause-reason c g tracks extents listed vacant =
    empty_tested c.args.set.now.name (attr_of c.args.set.now) _ true (c.if-not-may_empty.ensures g tracks extents (c.if-is_part.ensures g tracks extents listed))
    ∙ sym (c.in-Some.ensures g tracks extents listed)

pub returns-in-None-clause-reason : goal.returns-in-None-clause-reason
returns-in-None-clause-reason c g tracks extents listed vacant =
    empty_tested c.args.set.now.name (attr_of c.args.set.now) _ true (c.if-not-may_empty.ensures g tracks extents (c.if-is_part.ensures g tracks extents listed))
    ∙ sym (c.in-None.ensures g tracks extents listed)

pub returns-then-is_part-clause-reason : goal.returns-then-is_part-clause-reason
returns-then-is_part-clause-reason c g tracks extents listed vacant = c.part_refusal.ensures.reason g tracks extents (c.if-is_part.ensures g tracks extents listed) (vacant (c.if-is_part.ensures g tracks extents listed))
