use Rattle.std.proofs.Common.{false, true, sym, ◌∙◌}
use Rattle.pack_machine.proofs.Refusing.{extend_tested}
use Rattle.pack_machine.proofs.refusals.extend_refusal.Goals as goal

pub returns-then-is_catalog-clause-refusal : goal.returns-then-is_catalog-clause-refusal
returns-then-is_catalog-clause-refusal c g tracks extents listed = sym (extend_tested c.args.set.now.name _ true c.if-is_catalog.ensures)

pub returns-clause-refusal : goal.returns-clause-refusal
returns-clause-refusal c g tracks extents listed =
    c.unread_refusal.ensures g tracks extents listed
    ∙ sym (extend_tested c.args.set.now.name _ false c.if-is_catalog.ensures)
