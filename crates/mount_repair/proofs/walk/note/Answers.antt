use Rattle.std.proofs.Common.{sym, ◌∙◌, refl}
use Rattle.mount_repair.specs.Walks.{lists, passes}
use Rattle.mount_repair.proofs.walk.note.Goals as goal

pub returns-then-is_packed-clause-noted : goal.returns-then-is_packed-clause-noted
returns-then-is_packed-clause-noted c = passes (λ directory read. sym (c.is_packed.ensures directory read) ∙ c.if-is_packed.true) refl

pub returns-clause-noted : goal.returns-clause-noted
returns-clause-noted c = lists (record { slot = c.args.slot; packing = c.in_ok-packing.packing }) (λ directory read. sym (c.is_packed.ensures directory read) ∙ c.if-is_packed.false) refl c.in_ok-packing.ensures c.in_ok-add.ensures.done
