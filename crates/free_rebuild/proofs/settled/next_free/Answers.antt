use Rattle.std.proofs.Common.{◌+◌, ◌≤◌, List, length, sym, ap, ◌∙◌, arith}
use Rattle.dscb_codec.specs.declared.Dscb.{Dscb}
use Rattle.free_rebuild.specs.Chain.{next_open}
use Rattle.free_rebuild.proofs.HeldLemmas.{held_free, none_past}
use Rattle.free_rebuild.proofs.settled.next_free.Goals as goal

pub returns-then-slot-len-clause-next : goal.returns-then-slot-len-clause-next
returns-then-slot-len-clause-next c =
    let v = c.args.vol.now in
    let high : length v.slots.items ≤ c.args.slot + 1 = omega (arith, c.if-slot-len.true, c.len.ensures) in
    sym (held_free v (c.args.slot + 1) ∙ none_past v.slots.items (c.args.slot + 1) high)

pub returns-clause-next : goal.returns-clause-next
returns-clause-next c =
    let v = c.args.vol.now in
    c.next_open.ensures ∙ ap (λ (ds : List Dscb). next_open ds (c.args.slot + 1)) c.deref.ensures.value ∙ sym (held_free v (c.args.slot + 1))
