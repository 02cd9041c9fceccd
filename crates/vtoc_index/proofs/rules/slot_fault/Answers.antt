-- Bytes that are no DSCB break a rule by themselves.
use Rattle.std.proofs.Common.{◌≡◌, None, Result, cond, false, nat_eq, sym, ap, ◌∙◌}
use Rattle.std.proofs.lemmas.Bool.{ne_eqb}
use Rattle.dscb_codec.specs.declared.Dscb.{Dscb}
use Rattle.dscb_codec.specs.declared.DscbErr.{DscbErr}
use Rattle.pack_spec.specs.Rules.{content_fault, slot_fault}
use Rattle.vtoc_index.proofs.rules.slot_fault.Goals as goal

pub returns-in-Err-clause-first : goal.returns-in-Err-clause-first
unfolding slot_fault
returns-in-Err-clause-first c =
    let g = c.args.geometry in
    let slots = c.args.slots.now in
    let k = c.args.number in
    let behind : nat_eq k 0 ≡ false = ne_eqb k 0 c.if-number-eq0.false in
    sym (ap (λ b. cond b None (content_fault g slots k c.args.slot.now.content)) behind
    ∙ ap (λ (r : Result Dscb DscbErr). content_fault g slots k r) c.in-Err.is
    ∙ c.refused.ensures.exact g slots)
