use Rattle.std.proofs.Common.{◌≡◌, sym, ap, ◌∙◌, arith}
use Rattle.std.specs.Prelude.{bit_and}
use Rattle.std.specs.Str.{bytes_eq}
use Rattle.std.proofs.lemmas.Bool.{ne_eqb}
use Rattle.pack_spec.specs.Settled.{is_f0}
use Rattle.free_rebuild.specs.Clearing.{free_in}
use Rattle.free_rebuild.specs.Settled.{slots_held}
use Rattle.free_rebuild.proofs.HeldLemmas.{held_count, held_highest, right_counted, right_miscounted}
use Rattle.free_rebuild.proofs.settled.counts_match.Goals as goal

pub returns-then-head-free_count : goal.returns-then-head-free_count
returns-then-head-free_count c =
    let v = c.args.vol.now in
    let head = c.args.head.now in
    let off : bit_and head.indicators 0x84 ≡ 0 = omega arith in
    let count = c.free_count.ensures ∙ ap free_in c.deref.ensures.value ∙ sym (held_count is_f0 v) in
    c.eq.ensures ∙ ap (bytes_eq head.highest) (c.highest_in.ensures ∙ held_highest v) ∙ right_counted (slots_held v) head off (c.if-head-free_count.true ∙ count)

pub returns-else-head-free_count : goal.returns-else-head-free_count
returns-else-head-free_count c =
    let v = c.args.vol.now in
    let head = c.args.head.now in
    let off : bit_and head.indicators 0x84 ≡ 0 = omega arith in
    let count = c.free_count.ensures ∙ ap free_in c.deref.ensures.value ∙ sym (held_count is_f0 v) in
    ne_eqb head.free c.free_count.result c.if-head-free_count.false
    ∙ right_miscounted (slots_held v) head off (λ is. c.if-head-free_count.false (is ∙ sym count))
