use Rattle.std.proofs.Common.{◌<◌, ◌≤◌, ◌∙◌, List, ℕ, length, sym, arith}
use Rattle.pack_spec.specs.declared.slot.VtocSlot.{VtocSlot}
use Rattle.free_rebuild.specs.Settled.{is_kept, slots_held}
use Rattle.free_rebuild.proofs.ChainLemmas.{get_some}
use Rattle.free_rebuild.proofs.HeldLemmas.{held_many, kept_all, kept_more, kept_none}
use Rattle.free_rebuild.proofs.settled.are_kept.Goals as goal

pub returns-then-not-is_kept : goal.returns-then-not-is_kept
returns-then-not-is_kept c =
    let slots : List VtocSlot = slots_held c.args.vol.now in
    let slot : ℕ = c.loop-slot.slot in
    let low : slot < length slots = omega (arith, c.loop-slot-test.true, c.len-slot-end.ensures, held_many c.args.vol.now) in
    let item = get_some slots slot low in
    sym (kept_none (is_kept slots) slots slot item.0 item.1 (sym (c.is_kept.ensures item.0 item.1) ∙ c.if-not-is_kept.true))

pub loop-slot-preserved : goal.loop-slot-preserved
loop-slot-preserved c =
    let slots : List VtocSlot = slots_held c.args.vol.now in
    let slot : ℕ = c.loop-slot.slot in
    let low : slot < length slots = omega (arith, c.loop-slot-test.true, c.len-slot-end.ensures, held_many c.args.vol.now) in
    let item = get_some slots slot low in
    record { kept = kept_more (is_kept slots) slots slot item.0 item.1 c.loop-slot.invariant.kept (sym (c.is_kept.ensures item.0 item.1) ∙ c.if-not-is_kept.false) }

pub returns : goal.returns
returns c =
    let slots : List VtocSlot = slots_held c.args.vol.now in
    let slot : ℕ = c.loop-slot.slot in
    let high : length slots ≤ slot = omega (arith, c.loop-slot-test.false, c.len-slot-end.ensures, held_many c.args.vol.now) in
    sym (kept_all (is_kept slots) slots slot high c.loop-slot.invariant.kept)
