-- The slot is taken from its place, and put to that of its new name.
use Rattle.std.proofs.Common.{◌≡◌, ℕ, List, Bool, true, false, Some, None, sym, ap, subst, ◌∙◌}
use Rattle.std.specs.Prelude.{◌==◌, position}
use Rattle.std.specs.Ordering.{is_lt}
use Rattle.std.specs.List.{count_by, insert}
use Rattle.dscb_codec.specs.declared.Dscb.{Dscb}
use Rattle.vtoc_index.specs.Names.{AreByName, name_at, or_zeros}
use Rattle.vtoc_index.proofs.NameOrder.{compare}
use Rattle.vtoc_index.proofs.NameSearch.{nowhere}
use Rattle.vtoc_index.proofs.Reordered.{reordered}
use Rattle.vtoc_index.proofs.ordered.reorder.Goals as goal

pub returns-in_default-clause-names : goal.returns-in_default-clause-names
returns-in_default-clause-names c before order renamed =
    let slot = c.args.slot in
    let none = ap (λ (l : List ℕ). position (λ s. s == slot) l) (sym c.deref.ensures.value) ∙ sym c.in_default.ensures in
    let both : false ≡ true = sym (nowhere (λ s. s == slot) c.args.vol.now.by_name.items none) ∙ order.each slot ∙ renamed.was in
    absurd (let wrong : ⊥ = cc in wrong)

pub returns-clause-names : goal.returns-clause-names
returns-clause-names c before order renamed =
    let slot = c.args.slot in
    let slots = c.args.vol.now.slots.items in
    let held = c.args.vol.now.by_name.items in
    let there = ap (λ (l : List ℕ). position (λ s. s == slot) l) (sym c.deref.ensures.value) ∙ sym c.in-Some.ensures in
    let q = c.place_for-place.result in
    let place =
    c.place_for-place.ensures.count
    ∙ ap (λ (l : List Dscb). count_by (λ s. is_lt (compare (or_zeros (name_at l s)) c.name_in.result)) c.deref-3.result.now) c.deref-2.ensures.value
    ∙ ap (λ (m : List ℕ). count_by (λ s. is_lt (compare (or_zeros (name_at slots s)) m)) c.deref-3.result.now) (c.name_in.ensures ∙ ap (λ (l : List Dscb). or_zeros (name_at l slot)) c.deref-4.ensures.value)
    ∙ ap (λ (l : List ℕ). count_by (λ s. is_lt (compare (or_zeros (name_at slots s)) (or_zeros (name_at slots slot)))) l) (c.deref-3.ensures.value ∙ c.remove.ensures.items)
    in
    subst (λ (l : List ℕ). AreByName (name_at slots) l) (sym (c.insert_at.ensures ∙ ap (λ (l : List ℕ). insert l q slot) c.remove.ensures.items))
    (reordered (name_at before) (name_at slots) held order slot c.in-Some.place renamed.name there renamed.was renamed.is renamed.others renamed.apart q place)
