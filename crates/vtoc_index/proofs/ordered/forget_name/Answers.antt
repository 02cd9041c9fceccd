-- The slot is taken from its place; where it has none, it had no name.
use Rattle.std.proofs.Common.{◌≡◌, ℕ, List, true, false, sym, ap, subst, ◌∙◌}
use Rattle.std.specs.Prelude.{◌==◌, position}
use Rattle.vtoc_index.specs.Names.{AreByName, name_at}
use Rattle.vtoc_index.proofs.NameSearch.{nowhere}
use Rattle.vtoc_index.proofs.Reordered.{forgotten}
use Rattle.vtoc_index.proofs.ordered.forget_name.Goals as goal

pub returns-in_default-clause-names : goal.returns-in_default-clause-names
returns-in_default-clause-names c before order is =
    let slot = c.args.slot in
    let none = ap (λ (l : List ℕ). position (λ s. s == slot) l) (sym c.deref.ensures.value) ∙ sym c.in_default.ensures in
    let both : false ≡ true = sym (nowhere (λ s. s == slot) c.args.vol.now.by_name.items none) ∙ order.each slot ∙ is.was in
    absurd (let wrong : ⊥ = cc in wrong)

pub returns-in-Some-clause-names : goal.returns-in-Some-clause-names
returns-in-Some-clause-names c before order is =
    let slot = c.args.slot in
    let slots = c.args.vol.now.slots.items in
    let there = ap (λ (l : List ℕ). position (λ s. s == slot) l) (sym c.deref.ensures.value) ∙ sym c.in-Some.ensures in
    subst (λ (l : List ℕ). AreByName (name_at slots) l) (sym c.remove.ensures.items)
    (forgotten (name_at before) (name_at slots) c.args.vol.now.by_name.items order slot c.in-Some.place there is.is is.others)
