-- The slot is put at the place of its name.
use Rattle.std.proofs.Common.{ℕ, List, sym, ap, subst, ◌∙◌}
use Rattle.std.specs.Ordering.{is_lt}
use Rattle.std.specs.List.{count_by}
use Rattle.dscb_codec.specs.declared.Dscb.{Dscb}
use Rattle.vtoc_index.specs.Names.{AreByName, name_at, or_zeros}
use Rattle.vtoc_index.proofs.NameOrder.{compare}
use Rattle.vtoc_index.proofs.Reordered.{entered}
use Rattle.vtoc_index.proofs.ordered.enter_name.Goals as goal

pub returns-clause-names : goal.returns-clause-names
returns-clause-names c before order is =
    let slot = c.args.slot in
    let slots = c.args.vol.now.slots.items in
    let held = c.args.vol.now.by_name.items in
    let place =
    c.place_for-place.ensures.count
    ∙ ap (λ (l : List Dscb). count_by (λ s. is_lt (compare (or_zeros (name_at l s)) c.name_in.result)) c.deref-2.result.now) c.deref.ensures.value
    ∙ ap (λ (m : List ℕ). count_by (λ s. is_lt (compare (or_zeros (name_at slots s)) m)) c.deref-2.result.now) (c.name_in.ensures ∙ ap (λ (l : List Dscb). or_zeros (name_at l slot)) c.deref-3.ensures.value)
    ∙ ap (λ (l : List ℕ). count_by (λ s. is_lt (compare (or_zeros (name_at slots s)) (or_zeros (name_at slots slot)))) l) c.deref-2.ensures.value
    in
    subst (λ (l : List ℕ). AreByName (name_at slots) l) (sym c.insert_at.ensures)
    (entered (name_at before) (name_at slots) held order slot is.name is.was is.is is.others is.apart c.place_for-place.result place)
