-- Slots that break no rule hold DSCBs.
use Rattle.std.proofs.Common.{None, Some, Err, inl, inr, ⊎_elim, sym, ap, ◌∙◌}
use Rattle.std.proofs.lemmas.Result.{err_from_is_err_and}
use Rattle.std.specs.List.{slice_get}
use Rattle.vtoc_index.proofs.HeldDscbs.{held_dscbs, names_first, single_first}
use Rattle.vtoc_index.proofs.NameOrder.{same_names}
use Rattle.vtoc_index.proofs.NamesRead.{names_alike}
use Rattle.vtoc_index.proofs.CallsMade.{err_at}
use Rattle.vtoc_index.proofs.rules.dscbs_in.Goals as goal

pub returns-in-Some-clause-refused : goal.returns-in-Some-clause-refused
returns-in-Some-clause-refused c = inr (single_first c.args.geometry c.args.slots.now c.in-Some.fault (sym c.in-Some.is ∙ c.in_ok-fault.ensures.first))

pub returns-in_err-by_name-clause-refused : goal.returns-in_err-by_name-clause-refused
returns-in_err-by_name-clause-refused c =
    let none = sym c.in_default.is ∙ c.in_ok-fault.ensures.first in
    let p = err_from_is_err_and c.from_residual-in_err-by_name.result c.from_residual-in_err-by_name.ensures.1 in
    let e = c.in_err-by_name.field-0.0 in
    err_at c.from_residual-in_err-by_name.result _ e (p.1 ∙ ap Err p.2) (⊎_elim (λ is. inl is) (λ is. inr (names_first c.args.geometry c.args.slots.now (Some e) none is)) c.in_err-by_name.ensures.refused)

-- the slots break no rule, and hold these
held : goal.returns-clause-dscbs
held c =
    let none = sym c.in_default.is ∙ c.in_ok-fault.ensures.first in
    held_dscbs c.args.geometry c.args.slots.now _ (sym (names_first c.args.geometry c.args.slots.now None none (ap (λ l. slice_get l 0) c.in_ok-by_name.ensures.apart))) c.in_ok-dscbs.ensures

pub returns-clause-names : goal.returns-clause-names
returns-clause-names c =
    let are = (held c).0 in
    same_names _ _ _ (names_alike c.in_ok-dscbs.field-0.items c.args.slots.now are) c.in_ok-by_name.ensures.order

pub returns-clause-dscbs : goal.returns-clause-dscbs
returns-clause-dscbs c = held c
