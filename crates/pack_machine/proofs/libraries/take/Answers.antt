use Rattle.std.proofs.Common.{◌≡◌, ◌∙◌, Some, not, sym, ap, rules}
use Rattle.std.specs.Prelude.{◌==◌, filter, position, slice_get}
use Rattle.std.proofs.lemmas.Fn.{filter_same}
use Rattle.std.proofs.lemmas.Option.{slice_get-get_or}
use Rattle.std.proofs.lemmas.List.Quantifiers.{position-Some}
use Rattle.mount_repair.specs.declared.library.Library.{Library}
use Rattle.pack_machine.proofs.FoundElements.{found_first, found_none, others_all, others_left}
use Rattle.pack_machine.proofs.libraries.take.Goals as goal

pub returns-in_err-at-clause-taken : goal.returns-in_err-at-clause-taken
returns-in_err-at-clause-taken c =
    let p = λ (l : Library). l.start == c.args.start in
    c.from_residual.ensures ∙ sym (found_none p c.args.libraries.now.items (sym (c.in_err-at.ensures ∙ ap (position p) c.deref.ensures.value)))

pub returns-in_err-at-clause-others : goal.returns-in_err-at-clause-others
returns-in_err-at-clause-others c =
    let p = λ (l : Library). l.start == c.args.start in
    sym (others_all p c.args.libraries.now.items (sym (c.in_err-at.ensures ∙ ap (position p) c.deref.ensures.value)))

pub returns-clause-taken : goal.returns-clause-taken
returns-clause-taken c =
    let p = λ (l : Library). l.start == c.args.start in
    let items = c.args.libraries.now.items in
    let at : position p items ≡ Some c.in_ok-at.at = sym (c.in_ok-at.ensures ∙ ap (position p) c.deref.ensures.value) in
    let l = c.remove-library.result in
    let there : slice_get items c.in_ok-at.at ≡ Some l =
    slice_get-get_or items c.in_ok-at.at l (position-Some p items c.in_ok-at.at l at).0 ∙ ap (λ (x : Library). Some x) (sym c.remove-library.ensures.value) in
    sym (found_first p items c.in_ok-at.at l at there)

pub returns-clause-others : goal.returns-clause-others
returns-clause-others c =
    let p = λ (l : Library). l.start == c.args.start in
    let items = c.args.libraries.now.items in
    let at : position p items ≡ Some c.in_ok-at.at = sym (c.in_ok-at.ensures ∙ ap (position p) c.deref.ensures.value) in
    filter_same _ (λ (l : Library). not (p l)) _ (λ x b f' k. search rules) _ _ c.retain.ensures.filtered
    ∙ ap (filter (λ (l : Library). not (p l))) c.remove-library.ensures.items
    ∙ others_left p items c.in_ok-at.at at
