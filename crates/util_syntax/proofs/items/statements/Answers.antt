use Rattle.std.proofs.Common.{◌≡◌, ◌∙◌, ◌++◌, false, map, ap, sym, append-nil, arith}
use Rattle.std.proofs.lemmas.Grind.{common_steps}
use Rattle.util_syntax.specs.Items.{item_view, is_comment}
use Rattle.util_syntax.proofs.Reading.{next_item, none_left}
use Rattle.util_syntax.proofs.items.statements.Goals as goal

pub returns-in-None : goal.returns-in-None
returns-in-None c =
    sym (append-nil (map item_view c.statements.items.items))
    ∙ ap (λ items. map item_view c.statements.items.items ++ items) (sym (none_left c.statements.rest.now c.in-None.ensures.cases))
    ∙ c.statements.invariant

pub statements-preserved : goal.statements-preserved
statements-preserved c =
    let plain : is_comment c.in-Some.parts.0.now ≡ false = sym c.is_comment.ensures ∙ c.if-is_comment.false in
    let next = next_item c.statements.rest.now c.in-Some.parts.0.now c.in-Some.parts.1.now c.in-Some.ensures.cases.0 plain in
    grind (arith, common_steps, next, c.in_ok-item.ensures, c.cards_after-rest.ensures.cards)
