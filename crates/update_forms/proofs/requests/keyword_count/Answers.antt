use Rattle.std.proofs.Common.{◌≡◌, sym, ◌∙◌, rules}
use Rattle.std.specs.List.{count_by}
use Rattle.card_text.specs.declared.operands.Operand.{Operand}
use Rattle.card_text.specs.Operands.{operand_view}
use Rattle.util_syntax.specs.Forms.{has_keyword}
use Rattle.util_syntax.proofs.FormLemmas.{count_by_map}
use Rattle.update_forms.proofs.requests.keyword_count.Goals as goal

pub returns : goal.returns
returns c =
    let counted : c.count.result ≡ count_by (λ (o : Operand). has_keyword c.args.word.now (operand_view o)) c.args.operands.now = search rules in
    counted ∙ sym (count_by_map (has_keyword c.args.word.now) operand_view c.args.operands.now)
