use Rattle.std.proofs.Common.{sym, ◌∙◌}
use Rattle.std.specs.Prelude.{codes}
use Rattle.std.proofs.lemmas.List.Folds.{list_all-map}
use Rattle.card_text.specs.Operands.{operand_view}
use Rattle.util_syntax.specs.Forms.{has_keyword}
use Rattle.update_forms.proofs.requests.all_of_alias.Goals as goal

pub returns : goal.returns
returns c = c.each_of_alias.ensures ∙ sym (list_all-map (has_keyword (codes "NAME")) operand_view c.args.operands.now)
