use Rattle.std.proofs.Common.{sym, ◌∙◌}
use Rattle.std.proofs.lemmas.List.Folds.{list_all-map}
use Rattle.card_text.specs.Operands.{operand_view}
use Rattle.update_forms.specs.Requests.{is_heading_operand}
use Rattle.update_forms.proofs.requests.all_of_heading.Goals as goal

pub returns : goal.returns
returns c = c.each_of_heading.ensures ∙ sym (list_all-map is_heading_operand operand_view c.args.operands.now)
