use Rattle.std.proofs.Common.{sym, ◌∙◌}
use Rattle.std.proofs.lemmas.List.Folds.{list_all-map}
use Rattle.card_text.specs.Operands.{operand_view}
use Rattle.iebcopy_util.specs.Requests.{is_copy_operand}
use Rattle.iebcopy_util.proofs.requests.all_of_copy.Goals as goal

pub returns : goal.returns
returns c = c.each_of_copy.ensures ∙ sym (list_all-map is_copy_operand operand_view c.args.operands.now)
