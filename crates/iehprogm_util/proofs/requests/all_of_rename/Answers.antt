use Rattle.std.proofs.Common.{sym, ◌∙◌}
use Rattle.std.proofs.lemmas.List.Folds.{list_all-map}
use Rattle.card_text.specs.Operands.{operand_view}
use Rattle.iehprogm_util.specs.Requests.{is_rename_operand}
use Rattle.iehprogm_util.proofs.requests.all_of_rename.Goals as goal

pub returns : goal.returns
returns c = c.each_of_rename.ensures ∙ sym (list_all-map is_rename_operand operand_view c.args.operands.now)
