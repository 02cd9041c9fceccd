use Rattle.std.proofs.Common.{sym, ◌∙◌}
use Rattle.std.proofs.lemmas.List.Folds.{list_all-map}
use Rattle.card_text.specs.Operands.{operand_view}
use Rattle.iehprogm_util.specs.Requests.{is_scratch_operand}
use Rattle.iehprogm_util.proofs.requests.all_of_scratch.Goals as goal

pub returns : goal.returns
returns c = c.each_of_scratch.ensures ∙ sym (list_all-map is_scratch_operand operand_view c.args.operands.now)
