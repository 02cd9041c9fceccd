use Rattle.std.proofs.Common.{sym, ◌∙◌}
use Rattle.std.proofs.lemmas.List.Folds.{list_all-map}
use Rattle.card_text.specs.Operands.{operand_view}
use Rattle.iebgener_util.specs.Requests.{is_record_operand}
use Rattle.iebgener_util.proofs.requests.all_of_record.Goals as goal

pub returns : goal.returns
returns c = c.each_of_record.ensures ∙ sym (list_all-map is_record_operand operand_view c.args.operands.now)
