-- The operands are tested as they are seen.
use Rattle.std.proofs.Common.{sym, ◌∙◌}
use Rattle.std.proofs.lemmas.List.Folds.{list_all-map}
use Rattle.card_text.specs.Operands.{operand_view}
use Rattle.iehlist_util.specs.Requests.{is_pds_operand}
use Rattle.iehlist_util.proofs.requests.all_of_pds.Goals as goal

pub returns : goal.returns
returns c = c.each_of_pds.ensures ∙ sym (list_all-map is_pds_operand operand_view c.args.operands.now)
