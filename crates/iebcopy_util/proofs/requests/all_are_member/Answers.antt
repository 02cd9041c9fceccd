use Rattle.std.proofs.Common.{sym, ◌∙◌}
use Rattle.std.specs.Prelude.{codes}
use Rattle.std.proofs.lemmas.List.Folds.{list_all-map}
use Rattle.card_text.specs.Operands.{operand_view}
use Rattle.util_syntax.specs.Forms.{has_keyword}
use Rattle.iebcopy_util.proofs.requests.all_are_member.Goals as goal

pub returns : goal.returns
returns c = c.each_is_member.ensures ∙ sym (list_all-map (has_keyword (codes "MEMBER")) operand_view c.args.operands.now)
