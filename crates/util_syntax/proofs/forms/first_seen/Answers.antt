use Rattle.card_text.specs.Operands.{operand_view}
use Rattle.util_syntax.specs.Forms.{has_keyword}
use Rattle.util_syntax.proofs.FormLemmas.{found_seen}
use Rattle.util_syntax.proofs.forms.first_seen.Goals as goal

pub returns : goal.returns
returns c = found_seen (has_keyword c.args.word.now) operand_view c.args.operands.now c.first_with.result c.first_with.ensures
