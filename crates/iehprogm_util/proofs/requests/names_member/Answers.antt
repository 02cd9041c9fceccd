use Rattle.std.proofs.Common.{◌≡◌, Bool, List, [], ◌∷◌, ◌||◌, map, refl, sym, ◌∙◌, ap}
use Rattle.std.specs.Prelude.{codes}
use Rattle.std.specs.List.{list_any}
use Rattle.card_text.specs.declared.operands.Operand.{Operand}
use Rattle.card_text.specs.Operands.{operand_view}
use Rattle.util_syntax.specs.Forms.{has_keyword}
use Rattle.iehprogm_util.specs.Requests.{names_member}
use Rattle.iehprogm_util.proofs.requests.names_member.Goals as goal

seen : (os : List Operand) → names_member (map operand_view os) ≡ list_any (λ (o : Operand). has_keyword (codes "MEMBER") (operand_view o)) os
seen [] = refl
seen (o ∷ os) = ap (λ (t : Bool). has_keyword (codes "MEMBER") (operand_view o) || t) (seen os)

pub returns : goal.returns
returns c = c.one_names_member.ensures ∙ sym (seen c.args.operands.now)
