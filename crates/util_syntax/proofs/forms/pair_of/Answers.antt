use Rattle.std.proofs.Common.{sym, ◌∙◌, ap}
use Rattle.std.specs.Prelude.{option_and_then}
use Rattle.util_syntax.specs.Forms.{pair_of}
use Rattle.util_syntax.proofs.FormLemmas.{no_pair}
use Rattle.util_syntax.proofs.forms.pair_of.Goals as goal

pub returns-else-is_empty : goal.returns-else-is_empty
returns-else-is_empty c =
    no_pair c.in_ok-items.items.now c.in_ok-first.others.now c.in_ok-second.rest.now c.in_ok-first.first.now c.in_ok-second.second.now c.in_ok-first.ensures.cases.0 c.in_ok-second.ensures.cases.0 (sym c.is_empty.ensures ∙ c.if-is_empty.false)
    ∙ ap (option_and_then pair_of) c.in_ok-items.ensures
