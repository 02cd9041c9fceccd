use Rattle.update_forms.proofs.LawLemmas.{nothing_changes}
use Rattle.update_forms.proofs.laws.unchanged_law.Goals as goal

pub returns : goal.returns
returns c = nothing_changes
