use Rattle.update_forms.proofs.LawLemmas.{others_stay}
use Rattle.update_forms.proofs.laws.others_law.Goals as goal

pub returns : goal.returns
returns c = others_stay
