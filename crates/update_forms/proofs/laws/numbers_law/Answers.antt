use Rattle.update_forms.proofs.LawLemmas.{numbers_rise}
use Rattle.update_forms.proofs.laws.numbers_law.Goals as goal

pub returns : goal.returns
returns c = numbers_rise
