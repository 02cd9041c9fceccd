use Rattle.chain_spec.proofs.CutLemmas.{is_one_cut}
use Rattle.chain_spec.proofs.NeededLemmas.{needed_is_length}
use Rattle.chain_spec.proofs.cut_law.Goals as goal

pub returns-clause-one : goal.returns-clause-one
returns-clause-one g c = λ size room end xs ys list a b. is_one_cut size room end xs ys list a b

pub returns-clause-count : goal.returns-clause-count
returns-clause-count g c = λ size room end xs list is. needed_is_length size room end xs list is
