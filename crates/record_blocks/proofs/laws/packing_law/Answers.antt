use Rattle.record_blocks.proofs.Cuts.{cut-exact}
use Rattle.record_blocks.proofs.laws.packing_law.Goals as goal

pub returns : goal.returns
returns c = cut-exact
