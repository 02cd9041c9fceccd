use Rattle.record_blocks.proofs.Joins.{joins-exact}
use Rattle.record_blocks.proofs.laws.joining_law.Goals as goal

pub returns : goal.returns
returns c = joins-exact
