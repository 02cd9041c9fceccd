use Rattle.record_blocks.proofs.ReadBack.{read-back}
use Rattle.record_blocks.proofs.laws.read_back_law.Goals as goal

pub returns : goal.returns
returns c = read-back
