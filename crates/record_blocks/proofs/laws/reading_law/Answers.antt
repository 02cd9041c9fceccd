use Rattle.record_blocks.proofs.Exact.{exact}
use Rattle.record_blocks.proofs.laws.reading_law.Goals as goal

pub returns : goal.returns
returns c = exact
