use Rattle.record_blocks.proofs.ReadBack.{spanned-exact}
use Rattle.record_blocks.proofs.laws.spanned_packing_law.Goals as goal

pub returns : goal.returns
returns c = spanned-exact
