use Rattle.dadsm_ops.proofs.NewBlocks.{first_key, later_key}
use Rattle.dadsm_ops.proofs.formatting.block_key.Goals as goal

pub returns-then-number-eq0 : goal.returns-then-number-eq0
returns-then-number-eq0 c = first_key c.args.number c.if-number-eq0.true

pub returns-else-number-eq0 : goal.returns-else-number-eq0
returns-else-number-eq0 c = later_key c.args.number c.if-number-eq0.false
