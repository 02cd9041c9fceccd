use Rattle.std.proofs.Common.{arith}
use Rattle.stow_ops.proofs.EntryLists.{all_bytes}
use Rattle.stow_ops.proofs.laws.bytes_law.Goals as goal

pub returns : goal.returns
returns c = all_bytes c.args.bytes.now (λ i. omega (arith, c.type_inv.bytes i))
