use Rattle.record_blocks.proofs.Faults.{fault-is}
use Rattle.record_blocks.proofs.laws.fault_law.Goals as goal

pub returns : goal.returns
returns c = fault-is
