use Rattle.std.proofs.Common.{◌≡◌, drop}
use Rattle.chain_spec.specs.Kept.{bound_after}
use Rattle.catalog_blocks.specs.Blocks.{name_number}
use Rattle.catalog_plan.proofs.suiting.bound_after.Given as goal

abbrev pub invariant-loop-entry : goal.invariant-loop-entry
invariant-loop-entry l = bound_after name_number l.bound l.entries ≡ bound_after name_number l.least (drop l.entry-index l.entries)
