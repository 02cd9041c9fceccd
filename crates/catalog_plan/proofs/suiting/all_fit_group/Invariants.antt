use Rattle.std.proofs.Common.{◌≡◌, drop}
use Rattle.std.specs.List.{list_all}
use Rattle.chain_spec.specs.Kept.{kept_from}
use Rattle.catalog_blocks.specs.Blocks.{name_number}
use Rattle.catalog_blocks.specs.Trees.{fits_group}
use Rattle.catalog_plan.proofs.suiting.all_fit_group.Given as goal

abbrev pub invariant-loop-entry : goal.invariant-loop-entry
invariant-loop-entry l = list_all fits_group (kept_from name_number l.bound l.entries) ≡ list_all fits_group (kept_from name_number l.least (drop l.entry-index l.entries))
