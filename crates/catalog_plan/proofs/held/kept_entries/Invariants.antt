use Rattle.std.proofs.Common.{◌≡◌, take}
use Rattle.chain_spec.specs.Kept.{kept}
use Rattle.catalog_blocks.specs.Trees.{located_entries}
use Rattle.catalog_plan.specs.Located.{located_number}
use Rattle.catalog_plan.proofs.held.kept_entries.Given as goal

abbrev pub invariant-loop-number : goal.invariant-loop-number
invariant-loop-number l = l.held ≡ kept located_number (located_entries (take l.number-index l.blocks))
