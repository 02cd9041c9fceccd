use Rattle.std.proofs.Common.{◌≡◌, ◌++◌, ℕ, List, take}
use Rattle.chain_spec.specs.Kept.{kept}
use Rattle.catalog_blocks.specs.declared.blocks.CatEntry.{CatEntry}
use Rattle.catalog_plan.specs.Located.{located, located_number}
use Rattle.catalog_plan.proofs.held.keep.Given as goal

abbrev pub invariant-loop-entry : goal.invariant-loop-entry
invariant-loop-entry l = (ps : List (ℕ × CatEntry)) → l.initial.held ≡ kept located_number ps → l.held ≡ kept located_number (ps ++ located l.number (take l.entry-index l.entries))
