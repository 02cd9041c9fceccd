use Rattle.std.proofs.Common.{◌≡◌, ℕ, take, drop}
use Rattle.std.specs.List.{AllByRecursion}
use Rattle.catalog_blocks.specs.declared.blocks.CatEntry.{CatEntry}
use Rattle.catalog_blocks.specs.Trees.{name_in}
use Rattle.catalog_plan.proofs.finding.entry_named.Given as goal

abbrev pub invariant-loop-i : goal.invariant-loop-i
invariant-loop-i l = AllByRecursion (λ (p : ℕ × CatEntry). name_in l.level p.1.name ≡ l.name → ⊥) (drop 1 (take l.i l.held))
