-- Where a way leads in a catalog in memory.
use Rattle.std.specs.Prelude.{◌≡◌, ◌≤◌, ℕ, List, drop, slice_get, Option, Some, None}
use Rattle.std.specs.List.{AllByRecursion}
use Rattle.ebcdic_names.specs.declared.names.Name8.{Name8}
use Rattle.vol_model.specs.Trees.{node_at, way}
use Rattle.catalog_blocks.specs.declared.blocks.CatEntry.{CatEntry}
use Rattle.catalog_blocks.specs.declared.chains.Chain.{Chain}
use Rattle.catalog_blocks.specs.declared.chains.Level.{Level}
use Rattle.catalog_blocks.specs.Trees.{name_in, names_to, nodes_in}
use Rattle.catalog_plan.specs.declared.branch.Branch.{Branch}
use Rattle.catalog_plan.specs.Branches.{chains_of}

-- The chain of a way is the k-th of these.
pub record HasBranch (branches : List Branch) (names : List Name8) (k : ℕ) : Type 0 where
  pub branch : Branch
  pub at : slice_get branches k ≡ Some branch
  pub names_are : branch.chain.names ≡ names

-- it is the one of this index, or there is none
abbrev pub IsBranchAt : List Branch → List Name8 → Option ℕ → Type 0
IsBranchAt branches names (Some k) = HasBranch branches names k
IsBranchAt branches names None = AllByRecursion (λ (c : Chain). c.names ≡ names → ⊥) (chains_of branches)

-- The i-th of a chain's kept entries stands for a name.
pub record HasNamed (level : Level) (held : List (ℕ × CatEntry)) (name : Name8) (i : ℕ) : Type 0 where
  pub entry : ℕ × CatEntry
  pub after : 1 ≤ i
  pub at : slice_get held i ≡ Some entry
  pub name_is : name_in level entry.1.name ≡ name

-- None of a chain's kept entries stands for a name, after the control entry.
pub record LacksName (level : Level) (held : List (ℕ × CatEntry)) (name : Name8) : Type 0 where
  pub others : AllByRecursion (λ (p : ℕ × CatEntry). name_in level p.1.name ≡ name → ⊥) (drop 1 held)

-- it is the one of this index, or there is none
abbrev pub IsEntryNamed : Level → List (ℕ × CatEntry) → Name8 → Option ℕ → Type 0
IsEntryNamed level held name (Some i) = HasNamed level held name i
IsEntryNamed level held name None = LacksName level held name

-- The entry at a way is the i-th kept one of the k-th chain.
pub record HasEntryAt (branches : List Branch) (names : List Name8) (k i : ℕ) : Type 0 where
  pub branch : Branch
  pub at : slice_get branches k ≡ Some branch
  pub entry : ℕ × CatEntry
  pub after : 1 ≤ i
  pub entry_at : slice_get branch.held i ≡ Some entry
  pub names_are : names ≡ names_to branch.chain entry.1

-- it is that, or no node stands there
abbrev pub IsEntryAt : List Branch → List Name8 → Option (ℕ × ℕ) → Type 0
IsEntryAt branches names (Some (k, i)) = HasEntryAt branches names k i
IsEntryAt branches names None = node_at (nodes_in (chains_of branches)) (way names) ≡ None
