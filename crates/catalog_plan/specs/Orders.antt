-- The order of a catalog's chains.
use Rattle.std.specs.Prelude.{◌≡◌, ℕ, true, false, List, [], ◌∷◌, take, drop}
use Rattle.std.specs.List.{AllByRecursion}
use Rattle.ebcdic_names.specs.declared.names.Name8.{Name8}
use Rattle.vol_model.specs.Trees.{is_before, way}
use Rattle.catalog_blocks.specs.declared.chains.Chain.{Chain}
use Rattle.catalog_plan.specs.declared.branch.Branch.{Branch}
use Rattle.catalog_plan.specs.Branches.{chains_of}

-- the ways to chains rise
abbrev pub AreRising : List Chain → Type 0
AreRising [] = Unit {0}
AreRising (c ∷ cs) = AllByRecursion (λ (d : Chain). is_before (way c.names) (way d.names) ≡ true) cs × AreRising cs

-- A way's place among chains: the ways to those before it stand before it, and those to the others don't.
pub record IsWayPlace (branches : List Branch) (names : List Name8) (k : ℕ) : Type 0 where
  pub before : AllByRecursion (λ (c : Chain). is_before (way c.names) (way names) ≡ true) (chains_of (take k branches))
  pub after : AllByRecursion (λ (c : Chain). is_before (way c.names) (way names) ≡ false) (chains_of (drop k branches))
