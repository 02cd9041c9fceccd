-- What a stop leaves of a catalog that changes.
use Rattle.std.specs.Prelude.{◌≡◌, ◌⊎◌, ◌≤◌, ℕ, true, List, take, length, slice_get, Some}
use Rattle.vol_model.specs.Trees.{Node}
use Rattle.catalog_blocks.specs.declared.blocks.CatEntry.{CatEntry}
use Rattle.catalog_blocks.specs.declared.chains.Chain.{Chain}
use Rattle.catalog_blocks.specs.Trees.{Store, is_control, nodes_in}
use Rattle.catalog_laws.specs.Forests.{AreChains}
use Rattle.catalog_plan.specs.declared.writes.BlockWrite.{BlockWrite}
use Rattle.catalog_plan.specs.Thinned.{wrote}

-- Blocks hold a catalog with these nodes or with those.
pub record HoldsEither (per : ℕ) (store : Store) (before after : List Node) : Type 0 where
  pub chains : List Chain
  pub are : AreChains per store chains
  pub nodes_are : (nodes_in chains ≡ before) ⊎ (nodes_in chains ≡ after)

-- Writes turn a catalog of these chains into one of those: after any first of them it has the nodes of these or of
-- those, after all of them the chains are those.
pub record IsTurned (per : ℕ) (store : Store) (out : List BlockWrite) (cs ds : List Chain) : Type 0 where
  pub stops : (k : ℕ) → HoldsEither per (wrote (take k out) store) (nodes_in cs) (nodes_in ds)
  pub all : AreChains per (wrote out store) ds

-- Blocks can be those of a chain: there is one, and the first begins with the control entry.
pub record BeginsChain (c : Chain) (cut : List (List CatEntry)) : Type 0 where
  pub some : 1 ≤ length cut
  pub begins : (b : List CatEntry) → slice_get cut 0 ≡ Some b → is_control c.level (slice_get b 0) ≡ true
