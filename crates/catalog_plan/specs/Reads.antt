-- A catalog that is read into memory.
use Rattle.std.specs.Prelude.{◌≡◌, ℕ, length, Result, Ok, Err}
use Rattle.catalog_blocks.specs.Trees.{Store, chains_in}
use Rattle.catalog_laws.specs.Nodes.{AreTree}
use Rattle.catalog_plan.specs.declared.tree.Tree.{Tree}
use Rattle.catalog_plan.specs.Branches.{chains_of}

-- A catalog in memory has the chains of a store, of which a track holds so many blocks; they are those of a tree.
pub record IsTreeIn (per : ℕ) (store : Store) (tree : Tree) : Type 0 where
  pub chains : chains_in per store ≡ Ok (chains_of tree.branches)
  pub size : tree.blocks ≡ length store
  pub track : tree.per_track ≡ per
  pub tree_is : AreTree (chains_of tree.branches)

-- it has those, or they can't be read
abbrev pub ReadsTree : ℕ → Store → Result Tree ℕ → Type 0
ReadsTree per store (Ok tree) = IsTreeIn per store tree
ReadsTree per store (Err track) = chains_in per store ≡ Err track
