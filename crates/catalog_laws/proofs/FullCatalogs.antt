-- When a catalog has room for the tree that an operation is to leave.
use Rattle.std.proofs.Common.{◌≡◌, ◌+◌, ℕ, List, ◌∷◌, ◌++◌, length, ap, ◌∙◌, arith, length-append}
use Rattle.std.specs.List.{sum_by}
use Rattle.std.proofs.lemmas.List.Sums.{sum_by-append, sum_by-cons}
use Rattle.chain_spec.specs.Cut.{needed}
use Rattle.chain_spec.specs.Kept.{Rises}
use Rattle.vol_model.specs.Slots.{catalog_needed}
use Rattle.catalog_blocks.specs.declared.blocks.CatEntry.{CatEntry}
use Rattle.catalog_blocks.specs.Blocks.{cat_size, name_number}
use Rattle.catalog_blocks.specs.declared.chains.Chain.{Chain}
use Rattle.catalog_blocks.specs.Trees.{Store, nodes_in, numbers}
use Rattle.catalog_laws.specs.Forests.{AreChains, all_numbers, free_below}
use Rattle.catalog_laws.specs.Nodes.{AreCut, AreTree, blocks_needed, planned_chain}
use Rattle.catalog_laws.proofs.FreeNumbers.{free_count}
use Rattle.catalog_laws.proofs.Inserted.{numbers_append}
use Rattle.catalog_laws.proofs.LawfulTrees.{cut_blocks, needs_are}
use Rattle.catalog_laws.proofs.PlannedChains.{planned_all, planned_needs}

-- the blocks of chains, part by part
parts : (before : List Chain) (c : Chain) (after : List Chain) → length (all_numbers (before ++ c ∷ after)) ≡ length (all_numbers before) + (length (numbers c) + length (all_numbers after))
parts before c after =
    ap length (numbers_append before (c ∷ after))
    ∙ omega (arith, length-append (all_numbers before) (all_numbers (c ∷ after)), length-append (numbers c) (all_numbers after))

module _ (per : ℕ) (store : Store) (before : List Chain) (c : Chain) (after : List Chain) (list : List CatEntry) (rises : Rises name_number list) (are : AreChains per store (before ++ c ∷ after)) where
  abbrev free : List ℕ
  free = free_below (length store) (all_numbers (before ++ c ∷ after))

  -- where one chain is to hold a list
  pub full : AreTree (before ++ planned_chain c list ∷ after) → AreCut before → AreCut after
      → catalog_needed (nodes_in (before ++ planned_chain c list ∷ after)) + (length (numbers c) + length free) ≡ length store + needed cat_size 242 0 list
  full tree first second = omega (arith, planned_all before c after list rises tree first second, free_count per store (before ++ c ∷ after) are, parts before c after)

  -- and a new chain of one block comes
  pub full_index : (front : List Chain) (n : Chain) (rest : List Chain) → after ≡ front ++ rest → AreTree (before ++ planned_chain c list ∷ (front ++ n ∷ rest)) → AreCut before → AreCut after → blocks_needed n ≡ 1
      → catalog_needed (nodes_in (before ++ planned_chain c list ∷ (front ++ n ∷ rest))) + (length (numbers c) + length free) ≡ length store + (1 + needed cat_size 242 0 list)
  full_index front n rest is tree first second one =
      let others : sum_by blocks_needed front + sum_by blocks_needed rest ≡ length (all_numbers after) = omega (arith, ap (sum_by blocks_needed) is, sum_by-append blocks_needed front rest, cut_blocks after second) in
      omega (
        arith,
        others,
        needs_are (before ++ planned_chain c list ∷ (front ++ n ∷ rest)) tree,
        sum_by-append blocks_needed before (planned_chain c list ∷ (front ++ n ∷ rest)),
        sum_by-cons blocks_needed (planned_chain c list) (front ++ n ∷ rest),
        sum_by-append blocks_needed front (n ∷ rest),
        sum_by-cons blocks_needed n rest,
        one,
        planned_needs c list rises,
        cut_blocks before first,
        free_count per store (before ++ c ∷ after) are,
        parts before c after,
      )
