-- A chain as it is to hold a list.
use Rattle.std.proofs.Common.{◌≡◌, ◌+◌, ℕ, suc, List, [], ◌∷◌, ◌++◌, drop, length, refl, sym, ap, subst, ◌∙◌, arith, append-nil}
use Rattle.std.specs.Prelude.{◌==◌}
use Rattle.std.specs.List.{AllByRecursion, filter_map}
use Rattle.std.specs.Int.{w64, from_be_bytes}
use Rattle.std.specs.Str.{bytes_eq}
use Rattle.std.proofs.lemmas.Bool.{and_parts, eqb-true}
use Rattle.std.proofs.lemmas.List.Sums.{sum_by-append, sum_by-cons}
use Rattle.std.proofs.lemmas.Slice.Eq.{bytes_eq-Decides}
use Rattle.chain_spec.specs.Cut.{needed}
use Rattle.chain_spec.specs.Kept.{Rises, RisesFrom, joined, kept}
use Rattle.chain_spec.proofs.KeptLemmas.{kept_all}
use Rattle.vol_model.specs.Lawful.{control_name}
use Rattle.vol_model.specs.Slots.{catalog_needed}
use Rattle.catalog_blocks.specs.declared.blocks.CatEntry.{CatEntry}
use Rattle.catalog_blocks.specs.Blocks.{HasName, cat_size, name_number}
use Rattle.catalog_blocks.specs.declared.chains.Chain.{Chain}
use Rattle.catalog_blocks.specs.Trees.{control_length, entries_of, lead_in, nodes_in}
use Rattle.catalog_laws.specs.Forests.{all_numbers, leads_of}
use Rattle.catalog_laws.specs.Nodes.{AreCut, AreTree, IsStored, IsTrueChain, IsTrueList, blocks_needed, planned_chain}
use Rattle.catalog_laws.specs.Writes.{lists_of}
use Rattle.catalog_laws.proofs.LawfulTrees.{cut_blocks, needs_are}
use Rattle.catalog_laws.proofs.SuitedBlocks.{entries_by}
use Rattle.catalog_laws.proofs.TrueChains.{fit_after, generations}

module _ (c : Chain) (list : List CatEntry) (rises : Rises name_number list) where
  pub all_kept : kept name_number (joined (lists_of (planned_chain c list))) ≡ list
  all_kept = ap (kept name_number) (append-nil list) ∙ kept_all name_number 0 0 list (omega arith) rises

  pub planned_entries : entries_of (planned_chain c list) ≡ drop 1 list
  planned_entries = entries_by (planned_chain c list) ∙ ap (drop 1) all_kept

  pub planned_leads : leads_of (planned_chain c list) ≡ filter_map (lead_in c) (drop 1 list)
  planned_leads = ap (filter_map (lead_in c)) planned_entries

  pub planned_needs : blocks_needed (planned_chain c list) ≡ needed cat_size 242 0 list
  planned_needs = ap (needed cat_size 242 0) all_kept

pub planned_true : (c : Chain) (list : List CatEntry) → IsTrueList c.level list → IsTrueChain (planned_chain c list)
planned_true c list is = by list refl is
  where
    by : (es : List CatEntry) → list ≡ es → IsTrueList c.level es → IsTrueChain (planned_chain c list)
    by [] same are = let none = are.control in cc
    by (e ∷ es) same are =
        let parts = and_parts (bytes_eq e.name.bytes control_name) (length e.payload == control_length c.level) are.control in
        let one : name_number e ≡ 1 = ap (from_be_bytes w64) ((bytes_eq-Decides e.name.bytes control_name).0 parts.0) in
        let rest : es ≡ entries_of (planned_chain c list) = sym (planned_entries c list is.rises ∙ ap (drop 1) same) in
        let up : RisesFrom name_number 2 es = subst (λ (n : ℕ). RisesFrom name_number (suc n) es) one are.rises.1 in
        record {
          first = e;
          kept_is = all_kept c list is.rises ∙ same ∙ ap (λ (fs : List CatEntry). e ∷ fs) rest;
          size = eqb-true (length e.payload) (control_length c.level) parts.1;
          rises = subst (RisesFrom name_number 2) rest up;
          named = subst (AllByRecursion HasName) rest are.named.1;
          fits = λ group. subst (AllByRecursion IsStored) rest (generations 2 es (omega arith) up (fit_after c.level e es group are.fits));
        }

-- the blocks that a catalog needs of which one chain is to hold a list, where all others are cut as they need
pub planned_all : (before : List Chain) (c : Chain) (after : List Chain) (list : List CatEntry) → Rises name_number list → AreTree (before ++ planned_chain c list ∷ after) → AreCut before → AreCut after
    → catalog_needed (nodes_in (before ++ planned_chain c list ∷ after)) ≡ length (all_numbers before) + (needed cat_size 242 0 list + length (all_numbers after))
planned_all before c after list rises tree first second =
    omega (arith, needs_are (before ++ planned_chain c list ∷ after) tree, sum_by-append blocks_needed before (planned_chain c list ∷ after), sum_by-cons blocks_needed (planned_chain c list) after, planned_needs c list rises, cut_blocks before first, cut_blocks after second)
