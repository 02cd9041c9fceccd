-- A tree to which an index comes, or from which one without names goes.
use Rattle.std.proofs.Common.{◌≡◌, List, [], ◌∷◌, ◌++◌, drop, map, Some, refl, sym, ap, subst, ◌∙◌, append_assoc}
use Rattle.std.specs.List.{cons_option, filter_map}
use Rattle.std.proofs.lemmas.List.Elements.{filter_map-append}
use Rattle.vol_model.specs.Trees.{nodes_below, way, with_node}
use Rattle.catalog_blocks.specs.declared.blocks.CatEntry.{CatEntry}
use Rattle.catalog_blocks.specs.declared.chains.Chain.{Chain}
use Rattle.catalog_blocks.specs.declared.chains.Lead.{Lead}
use Rattle.catalog_blocks.specs.Trees.{entries_of, lead_in, names_to, node_in, nodes_in}
use Rattle.catalog_laws.specs.Nodes.{AreTree, TreeGains, TreeLoses, IndexAdded, IndexDropped, IsTrueChain, IsTrueList, planned_chain}
use Rattle.catalog_laws.proofs.NodePlaces.{nodes_there}
use Rattle.catalog_laws.proofs.NodesBelow.{node_of}
use Rattle.catalog_laws.proofs.PlannedChains.{planned_entries, planned_leads, planned_true}
use Rattle.catalog_laws.proofs.TreeChanges.{leaf_nodes, node_comes, node_goes, tree_gains, tree_loses}

-- the leads of entries one of which leads to a chain
leads_around : (c : Chain) (us : List CatEntry) (e : CatEntry) (vs : List CatEntry) (lead : Lead) → lead_in c e ≡ Some lead → filter_map (lead_in c) (us ++ e ∷ vs) ≡ filter_map (lead_in c) us ++ lead ∷ filter_map (lead_in c) vs
leads_around c us e vs lead is =
    filter_map-append (lead_in c) us (e ∷ vs)
    ∙ ap (λ o. filter_map (lead_in c) us ++ cons_option o (filter_map (lead_in c) vs)) is

leads_without : (c : Chain) (us vs : List CatEntry) → filter_map (lead_in c) (us ++ vs) ≡ filter_map (lead_in c) us ++ filter_map (lead_in c) vs
leads_without c us vs = filter_map-append (lead_in c) us vs

-- a chain without entries, in the midst of others
leaf_around : (before : List Chain) (c : Chain) (front : List Chain) (e : Chain) (rest : List Chain) → entries_of e ≡ [] → nodes_in (before ++ c ∷ (front ++ e ∷ rest)) ≡ nodes_in (before ++ c ∷ (front ++ rest))
leaf_around before c front e rest none =
    ap nodes_in (sym (append_assoc before (c ∷ front) (e ∷ rest)))
    ∙ leaf_nodes (before ++ c ∷ front) e rest none
    ∙ ap nodes_in (append_assoc before (c ∷ front) rest)

module _ (before : List Chain) (c : Chain) (after : List Chain) (list : List CatEntry) (us : List CatEntry) (e : CatEntry) (vs : List CatEntry) (lead : Lead) (tree : AreTree (before ++ c ∷ after)) (new : IsTrueList c.level list) (leads : lead_in c e ≡ Some lead) where
  -- with an entry more, and a new chain without entries to which it leads
  pub index_comes : (n : Chain) → entries_of c ≡ us ++ vs → drop 1 list ≡ us ++ e ∷ vs → IsTrueChain n → n.names ≡ lead.names → n.level ≡ lead.level → entries_of n ≡ [] → IndexAdded before c after list e n
  index_comes n was is true_one names level none =
      by (tree_gains c d n (filter_map (lead_in c) us) lead (filter_map (lead_in c) vs) refl refl
      (ap (filter_map (lead_in c)) was ∙ leads_without c us vs) (planned_leads c list new.rises ∙ ap (filter_map (lead_in c)) is ∙ leads_around c us e vs lead leads)
      names level (ap (filter_map (lead_in n)) none) before after tree (planned_true c list new) true_one)
    where
      d : Chain
      d = planned_chain c list

      by : TreeGains before d after n → IndexAdded before c after list e n
      by come = record {
        front = come.front;
        rest = come.rest;
        is = come.is;
        tree = come.tree;
        nodes = node_comes before c d (come.front ++ n ∷ come.rest) refl refl us e vs come.tree was (planned_entries c list new.rises ∙ is)
            ∙ ap (with_node (way (names_to c e)) (node_in c.level e)) (leaf_around before c come.front n come.rest none ∙ ap (λ (ds : List Chain). nodes_in (before ++ c ∷ ds)) (sym come.is));
      }

  -- with an entry less, where below the chain to which it led there stood nothing
  pub index_goes : entries_of c ≡ us ++ e ∷ vs → drop 1 list ≡ us ++ vs → nodes_below (nodes_in (before ++ c ∷ after)) (way lead.names) ≡ [] → IndexDropped before c after list e lead
  index_goes was is empty =
      by (tree_loses c d (filter_map (lead_in c) us) lead (filter_map (lead_in c) vs) refl refl
      (ap (filter_map (lead_in c)) was ∙ leads_around c us e vs lead leads) (planned_leads c list new.rises ∙ ap (filter_map (lead_in c)) is ∙ leads_without c us vs)
      before after tree (planned_true c list new) (λ x fs gs at same. ap (filter_map (lead_in x)) (no_entries x fs gs at same)))
    where
      d : Chain
      d = planned_chain c list

      none : (x : Chain) (es : List CatEntry) → map (node_of x) es ≡ [] → es ≡ []
      none x [] same = refl
      none x (f ∷ fs) same = cc

      no_entries : (x : Chain) (fs gs : List Chain) → after ≡ fs ++ x ∷ gs → x.names ≡ lead.names → entries_of x ≡ []
      no_entries x fs gs at same =
          by_parts (ap (λ (ds : List Chain). before ++ c ∷ ds) at ∙ sym (append_assoc before (c ∷ fs) (x ∷ gs)))
        where
          others : List Chain
          others = before ++ c ∷ fs

          by_parts : before ++ c ∷ after ≡ others ++ x ∷ gs → entries_of x ≡ []
          by_parts parts =
              none x (entries_of x) (sym (nodes_there others x gs (subst AreTree parts tree)) ∙ ap (λ ns. nodes_below (nodes_in (others ++ x ∷ gs)) (way ns)) same ∙ ap (λ ds. nodes_below (nodes_in ds) (way lead.names)) (sym parts) ∙ empty)

      by : TreeLoses before d after lead → IndexDropped before c after list e lead
      by go = record {
        front = go.front;
        gone = go.gone;
        rest = go.rest;
        is = go.is;
        names = go.names;
        tree = go.tree;
        nodes = sym (leaf_around before d go.front go.gone go.rest (no_entries go.gone go.front go.rest go.is go.names))
            ∙ ap (λ (ds : List Chain). nodes_in (before ++ d ∷ ds)) (sym go.is)
            ∙ node_goes before c d after refl refl us e vs tree was (planned_entries c list new.rises ∙ is);
      }
