-- A node that stands in a catalog is that of an entry of one of its chains, and one that has an index has a chain.
use Rattle.std.proofs.Common.{◌≡◌, Bool, true, false, cond, List, [], ◌∷◌, ◌++◌, refl, sym, ap, subst, ◌∙◌, append_assoc}
use Rattle.std.specs.Prelude.{Option, Some, None, find, option_map}
use Rattle.std.specs.List.{AllByRecursion, cons_option, filter_map, flat_map}
use Rattle.std.proofs.lemmas.Bool.{true≢false}
use Rattle.ebcdic_names.specs.declared.names.Name8.{Name8}
use Rattle.vol_model.specs.declared.catalogs.CatNode.{CatNode}
use Rattle.vol_model.specs.declared.catalogs.CatPath.{CatPath}
use Rattle.vol_model.specs.Trees.{Node, has_index, is_at, node_at, way}
use Rattle.shelf_laws.proofs.Lists.{all_joined, all_weaker}
use Rattle.shelf_laws.proofs.Ways.{same_names}
use Rattle.catalog_blocks.specs.declared.blocks.CatEntry.{CatEntry}
use Rattle.catalog_blocks.specs.declared.chains.Level.{Level}
use Rattle.catalog_blocks.specs.declared.chains.Chain.{Chain}
use Rattle.catalog_blocks.specs.declared.chains.Lead.{Lead}
use Rattle.catalog_blocks.specs.Trees.{by_ways, chain_nodes, entries_of, lead_in, name_in, names_to, node_in, nodes_in, root_lead}
use Rattle.catalog_laws.specs.Forests.{leads_of}
use Rattle.catalog_laws.specs.Nodes.{AreTree, HasChain, HasEntry, LeadTo, LeadsTo}
use Rattle.catalog_laws.proofs.NodeKinds.{lead_kind, lead_there}
use Rattle.catalog_laws.proofs.NodePlaces.{all_in, split_joined}
use Rattle.catalog_laws.proofs.NodeSets.{all_by_ways, at_none}
use Rattle.catalog_laws.proofs.NodesBelow.{every, names_by, one_name, way_apart}
use Rattle.catalog_laws.proofs.WaysApart.{ChainsDiffer, chains_differ, lead_names}

-- ---- what is found has what all have

pub record IsFound (P : Node → Type 0) (p : CatPath) (node : CatNode) : Type 0 where
  pub x : Node
  pub has : P x
  pub at : is_at p x ≡ true
  pub is : x.1 ≡ node

found : (P : Node → Type 0) (p : CatPath) (node : CatNode) (xs : List Node) → AllByRecursion P xs → node_at xs p ≡ Some node → IsFound P p node
found P p node [] all at = cc
found P p node (x ∷ xs) all at = by (λ e. found P p node xs all.1 e) (is_at p x) refl at
  where
    by : (node_at xs p ≡ Some node → IsFound P p node) → (b : Bool) → is_at p x ≡ b → option_map (λ (y : Node). y.1) (cond b (Some x) (find (is_at p) xs)) ≡ Some node → IsFound P p node
    by later true here e = record { x = x; has = all.0; at = here; is = cc }
    by later false other e = later e

-- ---- entries

entries_at : (cs before : List Chain) (c : Chain) (after : List Chain) → cs ≡ before ++ c ∷ after → (us es : List CatEntry) → entries_of c ≡ us ++ es
    → AllByRecursion (λ (e : CatEntry). HasEntry cs (way (names_to c e), node_in c.level e)) es
entries_at cs before c after is us [] are = tt
entries_at cs before c after is us (e ∷ es) are = (
  record { before = before; chain = c; after = after; is = is; us = us; entry = e; vs = es; entries_are = are; names_are = refl; node_is = refl },
  entries_at cs before c after is (us ++ e ∷ []) es (are ∙ sym (append_assoc us (e ∷ []) es)),
)

all_entries : (cs before after : List Chain) → cs ≡ before ++ after → AllByRecursion (λ (c : Chain). AllByRecursion (λ (e : CatEntry). HasEntry cs (way (names_to c e), node_in c.level e)) (entries_of c)) after
all_entries cs before [] is = tt
all_entries cs before (c ∷ after) is = (
  entries_at cs before c after is [] (entries_of c) refl,
  all_entries cs (before ++ c ∷ []) after (is ∙ sym (append_assoc before (c ∷ []) after)),
)

-- a node that stands at a way is that of an entry
pub node_entry : (cs : List Chain) (ps : List Name8) (node : CatNode) → node_at (nodes_in cs) (way ps) ≡ Some node → HasEntry cs (way ps, node)
unfolding nodes_in
node_entry cs ps node at =
    let f = found (HasEntry cs) (way ps) node (by_ways (flat_map chain_nodes cs)) (all_by_ways (HasEntry cs) (flat_map chain_nodes cs) (all_in (HasEntry cs) cs (all_entries cs [] cs refl))) at in
    let names : f.x.0.names ≡ ps = names_by f.x.0.names ps (same_names f.x.0 (way ps) f.at) in
    record {
      before = f.has.before;
      chain = f.has.chain;
      after = f.has.after;
      is = f.has.is;
      us = f.has.us;
      entry = f.has.entry;
      vs = f.has.vs;
      entries_are = f.has.entries_are;
      names_are = sym names ∙ f.has.names_are;
      node_is = sym f.is ∙ f.has.node_is;
    }

-- ---- chains

abbrev HasLed : List Chain → Lead → Type 0
HasLed cs l = HasChain cs l.names l.level

has_more : (d : Chain) (cs : List Chain) (names : List Name8) (level : Level) → HasChain cs names level → HasChain (d ∷ cs) names level
has_more d cs names level has = record {
  before = d ∷ has.before;
  chain = has.chain;
  after = has.after;
  is = ap (λ (xs : List Chain). d ∷ xs) has.is;
  names_are = has.names_are;
  level_is = has.level_is;
}

-- each lead leads to a chain, the first and those of the chains
leads_have : (ls : List Lead) (cs : List Chain) → LeadTo ls cs → AllByRecursion (HasLed cs) ls × AllByRecursion (λ (c : Chain). AllByRecursion (HasLed cs) (leads_of c)) cs
leads_have [] [] to = (tt, tt)
leads_have [] (c ∷ cs) to = absurd to
leads_have (l ∷ ls) [] to = absurd to
leads_have (l ∷ ls) (c ∷ cs) to =
    let rest = leads_have (leads_of c ++ ls) cs to.2 in
    let more = all_weaker (HasLed cs) (HasLed (c ∷ cs)) (λ m has. has_more c cs m.names m.level has) in
    let parts = split_joined (HasLed cs) (leads_of c) ls rest.0 in (
      (record { before = []; chain = c; after = cs; is = refl; names_are = to.0; level_is = to.1 }, more ls parts.1),
      (more (leads_of c) parts.0, all_weaker (λ (d : Chain). AllByRecursion (HasLed cs) (leads_of d)) (λ (d : Chain). AllByRecursion (HasLed (c ∷ cs)) (leads_of d)) (λ d all. more (leads_of d) all) cs rest.1),
    )

-- A node's chain is one of these.
pub record HasIndex (cs : List Chain) (x : Node) : Type 0 where
  pub level : Level
  pub kind : LeadsTo x.1 level
  pub chain : HasChain cs x.0.names level

index_entries : (cs : List Chain) (c : Chain) (es : List CatEntry) → AllByRecursion (HasLed cs) (filter_map (lead_in c) es) → AllByRecursion (λ (e : CatEntry). has_index (node_in c.level e) ≡ true → HasIndex cs (way (names_to c e), node_in c.level e)) es
index_entries cs c [] all = tt
index_entries cs c (e ∷ es) all = by (λ rest. index_entries cs c es rest) (lead_in c e) refl all
  where
    Each : List CatEntry → Type 0
    Each fs = AllByRecursion (λ (f : CatEntry). has_index (node_in c.level f) ≡ true → HasIndex cs (way (names_to c f), node_in c.level f)) fs

    by : (AllByRecursion (HasLed cs) (filter_map (lead_in c) es) → Each es) → (o : Option Lead) → lead_in c e ≡ o → AllByRecursion (HasLed cs) (cons_option o (filter_map (lead_in c) es)) → Each (e ∷ es)
    by later None is rest = (λ index. absurd (true≢false (sym index ∙ lead_there (names_to c e) e.place (node_in c.level e) None is)), later rest)
    by later (Some l) is rest = (
      λ index. record {
        level = l.level;
        kind = lead_kind (names_to c e) e.place (node_in c.level e) l is;
        chain = subst (λ (ns : List Name8). HasChain cs ns l.level) (lead_names (names_to c e) e.place (node_in c.level e) l is) rest.0;
      },
      later rest.1,
    )

-- a node that stands at a way and has an index has a chain
pub node_chain : (cs : List Chain) → AreTree cs → (ps : List Name8) (node : CatNode) → node_at (nodes_in cs) (way ps) ≡ Some node → has_index node ≡ true → (level : Level) × LeadsTo node level × HasChain cs ps level
unfolding nodes_in
node_chain cs tree ps node at index =
    let P : Node → Type 0 = λ (x : Node). has_index x.1 ≡ true → HasIndex cs x in
    let leads = (leads_have (root_lead ∷ []) cs tree.leads).1 in
    let each = all_weaker (λ (c : Chain). AllByRecursion (HasLed cs) (leads_of c)) (λ (c : Chain). AllByRecursion (λ (e : CatEntry). P (way (names_to c e), node_in c.level e)) (entries_of c)) (λ c all. index_entries cs c (entries_of c) all) cs leads in
    let f = found P (way ps) node (by_ways (flat_map chain_nodes cs)) (all_by_ways P (flat_map chain_nodes cs) (all_in P cs each)) at in
    let has = f.has (ap has_index f.is ∙ index) in
    let names : f.x.0.names ≡ ps = names_by f.x.0.names ps (same_names f.x.0 (way ps) f.at) in
    (has.level, subst (λ (n : CatNode). LeadsTo n has.level) f.is has.kind, subst (λ (ns : List Name8). HasChain cs ns has.level) names has.chain)

-- ---- a name that a chain doesn't have

chains_of : (cs : List Chain) → AreTree cs → ChainsDiffer cs
chains_of cs tree = chains_differ (root_lead ∷ []) cs tree.chains (tt, tt) tree.leads

-- others of chains that differ
differ_split : (before : List Chain) (c : Chain) (after : List Chain) → ChainsDiffer (before ++ c ∷ after) → AllByRecursion (λ (d : Chain). d.names ≡ c.names → ⊥) before × AllByRecursion (λ (d : Chain). d.names ≡ c.names → ⊥) after
differ_split [] c after differ = (tt, all_weaker (λ (d : Chain). c.names ≡ d.names → ⊥) (λ (d : Chain). d.names ≡ c.names → ⊥) (λ d other same. other (sym same)) after differ.0)
differ_split (b ∷ bs) c after differ =
    let rest = differ_split bs c after differ.1 in
    let here = (split_joined (λ (d : Chain). b.names ≡ d.names → ⊥) bs (c ∷ after) differ.0).1 in
    ((here.0, rest.0), rest.1)

-- nothing stands at the way to it
pub none_there : (before : List Chain) (c : Chain) (after : List Chain) (n : Name8) → AreTree (before ++ c ∷ after) → AllByRecursion (λ (e : CatEntry). name_in c.level e.name ≡ n → ⊥) (entries_of c)
    → node_at (nodes_in (before ++ c ∷ after)) (way (c.names ++ n ∷ [])) ≡ None
unfolding nodes_in
none_there before c after n tree none =
    let p : List Name8 = c.names ++ n ∷ [] in
    let P : Node → Type 0 = λ (x : Node). is_at (way p) x ≡ false in
    let cs : List Chain = before ++ c ∷ after in
    let differ = differ_split before c after (chains_of cs tree) in
    let Apart : Chain → Type 0 = λ (d : Chain). AllByRecursion (λ (e : CatEntry). P (way (names_to d e), node_in d.level e)) (entries_of d) in
    let other : (d : Chain) → (d.names ≡ c.names → ⊥) → Apart d = λ d apart. every (λ (e : CatEntry). P (way (names_to d e), node_in d.level e)) (λ e. way_apart (names_to d e) p (λ same. apart (one_name d.names c.names (name_in d.level e.name) n same).0)) (entries_of d) in
    let own : Apart c = all_weaker (λ (e : CatEntry). name_in c.level e.name ≡ n → ⊥) (λ (e : CatEntry). P (way (names_to c e), node_in c.level e)) (λ e apart. way_apart (names_to c e) p (λ same. apart (one_name c.names c.names (name_in c.level e.name) n same).1)) (entries_of c) none in
    at_none (way p) (by_ways (flat_map chain_nodes cs)) (all_by_ways P (flat_map chain_nodes cs) (all_in P cs
    (all_joined Apart before (c ∷ after) (all_weaker (λ (d : Chain). d.names ≡ c.names → ⊥) Apart other before differ.0) (own, all_weaker (λ (d : Chain). d.names ≡ c.names → ⊥) Apart other after differ.1))))
