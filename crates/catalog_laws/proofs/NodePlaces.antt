-- What stands in a catalog of chains at the way to each entry, and below the way to each chain.
use Rattle.std.proofs.Common.{◌≡◌, ◌⊎◌, inl, inr, Bool, true, false, List, [], ◌∷◌, ◌++◌, filter, length, map, refl, sym, ap, subst, ◌∙◌, arith, length-append}
use Rattle.std.specs.Prelude.{Option, Some, None}
use Rattle.std.specs.List.{AllByRecursion, cons_option, filter_map, flat_map}
use Rattle.ebcdic_names.specs.declared.names.Name8.{Name8}
use Rattle.vol_model.specs.declared.catalogs.CatNode.{CatNode}
use Rattle.vol_model.specs.Trees.{Node, in_stored_order, is_at, node_at, nodes_below, way}
use Rattle.vol_model.specs.Trees.{is_group as is_group_node}
use Rattle.shelf_laws.proofs.Lists.{all_joined, all_weaker}
use Rattle.catalog_blocks.specs.declared.blocks.CatEntry.{CatEntry}
use Rattle.catalog_blocks.specs.declared.chains.Level.{Level}
use Rattle.catalog_blocks.specs.declared.chains.Chain.{Chain}
use Rattle.catalog_blocks.specs.declared.chains.Lead.{Lead}
use Rattle.catalog_blocks.specs.Trees.{by_ways, chain_nodes, entries_of, is_group, is_root, lead_in, name_in, names_to, node_in, nodes_in, root_lead}
use Rattle.catalog_blocks.specs.declared.chains.Level.TheVariants.{Root, Plain, Generation}
use Rattle.catalog_laws.specs.Forests.{leads_of}
use Rattle.catalog_laws.specs.Nodes.{AreTree, IsTrueChain, LeadTo, LeadsTo, WaysDiffer}
use Rattle.catalog_laws.proofs.NodeKinds.{lead_kind}
use Rattle.catalog_laws.proofs.NodeSets.{all_by_ways, at_none, at_ways, filter_ways}
use Rattle.catalog_laws.proofs.NodesBelow.{all_below, all_nodes, every, in_order, node_of, nodes_differ, stands_below, way_apart}
use Rattle.catalog_laws.proofs.WaysApart.{chains_differ, lead_names}

pub split_joined : {X : Type 0} (P : X → Type 0) (xs ys : List X) → AllByRecursion P (xs ++ ys) → AllByRecursion P xs × AllByRecursion P ys
split_joined P [] ys all = (tt, all)
split_joined P (x ∷ xs) ys all = let rest = split_joined P xs ys all.1 in ((all.0, rest.0), rest.1)

split_chains : (P : Node → Type 0) (cs : List Chain) → AllByRecursion P (flat_map chain_nodes cs) → AllByRecursion (λ (c : Chain). AllByRecursion P (chain_nodes c)) cs
split_chains P [] all = tt
split_chains P (c ∷ cs) all = let parts = split_joined P (chain_nodes c) (flat_map chain_nodes cs) all in (parts.0, split_chains P cs parts.1)

of_nodes : (P : Node → Type 0) (c : Chain) (es : List CatEntry) → AllByRecursion P (map (node_of c) es) → AllByRecursion (λ (e : CatEntry). P (node_of c e)) es
of_nodes P c [] all = tt
of_nodes P c (e ∷ es) all = (all.0, of_nodes P c es all.1)

pub all_in : (P : Node → Type 0) (cs : List Chain) → AllByRecursion (λ (c : Chain). AllByRecursion (λ (e : CatEntry). P (node_of c e)) (entries_of c)) cs → AllByRecursion P (flat_map chain_nodes cs)
all_in P [] all = tt
all_in P (c ∷ cs) all = all_joined P (chain_nodes c) (flat_map chain_nodes cs) (all_nodes P c (entries_of c) all.0) (all_in P cs all.1)

every_chain : (P : Chain → Type 0) → ((c : Chain) → P c) → (cs : List Chain) → AllByRecursion P cs
every_chain P each [] = tt
every_chain P each (c ∷ cs) = (each c, every_chain P each cs)

-- the node at this way has a chain of this level
pub record IsLed (nodes : List Node) (names : List Name8) (level : Level) : Type 0 where
  pub node : CatNode
  pub at : node_at nodes (way names) ≡ Some node
  pub kind : LeadsTo node level

-- a chain is the root, or a node leads to it
abbrev pub IsPlaced : List Node → Chain → Type 0
IsPlaced nodes c = ((c.names ≡ []) × (is_root c.level ≡ true)) ⊎ IsLed nodes c.names c.level

-- an entry's node stands at the way to it
abbrev pub HasNode : List Node → Chain → CatEntry → Type 0
HasNode nodes c e = node_at nodes (way (names_to c e)) ≡ Some (node_in c.level e)

all_led : (nodes : List Node) (c : Chain) (es : List CatEntry) → AllByRecursion (HasNode nodes c) es → AllByRecursion (λ (l : Lead). IsLed nodes l.names l.level) (filter_map (lead_in c) es)
all_led nodes c [] all = tt
all_led nodes c (e ∷ es) all = by (lead_in c e) refl (all_led nodes c es all.1)
  where
    by : (o : Option Lead) → lead_in c e ≡ o → AllByRecursion (λ (l : Lead). IsLed nodes l.names l.level) (filter_map (lead_in c) es) → AllByRecursion (λ (l : Lead). IsLed nodes l.names l.level) (cons_option o (filter_map (lead_in c) es))
    by None is rest = rest
    by (Some l) is rest = (
      record {
        node = node_in c.level e;
        at = ap (λ (ns : List Name8). node_at nodes (way ns)) (lead_names (names_to c e) e.place (node_in c.level e) l is) ∙ all.0;
        kind = lead_kind (names_to c e) e.place (node_in c.level e) l is;
      },
      rest,
    )

-- what holds of all leads holds of the chains to which they lead
pub all_placed : (P : List Name8 → Level → Type 0) (ls : List Lead) (cs : List Chain) → LeadTo ls cs → AllByRecursion (λ (l : Lead). P l.names l.level) ls
    → AllByRecursion (λ (c : Chain). AllByRecursion (λ (l : Lead). P l.names l.level) (leads_of c)) cs → AllByRecursion (λ (c : Chain). P c.names c.level) cs
all_placed P [] [] to leads all = tt
all_placed P [] (c ∷ cs) to leads all = absurd to
all_placed P (l ∷ ls) [] to leads all = absurd to
all_placed P (l ∷ ls) (c ∷ cs) to leads all = (
  subst (λ (ns : List Name8). P ns c.level) (sym to.0) (subst (P l.names) (sym to.1) leads.0),
  all_placed P (leads_of c ++ ls) cs to.2 (all_joined (λ (m : Lead). P m.names m.level) (leads_of c) ls all.0 leads.1) all.1,
)

-- What the chains of a tree have: each is placed, the node of each of its entries stands at the way to it, and below the way to the chain stand these nodes.
pub record AreNodes (cs : List Chain) : Type 0 where
  pub differ : WaysDiffer (flat_map chain_nodes cs)
  pub nodes : AllByRecursion (λ (c : Chain). AllByRecursion (HasNode (nodes_in cs) c) (entries_of c)) cs
  pub placed : AllByRecursion (IsPlaced (nodes_in cs)) cs
  pub below : AllByRecursion (λ (c : Chain). nodes_below (nodes_in cs) (way c.names) ≡ chain_nodes c) cs

-- all but the first, the root, are led to
pub record IsLedBehind (cs : List Chain) : Type 0 where
  pub top : Chain
  pub rest : List Chain
  pub is : cs ≡ top ∷ rest
  pub names : top.names ≡ []
  pub level : is_root top.level ≡ true
  pub led : AllByRecursion (λ (c : Chain). IsLed (nodes_in cs) c.names c.level) rest

pub no_names : (p : List Name8) (n : Name8) → p ++ n ∷ [] ≡ [] → ⊥
no_names p n same = omega (arith, ap length same, length-append p (n ∷ []))

module _ (cs : List Chain) where
  abbrev all : List Node
  all = flat_map chain_nodes cs

  -- nothing stands at the root's own way
  at_root : node_at (nodes_in cs) (way []) ≡ None
  unfolding nodes_in
  at_root =
      at_none (way []) (by_ways all) (all_by_ways (λ (x : Node). is_at (way []) x ≡ false) all
      (all_in (λ (x : Node). is_at (way []) x ≡ false) cs (every_chain _ (λ c. every _ (λ e. way_apart (names_to c e) [] (no_names c.names (name_in c.level e.name))) (entries_of c)) cs)))

  nodes_at : WaysDiffer all → AllByRecursion (λ (c : Chain). AllByRecursion (HasNode (nodes_in cs) c) (entries_of c)) cs
  unfolding nodes_in
  nodes_at differ =
      let P : Node → Type 0 = λ (x : Node). node_at (by_ways all) x.0 ≡ Some x.1 in
      all_weaker (λ (c : Chain). AllByRecursion P (chain_nodes c)) (λ (c : Chain). AllByRecursion (HasNode (by_ways all) c) (entries_of c)) (λ c here. of_nodes P c (entries_of c) here) cs (split_chains P cs (at_ways all differ))

  kind_at : (c : Chain) → IsPlaced (nodes_in cs) c → is_group_node (node_at (nodes_in cs) (way c.names)) ≡ is_group c.level
  kind_at c (inl top) = ap (λ (ns : List Name8). is_group_node (node_at (nodes_in cs) (way ns))) top.0 ∙ ap is_group_node at_root ∙ sym (no_group c.level top.1)
    where
      no_group : (level : Level) → is_root level ≡ true → is_group level ≡ false
      no_group Root is = refl
      no_group Plain is = refl
      no_group Generation is = cc
  kind_at c (inr led) = ap is_group_node led.at ∙ led.kind.group

  below_at : (c : Chain) → WaysDiffer all → IsTrueChain c → IsPlaced (nodes_in cs) c → filter (stands_below c.names) all ≡ chain_nodes c → nodes_below (nodes_in cs) (way c.names) ≡ chain_nodes c
  unfolding nodes_below nodes_in
  below_at c differ is placed own =
      ap (λ (b : Bool). in_stored_order b (filter (stands_below c.names) (by_ways all))) (kind_at c placed)
      ∙ ap (in_stored_order (is_group c.level)) (filter_ways (stands_below c.names) all differ ∙ ap by_ways own)
      ∙ in_order c is

  all_below_at : (ds : List Chain) → WaysDiffer all → AllByRecursion IsTrueChain ds → AllByRecursion (IsPlaced (nodes_in cs)) ds → AllByRecursion (λ (c : Chain). filter (stands_below c.names) all ≡ chain_nodes c) ds
      → AllByRecursion (λ (c : Chain). nodes_below (nodes_in cs) (way c.names) ≡ chain_nodes c) ds
  all_below_at [] differ hold placed own = tt
  all_below_at (d ∷ ds) differ hold placed own = (below_at d differ hold.0 placed.0 own.0, all_below_at ds differ hold.1 placed.1 own.1)

pub are_nodes : (cs : List Chain) → AreTree cs → AreNodes cs × IsLedBehind cs
are_nodes [] tree = absurd tree.leads
are_nodes (c ∷ rest) tree =
    let cs : List Chain = c ∷ rest in
    let apart = chains_differ (root_lead ∷ []) cs tree.chains (tt, tt) tree.leads in
    let differ = nodes_differ cs apart tree.chains in
    let nodes = nodes_at cs differ in
    let leads : AllByRecursion (λ (d : Chain). AllByRecursion (λ (l : Lead). IsLed (nodes_in cs) l.names l.level) (leads_of d)) cs =
    all_weaker (λ (d : Chain). AllByRecursion (HasNode (nodes_in cs) d) (entries_of d)) (λ (d : Chain). AllByRecursion (λ (l : Lead). IsLed (nodes_in cs) l.names l.level) (leads_of d)) (λ d here. all_led (nodes_in cs) d (entries_of d) here) cs nodes in
    let led = all_placed (IsLed (nodes_in cs)) (leads_of c ++ []) rest tree.leads.2 (all_joined (λ (l : Lead). IsLed (nodes_in cs) l.names l.level) (leads_of c) [] leads.0 tt) leads.1 in
    let level : is_root c.level ≡ true = ap is_root tree.leads.1 in
    let placed : AllByRecursion (IsPlaced (nodes_in cs)) cs = (inl (tree.leads.0, level), all_weaker (λ (d : Chain). IsLed (nodes_in cs) d.names d.level) (IsPlaced (nodes_in cs)) (λ d is. inr is) rest led) in (
      record { differ = differ; nodes = nodes; placed = placed; below = all_below_at cs cs differ tree.chains placed (all_below cs apart) },
      record { top = c; rest = rest; is = refl; names = tree.leads.0; level = level; led = led },
    )

-- ---- the same for one chain, or one entry

all_at : {X : Type 0} (P : X → Type 0) (xs : List X) (y : X) (zs : List X) → AllByRecursion P (xs ++ y ∷ zs) → P y
all_at P [] y zs all = all.0
all_at P (x ∷ xs) y zs all = all_at P xs y zs all.1

pub node_there : (before : List Chain) (c : Chain) (after : List Chain) (us : List CatEntry) (e : CatEntry) (vs : List CatEntry) → AreTree (before ++ c ∷ after) → entries_of c ≡ us ++ e ∷ vs
    → node_at (nodes_in (before ++ c ∷ after)) (way (names_to c e)) ≡ Some (node_in c.level e)
node_there before c after us e vs tree are =
    let cs : List Chain = before ++ c ∷ after in
    let own = all_at (λ (d : Chain). AllByRecursion (HasNode (nodes_in cs) d) (entries_of d)) before c after (are_nodes cs tree).0.nodes in
    all_at (HasNode (nodes_in cs) c) us e vs (subst (AllByRecursion (HasNode (nodes_in cs) c)) are own)

pub nodes_there : (before : List Chain) (c : Chain) (after : List Chain) → AreTree (before ++ c ∷ after) → nodes_below (nodes_in (before ++ c ∷ after)) (way c.names) ≡ chain_nodes c
nodes_there before c after tree =
    let cs : List Chain = before ++ c ∷ after in
    all_at (λ (d : Chain). nodes_below (nodes_in cs) (way d.names) ≡ chain_nodes d) before c after (are_nodes cs tree).0.below
