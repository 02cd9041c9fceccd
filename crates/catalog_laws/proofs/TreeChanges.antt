-- A tree of which one chain changes: it is a tree again, and its nodes are those with one more, one less or another.
use Rattle.std.proofs.Common.{◌≡◌, false, List, [], ◌∷◌, ◌++◌, map, refl, sym, ap, ap₂, subst, ◌∙◌, append_assoc}
use Rattle.std.specs.List.{AllByRecursion, flat_map}
use Rattle.std.specs.Ordering.{is_eq}
use Rattle.std.proofs.lemmas.List.{map-append}
use Rattle.std.proofs.lemmas.Grind.{flat_map-append}
use Rattle.ebcdic_names.specs.declared.names.Name8.{Name8}
use Rattle.vol_model.specs.Trees.{Node, compare_ways, way, with_node, without_node}
use Rattle.shelf_laws.proofs.Lists.{all_joined, all_weaker}
use Rattle.catalog_blocks.specs.declared.blocks.CatEntry.{CatEntry}
use Rattle.catalog_blocks.specs.declared.chains.Level.{Level}
use Rattle.catalog_blocks.specs.declared.chains.Chain.{Chain}
use Rattle.catalog_blocks.specs.declared.chains.Lead.{Lead}
use Rattle.catalog_blocks.specs.Trees.{by_ways, chain_nodes, entries_of, name_in, names_to, node_in, nodes_in, root_lead}
use Rattle.catalog_laws.specs.Forests.{leads_of}
use Rattle.catalog_laws.specs.Nodes.{AreTree, TreeGains, TreeLoses, IsTrueChain, LeadTo, WaysDiffer}
use Rattle.catalog_laws.proofs.NodeOrders.{one_changes, one_comes, one_goes}
use Rattle.catalog_laws.proofs.NodePlaces.{are_nodes, split_joined}
use Rattle.catalog_laws.proofs.NodeSets.{all_by_ways, differ_back, ways_rise}
use Rattle.catalog_laws.proofs.NodesBelow.{node_of}

-- ---- leads

-- one chain gives way to another that leads to the same
lead_replaced : (ls : List Lead) (before : List Chain) (c d : Chain) (after : List Chain) → d.names ≡ c.names → d.level ≡ c.level → leads_of d ≡ leads_of c → LeadTo ls (before ++ c ∷ after) → LeadTo ls (before ++ d ∷ after)
lead_replaced [] [] c d after names level leads to = absurd to
lead_replaced (l ∷ ls) [] c d after names level leads to = (names ∙ to.0, level ∙ to.1, subst (λ (ms : List Lead). LeadTo (ms ++ ls) after) (sym leads) to.2)
lead_replaced [] (b ∷ bs) c d after names level leads to = absurd to
lead_replaced (l ∷ ls) (b ∷ bs) c d after names level leads to = (to.0, to.1, lead_replaced (leads_of b ++ ls) bs c d after names level leads to.2)

-- Chains to which leads lead of which some come first.
record Splits (us ws : List Lead) (cs : List Chain) : Type 0 where
  front : List Chain
  rest : List Chain
  is : cs ≡ front ++ rest
  first : LeadTo us front
  second : LeadTo ws rest

split : (us ws : List Lead) (cs : List Chain) → LeadTo (us ++ ws) cs → Splits us ws cs
split [] ws cs to = record { front = []; rest = cs; is = refl; first = tt; second = to }
split (u ∷ us) ws [] to = absurd to
split (u ∷ us) ws (c ∷ cs) to =
    let rest = split (leads_of c ++ us) ws cs (subst (λ (ls : List Lead). LeadTo ls cs) (sym (append_assoc (leads_of c) us ws)) to.2) in
    record { front = c ∷ rest.front; rest = rest.rest; is = ap (λ (ds : List Chain). c ∷ ds) rest.is; first = (to.0, to.1, rest.first); second = rest.second }

join : (us ws : List Lead) (front rest : List Chain) → LeadTo us front → LeadTo ws rest → LeadTo (us ++ ws) (front ++ rest)
join [] ws [] rest first second = second
join [] ws (c ∷ cs) rest first second = absurd first
join (u ∷ us) ws [] rest first second = absurd first
join (u ∷ us) ws (c ∷ cs) rest first second = (first.0, first.1, subst (λ (ls : List Lead). LeadTo ls (cs ++ rest)) (append_assoc (leads_of c) us ws) (join (leads_of c ++ us) ws cs rest first.2 second))

all_replaced : (P : Chain → Type 0) (before : List Chain) (c d : Chain) (after : List Chain) → AllByRecursion P (before ++ c ∷ after) → P d → AllByRecursion P (before ++ d ∷ after)
all_replaced P [] c d after all is = (is, all.1)
all_replaced P (b ∷ bs) c d after all is = (all.0, all_replaced P bs c d after all.1 is)

-- a chain gives way to another that leads to the same chains
pub tree_changes : (before : List Chain) (c d : Chain) (after : List Chain) → AreTree (before ++ c ∷ after) → IsTrueChain d → d.names ≡ c.names → d.level ≡ c.level → leads_of d ≡ leads_of c → AreTree (before ++ d ∷ after)
tree_changes before c d after tree is names level leads = record {
  chains = all_replaced IsTrueChain before c d after tree.chains is;
  leads = lead_replaced (root_lead ∷ []) before c d after names level leads tree.leads;
}

-- ---- one chain more

-- Leads of which one has come lead to these chains.
record LeadCome (ls : List Lead) (before : List Chain) (d : Chain) (after : List Chain) (e : Chain) : Type 0 where
  front : List Chain
  rest : List Chain
  is : after ≡ front ++ rest
  to : LeadTo ls (before ++ d ∷ (front ++ e ∷ rest))

module _ (c d e : Chain) (us : List Lead) (lead : Lead) (vs : List Lead) (names : d.names ≡ c.names) (level : d.level ≡ c.level) (was : leads_of c ≡ us ++ vs) (is : leads_of d ≡ us ++ lead ∷ vs)
    (to_names : e.names ≡ lead.names) (to_level : e.level ≡ lead.level) (leaf : leads_of e ≡ []) where
  lead_comes : (ls : List Lead) (before after : List Chain) → LeadTo ls (before ++ c ∷ after) → LeadCome ls before d after e
  lead_comes [] [] after to = absurd to
  lead_comes (l ∷ ls) [] after to =
      let s = split us (vs ++ ls) after (subst (λ (ms : List Lead). LeadTo ms after) (ap (λ (ms : List Lead). ms ++ ls) was ∙ append_assoc us vs ls) to.2) in
      let there : LeadTo (lead ∷ (vs ++ ls)) (e ∷ s.rest) = (to_names, to_level, subst (λ (ms : List Lead). LeadTo (ms ++ (vs ++ ls)) s.rest) (sym leaf) s.second) in
      let joined : LeadTo (us ++ (lead ∷ (vs ++ ls))) (s.front ++ e ∷ s.rest) = join us (lead ∷ (vs ++ ls)) s.front (e ∷ s.rest) s.first there in
      record {
        front = s.front;
        rest = s.rest;
        is = s.is;
        to = (names ∙ to.0, level ∙ to.1, subst (λ (ms : List Lead). LeadTo ms (s.front ++ e ∷ s.rest)) (sym (ap (λ (ms : List Lead). ms ++ ls) is ∙ append_assoc us (lead ∷ vs) ls)) joined);
      }
  lead_comes [] (b ∷ bs) after to = absurd to
  lead_comes (l ∷ ls) (b ∷ bs) after to =
      let rest = lead_comes (leads_of b ++ ls) bs after to.2 in
      record { front = rest.front; rest = rest.rest; is = rest.is; to = (to.0, to.1, rest.to) }

  -- a chain gives way to one that leads to one more, below which there is none
  pub tree_gains : (before after : List Chain) → AreTree (before ++ c ∷ after) → IsTrueChain d → IsTrueChain e → TreeGains before d after e
  tree_gains before after tree first second =
      let come = lead_comes (root_lead ∷ []) before after tree.leads in
      let parts = split_joined IsTrueChain before (c ∷ after) tree.chains in
      let more = split_joined IsTrueChain come.front come.rest (subst (AllByRecursion IsTrueChain) come.is parts.1.1) in
      record {
        front = come.front;
        rest = come.rest;
        is = come.is;
        tree = record {
          chains = all_joined IsTrueChain before (d ∷ (come.front ++ e ∷ come.rest)) parts.0 (first, all_joined IsTrueChain come.front (e ∷ come.rest) more.0 (second, more.1));
          leads = come.to;
        };
      }

-- ---- one chain less

-- Leads of which one has gone lead to these chains.
record LeadGone (ls : List Lead) (before : List Chain) (d : Chain) (after : List Chain) (lead : Lead) : Type 0 where
  front : List Chain
  gone : Chain
  rest : List Chain
  is : after ≡ front ++ gone ∷ rest
  names : gone.names ≡ lead.names
  to : LeadTo ls (before ++ d ∷ (front ++ rest))

first_led : (lead : Lead) (vs : List Lead) (cs : List Chain) → LeadTo (lead ∷ vs) cs → (e : Chain) × (rest : List Chain) × (cs ≡ e ∷ rest) × (e.names ≡ lead.names) × LeadTo (leads_of e ++ vs) rest
first_led lead vs [] to = absurd to
first_led lead vs (e ∷ rest) to = (e, rest, refl, to.0, to.2)

module _ (c d : Chain) (us : List Lead) (lead : Lead) (vs : List Lead) (names : d.names ≡ c.names) (level : d.level ≡ c.level) (was : leads_of c ≡ us ++ lead ∷ vs) (is : leads_of d ≡ us ++ vs) where
  lead_goes : (ls : List Lead) (before after : List Chain) → ((e : Chain) (fs gs : List Chain) → after ≡ fs ++ e ∷ gs → e.names ≡ lead.names → leads_of e ≡ []) → LeadTo ls (before ++ c ∷ after) → LeadGone ls before d after lead
  lead_goes [] [] after leaf to = absurd to
  lead_goes (l ∷ ls) [] after leaf to =
      let s = split us (lead ∷ (vs ++ ls)) after (subst (λ (ms : List Lead). LeadTo ms after) (ap (λ (ms : List Lead). ms ++ ls) was ∙ append_assoc us (lead ∷ vs) ls) to.2) in
      let e = first_led lead (vs ++ ls) s.rest s.second in
      let all : after ≡ s.front ++ e.0 ∷ e.1 = s.is ∙ ap (λ (cs : List Chain). s.front ++ cs) e.2 in
      let none : LeadTo (vs ++ ls) e.1 = subst (λ (ms : List Lead). LeadTo (ms ++ (vs ++ ls)) e.1) (leaf e.0 s.front e.1 all e.3) e.4 in
      let joined : LeadTo (us ++ (vs ++ ls)) (s.front ++ e.1) = join us (vs ++ ls) s.front e.1 s.first none in
      record {
        front = s.front;
        gone = e.0;
        rest = e.1;
        is = all;
        names = e.3;
        to = (names ∙ to.0, level ∙ to.1, subst (λ (ms : List Lead). LeadTo ms (s.front ++ e.1)) (sym (ap (λ (ms : List Lead). ms ++ ls) is ∙ append_assoc us vs ls)) joined);
      }
  lead_goes [] (b ∷ bs) after leaf to = absurd to
  lead_goes (l ∷ ls) (b ∷ bs) after leaf to =
      let rest = lead_goes (leads_of b ++ ls) bs after leaf to.2 in
      record { front = rest.front; gone = rest.gone; rest = rest.rest; is = rest.is; names = rest.names; to = (to.0, to.1, rest.to) }

  -- a chain gives way to one that leads to one less, below which there was none
  pub tree_loses : (before after : List Chain) → AreTree (before ++ c ∷ after) → IsTrueChain d → ((e : Chain) (fs gs : List Chain) → after ≡ fs ++ e ∷ gs → e.names ≡ lead.names → leads_of e ≡ []) → TreeLoses before d after lead
  tree_loses before after tree first leaf =
      let go = lead_goes (root_lead ∷ []) before after leaf tree.leads in
      let parts = split_joined IsTrueChain before (c ∷ after) tree.chains in
      let more = split_joined IsTrueChain go.front (go.gone ∷ go.rest) (subst (AllByRecursion IsTrueChain) go.is parts.1.1) in
      record {
        front = go.front;
        gone = go.gone;
        rest = go.rest;
        is = go.is;
        names = go.names;
        tree = record {
          chains = all_joined IsTrueChain before (d ∷ (go.front ++ go.rest)) parts.0 (first, all_joined IsTrueChain go.front go.rest more.0 more.1.1);
          leads = go.to;
        };
      }

-- ---- nodes

-- the nodes of a chain of this way and level, by its entries
nodes_by : (c d : Chain) → d.names ≡ c.names → d.level ≡ c.level → (es : List CatEntry) → entries_of d ≡ es → chain_nodes d ≡ map (node_of c) es
nodes_by c d names level es are =
    ap (map (node_of d)) are
    ∙ ap₂ (λ (ns : List Name8) (v : Level). map (λ (e : CatEntry). (way (ns ++ name_in v e.name ∷ []), node_in v e)) es) names level

-- the nodes of chains one of which has these
nodes_around : (before : List Chain) (d : Chain) (after : List Chain) (xs : List Node) → chain_nodes d ≡ xs → flat_map chain_nodes (before ++ d ∷ after) ≡ flat_map chain_nodes before ++ (xs ++ flat_map chain_nodes after)
nodes_around before d after xs are = flat_map-append chain_nodes before (d ∷ after) ∙ ap (λ (ys : List Node). flat_map chain_nodes before ++ (ys ++ flat_map chain_nodes after)) are

-- of nodes whose ways differ, one differs from those before it, and from those after it
differ_around : (ps : List Node) (x : Node) (qs : List Node) → WaysDiffer (ps ++ x ∷ qs) → AllByRecursion (λ (p : Node). is_eq (compare_ways p.0 x.0) ≡ false) ps × AllByRecursion (λ (q : Node). is_eq (compare_ways q.0 x.0) ≡ false) qs
differ_around [] x qs differ = (tt, all_weaker (λ (q : Node). is_eq (compare_ways x.0 q.0) ≡ false) (λ (q : Node). is_eq (compare_ways q.0 x.0) ≡ false) (λ q e. differ_back x.0 q.0 e) qs differ.0)
differ_around (p ∷ ps) x qs differ =
    let rest = differ_around ps x qs differ.1 in
    let here = (split_joined (λ (y : Node). is_eq (compare_ways p.0 y.0) ≡ false) ps (x ∷ qs) differ.0).1 in
    ((here.0, rest.0), rest.1)

module _ (before : List Chain) (c d : Chain) (after : List Chain) (names : d.names ≡ c.names) (level : d.level ≡ c.level) (us : List CatEntry) (e : CatEntry) (vs : List CatEntry) where
  abbrev ps : List Node
  ps = flat_map chain_nodes before ++ map (node_of c) us

  abbrev qs : List Node
  qs = map (node_of c) vs ++ flat_map chain_nodes after

  -- the nodes around those of an entry, or of none
  with_entry : (es : List CatEntry) → flat_map chain_nodes before ++ (map (node_of c) (us ++ (es ++ vs)) ++ flat_map chain_nodes after) ≡ ps ++ (map (node_of c) es ++ qs)
  with_entry es =
      ap (λ (xs : List Node). flat_map chain_nodes before ++ (xs ++ flat_map chain_nodes after)) (map-append (node_of c) us (es ++ vs) ∙ ap (λ (xs : List Node). map (node_of c) us ++ xs) (map-append (node_of c) es vs))
      ∙ ap (λ (xs : List Node). flat_map chain_nodes before ++ xs) (append_assoc (map (node_of c) us) (map (node_of c) es ++ map (node_of c) vs) (flat_map chain_nodes after) ∙ ap (λ (xs : List Node). map (node_of c) us ++ xs) (append_assoc (map (node_of c) es) (map (node_of c) vs) (flat_map chain_nodes after)))
      ∙ sym (append_assoc (flat_map chain_nodes before) (map (node_of c) us) (map (node_of c) es ++ qs))

  -- an entry comes to a chain: a node comes
  pub node_comes : AreTree (before ++ d ∷ after) → entries_of c ≡ us ++ vs → entries_of d ≡ us ++ e ∷ vs → nodes_in (before ++ d ∷ after) ≡ with_node (way (names_to c e)) (node_in c.level e) (nodes_in (before ++ c ∷ after))
  unfolding nodes_in
  node_comes tree was is =
      let new : flat_map chain_nodes (before ++ d ∷ after) ≡ ps ++ node_of c e ∷ qs = nodes_around before d after _ (nodes_by c d names level (us ++ e ∷ vs) is) ∙ with_entry (e ∷ []) in
      let old : flat_map chain_nodes (before ++ c ∷ after) ≡ ps ++ qs = nodes_around before c after _ (ap (map (node_of c)) was) ∙ with_entry [] in
      let apart = differ_around ps (node_of c e) qs (subst WaysDiffer new (are_nodes (before ++ d ∷ after) tree).0.differ) in
      ap by_ways new ∙ one_comes ps (node_of c e) qs apart.0 ∙ ap (λ (xs : List Node). with_node (way (names_to c e)) (node_in c.level e) (by_ways xs)) (sym old)

  -- an entry goes: a node goes
  pub node_goes : AreTree (before ++ c ∷ after) → entries_of c ≡ us ++ e ∷ vs → entries_of d ≡ us ++ vs → nodes_in (before ++ d ∷ after) ≡ without_node (way (names_to c e)) (nodes_in (before ++ c ∷ after))
  unfolding nodes_in
  node_goes tree was is =
      let new : flat_map chain_nodes (before ++ d ∷ after) ≡ ps ++ qs = nodes_around before d after _ (nodes_by c d names level (us ++ vs) is) ∙ with_entry [] in
      let old : flat_map chain_nodes (before ++ c ∷ after) ≡ ps ++ node_of c e ∷ qs = nodes_around before c after _ (ap (map (node_of c)) was) ∙ with_entry (e ∷ []) in
      let apart = differ_around ps (node_of c e) qs (subst WaysDiffer old (are_nodes (before ++ c ∷ after) tree).0.differ) in
      let Other : Node → Type 0 = λ (y : Node). is_eq (compare_ways y.0 (way (names_to c e))) ≡ false in
      ap by_ways new
      ∙ sym (one_goes (way (names_to c e)) (node_in c.level e) (by_ways (ps ++ qs)) (ways_rise (ps ++ qs)) (all_by_ways Other (ps ++ qs) (all_joined Other ps qs apart.0 apart.1)))
      ∙ ap (without_node (way (names_to c e))) (sym (ap by_ways old ∙ one_comes ps (node_of c e) qs apart.0))

  -- an entry gives way to another of its name: its node does
  pub node_changes : (f : CatEntry) → f.name ≡ e.name → AreTree (before ++ c ∷ after) → entries_of c ≡ us ++ e ∷ vs → entries_of d ≡ us ++ f ∷ vs → nodes_in (before ++ d ∷ after) ≡ with_node (way (names_to c e)) (node_in c.level f) (nodes_in (before ++ c ∷ after))
  unfolding nodes_in
  node_changes f same tree was is =
      let new : flat_map chain_nodes (before ++ d ∷ after) ≡ ps ++ node_of c f ∷ qs = nodes_around before d after _ (nodes_by c d names level (us ++ f ∷ vs) is) ∙ with_entry (f ∷ []) in
      let old : flat_map chain_nodes (before ++ c ∷ after) ≡ ps ++ node_of c e ∷ qs = nodes_around before c after _ (ap (map (node_of c)) was) ∙ with_entry (e ∷ []) in
      let apart = differ_around ps (node_of c e) qs (subst WaysDiffer old (are_nodes (before ++ c ∷ after) tree).0.differ) in
      let path : names_to c f ≡ names_to c e = ap (λ (n : Name8). c.names ++ name_in c.level n ∷ []) same in
      let Other : List Name8 → Type 0 = λ ns. AllByRecursion (λ (p : Node). is_eq (compare_ways p.0 (way ns)) ≡ false) ps in
      ap by_ways new
      ∙ one_comes ps (node_of c f) qs (subst Other (sym path) apart.0)
      ∙ ap (λ (ns : List Name8). with_node (way ns) (node_in c.level f) (by_ways (ps ++ qs))) path
      ∙ sym (one_changes (way (names_to c e)) (node_in c.level e) (node_in c.level f) (by_ways (ps ++ qs)))
      ∙ ap (with_node (way (names_to c e)) (node_in c.level f)) (sym (ap by_ways old ∙ one_comes ps (node_of c e) qs apart.0))

-- a chain without entries has no nodes
pub leaf_nodes : (front : List Chain) (e : Chain) (rest : List Chain) → entries_of e ≡ [] → nodes_in (front ++ e ∷ rest) ≡ nodes_in (front ++ rest)
unfolding nodes_in
leaf_nodes front e rest none =
    ap by_ways (nodes_around front e rest [] (ap (map (node_of e)) none) ∙ sym (flat_map-append chain_nodes front rest))
