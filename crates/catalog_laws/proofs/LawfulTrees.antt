-- The tree of a catalog that is read is lawful.
use Rattle.std.proofs.Common.{◌≡◌, inl, inr, ◌+◌, ◌^◌, ◌≤◌, ◌<◌, ℕ, suc, Bool, true, false, cond, not, List, [], ◌∷◌, ◌++◌, length, map, refl, sym, ap, ap₂, subst, ◌∙◌, arith, length-append}
use Rattle.std.specs.Prelude.{◌==◌, ◌&&◌, ◌||◌, Option, Some, None, nat_le}
use Rattle.std.specs.Option.{option_map_or}
use Rattle.std.specs.List.{AllByRecursion, cons_option, filter_map, flat_map, sum_by}
use Rattle.std.proofs.lemmas.Bool.{and_from, and_parts}
use Rattle.std.proofs.lemmas.List.{length-map}
use Rattle.std.proofs.lemmas.List.Sums.{sum_by-append, sum_by-cons}
use Rattle.chain_spec.specs.Cut.{AllFit, needed, needed_from}
use Rattle.chain_spec.proofs.NeededLemmas.{needed_is_length}
use Rattle.chain_spec.specs.Kept.{joined, kept}
use Rattle.sorted_chain.proofs.ChainRoom.{blocks_room}
use Rattle.ebcdic_names.specs.declared.names.Name8.{Name8}
use Rattle.vol_model.specs.declared.catalogs.CatNode.{CatNode}
use Rattle.vol_model.specs.declared.catalogs.CatNode.TheVariants.{Index, Group, Set, Alias, Other}
use Rattle.vol_model.specs.Lawful.{IsLawfulTree}
use Rattle.vol_model.specs.Slots.{catalog_needed, index_needed}
use Rattle.vol_model.specs.Trees.{Node, front, has_index, has_parent, is_generation, is_index, last_bytes, node_at, node_size, nodes_below, parent_at, stored_generation, way}
use Rattle.vol_model.specs.Trees.{is_group as is_group_node}
use Rattle.catalog_blocks.specs.declared.blocks.CatEntry.{CatEntry}
use Rattle.catalog_blocks.specs.Blocks.{cat_size, name_number}
use Rattle.catalog_blocks.specs.declared.chains.Level.{Level}
use Rattle.catalog_blocks.specs.declared.chains.Chain.{Chain}
use Rattle.catalog_blocks.specs.declared.chains.Lead.{Lead}
use Rattle.catalog_blocks.specs.Trees.{Store, chain_nodes, control_length, entries_of, is_group, is_root, is_true_name, lead_in, name_in, names_to, node_in, nodes_in, numbers, root_lead}
use Rattle.catalog_blocks.specs.declared.chains.Level.TheVariants.{Root, Plain, Generation}
use Rattle.catalog_laws.specs.Forests.{AreChains, all_numbers, leads_of}
use Rattle.catalog_laws.specs.Nodes.{AreCut, AreSound, AreTree, IsStored, IsTrueChain, LeadTo, blocks_needed}
use Rattle.catalog_laws.specs.Writes.{lists_of}
use Rattle.catalog_laws.proofs.Apart.{few}
use Rattle.catalog_laws.proofs.NodeKinds.{lead_there, node_cases, size_is}
use Rattle.catalog_laws.proofs.NodePlaces.{AreNodes, IsLed, IsLedBehind, IsPlaced, all_in, are_nodes}
use Rattle.catalog_laws.proofs.NodeSets.{all_by_ways, sum_ways, ways_rise}
use Rattle.catalog_laws.proofs.NodesBelow.{last_is, node_of}
use Rattle.catalog_laws.proofs.TreeReads.{all_below}
use Rattle.catalog_laws.proofs.WaysApart.{all_led_to, all_true, lead_names}

-- ---- parents

root_parent : (nodes : List Node) (n : Name8) (node : CatNode) → has_parent nodes (n ∷ []) node ≡ true
root_parent nodes n Index = refl
root_parent nodes n (Group limit empty delete) = refl
root_parent nodes n (Set vols) = refl
root_parent nodes n (Alias of) = refl
root_parent nodes n (Other place payload) = refl

front_is : (p : Name8) (ps : List Name8) (n : Name8) → front (p ∷ (ps ++ n ∷ [])) ≡ p ∷ ps
front_is p [] n = refl
front_is p (q ∷ ps) n = ap (λ (ns : List Name8). p ∷ ns) (front_is q ps n)

parent_is : (nodes : List Node) (ps : List Name8) (n : Name8) (node : CatNode) → node_at nodes (way ps) ≡ Some node → 1 ≤ length ps → parent_at nodes (ps ++ n ∷ []) ≡ Some node
parent_is nodes [] n node at some = absurd (omega (arith, some))
parent_is nodes (p ∷ []) n node at some = at
parent_is nodes (p ∷ q ∷ ps) n node at some = ap (λ (ns : List Name8). node_at nodes (way ns)) (ap (λ (ns : List Name8). p ∷ ns) (front_is q ps n)) ∙ at

module _ (nodes : List Node) (c : Chain) (e : CatEntry) where
  abbrev names : List Name8
  names = names_to c e

  or_true : (a b : Bool) → b ≡ true → (a || b) ≡ true
  or_true true b is = refl
  or_true false b is = is

  -- a node below another that has a chain
  led_parent : IsLed nodes c.names c.level → 1 ≤ length c.names → (is_group c.level ≡ true → IsStored e) → has_parent nodes names (node_in c.level e) ≡ true
  led_parent led some stored =
      node_cases c.level e (λ (x : CatNode). has_parent nodes names x ≡ true)
      (λ is. plain (no_group (and_parts (not (is_group c.level)) _ is).0))
      (λ is limit empty delete. plain (no_group (and_parts (not (is_group c.level)) _ is).0))
      (λ is. let parts = and_parts (is_root c.level) (is_true_name e.payload) is in let wrong = sym parts.0 ∙ led.kind.below in cc)
      (λ is. held)
      held
    where
      parent : parent_at nodes names ≡ Some led.node
      parent = parent_is nodes c.names (name_in c.level e.name) led.node led.at some

      no_group : not (is_group c.level) ≡ true → is_group c.level ≡ false
      no_group is = by (is_group c.level) is
        where
          by : (b : Bool) → not b ≡ true → b ≡ false
          by true f = cc
          by false f = refl

      plain : is_group c.level ≡ false → (length names == 1 || option_map_or is_index (parent_at nodes names) false) ≡ true
      plain none = or_true (length names == 1) (option_map_or is_index (parent_at nodes names) false) (ap (λ (o : Option CatNode). option_map_or is_index o false) parent ∙ led.kind.other none)

      fits : (b : Bool) → is_group c.level ≡ b → (not b || is_generation (last_bytes names)) ≡ true
      fits true is =
          let bytes : (name_in c.level e.name).bytes ≡ stored_generation e.name.bytes = ap (λ (b : Bool). let m : Name8 = cond b (record { bytes = stored_generation e.name.bytes }) e.name in m.bytes) is in
          ap is_generation (last_is c.names (name_in c.level e.name) ∙ bytes) ∙ stored is
      fits false is = refl

      held : ((length names == 1 || option_map_or has_index (parent_at nodes names) false) && (not (is_group_node (parent_at nodes names)) || is_generation (last_bytes names))) ≡ true
      held =
          and_from (length names == 1 || option_map_or has_index (parent_at nodes names) false) (not (is_group_node (parent_at nodes names)) || is_generation (last_bytes names))
          (or_true (length names == 1) (option_map_or has_index (parent_at nodes names) false) (ap (λ (o : Option CatNode). option_map_or has_index o false) parent ∙ led.kind.index))
          (ap (λ (o : Option CatNode). not (is_group_node o) || is_generation (last_bytes names)) parent ∙ ap (λ (b : Bool). not b || is_generation (last_bytes names)) led.kind.group ∙ fits (is_group c.level) refl)

  pub has_its_parent : IsPlaced nodes c → (is_group c.level ≡ true → IsStored e) → has_parent nodes names (node_in c.level e) ≡ true
  has_its_parent (inl top) stored = ap (λ (ps : List Name8). has_parent nodes (ps ++ name_in c.level e.name ∷ []) (node_in c.level e)) top.0 ∙ root_parent nodes (name_in c.level e.name) (node_in c.level e)
  has_its_parent (inr led) stored = by c.names refl
    where
      by : (ps : List Name8) → c.names ≡ ps → has_parent nodes names (node_in c.level e) ≡ true
      by [] none = ap (λ (ps : List Name8). has_parent nodes (ps ++ name_in c.level e.name ∷ []) (node_in c.level e)) none ∙ root_parent nodes (name_in c.level e.name) (node_in c.level e)
      by (p ∷ ps) are = led_parent led (omega (arith, ap length are)) stored

parents_in : (nodes : List Node) (c : Chain) (es : List CatEntry) → IsPlaced nodes c → (is_group c.level ≡ true → AllByRecursion IsStored es) → AllByRecursion (λ (e : CatEntry). has_parent nodes (names_to c e) (node_in c.level e) ≡ true) es
parents_in nodes c [] placed stored = tt
parents_in nodes c (e ∷ es) placed stored = (has_its_parent nodes c e placed (λ is. (stored is).0), parents_in nodes c es placed (λ is. (stored is).1))

all_parents : (nodes : List Node) (cs : List Chain) → AllByRecursion IsTrueChain cs → AllByRecursion (IsPlaced nodes) cs → AllByRecursion (λ (c : Chain). AllByRecursion (λ (e : CatEntry). has_parent nodes (names_to c e) (node_in c.level e) ≡ true) (entries_of c)) cs
all_parents nodes [] hold placed = tt
all_parents nodes (c ∷ cs) hold placed = (parents_in nodes c (entries_of c) placed.0 hold.0.fits, all_parents nodes cs hold.1 placed.1)

-- the parent of each node is there and of its kind
pub parents : (cs : List Chain) → AreTree cs → AreNodes cs → AllByRecursion (λ (x : Node). has_parent (nodes_in cs) x.0.names x.1 ≡ true) (nodes_in cs)
unfolding nodes_in
parents cs tree are = all_by_ways (λ (x : Node). has_parent (nodes_in cs) x.0.names x.1 ≡ true) (flat_map chain_nodes cs) (all_in (λ (x : Node). has_parent (nodes_in cs) x.0.names x.1 ≡ true) cs (all_parents (nodes_in cs) cs tree.chains are.placed))

-- ---- room

needed_sizes : (u : ℕ) (es : List CatEntry) → needed_from (λ (bytes : ℕ). bytes) 242 0 u (map cat_size es) ≡ needed_from cat_size 242 0 u es
needed_sizes u [] = refl
needed_sizes u (e ∷ es) = ap₂ (λ (n m : ℕ). cond (nat_le (u + cat_size e) 242) n (suc m)) (needed_sizes (u + cat_size e) es) (needed_sizes (cat_size e) es)

sizes : (c : Chain) (es : List CatEntry) → map (λ (x : Node). node_size x.1) (map (node_of c) es) ≡ map cat_size es
sizes c [] = refl
sizes c (e ∷ es) = ap₂ (λ (n : ℕ) (ns : List ℕ). n ∷ ns) (size_is c.level e) (sizes c es)

-- the blocks that an index needs are those that the kept entries of its chain need
index_is : (nodes : List Node) (c : Chain) (control : ℕ) → IsTrueChain c → nodes_below nodes (way c.names) ≡ chain_nodes c → control ≡ 12 + control_length c.level → index_needed control nodes (way c.names) ≡ blocks_needed c
index_is nodes c control is below front =
    ap (λ (xs : List Node). needed (λ (bytes : ℕ). bytes) 242 0 (control ∷ map (λ (x : Node). node_size x.1) xs)) below
    ∙ ap₂ (λ (n : ℕ) (ns : List ℕ). needed (λ (bytes : ℕ). bytes) 242 0 (n ∷ ns)) (omega (arith, front, is.size)) (sizes c (entries_of c))
    ∙ needed_sizes 0 (is.first ∷ entries_of c)
    ∙ ap (needed cat_size 242 0) (sym is.kept_is)

module _ (nodes : List Node) where
  abbrev lead_needs : Lead → ℕ
  lead_needs l = index_needed 18 nodes (way l.names)

  abbrev node_needs : Node → ℕ
  node_needs x = cond (has_index x.1) (index_needed 18 nodes x.0) 0

  lead_sum : (c : Chain) (es : List CatEntry) → sum_by node_needs (map (node_of c) es) ≡ sum_by lead_needs (filter_map (lead_in c) es)
  lead_sum c [] = refl
  lead_sum c (e ∷ es) = by (lead_in c e) refl (lead_sum c es)
    where
      by : (o : Option Lead) → lead_in c e ≡ o → sum_by node_needs (map (node_of c) es) ≡ sum_by lead_needs (filter_map (lead_in c) es) → sum_by node_needs (node_of c e ∷ map (node_of c) es) ≡ sum_by lead_needs (cons_option o (filter_map (lead_in c) es))
      by None is rest =
          let none : node_needs (node_of c e) ≡ 0 = ap (λ (b : Bool). cond b (index_needed 18 nodes (way (names_to c e))) 0) (lead_there (names_to c e) e.place (node_in c.level e) None is) in
          omega (arith, sum_by-cons node_needs (node_of c e) (map (node_of c) es), none, rest)
      by (Some l) is rest =
          let one : node_needs (node_of c e) ≡ lead_needs l =
          ap (λ (b : Bool). cond b (index_needed 18 nodes (way (names_to c e))) 0) (lead_there (names_to c e) e.place (node_in c.level e) (Some l) is)
          ∙ ap (λ (ns : List Name8). index_needed 18 nodes (way ns)) (sym (lead_names (names_to c e) e.place (node_in c.level e) l is)) in
          omega (arith, sum_by-cons node_needs (node_of c e) (map (node_of c) es), sum_by-cons lead_needs l (filter_map (lead_in c) es), one, rest)

  abbrev below_needs : Chain → ℕ
  below_needs c = sum_by lead_needs (leads_of c)

  node_sum : (cs : List Chain) → sum_by node_needs (flat_map chain_nodes cs) ≡ sum_by below_needs cs
  node_sum [] = refl
  node_sum (c ∷ cs) = omega (arith, sum_by-append node_needs (chain_nodes c) (flat_map chain_nodes cs), lead_sum c (entries_of c), sum_by-cons below_needs c cs, node_sum cs)

  abbrev chain_needs : Chain → ℕ
  chain_needs c = index_needed 18 nodes (way c.names)

  -- what all leads need, first and later ones, all chains to which they lead need
  lead_to_sum : (ls : List Lead) (cs : List Chain) → LeadTo ls cs → sum_by lead_needs ls + sum_by below_needs cs ≡ sum_by chain_needs cs
  lead_to_sum [] [] to = refl
  lead_to_sum [] (c ∷ cs) to = absurd to
  lead_to_sum (l ∷ ls) [] to = absurd to
  lead_to_sum (l ∷ ls) (c ∷ cs) to =
      let same : lead_needs l ≡ chain_needs c = ap (λ (ns : List Name8). index_needed 18 nodes (way ns)) (sym to.0) in
      omega (arith, same, sum_by-cons lead_needs l ls, sum_by-cons below_needs c cs, sum_by-cons chain_needs c cs, sum_by-append lead_needs (leads_of c) ls, lead_to_sum (leads_of c ++ ls) cs to.2)

  six : (level : Level) → is_root level ≡ false → 18 ≡ 12 + control_length level
  six Root is = cc
  six Plain is = refl
  six Generation is = refl

  rest_needs : (ds : List Chain) → AllByRecursion IsTrueChain ds → AllByRecursion (λ (c : Chain). nodes_below nodes (way c.names) ≡ chain_nodes c) ds → AllByRecursion (λ (c : Chain). IsLed nodes c.names c.level) ds → sum_by chain_needs ds ≡ sum_by blocks_needed ds
  rest_needs [] hold below led = refl
  rest_needs (d ∷ ds) hold below led =
      omega (arith, sum_by-cons chain_needs d ds, sum_by-cons blocks_needed d ds, index_is nodes d 18 hold.0 below.0 (six d.level led.0.kind.below), rest_needs ds hold.1 below.1 led.1)

-- the blocks that a catalog needs are those that the kept entries of its chains need
pub needs_are : (cs : List Chain) → AreTree cs → catalog_needed (nodes_in cs) ≡ sum_by blocks_needed cs
unfolding catalog_needed nodes_in
needs_are [] tree = absurd tree.leads
needs_are (c ∷ rest) tree =
    let cs : List Chain = c ∷ rest in
    let nodes : List Node = nodes_in cs in
    let both = are_nodes cs tree in
    let are = both.0 in
    let top : index_needed 22 nodes (way []) ≡ blocks_needed c =
    ap (λ (ns : List Name8). index_needed 22 nodes (way ns)) (sym tree.leads.0) ∙ index_is nodes c 22 tree.chains.0 are.below.0 (ap (λ (v : Level). 12 + control_length v) (sym tree.leads.1)) in
    let led : AllByRecursion (λ (d : Chain). IsLed nodes d.names d.level) rest = led_rest both.1 in
    let others = rest_needs nodes rest tree.chains.1 are.below.1 led in
    omega (arith, top, others, lead_to_sum nodes (leads_of c ++ []) rest tree.leads.2, sum_ways (node_needs nodes) (flat_map chain_nodes cs) are.differ, node_sum nodes cs, sum_by-cons (below_needs nodes) c rest, sum_by-append (lead_needs nodes) (leads_of c) [], sum_by-cons blocks_needed c rest)
  where
    led_rest : IsLedBehind (c ∷ rest) → AllByRecursion (λ (d : Chain). IsLed (nodes_in (c ∷ rest)) d.names d.level) rest
    led_rest after =
        let same : after.rest ≡ rest = cc in
        subst (λ (ds : List Chain). AllByRecursion (λ (d : Chain). IsLed (nodes_in (c ∷ rest)) d.names d.level) ds) same after.led

-- ---- chains that stand in a store

block_count : (c : Chain) (cs : List Chain) → length (all_numbers (c ∷ cs)) ≡ length (lists_of c) + length (all_numbers cs)
block_count c cs = omega (arith, length-map c.blocks (λ (b : ℕ × List CatEntry). b.1), length-map c.blocks (λ (b : ℕ × List CatEntry). b.0), length-append (numbers c) (all_numbers cs))

-- chains whose blocks fit have no fewer than they need
pub enough_blocks : (cs : List Chain) → AllByRecursion (λ (c : Chain). AllFit cat_size 242 0 (lists_of c)) cs → sum_by blocks_needed cs ≤ length (all_numbers cs)
enough_blocks [] fit = omega arith
enough_blocks (c ∷ cs) fit =
    let one : blocks_needed c ≤ length (lists_of c) = blocks_room name_number cat_size 242 0 (lists_of c) 0 fit.0 in
    omega (arith, one, sum_by-cons blocks_needed c cs, block_count c cs, enough_blocks cs fit.1)

-- and those that are cut as they need have no more
pub cut_blocks : (cs : List Chain) → AreCut cs → sum_by blocks_needed cs ≡ length (all_numbers cs)
cut_blocks [] cut = refl
cut_blocks (c ∷ cs) cut =
    let one : blocks_needed c ≡ length (lists_of c) = needed_is_length cat_size 242 0 (lists_of c) (kept name_number (joined (lists_of c))) cut.0 in
    omega (arith, one, sum_by-cons blocks_needed c cs, block_count c cs, cut_blocks cs cut.1)

-- all chains have no more blocks than there are
pub few_blocks : (per : ℕ) (store : Store) (cs : List Chain) → AreChains per store cs → length (all_numbers cs) ≤ length store
few_blocks per store cs are = few (length store) [] (all_numbers cs) are.apart (all_below per store (root_lead ∷ []) cs are.follow)

pub are_tree : (per : ℕ) (store : Store) (cs : List Chain) → AreSound store → AreChains per store cs → AreTree cs
are_tree per store cs sound are = record {
  chains = (all_true per store (root_lead ∷ []) cs sound are.follow).0;
  leads = all_led_to per store (root_lead ∷ []) cs are.follow;
}

pub lawful_chains : (per : ℕ) (store : Store) (cs : List Chain) → AreSound store → length store < 2 ^ 24 → AreChains per store cs → IsLawfulTree (length store) (nodes_in cs)
unfolding nodes_in
lawful_chains per store cs sound low are =
    let tree = are_tree per store cs sound are in
    let nodes = (are_nodes cs tree).0 in
    record {
      few = low;
      room = omega (arith, needs_are cs tree, enough_blocks cs (all_true per store (root_lead ∷ []) cs sound are.follow).1, few_blocks per store cs are);
      order = ways_rise (flat_map chain_nodes cs);
      parents = parents cs tree nodes;
    }
