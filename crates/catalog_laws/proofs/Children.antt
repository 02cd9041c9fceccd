-- The names below a way in a tree.
use Rattle.std.proofs.Common.{◌≡◌, ℕ, zero, suc, false, List, [], ◌∷◌, ◌++◌, map, refl, sym, ap, ◌∙◌}
use Rattle.std.specs.Prelude.{Some, option_and_then, option_map, slice_get}
use Rattle.std.specs.List.{AllByRecursion, flat_map}
use Rattle.ebcdic_names.specs.declared.names.Name8.{Name8}
use Rattle.vol_model.specs.Trees.{Node, child_at, in_stored_order, last_name, node_at, nodes_below, way}
use Rattle.vol_model.specs.Trees.{is_group as is_group_node}
use Rattle.shelf_laws.proofs.Lists.{all_weaker}
use Rattle.catalog_blocks.specs.declared.blocks.CatEntry.{CatEntry}
use Rattle.catalog_blocks.specs.declared.chains.Chain.{Chain}
use Rattle.catalog_blocks.specs.Trees.{by_ways, chain_nodes, entries_of, name_in, names_to, node_in, nodes_in}
use Rattle.catalog_laws.specs.Nodes.{AreTree}
use Rattle.catalog_laws.proofs.NodeOrders.{never}
use Rattle.catalog_laws.proofs.NodePlaces.{all_in, nodes_there}
use Rattle.catalog_laws.proofs.NodeSets.{all_by_ways}
use Rattle.catalog_laws.proofs.NodesBelow.{below_is, every, filter_none, node_of, stands_below}

last_one : (ps : List Name8) (n : Name8) → last_name (ps ++ n ∷ []) ≡ Some n
last_one [] n = refl
last_one (p ∷ []) n = refl
last_one (p ∷ q ∷ ps) n = last_one (q ∷ ps) n

-- those of a chain's nodes are those of its entries
names_of : (c : Chain) (es : List CatEntry) (k : ℕ) → option_and_then (λ (x : Node). last_name x.0.names) (slice_get (map (node_of c) es) k) ≡ option_map (λ (e : CatEntry). name_in c.level e.name) (slice_get es k)
names_of c [] k = refl
names_of c (e ∷ es) zero = last_one c.names (name_in c.level e.name)
names_of c (e ∷ es) (suc k) = names_of c es k

pub child_there : (before : List Chain) (c : Chain) (after : List Chain) (k : ℕ) → AreTree (before ++ c ∷ after)
    → child_at (nodes_in (before ++ c ∷ after)) (way c.names) k ≡ option_map (λ (e : CatEntry). name_in c.level e.name) (slice_get (entries_of c) k)
unfolding child_at
child_there before c after k tree =
    ap (λ (xs : List Node). option_and_then (λ (x : Node). last_name x.0.names) (slice_get xs k)) (nodes_there before c after tree) ∙ names_of c (entries_of c) k

-- there are none below a way to which no chain belongs
pub none_below : (cs : List Chain) (ps : List Name8) → AllByRecursion (λ (c : Chain). c.names ≡ ps → ⊥) cs → nodes_below (nodes_in cs) (way ps) ≡ []
unfolding nodes_below nodes_in
none_below cs ps others =
    let P : Node → Type 0 = λ (x : Node). stands_below ps x ≡ false in
    let Apart : Chain → Type 0 = λ (c : Chain). AllByRecursion (λ (e : CatEntry). P (way (names_to c e), node_in c.level e)) (entries_of c) in
    let each = all_weaker (λ (c : Chain). c.names ≡ ps → ⊥) Apart (λ c other. every (λ (e : CatEntry). P (way (names_to c e), node_in c.level e)) (λ e. never (stands_below ps (node_of c e)) (λ is. other (sym (below_is ps c.names (name_in c.level e.name) is)))) (entries_of c)) cs others in
    let nodes : List Node = by_ways (flat_map chain_nodes cs) in
    ap (in_stored_order (is_group_node (node_at nodes (way ps)))) (filter_none (stands_below ps) nodes (all_by_ways P (flat_map chain_nodes cs) (all_in P cs each)))
