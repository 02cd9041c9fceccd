-- The parents of nodes, where another node comes or goes.
use Rattle.std.proofs.Common.{◌≡◌, ◌+◌, ◌≤◌, ◌==◌, ◌&&◌, ◌||◌, ℕ, Bool, true, false, not, nat_lt, List, [], ◌∷◌, filter, length, refl, sym, ◌∙◌, ap, ne_eqb, arith}
use Rattle.std.proofs.lemmas.Bool.Decides.{nat_tests}
use Rattle.std.proofs.lemmas.Cmp.{nat_list_cmp_total}
use Rattle.std.proofs.lemmas.List.{length-map}
use Rattle.std.proofs.lemmas.List.Sorted.{length_permutation, ranks_by}
use Rattle.std.proofs.lemmas.Slice.Eq.{bytes_eq-Decides}
use Rattle.std.specs.Prelude.{Option, Some, None}
use Rattle.std.specs.Cmp.Lexicographic.{slice_cmp}
use Rattle.std.specs.List.{AllByRecursion}
use Rattle.std.specs.Option.{option_map_or}
use Rattle.std.specs.Ordering.{is_eq, is_lt, nat_cmp}
use Rattle.ebcdic_names.specs.declared.names.Name8.{Name8}
use Rattle.vol_model.specs.declared.catalogs.CatNode.{CatNode}
use Rattle.vol_model.specs.declared.catalogs.CatNode.TheVariants.{Index, Group, Set, Alias, Other}
use Rattle.vol_model.specs.declared.catalogs.CatPath.{CatPath}
use Rattle.vol_model.specs.Trees.{AreAscending, Node, compare_ways, fits_group, front, has_index, has_parent, in_stored_order, is_at, is_below, is_generation, is_group, is_index, last_bytes, node_at, nodes_below, parent_at, stored_name, way, with_node, without_node}
use Rattle.vol_model.proofs.Ranks.{ranked-permutation}
use Rattle.shelf_laws.proofs.Lists.{all_both, all_filter, all_weaker, none_passed}
use Rattle.shelf_laws.proofs.Ways.{all_with, bytes_of, equal_at, node_with, node_without, rise_filter, rise_with, same_names}

-- the parent of each node is there and of its kind
abbrev pub AreUnderParents : List Node → Type 0
AreUnderParents nodes = AllByRecursion (λ (x : Node). has_parent nodes x.0.names x.1 ≡ true) nodes

-- the parent of names isn't at this path
abbrev pub IsElsewhere : CatPath → List Name8 → Type 0
IsElsewhere p names = 2 ≤ length names → is_eq (compare_ways p (way (front names))) ≡ false

-- the node at a path, if there is one, has no index
abbrev pub HasNoIndex : List Node → CatPath → Type 0
HasNoIndex nodes p = option_map_or has_index (node_at nodes p) false ≡ false

-- ---- what makes a parent

kind_kept : (one other : List Node) (names : List Name8) (node : CatNode) → parent_at one names ≡ parent_at other names → has_parent one names node ≡ has_parent other names node
kind_kept one other names Index e = ap (λ (o : Option CatNode). length names == 1 || option_map_or is_index o false) e
kind_kept one other names (Group limit empty delete) e = ap (λ (o : Option CatNode). length names == 1 || option_map_or is_index o false) e
kind_kept one other names (Alias of) e = refl
kind_kept one other names (Set vols) e = ap (λ (o : Option CatNode). (length names == 1 || option_map_or has_index o false) && (not (is_group o) || is_generation (last_bytes names))) e
kind_kept one other names (Other place payload) e = ap (λ (o : Option CatNode). (length names == 1 || option_map_or has_index o false) && (not (is_group o) || is_generation (last_bytes names))) e

parent_kept : (one other : List Node) (p : CatPath) → ((r : CatPath) → is_eq (compare_ways p r) ≡ false → node_at one r ≡ node_at other r) → (names : List Name8) → IsElsewhere p names → parent_at one names ≡ parent_at other names
parent_kept one other p same [] far = refl
parent_kept one other p same (n ∷ []) far = refl
parent_kept one other p same (n ∷ m ∷ ms) far = same (way (n ∷ front (m ∷ ms))) (far (omega arith))

-- the node that isn't at the root stands below one that has an index
index_above : (nodes : List Node) (names : List Name8) (node : CatNode) → 2 ≤ length names → has_parent nodes names node ≡ true → option_map_or has_index (parent_at nodes names) false ≡ true
index_above nodes names node deep e = by_kind node e
  where
    no_root : (length names == 1) ≡ false
    no_root = ne_eqb (length names) 1 (omega arith)

    index_has : (o : Option CatNode) (b : Bool) → b ≡ false → (b || option_map_or is_index o false) ≡ true → option_map_or has_index o false ≡ true
    index_has o true f e = cc
    index_has None false f e = cc
    index_has (Some Index) false f e = refl
    index_has (Some (Group limit empty delete)) false f e = cc
    index_has (Some (Set vols)) false f e = cc
    index_has (Some (Alias of)) false f e = cc
    index_has (Some (Other place payload)) false f e = cc

    first : (b c d : Bool) → b ≡ false → ((b || c) && d) ≡ true → c ≡ true
    first true c d f e = cc
    first false true d f e = refl
    first false false d f e = cc

    by_kind : (node : CatNode) → has_parent nodes names node ≡ true → option_map_or has_index (parent_at nodes names) false ≡ true
    by_kind Index e = index_has (parent_at nodes names) (length names == 1) no_root e
    by_kind (Group limit empty delete) e = index_has (parent_at nodes names) (length names == 1) no_root e
    by_kind (Alias of) e = let wrong = sym no_root ∙ e in cc
    by_kind (Set vols) e = first (length names == 1) (option_map_or has_index (parent_at nodes names) false) (fits_group nodes names) no_root e
    by_kind (Other place payload) e = first (length names == 1) (option_map_or has_index (parent_at nodes names) false) (fits_group nodes names) no_root e

parent_is : (nodes : List Node) (names : List Name8) → 2 ≤ length names → parent_at nodes names ≡ node_at nodes (way (front names))
parent_is nodes [] deep = absurd (omega arith)
parent_is nodes (n ∷ []) deep = absurd (omega arith)
parent_is nodes (n ∷ m ∷ ms) deep = refl

-- ---- no node below a path

-- no node stands below one without an index
below_none : (nodes : List Node) (p : CatPath) → HasNoIndex nodes p → AreUnderParents nodes → AllByRecursion (λ (x : Node). IsElsewhere p x.0.names) nodes
below_none nodes p none under = all_weaker (λ (x : Node). has_parent nodes x.0.names x.1 ≡ true) (λ (x : Node). IsElsewhere p x.0.names) (λ (x : Node) e deep. by_test x e deep (is_eq (compare_ways p (way (front x.0.names)))) refl) nodes under
  where
    by_test : (x : Node) → has_parent nodes x.0.names x.1 ≡ true → 2 ≤ length x.0.names → (b : Bool) → is_eq (compare_ways p (way (front x.0.names))) ≡ b → b ≡ false
    by_test x e deep true is =
        let above = index_above nodes x.0.names x.1 deep e in
        let there : option_map_or has_index (parent_at nodes x.0.names) false ≡ option_map_or has_index (node_at nodes p) false = ap (λ (o : Option CatNode). option_map_or has_index o false) (parent_is nodes x.0.names deep ∙ sym (equal_at p (way (front x.0.names)) nodes is)) in
        let wrong = sym above ∙ there ∙ none in cc
    by_test x e deep false is = refl

abbrev head_of : List (List ℕ) → List ℕ
head_of [] = []
head_of (x ∷ xs) = x

abbrev tail_of : List (List ℕ) → List (List ℕ)
tail_of [] = []
tail_of (x ∷ xs) = xs

below_front : (ps names : List Name8) → 1 ≤ length names → bytes_of ps ≡ bytes_of (front names) → is_below ps names ≡ true
below_front [] [] some e = absurd (omega arith)
below_front [] (m ∷ []) some e = refl
below_front [] (m ∷ k ∷ ks) some e = cc
below_front (n ∷ ns) [] some e = absurd (omega arith)
below_front (n ∷ ns) (m ∷ []) some e = cc
below_front (n ∷ ns) (m ∷ k ∷ ks) some e =
    ap (λ b. b && is_below ns (k ∷ ks)) ((bytes_eq-Decides n.bytes m.bytes).1 (ap head_of e))
    ∙ below_front ns (k ∷ ks) (omega arith) (ap tail_of e)

stored_length : (in_group : Bool) (xs : List Node) → length (in_stored_order in_group xs) ≡ length xs
stored_length in_group xs =
    let lt : Node → Node → Bool = λ (x y : Node). is_lt (slice_cmp nat_cmp (stored_name in_group x) (stored_name in_group y)) in
    length_permutation xs (in_stored_order in_group xs) (ranked-permutation lt (ranks_by nat_list_cmp_total (stored_name in_group)) xs)

-- nor below one below which its index holds none
below_empty : (nodes : List Node) (p : CatPath) → nat_lt 0 (length (nodes_below nodes p)) ≡ false → AllByRecursion (λ (x : Node). IsElsewhere p x.0.names) nodes
unfolding nodes_below
below_empty nodes p none =
    let below : Node → Bool = λ (x : Node). is_below p.names x.0.names in
    let long = stored_length (is_group (node_at nodes p)) (filter below nodes) in
    let zero = no_length (length (nodes_below nodes p)) none in
    all_weaker (λ (x : Node). below x ≡ false) (λ (x : Node). IsElsewhere p x.0.names) (λ (x : Node) e deep. by_test x e deep (is_eq (compare_ways p (way (front x.0.names)))) refl) nodes (none_passed below nodes (omega (arith, long, zero)))
  where
    no_length : (n : ℕ) → nat_lt 0 n ≡ false → n ≡ 0
    no_length n e = grind (arith, nat_tests)

    by_test : (x : Node) → is_below p.names x.0.names ≡ false → 2 ≤ length x.0.names → (b : Bool) → is_eq (compare_ways p (way (front x.0.names))) ≡ b → b ≡ false
    by_test x e deep true is = let there = below_front p.names x.0.names (omega arith) (same_names p (way (front x.0.names)) is) in let wrong = sym e ∙ there in cc
    by_test x e deep false is = refl

front_length : (names : List Name8) → 1 ≤ length names → length (front names) + 1 ≡ length names
front_length [] some = absurd (omega arith)
front_length (n ∷ []) some = omega arith
front_length (n ∷ m ∷ ms) some = let rest = front_length (m ∷ ms) (omega arith) in omega (arith, rest)

-- no node stands below itself
front_apart : (names : List Name8) → IsElsewhere (way names) names
front_apart names deep = by_test (is_eq (compare_ways (way names) (way (front names)))) refl
  where
    by_test : (b : Bool) → is_eq (compare_ways (way names) (way (front names))) ≡ b → b ≡ false
    by_test true is =
        let same = ap length (same_names (way names) (way (front names)) is) in
        let one = length-map names (λ (n : Name8). n.bytes) in
        let two = length-map (front names) (λ (n : Name8). n.bytes) in
        let less = front_length names (omega arith) in
        absurd (omega (arith, same, one, two, less))
    by_test false is = refl

-- ---- where a node comes or goes

module _ (p : CatPath) (nodes : List Node) (up : AreAscending nodes) (under : AreUnderParents nodes) where
  pub added : (node : CatNode) → has_parent nodes p.names node ≡ true → HasNoIndex nodes p → AreAscending (with_node p node nodes) × AreUnderParents (with_node p node nodes)
  added node here none =
      let after = with_node p node nodes in
      let same : (r : CatPath) → is_eq (compare_ways p r) ≡ false → node_at after r ≡ node_at nodes r = λ r far. node_with p r node nodes far in
      let kept : (x : Node) → IsElsewhere p x.0.names → has_parent nodes x.0.names x.1 ≡ true → has_parent after x.0.names x.1 ≡ true = λ (x : Node) far e. kind_kept after nodes x.0.names x.1 (parent_kept after nodes p same x.0.names far) ∙ e in (
        rise_with p node nodes up,
        all_with (λ (x : Node). has_parent after x.0.names x.1 ≡ true) p node nodes (kept (p, node) (front_apart p.names) here)
            (all_both (λ (x : Node). IsElsewhere p x.0.names) (λ (x : Node). has_parent nodes x.0.names x.1 ≡ true) (λ (x : Node). has_parent after x.0.names x.1 ≡ true) kept nodes (below_none nodes p none under) under),
      )

  dropped : AllByRecursion (λ (x : Node). IsElsewhere p x.0.names) nodes → AreAscending (without_node p nodes) × AreUnderParents (without_node p nodes)
  dropped far =
      let after = without_node p nodes in
      let left : Node → Bool = λ (x : Node). not (is_at p x) in
      let same : (r : CatPath) → is_eq (compare_ways p r) ≡ false → node_at after r ≡ node_at nodes r = λ r apart. node_without p r nodes apart in
      let kept : (x : Node) → IsElsewhere p x.0.names → has_parent nodes x.0.names x.1 ≡ true → has_parent after x.0.names x.1 ≡ true = λ (x : Node) far e. kind_kept after nodes x.0.names x.1 (parent_kept after nodes p same x.0.names far) ∙ e in (
        rise_filter left nodes up,
        all_filter (λ (x : Node). has_parent after x.0.names x.1 ≡ true) left nodes
            (all_both (λ (x : Node). IsElsewhere p x.0.names) (λ (x : Node). has_parent nodes x.0.names x.1 ≡ true) (λ (x : Node). has_parent after x.0.names x.1 ≡ true) kept nodes far under),
      )

  pub dropped_leaf : HasNoIndex nodes p → AreAscending (without_node p nodes) × AreUnderParents (without_node p nodes)
  dropped_leaf none = dropped (below_none nodes p none under)

  pub dropped_empty : nat_lt 0 (length (nodes_below nodes p)) ≡ false → AreAscending (without_node p nodes) × AreUnderParents (without_node p nodes)
  dropped_empty none = dropped (below_empty nodes p none)
