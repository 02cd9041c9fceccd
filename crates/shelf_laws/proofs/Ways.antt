-- The order of ways in a catalog: nodes in that order, and what stands at a path when another node comes or goes.
use Rattle.std.proofs.Common.{◌≡◌, ℕ, Bool, true, false, cond, not, List, [], ◌∷◌, ◌++◌, filter, map, refl, ◌∙◌, ap}
use Rattle.std.proofs.lemmas.Cmp.{lists_total, nat_list_cmp_total}
use Rattle.std.proofs.lemmas.Map.Lookups.{exact_bytes}
use Rattle.std.specs.Prelude.{Option, Some, None, find, option_map}
use Rattle.std.specs.Cmp.{IsTotalOrder}
use Rattle.std.specs.Cmp.Lexicographic.{slice_cmp}
use Rattle.std.specs.List.{AllByRecursion}
use Rattle.std.specs.Ordering.{is_eq, is_lt, nat_cmp, ordering_reverse, ordering_then}
use Rattle.std.specs.declared.cmp.Ordering.{Ordering}
use Rattle.std.specs.declared.cmp.Ordering.TheVariants.{Less, Equal, Greater}
use Rattle.ebcdic_names.specs.declared.names.Name8.{Name8}
use Rattle.vol_model.specs.declared.catalogs.CatNode.{CatNode}
use Rattle.vol_model.specs.declared.catalogs.CatPath.{CatPath}
use Rattle.vol_model.specs.Trees.{AreAscending, Node, compare_ways, is_at, is_before, node_at, with_node, without_node}
use Rattle.shelf_laws.proofs.Lists.{all_filter, all_joined, all_weaker, find_gone, find_joined, find_kept, or_else, passed}

-- the bytes of names
abbrev pub bytes_of : List Name8 → List (List ℕ)
bytes_of names = map (λ (n : Name8). n.bytes) names

ways_total : IsTotalOrder (slice_cmp (slice_cmp nat_cmp))
ways_total = lists_total nat_list_cmp_total

-- ---- orders

is_less : (o : Ordering) → is_lt o ≡ true → o ≡ Less
is_less Less e = refl
is_less Equal e = cc
is_less Greater e = cc

is_equal : (o : Ordering) → is_eq o ≡ true → o ≡ Equal
is_equal Less e = cc
is_equal Equal e = refl
is_equal Greater e = cc

exact_names : (xs ys : List (List ℕ)) → slice_cmp (slice_cmp nat_cmp) xs ys ≡ Equal → xs ≡ ys
exact_names [] [] e = refl
exact_names [] (y ∷ ys) e = cc
exact_names (x ∷ xs) [] e = cc
exact_names (x ∷ xs) (y ∷ ys) e = by_first (slice_cmp nat_cmp x y) refl (exact_names xs ys) e
  where
    by_first : (o : Ordering) → slice_cmp nat_cmp x y ≡ o → (slice_cmp (slice_cmp nat_cmp) xs ys ≡ Equal → xs ≡ ys) → ordering_then o (slice_cmp (slice_cmp nat_cmp) xs ys) ≡ Equal → x ∷ xs ≡ y ∷ ys
    by_first Less is rest e = cc
    by_first Equal is rest e = ap (λ (z : List ℕ). z ∷ xs) (exact_bytes x y is) ∙ ap (λ (zs : List (List ℕ)). y ∷ zs) (rest e)
    by_first Greater is rest e = cc

-- ways that are equal in the order have the same names
pub same_names : (p q : CatPath) → is_eq (compare_ways p q) ≡ true → bytes_of p.names ≡ bytes_of q.names
same_names p q e = exact_names (bytes_of p.names) (bytes_of q.names) (is_equal (compare_ways p q) e)

pub equal_at : (p q : CatPath) (nodes : List Node) → is_eq (compare_ways p q) ≡ true → node_at nodes p ≡ node_at nodes q
equal_at p q nodes e = ap (λ (ns : List (List ℕ)). option_map (λ (x : Node). x.1) (find (λ (x : Node). is_eq (slice_cmp (slice_cmp nat_cmp) (bytes_of x.0.names) ns)) nodes)) (same_names p q e)

-- ---- nodes in order

before_trans : (p q r : CatPath) → is_before p q ≡ true → is_before q r ≡ true → is_before p r ≡ true
before_trans p q r e f = ap is_lt (ways_total.trans (bytes_of p.names) (bytes_of q.names) (bytes_of r.names) (is_less (compare_ways p q) e) (is_less (compare_ways q r) f))

rise_first : (x : Node) (xs : List Node) (b : Bool) → AllByRecursion (λ (y : Node). is_before x.0 y.0 ≡ true) xs → AreAscending xs → AreAscending (cond b (x ∷ xs) xs)
rise_first x xs true before up = (before, up)
rise_first x xs false before up = up

pub rise_filter : (p : Node → Bool) (xs : List Node) → AreAscending xs → AreAscending (filter p xs)
rise_filter p [] up = tt
rise_filter p (x ∷ xs) up = rise_first x (filter p xs) (p x) (all_filter (λ (y : Node). is_before x.0 y.0 ≡ true) p xs up.0) (rise_filter p xs up.1)

rise_joined : (n : Node) (xs ys : List Node) → AreAscending xs → AreAscending ys → AllByRecursion (λ (x : Node). is_before x.0 n.0 ≡ true) xs → AllByRecursion (λ (y : Node). is_before n.0 y.0 ≡ true) ys → AreAscending (xs ++ n ∷ ys)
rise_joined n [] ys a b below above = (above, b)
rise_joined n (x ∷ xs) ys a b below above = (
  all_joined (λ (y : Node). is_before x.0 y.0 ≡ true) xs (n ∷ ys) a.0 (below.0, all_weaker (λ (y : Node). is_before n.0 y.0 ≡ true) (λ (y : Node). is_before x.0 y.0 ≡ true) (λ (y : Node) l. before_trans x.0 n.0 y.0 below.0 l) ys above),
  rise_joined n xs ys a.1 b below.1 above,
)

pub rise_with : (p : CatPath) (node : CatNode) (nodes : List Node) → AreAscending nodes → AreAscending (with_node p node nodes)
rise_with p node nodes up =
    let lower : Node → Bool = λ (x : Node). is_before x.0 p in
    let higher : Node → Bool = λ (x : Node). is_before p x.0 in
    rise_joined (p, node) (filter lower nodes) (filter higher nodes) (rise_filter lower nodes up) (rise_filter higher nodes up) (passed lower nodes) (passed higher nodes)

pub all_with : (P : Node → Type 0) (p : CatPath) (node : CatNode) (nodes : List Node) → P (p, node) → AllByRecursion P nodes → AllByRecursion P (with_node p node nodes)
all_with P p node nodes here all =
    let lower : Node → Bool = λ (x : Node). is_before x.0 p in
    let higher : Node → Bool = λ (x : Node). is_before p x.0 in
    all_joined P (filter lower nodes) ((p, node) ∷ filter higher nodes) (all_filter P lower nodes all) (here, all_filter P higher nodes all)

-- ---- what stands at other paths

-- how a node at a path compares with another path
at_compare : (p r : CatPath) (x : Node) → is_at r x ≡ true → compare_ways x.0 p ≡ ordering_reverse (compare_ways p r)
at_compare p r x e =
    ways_total.congr (bytes_of x.0.names) (bytes_of r.names) (bytes_of p.names) (is_equal (compare_ways x.0 r) e)
    ∙ ways_total.antisymm (bytes_of r.names) (bytes_of p.names)

at_compare_back : (p r : CatPath) (x : Node) → is_at r x ≡ true → compare_ways p x.0 ≡ compare_ways p r
at_compare_back p r x e = ways_total.antisymm (bytes_of p.names) (bytes_of x.0.names) ∙ ap ordering_reverse (at_compare p r x e) ∙ twice (compare_ways p r)
  where
    twice : (o : Ordering) → ordering_reverse (ordering_reverse o) ≡ o
    twice Less = refl
    twice Equal = refl
    twice Greater = refl

module _ (p r : CatPath) (node : CatNode) (nodes : List Node) where
  abbrev lower : Node → Bool
  lower x = is_before x.0 p

  abbrev higher : Node → Bool
  higher x = is_before p x.0

  found_by : (o : Ordering) → compare_ways p r ≡ o → is_eq o ≡ false → find (is_at r) (with_node p node nodes) ≡ find (is_at r) nodes
  found_by Equal is apart = cc
  found_by Less is apart =
      find_joined (is_at r) (filter lower nodes) ((p, node) ∷ filter higher nodes)
      ∙ ap (λ (o : Option Node). or_else o (find (is_at r) ((p, node) ∷ filter higher nodes))) (find_gone (is_at r) lower (λ x e. ap is_lt (at_compare p r x e ∙ ap ordering_reverse is)) nodes)
      ∙ ap (λ b. cond b (Some (p, node)) (find (is_at r) (filter higher nodes))) (ap is_eq is)
      ∙ find_kept (is_at r) higher (λ x e. ap is_lt (at_compare_back p r x e ∙ is)) nodes
  found_by Greater is apart =
      find_joined (is_at r) (filter lower nodes) ((p, node) ∷ filter higher nodes)
      ∙ ap (λ (o : Option Node). or_else o (find (is_at r) ((p, node) ∷ filter higher nodes))) (find_kept (is_at r) lower (λ x e. ap is_lt (at_compare p r x e ∙ ap ordering_reverse is)) nodes)
      ∙ ap (λ (o : Option Node). or_else (find (is_at r) nodes) o) (ap (λ b. cond b (Some (p, node)) (find (is_at r) (filter higher nodes))) (ap is_eq is) ∙ find_gone (is_at r) higher (λ x e. ap is_lt (at_compare_back p r x e ∙ is)) nodes)
      ∙ or_none (find (is_at r) nodes)
    where
      or_none : (o : Option Node) → or_else o None ≡ o
      or_none None = refl
      or_none (Some x) = refl

  pub node_with : is_eq (compare_ways p r) ≡ false → node_at (with_node p node nodes) r ≡ node_at nodes r
  node_with apart = ap (option_map (λ (x : Node). x.1)) (found_by (compare_ways p r) refl apart)

pub node_without : (p r : CatPath) (nodes : List Node) → is_eq (compare_ways p r) ≡ false → node_at (without_node p nodes) r ≡ node_at nodes r
node_without p r nodes apart = ap (option_map (λ (x : Node). x.1)) (find_kept (is_at r) (λ (x : Node). not (is_at p x)) (λ x e. ap (λ b. not b) (ap is_eq (at_compare p r x e) ∙ turned (compare_ways p r) ∙ apart)) nodes)
  where
    turned : (o : Ordering) → is_eq (ordering_reverse o) ≡ is_eq o
    turned Less = refl
    turned Equal = refl
    turned Greater = refl
