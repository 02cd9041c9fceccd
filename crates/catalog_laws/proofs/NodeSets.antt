-- Nodes at ways that differ, put in the order of these: what stands at each way, those that pass a test, and sums.
use Rattle.std.proofs.Common.{◌≡◌, ◌⊎◌, inl, inr, ℕ, Bool, true, false, cond, List, [], ◌∷◌, ◌++◌, filter, map, refl, sym, ap, ap₂, ◌∙◌, arith}
use Rattle.std.proofs.lemmas.Bool.{cases_Bool}
use Rattle.std.proofs.lemmas.List.Sums.{sum_by-append, sum_by-cons}
use Rattle.std.specs.Prelude.{Option, Some, None, find, option_map}
use Rattle.std.specs.List.{AllByRecursion, sum_by}
use Rattle.std.specs.Ordering.{is_eq, is_lt, ordering_reverse}
use Rattle.std.specs.declared.cmp.Ordering.{Ordering}
use Rattle.std.specs.declared.cmp.Ordering.TheVariants.{Less, Equal, Greater}
use Rattle.ebcdic_names.specs.declared.names.Name8.{Name8}
use Rattle.vol_model.specs.declared.catalogs.CatNode.{CatNode}
use Rattle.vol_model.specs.declared.catalogs.CatPath.{CatPath}
use Rattle.vol_model.specs.Trees.{AreAscending, Node, compare_ways, is_at, is_before, node_at, with_node}
use Rattle.shelf_laws.proofs.Lists.{all_filter, all_joined, all_weaker, find_gone, find_joined, or_else}
use Rattle.shelf_laws.proofs.Ways.{all_with, node_with, rise_filter, rise_with}
use Rattle.catalog_blocks.specs.Trees.{by_ways}
use Rattle.catalog_laws.specs.Nodes.{WaysDiffer}
use Rattle.catalog_laws.proofs.NodeOrders.{both_parts, either, filter_append, pass_one, take_one, total}

-- they rise
pub ways_rise : (xs : List Node) → AreAscending (by_ways xs)
ways_rise [] = tt
ways_rise (x ∷ xs) = rise_with x.0 x.1 (by_ways xs) (ways_rise xs)

-- and have what each of them has
pub all_by_ways : (P : Node → Type 0) (xs : List Node) → AllByRecursion P xs → AllByRecursion P (by_ways xs)
all_by_ways P [] all = tt
all_by_ways P (x ∷ xs) all = all_with P x.0 x.1 (by_ways xs) all.0 (all_by_ways P xs all.1)

abbrev bytes_of : CatPath → List (List ℕ)
bytes_of p = map (λ (n : Name8). n.bytes) p.names

pub differ_back : (p q : CatPath) → is_eq (compare_ways p q) ≡ false → is_eq (compare_ways q p) ≡ false
differ_back p q other = ap is_eq (total.antisymm (bytes_of q) (bytes_of p)) ∙ turned (compare_ways p q) ∙ other
  where
    turned : (o : Ordering) → is_eq (ordering_reverse o) ≡ is_eq o
    turned Less = refl
    turned Equal = refl
    turned Greater = refl

others : (x : Node) (xs : List Node) → AllByRecursion (λ (y : Node). is_eq (compare_ways x.0 y.0) ≡ false) xs → AllByRecursion (λ (y : Node). is_eq (compare_ways y.0 x.0) ≡ false) (by_ways xs)
others x xs all = all_by_ways (λ (y : Node). is_eq (compare_ways y.0 x.0) ≡ false) xs (all_weaker (λ (y : Node). is_eq (compare_ways x.0 y.0) ≡ false) (λ (y : Node). is_eq (compare_ways y.0 x.0) ≡ false) (λ y e. differ_back x.0 y.0 e) xs all)

-- ---- what stands at a way

node_here : (p : CatPath) (node : CatNode) (nodes : List Node) → node_at (with_node p node nodes) p ≡ Some node
node_here p node nodes =
    ap (option_map (λ (x : Node). x.1))
    (find_joined (is_at p) (filter lower nodes) ((p, node) ∷ filter higher nodes)
    ∙ ap (λ (o : Option Node). or_else o (find (is_at p) ((p, node) ∷ filter higher nodes))) (find_gone (is_at p) lower (λ x e. not_less (compare_ways x.0 p) e) nodes)
    ∙ ap (λ (b : Bool). cond b (Some (p, node)) (find (is_at p) (filter higher nodes))) (same_order (compare_ways p p) (total.antisymm (bytes_of p) (bytes_of p))))
  where
    lower : Node → Bool
    lower x = is_before x.0 p

    higher : Node → Bool
    higher x = is_before p x.0

    not_less : (o : Ordering) → is_eq o ≡ true → is_lt o ≡ false
    not_less Less e = cc
    not_less Equal e = refl
    not_less Greater e = refl

    same_order : (o : Ordering) → o ≡ ordering_reverse o → is_eq o ≡ true
    same_order Less e = cc
    same_order Equal e = refl
    same_order Greater e = cc

-- at the way to each of them stands that
pub at_ways : (xs : List Node) → WaysDiffer xs → AllByRecursion (λ (x : Node). node_at (by_ways xs) x.0 ≡ Some x.1) xs
at_ways [] differ = tt
at_ways (x ∷ xs) differ = (node_here x.0 x.1 (by_ways xs), after xs differ.0 (at_ways xs differ.1))
  where
    after : (ys : List Node) → AllByRecursion (λ (y : Node). is_eq (compare_ways x.0 y.0) ≡ false) ys → AllByRecursion (λ (y : Node). node_at (by_ways xs) y.0 ≡ Some y.1) ys
        → AllByRecursion (λ (y : Node). node_at (with_node x.0 x.1 (by_ways xs)) y.0 ≡ Some y.1) ys
    after [] other there = tt
    after (y ∷ ys) other there = (node_with x.0 y.0 x.1 (by_ways xs) other.0 ∙ there.0, after ys other.1 there.1)

-- nothing stands where none of them does
pub at_none : (p : CatPath) (xs : List Node) → AllByRecursion (λ (x : Node). is_at p x ≡ false) xs → node_at xs p ≡ None
at_none p xs none = ap (option_map (λ (x : Node). x.1)) (nowhere xs none)
  where
    nowhere : (ys : List Node) → AllByRecursion (λ (x : Node). is_at p x ≡ false) ys → find (is_at p) ys ≡ None
    nowhere [] all = refl
    nowhere (y ∷ ys) all = ap (λ (b : Bool). cond b (Some y) (find (is_at p) ys)) all.0 ∙ nowhere ys all.1

-- ---- those that pass a test

-- they are those of these nodes, in order
pub filter_ways : (p : Node → Bool) (xs : List Node) → WaysDiffer xs → filter p (by_ways xs) ≡ by_ways (filter p xs)
filter_ways p [] differ = refl
filter_ways p (x ∷ xs) differ = by (filter_ways p xs differ.1) (cases_Bool (p x))
  where
    ns : List Node
    ns = by_ways xs

    lower : Node → Bool
    lower y = is_before y.0 x.0

    higher : Node → Bool
    higher y = is_before x.0 y.0

    by : filter p ns ≡ by_ways (filter p xs) → (p x ≡ true) ⊎ (p x ≡ false) → filter p (filter lower ns ++ (x.0, x.1) ∷ filter higher ns) ≡ by_ways (filter p (x ∷ xs))
    by later (inl is) =
        filter_append p (filter lower ns) (x ∷ filter higher ns)
        ∙ ap₂ (λ (ys zs : List Node). ys ++ zs) (either p lower ns) (take_one p x (filter higher ns) is ∙ ap (λ (zs : List Node). x ∷ zs) (either p higher ns))
        ∙ ap (with_node x.0 x.1) later
        ∙ sym (ap by_ways (take_one p x xs is))
    by later (inr none) =
        filter_append p (filter lower ns) (x ∷ filter higher ns)
        ∙ ap₂ (λ (ys zs : List Node). ys ++ zs) (either p lower ns) (pass_one p x (filter higher ns) none ∙ either p higher ns)
        ∙ both_parts x.0 (filter p ns) (rise_filter p ns (ways_rise xs)) (all_filter (λ (y : Node). is_eq (compare_ways y.0 x.0) ≡ false) p ns (others x xs differ.0))
        ∙ later
        ∙ sym (ap by_ways (pass_one p x xs none))

-- ---- sums

pub sum_ways : (f : Node → ℕ) (xs : List Node) → WaysDiffer xs → sum_by f (by_ways xs) ≡ sum_by f xs
sum_ways f [] differ = refl
sum_ways f (x ∷ xs) differ =
    let ns : List Node = by_ways xs in
    let lower : List Node = filter (λ (y : Node). is_before y.0 x.0) ns in
    let higher : List Node = filter (λ (y : Node). is_before x.0 y.0) ns in
    let parts : sum_by f (lower ++ higher) ≡ sum_by f ns = ap (sum_by f) (both_parts x.0 ns (ways_rise xs) (others x xs differ.0)) in
    omega (arith, sum_by-append f lower ((x.0, x.1) ∷ higher), sum_by-cons f (x.0, x.1) higher, sum_by-append f lower higher, parts, sum_by-cons f x xs, sum_ways f xs differ.1)

-- ---- parts of nodes whose ways differ

pub differ_joined : (xs ys : List Node) → WaysDiffer xs → WaysDiffer ys → AllByRecursion (λ (x : Node). AllByRecursion (λ (y : Node). is_eq (compare_ways x.0 y.0) ≡ false) ys) xs → WaysDiffer (xs ++ ys)
differ_joined [] ys first second apart = second
differ_joined (x ∷ xs) ys first second apart = (all_joined (λ (y : Node). is_eq (compare_ways x.0 y.0) ≡ false) xs ys first.0 apart.0, differ_joined xs ys first.1 second apart.1)
