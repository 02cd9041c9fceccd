-- The nodes of a catalog's chains: their ways differ, and below the way to a chain stand its own entries, in their order.
use Rattle.std.proofs.Common.{◌≡◌, ◌⊎◌, inl, inr, ◌+◌, ◌<◌, ℕ, zero, suc, Bool, true, false, cond, not, List, [], ◌∷◌, ◌++◌, filter, get_or, length, map, refl, sym, ap, ap₂, subst, ◌∙◌, arith, length-append, append-nil}
use Rattle.std.specs.Prelude.{◌&&◌}
use Rattle.std.specs.List.{AllByRecursion, flat_map}
use Rattle.std.specs.List.Sorted.{IsSortedBy, ties}
use Rattle.std.specs.Cmp.{IsStrictWeakOrder}
use Rattle.std.specs.Cmp.Lexicographic.{slice_cmp}
use Rattle.std.specs.Ordering.{is_eq, is_lt, nat_cmp}
use Rattle.std.specs.Str.{bytes_eq}
use Rattle.std.proofs.lemmas.Bool.{and_parts, cases_Bool, true≢false}
use Rattle.std.proofs.lemmas.Cmp.{nat_list_cmp_total}
use Rattle.std.proofs.lemmas.List.MinMax.{ranks_by}
use Rattle.std.proofs.lemmas.Slice.Eq.{bytes_eq-Decides}
use Rattle.chain_spec.specs.Kept.{RisesFrom}
use Rattle.ebcdic_names.specs.declared.names.Name8.{Name8}
use Rattle.vol_model.specs.Trees.{Node, compare_ways, in_stored_order, is_below, last_bytes, stored_generation, stored_name, way}
use Rattle.vol_model.proofs.Ranks.{ranked-unique}
use Rattle.shelf_laws.proofs.Lists.{all_joined, all_weaker}
use Rattle.shelf_laws.proofs.Ways.{bytes_of, same_names}
use Rattle.catalog_blocks.specs.declared.blocks.CatEntry.{CatEntry}
use Rattle.catalog_blocks.specs.Blocks.{HasName, name_number}
use Rattle.catalog_blocks.specs.declared.chains.Chain.{Chain}
use Rattle.catalog_blocks.specs.Trees.{by_ways, chain_nodes, entries_of, is_group, name_in, names_to, node_in}
use Rattle.catalog_blocks.proofs.NumberOrder.{number_before}
use Rattle.catalog_laws.specs.Nodes.{IsStored, IsTrueChain, WaysDiffer}
use Rattle.catalog_laws.proofs.NodeOrders.{filter_append, never, pass_one, take_one}
use Rattle.catalog_laws.proofs.NodeSets.{differ_joined, filter_ways}
use Rattle.catalog_laws.proofs.TrueChains.{stored_back}
use Rattle.catalog_laws.proofs.WaysApart.{ChainsDiffer, IsOther, NamesDiffer, chain_names}

-- ---- ways

-- a way with one name more
pub one_name : (ps qs : List Name8) (n m : Name8) → ps ++ n ∷ [] ≡ qs ++ m ∷ [] → (ps ≡ qs) × (n ≡ m)
one_name [] [] n m same = (refl, cc)
one_name [] (q ∷ qs) n m same = absurd (omega (arith, ap length same, length-append qs (m ∷ [])))
one_name (p ∷ ps) [] n m same = absurd (omega (arith, ap length same, length-append ps (n ∷ [])))
one_name (p ∷ ps) (q ∷ qs) n m same =
    let first : p ≡ q = cc in
    let rest = one_name ps qs n m cc in
    (ap₂ (λ (x : Name8) (xs : List Name8). x ∷ xs) first rest.0, rest.1)

pub names_by : (ps qs : List Name8) → bytes_of ps ≡ bytes_of qs → ps ≡ qs
names_by [] [] same = refl
names_by [] (q ∷ qs) same = cc
names_by (p ∷ ps) [] same = cc
names_by (p ∷ ps) (q ∷ qs) same =
    let first : p.bytes ≡ q.bytes = cc in
    ap₂ (λ (x : List ℕ) (xs : List Name8). record { bytes = x } ∷ xs) first (names_by ps qs cc)

-- ways with other names differ
pub way_apart : (ps qs : List Name8) → (ps ≡ qs → ⊥) → is_eq (compare_ways (way ps) (way qs)) ≡ false
way_apart ps qs other = never (is_eq (compare_ways (way ps) (way qs))) (λ e. other (names_by ps qs (same_names (way ps) (way qs) e)))

-- the node of an entry
abbrev pub node_of : Chain → CatEntry → Node
node_of c e = (way (names_to c e), node_in c.level e)

pub all_nodes : (P : Node → Type 0) (c : Chain) (es : List CatEntry) → AllByRecursion (λ (e : CatEntry). P (node_of c e)) es → AllByRecursion P (map (node_of c) es)
all_nodes P c [] all = tt
all_nodes P c (e ∷ es) all = (all.0, all_nodes P c es all.1)

pub every : (P : CatEntry → Type 0) → ((e : CatEntry) → P e) → (es : List CatEntry) → AllByRecursion P es
every P each [] = tt
every P each (e ∷ es) = (each e, every P each es)

-- those of one chain
own_differ : (c : Chain) (es : List CatEntry) → NamesDiffer c.level es → WaysDiffer (map (node_of c) es)
own_differ c [] differ = tt
own_differ c (e ∷ es) differ = (
  all_nodes (λ (y : Node). is_eq (compare_ways (way (names_to c e)) y.0) ≡ false) c es
      (all_weaker (IsOther c.level e) (λ (f : CatEntry). is_eq (compare_ways (way (names_to c e)) (way (names_to c f))) ≡ false)
      (λ f other. way_apart (names_to c e) (names_to c f) (λ same. other (one_name c.names c.names (name_in c.level e.name) (name_in c.level f.name) same).1)) es differ.0),
  own_differ c es differ.1,
)

-- those of two
both_differ : (c d : Chain) → (c.names ≡ d.names → ⊥) → AllByRecursion (λ (x : Node). AllByRecursion (λ (y : Node). is_eq (compare_ways x.0 y.0) ≡ false) (chain_nodes d)) (chain_nodes c)
both_differ c d other =
    all_nodes (λ (x : Node). AllByRecursion (λ (y : Node). is_eq (compare_ways x.0 y.0) ≡ false) (chain_nodes d)) c (entries_of c)
    (every _ (λ e. all_nodes (λ (y : Node). is_eq (compare_ways (way (names_to c e)) y.0) ≡ false) d (entries_of d)
    (every _ (λ f. way_apart (names_to c e) (names_to d f) (λ same. other (one_name c.names d.names (name_in c.level e.name) (name_in d.level f.name) same).0)) (entries_of d))) (entries_of c))

all_both : (P Q : Node → Type 0) (R : Node → Type 0) → ((x : Node) → P x → Q x → R x) → (xs : List Node) → AllByRecursion P xs → AllByRecursion Q xs → AllByRecursion R xs
all_both P Q R h [] a b = tt
all_both P Q R h (x ∷ xs) a b = (h x a.0 b.0, all_both P Q R h xs a.1 b.1)

all_differ : (c : Chain) (cs : List Chain) → AllByRecursion (λ (d : Chain). c.names ≡ d.names → ⊥) cs
    → AllByRecursion (λ (x : Node). AllByRecursion (λ (y : Node). is_eq (compare_ways x.0 y.0) ≡ false) (flat_map chain_nodes cs)) (chain_nodes c)
all_differ c [] others = all_nodes (λ (x : Node). Unit {0}) c (entries_of c) (every (λ e. Unit {0}) (λ e. tt) (entries_of c))
all_differ c (d ∷ ds) others =
    all_both (λ (x : Node). AllByRecursion (λ (y : Node). is_eq (compare_ways x.0 y.0) ≡ false) (chain_nodes d)) (λ (x : Node). AllByRecursion (λ (y : Node). is_eq (compare_ways x.0 y.0) ≡ false) (flat_map chain_nodes ds))
    (λ (x : Node). AllByRecursion (λ (y : Node). is_eq (compare_ways x.0 y.0) ≡ false) (chain_nodes d ++ flat_map chain_nodes ds))
    (λ x a b. all_joined (λ (y : Node). is_eq (compare_ways x.0 y.0) ≡ false) (chain_nodes d) (flat_map chain_nodes ds) a b)
    (chain_nodes c) (both_differ c d others.0) (all_differ c ds others.1)

-- the ways of all nodes differ
pub nodes_differ : (cs : List Chain) → ChainsDiffer cs → AllByRecursion IsTrueChain cs → WaysDiffer (flat_map chain_nodes cs)
nodes_differ [] differ all = tt
nodes_differ (c ∷ cs) differ all = differ_joined (chain_nodes c) (flat_map chain_nodes cs) (own_differ c (entries_of c) (chain_names c all.0)) (nodes_differ cs differ.1 all.1) (all_differ c cs differ.0)

-- ---- below a way

eq_self : (xs : List ℕ) → bytes_eq xs xs ≡ true
eq_self xs = (bytes_eq-Decides xs xs).1 refl

below_self : (ps : List Name8) (n : Name8) → is_below ps (ps ++ n ∷ []) ≡ true
below_self [] n = refl
below_self (p ∷ ps) n = ap (λ (b : Bool). b && is_below ps (ps ++ n ∷ [])) (eq_self p.bytes) ∙ below_self ps n

pub below_is : (ps qs : List Name8) (n : Name8) → is_below ps (qs ++ n ∷ []) ≡ true → ps ≡ qs
below_is [] [] n is = refl
below_is [] (q ∷ []) n is = cc
below_is [] (q ∷ r ∷ qs) n is = cc
below_is (p ∷ []) [] n is = let parts = and_parts (bytes_eq p.bytes n.bytes) false is in absurd (true≢false (sym parts.1))
below_is (p ∷ m ∷ ps) [] n is = let parts = and_parts (bytes_eq p.bytes n.bytes) false is in absurd (true≢false (sym parts.1))
below_is (p ∷ ps) (q ∷ qs) n is =
    let parts = and_parts (bytes_eq p.bytes q.bytes) (is_below ps (qs ++ n ∷ [])) is in
    ap₂ (λ (x : List ℕ) (xs : List Name8). record { bytes = x } ∷ xs) ((bytes_eq-Decides p.bytes q.bytes).0 parts.0) (below_is ps qs n parts.1)

abbrev pub stands_below : List Name8 → Node → Bool
stands_below ps x = is_below ps x.0.names

filter_all : (p : Node → Bool) (xs : List Node) → AllByRecursion (λ (x : Node). p x ≡ true) xs → filter p xs ≡ xs
filter_all p [] all = refl
filter_all p (x ∷ xs) all = take_one p x xs all.0 ∙ ap (λ (ys : List Node). x ∷ ys) (filter_all p xs all.1)

pub filter_none : (p : Node → Bool) (xs : List Node) → AllByRecursion (λ (x : Node). p x ≡ false) xs → filter p xs ≡ []
filter_none p [] all = refl
filter_none p (x ∷ xs) all = pass_one p x xs all.0 ∙ filter_none p xs all.1

-- all nodes of a chain stand below the way to it
own_below : (c : Chain) → filter (stands_below c.names) (chain_nodes c) ≡ chain_nodes c
own_below c = filter_all (stands_below c.names) (chain_nodes c) (all_nodes (λ (x : Node). stands_below c.names x ≡ true) c (entries_of c) (every _ (λ e. below_self c.names (name_in c.level e.name)) (entries_of c)))

-- and none of another
other_below : (c d : Chain) → (c.names ≡ d.names → ⊥) → filter (stands_below c.names) (chain_nodes d) ≡ []
other_below c d other =
    filter_none (stands_below c.names) (chain_nodes d) (all_nodes (λ (x : Node). stands_below c.names x ≡ false) d (entries_of d)
    (every _ (λ e. never (is_below c.names (names_to d e)) (λ is. other (below_is c.names d.names (name_in d.level e.name) is))) (entries_of d)))

others_below : (c : Chain) (ds : List Chain) → AllByRecursion (λ (d : Chain). c.names ≡ d.names → ⊥) ds → filter (stands_below c.names) (flat_map chain_nodes ds) ≡ []
others_below c [] others = refl
others_below c (d ∷ ds) others =
    filter_append (stands_below c.names) (chain_nodes d) (flat_map chain_nodes ds)
    ∙ ap₂ (λ (xs ys : List Node). xs ++ ys) (other_below c d others.0) (others_below c ds others.1)

-- below the way to each chain stand its own nodes
pub all_below : (cs : List Chain) → ChainsDiffer cs → AllByRecursion (λ (c : Chain). filter (stands_below c.names) (flat_map chain_nodes cs) ≡ chain_nodes c) cs
all_below [] differ = tt
all_below (c ∷ cs) differ = (
  filter_append (stands_below c.names) (chain_nodes c) (flat_map chain_nodes cs)
      ∙ ap₂ (λ (xs ys : List Node). xs ++ ys) (own_below c) (others_below c cs differ.0) ∙ append-nil (chain_nodes c),
  after cs differ.0 (all_below cs differ.1),
)
  where
    after : (ds : List Chain) → AllByRecursion (λ (d : Chain). c.names ≡ d.names → ⊥) ds → AllByRecursion (λ (d : Chain). filter (stands_below d.names) (flat_map chain_nodes cs) ≡ chain_nodes d) ds
        → AllByRecursion (λ (d : Chain). filter (stands_below d.names) (flat_map chain_nodes (c ∷ cs)) ≡ chain_nodes d) ds
    after [] others below = tt
    after (d ∷ ds) others below = (
      filter_append (stands_below d.names) (chain_nodes c) (flat_map chain_nodes cs)
          ∙ ap (λ (xs : List Node). xs ++ filter (stands_below d.names) (flat_map chain_nodes cs)) (other_below d c (λ same. others.0 (sym same)))
          ∙ below.0,
      after ds others.1 below.1,
    )

-- ---- in the order in which they are stored

module _ {X : Type 0} (lt : X → X → Bool) (o : IsStrictWeakOrder lt) where
  -- each stands before all after it
  abbrev pub Rising : List X → Type 0
  Rising [] = Unit {0}
  Rising (x ∷ xs) = AllByRecursion (λ (y : X). lt x y ≡ true) xs × Rising xs

  at_place : (xs : List X) (k : ℕ) (d : X) → Rising xs → suc k < length xs → lt (get_or xs (suc k) d) (get_or xs k d) ≡ false
  at_place [] k d up low = absurd (omega (arith, low))
  at_place (x ∷ []) k d up low = absurd (omega (arith, low))
  at_place (x ∷ y ∷ xs) zero d up low = o.one_way x y up.0.0
  at_place (x ∷ y ∷ xs) (suc k) d up low = at_place (y ∷ xs) k d up.1 (omega (arith, low))

  pub rising_sorted : (xs : List X) → Rising xs → IsSortedBy lt xs
  rising_sorted xs up k d low short =
      let next : k + 1 ≡ suc k = omega arith in
      ap (λ (j : ℕ). lt (get_or xs j d) (get_or xs k d)) next ∙ at_place xs k d up (omega (arith, short))

  tied : (x y : X) → ties lt x y ≡ true → (lt x y ≡ false) × (lt y x ≡ false)
  tied x y is = let parts = and_parts (not (lt x y)) (not (lt y x)) is in (no (lt x y) parts.0, no (lt y x) parts.1)
    where
      no : (b : Bool) → not b ≡ true → b ≡ false
      no true e = cc
      no false e = refl

  none_tied : (x y : X) (ys : List X) → ties lt x y ≡ true → AllByRecursion (λ (z : X). lt y z ≡ true) ys → filter (ties lt x) ys ≡ []
  none_tied x y [] is all = refl
  none_tied x y (z ∷ zs) is all =
      ap (λ (b : Bool). cond b (z ∷ filter (ties lt x) zs) (filter (ties lt x) zs)) (never (ties lt x z) (λ e. true≢false (sym all.0 ∙ o.chain y x z (tied x y is).1 (tied x z e).0)))
      ∙ none_tied x y zs is all.1

  -- at most one of them ties with any
  pub one_tied : (x : X) (ys : List X) → Rising ys → (filter (ties lt x) ys ≡ []) ⊎ ((y : X) × (filter (ties lt x) ys ≡ y ∷ []))
  one_tied x [] up = inl refl
  one_tied x (y ∷ ys) up = by (one_tied x ys up.1) (cases_Bool (ties lt x y))
    where
      Found : List X → Type 0
      Found zs = (zs ≡ []) ⊎ ((z : X) × (zs ≡ z ∷ []))

      by : Found (filter (ties lt x) ys) → (ties lt x y ≡ true) ⊎ (ties lt x y ≡ false) → Found (filter (ties lt x) (y ∷ ys))
      by later (inl is) = inr (y, ap (λ (b : Bool). cond b (y ∷ filter (ties lt x) ys) (filter (ties lt x) ys)) is ∙ ap (λ (zs : List X). y ∷ zs) (none_tied x y ys is up.0))
      by later (inr other) = subst Found (sym (ap (λ (b : Bool). cond b (y ∷ filter (ties lt x) ys) (filter (ties lt x) ys)) other)) later

-- one node stands before another by the bytes under which they are stored
abbrev pub stored_before : Bool → Node → Node → Bool
stored_before in_group x y = is_lt (slice_cmp nat_cmp (stored_name in_group x) (stored_name in_group y))

stored_order : (in_group : Bool) → IsStrictWeakOrder (stored_before in_group)
stored_order in_group = ranks_by nat_list_cmp_total (stored_name in_group)

pub last_is : (ps : List Name8) (n : Name8) → last_bytes (ps ++ n ∷ []) ≡ n.bytes
last_is [] n = refl
last_is (p ∷ []) n = refl
last_is (p ∷ q ∷ ps) n = last_is (q ∷ ps) n

-- the bytes under which a node of a chain is stored are those of its entry
stored_is : (c : Chain) (e : CatEntry) → HasName e → (is_group c.level ≡ true → IsStored e) → stored_name (is_group c.level) (node_of c e) ≡ e.name.bytes
stored_is c e has stored = by (is_group c.level) refl
  where
    by : (b : Bool) → is_group c.level ≡ b → stored_name b (node_of c e) ≡ e.name.bytes
    by true is = ap (λ (xs : List ℕ). stored_generation xs) (last_is c.names (name_in c.level e.name)) ∙ sym (ap (λ (b : Bool). cond b (stored_generation (name_in c.level e.name).bytes) (name_in c.level e.name).bytes) is) ∙ stored_back c.level e has stored
    by false is = last_is c.names (name_in c.level e.name) ∙ sym (ap (λ (b : Bool). cond b (stored_generation (name_in c.level e.name).bytes) (name_in c.level e.name).bytes) is) ∙ stored_back c.level e has stored

module _ (c : Chain) where
  abbrev before : Node → Node → Bool
  before = stored_before (is_group c.level)

  higher : (e : CatEntry) (t : ℕ) (es : List CatEntry) → name_number e < t → RisesFrom name_number t es → HasName e → AllByRecursion HasName es → (is_group c.level ≡ true → IsStored e) → (is_group c.level ≡ true → AllByRecursion IsStored es)
      → AllByRecursion (λ (f : CatEntry). before (node_of c e) (node_of c f) ≡ true) es
  higher e t [] low rises has named stored all = tt
  higher e t (f ∷ es) low rises has named stored all = (
    ap₂ (λ (xs ys : List ℕ). is_lt (slice_cmp nat_cmp xs ys)) (stored_is c e has stored) (stored_is c f named.0 (λ is. (all is).0)) ∙ number_before e f has named.0 (omega (arith, low, rises.0)),
    higher e (suc (name_number f)) es (omega (arith, low, rises.0)) rises.1 has named.1 stored (λ is. (all is).1),
  )

  rising : (t : ℕ) (es : List CatEntry) → RisesFrom name_number t es → AllByRecursion HasName es → (is_group c.level ≡ true → AllByRecursion IsStored es) → Rising before (stored_order (is_group c.level)) (map (node_of c) es)
  rising t [] rises named all = tt
  rising t (e ∷ es) rises named all = (
    all_nodes (λ (y : Node). before (node_of c e) y ≡ true) c es (higher e (suc (name_number e)) es (omega arith) rises.1 named.0 named.1 (λ is. (all is).0) (λ is. (all is).1)),
    rising (suc (name_number e)) es rises.1 named.1 (λ is. (all is).1),
  )

  -- the nodes of a chain, in whichever order, are stored in that of its entries
  pub in_order : IsTrueChain c → in_stored_order (is_group c.level) (by_ways (chain_nodes c)) ≡ chain_nodes c
  in_order is =
      let up = rising 2 (entries_of c) is.rises is.named is.fits in
      let differ = own_differ c (entries_of c) (chain_names c is) in
      sym (ranked-unique before (stored_order (is_group c.level)) (by_ways (chain_nodes c)) (chain_nodes c) (rising_sorted before (stored_order (is_group c.level)) (chain_nodes c) up)
      (λ x. one (filter (ties before x) (chain_nodes c)) (one_tied before (stored_order (is_group c.level)) x (chain_nodes c) up) ∙ sym (filter_ways (ties before x) (chain_nodes c) differ)))
    where
      one : (xs : List Node) → (xs ≡ []) ⊎ ((y : Node) × (xs ≡ y ∷ [])) → xs ≡ by_ways xs
      one xs (inl none) = none ∙ sym (ap by_ways none)
      one xs (inr some) = some.1 ∙ sym (ap by_ways some.1)
