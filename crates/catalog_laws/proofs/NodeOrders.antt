-- Nodes in the order of their ways: one comes, whatever stands before it in the order in which they are read.
use Rattle.std.proofs.Common.{◌≡◌, ◌⊎◌, inl, inr, ℕ, Bool, true, false, cond, not, List, [], ◌∷◌, ◌++◌, filter, map, refl, sym, ap, ap₂, ◌∙◌, append_assoc, append-nil}
use Rattle.std.proofs.lemmas.Bool.{cases_Bool, true≢false}
use Rattle.std.proofs.lemmas.Cmp.{lists_total, nat_list_cmp_total}
use Rattle.std.specs.Cmp.{IsTotalOrder}
use Rattle.std.specs.Cmp.Lexicographic.{slice_cmp}
use Rattle.std.specs.List.{AllByRecursion}
use Rattle.std.specs.Ordering.{is_eq, is_lt, nat_cmp, ordering_reverse}
use Rattle.std.specs.declared.cmp.Ordering.{Ordering}
use Rattle.std.specs.declared.cmp.Ordering.TheVariants.{Less, Equal, Greater}
use Rattle.ebcdic_names.specs.declared.names.Name8.{Name8}
use Rattle.vol_model.specs.declared.catalogs.CatNode.{CatNode}
use Rattle.vol_model.specs.declared.catalogs.CatPath.{CatPath}
use Rattle.vol_model.specs.Trees.{AreAscending, Node, compare_ways, is_at, is_before, with_node, without_node}
use Rattle.catalog_blocks.specs.Trees.{by_ways}

-- ---- filters

by_cond : {X : Type 0} (b : Bool) (x y z : X) → (b ≡ true → x ≡ z) → (b ≡ false → y ≡ z) → cond b x y ≡ z
by_cond true x y z f g = f refl
by_cond false x y z f g = g refl

pub take_one : (f : Node → Bool) (x : Node) (xs : List Node) → f x ≡ true → filter f (x ∷ xs) ≡ x ∷ filter f xs
take_one f x xs is = ap (λ (b : Bool). cond b (x ∷ filter f xs) (filter f xs)) is

pub pass_one : (f : Node → Bool) (x : Node) (xs : List Node) → f x ≡ false → filter f (x ∷ xs) ≡ filter f xs
pass_one f x xs is = ap (λ (b : Bool). cond b (x ∷ filter f xs) (filter f xs)) is

pub filter_append : (f : Node → Bool) (xs ys : List Node) → filter f (xs ++ ys) ≡ filter f xs ++ filter f ys
filter_append f [] ys = refl
filter_append f (x ∷ xs) ys = by (f x) (filter_append f xs ys)
  where
    by : (b : Bool) → filter f (xs ++ ys) ≡ filter f xs ++ filter f ys → cond b (x ∷ filter f (xs ++ ys)) (filter f (xs ++ ys)) ≡ cond b (x ∷ filter f xs) (filter f xs) ++ filter f ys
    by true e = ap (λ (zs : List Node). x ∷ zs) e
    by false e = e

-- of those that pass a weaker test
stronger : (f g : Node → Bool) → ((x : Node) → f x ≡ true → g x ≡ true) → (xs : List Node) → filter f (filter g xs) ≡ filter f xs
stronger f g less [] = refl
stronger f g less (x ∷ xs) = by (stronger f g less xs) (cases_Bool (g x)) (cases_Bool (f x))
  where
    by : filter f (filter g xs) ≡ filter f xs → (g x ≡ true) ⊎ (g x ≡ false) → (f x ≡ true) ⊎ (f x ≡ false) → filter f (filter g (x ∷ xs)) ≡ filter f (x ∷ xs)
    by e (inl is) q = ap (filter f) (take_one g x xs is) ∙ ap (λ (zs : List Node). cond (f x) (x ∷ zs) zs) e
    by e (inr other) (inl is) = absurd (true≢false (sym (less x is) ∙ other))
    by e (inr other) (inr none) = ap (filter f) (pass_one g x xs other) ∙ e ∙ sym (pass_one f x xs none)

-- of those that pass a test that excludes it
apart : (f g : Node → Bool) → ((x : Node) → f x ≡ true → g x ≡ true → ⊥) → (xs : List Node) → filter f (filter g xs) ≡ []
apart f g never [] = refl
apart f g never (x ∷ xs) = by (apart f g never xs) (cases_Bool (g x)) (cases_Bool (f x))
  where
    by : filter f (filter g xs) ≡ [] → (g x ≡ true) ⊎ (g x ≡ false) → (f x ≡ true) ⊎ (f x ≡ false) → filter f (filter g (x ∷ xs)) ≡ []
    by e (inl is) (inl both) = absurd (never x both is)
    by e (inl is) (inr none) = ap (filter f) (take_one g x xs is) ∙ pass_one f x (filter g xs) none ∙ e
    by e (inr other) q = ap (filter f) (pass_one g x xs other) ∙ e

pub either : (f g : Node → Bool) (xs : List Node) → filter f (filter g xs) ≡ filter g (filter f xs)
either f g [] = refl
either f g (x ∷ xs) = by (either f g xs) (cases_Bool (g x)) (cases_Bool (f x))
  where
    by : filter f (filter g xs) ≡ filter g (filter f xs) → (g x ≡ true) ⊎ (g x ≡ false) → (f x ≡ true) ⊎ (f x ≡ false) → filter f (filter g (x ∷ xs)) ≡ filter g (filter f (x ∷ xs))
    by e (inl a) (inl b) = ap (filter f) (take_one g x xs a) ∙ take_one f x (filter g xs) b ∙ ap (λ (zs : List Node). x ∷ zs) e ∙ sym (take_one g x (filter f xs) a) ∙ sym (ap (filter g) (take_one f x xs b))
    by e (inl a) (inr b) = ap (filter f) (take_one g x xs a) ∙ pass_one f x (filter g xs) b ∙ e ∙ sym (ap (filter g) (pass_one f x xs b))
    by e (inr a) (inl b) = ap (filter f) (pass_one g x xs a) ∙ e ∙ sym (pass_one g x (filter f xs) a) ∙ sym (ap (filter g) (take_one f x xs b))
    by e (inr a) (inr b) = ap (filter f) (pass_one g x xs a) ∙ e ∙ sym (ap (filter g) (pass_one f x xs b))

-- ---- ways

abbrev bytes_of : CatPath → List (List ℕ)
bytes_of p = map (λ (n : Name8). n.bytes) p.names

pub total : IsTotalOrder (slice_cmp (slice_cmp nat_cmp))
total = lists_total nat_list_cmp_total

less : (o : Ordering) → is_lt o ≡ true → o ≡ Less
less Less e = refl
less Equal e = cc
less Greater e = cc

before_trans : (p q r : CatPath) → is_before p q ≡ true → is_before q r ≡ true → is_before p r ≡ true
before_trans p q r e f = ap is_lt (total.trans (bytes_of p) (bytes_of q) (bytes_of r) (less (compare_ways p q) e) (less (compare_ways q r) f))

not_both : (p q : CatPath) → is_before p q ≡ true → is_before q p ≡ true → ⊥
not_both p q e f =
    let turned : compare_ways q p ≡ ordering_reverse (compare_ways p q) = total.antisymm (bytes_of q) (bytes_of p) in
    true≢false (sym f ∙ ap is_lt (turned ∙ ap ordering_reverse (less (compare_ways p q) e)))

pub never : (b : Bool) → (b ≡ true → ⊥) → b ≡ false
never true none = absurd (none refl)
never false none = refl

-- ---- two nodes

-- a node that stands before another comes first or last, with the same result
swap_less : (p q : Node) (ns : List Node) → is_before p.0 q.0 ≡ true → with_node p.0 p.1 (with_node q.0 q.1 ns) ≡ with_node q.0 q.1 (with_node p.0 p.1 ns)
swap_less p q ns low =
    let lp : Node → Bool = λ (x : Node). is_before x.0 p.0 in
    let gp : Node → Bool = λ (x : Node). is_before p.0 x.0 in
    let lq : Node → Bool = λ (x : Node). is_before x.0 q.0 in
    let gq : Node → Bool = λ (x : Node). is_before q.0 x.0 in
    let high : lp q ≡ false = never (lp q) (λ e. not_both p.0 q.0 low e) in
    let high_back : gq p ≡ false = never (gq p) (λ e. not_both p.0 q.0 low e) in
    let front : filter lp (filter lq ns ++ q ∷ filter gq ns) ≡ filter lp ns =
    filter_append lp (filter lq ns) (q ∷ filter gq ns)
    ∙ ap₂ (λ (xs ys : List Node). xs ++ ys) (stronger lp lq (λ x e. before_trans x.0 p.0 q.0 e low) ns)
    (pass_one lp q (filter gq ns) high ∙ apart lp gq (λ x e f. not_both p.0 x.0 (before_trans p.0 q.0 x.0 low f) e) ns)
    ∙ append-nil (filter lp ns) in
    let rest : filter gp (filter lq ns ++ q ∷ filter gq ns) ≡ filter gp (filter lq ns) ++ q ∷ filter gq ns =
    filter_append gp (filter lq ns) (q ∷ filter gq ns)
    ∙ ap (λ (ys : List Node). filter gp (filter lq ns) ++ ys) (take_one gp q (filter gq ns) low ∙ ap (λ (zs : List Node). q ∷ zs) (either gp gq ns ∙ stronger gq gp (λ x e. before_trans p.0 q.0 x.0 low e) ns)) in
    let before : filter lq (filter lp ns ++ p ∷ filter gp ns) ≡ filter lp ns ++ p ∷ filter lq (filter gp ns) =
    filter_append lq (filter lp ns) (p ∷ filter gp ns)
    ∙ ap₂ (λ (xs ys : List Node). xs ++ ys) (either lq lp ns ∙ stronger lp lq (λ x e. before_trans x.0 p.0 q.0 e low) ns) (take_one lq p (filter gp ns) low) in
    let after : filter gq (filter lp ns ++ p ∷ filter gp ns) ≡ filter gq ns =
    filter_append gq (filter lp ns) (p ∷ filter gp ns)
    ∙ ap₂ (λ (xs ys : List Node). xs ++ ys) (either gq lp ns ∙ apart lp gq (λ x e f. not_both p.0 x.0 (before_trans p.0 q.0 x.0 low f) e) ns)
    (pass_one gq p (filter gp ns) high_back ∙ stronger gq gp (λ x e. before_trans p.0 q.0 x.0 low e) ns) in
    ap₂ (λ (xs ys : List Node). xs ++ p ∷ ys) front rest
    ∙ ap (λ (ms : List Node). filter lp ns ++ p ∷ (ms ++ q ∷ filter gq ns)) (either gp lq ns)
    ∙ sym (append_assoc (filter lp ns) (p ∷ filter lq (filter gp ns)) (q ∷ filter gq ns))
    ∙ sym (ap₂ (λ (xs ys : List Node). xs ++ q ∷ ys) before after)

-- two nodes at different ways come in either order
pub swap : (p q : Node) (ns : List Node) → is_eq (compare_ways p.0 q.0) ≡ false → with_node p.0 p.1 (with_node q.0 q.1 ns) ≡ with_node q.0 q.1 (with_node p.0 p.1 ns)
swap p q ns other = by (compare_ways p.0 q.0) refl
  where
    by : (o : Ordering) → compare_ways p.0 q.0 ≡ o → with_node p.0 p.1 (with_node q.0 q.1 ns) ≡ with_node q.0 q.1 (with_node p.0 p.1 ns)
    by Less e = swap_less p q ns (ap is_lt e)
    by Equal e = absurd (true≢false (sym (ap is_eq e) ∙ other))
    by Greater e = sym (swap_less q p ns (ap is_lt (total.antisymm (bytes_of q.0) (bytes_of p.0) ∙ ap ordering_reverse e)))

-- one node more among those that are put in order
pub one_comes : (ps : List Node) (x : Node) (qs : List Node) → AllByRecursion (λ (p : Node). is_eq (compare_ways p.0 x.0) ≡ false) ps → by_ways (ps ++ x ∷ qs) ≡ with_node x.0 x.1 (by_ways (ps ++ qs))
one_comes [] x qs other = refl
one_comes (p ∷ ps) x qs other = ap (with_node p.0 p.1) (one_comes ps x qs other.1) ∙ swap p x (by_ways (ps ++ qs)) other.0

-- a node gives way to another at its path
pub one_changes : (p : CatPath) (old new : _) (ns : List Node) → with_node p new (with_node p old ns) ≡ with_node p new ns
one_changes p old new ns =
    let lp : Node → Bool = λ (x : Node). is_before x.0 p in
    let gp : Node → Bool = λ (x : Node). is_before p x.0 in
    let self : is_before p p ≡ false = never (is_before p p) (λ e. not_both p p e e) in
    let front : filter lp (filter lp ns ++ (p, old) ∷ filter gp ns) ≡ filter lp ns =
    filter_append lp (filter lp ns) ((p, old) ∷ filter gp ns)
    ∙ ap₂ (λ (xs ys : List Node). xs ++ ys) (stronger lp lp (λ x e. e) ns) (pass_one lp (p, old) (filter gp ns) self ∙ apart lp gp (λ x e f. not_both x.0 p e f) ns)
    ∙ append-nil (filter lp ns) in
    let rest : filter gp (filter lp ns ++ (p, old) ∷ filter gp ns) ≡ filter gp ns =
    filter_append gp (filter lp ns) ((p, old) ∷ filter gp ns)
    ∙ ap₂ (λ (xs ys : List Node). xs ++ ys) (apart gp lp (λ x e f. not_both p x.0 e f) ns) (pass_one gp (p, old) (filter gp ns) self ∙ stronger gp gp (λ x e. e) ns) in
    ap₂ (λ (xs ys : List Node). xs ++ (p, new) ∷ ys) front rest

-- ---- one node less

none_lower : (p : CatPath) (x : Node) (xs : List Node) → is_before p x.0 ≡ true → AllByRecursion (λ (y : Node). is_before x.0 y.0 ≡ true) xs → filter (λ (y : Node). is_before y.0 p) xs ≡ []
none_lower p x [] low all = refl
none_lower p x (y ∷ ys) low all = pass_one (λ (z : Node). is_before z.0 p) y ys (never (is_before y.0 p) (λ e. not_both p y.0 (before_trans p x.0 y.0 low all.0) e)) ∙ none_lower p x ys low all.1

all_higher : (p : CatPath) (x : Node) (xs : List Node) → is_before p x.0 ≡ true → AllByRecursion (λ (y : Node). is_before x.0 y.0 ≡ true) xs → filter (λ (y : Node). is_before p y.0) xs ≡ xs
all_higher p x [] low all = refl
all_higher p x (y ∷ ys) low all = take_one (λ (z : Node). is_before p z.0) y ys (before_trans p x.0 y.0 low all.0) ∙ ap (λ (zs : List Node). y ∷ zs) (all_higher p x ys low all.1)

-- nodes in order are those before a path and those after it, where none is at it
pub both_parts : (p : CatPath) (xs : List Node) → AreAscending xs → AllByRecursion (λ (x : Node). is_eq (compare_ways x.0 p) ≡ false) xs → filter (λ (x : Node). is_before x.0 p) xs ++ filter (λ (x : Node). is_before p x.0) xs ≡ xs
both_parts p [] up other = refl
both_parts p (x ∷ xs) up other = by (both_parts p xs up.1 other.1) (compare_ways x.0 p) refl
  where
    lp : Node → Bool
    lp y = is_before y.0 p

    gp : Node → Bool
    gp y = is_before p y.0

    by : filter lp xs ++ filter gp xs ≡ xs → (o : Ordering) → compare_ways x.0 p ≡ o → filter lp (x ∷ xs) ++ filter gp (x ∷ xs) ≡ x ∷ xs
    by rest Less e = ap₂ (λ (ys zs : List Node). ys ++ zs) (take_one lp x xs (ap is_lt e)) (pass_one gp x xs (never (gp x) (λ f. not_both x.0 p (ap is_lt e) f))) ∙ ap (λ (zs : List Node). x ∷ zs) rest
    by rest Equal e = absurd (true≢false (sym (ap is_eq e) ∙ other.0))
    by rest Greater e =
        let low : is_before p x.0 ≡ true = ap is_lt (total.antisymm (bytes_of p) (bytes_of x.0) ∙ ap ordering_reverse e) in
        ap₂ (λ (ys zs : List Node). ys ++ zs) (pass_one lp x xs (ap is_lt e) ∙ none_lower p x xs low up.0) (take_one gp x xs low ∙ ap (λ (zs : List Node). x ∷ zs) (all_higher p x xs low up.0))

-- of nodes at other ways, all stand before it or after it
pub one_goes : (p : CatPath) (node : CatNode) (ns : List Node) → AreAscending ns → AllByRecursion (λ (x : Node). is_eq (compare_ways x.0 p) ≡ false) ns → without_node p (with_node p node ns) ≡ ns
one_goes p node ns up other =
    let lp : Node → Bool = λ (x : Node). is_before x.0 p in
    let gp : Node → Bool = λ (x : Node). is_before p x.0 in
    let out : Node → Bool = λ (x : Node). not (is_at p x) in
    filter_append out (filter lp ns) ((p, node) ∷ filter gp ns)
    ∙ ap₂ (λ (xs ys : List Node). xs ++ ys) (all_pass out lp (λ x e. ap not (ap is_eq (less (compare_ways x.0 p) e))) ns)
    (pass_one out (p, node) (filter gp ns) (ap not (is_self p)) ∙ all_pass out gp (λ x e. ap not (ap is_eq (turned x.0 e))) ns)
    ∙ both_parts p ns up other
  where
    is_self : (q : CatPath) → is_eq (compare_ways q q) ≡ true
    is_self q = ap is_eq (same_order (compare_ways q q) (total.antisymm (bytes_of q) (bytes_of q)))
      where
        same_order : (o : Ordering) → o ≡ ordering_reverse o → o ≡ Equal
        same_order Less e = cc
        same_order Equal e = refl
        same_order Greater e = cc

    turned : (q : CatPath) → is_before p q ≡ true → compare_ways q p ≡ Greater
    turned q e = total.antisymm (bytes_of q) (bytes_of p) ∙ ap ordering_reverse (less (compare_ways p q) e)

    all_pass : (f g : Node → Bool) → ((x : Node) → g x ≡ true → f x ≡ true) → (xs : List Node) → filter f (filter g xs) ≡ filter g xs
    all_pass f g weak xs = either f g xs ∙ stronger g f weak xs
