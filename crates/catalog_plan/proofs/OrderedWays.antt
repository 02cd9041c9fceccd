-- The ways to the chains of a tree rise.
use Rattle.std.proofs.Common.{◌≡◌, ◌⊎◌, inl, inr, ◌<◌, ℕ, suc, Bool, true, false, cond, List, [], ◌∷◌, ◌++◌, map, Option, Some, None, refl, sym, ap, ap₂, subst, ◌∙◌, arith, append_assoc, append-nil}
use Rattle.std.specs.List.{AllByRecursion, cons_option, filter_map}
use Rattle.std.specs.Cmp.Lexicographic.{slice_cmp}
use Rattle.std.specs.Ordering.{is_lt, nat_cmp, ordering_then}
use Rattle.std.specs.declared.cmp.Ordering.{Ordering}
use Rattle.std.specs.declared.cmp.Ordering.TheVariants.{Less, Equal, Greater}
use Rattle.std.proofs.lemmas.Bool.{cases_Bool}
use Rattle.std.proofs.lemmas.Cmp.{nat_list_cmp_total, tied_itself}
use Rattle.chain_spec.specs.Kept.{RisesFrom}
use Rattle.ebcdic_names.specs.declared.names.Name8.{Name8}
use Rattle.vol_model.specs.declared.contents.Place.{Place}
use Rattle.vol_model.specs.declared.catalogs.CatNode.{CatNode}
use Rattle.vol_model.specs.declared.catalogs.CatNode.TheVariants.{Index, Group, Set, Alias, Other}
use Rattle.vol_model.specs.Trees.{is_before, way}
use Rattle.shelf_laws.proofs.Lists.{all_joined, all_weaker}
use Rattle.catalog_blocks.specs.declared.blocks.CatEntry.{CatEntry}
use Rattle.catalog_blocks.specs.Blocks.{HasName, name_number}
use Rattle.catalog_blocks.proofs.NumberOrder.{number_before}
use Rattle.catalog_blocks.specs.declared.chains.Chain.{Chain}
use Rattle.catalog_blocks.specs.declared.chains.Lead.{Lead}
use Rattle.catalog_blocks.specs.declared.chains.Level.{Level}
use Rattle.catalog_blocks.specs.declared.chains.Level.TheVariants.{Root, Plain, Generation}
use Rattle.catalog_blocks.specs.Trees.{are_volumes, entries_of, is_group, lead_by, lead_in, name_in, names_to, node_in, root_lead, vols_in}
use Rattle.catalog_laws.specs.Forests.{leads_of}
use Rattle.catalog_laws.specs.Nodes.{AreTree, IsTrueChain, LeadTo}
use Rattle.catalog_laws.proofs.WaysApart.{all_leads}
use Rattle.catalog_plan.specs.Orders.{AreRising}

-- ---- ways

abbrev Order : Name8 → Name8 → Ordering
Order n m = slice_cmp nat_cmp n.bytes m.bytes

pub less : (o : Ordering) → is_lt o ≡ true → o ≡ Less
less Less e = refl
less Equal e = cc
less Greater e = cc

-- after one name that is the same the others decide
same_first : (n : Name8) (p q : List Name8) → is_before (way (n ∷ p)) (way (n ∷ q)) ≡ is_before (way p) (way q)
same_first n p q = ap (λ (o : Ordering). is_lt (ordering_then o (slice_cmp (slice_cmp nat_cmp) (map (λ (m : Name8). m.bytes) p) (map (λ (m : Name8). m.bytes) q)))) (tied_itself nat_list_cmp_total n.bytes)

same_front : (p q r : List Name8) → is_before (way (p ++ q)) (way (p ++ r)) ≡ is_before (way q) (way r)
same_front [] q r = refl
same_front (n ∷ p) q r = same_first n (p ++ q) (p ++ r) ∙ same_front p q r

other_first : (n m : Name8) (p q : List Name8) → is_lt (Order n m) ≡ true → is_before (way (n ∷ p)) (way (m ∷ q)) ≡ true
other_first n m p q low = ap (λ (o : Ordering). is_lt (ordering_then o (slice_cmp (slice_cmp nat_cmp) (map (λ (k : Name8). k.bytes) p) (map (λ (k : Name8). k.bytes) q)))) (less (Order n m) low)

-- a way stands before all that lead on from another
abbrev IsAhead : List Name8 → List Name8 → Type 0
IsAhead p q = (s : List Name8) → is_before (way p) (way (q ++ s)) ≡ true

-- and so do all that lead on from it
abbrev AreAhead : List Name8 → List Name8 → Type 0
AreAhead p q = (r : List Name8) → IsAhead (p ++ r) q

ahead_below : (p q more : List Name8) → IsAhead p q → IsAhead p (q ++ more)
ahead_below p q more ahead s = subst (λ (ns : List Name8). is_before (way p) (way ns) ≡ true) (sym (append_assoc q more s)) (ahead (more ++ s))

ahead_on : (p q more : List Name8) → AreAhead p q → AreAhead (p ++ more) q
ahead_on p q more ahead r s = subst (λ (ns : List Name8). is_before (way ns) (way (q ++ s)) ≡ true) (sym (append_assoc p more r)) (ahead (more ++ r) s)

ahead_now : (p q : List Name8) → AreAhead p q → IsAhead p q
ahead_now p q ahead s = subst (λ (ns : List Name8). is_before (way ns) (way (q ++ s)) ≡ true) (append-nil p) (ahead [] s)

-- a way stands before those that lead on from it
ahead_of_own : (p : List Name8) (n : Name8) → IsAhead p (p ++ n ∷ [])
ahead_of_own p n s =
    ap₂ (λ (x y : List Name8). is_before (way x) (way y)) (sym (append-nil p)) (append_assoc p (n ∷ []) s)
    ∙ same_front p [] (n ∷ s)

siblings : (p : List Name8) (n m : Name8) → is_lt (Order n m) ≡ true → AreAhead (p ++ n ∷ []) (p ++ m ∷ [])
siblings p n m low r s =
    ap₂ (λ (x y : List Name8). is_before (way x) (way y)) (append_assoc p (n ∷ []) r) (append_assoc p (m ∷ []) s)
    ∙ same_front p (n ∷ r) (m ∷ s)
    ∙ other_first n m r s low

-- ---- leads

-- of two leads all below the one stand before all below the other
abbrev AreInOrder : List Lead → Type 0
AreInOrder [] = Unit {0}
AreInOrder (l ∷ ls) = AllByRecursion (λ (m : Lead). AreAhead l.names m.names) ls × AreInOrder ls

joined_order : (ks ls : List Lead) → AreInOrder ks → AreInOrder ls → AllByRecursion (λ (k : Lead). AllByRecursion (λ (m : Lead). AreAhead k.names m.names) ls) ks → AreInOrder (ks ++ ls)
joined_order [] ls first second ahead = second
joined_order (k ∷ ks) ls first second ahead = (all_joined (λ (m : Lead). AreAhead k.names m.names) ks ls first.0 ahead.0, joined_order ks ls first.1 second ahead.1)

-- no entry of a group leads to a chain
none_led : (names : List Name8) (e : CatEntry) → lead_by names e.place (node_in Generation e) ≡ None
unfolding node_in
none_led names e = by (are_volumes e.payload) refl
  where
    by : (b : Bool) → are_volumes e.payload ≡ b → lead_by names e.place (cond b (Set (vols_in e.payload)) (Other e.place e.payload)) ≡ None
    by true is = refl
    by false is = refl

every : (P : CatEntry → Type 0) → ((e : CatEntry) → P e) → (es : List CatEntry) → AllByRecursion P es
every P each [] = tt
every P each (e ∷ es) = (each e, every P each es)

-- a level that is no group's keeps names as they are
own_name : (level : Level) (n : Name8) → is_group level ≡ false → name_in level n ≡ n
own_name Root n is = refl
own_name Plain n is = refl
own_name Generation n is = cc

later_names : (t : ℕ) (e : CatEntry) (es : List CatEntry) → name_number e < t → HasName e → AllByRecursion HasName es → RisesFrom name_number t es → AllByRecursion (λ (f : CatEntry). is_lt (Order e.name f.name) ≡ true) es
later_names t e [] low has named rises = tt
later_names t e (f ∷ fs) low has named rises = (
  number_before e f has named.0 (omega (arith, low, rises.0)),
  later_names (suc (name_number f)) e fs (omega (arith, low, rises.0)) has named.1 rises.1,
)

leads_rise : (c : Chain) (t : ℕ) (es : List CatEntry) → is_group c.level ≡ false → AllByRecursion HasName es → RisesFrom name_number t es → AreInOrder (filter_map (lead_in c) es)
leads_rise c t [] plain named rises = tt
leads_rise c t (e ∷ es) plain named rises = by (lead_in c e) refl (leads_rise c (suc (name_number e)) es plain named.1 rises.1)
  where
    rest : List Lead
    rest = filter_map (lead_in c) es

    names_are : (f : CatEntry) → is_lt (Order e.name f.name) ≡ true → AreAhead (names_to c e) (names_to c f)
    names_are f low =
        siblings c.names (name_in c.level e.name) (name_in c.level f.name)
        (ap₂ (λ (n m : Name8). is_lt (Order n m)) (own_name c.level e.name plain) (own_name c.level f.name plain) ∙ low)

    ahead : AllByRecursion (λ (m : Lead). AreAhead (names_to c e) m.names) rest
    ahead = all_leads (AreAhead (names_to c e)) c es (all_weaker (λ (f : CatEntry). is_lt (Order e.name f.name) ≡ true) (λ (f : CatEntry). AreAhead (names_to c e) (names_to c f)) names_are es (later_names (suc (name_number e)) e es (omega arith) named.0 named.1 rises.1))

    way_of : (place : Place) (node : CatNode) (l : Lead) → lead_by (names_to c e) place node ≡ Some l → l.names ≡ names_to c e
    way_of place Index l is = cc
    way_of place (Group limit empty delete) l is = cc
    way_of place (Set vols) l is = cc
    way_of place (Alias of) l is = cc
    way_of place (Other at bytes) l is = cc

    by : (o : Option Lead) → lead_in c e ≡ o → AreInOrder rest → AreInOrder (cons_option o rest)
    by None is order = order
    by (Some l) is order = (subst (λ (p : List Name8). AllByRecursion (λ (m : Lead). AreAhead p m.names) rest) (sym (way_of e.place (node_in c.level e) l is)) ahead, order)

chain_order : (c : Chain) → IsTrueChain c → AreInOrder (leads_of c)
chain_order c is = by (cases_Bool (is_group c.level))
  where
    none : (level : Level) → is_group level ≡ true → (es : List CatEntry) → filter_map (λ (e : CatEntry). lead_by (c.names ++ name_in level e.name ∷ []) e.place (node_in level e)) es ≡ []
    none Root group es = cc
    none Plain group es = cc
    none Generation group [] = refl
    none Generation group (e ∷ es) =
        let rest : List Lead = filter_map (λ (f : CatEntry). lead_by (c.names ++ name_in Generation f.name ∷ []) f.place (node_in Generation f)) es in
        ap (λ (o : Option Lead). cons_option o rest) (none_led (c.names ++ name_in Generation e.name ∷ []) e) ∙ none Generation group es

    by : (is_group c.level ≡ true) ⊎ (is_group c.level ≡ false) → AreInOrder (leads_of c)
    by (inl group) = subst AreInOrder (sym (none c.level group (entries_of c))) tt
    by (inr plain) = leads_rise c 2 (entries_of c) plain is.named is.rises

order_on : (l : Lead) (ls : List Lead) (c : Chain) → IsTrueChain c → c.names ≡ l.names → AreInOrder (l ∷ ls) → AreInOrder (leads_of c ++ ls)
order_on l ls c is same order =
    let Before : List Name8 → Type 0 = λ (p : List Name8). AllByRecursion (λ (m : Lead). AreAhead p m.names) ls in
    joined_order (leads_of c) ls (chain_order c is) order.1
    (all_leads Before c (entries_of c) (every (λ (e : CatEntry). Before (names_to c e)) (λ e. all_weaker (λ (m : Lead). AreAhead l.names m.names) (λ (m : Lead). AreAhead (names_to c e) m.names)
    (λ m ahead. ahead_on c.names m.names (name_in c.level e.name ∷ []) (subst (λ (p : List Name8). AreAhead p m.names) (sym same) ahead)) ls order.0) (entries_of c)))

-- ---- chains

-- a way that stands before those of leads stands before those of their chains
all_after : (p : List Name8) (ls : List Lead) (cs : List Chain) → AllByRecursion (λ (m : Lead). IsAhead p m.names) ls → LeadTo ls cs → AllByRecursion (λ (d : Chain). is_before (way p) (way d.names) ≡ true) cs
all_after p [] [] ahead to = tt
all_after p [] (c ∷ cs) ahead to = absurd to
all_after p (l ∷ ls) [] ahead to = absurd to
all_after p (l ∷ ls) (c ∷ cs) ahead to = (
  ap (λ (ns : List Name8). is_before (way p) (way ns)) (to.0 ∙ sym (append-nil l.names)) ∙ ahead.0 [],
  all_after p (leads_of c ++ ls) cs
      (all_joined (λ (m : Lead). IsAhead p m.names) (leads_of c) ls
      (all_leads (IsAhead p) c (entries_of c) (every (λ (e : CatEntry). IsAhead p (names_to c e)) (λ e. ahead_below p c.names (name_in c.level e.name ∷ []) (subst (IsAhead p) (sym to.0) ahead.0)) (entries_of c)))
      ahead.1)
      to.2,
)

all_rising : (ls : List Lead) (cs : List Chain) → AllByRecursion IsTrueChain cs → AreInOrder ls → LeadTo ls cs → AreRising cs
all_rising [] [] all order to = tt
all_rising [] (c ∷ cs) all order to = absurd to
all_rising (l ∷ ls) [] all order to = absurd to
all_rising (l ∷ ls) (c ∷ cs) all order to = (
  all_after c.names (leads_of c ++ ls) cs
      (all_joined (λ (m : Lead). IsAhead c.names m.names) (leads_of c) ls
      (all_leads (IsAhead c.names) c (entries_of c) (every (λ (e : CatEntry). IsAhead c.names (names_to c e)) (λ e. ahead_of_own c.names (name_in c.level e.name)) (entries_of c)))
      (all_weaker (λ (m : Lead). AreAhead l.names m.names) (λ (m : Lead). IsAhead c.names m.names) (λ m ahead. ahead_now c.names m.names (subst (λ (p : List Name8). AreAhead p m.names) (sym to.0) ahead)) ls order.0))
      to.2,
  all_rising (leads_of c ++ ls) cs all.1 (order_on l ls c all.0 to.0 order) to.2,
)

pub tree_rises : (cs : List Chain) → AreTree cs → AreRising cs
tree_rises cs tree = all_rising (root_lead ∷ []) cs tree.chains (tt, tt) tree.leads
