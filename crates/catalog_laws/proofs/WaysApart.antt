-- The ways to the chains of a catalog differ.
use Rattle.std.proofs.Common.{◌≡◌, ◌⊎◌, inl, inr, ◌<◌, ℕ, suc, true, List, [], ◌∷◌, ◌++◌, length, Option, Some, None, refl, sym, ap, subst, ◌∙◌, arith, append_assoc, append-nil, length-append}
use Rattle.std.specs.List.{AllByRecursion, cons_option, filter_map}
use Rattle.std.proofs.lemmas.List.{append_cancel_left}
use Rattle.chain_spec.specs.Cut.{AllFit}
use Rattle.chain_spec.specs.Kept.{RisesFrom}
use Rattle.ebcdic_names.specs.declared.names.Name8.{Name8}
use Rattle.vol_model.specs.declared.catalogs.CatNode.{CatNode}
use Rattle.vol_model.specs.declared.catalogs.CatNode.TheVariants.{Index, Group, Set, Alias, Other}
use Rattle.vol_model.specs.declared.contents.Place.{Place}
use Rattle.shelf_laws.proofs.Lists.{all_joined, all_weaker}
use Rattle.catalog_blocks.specs.declared.blocks.CatEntry.{CatEntry}
use Rattle.catalog_blocks.specs.Blocks.{HasName, cat_size, name_number}
use Rattle.catalog_blocks.specs.declared.chains.Level.{Level}
use Rattle.catalog_blocks.specs.declared.chains.Chain.{Chain}
use Rattle.catalog_blocks.specs.declared.chains.Lead.{Lead}
use Rattle.catalog_blocks.specs.Trees.{Store, entries_of, is_group, lead_by, lead_in, name_in, names_to, node_in}
use Rattle.catalog_laws.specs.Forests.{Follow, StandsAt, leads_of}
use Rattle.catalog_laws.specs.Nodes.{AreSound, IsStored, IsTrueChain, LeadTo}
use Rattle.catalog_laws.specs.Writes.{lists_of}
use Rattle.catalog_laws.proofs.TrueChains.{name_apart, true_chain}

-- ---- the entries of a chain

-- an entry's name differs from those of others
abbrev pub IsOther : Level → CatEntry → CatEntry → Type 0
IsOther level e f = name_in level e.name ≡ name_in level f.name → ⊥

abbrev pub NamesDiffer : Level → List CatEntry → Type 0
NamesDiffer level [] = Unit {0}
NamesDiffer level (e ∷ es) = AllByRecursion (IsOther level e) es × NamesDiffer level es

module _ (level : Level) where
  -- entries that may stand under a group, where it is one
  abbrev pub AreStored : List CatEntry → Type 0
  AreStored es = is_group level ≡ true → AllByRecursion IsStored es

  others : (e : CatEntry) (t : ℕ) (es : List CatEntry) → name_number e < t → RisesFrom name_number t es → HasName e → AllByRecursion HasName es → (is_group level ≡ true → IsStored e) → AreStored es → AllByRecursion (IsOther level e) es
  others e t [] low rises has named stored all = tt
  others e t (f ∷ es) low rises has named stored all = (
    name_apart level e f has named.0 stored (λ is. (all is).0) (omega (arith, low, rises.0)),
    others e (suc (name_number f)) es (omega (arith, low, rises.0)) rises.1 has named.1 stored (λ is. (all is).1),
  )

  pub names_differ : (t : ℕ) (es : List CatEntry) → RisesFrom name_number t es → AllByRecursion HasName es → AreStored es → NamesDiffer level es
  names_differ t [] rises named all = tt
  names_differ t (e ∷ es) rises named all = (
    others e (suc (name_number e)) es (omega arith) rises.1 named.0 named.1 (λ is. (all is).0) (λ is. (all is).1),
    names_differ (suc (name_number e)) es rises.1 named.1 (λ is. (all is).1),
  )

pub chain_names : (c : Chain) → IsTrueChain c → NamesDiffer c.level (entries_of c)
chain_names c is = names_differ c.level 2 (entries_of c) is.rises is.named is.fits

-- ---- leads

pub lead_names : (names : List Name8) (place : Place) (node : CatNode) (l : Lead) → lead_by names place node ≡ Some l → l.names ≡ names
lead_names names place Index l is = cc
lead_names names place (Group limit empty delete) l is = cc
lead_names names place (Set vols) l is = cc
lead_names names place (Alias of) l is = cc
lead_names names place (Other at bytes) l is = cc

-- what holds of the ways to entries holds of those of leads
pub all_leads : (P : List Name8 → Type 0) (c : Chain) (es : List CatEntry) → AllByRecursion (λ (e : CatEntry). P (names_to c e)) es → AllByRecursion (λ (l : Lead). P l.names) (filter_map (lead_in c) es)
all_leads P c [] all = tt
all_leads P c (e ∷ es) all = by (lead_in c e) refl (all_leads P c es all.1)
  where
    by : (o : Option Lead) → lead_in c e ≡ o → AllByRecursion (λ (l : Lead). P l.names) (filter_map (lead_in c) es) → AllByRecursion (λ (l : Lead). P l.names) (cons_option o (filter_map (lead_in c) es))
    by None is rest = rest
    by (Some l) is rest = (subst P (sym (lead_names (names_to c e) e.place (node_in c.level e) l is)) all.0, rest)

-- neither way leads on to where the other does
abbrev pub Parts : List Name8 → List Name8 → Type 0
Parts p q = (r s : List Name8) → p ++ r ≡ q ++ s → ⊥

-- of two leads none leads to what is below the other
abbrev pub Fan : List Lead → Type 0
Fan [] = Unit {0}
Fan (l ∷ ls) = AllByRecursion (λ (m : Lead). Parts l.names m.names) ls × Fan ls

parts_on : (p q more : List Name8) → Parts p q → Parts (p ++ more) q
parts_on p q more parts r s same = parts (more ++ r) s (sym (append_assoc p more r) ∙ same)

siblings_part : (p : List Name8) (n m : Name8) → (n ≡ m → ⊥) → Parts (p ++ n ∷ []) (p ++ m ∷ [])
siblings_part p n m other r s same =
    let rest : n ∷ r ≡ m ∷ s = append_cancel_left p (n ∷ r) (m ∷ s) (sym (append_assoc p (n ∷ []) r) ∙ same ∙ append_assoc p (m ∷ []) s) in
    other cc

chain_fan : (c : Chain) (es : List CatEntry) → NamesDiffer c.level es → Fan (filter_map (lead_in c) es)
chain_fan c [] differ = tt
chain_fan c (e ∷ es) differ = by (lead_in c e) refl (chain_fan c es differ.1)
  where
    rest : List Lead
    rest = filter_map (lead_in c) es

    apart : AllByRecursion (λ (m : Lead). Parts (names_to c e) m.names) rest
    apart = all_leads (Parts (names_to c e)) c es (all_weaker (IsOther c.level e) (λ (f : CatEntry). Parts (names_to c e) (names_to c f)) (λ f other. siblings_part c.names (name_in c.level e.name) (name_in c.level f.name) other) es differ.0)

    by : (o : Option Lead) → lead_in c e ≡ o → Fan rest → Fan (cons_option o rest)
    by None is fan = fan
    by (Some l) is fan = (subst (λ (p : List Name8). AllByRecursion (λ (m : Lead). Parts p m.names) rest) (sym (lead_names (names_to c e) e.place (node_in c.level e) l is)) apart, fan)

fan_joined : (ks ls : List Lead) → Fan ks → Fan ls → AllByRecursion (λ (k : Lead). AllByRecursion (λ (m : Lead). Parts k.names m.names) ls) ks → Fan (ks ++ ls)
fan_joined [] ls first second apart = second
fan_joined (k ∷ ks) ls first second apart = (all_joined (λ (m : Lead). Parts k.names m.names) ks ls first.0 apart.0, fan_joined ks ls first.1 second apart.1)

-- for all of some entries
every : (P : CatEntry → Type 0) → ((e : CatEntry) → P e) → (es : List CatEntry) → AllByRecursion P es
every P each [] = tt
every P each (e ∷ es) = (each e, every P each es)

-- the leads of a chain after one that leads to it
fan_on : (l : Lead) (ls : List Lead) (c : Chain) → IsTrueChain c → c.names ≡ l.names → Fan (l ∷ ls) → Fan (leads_of c ++ ls)
fan_on l ls c is same fan =
    let Behind : List Name8 → Type 0 = λ (p : List Name8). AllByRecursion (λ (m : Lead). Parts p m.names) ls in
    fan_joined (leads_of c) ls (chain_fan c (entries_of c) (chain_names c is)) fan.1
    (all_leads Behind c (entries_of c) (every (λ (e : CatEntry). Behind (names_to c e)) (λ e. all_weaker (λ (m : Lead). Parts l.names m.names) (λ (m : Lead). Parts (names_to c e) m.names)
    (λ m parts. parts_on c.names m.names (name_in c.level e.name ∷ []) (subst (λ (p : List Name8). Parts p m.names) (sym same) parts)) ls fan.0) (entries_of c)))

-- ---- chains

-- a way begins with that of one of these leads
abbrev pub IsUnder : List Lead → List Name8 → Type 0
IsUnder [] names = ⊥
IsUnder (l ∷ ls) names = ((r : List Name8) × (names ≡ l.names ++ r)) ⊎ IsUnder ls names

-- or is longer than one
abbrev IsLonger : List Name8 → List Name8 → Type 0
IsLonger p names = (n : Name8) × (r : List Name8) × (names ≡ p ++ n ∷ r)

under_either : (ks ls : List Lead) (names : List Name8) → IsUnder (ks ++ ls) names → IsUnder ks names ⊎ IsUnder ls names
under_either [] ls names is = inr is
under_either (k ∷ ks) ls names (inl here) = inl (inl here)
under_either (k ∷ ks) ls names (inr later) = by (under_either ks ls names later)
  where
    by : IsUnder ks names ⊎ IsUnder ls names → IsUnder (k ∷ ks) names ⊎ IsUnder ls names
    by (inl is) = inl (inr is)
    by (inr is) = inr is

-- the ways of a chain's leads have one name more
abbrev IsStep : List Name8 → List Name8 → Type 0
IsStep p names = (n : Name8) × (names ≡ p ++ n ∷ [])

steps_of : (c : Chain) → AllByRecursion (λ (l : Lead). IsStep c.names l.names) (leads_of c)
steps_of c = all_leads (IsStep c.names) c (entries_of c) (every (λ (e : CatEntry). IsStep c.names (names_to c e)) (λ e. (name_in c.level e.name, refl)) (entries_of c))

under_longer : (p : List Name8) (ls : List Lead) (names : List Name8) → AllByRecursion (λ (l : Lead). IsStep p l.names) ls → IsUnder ls names → IsLonger p names
under_longer p [] names steps is = absurd is
under_longer p (l ∷ ls) names steps (inl here) = (steps.0.0, here.0, here.1 ∙ ap (λ (q : List Name8). q ++ here.0) steps.0.1 ∙ append_assoc p (steps.0.0 ∷ []) here.0)
under_longer p (l ∷ ls) names steps (inr later) = under_longer p ls names steps.1 later

pub chain_way : (per : ℕ) (store : Store) (l : Lead) (c : Chain) → StandsAt per store l c → (c.names ≡ l.names) × (c.level ≡ l.level)
chain_way per store l c stands = (ap (λ (d : Chain). d.names) stands.is, ap (λ (d : Chain). d.level) stands.is)

-- all chains are under the leads that lead to them
all_under : (ls : List Lead) (cs : List Chain) → LeadTo ls cs → AllByRecursion (λ (c : Chain). IsUnder ls c.names) cs
all_under [] [] follow = tt
all_under [] (c ∷ cs) follow = absurd follow
all_under (l ∷ ls) [] follow = absurd follow
all_under (l ∷ ls) (c ∷ cs) follow =
    let way = follow.0 in (
      inl ([], way ∙ sym (append-nil l.names)),
      all_weaker (λ (d : Chain). IsUnder (leads_of c ++ ls) d.names) (λ (d : Chain). IsUnder (l ∷ ls) d.names) (λ d is. by way d.names (under_either (leads_of c) ls d.names is)) cs (all_under (leads_of c ++ ls) cs follow.2),
    )
  where
    by : c.names ≡ l.names → (names : List Name8) → IsUnder (leads_of c) names ⊎ IsUnder ls names → IsUnder (l ∷ ls) names
    by way names (inl is) =
        let longer = under_longer c.names (leads_of c) names (steps_of c) is in
        inl (longer.0 ∷ longer.1, longer.2 ∙ ap (λ (p : List Name8). p ++ longer.0 ∷ longer.1) way)
    by way names (inr is) = inr is

-- no two chains have one way
abbrev pub ChainsDiffer : List Chain → Type 0
ChainsDiffer [] = Unit {0}
ChainsDiffer (c ∷ cs) = AllByRecursion (λ (d : Chain). c.names ≡ d.names → ⊥) cs × ChainsDiffer cs

not_under : (p : List Name8) (ls : List Lead) (names : List Name8) → AllByRecursion (λ (m : Lead). Parts p m.names) ls → IsUnder ls names → p ≡ names → ⊥
not_under p [] names parts is same = is
not_under p (l ∷ ls) names parts (inl here) same = parts.0 [] here.0 (append-nil p ∙ same ∙ here.1)
not_under p (l ∷ ls) names parts (inr later) same = not_under p ls names parts.1 later same

pub chains_differ : (ls : List Lead) (cs : List Chain) → AllByRecursion IsTrueChain cs → Fan ls → LeadTo ls cs → ChainsDiffer cs
chains_differ [] [] all fan leads = tt
chains_differ [] (c ∷ cs) all fan leads = absurd leads
chains_differ (l ∷ ls) [] all fan leads = absurd leads
chains_differ (l ∷ ls) (c ∷ cs) all fan leads = (
  all_weaker (λ (d : Chain). IsUnder (leads_of c ++ ls) d.names) (λ (d : Chain). c.names ≡ d.names → ⊥) (λ d under. by d.names (under_either (leads_of c) ls d.names under)) cs (all_under (leads_of c ++ ls) cs leads.2),
  chains_differ (leads_of c ++ ls) cs all.1 (fan_on l ls c all.0 leads.0 fan) leads.2,
)
  where
    by : (names : List Name8) → IsUnder (leads_of c) names ⊎ IsUnder ls names → c.names ≡ names → ⊥
    by names (inl is) same =
        let longer = under_longer c.names (leads_of c) names (steps_of c) is in
        let sum : length c.names ≡ length (c.names ++ longer.0 ∷ longer.1) = ap length (same ∙ longer.2) in
        omega (arith, sum, length-append c.names (longer.0 ∷ longer.1))
    by names (inr is) same = not_under l.names ls names fan.0 is (sym leads.0 ∙ same)

-- ---- chains that stand in a store of sound blocks

-- they are true ones, and their blocks fit
pub all_true : (per : ℕ) (store : Store) (ls : List Lead) (cs : List Chain) → AreSound store → Follow per store ls cs → AllByRecursion IsTrueChain cs × AllByRecursion (λ (c : Chain). AllFit cat_size 242 0 (lists_of c)) cs
all_true per store [] [] sound follow = (tt, tt)
all_true per store [] (c ∷ cs) sound follow = absurd follow
all_true per store (l ∷ ls) [] sound follow = absurd follow
all_true per store (l ∷ ls) (c ∷ cs) sound follow =
    let one = true_chain per store l c sound follow.0 in
    let rest = all_true per store (leads_of c ++ ls) cs sound follow.1 in
    ((one.0, rest.0), (one.1, rest.1))

pub all_led_to : (per : ℕ) (store : Store) (ls : List Lead) (cs : List Chain) → Follow per store ls cs → LeadTo ls cs
all_led_to per store [] [] follow = tt
all_led_to per store [] (c ∷ cs) follow = absurd follow
all_led_to per store (l ∷ ls) [] follow = absurd follow
all_led_to per store (l ∷ ls) (c ∷ cs) follow =
    let way = chain_way per store l c follow.0 in
    (way.0, way.1, all_led_to per store (leads_of c ++ ls) cs follow.1)
