-- The chains that are read are those that stand in the store.
use Rattle.std.proofs.Common.{◌≡◌, ◌≤◌, ◌<◌, ℕ, zero, suc, List, [], ◌∷◌, ◌++◌, length, map, Option, Some, None, Result, Ok, Err, refl, sym, ap, subst, ◌∙◌, arith, length-append}
use Rattle.std.specs.Prelude.{◌/◌, option_map}
use Rattle.std.specs.List.{AllByRecursion, cons_option, filter_map}
use Rattle.vol_model.specs.declared.contents.Place.{Place}
use Rattle.catalog_blocks.specs.declared.blocks.CatEntry.{CatEntry}
use Rattle.catalog_blocks.specs.declared.chains.Chain.{Chain}
use Rattle.catalog_blocks.specs.declared.chains.Lead.{Lead}
use Rattle.catalog_blocks.specs.declared.chains.Visit.{Visit}
use Rattle.catalog_blocks.specs.Trees.{Store, chain_from, chain_to, chains_from, chains_in, held_entries, lead_in, numbers, root_lead, then_on, visits_of, with_chain}
use Rattle.catalog_laws.specs.Forests.{AreApart, AreChains, Follow, GoesOn, Links, StandsAt, all_numbers, leads_of}
use Rattle.catalog_laws.proofs.Apart.{apart_first, apart_join, apart_second, few}
use Rattle.catalog_laws.proofs.ChainReads.{IsReadOn, of, on_read, read_on}
use Rattle.std.proofs.lemmas.Option.{slice_get_within}

-- where visits lead
abbrev pub leads : List Visit → List Lead
leads vs = map (λ (v : Visit). v.lead) vs

leads_by : (c : Chain) (per : ℕ) (ps : List (ℕ × CatEntry))
    → leads (filter_map (λ (p : ℕ × CatEntry). option_map (λ (l : Lead). record { lead = l; from = p.0 / per }) (lead_in c p.1)) ps) ≡ filter_map (lead_in c) (map (λ (p : ℕ × CatEntry). p.1) ps)
leads_by c per [] = refl
leads_by c per (p ∷ ps) =
    leads_cons (lead_in c p.1) (p.0 / per) (filter_map (λ (q : ℕ × CatEntry). option_map (λ (l : Lead). record { lead = l; from = q.0 / per }) (lead_in c q.1)) ps)
    ∙ ap (cons_option (lead_in c p.1)) (leads_by c per ps)
  where
    leads_cons : (o : Option Lead) (n : ℕ) (xs : List Visit) → leads (cons_option (option_map (λ (l : Lead). record { lead = l; from = n }) o) xs) ≡ cons_option o (leads xs)
    leads_cons None n xs = refl
    leads_cons (Some l) n xs = refl

leads_append : (xs ys : List Visit) → leads (xs ++ ys) ≡ leads xs ++ leads ys
leads_append [] ys = refl
leads_append (x ∷ xs) ys = ap (λ (ls : List Lead). x.lead ∷ ls) (leads_append xs ys)

leads_on : (c : Chain) (per : ℕ) (vs : List Visit) → leads (visits_of per c ++ vs) ≡ leads_of c ++ leads vs
leads_on c per vs = leads_append (visits_of per c) vs ∙ ap (λ (ls : List Lead). ls ++ leads vs) (leads_by c per (held_entries c))

-- Chains follow visits, with blocks that were not reached.
pub record AreRead (per : ℕ) (store : Store) (reached : List ℕ) (vs : List Visit) (cs : List Chain) : Type 0 where
  pub follow : Follow per store (leads vs) cs
  pub apart : AreApart reached (all_numbers cs)

stands : (per : ℕ) (store : Store) (reached : List ℕ) (l : Lead) (c : Chain) → IsReadOn per store reached (chain_to l) l.place c → StandsAt per store l c × AreApart reached (numbers c)
stands per store reached l c is =
    let blocks : is.more ≡ c.blocks = sym (ap (λ (d : Chain). d.blocks) is.goes.is) in
    (subst (λ (bs : List (ℕ × List CatEntry)). GoesOn per store (chain_to l) l.place bs c) blocks is.goes, subst (λ (bs : List (ℕ × List CatEntry)). AreApart reached (of bs)) blocks is.apart)

abbrev rest_step : ℕ → ℕ → Store → List ℕ → List Visit → Chain → Result (List Chain) ℕ
rest_step n per store reached vs c = with_chain c (chains_from n per store (numbers c ++ reached) (visits_of per c ++ vs))

chains_step : (n per : ℕ) (store : Store) (reached : List ℕ) (v : Visit) (vs : List Visit)
    → chains_from (suc n) per store reached (v ∷ vs) ≡ then_on (chain_from (suc (length store)) per store reached (chain_to v.lead) v.lead.place v.from) (rest_step n per store reached vs)
unfolding chains_from
chains_step n per store reached v vs = refl

none_read : (n per : ℕ) (store : Store) (reached : List ℕ) (cs : List Chain) → chains_from n per store reached [] ≡ Ok cs → cs ≡ []
unfolding chains_from
none_read zero per store reached cs is = cc
none_read (suc n) per store reached cs is = cc

no_more : (per : ℕ) (store : Store) (reached : List ℕ) (v : Visit) (vs : List Visit) (cs : List Chain) → chains_from zero per store reached (v ∷ vs) ≡ Ok cs → ⊥
unfolding chains_from
no_more per store reached v vs cs is = cc

pub read_all : (n per : ℕ) (store : Store) (reached : List ℕ) (vs : List Visit) (cs : List Chain) → chains_from n per store reached vs ≡ Ok cs → AreRead per store reached vs cs
read_all n per store reached [] cs is =
    let none = none_read n per store reached cs is in
    record { follow = subst (λ (ds : List Chain). Follow per store [] ds) (sym none) tt; apart = subst (λ (ds : List Chain). AreApart reached (all_numbers ds)) (sym none) tt }
read_all zero per store reached (v ∷ vs) cs is = absurd (no_more per store reached v vs cs is)
read_all (suc n) per store reached (v ∷ vs) cs is =
    by (λ r us ds e. read_all n per store r us ds e) (chain_from (suc (length store)) per store reached (chain_to v.lead) v.lead.place v.from) refl (sym (chains_step n per store reached v vs) ∙ is)
  where
    Later : Type 0
    Later = (r : List ℕ) (us : List Visit) (ds : List Chain) → chains_from n per store r us ≡ Ok ds → AreRead per store r us ds

    on : (c : Chain) → IsReadOn per store reached (chain_to v.lead) v.lead.place c → (ds : List Chain) → AreRead per store (numbers c ++ reached) (visits_of per c ++ vs) ds → c ∷ ds ≡ cs → AreRead per store reached (v ∷ vs) cs
    on c is_read ds later same =
        let s = stands per store reached v.lead c is_read in
        let follow : Follow per store (leads_of c ++ leads vs) ds = subst (λ (ls : List Lead). Follow per store ls ds) (leads_on c per vs) later.follow in
        subst (AreRead per store reached (v ∷ vs)) same (record { follow = (s.0, follow); apart = apart_join reached (numbers c) (all_numbers ds) s.1 later.apart })

    rest : Later → (c : Chain) → IsReadOn per store reached (chain_to v.lead) v.lead.place c → (r : Result (List Chain) ℕ) → chains_from n per store (numbers c ++ reached) (visits_of per c ++ vs) ≡ r → with_chain c r ≡ Ok cs → AreRead per store reached (v ∷ vs) cs
    rest later c is_read (Err at) e f = cc
    rest later c is_read (Ok ds) e f =
        let same : c ∷ ds ≡ cs = cc in
        on c is_read ds (later (numbers c ++ reached) (visits_of per c ++ vs) ds e) same

    by : Later → (r : Result Chain ℕ) → chain_from (suc (length store)) per store reached (chain_to v.lead) v.lead.place v.from ≡ r
        → then_on (chain_from (suc (length store)) per store reached (chain_to v.lead) v.lead.place v.from) (rest_step n per store reached vs) ≡ Ok cs → AreRead per store reached (v ∷ vs) cs
    by later (Err at) e f = let none = sym (ap (λ (r : Result Chain ℕ). then_on r (rest_step n per store reached vs)) e) ∙ f in cc
    by later (Ok c) e f =
        rest later c (read_on (suc (length store)) per store reached (chain_to v.lead) v.lead.place v.from c e) (chains_from n per store (numbers c ++ reached) (visits_of per c ++ vs)) refl
        (sym (ap (λ (r : Result Chain ℕ). then_on r (rest_step n per store reached vs)) e) ∙ f)

-- as many numbers as blocks
as_many : (bs : List (ℕ × List CatEntry)) → length (of bs) ≡ length bs
as_many [] = refl
as_many (b ∷ bs) = ap suc (as_many bs)

-- the numbers of a chain's blocks are those of a store
numbers_below : (per : ℕ) (store : Store) (p : Place) (bs : List (ℕ × List CatEntry)) → Links per store p bs → AllByRecursion (λ (k : ℕ). k < length store) (of bs)
numbers_below per store p [] links = tt
numbers_below per store p (b ∷ bs) links = (slice_get_within store b.0 (Some (record { entries = b.1; next = links.1 })) links.2, numbers_below per store links.1 bs links.3)

pub all_below : (per : ℕ) (store : Store) (ls : List Lead) (cs : List Chain) → Follow per store ls cs → AllByRecursion (λ (k : ℕ). k < length store) (all_numbers cs)
all_below per store [] [] follow = tt
all_below per store [] (c ∷ cs) follow = absurd follow
all_below per store (l ∷ ls) [] follow = absurd follow
all_below per store (l ∷ ls) (c ∷ cs) follow = all_append (numbers c) (all_numbers cs) (numbers_below per store l.place c.blocks follow.0.links) (all_below per store (leads_of c ++ ls) cs follow.1)
  where
    all_append : (xs ys : List ℕ) → AllByRecursion (λ (k : ℕ). k < length store) xs → AllByRecursion (λ (k : ℕ). k < length store) ys → AllByRecursion (λ (k : ℕ). k < length store) (xs ++ ys)
    all_append [] ys first second = second
    all_append (x ∷ xs) ys first second = (first.0, all_append xs ys first.1 second)

-- each chain has a block
no_fewer : (per : ℕ) (store : Store) (ls : List Lead) (cs : List Chain) → Follow per store ls cs → length cs ≤ length (all_numbers cs)
no_fewer per store ls [] follow = omega arith
no_fewer per store [] (c ∷ cs) follow = absurd follow
no_fewer per store (l ∷ ls) (c ∷ cs) follow = omega (arith, follow.0.some, length-append (numbers c) (all_numbers cs), as_many c.blocks, no_fewer per store (leads_of c ++ ls) cs follow.1)

-- chains that stand in the store are read
pub all_read : (n per : ℕ) (store : Store) (reached : List ℕ) (vs : List Visit) (cs : List Chain) → length cs ≤ n → AreRead per store reached vs cs → chains_from n per store reached vs ≡ Ok cs
unfolding chains_from
all_read n per store reached [] [] low are = refl_of n
  where
    refl_of : (m : ℕ) → chains_from m per store reached [] ≡ Ok []
    refl_of zero = refl
    refl_of (suc m) = refl
all_read n per store reached [] (c ∷ cs) low are = absurd are.follow
all_read n per store reached (v ∷ vs) [] low are = absurd are.follow
all_read zero per store reached (v ∷ vs) (c ∷ cs) low are = absurd (omega (arith, low))
all_read (suc n) per store reached (v ∷ vs) (c ∷ cs) low are =
    let mine : AreApart reached (numbers c) = apart_first reached (numbers c) (all_numbers cs) are.apart in
    let short : length (numbers c) ≤ length store = few (length store) reached (numbers c) mine (numbers_below per store v.lead.place c.blocks are.follow.0.links) in
    let one = on_read (suc (length store)) per store reached (chain_to v.lead) v.lead.place v.from c.blocks c (omega (arith, short, as_many c.blocks)) are.follow.0 mine in
    let rest : AreRead per store (numbers c ++ reached) (visits_of per c ++ vs) cs = record {
      follow = subst (λ (ls : List Lead). Follow per store ls cs) (sym (leads_on c per vs)) are.follow.1;
      apart = apart_second reached (numbers c) (all_numbers cs) are.apart;
    } in
    ap (λ (r : Result Chain ℕ). then_on r (rest_step n per store reached vs)) one
    ∙ ap (with_chain c) (all_read n per store (numbers c ++ reached) (visits_of per c ++ vs) cs (omega (arith, low)) rest)

pub chains_read : (per : ℕ) (store : Store) (cs : List Chain) → chains_in per store ≡ Ok cs → AreChains per store cs
unfolding chains_in
chains_read per store cs is = let are = read_all (suc (length store)) per store [] (record { lead = root_lead; from = 0 } ∷ []) cs is in record { follow = are.follow; apart = are.apart }

pub chains_stand : (per : ℕ) (store : Store) (cs : List Chain) → AreChains per store cs → chains_in per store ≡ Ok cs
unfolding chains_in
chains_stand per store cs are =
    let low = few (length store) [] (all_numbers cs) are.apart (all_below per store (root_lead ∷ []) cs are.follow) in
    all_read (suc (length store)) per store [] (record { lead = root_lead; from = 0 } ∷ []) cs (omega (arith, low, no_fewer per store (root_lead ∷ []) cs are.follow)) (record { follow = are.follow; apart = are.apart })
