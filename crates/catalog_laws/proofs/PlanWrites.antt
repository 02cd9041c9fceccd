-- What first writes of a plan for one chain leave of a catalog.
use Rattle.std.proofs.Common.{◌≡◌, ◌⊎◌, inl, inr, ◌≤◌, ◌<◌, ℕ, zero, suc, true, false, List, [], ◌∷◌, ◌++◌, length, map, take, drop, replicate, Option, Some, None, refl, sym, ap, subst, ◌∙◌, arith, append_assoc, take-append-drop, ap₂, length-append}
use Rattle.std.specs.Prelude.{nat_eq, option_map, set, slice_get, slice_index}
use Rattle.std.specs.List.{AllByRecursion, filter_map}
use Rattle.std.proofs.lemmas.Bool.{and_parts, true≢false}
use Rattle.std.proofs.lemmas.List.{length-map, length-replicate, length-set}
use Rattle.chain_spec.proofs.StoreLemmas.{length-stored}
use Rattle.chain_spec.specs.Kept.{joined, kept}
use Rattle.chain_spec.specs.Store.{Block, reads, stored, up_to_end}
use Rattle.sorted_chain.specs.Plan.{after_write, after_writes}
use Rattle.ebcdic_names.specs.declared.names.Name8.{Name8}
use Rattle.vol_model.specs.declared.contents.Place.{Place}
use Rattle.catalog_blocks.specs.declared.blocks.CatBlock.{CatBlock}
use Rattle.catalog_blocks.specs.declared.blocks.CatEntry.{CatEntry}
use Rattle.catalog_blocks.specs.Blocks.{name_number}
use Rattle.catalog_blocks.specs.declared.chains.Level.{Level}
use Rattle.catalog_blocks.specs.declared.chains.Chain.{Chain}
use Rattle.catalog_blocks.specs.declared.chains.Lead.{Lead}
use Rattle.catalog_blocks.specs.Trees.{Store, chain_to, entries_of, is_among, is_control, kept_after, lead_in, number_at, numbers, place_of, root_lead}
use Rattle.catalog_laws.specs.Forests.{AgreeAt, AreApart, AreChains, Follow, Links, StandsAt, SuitFrom, all_numbers, leads_of}
use Rattle.catalog_laws.specs.Writes.{OneChainGained, OneChainLost, IsChainPlan, IsChainRepair, IsLostChain, IsNewChain, IsWrite, OneChainReads, fit, lists_of, next_after, with_write, with_writes}
use Rattle.catalog_laws.proofs.Apart.{among_cases, apart_first, apart_join, apart_less, apart_not, apart_rest, apart_second, apart_turn, not_among}
use Rattle.catalog_laws.proofs.ChainReads.{of}
use Rattle.catalog_laws.proofs.Frames.{among_first, among_left, among_right, replaced, stands_still}
use Rattle.catalog_laws.proofs.Inserted.{Gains, Loses, come, go, numbers_append}
use Rattle.catalog_laws.proofs.Places.{number_place, place_number}
use Rattle.catalog_laws.proofs.SeenChains.{IsChainSeen, IsSeen, View, links_seen, seen_chain, set_other, write_seen}
use Rattle.catalog_laws.proofs.SuitedBlocks.{entries_by, list_in, suit_on}

-- A chain is seen so at its numbers; other blocks are as they were.
pub record IsState (per : ℕ) (before store : Store) (ns : List ℕ) (c : Chain) (view : View) : Type 0 where
  pub size : length store ≡ length before
  pub seen : IsSeen per store ns view
  pub begins : (b : Block CatEntry) → slice_get view 0 ≡ Some (Some b) → is_control c.level (slice_get b.entries 0) ≡ true
  pub others : (k : ℕ) → is_among k ns ≡ false → slice_get store k ≡ slice_get before k

among_index : (ns : List ℕ) (i : ℕ) → i < length ns → is_among (slice_index ns i) ns ≡ true
among_index [] i low = absurd (omega (arith, low))
among_index (n ∷ ns) zero low = among_first n ns
among_index (n ∷ ns) (suc i) low = among_right (slice_index ns i) (n ∷ []) ns (among_index ns i (omega (arith, low)))

begins_still : (level : _) (view : View) (i : ℕ) (x : Block CatEntry) → (i ≡ 0 → is_control level (slice_get x.entries 0) ≡ true) → ((b : Block CatEntry) → slice_get view 0 ≡ Some (Some b) → is_control level (slice_get b.entries 0) ≡ true)
    → (b : Block CatEntry) → slice_get (set view i (Some x)) 0 ≡ Some (Some b) → is_control level (slice_get b.entries 0) ≡ true
begins_still level [] i x new old b is = old b is
begins_still level (o ∷ os) zero x new old b is =
    let same : x ≡ b = cc in
    subst (λ (y : Block CatEntry). is_control level (slice_get y.entries 0) ≡ true) same (new refl)
begins_still level (o ∷ os) (suc i) x new old b is = old b is

-- one write
state_next : (per blocks : ℕ) (before store : Store) (ns : List ℕ) (c : Chain) (view : View) (w : ℕ × List CatEntry) → AreApart [] ns → AllByRecursion (λ (k : ℕ). k < length before) ns → IsWrite c (length ns) w
    → IsState per before store ns c view → IsState per before (with_write per ns blocks w store) ns c (after_write blocks w view)
state_next per blocks before store ns c view w apart below write is =
    let b : Block CatEntry = record { entries = w.1; ends = nat_eq (suc w.0) blocks } in
    let x : Option CatBlock = Some (record { entries = w.1; next = next_after per (nat_eq (suc w.0) blocks) (drop (suc w.0) ns) }) in
    record {
      size = length-set store (slice_index ns w.0) x ∙ is.size;
      seen = write_seen per store ns [] view w.0 b apart (subst (λ (n : ℕ). AllByRecursion (λ (k : ℕ). k < n) ns) (sym is.size) below) write.place is.seen;
      begins = begins_still c.level view w.0 b write.begins is.begins;
      others = λ k none. set_other store (slice_index ns w.0) k x (λ e. true≢false (sym (subst (λ (j : ℕ). is_among j ns ≡ true) e (among_index ns w.0 write.place)) ∙ none)) ∙ is.others k none;
    }

states : (per blocks : ℕ) (before store : Store) (ns : List ℕ) (c : Chain) (view : View) (ws : List (ℕ × List CatEntry)) → AreApart [] ns → AllByRecursion (λ (k : ℕ). k < length before) ns → AllByRecursion (IsWrite c (length ns)) ws
    → IsState per before store ns c view → IsState per before (with_writes per ns blocks ws store) ns c (after_writes blocks ws view)
states per blocks before store ns c view [] apart below all is = is
states per blocks before store ns c view (w ∷ ws) apart below all is =
    states per blocks before (with_write per ns blocks w store) ns c (after_write blocks w view) ws apart below all.1 (state_next per blocks before store ns c view w apart below all.0 is)

-- its first block begins with the control entry
begins_first : (l : Lead) (fresh : List ℕ) (bs : List (ℕ × List CatEntry)) → 1 ≤ length bs → SuitFrom (chain_to l) bs
    → (b : Block CatEntry) → slice_get (stored (map list_in bs) ++ replicate (length fresh) None) 0 ≡ Some (Some b) → is_control l.level (slice_get b.entries 0) ≡ true
begins_first l fresh [] some suit b is = absurd (omega (arith, some))
begins_first l fresh (x ∷ []) some suit b is =
    let same : record { entries = x.1; ends = true } ≡ b = cc in
    subst (λ (y : Block CatEntry). is_control l.level (slice_get y.entries 0) ≡ true) same (and_parts (is_control l.level (slice_get x.1 0)) (fit l.level (kept_after (chain_to l) x.1)) suit.0).0
begins_first l fresh (x ∷ y ∷ ys) some suit b is =
    let same : record { entries = x.1; ends = false } ≡ b = cc in
    subst (λ (z : Block CatEntry). is_control l.level (slice_get z.entries 0) ≡ true) same (and_parts (is_control l.level (slice_get x.1 0)) (fit l.level (kept_after (chain_to l) x.1)) suit.0).0

-- the chain as it stands
state_first : (per : ℕ) (store : Store) (fresh : List ℕ) (l : Lead) (c : Chain) → StandsAt per store l c → IsState per store store (numbers c ++ fresh) c (stored (lists_of c) ++ replicate (length fresh) None)
state_first per store fresh l c stands = record {
  size = refl;
  seen = links_seen per store fresh l.place c.blocks stands.links;
  begins = λ b is. subst (λ (level : Level). is_control level (slice_get b.entries 0) ≡ true) (sym (ap (λ (d : Chain). d.level) stands.is)) (begins_first l fresh c.blocks stands.some stands.suit b is);
  others = λ k none. refl;
}

-- where one of the chains stands
stands_in : (per : ℕ) (store : Store) (ls : List Lead) (before : List Chain) (c : Chain) (after : List Chain) → Follow per store ls (before ++ c ∷ after) → (l : Lead) × StandsAt per store l c
stands_in per store [] [] c after follow = absurd follow
stands_in per store (l ∷ ls) [] c after follow = (l, follow.0)
stands_in per store [] (a ∷ more) c after follow = absurd follow
stands_in per store (l ∷ ls) (a ∷ more) c after follow = stands_in per store (leads_of a ++ ls) more c after follow.1

-- a chain reads as these entries, in a state of it
pub record IsNowRead (per : ℕ) (store : Store) (ns : List ℕ) (c : Chain) (list : List CatEntry) (d : Chain) : Type 0 where
  pub is : (l : Lead) → c ≡ record (chain_to l) { blocks = c.blocks } → number_at per (length store) l.place ≡ slice_get ns 0 → StandsAt per store l d
  pub entries : entries_of d ≡ drop 1 list
  pub names : d.names ≡ c.names
  pub level : d.level ≡ c.level
  pub numbers_are : numbers d ≡ take (length d.blocks) ns

read_state : (per : ℕ) (before store : Store) (n : ℕ) (ns : List ℕ) (c : Chain) (b : Block CatEntry) (os : View) (list : List CatEntry) (es : List CatEntry) → 1 ≤ per → AllByRecursion (λ (k : ℕ). k < length before) (n ∷ ns)
    → IsState per before store (n ∷ ns) c (Some b ∷ os) → up_to_end (Some b ∷ os) ≡ Some es → kept name_number es ≡ list → fit c.level list ≡ true → (d : Chain) × IsNowRead per store (n ∷ ns) c list d
read_state per before store n ns c b os list es some below state ends kept_is fits =
    let all = subst (λ (m : ℕ). AllByRecursion (λ (k : ℕ). k < m) (n ∷ ns)) (sym state.size) below in
    let seen = seen_chain per store n ns b os es (place_of per n) some (number_place per (length store) n some all.0) all.1 state.seen ends in
    let d : Chain = record c { blocks = seen.more } in
    let kept_now : kept name_number (joined (map list_in seen.more)) ≡ list = ap (kept name_number) (sym seen.holds) ∙ kept_is in
    let now : IsNowRead per store (n ∷ ns) c list d = record {
      is = λ l same here. stands l same here seen kept_now;
      entries = entries_by d ∙ ap (drop 1) kept_now;
      names = refl;
      level = refl;
      numbers_are = seen.numbers_are;
    } in
    (d, now)
  where
    stands : (l : Lead) → c ≡ record (chain_to l) { blocks = c.blocks } → number_at per (length store) l.place ≡ Some n → (seen : IsChainSeen per store (n ∷ ns) (place_of per n) es b.entries)
        → kept name_number (joined (map list_in seen.more)) ≡ list → StandsAt per store l (record c { blocks = seen.more })
    stands l same here seen kept_now =
        let place : l.place ≡ place_of per n = place_number per (length store) n l.place here in
        let level : c.level ≡ l.level = ap (λ (x : Chain). x.level) same in
        record {
          some = seen.some;
          links = subst (λ (p : Place). Links per store p seen.more) (sym place) seen.links;
          suit = suit_on (chain_to l) seen.more (inr (λ x is. first x (sym is ∙ seen.first) level)) (ap (fit l.level) kept_now ∙ subst (λ (v : Level). fit v list ≡ true) level fits);
          is = ap (λ (x : Chain). record x { blocks = seen.more }) same;
        }
      where
        first : (x : ℕ × List CatEntry) → Some x ≡ Some (n, b.entries) → c.level ≡ l.level → is_control l.level (slice_get x.1 0) ≡ true
        first x is level =
            let pair : ℕ × List CatEntry = (n, b.entries) in
            let same_pair : x ≡ pair = cc in
            subst (λ (v : Level). is_control v (slice_get x.1 0) ≡ true) level (ap (λ (y : ℕ × List CatEntry). is_control c.level (slice_get y.1 0)) same_pair ∙ state.begins b refl)

-- what is read of a state
reads_now : (per : ℕ) (before store : Store) (ns : List ℕ) (c : Chain) (view : View) (list : List CatEntry) → 1 ≤ per → AllByRecursion (λ (k : ℕ). k < length before) ns
    → IsState per before store ns c view → reads name_number view ≡ Some list → fit c.level list ≡ true → (d : Chain) × IsNowRead per store ns c list d
reads_now per before store ns c [] list some below state is fits = cc
reads_now per before store ns c (None ∷ os) list some below state is fits = cc
reads_now per before store [] c (Some b ∷ os) list some below state is fits = absurd state.seen
reads_now per before store (n ∷ ns) c (Some b ∷ os) list some below state is fits = by (up_to_end (Some b ∷ os)) refl is
  where
    by : (o : Option (List CatEntry)) → up_to_end (Some b ∷ os) ≡ o → option_map (kept name_number) (up_to_end (Some b ∷ os)) ≡ Some list → (d : Chain) × IsNowRead per store (n ∷ ns) c list d
    by None e f = let none : None ≡ Some list = sym (ap (option_map (kept name_number)) e) ∙ f in cc
    by (Some es) e f =
        let one : Some (kept name_number es) ≡ Some list = sym (ap (option_map (kept name_number)) e) ∙ f in
        let same : kept name_number es ≡ list = cc in
        read_state per before store n ns c b os list es some below state e same fits

-- numbers of which some are left out stay apart
apart_cut : (a x y z : List ℕ) → AreApart [] (a ++ ((x ++ y) ++ z)) → AreApart [] (a ++ (x ++ z))
apart_cut a x y z apart =
    let r : List ℕ = a ++ [] in
    let second = apart_second [] a ((x ++ y) ++ z) apart in
    let first = apart_first r x y (apart_first r (x ++ y) z second) in
    let later = apart_less ((x ++ y) ++ r) (x ++ r) z (λ k is. wider k r (among_cases k x r is)) (apart_second r (x ++ y) z second) in
    apart_join [] a (x ++ z) (apart_first [] a ((x ++ y) ++ z) apart) (apart_join r x z first later)
  where
    wider : (k : ℕ) (r : List ℕ) → (is_among k x ≡ true) ⊎ (is_among k r ≡ true) → is_among k ((x ++ y) ++ r) ≡ true
    wider k r (inl is) = among_left k (x ++ y) r (among_left k x y is)
    wider k r (inr is) = among_right k (x ++ y) r is

-- the chains before and after one have none of its numbers
before_other : (a ns z : List ℕ) (k : ℕ) → AreApart [] (a ++ (ns ++ z)) → is_among k a ≡ true → is_among k ns ≡ false
before_other a ns z k apart is = apart_not k ns (a ++ []) (among_left k a [] is) (apart_first (a ++ []) ns z (apart_second [] a (ns ++ z) apart))

after_other : (a ns z : List ℕ) (k : ℕ) → AreApart [] (a ++ (ns ++ z)) → is_among k z ≡ true → is_among k ns ≡ false
after_other a ns z k apart is = not_among k ns (λ s. true≢false (sym is ∙ apart_not k z (ns ++ (a ++ [])) (among_left k ns (a ++ []) s) (apart_second (a ++ []) ns z (apart_second [] a (ns ++ z) apart))))

-- In a catalog a chain has given way to one that reads as these entries, wherever it stood; all others have the blocks that they had.
pub record Reads (per : ℕ) (store new : Store) (before : List Chain) (c : Chain) (after : List Chain) (ns : List ℕ) (list : List CatEntry) : Type 0 where
  pub chain : Chain
  pub stands : (l : Lead) → StandsAt per store l c → StandsAt per new l chain
  pub first : AgreeAt (all_numbers before) store new
  pub second : AgreeAt (all_numbers after) store new
  pub entries : entries_of chain ≡ drop 1 list
  pub names : chain.names ≡ c.names
  pub level : chain.level ≡ c.level
  pub numbers_are : numbers chain ≡ take (length chain.blocks) ns
  pub others : (k : ℕ) → is_among k ns ≡ false → slice_get new k ≡ slice_get store k

-- first writes of a plan for one chain leave it reading as a list
pub writes_read : (per blocks : ℕ) (store : Store) (before : List Chain) (c : Chain) (after : List Chain) (fresh : List ℕ) (ws : List (ℕ × List CatEntry)) (list : List CatEntry) → 1 ≤ per
    → AreChains per store (before ++ c ∷ after) → AreApart [] (all_numbers before ++ ((numbers c ++ fresh) ++ all_numbers after)) → AllByRecursion (λ (k : ℕ). k < length store) (numbers c ++ fresh)
    → AllByRecursion (IsWrite c (length (numbers c ++ fresh))) ws → reads name_number (after_writes blocks ws (stored (lists_of c) ++ replicate (length fresh) None)) ≡ Some list
    → fit c.level list ≡ true → Reads per store (with_writes per (numbers c ++ fresh) blocks ws store) before c after (numbers c ++ fresh) list
writes_read per blocks store before c after fresh ws list some are apart below writes reads_as fits =
    let ns : List ℕ = numbers c ++ fresh in
    let view : View = stored (lists_of c) ++ replicate (length fresh) None in
    let new : Store = with_writes per ns blocks ws store in
    let mine : AreApart [] ns = apart_less (all_numbers before ++ []) [] ns (λ k is. absurd (true≢false (sym is))) (apart_first (all_numbers before ++ []) ns (all_numbers after) (apart_second [] (all_numbers before) (ns ++ all_numbers after) apart)) in
    let there = stands_in per store (root_lead ∷ []) before c after are.follow in
    let state : IsState per store new ns c (after_writes blocks ws view) = states per blocks store store ns c view ws mine below writes (state_first per store fresh there.0 c there.1) in
    let now = reads_now per store new ns c (after_writes blocks ws view) list some below state reads_as fits in
    record {
      chain = now.0;
      stands = λ l s. now.1.is l s.is (ap (λ (n : ℕ). number_at per n l.place) state.size ∙ head_of l c.blocks s.some s.links);
      first = record { size = state.size; blocks = λ k is. state.others k (before_other (all_numbers before) ns (all_numbers after) k apart is) };
      second = record { size = state.size; blocks = λ k is. state.others k (after_other (all_numbers before) ns (all_numbers after) k apart is) };
      entries = now.1.entries;
      names = now.1.names;
      level = now.1.level;
      numbers_are = now.1.numbers_are;
      others = state.others;
    }
  where
    head_of : (l : Lead) (bs : List (ℕ × List CatEntry)) → 1 ≤ length bs → Links per store l.place bs → number_at per (length store) l.place ≡ slice_get (of bs ++ fresh) 0
    head_of l [] low links = absurd (omega (arith, low))
    head_of l (b ∷ bs) low links = links.0

-- a chain of the same names and kind leads by the same entries to the same chains
leads_by : (c d : Chain) (list : List CatEntry) → entries_of d ≡ drop 1 list → d.names ≡ c.names → d.level ≡ c.level → leads_of d ≡ filter_map (lead_in c) (drop 1 list)
leads_by c d list entries names level =
    ap (filter_map (lead_in d)) entries ∙ ap₂ (λ (ms : List Name8) (v : Level). filter_map (lead_in (record { names = ms; level = v; blocks = [] })) (drop 1 list)) names level

-- of the numbers of a chain that are used, all others stay apart
used_apart : (a ns z : List ℕ) (n : ℕ) → AreApart [] (a ++ (ns ++ z)) → AreApart [] (a ++ (take n ns ++ z))
used_apart a ns z n apart = apart_cut a (take n ns) (drop n ns) z (subst (λ (ks : List ℕ). AreApart [] (a ++ (ks ++ z))) (sym (take-append-drop n ns)) apart)

-- ---- an entry comes, goes or changes that leads to no chain

pub writes_leave : (per : ℕ) (store new : Store) (before : List Chain) (c : Chain) (after : List Chain) (ns : List ℕ) (list : List CatEntry) → AreChains per store (before ++ c ∷ after) → AreApart [] (all_numbers before ++ (ns ++ all_numbers after))
    → Reads per store new before c after ns list → filter_map (lead_in c) (drop 1 list) ≡ leads_of c → OneChainReads per new before c after list
writes_leave per store new before c after ns list are apart read leads =
    let d : Chain = read.chain in
    let follow = replaced per store new (root_lead ∷ []) before c d after are.follow read.first read.second read.stands (leads_by c d list read.entries read.names read.level ∙ leads) in
    record {
      chain = d;
      are = record {
        follow = follow;
        apart = subst (λ (ks : List ℕ). AreApart [] ks) (sym (numbers_append before (d ∷ after) ∙ ap (λ (ks : List ℕ). all_numbers before ++ (ks ++ all_numbers after)) read.numbers_are))
            (used_apart (all_numbers before) ns (all_numbers after) (length d.blocks) apart);
      };
      entries = read.entries;
      names = read.names;
      level = read.level;
    }

-- ---- an entry comes that leads to a new chain

-- the blocks of one chain among those of others
moved_in : (a x f e r : List ℕ) → AreApart [] (e ++ (a ++ (x ++ (f ++ r)))) → AreApart [] (a ++ (x ++ (f ++ (e ++ r))))
moved_in a x f e r apart =
    let one = apart_turn [] e a (x ++ (f ++ r)) apart in
    let two = subst (λ (ks : List ℕ). AreApart [] ks) (sym (append_assoc a e (x ++ (f ++ r)))) one in
    let start : AreApart (a ++ []) (e ++ (x ++ (f ++ r))) = apart_second [] a (e ++ (x ++ (f ++ r))) one in
    let next = apart_turn (a ++ []) e x (f ++ r) start in
    let inner : AreApart (x ++ (a ++ [])) (e ++ (f ++ r)) = apart_second (a ++ []) x (e ++ (f ++ r)) next in
    let last = apart_turn (x ++ (a ++ [])) e f r inner in
    apart_join [] a (x ++ (f ++ (e ++ r))) (apart_first [] a (e ++ (x ++ (f ++ r))) one) (apart_join (a ++ []) x (f ++ (e ++ r)) (apart_first (a ++ []) x (e ++ (f ++ r)) next) last)

pub writes_add : (per : ℕ) (store new : Store) (before : List Chain) (c : Chain) (after : List Chain) (ns : List ℕ) (list : List CatEntry) (e : Chain) → AreChains per store (before ++ c ∷ after)
    → Reads per store new before c after ns list → IsNewChain per store before c after ns list e → OneChainGained per new before c after list e
writes_add per store new before c after ns list e are read fresh =
    let d : Chain = read.chain in
    let still : AgreeAt (numbers e) store new = record { size = read.first.size; blocks = λ k is. read.others k (not_mine k is) } in
    let gains : Gains per store new c d e = record {
      us = fresh.us;
      lead = fresh.lead;
      vs = fresh.vs;
      was = fresh.was;
      is = leads_by c d list read.entries read.names read.level ∙ fresh.is;
      here = read.stands;
      there = stands_still per store new fresh.lead e still fresh.there;
      leaf = fresh.leaf;
    } in
    let come_now = come per store new (root_lead ∷ []) before c d e after gains read.first read.second are.follow in
    let all : AreApart [] (numbers e ++ (all_numbers before ++ (ns ++ (all_numbers come_now.front ++ all_numbers come_now.rest)))) =
    subst (λ (ks : List ℕ). AreApart [] (numbers e ++ (all_numbers before ++ (ns ++ ks)))) (ap all_numbers come_now.is ∙ numbers_append come_now.front come_now.rest) fresh.apart in
    let used = used_after (length d.blocks) (all_numbers come_now.front ++ all_numbers come_now.rest) all in
    record {
      chain = d;
      front = come_now.front;
      rest = come_now.rest;
      is = come_now.is;
      are = record {
        follow = come_now.follow;
        apart = subst (λ (ks : List ℕ). AreApart [] ks)
            (sym (numbers_append before (d ∷ (come_now.front ++ e ∷ come_now.rest)) ∙ ap (λ (ks : List ℕ). all_numbers before ++ ks) (ap₂ (λ (xs ys : List ℕ). xs ++ ys) read.numbers_are (numbers_append come_now.front (e ∷ come_now.rest)))))
            (moved_in (all_numbers before) (take (length d.blocks) ns) (all_numbers come_now.front) (numbers e) (all_numbers come_now.rest) used);
      };
      entries = read.entries;
      names = read.names;
      level = read.level;
    }
  where
    not_mine : (k : ℕ) → is_among k (numbers e) ≡ true → is_among k ns ≡ false
    not_mine k is =
        let after_it = apart_second [] (numbers e) (all_numbers before ++ (ns ++ all_numbers after)) fresh.apart in
        let mine = apart_rest (numbers e ++ []) (all_numbers before) (ns ++ all_numbers after) after_it in
        apart_not k ns (numbers e ++ []) (among_left k (numbers e) [] is) (apart_first (numbers e ++ []) ns (all_numbers after) mine)

    used_after : (n : ℕ) (z : List ℕ) → AreApart [] (numbers e ++ (all_numbers before ++ (ns ++ z))) → AreApart [] (numbers e ++ (all_numbers before ++ (take n ns ++ z)))
    used_after n z apart =
        subst (λ (ks : List ℕ). AreApart [] ks) (append_assoc (numbers e) (all_numbers before) (take n ns ++ z))
        (used_apart (numbers e ++ all_numbers before) ns z n (subst (λ (ks : List ℕ). AreApart [] ks) (sym (append_assoc (numbers e) (all_numbers before) (ns ++ z))) apart))

all_take : (c : Chain) (n : ℕ) (k : ℕ) (ws : List (ℕ × List CatEntry)) → AllByRecursion (IsWrite c n) ws → AllByRecursion (IsWrite c n) (take k ws)
all_take c n zero ws all = tt
all_take c n (suc k) [] all = tt
all_take c n (suc k) (w ∷ ws) all = (all.0, all_take c n k ws all.1)

-- a list of the length that a chain's blocks and the new ones have
room_for : (c : Chain) (fresh : List ℕ) (blocks : ℕ) → blocks ≤ length (numbers c ++ fresh) → blocks ≤ length (stored (lists_of c) ++ replicate (length fresh) None)
room_for c fresh blocks low =
    omega (arith, low, length-append (numbers c) fresh, length-map c.blocks (λ (b : ℕ × List CatEntry). b.0), length-append (stored (lists_of c)) (replicate (length fresh) None), length-stored (lists_of c), length-map c.blocks list_in, length-replicate (length fresh) (nothing_known))
  where
    nothing_known : Option (Block CatEntry)
    nothing_known = None

-- ---- an entry goes that leads to a chain without chains below it

left_out : (r x g z : List ℕ) → AreApart r (x ++ (g ++ z)) → AreApart r (x ++ z)
left_out r x g z apart = apart_join r x z (apart_first r x (g ++ z) apart) (apart_rest (x ++ r) g z (apart_second r x (g ++ z) apart))

taken_out : (a t f g r : List ℕ) → AreApart [] (a ++ (t ++ (f ++ (g ++ r)))) → AreApart [] (a ++ (t ++ (f ++ r)))
taken_out a t f g r apart =
    let rest : AreApart (a ++ []) (t ++ (f ++ (g ++ r))) = apart_second [] a (t ++ (f ++ (g ++ r))) apart in
    apart_join [] a (t ++ (f ++ r)) (apart_first [] a (t ++ (f ++ (g ++ r))) apart)
    (apart_join (a ++ []) t (f ++ r) (apart_first (a ++ []) t (f ++ (g ++ r)) rest) (left_out (t ++ (a ++ [])) f g r (apart_second (a ++ []) t (f ++ (g ++ r)) rest)))

pub writes_drop : (per : ℕ) (store new : Store) (before : List Chain) (c : Chain) (after : List Chain) (ns : List ℕ) (list : List CatEntry) → AreChains per store (before ++ c ∷ after) → AreApart [] (all_numbers before ++ (ns ++ all_numbers after))
    → Reads per store new before c after ns list → (g : IsLostChain per store c list) → OneChainLost per store new before c after list g.lead
writes_drop per store new before c after ns list are apart read going =
    let d : Chain = read.chain in
    let loses : Loses per store new c d = record {
      us = going.us;
      lead = going.lead;
      vs = going.vs;
      was = going.was;
      is = leads_by c d list read.entries read.names read.level ∙ going.is;
      here = read.stands;
      leaf = going.leaf;
    } in
    let now = go per store new (root_lead ∷ []) before c d after loses read.first read.second are.follow in
    let parts : all_numbers after ≡ all_numbers now.front ++ (numbers now.gone ++ all_numbers now.rest) = ap all_numbers now.is ∙ numbers_append now.front (now.gone ∷ now.rest) in
    let used = used_apart (all_numbers before) ns (all_numbers now.front ++ (numbers now.gone ++ all_numbers now.rest)) (length d.blocks) (subst (λ (ks : List ℕ). AreApart [] (all_numbers before ++ (ns ++ ks))) parts apart) in
    record {
      chain = d;
      front = now.front;
      gone = now.gone;
      rest = now.rest;
      is = now.is;
      stood = now.stood;
      are = record {
        follow = now.follow;
        apart = subst (λ (ks : List ℕ). AreApart [] ks)
            (sym (numbers_append before (d ∷ (now.front ++ now.rest)) ∙ ap (λ (ks : List ℕ). all_numbers before ++ ks) (ap₂ (λ (xs ys : List ℕ). xs ++ ys) read.numbers_are (numbers_append now.front now.rest))))
            (taken_out (all_numbers before) (take (length d.blocks) ns) (all_numbers now.front) (numbers now.gone) (all_numbers now.rest) used);
      };
      entries = read.entries;
      names = read.names;
      level = read.level;
    }

-- ---- after first writes of a plan

-- they leave the chain reading as the old list or as the new one
pub plan_reads : (per blocks : ℕ) (store : Store) (before : List Chain) (c : Chain) (after : List Chain) (fresh : List ℕ) (list new : List CatEntry) (ws : List (ℕ × List CatEntry)) → 1 ≤ per
    → AreChains per store (before ++ c ∷ after) → AreApart [] (all_numbers before ++ ((numbers c ++ fresh) ++ all_numbers after)) → AllByRecursion (λ (k : ℕ). k < length store) (numbers c ++ fresh)
    → IsChainPlan c fresh list new blocks ws → (k : ℕ) → Reads per store (with_writes per (numbers c ++ fresh) blocks (take k ws) store) before c after (numbers c ++ fresh) list
    ⊎ Reads per store (with_writes per (numbers c ++ fresh) blocks (take k ws) store) before c after (numbers c ++ fresh) new
plan_reads per blocks store before c after fresh list new ws some are apart below plan k =
    by (plan.plan.survives list plan.cut plan.rises plan.rises_new plan.changes (replicate (length fresh) None) (room_for c fresh blocks plan.room) k)
  where
    by : (reads name_number (after_writes blocks (take k ws) (stored (lists_of c) ++ replicate (length fresh) None)) ≡ Some list) ⊎ (reads name_number (after_writes blocks (take k ws) (stored (lists_of c) ++ replicate (length fresh) None)) ≡ Some new)
        → Reads per store (with_writes per (numbers c ++ fresh) blocks (take k ws) store) before c after (numbers c ++ fresh) list
        ⊎ Reads per store (with_writes per (numbers c ++ fresh) blocks (take k ws) store) before c after (numbers c ++ fresh) new
    by (inl is) = inl (writes_read per blocks store before c after fresh (take k ws) list some are apart below (all_take c (length (numbers c ++ fresh)) k ws plan.writes) is plan.fits)
    by (inr is) = inr (writes_read per blocks store before c after fresh (take k ws) new some are apart below (all_take c (length (numbers c ++ fresh)) k ws plan.writes) is plan.fits_new)

-- a repair leaves it reading as it did
pub repair_reads : (per blocks : ℕ) (store : Store) (before : List Chain) (c : Chain) (after : List Chain) (ws : List (ℕ × List CatEntry)) → 1 ≤ per → AreChains per store (before ++ c ∷ after)
    → AreApart [] (all_numbers before ++ ((numbers c ++ []) ++ all_numbers after)) → AllByRecursion (λ (k : ℕ). k < length store) (numbers c ++ []) → IsChainRepair c blocks ws → (k : ℕ)
    → OneChainReads per (with_writes per (numbers c ++ []) blocks (take k ws) store) before c after (kept name_number (joined (lists_of c)))
repair_reads per blocks store before c after ws some are apart below plan k =
    let list : List CatEntry = kept name_number (joined (lists_of c)) in
    let read = writes_read per blocks store before c after [] (take k ws) list some are apart below (all_take c (length (numbers c ++ [])) k ws plan.writes) ((plan.plan.repairs plan.fit_all refl).1 (replicate 0 None) k) plan.fits in
    writes_leave per store (with_writes per (numbers c ++ []) blocks (take k ws) store) before c after (numbers c ++ []) list are apart read (ap (filter_map (lead_in c)) (sym (entries_by c)))
