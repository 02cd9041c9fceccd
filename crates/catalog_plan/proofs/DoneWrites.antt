-- What all writes of a plan leave of a chain.
use Rattle.std.proofs.Common.{◌≡◌, inr, ◌≤◌, ◌<◌, ℕ, suc, true, List, [], ◌∷◌, ◌++◌, length, map, drop, replicate, Option, Some, None, refl, sym, ap, subst, ◌∙◌, arith}
use Rattle.std.specs.Prelude.{nat_eq, slice_get, slice_index}
use Rattle.std.specs.List.{AllByRecursion}
use Rattle.std.proofs.lemmas.List.{length-set}
use Rattle.chain_spec.specs.Kept.{joined, kept}
use Rattle.chain_spec.specs.Store.{Block, stored}
use Rattle.sorted_chain.specs.Plan.{after_write, after_writes}
use Rattle.vol_model.specs.declared.contents.Place.{Place}
use Rattle.catalog_blocks.specs.declared.blocks.CatBlock.{CatBlock}
use Rattle.catalog_blocks.specs.declared.blocks.CatEntry.{CatEntry}
use Rattle.catalog_blocks.specs.Blocks.{name_number}
use Rattle.catalog_blocks.specs.declared.chains.Level.{Level}
use Rattle.catalog_blocks.specs.declared.chains.Chain.{Chain}
use Rattle.catalog_blocks.specs.declared.chains.Lead.{Lead}
use Rattle.catalog_blocks.specs.Trees.{Store, chain_to, is_control, number_at, numbers, place_of}
use Rattle.catalog_laws.specs.Forests.{AreApart, Links, StandsAt, SuitFrom}
use Rattle.catalog_laws.specs.Writes.{IsWrite, fit, lists_of, next_after, no_place, with_write, with_writes}
use Rattle.catalog_laws.proofs.Places.{number_place}
use Rattle.catalog_laws.proofs.SeenChains.{IsSeen, View, links_seen, write_seen}
use Rattle.catalog_laws.proofs.SuitedBlocks.{list_in, suit_on}
use Rattle.catalog_plan.specs.Cuts.{at_numbers, cut_chain}

-- what is seen of a chain after writes of its blocks
pub seen_after : (per blocks : ℕ) (store : Store) (ns : List ℕ) (c : Chain) (view : View) (ws : List (ℕ × List CatEntry)) → AreApart [] ns → AllByRecursion (λ (k : ℕ). k < length store) ns → AllByRecursion (IsWrite c (length ns)) ws
    → IsSeen per store ns view → IsSeen per (with_writes per ns blocks ws store) ns (after_writes blocks ws view)
seen_after per blocks store ns c view [] apart below all seen = seen
seen_after per blocks store ns c view (w ∷ ws) apart below all seen =
    let b : Block CatEntry = record { entries = w.1; ends = nat_eq (suc w.0) blocks } in
    let x : Option CatBlock = Some (record { entries = w.1; next = next_after per (nat_eq (suc w.0) blocks) (drop (suc w.0) ns) }) in
    seen_after per blocks (with_write per ns blocks w store) ns c (after_write blocks w view) ws apart
    (subst (λ (n : ℕ). AllByRecursion (λ (k : ℕ). k < n) ns) (sym (length-set store (slice_index ns w.0) x)) below)
    all.1
    (write_seen per store ns [] view w.0 b apart below all.0.place seen)

length-writes : (per blocks : ℕ) (store : Store) (ns : List ℕ) (ws : List (ℕ × List CatEntry)) → length (with_writes per ns blocks ws store) ≡ length store
length-writes per blocks store ns [] = refl
length-writes per blocks store ns (w ∷ ws) =
    length-writes per blocks (with_write per ns blocks w store) ns ws
    ∙ length-set store (slice_index ns w.0) (Some (record { entries = w.1; next = next_after per (nat_eq (suc w.0) blocks) (drop (suc w.0) ns) }))

-- blocks that are seen in front of others are linked
stored_links : (per : ℕ) (store : Store) (n : ℕ) (ns : List ℕ) (b : List CatEntry) (bs : List (List CatEntry)) (rest : View) (p : Place) → 1 ≤ per → number_at per (length store) p ≡ Some n
    → AllByRecursion (λ (k : ℕ). k < length store) ns → IsSeen per store (n ∷ ns) (stored (b ∷ bs) ++ rest) → Links per store p (at_numbers (n ∷ ns) (b ∷ bs))
stored_links per store n ns b [] rest p some here below seen = (here, no_place, seen.0, refl)
stored_links per store n [] b (c ∷ []) rest p some here below seen = absurd seen.1
stored_links per store n [] b (c ∷ d ∷ ds) rest p some here below seen = absurd seen.1
stored_links per store n (m ∷ ms) b (c ∷ cs) rest p some here below seen =
    (here, place_of per m, seen.0, stored_links per store m ms c cs rest (place_of per m) some (number_place per (length store) m some below.0) below.1 seen.1)

pub lists_at : (ns : List ℕ) (bs : List (List CatEntry)) → length bs ≤ length ns → map list_in (at_numbers ns bs) ≡ bs
lists_at ns [] low = refl
lists_at [] (b ∷ bs) low = absurd (omega (arith, low))
lists_at (n ∷ ns) (b ∷ bs) low = ap (λ (xs : List (List CatEntry)). b ∷ xs) (lists_at ns bs (omega (arith, low)))

-- the first block of a chain has the first of its numbers
first_number : (per : ℕ) (store : Store) (fresh : List ℕ) (p : Place) (bs : List (ℕ × List CatEntry)) → 1 ≤ length bs → Links per store p bs → number_at per (length store) p ≡ slice_get (map (λ (b : ℕ × List CatEntry). b.0) bs ++ fresh) 0
first_number per store fresh p [] some links = absurd (omega (arith, some))
first_number per store fresh p (b ∷ bs) some links = links.0

module _ (per blocks : ℕ) (store : Store) (l : Lead) (c : Chain) (fresh : List ℕ) (cut : List (List CatEntry)) (list : List CatEntry) (ws : List (ℕ × List CatEntry)) where
  abbrev new : Store
  new = with_writes per (numbers c ++ fresh) blocks ws store

  -- the chain stands in the blocks of the cut when all of them are written
  pub stands_done : 1 ≤ per → StandsAt per store l c → AreApart [] (numbers c ++ fresh) → AllByRecursion (λ (k : ℕ). k < length store) (numbers c ++ fresh) → AllByRecursion (IsWrite c (length (numbers c ++ fresh))) ws
      → 1 ≤ length cut → length cut ≤ length (numbers c ++ fresh) → ((b : List CatEntry) → slice_get cut 0 ≡ Some b → is_control c.level (slice_get b 0) ≡ true)
      → after_writes blocks ws (stored (lists_of c) ++ replicate (length fresh) None) ≡ stored cut ++ drop blocks (stored (lists_of c) ++ replicate (length fresh) None)
      → kept name_number (joined cut) ≡ list → fit c.level list ≡ true → StandsAt per new l (cut_chain c (numbers c ++ fresh) cut)
  stands_done some stands apart below writes full room begins packs kept_is fits =
      by (numbers c ++ fresh) cut refl refl
    where
      rest : View
      rest = drop blocks (stored (lists_of c) ++ replicate (length fresh) None)

      size : length new ≡ length store
      size = length-writes per blocks store (numbers c ++ fresh) ws

      seen : IsSeen per new (numbers c ++ fresh) (stored cut ++ rest)
      seen = subst (IsSeen per new (numbers c ++ fresh)) packs (seen_after per blocks store (numbers c ++ fresh) c (stored (lists_of c) ++ replicate (length fresh) None) ws apart below writes (links_seen per store fresh l.place c.blocks stands.links))

      here : number_at per (length new) l.place ≡ slice_get (numbers c ++ fresh) 0
      here = ap (λ (n : ℕ). number_at per n l.place) size ∙ first_number per store fresh l.place c.blocks stands.some stands.links

      within : AllByRecursion (λ (k : ℕ). k < length new) (numbers c ++ fresh)
      within = subst (λ (n : ℕ). AllByRecursion (λ (k : ℕ). k < n) (numbers c ++ fresh)) (sym size) below

      level : c.level ≡ l.level
      level = ap (λ (x : Chain). x.level) stands.is

      by : (ns : List ℕ) (bs : List (List CatEntry)) → numbers c ++ fresh ≡ ns → cut ≡ bs → StandsAt per new l (cut_chain c (numbers c ++ fresh) cut)
      by ns [] same cut_is = absurd (omega (arith, full, ap length cut_is))
      by [] (b ∷ bs) same cut_is = absurd (omega (arith, full, room, ap length same))
      by (n ∷ ns) (b ∷ bs) same cut_is =
          let links : Links per new l.place (at_numbers (n ∷ ns) (b ∷ bs)) =
          stored_links per new n ns b bs rest l.place some (here ∙ ap (λ (ks : List ℕ). slice_get ks 0) same) (subst (AllByRecursion (λ (k : ℕ). k < length new)) same within).1
          (subst (λ (xs : List (List CatEntry)). IsSeen per new (n ∷ ns) (stored xs ++ rest)) cut_is (subst (λ (ks : List ℕ). IsSeen per new ks (stored cut ++ rest)) same seen)) in
          let lists : map list_in (at_numbers (n ∷ ns) (b ∷ bs)) ≡ cut = lists_at (n ∷ ns) (b ∷ bs) (subst (λ (ks : List ℕ). length (b ∷ bs) ≤ length ks) same (subst (λ (xs : List (List CatEntry)). length xs ≤ length (numbers c ++ fresh)) cut_is room)) ∙ sym cut_is in
          let control : is_control l.level (slice_get b 0) ≡ true = subst (λ (v : Level). is_control v (slice_get b 0) ≡ true) level (begins b (ap (λ (xs : List (List CatEntry)). slice_get xs 0) cut_is)) in
          let suit : SuitFrom (chain_to l) (at_numbers (n ∷ ns) (b ∷ bs)) =
          suit_on (chain_to l) (at_numbers (n ∷ ns) (b ∷ bs)) (inr (λ x is. first x control is))
          (ap (λ (xs : List (List CatEntry)). fit l.level (kept name_number (joined xs))) lists ∙ ap (fit l.level) kept_is ∙ subst (λ (v : Level). fit v list ≡ true) level fits) in
          let blocks_are : at_numbers (n ∷ ns) (b ∷ bs) ≡ at_numbers (numbers c ++ fresh) cut = ap (λ (ks : List ℕ). at_numbers ks (b ∷ bs)) (sym same) ∙ ap (at_numbers (numbers c ++ fresh)) (sym cut_is) in
          subst (λ (xs : List (ℕ × List CatEntry)). StandsAt per new l (record c { blocks = xs })) blocks_are
          (record {
            some = omega arith;
            links = links;
            suit = suit;
            is = ap (λ (x : Chain). record x { blocks = at_numbers (n ∷ ns) (b ∷ bs) }) stands.is;
          })
        where
          first : (x : ℕ × List CatEntry) → is_control l.level (slice_get b 0) ≡ true → Some (n, b) ≡ Some x → is_control l.level (slice_get x.1 0) ≡ true
          first x control is =
              let pair : ℕ × List CatEntry = (n, b) in
              let same_pair : pair ≡ x = cc in
              subst (λ (y : ℕ × List CatEntry). is_control l.level (slice_get y.1 0) ≡ true) same_pair control
