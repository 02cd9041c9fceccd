-- What the writes of a plan make of a catalog when no chain comes or goes.
use Rattle.std.proofs.Common.{◌≡◌, ◌⊎◌, inl, inr, ⊎_elim, ◌≤◌, ◌<◌, ℕ, suc, true, List, [], ◌∷◌, ◌++◌, length, map, take, drop, replicate, Option, Some, None, refl, sym, ap, ap₂, subst, ◌∙◌, arith, length-append}
use Rattle.std.specs.Prelude.{nat_eq, slice_get}
use Rattle.std.specs.List.{AllByRecursion, filter_map, flat_map}
use Rattle.std.proofs.lemmas.Bool.{true≢false}
use Rattle.std.proofs.lemmas.Grind.{flat_map-append}
use Rattle.std.proofs.lemmas.List.{length-map, length-replicate, length-set, take_all, take_at}
use Rattle.chain_spec.proofs.StoreLemmas.{length-stored}
use Rattle.chain_spec.proofs.KeptLemmas.{kept_all}
use Rattle.chain_spec.specs.Kept.{joined, kept}
use Rattle.chain_spec.specs.Store.{Block, stored}
use Rattle.sorted_chain.specs.Plan.{after_write, after_writes}
use Rattle.ebcdic_names.specs.declared.names.Name8.{Name8}
use Rattle.vol_model.specs.Trees.{Node, way}
use Rattle.catalog_blocks.specs.declared.blocks.CatEntry.{CatEntry}
use Rattle.catalog_blocks.specs.Blocks.{name_number}
use Rattle.catalog_blocks.specs.declared.chains.Level.{Level}
use Rattle.catalog_blocks.specs.declared.chains.Chain.{Chain}
use Rattle.catalog_blocks.specs.Trees.{Store, by_ways, chain_nodes, entries_of, is_control, lead_in, name_in, node_in, nodes_in, numbers, root_lead}
use Rattle.catalog_laws.specs.Forests.{AreApart, AreChains, all_numbers, leads_of}
use Rattle.catalog_laws.specs.Writes.{IsChainPlan, IsWrite, OneChainReads, lists_of, with_writes}
use Rattle.catalog_laws.proofs.Apart.{apart_first, apart_less, apart_second}
use Rattle.catalog_laws.proofs.NodePlaces.{split_joined}
use Rattle.catalog_laws.proofs.PlanWrites.{plan_reads, writes_leave}
use Rattle.catalog_laws.proofs.SeenChains.{IsSeen, View, links_seen}
use Rattle.catalog_laws.proofs.SuitedBlocks.{entries_by, list_in}
use Rattle.catalog_plan.specs.declared.writes.BlockWrite.{BlockWrite}
use Rattle.catalog_plan.specs.Cuts.{cut_chain}
use Rattle.catalog_plan.specs.Stops.{HoldsEither}
use Rattle.catalog_plan.specs.Thinned.{AreThinned, IsSame, wrote}
use Rattle.catalog_plan.proofs.DoneWrites.{lists_at, seen_after, stands_done}
use Rattle.catalog_plan.proofs.OneChain.{stands_one, stood_in}
use Rattle.catalog_plan.proofs.ThinnedWrites.{IsReached, all_done, reached}

-- ---- chains with the same entries have the same nodes

nodes_of : (c d : Chain) → d.names ≡ c.names → d.level ≡ c.level → entries_of d ≡ entries_of c → chain_nodes d ≡ chain_nodes c
nodes_of c d names level entries =
    ap (map (λ (e : CatEntry). (way (d.names ++ name_in d.level e.name ∷ []), node_in d.level e))) entries
    ∙ ap₂ (λ (ns : List Name8) (v : Level). map (λ (e : CatEntry). (way (ns ++ name_in v e.name ∷ []), node_in v e)) (entries_of c)) names level

pub nodes_alike : (before : List Chain) (c d : Chain) (after : List Chain) → d.names ≡ c.names → d.level ≡ c.level → entries_of d ≡ entries_of c → nodes_in (before ++ d ∷ after) ≡ nodes_in (before ++ c ∷ after)
unfolding nodes_in
nodes_alike before c d after names level entries =
    ap by_ways
    (flat_map-append chain_nodes before (d ∷ after)
    ∙ ap (λ (xs : List Node). flat_map chain_nodes before ++ (xs ++ flat_map chain_nodes after)) (nodes_of c d names level entries)
    ∙ sym (flat_map-append chain_nodes before (c ∷ after)))

-- ---- writes

length-after : (n : ℕ) (ws : List (ℕ × List CatEntry)) (view : View) → length (after_writes n ws view) ≡ length view
length-after n [] view = refl
length-after n (w ∷ ws) view = length-after n ws (after_write n w view) ∙ length-set view w.0 (Some (record { entries = w.1; ends = nat_eq (suc w.0) n }))

module _ (per n : ℕ) (store : Store) (before : List Chain) (c : Chain) (after : List Chain) (fresh : List ℕ) (list new : List CatEntry) (ws : List (ℕ × List CatEntry)) (out : List BlockWrite)
    (some : 1 ≤ per) (are : AreChains per store (before ++ c ∷ after)) (apart : AreApart [] (all_numbers before ++ ((numbers c ++ fresh) ++ all_numbers after)))
    (below : AllByRecursion (λ (k : ℕ). k < length store) (numbers c ++ fresh)) (plan : IsChainPlan c fresh list new n ws) (thin : AreThinned per (lists_of c) (numbers c ++ fresh) n ws out) where
  abbrev ns : List ℕ
  ns = numbers c ++ fresh

  abbrev view : View
  view = stored (lists_of c) ++ replicate (length fresh) None

  -- the chain as it is to be
  abbrev pub then_chain : Chain
  then_chain = cut_chain c (numbers c ++ fresh) plan.plan.cut

  mine : AreApart [] ns
  mine = apart_less (all_numbers before ++ []) [] ns (λ k is. absurd (true≢false (sym is))) (apart_first (all_numbers before ++ []) ns (all_numbers after) (apart_second [] (all_numbers before) (ns ++ all_numbers after) apart))

  seen : IsSeen per store ns view
  seen =
      let at = stood_in per store store (root_lead ∷ []) before c after c after are.follow are.follow in
      links_seen per store fresh at.lead.place c.blocks at.stood.links

  seen_first : (done rest : List (ℕ × List CatEntry)) → ws ≡ done ++ rest → IsSeen per (with_writes per ns n done store) ns (after_writes n done view)
  seen_first done rest is = seen_after per n store ns c view done mine below (split_joined (IsWrite c (length ns)) done rest (subst (AllByRecursion (IsWrite c (length ns))) is plan.writes)).0 seen

  size : length view ≡ length ns
  size =
      omega (arith, length-append (numbers c) fresh, length-map c.blocks (λ (b : ℕ × List CatEntry). b.0), length-append (stored (lists_of c)) (replicate (length fresh) unknown), length-stored (lists_of c), length-map c.blocks list_in, length-replicate (length fresh) unknown)
    where
      unknown : Option (Block CatEntry)
      unknown = None

  within : (done : List (ℕ × List CatEntry)) (w : ℕ × List CatEntry) (rest : List (ℕ × List CatEntry)) → ws ≡ done ++ (w ∷ rest) → w.0 < length (after_writes n done view)
  within done w rest is =
      let one = (split_joined (IsWrite c (length ns)) done (w ∷ rest) (subst (AllByRecursion (IsWrite c (length ns))) is plan.writes)).1.0 in
      omega (arith, one.place, length-after n done view, size)

  still : (done : List (ℕ × List CatEntry)) (w : ℕ × List CatEntry) (rest : List (ℕ × List CatEntry)) → ws ≡ done ++ (w ∷ rest) → IsSame (lists_of c) n w → after_write n w (after_writes n done view) ≡ after_writes n done view
  still done w rest is same = plan.plan.unchanged done w rest is same.entries same.ends (replicate (length fresh) None)

  pub some_first : (k : ℕ) → IsReached per ns n ws store (wrote (take k out) store)
  some_first k = reached per n store (lists_of c) ns view ws seen_first within still k [] ws out refl thin

  pub all_first : wrote out store ≡ with_writes per ns n ws store
  all_first = all_done per n store (lists_of c) ns view ws seen_first within still [] ws out refl thin

  -- what some first of the writes leave reads as the old list or as the new one
  pub reads_first : (j : ℕ) → filter_map (lead_in c) (drop 1 new) ≡ leads_of c
      → OneChainReads per (with_writes per ns n (take j ws) store) before c after list ⊎ OneChainReads per (with_writes per ns n (take j ws) store) before c after new
  reads_first j leads =
      let now : Store = with_writes per ns n (take j ws) store in
      ⊎_elim
      (λ read. inl (writes_leave per store now before c after ns list are apart read plan.leads))
      (λ read. inr (writes_leave per store now before c after ns new are apart read leads))
      (plan_reads per n store before c after fresh list new ws some are apart below plan j)

  -- the chain that stands in the blocks of the plan is the one to be
  pub then_stands : (begins : (b : List CatEntry) → slice_get plan.plan.cut 0 ≡ Some b → is_control c.level (slice_get b 0) ≡ true) → 1 ≤ length plan.plan.cut
      → (x : Chain) (more : List Chain) → AreChains per (with_writes per ns n ws store) (before ++ x ∷ more) → x ≡ then_chain
  then_stands begins full x more now =
      let at = stood_in per store (with_writes per ns n ws store) (root_lead ∷ []) before c after x more are.follow now.follow in
      let room : length plan.plan.cut ≤ length ns = omega (arith, plan.room, plan.plan.number) in
      let kept_is : kept name_number (joined plan.plan.cut) ≡ new = ap (kept name_number) plan.plan.is_cut.holds ∙ kept_all name_number 0 0 new (omega arith) plan.rises_new in
      let packed = plan.plan.packs view (omega (arith, plan.room, size)) in
      stands_one per (with_writes per ns n ws store) at.lead x then_chain at.stands
      (stands_done per n store at.lead c fresh plan.plan.cut new ws some at.stood mine below plan.writes full room begins packed kept_is plan.fits_new)

  -- its entries are those of the new list
  pub then_entries : length plan.plan.cut ≤ length ns → entries_of then_chain ≡ drop 1 new
  then_entries room =
      entries_by then_chain
      ∙ ap (λ (xs : List (List CatEntry)). drop 1 (kept name_number (joined xs))) (lists_at ns plan.plan.cut room)
      ∙ ap (drop 1) (ap (kept name_number) plan.plan.is_cut.holds ∙ kept_all name_number 0 0 new (omega arith) plan.rises_new)

  module _ (leads : filter_map (lead_in c) (drop 1 new) ≡ leads_of c) (was : entries_of c ≡ drop 1 list) (full : 1 ≤ length plan.plan.cut)
      (begins : (b : List CatEntry) → slice_get plan.plan.cut 0 ≡ Some b → is_control c.level (slice_get b 0) ≡ true) where
    -- after any first of the writes the nodes are those of the old list or of the new one
    pub plain_stops : (k : ℕ) → HoldsEither per (wrote (take k out) store) (nodes_in (before ++ c ∷ after)) (nodes_in (before ++ then_chain ∷ after))
    plain_stops k = on (some_first k)
      where
        on : IsReached per ns n ws store (wrote (take k out) store) → HoldsEither per (wrote (take k out) store) (nodes_in (before ++ c ∷ after)) (nodes_in (before ++ then_chain ∷ after))
        on r =
            let front : take (length r.first) ws ≡ r.first = ap (take (length r.first)) r.is ∙ take_at r.first r.later (length r.first) refl in
            let same : with_writes per ns n (take (length r.first) ws) store ≡ wrote (take k out) store = ap (λ (xs : List (ℕ × List CatEntry)). with_writes per ns n xs store) front ∙ sym r.now_is in
            ⊎_elim
            (λ read. record {
              chains = before ++ read.chain ∷ after;
              are = subst (λ (s : Store). AreChains per s (before ++ read.chain ∷ after)) same read.are;
              nodes_are = inl (nodes_alike before c read.chain after read.names read.level (read.entries ∙ sym was));
            })
            (λ read. record {
              chains = before ++ read.chain ∷ after;
              are = subst (λ (s : Store). AreChains per s (before ++ read.chain ∷ after)) same read.are;
              nodes_are = inr (nodes_alike before then_chain read.chain after read.names read.level (read.entries ∙ sym (then_entries (omega (arith, plan.room, plan.plan.number)))));
            })
            (reads_first (length r.first) leads)

    -- after all of them the chain is cut as planned
    pub plain_all : AreChains per (wrote out store) (before ++ then_chain ∷ after)
    plain_all =
        subst (λ (s : Store). AreChains per s (before ++ then_chain ∷ after)) (sym all_first)
        (⊎_elim (λ read. by list read) (λ read. by new read) (subst (λ (xs : List (ℕ × List CatEntry)). OneChainReads per (with_writes per ns n xs store) before c after list ⊎ OneChainReads per (with_writes per ns n xs store) before c after new) (take_all (length ws) ws (omega arith)) (reads_first (length ws) leads)))
      where
        by : (es : List CatEntry) → OneChainReads per (with_writes per ns n ws store) before c after es → AreChains per (with_writes per ns n ws store) (before ++ then_chain ∷ after)
        by es read = subst (λ (x : Chain). AreChains per (with_writes per ns n ws store) (before ++ x ∷ after)) (then_stands begins full read.chain after read.are) read.are
