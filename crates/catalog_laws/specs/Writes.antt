-- What writes of a chain's blocks leave of a catalog, in this project's profile.
use Rattle.std.specs.Prelude.{◌||◌, not, ◌≡◌, ℕ, suc, ◌≤◌, ◌<◌, Bool, true, false, nat_eq, List, [], ◌∷◌, ◌++◌, drop, length, map, set, slice_get, slice_index, Some}
use Rattle.std.specs.List.{AllByRecursion, filter_map, list_all}
use Rattle.chain_spec.specs.Cut.{AllFit, IsCut}
use Rattle.chain_spec.specs.Kept.{Rises, joined, kept}
use Rattle.sorted_chain.specs.Plan.{ChangesOne, IsPlan}
use Rattle.vol_model.specs.declared.contents.Place.{Place}
use Rattle.catalog_blocks.specs.declared.blocks.CatEntry.{CatEntry}
use Rattle.catalog_blocks.specs.Blocks.{chain_size, name_number}
use Rattle.catalog_blocks.specs.declared.chains.Level.{Level}
use Rattle.catalog_blocks.specs.declared.chains.Chain.{Chain}
use Rattle.catalog_blocks.specs.declared.chains.Lead.{Lead}
use Rattle.catalog_blocks.specs.Trees.{Store, entries_of, fits_group, is_control, is_group, lead_in, numbers, place_of}
use Rattle.catalog_laws.specs.Forests.{AreApart, AreChains, StandsAt, all_numbers, leads_of}

-- zeros, which lead on to no block
abbrev pub no_place : Place
no_place = record { tt = 0; r = 0 }

-- where a block of a chain leads on, which ends it or not, with these numbers after its own
abbrev pub next_after : ℕ → Bool → List ℕ → Place
next_after per true ns = no_place
next_after per false [] = no_place
next_after per false (n ∷ ns) = place_of per n

-- a store with one block of a chain written, which is to have so many blocks, at these numbers
abbrev pub with_write : ℕ → List ℕ → ℕ → ℕ × List CatEntry → Store → Store
with_write per ns blocks w store =
    set store (slice_index ns w.0) (Some (record { entries = w.1; next = next_after per (nat_eq (suc w.0) blocks) (drop (suc w.0) ns) }))

-- with several, one after the other
abbrev pub with_writes : ℕ → List ℕ → ℕ → List (ℕ × List CatEntry) → Store → Store
with_writes per ns blocks [] store = store
with_writes per ns blocks (w ∷ ws) store = with_writes per ns blocks ws (with_write per ns blocks w store)

-- the entries of each block of a chain
abbrev pub lists_of : Chain → List (List CatEntry)
lists_of c = map (λ (b : ℕ × List CatEntry). b.1) c.blocks

-- A write is that of one of so many blocks, and the first block begins with its control entry.
pub record IsWrite (c : Chain) (places : ℕ) (w : ℕ × List CatEntry) : Type 0 where
  pub place : w.0 < places
  pub begins : w.0 ≡ 0 → is_control c.level (slice_get w.1 0) ≡ true

-- under a group the names of these are those of generations
abbrev pub fit : Level → List CatEntry → Bool
fit level es = not (is_group level) || list_all fits_group es

-- In a catalog a chain has given way to one that reads as these entries; all others stand as they did.
pub record OneChainReads (per : ℕ) (new : Store) (before : List Chain) (c : Chain) (after : List Chain) (list : List CatEntry) : Type 0 where
  pub chain : Chain
  pub are : AreChains per new (before ++ chain ∷ after)
  pub entries : entries_of chain ≡ drop 1 list
  pub names : chain.names ≡ c.names
  pub level : chain.level ≡ c.level

-- So many blocks and these writes are a plan by which a chain that is cut comes to hold a new list, one of
-- whose entries changes; it may take blocks of these numbers that no chain reaches.
pub record IsChainPlan (c : Chain) (fresh : List ℕ) (list new : List CatEntry) (blocks : ℕ) (ws : List (ℕ × List CatEntry)) : Type 0 where
  pub cut : IsCut chain_size 242 0 (lists_of c) list
  pub rises : Rises name_number list
  pub rises_new : Rises name_number new
  pub changes : ChangesOne name_number list new
  pub plan : IsPlan name_number chain_size 242 0 (lists_of c) new blocks ws
  pub room : blocks ≤ length (numbers c ++ fresh)
  pub writes : AllByRecursion (IsWrite c (length (numbers c ++ fresh))) ws
  pub fits : fit c.level list ≡ true
  pub fits_new : fit c.level new ≡ true
  pub leads : filter_map (lead_in c) (drop 1 list) ≡ leads_of c

-- A new chain stands where one more entry leads, by a block that no chain reaches.
pub record IsNewChain (per : ℕ) (store : Store) (before : List Chain) (c : Chain) (after : List Chain) (ns : List ℕ) (list : List CatEntry) (e : Chain) : Type 0 where
  pub us : List Lead
  pub lead : Lead
  pub vs : List Lead
  pub was : leads_of c ≡ us ++ vs
  pub is : filter_map (lead_in c) (drop 1 list) ≡ us ++ lead ∷ vs
  pub there : StandsAt per store lead e
  pub leaf : leads_of e ≡ []
  pub apart : AreApart [] (numbers e ++ (all_numbers before ++ (ns ++ all_numbers after)))

-- In a catalog a chain reads as these entries, and leads to one more chain; all others stand as they did.
pub record OneChainGained (per : ℕ) (new : Store) (before : List Chain) (c : Chain) (after : List Chain) (list : List CatEntry) (e : Chain) : Type 0 where
  pub chain : Chain
  pub front : List Chain
  pub rest : List Chain
  pub is : after ≡ front ++ rest
  pub are : AreChains per new (before ++ chain ∷ (front ++ e ∷ rest))
  pub entries : entries_of chain ≡ drop 1 list
  pub names : chain.names ≡ c.names
  pub level : chain.level ≡ c.level

-- A chain goes to which an entry leads that the list hasn't.
pub record IsLostChain (per : ℕ) (store : Store) (c : Chain) (list : List CatEntry) : Type 0 where
  pub us : List Lead
  pub lead : Lead
  pub vs : List Lead
  pub was : leads_of c ≡ us ++ lead ∷ vs
  pub is : filter_map (lead_in c) (drop 1 list) ≡ us ++ vs
  pub leaf : (d : Chain) → StandsAt per store lead d → leads_of d ≡ []

-- In a catalog a chain reads as these entries, and leads to one chain less; all others stand as they did.
pub record OneChainLost (per : ℕ) (store new : Store) (before : List Chain) (c : Chain) (after : List Chain) (list : List CatEntry) (lead : Lead) : Type 0 where
  pub chain : Chain
  pub front : List Chain
  pub gone : Chain
  pub rest : List Chain
  pub is : after ≡ front ++ gone ∷ rest
  pub stood : StandsAt per store lead gone
  pub are : AreChains per new (before ++ chain ∷ (front ++ rest))
  pub entries : entries_of chain ≡ drop 1 list
  pub names : chain.names ≡ c.names
  pub level : chain.level ≡ c.level

-- So many blocks and these writes are a plan by which a chain comes to be cut as its entries need.
pub record IsChainRepair (c : Chain) (blocks : ℕ) (ws : List (ℕ × List CatEntry)) : Type 0 where
  pub fit_all : AllFit chain_size 242 0 (lists_of c)
  pub plan : IsPlan name_number chain_size 242 0 (lists_of c) (kept name_number (joined (lists_of c))) blocks ws
  pub writes : AllByRecursion (IsWrite c (length (numbers c ++ []))) ws
  pub fits : fit c.level (kept name_number (joined (lists_of c))) ≡ true
