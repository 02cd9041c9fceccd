-- What stands at a way in a catalog in memory, by the laws of its nodes.
use Rattle.std.proofs.Common.{◌≡◌, ◌+◌, ◌<◌, ◌≤◌, ℕ, zero, suc, List, [], ◌∷◌, ◌++◌, length, get_or, map, take, drop, Option, Some, None, refl, sym, ap, subst, ◌∙◌, arith}
use Rattle.std.specs.Prelude.{option_and_then, option_map, slice_get}
use Rattle.std.specs.Bool.{Decides}
use Rattle.std.specs.List.{AllByRecursion}
use Rattle.std.specs.Str.{bytes_eq}
use Rattle.std.proofs.lemmas.List.{map-append}
use Rattle.std.proofs.lemmas.Slice.Eq.{bytes_eq-Decides}
use Rattle.sorted_chain.proofs.Walks.{take_read}
use Rattle.shelf_laws.proofs.Lists.{all_joined}
use Rattle.ebcdic_names.specs.declared.names.Name8.{Name8}
use Rattle.vol_model.specs.declared.catalogs.CatNode.{CatNode}
use Rattle.vol_model.specs.Trees.{Node, child_at, last_name, node_at, way}
use Rattle.catalog_blocks.specs.declared.blocks.CatEntry.{CatEntry}
use Rattle.catalog_blocks.specs.declared.chains.Level.{Level}
use Rattle.catalog_blocks.specs.declared.chains.Chain.{Chain}
use Rattle.catalog_blocks.specs.Trees.{entries_of, name_in, node_in, nodes_in}
use Rattle.catalog_laws.specs.Nodes.{AreTree, HasEntry}
use Rattle.catalog_laws.proofs.Children.{child_there, none_below}
use Rattle.catalog_laws.proofs.NodePlaces.{no_names, node_there, split_joined}
use Rattle.catalog_laws.proofs.NodesBelow.{one_name}
use Rattle.catalog_laws.proofs.NodesFound.{node_entry, none_there}
use Rattle.catalog_laws.proofs.SuitedBlocks.{entry_in}
use Rattle.catalog_plan.specs.declared.branch.Branch.{Branch}
use Rattle.catalog_plan.specs.Branches.{chains_of}
use Rattle.catalog_plan.specs.Finding.{HasBranch, HasEntryAt}

-- ---- lists

-- a list around the item of an index
pub parted : {X : Type 0} (xs : List X) (k : ℕ) (x : X) → slice_get xs k ≡ Some x → xs ≡ take k xs ++ (x ∷ drop (suc k) xs)
parted [] k x is = cc
parted (y ∷ ys) zero x is = let same : y ≡ x = cc in ap (λ z. z ∷ ys) same
parted (y ∷ ys) (suc k) x is = ap (λ zs. y ∷ zs) (parted ys k x is)

-- what holds of what each stands for
all_map : {X Y : Type 0} (P : Y → Type 0) (f : X → Y) (xs : List X) → AllByRecursion (λ (x : X). P (f x)) xs → AllByRecursion P (map f xs)
all_map P f [] all = tt
all_map P f (x ∷ xs) all = (all.0, all_map P f xs all.1)

none_by : {X : Type 0} (o : Option X) → ((x : X) → o ≡ Some x → ⊥) → o ≡ None
none_by None none = refl
none_by (Some x) none = absurd (none x refl)

-- ---- chains and entries in memory

pub chains_around : (bs : List Branch) (k : ℕ) (b : Branch) → slice_get bs k ≡ Some b → chains_of bs ≡ chains_of (take k bs) ++ (b.chain ∷ chains_of (drop (suc k) bs))
chains_around bs k b at = ap chains_of (parted bs k b at) ∙ map-append (λ (x : Branch). x.chain) (take k bs) (b ∷ drop (suc k) bs)

pub entries_held : (b : Branch) → entries_of b.chain ≡ map entry_in (drop 1 b.held)
entries_held b = ap (λ (ps : List (ℕ × CatEntry)). map entry_in (drop 1 ps)) (sym b.held_is)

-- the entries around one of an index
pub entry_parts : (ps : List (ℕ × CatEntry)) (i : ℕ) (p : ℕ × CatEntry) → 1 ≤ i → slice_get ps i ≡ Some p → (us : List CatEntry) × (vs : List CatEntry) × (map entry_in (drop 1 ps) ≡ us ++ p.1 ∷ vs)
entry_parts [] i p some at = cc
entry_parts (q ∷ ps) zero p some at = absurd (omega (arith, some))
entry_parts (q ∷ ps) (suc i) p some at = (
  map entry_in (take i ps),
  map entry_in (drop (suc i) ps),
  ap (map entry_in) (parted ps i p at) ∙ map-append entry_in (take i ps) (p ∷ drop (suc i) ps),
)

-- ---- names

pub name_decides : (a b : Name8) → Decides (bytes_eq a.bytes b.bytes) (a ≡ b)
name_decides a b = (
  λ is. ap (λ (bytes : List ℕ). record { bytes = bytes }) ((bytes_eq-Decides a.bytes b.bytes).0 is),
  λ same. (bytes_eq-Decides a.bytes b.bytes).1 (ap (λ (n : Name8). n.bytes) same),
)

-- ---- a search

-- one more chain that isn't the one
pub others_more : (P : Chain → Type 0) (bs : List Branch) (k : ℕ) (b : Branch) → k < length bs → b ≡ get_or bs k b → AllByRecursion P (chains_of (take k bs)) → P b.chain → AllByRecursion P (chains_of (take (k + 1) bs))
others_more P bs k b low is all one =
    subst (AllByRecursion P) (sym (ap chains_of (take_read bs k b low is) ∙ map-append (λ (x : Branch). x.chain) (take k bs) (b ∷ [])))
    (all_joined P (chains_of (take k bs)) (b.chain ∷ []) all (one, tt))

drop_front : {X : Type 0} (xs : List X) (y : X) → 1 ≤ length xs → drop 1 (xs ++ y ∷ []) ≡ drop 1 xs ++ y ∷ []
drop_front [] y some = absurd (omega (arith, some))
drop_front (x ∷ xs) y some = refl

some_taken : {X : Type 0} (i : ℕ) (xs : List X) → 1 ≤ i → i < length xs → 1 ≤ length (take i xs)
some_taken zero xs some low = absurd (omega (arith, some))
some_taken (suc i) [] some low = absurd (omega (arith, low))
some_taken (suc i) (x ∷ xs) some low = omega arith

-- one more entry after the first
pub named_more : (P : ℕ × CatEntry → Type 0) (ps : List (ℕ × CatEntry)) (i : ℕ) (p : ℕ × CatEntry) → 1 ≤ i → i < length ps → p ≡ get_or ps i p → AllByRecursion P (drop 1 (take i ps)) → P p → AllByRecursion P (drop 1 (take (i + 1) ps))
named_more P ps i p some low is all one =
    subst (AllByRecursion P) (sym (ap (drop 1) (take_read ps i p low is) ∙ drop_front (take i ps) p (some_taken i ps some low)))
    (all_joined P (drop 1 (take i ps)) (p ∷ []) all (one, tt))

pub none_first : (P : ℕ × CatEntry → Type 0) (ps : List (ℕ × CatEntry)) → AllByRecursion P (drop 1 (take 1 ps))
none_first P [] = tt
none_first P (p ∷ ps) = tt

-- ---- nodes

module _ (bs : List Branch) (tree : AreTree (chains_of bs)) where
  -- at the way to an entry stands its node
  pub node_found : (names : List Name8) (k i : ℕ) (h : HasEntryAt bs names k i) → node_at (nodes_in (chains_of bs)) (way names) ≡ Some (node_in h.branch.chain.level h.entry.1)
  node_found names k i h =
      let before : List Chain = chains_of (take k bs) in
      let after : List Chain = chains_of (drop (suc k) bs) in
      let around = chains_around bs k h.branch h.at in
      let parts = entry_parts h.branch.held i h.entry h.after h.entry_at in
      ap (λ (cs : List Chain). node_at (nodes_in cs) (way names)) around
      ∙ ap (λ (ns : List Name8). node_at (nodes_in (before ++ h.branch.chain ∷ after)) (way ns)) h.names_are
      ∙ node_there before h.branch.chain after parts.0 h.entry.1 parts.1 (subst AreTree around tree) (entries_held h.branch ∙ parts.2)

  -- nothing stands under a name that a chain doesn't have
  pub none_named : (names : List Name8) (last : Name8) (k : ℕ) (h : HasBranch bs names k) → AllByRecursion (λ (p : ℕ × CatEntry). name_in h.branch.chain.level p.1.name ≡ last → ⊥) (drop 1 h.branch.held)
      → node_at (nodes_in (chains_of bs)) (way (names ++ last ∷ [])) ≡ None
  none_named names last k h none =
      let before : List Chain = chains_of (take k bs) in
      let after : List Chain = chains_of (drop (suc k) bs) in
      let around = chains_around bs k h.branch h.at in
      let Other : CatEntry → Type 0 = λ (e : CatEntry). name_in h.branch.chain.level e.name ≡ last → ⊥ in
      let others : AllByRecursion Other (entries_of h.branch.chain) = subst (AllByRecursion Other) (sym (entries_held h.branch)) (all_map Other entry_in (drop 1 h.branch.held) none) in
      ap (λ (cs : List Chain). node_at (nodes_in cs) (way (names ++ last ∷ []))) around
      ∙ ap (λ (ns : List Name8). node_at (nodes_in (before ++ h.branch.chain ∷ after)) (way (ns ++ last ∷ []))) (sym h.names_are)
      ∙ none_there before h.branch.chain after last (subst AreTree around tree) others

  -- nor one level below a way without a chain
  pub none_at : (names : List Name8) (last : Name8) → AllByRecursion (λ (c : Chain). c.names ≡ names → ⊥) (chains_of bs) → node_at (nodes_in (chains_of bs)) (way (names ++ last ∷ [])) ≡ None
  none_at names last others = none_by (node_at (nodes_in (chains_of bs)) (way (names ++ last ∷ []))) (λ node at. by node (node_entry (chains_of bs) (names ++ last ∷ []) node at))
    where
      by : (node : CatNode) → HasEntry (chains_of bs) (way (names ++ last ∷ []), node) → ⊥
      by node has =
          let Other : Chain → Type 0 = λ (c : Chain). c.names ≡ names → ⊥ in
          let here = (split_joined Other has.before (has.chain ∷ has.after) (subst (AllByRecursion Other) has.is others)).1.0 in
          here (sym (one_name names has.chain.names last (name_in has.chain.level has.entry.name) has.names_are).0)

  -- nor at the root's own
  pub none_top : node_at (nodes_in (chains_of bs)) (way []) ≡ None
  none_top = none_by (node_at (nodes_in (chains_of bs)) (way [])) (λ node at. by node (node_entry (chains_of bs) [] node at))
    where
      by : (node : CatNode) → HasEntry (chains_of bs) (way [], node) → ⊥
      by node has = no_names has.chain.names (name_in has.chain.level has.entry.name) (sym has.names_are)

  -- the names below a chain's way are those of its entries
  pub child_found : (names : List Name8) (k j : ℕ) (h : HasBranch bs names k) → child_at (nodes_in (chains_of bs)) (way names) j ≡ option_map (λ (p : ℕ × CatEntry). name_in h.branch.chain.level p.1.name) (slice_get h.branch.held (suc j))
  child_found names k j h =
      let before : List Chain = chains_of (take k bs) in
      let after : List Chain = chains_of (drop (suc k) bs) in
      let around = chains_around bs k h.branch h.at in
      let level : Level = h.branch.chain.level in
      ap (λ (cs : List Chain). child_at (nodes_in cs) (way names) j) around
      ∙ ap (λ (ns : List Name8). child_at (nodes_in (before ++ h.branch.chain ∷ after)) (way ns) j) (sym h.names_are)
      ∙ child_there before h.branch.chain after j (subst AreTree around tree)
      ∙ ap (λ (es : List CatEntry). option_map (λ (e : CatEntry). name_in level e.name) (slice_get es j)) (entries_held h.branch)
      ∙ held_name level h.branch.held j
    where
      names_of : (level : Level) (ps : List (ℕ × CatEntry)) (i : ℕ) → option_map (λ (e : CatEntry). name_in level e.name) (slice_get (map entry_in ps) i) ≡ option_map (λ (p : ℕ × CatEntry). name_in level p.1.name) (slice_get ps i)
      names_of level [] i = refl
      names_of level (p ∷ ps) zero = refl
      names_of level (p ∷ ps) (suc i) = names_of level ps i

      held_name : (level : Level) (ps : List (ℕ × CatEntry)) (i : ℕ) → option_map (λ (e : CatEntry). name_in level e.name) (slice_get (map entry_in (drop 1 ps)) i) ≡ option_map (λ (p : ℕ × CatEntry). name_in level p.1.name) (slice_get ps (suc i))
      held_name level [] i = refl
      held_name level (p ∷ ps) i = names_of level ps i

  pub no_child : (names : List Name8) (j : ℕ) → AllByRecursion (λ (c : Chain). c.names ≡ names → ⊥) (chains_of bs) → child_at (nodes_in (chains_of bs)) (way names) j ≡ None
  unfolding child_at
  no_child names j others = ap (λ (xs : List Node). option_and_then (λ (x : Node). last_name x.0.names) (slice_get xs j)) (none_below (chains_of bs) names others)
