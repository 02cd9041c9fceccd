-- The nodes of a catalog's chains, in this project's profile.
use Rattle.std.specs.Prelude.{◌≡◌, ℕ, true, false, List, [], ◌∷◌, ◌++◌, length, slice_get, Option, Some, None}
use Rattle.std.specs.List.{AllByRecursion}
use Rattle.std.specs.Ordering.{is_eq}
use Rattle.chain_spec.specs.Cut.{IsCut, needed}
use Rattle.chain_spec.specs.Kept.{Rises, RisesFrom, joined, kept}
use Rattle.ebcdic_names.specs.declared.names.Name8.{Name8}
use Rattle.vol_model.specs.declared.catalogs.CatNode.{CatNode}
use Rattle.vol_model.specs.Trees.{Node, compare_ways, has_index, is_generation, is_index, stored_generation, way, with_node, without_node}
use Rattle.vol_model.specs.Trees.{is_group as is_group_node}
use Rattle.catalog_blocks.specs.declared.blocks.CatBlock.{CatBlock}
use Rattle.catalog_blocks.specs.declared.blocks.CatEntry.{CatEntry}
use Rattle.catalog_blocks.specs.Blocks.{AreForBlock, HasName, cat_size, name_number}
use Rattle.catalog_blocks.specs.declared.chains.Level.{Level}
use Rattle.catalog_blocks.specs.declared.chains.Chain.{Chain}
use Rattle.catalog_blocks.specs.declared.chains.Lead.{Lead}
use Rattle.catalog_blocks.specs.Trees.{Store, control_length, entries_of, is_control, is_group, is_root, names_to, node_in, nodes_in, root_lead}
use Rattle.catalog_laws.specs.Forests.{leads_of}
use Rattle.catalog_laws.specs.Writes.{fit, lists_of}

-- a block that doesn't break its form has what bytes can hold
abbrev pub IsSound : Option CatBlock → Type 0
IsSound None = Unit {0}
IsSound (Some b) = AreForBlock b.entries × AllByRecursion HasName b.entries

abbrev pub AreSound : Store → Type 0
AreSound store = AllByRecursion IsSound store

-- no way stands twice
abbrev pub WaysDiffer : List Node → Type 0
WaysDiffer [] = Unit {0}
WaysDiffer (x ∷ xs) = AllByRecursion (λ (y : Node). is_eq (compare_ways x.0 y.0) ≡ false) xs × WaysDiffer xs

-- the blocks that the kept entries of a chain need
abbrev pub blocks_needed : Chain → ℕ
blocks_needed c = needed cat_size 242 0 (kept name_number (joined (lists_of c)))

-- under a group an entry's name is that of a generation, as it is stored
abbrev pub IsStored : CatEntry → Type 0
IsStored e = is_generation (stored_generation e.name.bytes) ≡ true

-- A chain has the control entry in front, and entries whose names rise,
-- each of eight bytes, and under a group that of a generation.
pub record IsTrueChain (c : Chain) : Type 0 where
  pub first : CatEntry
  pub kept_is : kept name_number (joined (lists_of c)) ≡ first ∷ entries_of c
  pub size : length first.payload ≡ control_length c.level
  pub rises : RisesFrom name_number 2 (entries_of c)
  pub named : AllByRecursion HasName (entries_of c)
  pub fits : is_group c.level ≡ true → AllByRecursion IsStored (entries_of c)

-- to these chains these leads lead, each with all below it, whatever blocks they stand in
abbrev pub LeadTo : List Lead → List Chain → Type 0
LeadTo [] [] = Unit {0}
LeadTo (l ∷ ls) [] = ⊥
LeadTo [] (c ∷ cs) = ⊥
LeadTo (l ∷ ls) (c ∷ cs) = (c.names ≡ l.names) × (c.level ≡ l.level) × LeadTo (leads_of c ++ ls) cs

-- These chains are those of a tree, from the root on.
pub record AreTree (cs : List Chain) : Type 0 where
  pub chains : AllByRecursion IsTrueChain cs
  pub leads : LeadTo (root_lead ∷ []) cs

-- A chain of this way and level is one of these.
pub record HasChain (cs : List Chain) (names : List Name8) (level : Level) : Type 0 where
  pub before : List Chain
  pub chain : Chain
  pub after : List Chain
  pub is : cs ≡ before ++ chain ∷ after
  pub names_are : chain.names ≡ names
  pub level_is : chain.level ≡ level

-- A node has a chain of its own, of this level.
pub record LeadsTo (node : CatNode) (level : Level) : Type 0 where
  pub index : has_index node ≡ true
  pub group : is_group_node (Some node) ≡ is_group level
  pub other : is_group level ≡ false → is_index node ≡ true
  pub below : is_root level ≡ false

-- An entry of one of these chains stands for this node at this way.
pub record HasEntry (cs : List Chain) (x : Node) : Type 0 where
  pub before : List Chain
  pub chain : Chain
  pub after : List Chain
  pub is : cs ≡ before ++ chain ∷ after
  pub us : List CatEntry
  pub entry : CatEntry
  pub vs : List CatEntry
  pub entries_are : entries_of chain ≡ us ++ entry ∷ vs
  pub names_are : x.0.names ≡ names_to chain entry
  pub node_is : x.1 ≡ node_in chain.level entry

-- Chains of which one has come, wherever its lead puts it.
pub record TreeGains (before : List Chain) (c : Chain) (after : List Chain) (e : Chain) : Type 0 where
  pub front : List Chain
  pub rest : List Chain
  pub is : after ≡ front ++ rest
  pub tree : AreTree (before ++ c ∷ (front ++ e ∷ rest))

-- Chains of which one has gone, to which a lead led.
pub record TreeLoses (before : List Chain) (c : Chain) (after : List Chain) (lead : Lead) : Type 0 where
  pub front : List Chain
  pub gone : Chain
  pub rest : List Chain
  pub is : after ≡ front ++ gone ∷ rest
  pub names : gone.names ≡ lead.names
  pub tree : AreTree (before ++ c ∷ (front ++ rest))

-- a chain as it is to hold a list, whatever blocks that needs
abbrev pub planned_chain : Chain → List CatEntry → Chain
planned_chain c list = record c { blocks = (0, list) ∷ [] }

-- each of these chains is cut as its kept entries need
abbrev pub AreCut : List Chain → Type 0
AreCut cs = AllByRecursion (λ (c : Chain). IsCut cat_size 242 0 (lists_of c) (kept name_number (joined (lists_of c)))) cs

-- A list can be that of a chain: the control entry in front, names that rise,
-- each of eight bytes, and under a group those of generations.
pub record IsTrueList (level : Level) (list : List CatEntry) : Type 0 where
  pub control : is_control level (slice_get list 0) ≡ true
  pub rises : Rises name_number list
  pub named : AllByRecursion HasName list
  pub fits : fit level list ≡ true

-- A tree to which the new chain of an entry has come, where another chain is to hold a list with it.
pub record IndexAdded (before : List Chain) (c : Chain) (after : List Chain) (list : List CatEntry) (e : CatEntry) (n : Chain) : Type 0 where
  pub front : List Chain
  pub rest : List Chain
  pub is : after ≡ front ++ rest
  pub tree : AreTree (before ++ planned_chain c list ∷ (front ++ n ∷ rest))
  pub nodes : nodes_in (before ++ planned_chain c list ∷ (front ++ n ∷ rest)) ≡ with_node (way (names_to c e)) (node_in c.level e) (nodes_in (before ++ c ∷ after))

-- A tree from which the chain of an entry has gone, where another chain is to hold a list without it.
pub record IndexDropped (before : List Chain) (c : Chain) (after : List Chain) (list : List CatEntry) (e : CatEntry) (lead : Lead) : Type 0 where
  pub front : List Chain
  pub gone : Chain
  pub rest : List Chain
  pub is : after ≡ front ++ gone ∷ rest
  pub names : gone.names ≡ lead.names
  pub tree : AreTree (before ++ planned_chain c list ∷ (front ++ rest))
  pub nodes : nodes_in (before ++ planned_chain c list ∷ (front ++ rest)) ≡ without_node (way (names_to c e)) (nodes_in (before ++ c ∷ after))
