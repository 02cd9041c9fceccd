-- A small catalog, computed by the definitions of Trees.antt and Shelf.antt.
use Rattle.std.proofs.Common.{◌≡◌, ◌+◌, ℕ, false, List, [], ◌∷◌, refl, map}
use Rattle.std.specs.Prelude.{Some, None, Ok, Err}
use Rattle.std.specs.List.{range_with_len}
use Rattle.ebcdic_names.specs.declared.names.Name8.{Name8}
use Rattle.vol_model.specs.declared.catalogs.CatBody.TheVariants as catalogs
use Rattle.vol_model.specs.declared.catalogs.CatNode.TheVariants.{Index, Group, Set, Alias}
use Rattle.vol_model.specs.declared.catalogs.VolRef.{VolRef}
use Rattle.vol_model.specs.declared.contents.Volume.{Volume}
use Rattle.vol_model.specs.declared.refusals.Refusal.TheVariants.{CatalogFull, NoCatalog, NoNode, NodeExists, NoRoom, NotEmpty, WrongKind}
use Rattle.vol_model.specs.Shelf.{built, cataloged, node_dropped, on_catalog, uncataloged}
use Rattle.vol_model.specs.Slots.{catalog_needed}
use Rattle.vol_model.specs.Trees.{Node, child_at, named_path, nodes_below, true_path, way}

abbrev name : ℕ → Name8
name n = record { bytes = 0xC1 ∷ n ∷ [] }

-- so many indexes at the root
abbrev indexes : ℕ → List Node
indexes k = map (λ (n : ℕ). (way (name n ∷ []), Index)) (range_with_len 0 k)

-- the root and 16 indexes take 17 blocks
seventeen_blocks : catalog_needed (indexes 16) ≡ 17
unfolding catalog_needed nodes_below
seventeen_blocks = refl

module _ (v : Volume) where
  -- a volume with a catalog of 17 blocks
  abbrev holding : List Node → Volume
  holding nodes = record v { catalog = Some (catalogs.Tree 17 nodes) }

  sixteen_indexes_fit : on_catalog (built (way (name 15 ∷ [])) Index) (holding (indexes 15)) ≡ Ok (holding (indexes 16))
  unfolding on_catalog built true_path catalog_needed nodes_below
  sixteen_indexes_fit = refl

  seventeenth_index_is_refused : on_catalog (built (way (name 16 ∷ [])) Index) (holding (indexes 16)) ≡ Err (CatalogFull 18)
  unfolding on_catalog built true_path catalog_needed nodes_below
  seventeenth_index_is_refused = refl

  no_catalog : on_catalog (built (way (name 0 ∷ [])) Index) (record v { catalog = None }) ≡ Err NoCatalog
  unfolding on_catalog
  no_catalog = refl

-- the name of a generation: G, four digits, V and two digits
abbrev generation : ℕ → ℕ → Name8
generation n v = record { bytes = 0xC7 ∷ 0xF0 ∷ 0xF0 ∷ 0xF0 ∷ (0xF0 + n) ∷ 0xE5 ∷ 0xF0 ∷ (0xF0 + v) ∷ [] }

abbrev log : Name8
log = name 1

module _ (vol : VolRef) where
  -- a group of limit 2, an index with a set in it, and another name of the index
  abbrev nodes : List Node
  nodes = (way (log ∷ []), Group 2 false false)
      ∷ (way (log ∷ generation 1 0 ∷ []), Set (vol ∷ []))
      ∷ (way (log ∷ generation 2 0 ∷ []), Set (vol ∷ []))
      ∷ (way (name 2 ∷ []), Index)
      ∷ (way (name 2 ∷ name 3 ∷ []), Set (vol ∷ []))
      ∷ (way (name 4 ∷ []), Alias (name 2))
      ∷ []

  -- the newest generation comes first
  newest_first : child_at nodes (way (log ∷ [])) 0 ≡ Some (generation 2 0)
  unfolding child_at nodes_below
  newest_first = refl

  full_group : cataloged (way (log ∷ generation 3 0 ∷ [])) (vol ∷ []) false nodes ≡ Err NoRoom
  unfolding cataloged true_path nodes_below
  full_group = refl

  -- a name that is there isn't new, so a full group doesn't refuse it
  not_new : cataloged (way (log ∷ generation 2 0 ∷ [])) (vol ∷ []) false nodes ≡ Err NodeExists
  unfolding cataloged true_path nodes_below
  not_new = refl

  no_generation : cataloged (way (log ∷ name 3 ∷ [])) (vol ∷ []) false nodes ≡ Err WrongKind
  unfolding cataloged true_path nodes_below
  no_generation = refl

  -- the first name is looked up as an alias at the root, and once alone
  through_an_alias : true_path nodes (way (name 4 ∷ name 3 ∷ [])) ≡ way (name 2 ∷ name 3 ∷ [])
  unfolding true_path
  through_an_alias = refl

  -- an alias itself goes, and not the index of which it is another name
  alias_goes : node_dropped (way (name 4 ∷ [])) nodes ≡ Ok ((way (log ∷ []), Group 2 false false)
      ∷ (way (log ∷ generation 1 0 ∷ []), Set (vol ∷ []))
      ∷ (way (log ∷ generation 2 0 ∷ []), Set (vol ∷ []))
      ∷ (way (name 2 ∷ []), Index)
      ∷ (way (name 2 ∷ name 3 ∷ []), Set (vol ∷ []))
      ∷ [])
  unfolding node_dropped named_path nodes_below
  alias_goes = refl

  index_with_a_child : node_dropped (way (name 2 ∷ [])) nodes ≡ Err NotEmpty
  unfolding node_dropped named_path nodes_below
  index_with_a_child = refl

  no_set : uncataloged (way (name 2 ∷ [])) nodes ≡ Err NoNode
  unfolding uncataloged true_path
  no_set = refl
