-- How many slots of the VTOC, and blocks of a directory and of the catalog, are needed, in this project's profile.
use Rattle.std.specs.Prelude.{ℕ, ◌+◌, ◌/◌, max, nat_lt, List, [], ◌∷◌, length, map, count_by, sum_by, if◌then◌else◌}
use Rattle.chain_spec.specs.Cut.{needed}
use Rattle.vol_model.specs.declared.catalogs.CatPath.{CatPath}
use Rattle.vol_model.specs.declared.contents.DataSet.{DataSet}
use Rattle.vol_model.specs.declared.contents.Entry.{Entry}
use Rattle.vol_model.specs.declared.contents.Volume.{Volume}
use Rattle.vol_model.specs.Space.{free_runs}
use Rattle.vol_model.specs.Trees.{Node, has_index, node_size, nodes_below, way}

-- the slots that so many free runs and these data sets need: one for format 4, one for each started 26 runs, one for each set and one more for a set of more than three extents
abbrev pub slots_for : ℕ → List DataSet → ℕ
slots_for runs sets = 1 + max 1 ((runs + 25) / 26) + length sets + count_by (λ (x : DataSet). nat_lt 3 (length x.extents)) sets

-- the slots that a volume needs
unfoldable pub slots_needed : Volume → ℕ
slots_needed volume = slots_for (length (free_runs volume)) volume.sets

-- the bytes of an entry in a directory block
abbrev pub entry_size : Entry → ℕ
entry_size e = 12 + length e.user

-- the blocks that a directory of these entries needs, its end entry after them
unfoldable pub directory_needed : List Entry → ℕ
directory_needed entries = needed entry_size 254 12 entries

-- the blocks that the index at a path needs, with a control entry of so many bytes in front
abbrev pub index_needed : ℕ → List Node → CatPath → ℕ
index_needed control nodes path = needed (λ (bytes : ℕ). bytes) 242 0 (control ∷ map (λ (x : Node). node_size x.1) (nodes_below nodes path))

-- the blocks that a catalog needs: those of its root, and of each index and group
unfoldable pub catalog_needed : List Node → ℕ
catalog_needed nodes = index_needed 22 nodes (way []) + sum_by (λ (x : Node). if has_index x.1 then index_needed 18 nodes x.0 else 0) nodes
