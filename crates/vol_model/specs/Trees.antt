-- The catalog of a volume as a tree of nodes, by System Control Blocks, GC28-6628, in this project's profile: what stands at a path, and what it takes in blocks.
use Rattle.std.specs.Prelude.{◌≡◌, ℕ, ◌+◌, ◌-◌, ◌*◌, ◌==◌, ◌&&◌, ◌||◌, not, nat_le, Bool, true, false, List, [], ◌∷◌, ◌++◌, length, map, filter, find, count_by, slice_get, Option, Some, None, option_map, option_and_then, if◌then◌else◌}
use Rattle.std.specs.List.{AllByRecursion, flat_map, list_any, range_with_len}
use Rattle.std.specs.Option.{option_map_or}
use Rattle.std.specs.Str.{bytes_eq}
use Rattle.std.specs.declared.cmp.Ordering.{Ordering}
use Rattle.std.specs.Ordering.{is_eq, is_lt, nat_cmp}
use Rattle.std.specs.Cmp.Lexicographic.{slice_cmp}
use Rattle.ebcdic_names.specs.declared.names.Name8.{Name8}
use Rattle.vol_model.specs.declared.catalogs.CatNode.{CatNode}
use Rattle.vol_model.specs.declared.catalogs.CatNode.TheVariants.{Index, Group, Set, Alias, Other}
use Rattle.vol_model.specs.declared.catalogs.CatPath.{CatPath}

-- a node with the way to it
abbrev pub Node : Type 0
Node = CatPath × CatNode

-- a way, by its names
abbrev pub way : List Name8 → CatPath
way names = record { names = names }

-- the order of two ways, by the bytes of their names
abbrev pub compare_ways : CatPath → CatPath → Ordering
compare_ways p q = slice_cmp (slice_cmp nat_cmp) (map (λ (n : Name8). n.bytes) p.names) (map (λ (n : Name8). n.bytes) q.names)

-- the node stands at this path
abbrev pub is_at : CatPath → Node → Bool
is_at path x = is_eq (compare_ways x.0 path)

-- the way to one node stands before that to another
abbrev pub is_before : CatPath → CatPath → Bool
is_before p q = is_lt (compare_ways p q)

-- what stands at a path
abbrev pub node_at : List Node → CatPath → Option CatNode
node_at nodes path = option_map (λ (x : Node). x.1) (find (is_at path) nodes)

-- something stands at a path
abbrev pub has_node : List Node → CatPath → Bool
has_node nodes path = list_any (is_at path) nodes

-- a way but for its last name
abbrev pub front : List Name8 → List Name8
front [] = []
front (n ∷ []) = []
front (n ∷ m ∷ ms) = n ∷ front (m ∷ ms)

-- its last name
abbrev pub last_name : List Name8 → Option Name8
last_name [] = None
last_name (n ∷ []) = Some n
last_name (n ∷ m ∷ ms) = last_name (m ∷ ms)

-- the bytes of its last name
abbrev pub last_bytes : List Name8 → List ℕ
last_bytes names = option_map_or (λ (n : Name8). n.bytes) (last_name names) []

-- a way goes one level further down than another
abbrev pub is_below : List Name8 → List Name8 → Bool
is_below [] [] = false
is_below [] (m ∷ []) = true
is_below [] (m ∷ k ∷ ks) = false
is_below (n ∷ ns) [] = false
is_below (n ∷ ns) (m ∷ ms) = bytes_eq n.bytes m.bytes && is_below ns ms

-- the true name of an alias, in place of the first name of a way
abbrev pub instead : CatPath → List Name8 → Option CatNode → CatPath
instead path rest (Some (Alias of)) = way (of ∷ rest)
instead path rest _ = path

-- the way for which a path stands: one whose first name is an alias at the root stands for that with the true name
abbrev pub true_names : List Node → CatPath → List Name8 → CatPath
true_names nodes path [] = path
true_names nodes path (n ∷ rest) = instead path rest (node_at nodes (way (n ∷ [])))

unfoldable pub true_path : List Node → CatPath → CatPath
true_path nodes path = true_names nodes path path.names

-- the same where one name alone is taken as it stands, so that an alias itself can be named
unfoldable pub named_path : List Node → CatPath → CatPath
named_path nodes path = if length path.names == 1 then path else true_path nodes path

-- a digit in EBCDIC
abbrev pub is_digit : ℕ → Bool
is_digit c = nat_le 0xF0 c && nat_le c 0xF9

-- GnnnnVnn, the name of a generation, in EBCDIC
abbrev pub is_generation : List ℕ → Bool
is_generation (g ∷ a ∷ b ∷ c ∷ d ∷ v ∷ e ∷ f ∷ []) = g == 0xC7 && (is_digit a && (is_digit b && (is_digit c && (is_digit d && (v == 0xE5 && (is_digit e && is_digit f))))))
is_generation _ = false

-- a digit with the low half of its byte inverted
abbrev pub inverted : ℕ → ℕ
inverted c = 0xFF - (c - 0xF0)

-- the bytes under which the name of a generation is stored: the digits after G are inverted, so the newest stands first
abbrev pub stored_generation : List ℕ → List ℕ
stored_generation (g ∷ a ∷ b ∷ c ∷ d ∷ rest) = g ∷ inverted a ∷ inverted b ∷ inverted c ∷ inverted d ∷ rest
stored_generation name = name

-- it is the index of a generation data group
abbrev pub is_group : Option CatNode → Bool
is_group (Some (Group limit empty delete)) = true
is_group _ = false

-- the bytes under which the last name of a node is stored, below a group or elsewhere
abbrev pub stored_name : Bool → Node → List ℕ
stored_name in_group x = if in_group then stored_generation (last_bytes x.0.names) else last_bytes x.0.names

-- how many of these nodes stand before one, by the bytes under which they are stored
abbrev pub stored_rank : Bool → List Node → Node → ℕ
stored_rank in_group nodes x = count_by (λ (y : Node). is_lt (slice_cmp nat_cmp (stored_name in_group y) (stored_name in_group x))) nodes

-- nodes of one index in the order of the bytes under which they are stored: at each place those before which so many stand
abbrev pub in_stored_order : Bool → List Node → List Node
in_stored_order in_group nodes = flat_map (λ k. filter (λ (x : Node). stored_rank in_group nodes x == k) nodes) (range_with_len 0 (length nodes))

-- the nodes one level below a path, in the order in which its index holds them
unfoldable pub nodes_below : List Node → CatPath → List Node
nodes_below nodes path = in_stored_order (is_group (node_at nodes path)) (filter (λ (x : Node). is_below path.names x.0.names) nodes)

-- the k-th name below a path, from 0, in that order
unfoldable pub child_at : List Node → CatPath → ℕ → Option Name8
child_at nodes path k = option_and_then (λ (x : Node). last_name x.0.names) (slice_get (nodes_below nodes path) k)

-- the bytes of a node's entry in a block: its name, its TTR and its count, and its data
abbrev pub node_size : CatNode → ℕ
node_size Index = 12
node_size (Group limit empty delete) = 16
node_size (Set vols) = 14 + 12 * length vols
node_size (Alias of) = 20
node_size (Other place payload) = 12 + length payload

-- the node has an index of its own, with nodes below it
abbrev pub has_index : CatNode → Bool
has_index Index = true
has_index (Group limit empty delete) = true
has_index _ = false

-- it is an index of further names
abbrev pub is_index : CatNode → Bool
is_index Index = true
is_index _ = false

-- what stands at the parent's path; nothing does at the root
abbrev pub parent_at : List Node → List Name8 → Option CatNode
parent_at nodes [] = None
parent_at nodes (n ∷ []) = None
parent_at nodes (n ∷ m ∷ ms) = node_at nodes (way (n ∷ front (m ∷ ms)))

-- the parent of this way is the root, or a node of this kind
abbrev pub stands_under : (CatNode → Bool) → List Node → List Name8 → Bool
stands_under kind nodes names = length names == 1 || option_map_or kind (parent_at nodes names) false

-- the name isn't one under a group, or it is that of a generation
abbrev pub fits_group : List Node → List Name8 → Bool
fits_group nodes names = not (is_group (parent_at nodes names)) || is_generation (last_bytes names)

-- the parent of a node is there, and of the kind that it needs
abbrev pub has_parent : List Node → List Name8 → CatNode → Bool
has_parent nodes names Index = stands_under is_index nodes names
has_parent nodes names (Group limit empty delete) = stands_under is_index nodes names
has_parent nodes names (Alias of) = length names == 1
has_parent nodes names (Set vols) = stands_under has_index nodes names && fits_group nodes names
has_parent nodes names (Other place payload) = stands_under has_index nodes names && fits_group nodes names

-- the nodes rise by their ways, so none stands twice
abbrev pub AreAscending : List Node → Type 0
AreAscending [] = Unit {0}
AreAscending (x ∷ xs) = AllByRecursion (λ (y : Node). is_before x.0 y.0 ≡ true) xs × AreAscending xs

-- nodes with one more, in the order of their ways; one at the same path goes
abbrev pub with_node : CatPath → CatNode → List Node → List Node
with_node path node nodes = filter (λ (x : Node). is_before x.0 path) nodes ++ (path, node) ∷ filter (λ (x : Node). is_before path x.0) nodes

-- nodes without the one at a path
abbrev pub without_node : CatPath → List Node → List Node
without_node path nodes = filter (λ (x : Node). not (is_at path x)) nodes
