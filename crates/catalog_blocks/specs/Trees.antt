-- The tree of nodes that the blocks of a catalog stand for, from the first block on. The blocks are numbered from 0, track by track.
-- (The catalog of System Control Blocks GC28-6628; the content of its blocks, and which can't be read: this project's profile.)
use Rattle.std.specs.Prelude.{ℕ, zero, suc, ◌+◌, ◌-◌, ◌*◌, ◌/◌, ◌%◌, ◌^◌, ◌==◌, ◌&&◌, ◌||◌, not, nat_le, nat_lt, Bool, true, false, List, [], ◌∷◌, ◌++◌, length, map, drop, slice_get, slice_index, slice_range, Option, Some, None, option_map, unwrap_or, Result, Ok, Err, if◌then◌else◌}
use Rattle.std.specs.List.{filter_map, flat_map, list_all, list_any, range_with_len}
use Rattle.std.specs.Str.{bytes_eq}
use Rattle.std.specs.Int.{w16, w32, w64, from_be_bytes}
use Rattle.chain_spec.specs.Kept.{bound_after, kept, kept_from}
use Rattle.ebcdic_names.specs.declared.names.Name8.{Name8}
use Rattle.vol_model.specs.declared.catalogs.CatBody.{CatBody}
use Rattle.vol_model.specs.declared.catalogs.CatBody.TheVariants.{Tree, Unreadable}
use Rattle.vol_model.specs.declared.catalogs.CatNode.{CatNode}
use Rattle.vol_model.specs.declared.catalogs.CatNode.TheVariants.{Index, Group, Set, Alias, Other}
use Rattle.vol_model.specs.declared.catalogs.VolRef.{VolRef}
use Rattle.vol_model.specs.declared.contents.Place.{Place}
use Rattle.vol_model.specs.Lawful.{control_name}
use Rattle.vol_model.specs.Trees.{Node, is_generation, stored_generation, way, with_node}
use Rattle.catalog_blocks.specs.declared.blocks.CatBlock.{CatBlock}
use Rattle.catalog_blocks.specs.declared.blocks.CatEntry.{CatEntry}
use Rattle.catalog_blocks.specs.declared.chains.Chain.{Chain}
use Rattle.catalog_blocks.specs.declared.chains.Lead.{Lead}
use Rattle.catalog_blocks.specs.declared.chains.Level.{Level}
use Rattle.catalog_blocks.specs.declared.chains.Level.TheVariants.{Root, Plain, Generation}
use Rattle.catalog_blocks.specs.declared.chains.Visit.{Visit}
use Rattle.catalog_blocks.specs.Blocks.{name_number}

-- a chain is the root
abbrev pub is_root : Level → Bool
is_root Root = true
is_root Plain = false
is_root Generation = false

-- it holds the generations of a group
abbrev pub is_group : Level → Bool
is_group Root = false
is_group Plain = false
is_group Generation = true

-- the bytes of data in the control entry of a chain: 5 halfwords in the root, and 3 elsewhere
abbrev pub control_length : Level → ℕ
control_length level = if is_root level then 10 else 6

-- a volume on which a data set stands: the device code, the serial and the sequence
abbrev pub vol_in : List ℕ → VolRef
vol_in bytes = record {
  code = from_be_bytes w32 (slice_range bytes 0 4);
  serial = record { bytes = slice_range bytes 4 10 };
  seq = from_be_bytes w16 (slice_range bytes 10 12);
}

-- the volumes in the data of a data set's entry: after two bytes 12 each
abbrev pub vols_in : List ℕ → List VolRef
vols_in payload = map (λ k. vol_in (slice_range payload (2 + 12 * k) (14 + 12 * k))) (range_with_len 0 ((length payload - 2) / 12))

-- these are data of a data set's entry: two zeros, and one to five volumes
abbrev pub are_volumes : List ℕ → Bool
are_volumes payload =
    nat_le 14 (length payload) && (nat_le (length payload) 62 && ((length payload - 2) % 12 == 0
    && (slice_index payload 0 == 0 && slice_index payload 1 == 0)))

-- these are data of a group's entry: flags X'01' and X'02' alone, the limit, and two bytes
abbrev pub is_group_data : List ℕ → Bool
is_group_data payload = length payload == 4 && nat_lt (slice_index payload 0) 4

-- a name can stand in the catalog: it stands after that of a control entry, and before that of a link entry
abbrev pub is_true_name : List ℕ → Bool
is_true_name name = length name == 8 && (nat_lt 1 (from_be_bytes w64 name) && nat_lt (from_be_bytes w64 name) (2 ^ 64 - 1))

-- the node that an entry of a chain stands for
unfoldable pub node_in : Level → CatEntry → CatNode
node_in level e =
    if not (is_group level) && length e.payload == 0 then Index
    else (if not (is_group level) && is_group_data e.payload then Group (slice_index e.payload 1) (nat_le 2 (slice_index e.payload 0)) (slice_index e.payload 0 % 2 == 1)
    else (if is_root level && is_true_name e.payload then Alias (record { bytes = e.payload })
    else (if are_volumes e.payload then Set (vols_in e.payload)
    else Other e.place e.payload)))

-- the name that an entry of a chain stands for: under a group the digits after G are stored inverted
abbrev pub name_in : Level → Name8 → Name8
name_in level name = if is_group level then record { bytes = stored_generation name.bytes } else name

-- the numbers of its blocks
abbrev pub numbers : Chain → List ℕ
numbers c = map (λ (b : ℕ × List CatEntry). b.0) c.blocks

-- its entries, each with the number of the block that holds it
abbrev pub located_entries : List (ℕ × List CatEntry) → List (ℕ × CatEntry)
located_entries blocks = flat_map (λ (b : ℕ × List CatEntry). map (λ (e : CatEntry). (b.0, e)) b.1) blocks

-- those that are kept, but for the control entry in front
abbrev pub held_entries : Chain → List (ℕ × CatEntry)
held_entries c = drop 1 (kept (λ (p : ℕ × CatEntry). name_number p.1) (located_entries c.blocks))

-- the same without the numbers
abbrev pub entries_of : Chain → List CatEntry
entries_of c = map (λ (p : ℕ × CatEntry). p.1) (held_entries c)

-- a chain with one more block
abbrev pub with_block : Chain → ℕ → List CatEntry → Chain
with_block c k entries = record c { blocks = c.blocks ++ (k, entries) ∷ [] }

-- the entry is the control entry of a chain
abbrev pub is_control : Level → Option CatEntry → Bool
is_control level None = false
is_control level (Some e) = bytes_eq e.name.bytes control_name && length e.payload == control_length level

-- the name of an entry under a group is that of a generation, as it is stored; the control entry stands there too
abbrev pub fits_group : CatEntry → Bool
fits_group e = bytes_eq e.name.bytes control_name || is_generation (stored_generation e.name.bytes)

-- of the entries of a further block those that are kept
abbrev pub kept_after : Chain → List CatEntry → List CatEntry
kept_after c entries = kept_from name_number (bound_after name_number 0 (map (λ (p : ℕ × CatEntry). p.1) (located_entries c.blocks))) entries

-- these can be the entries of a chain's next block:
-- the first begins with the control entry, and under a group each kept name is that of a generation
abbrev pub suits : Chain → List CatEntry → Bool
suits c entries =
    (not (length c.blocks == 0) || is_control c.level (slice_get entries 0))
    && (not (is_group c.level) || list_all fits_group (kept_after c entries))

-- the number of the block at a place, if there is one among so many, of which a track holds so many
abbrev pub number_at : ℕ → ℕ → Place → Option ℕ
number_at per blocks place =
    if nat_le 1 place.r && (nat_le place.r per && nat_lt (per * place.tt + (place.r - 1)) blocks)
    then Some (per * place.tt + (place.r - 1)) else None

-- the place of a block
abbrev pub place_of : ℕ → ℕ → Place
place_of per k = record { tt = k / per; r = k % per + 1 }

-- zeros, which lead on to no block
abbrev pub is_zeros : Place → Bool
is_zeros place = place.tt == 0 && place.r == 0

-- blocks as they stand, where any of them may break its form
abbrev pub Store : Type 0
Store = List (Option CatBlock)

-- the number is among these
abbrev pub is_among : ℕ → List ℕ → Bool
is_among k ks = list_any (λ j. j == k) ks

-- the block as the next of a chain, unless it doesn't suit that; the fault is that of its track
abbrev pub if_suits : ℕ → Chain → ℕ → Option CatBlock → Result (ℕ × CatBlock) ℕ
if_suits per c k None = Err (k / per)
if_suits per c k (Some b) = if suits c b.entries then Ok (k, b) else Err (k / per)

-- what stands at a number
abbrev pub block_at : Store → ℕ → Option CatBlock
block_at store k = unwrap_or (slice_get store k) None

-- the block of a number as the next of a chain; the fault is that of its track where it was reached before
abbrev pub block_reached : ℕ → Store → List ℕ → Chain → ℕ → Option ℕ → Result (ℕ × CatBlock) ℕ
block_reached per store reached c from None = Err from
block_reached per store reached c from (Some k) = if is_among k reached then Err (k / per) else if_suits per c k (block_at store k)

-- the next block of a chain, with its number, where a place leads to it from a block on a track; or the track of the first fault
unfoldable pub next_block : ℕ → Store → List ℕ → Chain → Place → ℕ → Result (ℕ × CatBlock) ℕ
next_block per store reached c place from = block_reached per store reached c from (number_at per (length store) place)

-- what follows, unless there is a fault
abbrev pub then_on : {X Y : Type 0} → Result X ℕ → (X → Result Y ℕ) → Result Y ℕ
then_on (Ok x) f = f x
then_on (Err at) f = Err at

-- a chain, read on from a place by at most so many blocks; the block that leads there stands on a track,
-- and none of those that were reached may come again
unfoldable pub chain_from : ℕ → ℕ → Store → List ℕ → Chain → Place → ℕ → Result Chain ℕ
chain_from zero per store reached c place from = Err from
chain_from (suc n) per store reached c place from = then_on (next_block per store reached c place from) (λ (x : ℕ × CatBlock).
    if is_zeros x.1.next then Ok (with_block c x.0 x.1.entries)
    else chain_from n per store (x.0 ∷ reached) (with_block c x.0 x.1.entries) x.1.next (x.0 / per))

-- the chain to which a node's entry leads, if it is an index or a group
abbrev pub lead_by : List Name8 → Place → CatNode → Option Lead
lead_by names place Index = Some (record { names = names; level = Plain; place = place })
lead_by names place (Group limit empty delete) = Some (record { names = names; level = Generation; place = place })
lead_by names place _ = None

-- the way to an entry of a chain
abbrev pub names_to : Chain → CatEntry → List Name8
names_to c e = c.names ++ name_in c.level e.name ∷ []

abbrev pub lead_in : Chain → CatEntry → Option Lead
lead_in c e = lead_by (names_to c e) e.place (node_in c.level e)

-- the chains to which the entries of a chain lead, in order
abbrev pub visits_of : ℕ → Chain → List Visit
visits_of per c = filter_map (λ (p : ℕ × CatEntry). option_map (λ (l : Lead). record { lead = l; from = p.0 / per }) (lead_in c p.1)) (held_entries c)

-- a chain without blocks
abbrev pub chain_to : Lead → Chain
chain_to l = record { names = l.names; level = l.level; blocks = [] }

-- one more chain in front
abbrev pub with_chain : Chain → Result (List Chain) ℕ → Result (List Chain) ℕ
with_chain c (Ok cs) = Ok (c ∷ cs)
with_chain c (Err at) = Err at

-- the chains that are to be read, at most so many, and all below them, or the track of the first fault:
-- a chain is read to its end, and then, for each of its entries in order, that entry's chain with all below it
unfoldable pub chains_from : ℕ → ℕ → Store → List ℕ → List Visit → Result (List Chain) ℕ
chains_from n per store reached [] = Ok []
chains_from zero per store reached (v ∷ vs) = Err v.from
chains_from (suc n) per store reached (v ∷ vs) =
    then_on (chain_from (suc (length store)) per store reached (chain_to v.lead) v.lead.place v.from)
    (λ c. with_chain c (chains_from n per store (numbers c ++ reached) (visits_of per c ++ vs)))

-- the root, whose first block is the first of the catalog
abbrev pub root_lead : Lead
root_lead = record { names = []; level = Root; place = record { tt = 0; r = 1 } }

-- all chains of a catalog in these blocks, or the track of the first fault
unfoldable pub chains_in : ℕ → Store → Result (List Chain) ℕ
chains_in per store = chains_from (suc (length store)) per store [] (record { lead = root_lead; from = 0 } ∷ [])

-- the nodes that the entries of a chain are
abbrev pub chain_nodes : Chain → List Node
chain_nodes c = map (λ (e : CatEntry). (way (names_to c e), node_in c.level e)) (entries_of c)

-- nodes in the order of their ways
abbrev pub by_ways : List Node → List Node
by_ways [] = []
by_ways (x ∷ xs) = with_node x.0 x.1 (by_ways xs)

-- the nodes of a catalog of these chains
unfoldable pub nodes_in : List Chain → List Node
nodes_in chains = by_ways (flat_map chain_nodes chains)

-- the tree of so many blocks with these chains, or the fault
abbrev pub tree_of : ℕ → Result (List Chain) ℕ → CatBody
tree_of blocks (Ok chains) = Tree blocks (nodes_in chains)
tree_of blocks (Err track) = Unreadable track

-- what the blocks of a catalog stand for, of which a track holds so many
unfoldable pub tree_in : ℕ → Store → CatBody
tree_in per store = tree_of (length store) (chains_in per store)
