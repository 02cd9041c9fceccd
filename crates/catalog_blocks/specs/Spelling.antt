-- The bytes of a block of the catalog.
use Rattle.std.specs.Prelude.{◌≡◌, ℕ, ◌+◌, ◌-◌, ◌/◌, ◌^◌, ◌<◌, List, [], ◌∷◌, ◌++◌, length, map, replicate}
use Rattle.std.specs.List.{AllByRecursion, concat}
use Rattle.std.specs.Int.{w16, to_be_bytes}
use Rattle.vol_model.specs.declared.contents.Place.{Place}
use Rattle.catalog_blocks.specs.declared.blocks.CatBlock.{CatBlock}
use Rattle.catalog_blocks.specs.declared.blocks.CatEntry.{CatEntry}
use Rattle.catalog_blocks.specs.Blocks.{link_name}

-- the bytes of a TTR
abbrev pub place_bytes : Place → List ℕ
place_bytes p = to_be_bytes w16 p.tt ++ p.r ∷ []

-- the bytes of an entry: its name, its TTR, the count of its halfwords, and its data
abbrev pub entry_bytes : CatEntry → List ℕ
entry_bytes e = e.name.bytes ++ to_be_bytes w16 e.place.tt ++ (e.place.r ∷ length e.payload / 2 ∷ []) ++ e.payload

-- the bytes of the link entry to the next block, or of that which ends a chain, where the TTR is zeros
abbrev pub link_bytes : Place → List ℕ
link_bytes next = link_name ++ to_be_bytes w16 next.tt ++ next.r ∷ 0 ∷ []

-- the bytes of a block's entries, and of its link entry after them
unfoldable pub spelled_bytes : CatBlock → List ℕ
spelled_bytes b = concat (map entry_bytes b.entries) ++ link_bytes b.next

-- the data of a block with these bytes of entries: two bytes count the used ones, themselves among them;
-- zeros stand after the entries
abbrev pub counted_bytes : List ℕ → List ℕ
counted_bytes bytes = to_be_bytes w16 (2 + length bytes) ++ bytes ++ replicate (254 - length bytes) 0

-- the data of a block
unfoldable pub block_data : CatBlock → List ℕ
block_data b = counted_bytes (spelled_bytes b)

-- The fields of an entry have the sizes that its bytes have room for.
pub record IsSized (e : CatEntry) : Type 0 where
  pub name : length e.name.bytes ≡ 8
  pub track : e.place.tt < 2 ^ 16

-- and so those of all
abbrev pub AreSized : List CatEntry → Type 0
AreSized entries = AllByRecursion IsSized entries
