-- The bytes of a directory block (System Control Blocks GC28-6628).
use Rattle.std.specs.Prelude.{ℕ, ◌+◌, ◌-◌, Bool, List, [], ◌∷◌, ◌++◌, length, map, replicate, Some, unwrap_or, if◌then◌else◌}
use Rattle.std.specs.List.{concat, last_or}
use Rattle.std.specs.Int.{w16, to_be_bytes}
use Rattle.vol_model.specs.declared.contents.Entry.{Entry}
use Rattle.pack_spec.specs.Directories.{end_name}

-- the bytes of an entry: its name, its TTR, its C byte and its user data
abbrev pub entry_bytes : Entry → List ℕ
entry_bytes e = e.name.bytes ++ to_be_bytes w16 e.place.tt ++ (e.place.r ∷ e.flags ∷ []) ++ e.user

-- the bytes of the entry that ends a directory: its name, and four zeros
abbrev pub end_entry_bytes : List ℕ
end_entry_bytes = end_name ++ replicate 4 0

-- the bytes of a block's entries, and after those of the last block the end entry
unfoldable pub spelled : List Entry → Bool → List ℕ
spelled entries last = concat (map entry_bytes entries) ++ (if last then end_entry_bytes else [])

-- these bytes of entries as the data of a block: two bytes count those that are used, themselves among them; zeros stand after the entries
abbrev pub counted : List ℕ → List ℕ
counted bytes = to_be_bytes w16 (2 + length bytes) ++ bytes ++ replicate (254 - length bytes) 0

-- the data of a block with these entries, the last of the directory or not
unfoldable pub block_data : List Entry → Bool → List ℕ
block_data entries last = counted (spelled entries last)

-- the key of a block: the last name in it
unfoldable pub block_key : List Entry → Bool → List ℕ
block_key entries last = if last then end_name else unwrap_or (last_or (Some end_name) (map (λ e. e.name.bytes) entries)) []
