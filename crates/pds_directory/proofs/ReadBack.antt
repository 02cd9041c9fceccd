-- What is written as a directory block is read back.
use Rattle.std.proofs.Common.{◌≡◌, ◌+◌, ◌-◌, ◌*◌, ◌%◌, ◌^◌, ◌≤◌, ◌<◌, ℕ, suc, Bool, true, false, cond, List, [], ◌∷◌, ◌++◌, length, take, drop, replicate, Some, refl, sym, ap, ◌∙◌, arith, append_assoc, length-append}
use Rattle.std.specs.List.{AllByRecursion}
use Rattle.std.specs.Option.{option_map}
use Rattle.std.specs.Str.{bytes_eq}
use Rattle.std.proofs.lemmas.Bool.{and_from, le-leb}
use Rattle.std.proofs.lemmas.List.{drop-drop, drop_at, take_at}
use Rattle.std.proofs.lemmas.Nat.{from_be_bytes-to_be_bytes_2}
use Rattle.std.specs.Prelude.{nat_le}
use Rattle.chain_spec.specs.Cut.{total}
use Rattle.chain_spec.specs.Kept.{RisesFrom}
use Rattle.vol_model.specs.declared.contents.Entry.{Entry}
use Rattle.vol_model.specs.Lawful.{IsLawfulEntry}
use Rattle.vol_model.specs.Slots.{entry_size}
use Rattle.pack_spec.specs.Directories.{block_entries, end_name, front_entry, name_number, rise_from, used_bytes, with_front}
use Rattle.pds_directory.specs.Entries.{AreForBlock, AreSized}
use Rattle.pds_directory.specs.Spelling.{block_data, counted, end_entry_bytes, entry_bytes, spelled}
use Rattle.pds_directory.proofs.EntryBytes.{bytes_of, length_entries}
use Rattle.pds_directory.proofs.ReadBlocks.{block_holds}
use Rattle.pds_directory.proofs.ReadEntries.{read, read_end, read_entry, read_none}

-- the entry with these fields
abbrev entry_with : List ℕ → ℕ → ℕ → ℕ → List ℕ → Entry
entry_with name track r flags user = record { name = record { bytes = name }; place = record { tt = track; r = r }; flags = flags; user = user }

front_back : (name : List ℕ) (track r flags : ℕ) (user rest : List ℕ) → length name ≡ 8 → track < 2 ^ 16 → length user ≡ 2 * (flags % 32) → bytes_eq name end_name ≡ false
    → read (entry_bytes (entry_with name track r flags user) ++ rest) ≡ option_map (with_front (entry_with name track r flags user)) (read rest)
front_back (a ∷ b ∷ c ∷ d ∷ e ∷ f ∷ g ∷ h ∷ []) track r flags user rest eight small long other =
    let name : List ℕ = a ∷ b ∷ c ∷ d ∷ e ∷ f ∷ g ∷ h ∷ [] in
    let bytes : List ℕ = entry_bytes (entry_with name track r flags user) ++ rest in
    let n : ℕ = 12 + 2 * (flags % 32) in
    let low : n ≤ length bytes = omega (arith, long, length-append user rest) in
    let later : drop n bytes ≡ rest = sym (drop-drop (2 * (flags % 32)) 12 bytes) ∙ drop_at user rest (2 * (flags % 32)) long in
    let users : take (n - 12) (user ++ rest) ≡ user = take_at user rest (n - 12) (omega (arith, long)) in
    let entry : front_entry bytes ≡ entry_with name track r flags user =
    ap (λ (t : ℕ). entry_with name t r flags (take (n - 12) (user ++ rest))) (from_be_bytes-to_be_bytes_2 track small)
    ∙ ap (λ (u : List ℕ). entry_with name track r flags u) users in
    read_entry bytes (omega (arith, long, low)) other low
    ∙ ap (λ (x : Entry). option_map (with_front x) (read (drop n bytes))) entry
    ∙ ap (λ (xs : List ℕ). option_map (with_front (entry_with name track r flags user)) (read xs)) later
front_back _ track r flags user rest eight small long other = absurd (omega (arith, eight))

-- the bytes after the entries
abbrev tail : Bool → List ℕ
tail last = cond last end_entry_bytes []

-- entries are read back, and whether the end entry stands after them
back : (es : List Entry) (last : Bool) → AllByRecursion IsLawfulEntry es → AreSized es → read (bytes_of es ++ tail last) ≡ Some (record { entries = es; ends = last })
back [] true lawful sized = read_end end_entry_bytes (omega arith) refl
back [] false lawful sized = read_none [] refl
back (e ∷ es) last lawful sized =
    ap read (append_assoc (entry_bytes e) (bytes_of es) (tail last))
    ∙ front_back e.name.bytes e.place.tt e.place.r e.flags e.user (bytes_of es ++ tail last) sized.0.name sized.0.track lawful.0.user lawful.0.name
    ∙ ap (option_map (with_front e)) (back es last lawful.1 sized.1)

pub length_spelled : (es : List Entry) (last : Bool) → AreSized es → length (spelled es last) ≡ total entry_size es + cond last 12 0
unfolding spelled
length_spelled es true sized = omega (arith, length-append (bytes_of es) end_entry_bytes, length_entries es sized)
length_spelled es false sized = omega (arith, length-append (bytes_of es) [], length_entries es sized)

rising : (bound : ℕ) (es : List Entry) → RisesFrom name_number bound es → rise_from bound es ≡ true
rising bound [] rises = refl
rising bound (e ∷ es) rises = and_from (nat_le bound (name_number e)) (rise_from (suc (name_number e)) es) (le-leb bound (name_number e) rises.0) (rising (suc (name_number e)) es rises.1)

-- bytes as the data of a block are those that are used
counted_back : (bytes : List ℕ) → used_bytes (2 + length bytes) (counted bytes) ≡ bytes
counted_back bytes = take_at bytes (replicate (254 - length bytes) 0) (2 + length bytes - 2) (omega arith)

-- a block is read back
pub block_back : (es : List Entry) (last : Bool) → AreForBlock es last → AreSized es → block_entries (block_data es last) ≡ Some (record { entries = es; ends = last })
unfolding block_data spelled
block_back es last are sized =
    let bytes : List ℕ = spelled es last in
    let few : length bytes ≤ 254 = omega (arith, length_spelled es last sized, are.fit) in
    block_holds (2 + length bytes) (counted bytes) (record { entries = es; ends = last }) (from_be_bytes-to_be_bytes_2 (2 + length bytes) (omega (arith, few))) (omega arith) (omega (arith, few))
    (sym (ap read (counted_back bytes) ∙ back es last are.lawful sized)) (rising 0 es are.rise)
