-- What is written as a block is read back.
use Rattle.std.proofs.Common.{◌≡◌, ◌+◌, ◌-◌, ◌*◌, ◌/◌, ◌%◌, ◌^◌, ◌≤◌, ◌<◌, ℕ, suc, false, List, [], ◌∷◌, ◌++◌, length, take, drop, replicate, Ok, refl, sym, ap, ◌∙◌, arith, append_assoc, length-append}
use Rattle.std.specs.Prelude.{◌==◌, not}
use Rattle.std.specs.Int.{w64, from_be_bytes}
use Rattle.std.specs.List.{AllByRecursion}
use Rattle.std.proofs.lemmas.Bool.{and_left}
use Rattle.std.proofs.lemmas.List.{drop-drop, drop_at, take_at}
use Rattle.std.proofs.lemmas.Nat.{from_be_bytes-to_be_bytes_2}
use Rattle.chain_spec.specs.Cut.{total}
use Rattle.chain_spec.specs.Kept.{RisesFrom}
use Rattle.vol_model.specs.declared.contents.Place.{Place}
use Rattle.catalog_blocks.specs.declared.blocks.CatBlock.{CatBlock}
use Rattle.catalog_blocks.specs.declared.blocks.CatEntry.{CatEntry}
use Rattle.catalog_blocks.specs.Blocks.{AreForBlock, IsCatEntry, block_in, cat_size, front_entry, is_link, name_number, used_bytes, with_front}
use Rattle.catalog_blocks.specs.Spelling.{AreSized, IsSized, block_data, counted_bytes, entry_bytes, link_bytes, spelled_bytes}
use Rattle.catalog_blocks.proofs.EntryBytes.{bytes_of, length_entries}
use Rattle.catalog_blocks.proofs.EntryReads.{read, read_entry, read_link, stands}
use Rattle.catalog_blocks.proofs.Names.{no_link}
use Rattle.catalog_blocks.proofs.UsedBytes.{block_holds}

-- the entry with these fields
abbrev entry_with : List ℕ → ℕ → ℕ → List ℕ → CatEntry
entry_with name track r payload = record { name = record { bytes = name }; place = record { tt = track; r = r }; payload = payload }

twice_half : (n : ℕ) → n % 2 ≡ 0 → 2 * (n / 2) ≡ n
twice_half n even = omega (arith, even)

front_fields : (at bound : ℕ) (name : List ℕ) (track r : ℕ) (payload rest : List ℕ) → IsSized (entry_with name track r payload) → IsCatEntry (entry_with name track r payload) → bound ≤ from_be_bytes w64 name
    → read at bound (entry_bytes (entry_with name track r payload) ++ rest) ≡ with_front (entry_with name track r payload) (read (at + (12 + length payload)) (suc (from_be_bytes w64 name)) rest)
front_fields at bound (a ∷ b ∷ c ∷ d ∷ e ∷ f ∷ g ∷ h ∷ []) track r payload rest sized is least =
    let name : List ℕ = a ∷ b ∷ c ∷ d ∷ e ∷ f ∷ g ∷ h ∷ [] in
    let x : CatEntry = entry_with name track r payload in
    let bytes : List ℕ = entry_bytes x ++ rest in
    let half : ℕ = length payload / 2 in
    let other : is_link bytes ≡ false = no_link name is.name in
    let n : ℕ = 12 + 2 * half in
    let whole : 2 * half ≡ length payload = twice_half (length payload) is.even in
    let low : n ≤ length bytes = omega (arith, whole, length-append payload rest) in
    let after_it : drop n bytes ≡ rest = sym (drop-drop (2 * half) 12 bytes) ∙ drop_at payload rest (2 * half) (sym whole) in
    let taken : take (n - 12) (payload ++ rest) ≡ payload = take_at payload rest (n - 12) (omega (arith, whole)) in
    let entry : front_entry bytes ≡ x =
    ap (λ (t : ℕ). entry_with name t r (take (n - 12) (payload ++ rest))) (from_be_bytes-to_be_bytes_2 track sized.track)
    ∙ ap (λ (u : List ℕ). entry_with name track r u) taken in
    let at_rest : at + n ≡ at + (12 + length payload) = omega (arith, whole) in
    read_entry at bound bytes (stands bound bytes (omega (arith, low)) low least (and_left (is_link bytes) (not (length bytes == 12)) other)) other
    ∙ ap (λ (y : CatEntry). with_front y (read (at + n) (suc (name_number x)) (drop n bytes))) entry
    ∙ ap (λ (xs : List ℕ). with_front x (read (at + n) (suc (name_number x)) xs)) after_it
    ∙ ap (λ (k : ℕ). with_front x (read k (suc (name_number x)) rest)) at_rest
front_fields at bound _ track r payload rest sized is least = absurd (omega (arith, sized.name))

front_back : (at bound : ℕ) (e : CatEntry) (rest : List ℕ) → IsSized e → IsCatEntry e → bound ≤ name_number e
    → read at bound (entry_bytes e ++ rest) ≡ with_front e (read (at + cat_size e) (suc (name_number e)) rest)
front_back at bound e rest sized is least = front_fields at bound e.name.bytes e.place.tt e.place.r e.payload rest sized is least

-- the link entry is read back; no name reaches its own but that
link_back : (at bound : ℕ) (next : Place) → next.tt < 2 ^ 16 → bound ≤ 2 ^ 64 - 1 → read at bound (link_bytes next) ≡ Ok (record { entries = []; next = next })
link_back at bound next small low =
    read_link at bound (link_bytes next) (stands bound (link_bytes next) (omega arith) (omega arith) low refl) refl
    ∙ ap (λ (t : ℕ). Ok (record { entries = []; next = record { tt = t; r = next.r } })) (from_be_bytes-to_be_bytes_2 next.tt small)

-- entries are read back with the link entry after them
back : (at bound : ℕ) (es : List CatEntry) (next : Place) → AllByRecursion IsCatEntry es → AreSized es → RisesFrom name_number bound es → next.tt < 2 ^ 16 → bound ≤ 2 ^ 64 - 1
    → read at bound (bytes_of es ++ link_bytes next) ≡ Ok (record { entries = es; next = next })
back at bound [] next are sized rise small low = link_back at bound next small low
back at bound (e ∷ es) next are sized rise small low =
    ap (read at bound) (append_assoc (entry_bytes e) (bytes_of es) (link_bytes next))
    ∙ front_back at bound e (bytes_of es ++ link_bytes next) sized.0 are.0 rise.0
    ∙ ap (with_front e) (back (at + cat_size e) (suc (name_number e)) es next are.1 sized.1 rise.1 small (omega (arith, are.0.name)))

pub length_spelled : (b : CatBlock) → AreSized b.entries → length (spelled_bytes b) ≡ total cat_size b.entries + 12
unfolding spelled_bytes
length_spelled b sized = omega (arith, length-append (bytes_of b.entries) (link_bytes b.next), length_entries b.entries sized)

-- bytes as the data of a block are those that are used
counted_back : (bytes : List ℕ) → used_bytes (2 + length bytes) (counted_bytes bytes) ≡ bytes
counted_back bytes = take_at bytes (replicate (254 - length bytes) 0) (2 + length bytes - 2) (omega arith)

-- a block is read back
pub block_back : (b : CatBlock) → AreForBlock b.entries → AreSized b.entries → b.next.tt < 2 ^ 16 → block_in (block_data b) ≡ Ok b
unfolding block_data spelled_bytes
block_back b are sized small =
    let bytes : List ℕ = spelled_bytes b in
    let long : length bytes ≡ total cat_size b.entries + 12 = length_spelled b sized in
    block_holds (2 + length bytes) (counted_bytes bytes) (from_be_bytes-to_be_bytes_2 (2 + length bytes) (omega (arith, long, are.fit))) (omega (arith, long)) (omega (arith, long, are.fit))
    ∙ ap (λ (xs : List ℕ). read 2 0 xs) (counted_back bytes)
    ∙ back 2 0 b.entries b.next are.each sized are.rise small (omega arith)
