-- The bytes that are put into the zeros of a block are its data.
use Rattle.std.proofs.Common.{◌≡◌, ◌+◌, ◌-◌, ◌≤◌, ℕ, List, ◌++◌, length, take, drop, replicate, sym, ap, ◌∙◌, arith, append_assoc}
use Rattle.std.specs.Int.{w16, to_be_bytes}
use Rattle.std.proofs.lemmas.List.{drop-replicate, drop_at}
use Rattle.chain_spec.specs.Cut.{total}
use Rattle.catalog_blocks.specs.declared.blocks.CatBlock.{CatBlock}
use Rattle.catalog_blocks.specs.Blocks.{cat_size}
use Rattle.catalog_blocks.specs.Spelling.{AreSized, block_data, link_bytes, spelled_bytes}
use Rattle.catalog_blocks.proofs.EntryBytes.{IsPut, bytes_of, length_entries, put_after}

-- a block's zeros
abbrev pub zeros : List ℕ
zeros = replicate 256 0

-- the entries and the link entry stand after the count
pub spelled_put : (b : CatBlock) (at : ℕ) (old now : List ℕ) → total cat_size b.entries ≤ 242 → AreSized b.entries → at ≡ 2 + total cat_size b.entries
    → old ≡ take 2 zeros ++ bytes_of b.entries ++ drop (2 + total cat_size b.entries) zeros → length old ≡ 256 → now ≡ take at old ++ link_bytes b.next ++ drop (at + 12) old → IsPut 2 (spelled_bytes b) zeros now
unfolding spelled_bytes
spelled_put b at old now fit sized offset bytes whole more =
    let long = length_entries b.entries sized in
    let put : IsPut 2 (bytes_of b.entries) zeros old = record { fits = omega (arith, fit, long); bytes = bytes ∙ ap (λ (n : ℕ). take 2 zeros ++ bytes_of b.entries ++ drop (2 + n) zeros) (sym long) } in
    let link : IsPut at (link_bytes b.next) old now = record { fits = omega (arith, fit, offset, whole); bytes = more } in
    put_after put (omega (arith, offset, long)) link (omega (arith, fit, long))

-- the count stands before them
pub whole_data : (b : CatBlock) (used : ℕ) (now count new : List ℕ) → IsPut 2 (spelled_bytes b) zeros now → used ≡ 2 + length (spelled_bytes b) → count ≡ to_be_bytes w16 used → new ≡ count ++ drop (0 + length count) now → new ≡ block_data b
unfolding block_data
whole_data b used now count new is long spells put =
    let bytes : List ℕ = spelled_bytes b in
    let after : drop 2 now ≡ bytes ++ replicate (254 - length bytes) 0 =
    ap (drop 2) (is.bytes ∙ append_assoc (take 2 zeros) bytes (drop (2 + length bytes) zeros))
    ∙ drop_at (take 2 zeros) (bytes ++ drop (2 + length bytes) zeros) 2 (omega arith)
    ∙ ap (λ (xs : List ℕ). bytes ++ xs) (drop-replicate (2 + length bytes) 256 0 ∙ ap (λ (n : ℕ). replicate n 0) (omega arith)) in
    put
    ∙ ap (λ (xs : List ℕ). xs ++ drop (0 + length xs) now) (spells ∙ ap (to_be_bytes w16) long)
    ∙ ap (λ (xs : List ℕ). to_be_bytes w16 (2 + length bytes) ++ xs) after
    ∙ sym (append_assoc (to_be_bytes w16 (2 + length bytes)) bytes (replicate (254 - length bytes) 0))
