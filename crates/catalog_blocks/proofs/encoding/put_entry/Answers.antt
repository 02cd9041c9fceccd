use Rattle.std.proofs.Common.{◌≡◌, ◌+◌, ◌/◌, ◌≤◌, ◌++◌, ℕ, List, [], ◌∷◌, length, take, drop, sym, ap, ◌∙◌, arith, append_assoc, length-append, get_or, rules}
use Rattle.std.specs.Int.{to_be_bytes, w16}
use Rattle.catalog_blocks.specs.declared.blocks.CatEntry.{CatEntry}
use Rattle.catalog_blocks.specs.Blocks.{cat_size}
use Rattle.catalog_blocks.specs.Spelling.{entry_bytes}
use Rattle.catalog_blocks.proofs.EntryBytes.{IsPut, put_after}
use Rattle.catalog_blocks.proofs.encoding.put_entry.Goals as goal

-- an entry's name, the four bytes after it and its data were put one after the other
entry_put : (e : CatEntry) (at n m : ℕ) (front old first second new : List ℕ) → length e.name.bytes ≡ 8 → at + cat_size e ≤ length old → front ≡ to_be_bytes w16 e.place.tt ++ (e.place.r ∷ length e.payload / 2 ∷ [])
    → first ≡ take at old ++ e.name.bytes ++ drop (at + length e.name.bytes) old → n ≡ at + length e.name.bytes
    → second ≡ take n first ++ front ++ drop (n + 4) first → m ≡ n + 4 → length first ≡ length old
    → new ≡ take m second ++ e.payload ++ drop (m + length e.payload) second → length second ≡ length old
    → new ≡ take at old ++ entry_bytes e ++ drop (at + cat_size e) old
entry_put e at n m front old first second new eight fits spelled one n-is two m-is long three longer =
    let four : length front ≡ 4 = ap length spelled in
    let name : IsPut at e.name.bytes old first = record { fits = omega (arith, fits, eight); bytes = one } in
    let middle : IsPut n front first second = record { fits = omega (arith, fits, eight, four, n-is, long); bytes = two ∙ ap (λ (k : ℕ). take n first ++ front ++ drop (n + k) first) (sym four) } in
    let tail : IsPut m e.payload second new = record { fits = omega (arith, fits, eight, n-is, m-is, longer); bytes = three } in
    let start = put_after name n-is middle (omega (arith, fits, eight, four)) in
    let all = put_after start (omega (arith, m-is, n-is, four, length-append e.name.bytes front)) tail (omega (arith, fits, eight, four, length-append e.name.bytes front)) in
    let bytes : e.name.bytes ++ front ++ e.payload ≡ entry_bytes e =
    ap (λ (xs : List ℕ). e.name.bytes ++ xs ++ e.payload) spelled ∙ ap (λ (xs : List ℕ). xs ++ e.payload) (sym (append_assoc e.name.bytes (to_be_bytes w16 e.place.tt) (e.place.r ∷ length e.payload / 2 ∷ []))) in
    let end : at + length (e.name.bytes ++ front ++ e.payload) ≡ at + cat_size e = omega (arith, eight, four, length-append (e.name.bytes ++ front) e.payload, length-append e.name.bytes front) in
    all.bytes ∙ ap (λ (xs : List ℕ). take at old ++ xs ++ drop (at + length (e.name.bytes ++ front ++ e.payload)) old) bytes ∙ ap (λ (k : ℕ). take at old ++ entry_bytes e ++ drop k old) end

pub returns-clause-bytes : goal.returns-clause-bytes
returns-clause-bytes c =
    let old : List ℕ = c.args.data.now in
    let e : CatEntry = c.args.entry.now in
    let two : List ℕ = c.to_be_bytes.result in
    let front : List ℕ = get_or two 0 0 ∷ get_or two 1 0 ∷ e.place.r ∷ length e.payload / 2 ∷ [] in
    entry_put e c.args.at c.put_part-end.result c.put_part-end-2.result front old c.put_part-end.new.data c.put_part-end-2.new.data c.put_part.new.data
    (search rules) (omega (arith, c.requires.fit)) (ap (λ (xs : List ℕ). get_or xs 0 0 ∷ get_or xs 1 0 ∷ e.place.r ∷ length e.payload / 2 ∷ []) c.to_be_bytes.ensures)
    c.put_part-end.ensures.bytes c.put_part-end.ensures.end (c.put_part-end-2.ensures.bytes ∙ ap (λ (n : ℕ). take c.put_part-end.result c.put_part-end.new.data ++ (get_or two 0 0 ∷ get_or two 1 0 ∷ e.place.r ∷ n / 2 ∷ []) ++ drop (c.put_part-end.result + 4) c.put_part-end.new.data) (c.len.ensures)) c.put_part-end-2.ensures.end (omega arith)
    (c.put_part.ensures.bytes ∙ ap (λ (xs : List ℕ). take c.put_part-end-2.result c.put_part-end-2.new.data ++ xs ++ drop (c.put_part-end-2.result + length xs) c.put_part-end-2.new.data) c.as_slice.ensures) (omega arith)
