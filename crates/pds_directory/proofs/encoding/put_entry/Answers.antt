use Rattle.std.proofs.Common.{◌≡◌, ◌+◌, ◌≤◌, ◌++◌, ℕ, List, [], ◌∷◌, length, take, drop, sym, ap, subst, ◌∙◌, arith, append_assoc, length-append, get_or, rules}
use Rattle.std.specs.Int.{to_be_bytes, w16}
use Rattle.vol_model.specs.declared.contents.Entry.{Entry}
use Rattle.vol_model.specs.Slots.{entry_size}
use Rattle.pds_directory.specs.Spelling.{entry_bytes}
use Rattle.pds_directory.proofs.EntryBytes.{IsPut, put_behind}
use Rattle.pds_directory.proofs.encoding.put_entry.Goals as goal

-- an entry's name, the four bytes after it and its user data were put one after the other
entry_put : (e : Entry) (at n m : ℕ) (front old first second new : List ℕ) → length e.name.bytes ≡ 8 → at + entry_size e ≤ length old → front ≡ to_be_bytes w16 e.place.tt ++ (e.place.r ∷ e.flags ∷ [])
    → first ≡ take at old ++ e.name.bytes ++ drop (at + length e.name.bytes) old → n ≡ at + length e.name.bytes
    → second ≡ take n first ++ front ++ drop (n + 4) first → m ≡ n + 4 → length first ≡ length old
    → new ≡ take m second ++ e.user ++ drop (m + length e.user) second → length second ≡ length old
    → new ≡ take at old ++ entry_bytes e ++ drop (at + entry_size e) old
entry_put e at n m front old first second new eight fits spelled one n-is two m-is long three longer =
    let four : length front ≡ 4 = ap length spelled in
    let name : IsPut at e.name.bytes old first = record { fits = omega (arith, fits, eight); bytes = one } in
    let middle : IsPut n front first second = record { fits = omega (arith, fits, eight, four, n-is, long); bytes = two ∙ ap (λ (k : ℕ). take n first ++ front ++ drop (n + k) first) (sym four) } in
    let user : IsPut m e.user second new = record { fits = omega (arith, fits, eight, n-is, m-is, longer); bytes = three } in
    let start = put_behind name n-is middle (omega (arith, fits, eight, four)) in
    let all = put_behind start (omega (arith, m-is, n-is, four, length-append e.name.bytes front)) user (omega (arith, fits, eight, four, length-append e.name.bytes front)) in
    let bytes : e.name.bytes ++ front ++ e.user ≡ entry_bytes e =
    ap (λ (xs : List ℕ). e.name.bytes ++ xs ++ e.user) spelled ∙ ap (λ (xs : List ℕ). xs ++ e.user) (sym (append_assoc e.name.bytes (to_be_bytes w16 e.place.tt) (e.place.r ∷ e.flags ∷ []))) in
    let end : at + length (e.name.bytes ++ front ++ e.user) ≡ at + entry_size e = omega (arith, eight, four, length-append (e.name.bytes ++ front) e.user, length-append e.name.bytes front) in
    all.bytes ∙ ap (λ (xs : List ℕ). take at old ++ xs ++ drop (at + length (e.name.bytes ++ front ++ e.user)) old) bytes ∙ ap (λ (k : ℕ). take at old ++ entry_bytes e ++ drop k old) end

pub returns-clause-bytes : goal.returns-clause-bytes
returns-clause-bytes c =
    let old : List ℕ = c.args.data.now in
    let e : Entry = c.args.entry.now in
    let same : c.entry-entry.result.now ≡ e = c.entry-entry.ensures in
    let two : List ℕ = c.to_be_bytes.result in
    let front : List ℕ = get_or two 0 0 ∷ get_or two 1 0 ∷ c.entry-entry.result.now.place.r ∷ c.entry-entry.result.now.flags ∷ [] in
    let made = entry_put c.entry-entry.result.now c.args.at c.put_part-behind.result c.put_part-behind-2.result front old c.put_part-behind.new.data c.put_part-behind-2.new.data c.put_part.new.data
    (search rules) (omega (arith, ap (λ (x : Entry). length x.user) same)) (ap (λ (xs : List ℕ). get_or xs 0 0 ∷ get_or xs 1 0 ∷ c.entry-entry.result.now.place.r ∷ c.entry-entry.result.now.flags ∷ []) c.to_be_bytes.ensures)
    c.put_part-behind.ensures.bytes c.put_part-behind.ensures.behind c.put_part-behind-2.ensures.bytes c.put_part-behind-2.ensures.behind (omega arith)
    (c.put_part.ensures.bytes ∙ ap (λ (xs : List ℕ). take c.put_part-behind-2.result c.put_part-behind-2.new.data ++ xs ++ drop (c.put_part-behind-2.result + length xs) c.put_part-behind-2.new.data) c.as_slice.ensures) (omega arith) in
    subst (λ (x : Entry). c.put_part.new.data ≡ take c.args.at old ++ entry_bytes x ++ drop (c.args.at + entry_size x) old) same made
