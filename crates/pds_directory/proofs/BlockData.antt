-- The bytes that are put into the zeros of a block are its data.
use Rattle.std.proofs.Common.{◌≡◌, ◌+◌, ◌-◌, ◌≤◌, ℕ, Bool, true, false, cond, List, ◌++◌, length, take, drop, replicate, sym, ap, subst, ◌∙◌, arith, append_assoc}
use Rattle.std.specs.Int.{w16, to_be_bytes}
use Rattle.std.proofs.lemmas.List.{append-nil, drop-replicate, drop_at}
use Rattle.chain_spec.specs.Cut.{total}
use Rattle.vol_model.specs.declared.contents.Entry.{Entry}
use Rattle.vol_model.specs.Slots.{entry_size}
use Rattle.pds_directory.specs.Entries.{AreSized}
use Rattle.pds_directory.specs.Spelling.{block_data, end_entry_bytes, spelled}
use Rattle.pds_directory.proofs.EntryBytes.{IsPut, bytes_of, length_entries, put_behind}
use Rattle.pds_directory.proofs.ReadBack.{length_spelled}

-- a block's zeros
abbrev pub zeros : List ℕ
zeros = replicate 256 0

-- Entries stand after the count, up to this offset.
pub record AreBehindCount (entries : List Entry) (last : Bool) (at : ℕ) (now : List ℕ) : Type 0 where
  pub offset : at ≡ 2 + total entry_size entries + cond last 12 0
  pub put : IsPut 2 (spelled entries last) zeros now

-- entries alone
pub without_end : (es : List Entry) (at : ℕ) (now : List ℕ) → total entry_size es ≤ 254 → AreSized es → at ≡ 2 + total entry_size es → now ≡ take 2 zeros ++ bytes_of es ++ drop (2 + total entry_size es) zeros → AreBehindCount es false at now
unfolding spelled
without_end es at now fit sized offset bytes =
    let long = length_entries es sized in
    let put : IsPut 2 (bytes_of es) zeros now = record { fits = omega (arith, fit, long); bytes = bytes ∙ ap (λ (n : ℕ). take 2 zeros ++ bytes_of es ++ drop (2 + n) zeros) (sym long) } in
    record { offset = omega (arith, offset); put = subst (λ (bs : List ℕ). IsPut 2 bs zeros now) (sym (append-nil (bytes_of es))) put }

-- and with the end entry after them
pub with_end : (es : List Entry) (at behind : ℕ) (old now : List ℕ) → total entry_size es + 12 ≤ 254 → AreSized es → at ≡ 2 + total entry_size es → old ≡ take 2 zeros ++ bytes_of es ++ drop (2 + total entry_size es) zeros
    → length old ≡ 256 → behind ≡ at + 12 → now ≡ take at old ++ end_entry_bytes ++ drop (at + 12) old → AreBehindCount es true behind now
unfolding spelled
with_end es at behind old now fit sized offset bytes whole later more =
    let long = length_entries es sized in
    let put : IsPut 2 (bytes_of es) zeros old = record { fits = omega (arith, fit, long); bytes = bytes ∙ ap (λ (n : ℕ). take 2 zeros ++ bytes_of es ++ drop (2 + n) zeros) (sym long) } in
    let end : IsPut at end_entry_bytes old now = record { fits = omega (arith, fit, offset, whole); bytes = more } in
    record { offset = omega (arith, offset, later); put = put_behind put (omega (arith, offset, long)) end (omega (arith, fit, long)) }

-- the same of what equals these
pub moved : {es : List Entry} {last end : Bool} {at behind : ℕ} {now then : List ℕ} → AreBehindCount es end behind then → last ≡ end → at ≡ behind → now ≡ then → AreBehindCount es last at now
moved {es = es} {last = last} {end = end} {at = at} {behind = behind} {now = now} {then = then} is first second third =
    subst (λ (b : Bool). AreBehindCount es b at now) (sym first) (subst (λ (n : ℕ). AreBehindCount es end n now) (sym second) (subst (λ (bs : List ℕ). AreBehindCount es end behind bs) (sym third) is))

-- the count stands before them
pub whole_data : (es : List Entry) (last : Bool) (at : ℕ) (now count new : List ℕ) → AreSized es → AreBehindCount es last at now → count ≡ to_be_bytes w16 at → new ≡ count ++ drop (0 + length count) now → new ≡ block_data es last
unfolding block_data
whole_data es last at now count new sized is spells put =
    let bytes : List ℕ = spelled es last in
    let used : at ≡ 2 + length bytes = omega (arith, is.offset, length_spelled es last sized) in
    let behind : drop 2 now ≡ bytes ++ replicate (254 - length bytes) 0 =
    ap (drop 2) (is.put.bytes ∙ append_assoc (take 2 zeros) bytes (drop (2 + length bytes) zeros))
    ∙ drop_at (take 2 zeros) (bytes ++ drop (2 + length bytes) zeros) 2 (omega arith)
    ∙ ap (λ (xs : List ℕ). bytes ++ xs) (drop-replicate (2 + length bytes) 256 0 ∙ ap (λ (n : ℕ). replicate n 0) (omega arith)) in
    put
    ∙ ap (λ (xs : List ℕ). xs ++ drop (0 + length xs) now) (spells ∙ ap (to_be_bytes w16) used)
    ∙ ap (λ (xs : List ℕ). to_be_bytes w16 (2 + length bytes) ++ xs) behind
    ∙ sym (append_assoc (to_be_bytes w16 (2 + length bytes)) bytes (replicate (254 - length bytes) 0))
