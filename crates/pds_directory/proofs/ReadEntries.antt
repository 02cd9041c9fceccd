-- How the entries of a block are read, one by one.
use Rattle.std.proofs.Common.{◌≡◌, ◌⊎◌, inl, inr, ◌≤◌, ◌<◌, ℕ, zero, suc, Bool, true, false, cond, List, [], ◌∷◌, ◌++◌, length, take, drop, Option, Some, None, refl, sym, ap, ◌∙◌, arith, append_assoc, length-drop}
use Rattle.std.specs.Prelude.{◌==◌, nat_lt}
use Rattle.std.specs.Option.{option_map}
use Rattle.std.specs.Str.{bytes_eq}
use Rattle.std.proofs.lemmas.Bool.{cond-true, cond-false, le-ltb, lt-ltb, ne_eqb}
use Rattle.chain_spec.specs.Store.{Block as Stored}
use Rattle.vol_model.specs.declared.contents.Entry.{Entry}
use Rattle.pack_spec.specs.Directories.{end_name, entries_from, front_entry, front_length, no_entry, with_front}

-- what these bytes hold
abbrev pub read : List ℕ → Option (Stored Entry)
read bytes = entries_from (length bytes) bytes

-- what bytes hold whose first entry has a length that they have room for, with this after it
abbrev if_long : List ℕ → Option (Stored Entry) → Option (Stored Entry)
if_long bytes o = cond (nat_lt (length bytes) (front_length bytes)) None (option_map (with_front (front_entry bytes)) o)

-- what bytes hold that have room for an entry
abbrev if_room : List ℕ → Option (Stored Entry) → Option (Stored Entry)
if_room bytes o = cond (bytes_eq (take 8 bytes) end_name) (Some (no_entry true)) (if_long bytes o)

-- what bytes hold of which there are some
abbrev if_some : List ℕ → Option (Stored Entry) → Option (Stored Entry)
if_some bytes o = cond (nat_lt (length bytes) 12) None (if_room bytes o)

-- what bytes hold
abbrev by_front : List ℕ → Option (Stored Entry) → Option (Stored Entry)
by_front bytes o = cond (length bytes == 0) (Some (no_entry false)) (if_some bytes o)

-- any number of entries that is enough gives the same
enough : (n m : ℕ) (bytes : List ℕ) → length bytes ≤ n → length bytes ≤ m → entries_from n bytes ≡ entries_from m bytes
unfolding entries_from
enough zero zero bytes first second = refl
enough zero (suc m) [] first second = refl
enough zero (suc m) (x ∷ xs) first second = absurd (omega (arith, first))
enough (suc n) zero [] first second = refl
enough (suc n) zero (x ∷ xs) first second = absurd (omega (arith, second))
enough (suc n) (suc m) bytes first second =
    ap (by_front bytes) (enough n m (drop (front_length bytes) bytes) (omega (arith, first, length-drop (front_length bytes) bytes)) (omega (arith, second, length-drop (front_length bytes) bytes)))

-- the entry at the front is read, and what is after it
one : (bytes : List ℕ) → 1 ≤ length bytes → read bytes ≡ if_some bytes (read (drop (front_length bytes) bytes))
unfolding entries_from
one [] some = absurd (omega (arith, some))
one (x ∷ xs) some =
    let bytes : List ℕ = x ∷ xs in
    let rest : List ℕ = drop (front_length bytes) bytes in
    cond-false (length bytes == 0) (Some (no_entry false)) (if_some bytes (entries_from (length xs) rest)) (ne_eqb (length bytes) 0 (λ e. omega (arith, e)))
    ∙ ap (if_some bytes) (enough (length xs) (length rest) rest (omega (arith, length-drop (front_length bytes) bytes)) (omega arith))

-- no bytes hold no entry
pub read_none : (bytes : List ℕ) → length bytes ≡ 0 → read bytes ≡ Some (no_entry false)
unfolding entries_from
read_none [] none = refl
read_none (x ∷ xs) none = absurd (omega (arith, none))

-- an entry at the front
pub read_entry : (bytes : List ℕ) → 12 ≤ length bytes → bytes_eq (take 8 bytes) end_name ≡ false → front_length bytes ≤ length bytes
    → read bytes ≡ option_map (with_front (front_entry bytes)) (read (drop (front_length bytes) bytes))
read_entry bytes some other low =
    let o : Option (Stored Entry) = read (drop (front_length bytes) bytes) in
    one bytes (omega (arith, some))
    ∙ cond-false (nat_lt (length bytes) 12) None (if_room bytes o) (le-ltb (length bytes) 12 some)
    ∙ cond-false (bytes_eq (take 8 bytes) end_name) (Some (no_entry true)) (if_long bytes o) other
    ∙ cond-false (nat_lt (length bytes) (front_length bytes)) None (option_map (with_front (front_entry bytes)) o) (le-ltb (length bytes) (front_length bytes) low)

-- the end entry at the front
pub read_end : (bytes : List ℕ) → 12 ≤ length bytes → bytes_eq (take 8 bytes) end_name ≡ true → read bytes ≡ Some (no_entry true)
read_end bytes some end =
    let o : Option (Stored Entry) = read (drop (front_length bytes) bytes) in
    one bytes (omega (arith, some))
    ∙ cond-false (nat_lt (length bytes) 12) None (if_room bytes o) (le-ltb (length bytes) 12 some)
    ∙ cond-true (bytes_eq (take 8 bytes) end_name) (Some (no_entry true)) (if_long bytes o) end

-- an entry at the front that leaves the bytes
pub read_broken : (bytes : List ℕ) → 1 ≤ length bytes → (length bytes < 12) ⊎ ((bytes_eq (take 8 bytes) end_name ≡ false) × (length bytes < front_length bytes)) → read bytes ≡ None
read_broken bytes some (inl short) =
    one bytes some ∙ cond-true (nat_lt (length bytes) 12) None (if_room bytes (read (drop (front_length bytes) bytes))) (lt-ltb (length bytes) 12 short)
read_broken bytes some (inr w) =
    let o : Option (Stored Entry) = read (drop (front_length bytes) bytes) in
    let long : Option (Stored Entry) = if_long bytes o in
    let none : long ≡ None = cond-true (nat_lt (length bytes) (front_length bytes)) None (option_map (with_front (front_entry bytes)) o) (lt-ltb (length bytes) (front_length bytes) w.1) in
    one bytes some
    ∙ ap (cond (nat_lt (length bytes) 12) None) (cond-false (bytes_eq (take 8 bytes) end_name) (Some (no_entry true)) long w.0 ∙ none)
    ∙ both (nat_lt (length bytes) 12) None
  where
    both : (b : Bool) (x : Option (Stored Entry)) → cond b x x ≡ x
    both true x = refl
    both false x = refl

-- a block's entries after others
abbrev pub behind : List Entry → Stored Entry → Stored Entry
behind done b = record { entries = done ++ b.entries; ends = b.ends }

pub behind_none : (o : Option (Stored Entry)) → option_map (behind []) o ≡ o
behind_none None = refl
behind_none (Some b) = refl

behind_more : (done : List Entry) (e : Entry) (o : Option (Stored Entry)) → option_map (behind done) (option_map (with_front e) o) ≡ option_map (behind (done ++ e ∷ [])) o
behind_more done e None = refl
behind_more done e (Some b) = ap (λ (es : List Entry). Some (record { entries = es; ends = b.ends })) (sym (append_assoc done (e ∷ []) b.entries))

-- one more entry was read
pub one_more : (bytes rest later : List ℕ) (done more : List Entry) → read bytes ≡ option_map (behind done) (read rest)
    → 12 ≤ length rest → bytes_eq (take 8 rest) end_name ≡ false → front_length rest ≤ length rest → more ≡ done ++ front_entry rest ∷ [] → drop (front_length rest) rest ≡ later
    → read bytes ≡ option_map (behind more) (read later)
one_more bytes rest later done more before some other low items behind_it =
    before
    ∙ ap (option_map (behind done)) (read_entry rest some other low)
    ∙ behind_more done (front_entry rest) (read (drop (front_length rest) rest))
    ∙ ap (λ (es : List Entry). option_map (behind es) (read (drop (front_length rest) rest))) (sym items)
    ∙ ap (λ (xs : List ℕ). option_map (behind more) (read xs)) behind_it
