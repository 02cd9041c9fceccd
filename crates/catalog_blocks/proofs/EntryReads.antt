-- How the entries of a block are read, one by one.
use Rattle.std.proofs.Common.{◌≡◌, ◌+◌, ◌≤◌, ℕ, zero, suc, Bool, true, false, cond, List, [], ◌∷◌, ◌++◌, length, drop, Result, Ok, Err, refl, sym, ap, ◌∙◌, arith, append_assoc, length-drop}
use Rattle.std.specs.Prelude.{◌==◌, ◌&&◌, ◌||◌, nat_lt, not}
use Rattle.std.proofs.lemmas.Bool.{true≢false, cond-true, cond-false, le-ltb, ltb-false}
use Rattle.catalog_blocks.specs.declared.blocks.CatBlock.{CatBlock}
use Rattle.catalog_blocks.specs.declared.blocks.CatEntry.{CatEntry}
use Rattle.catalog_blocks.specs.Blocks.{breaks, entries_from, front_entry, front_length, front_number, front_place, is_link, with_front}

-- what these bytes hold, which stand at an offset, with names from a number on
abbrev pub read : ℕ → ℕ → List ℕ → Result CatBlock ℕ
read at bound bytes = entries_from (length bytes) at bound bytes

-- the link entry
abbrev pub linked : List ℕ → Result CatBlock ℕ
linked bytes = Ok (record { entries = []; next = front_place bytes })

-- what bytes hold, by their front
abbrev by_front : ℕ → ℕ → List ℕ → Result CatBlock ℕ → Result CatBlock ℕ
by_front at bound bytes o = cond (breaks bound bytes) (Err at) (cond (is_link bytes) (linked bytes) (with_front (front_entry bytes) o))

-- what stands after the first entry
abbrev pub later : ℕ → List ℕ → Result CatBlock ℕ
later at bytes = read (at + front_length bytes) (suc (front_number bytes)) (drop (front_length bytes) bytes)

-- any number of entries that is enough gives the same
enough : (n m at bound : ℕ) (bytes : List ℕ) → length bytes ≤ n → length bytes ≤ m → entries_from n at bound bytes ≡ entries_from m at bound bytes
unfolding entries_from
enough zero zero at bound bytes first second = refl
enough zero (suc m) at bound [] first second = refl
enough zero (suc m) at bound (x ∷ xs) first second = absurd (omega (arith, first))
enough (suc n) zero at bound [] first second = refl
enough (suc n) zero at bound (x ∷ xs) first second = absurd (omega (arith, second))
enough (suc n) (suc m) at bound bytes first second =
    ap (by_front at bound bytes) (enough n m (at + front_length bytes) (suc (front_number bytes)) (drop (front_length bytes) bytes) (omega (arith, first, length-drop (front_length bytes) bytes)) (omega (arith, second, length-drop (front_length bytes) bytes)))

-- the first entry, and what is after it
one : (at bound : ℕ) (bytes : List ℕ) → read at bound bytes ≡ by_front at bound bytes (later at bytes)
unfolding entries_from
one at bound [] = refl
one at bound (x ∷ xs) =
    let bytes : List ℕ = x ∷ xs in
    let rest : List ℕ = drop (front_length bytes) bytes in
    ap (by_front at bound bytes) (enough (length xs) (length rest) (at + front_length bytes) (suc (front_number bytes)) rest (omega (arith, length-drop (front_length bytes) bytes)) (omega arith))

-- bytes that break the form
pub read_broken : (at bound : ℕ) (bytes : List ℕ) → breaks bound bytes ≡ true → read at bound bytes ≡ Err at
read_broken at bound bytes is =
    one at bound bytes ∙ cond-true (breaks bound bytes) (Err at) (cond (is_link bytes) (linked bytes) (with_front (front_entry bytes) (later at bytes))) is

-- the link entry at the front
pub read_link : (at bound : ℕ) (bytes : List ℕ) → breaks bound bytes ≡ false → is_link bytes ≡ true → read at bound bytes ≡ linked bytes
read_link at bound bytes is link =
    one at bound bytes
    ∙ cond-false (breaks bound bytes) (Err at) (cond (is_link bytes) (linked bytes) (with_front (front_entry bytes) (later at bytes))) is
    ∙ cond-true (is_link bytes) (linked bytes) (with_front (front_entry bytes) (later at bytes)) link

-- another entry at the front
pub read_entry : (at bound : ℕ) (bytes : List ℕ) → breaks bound bytes ≡ false → is_link bytes ≡ false → read at bound bytes ≡ with_front (front_entry bytes) (later at bytes)
read_entry at bound bytes is other =
    one at bound bytes
    ∙ cond-false (breaks bound bytes) (Err at) (cond (is_link bytes) (linked bytes) (with_front (front_entry bytes) (later at bytes))) is
    ∙ cond-false (is_link bytes) (linked bytes) (with_front (front_entry bytes) (later at bytes)) other

-- a block's entries after others
abbrev pub after : List CatEntry → Result CatBlock ℕ → Result CatBlock ℕ
after done (Ok b) = Ok (record { entries = done ++ b.entries; next = b.next })
after done (Err at) = Err at

pub after_none : (o : Result CatBlock ℕ) → after [] o ≡ o
after_none (Ok b) = refl
after_none (Err at) = refl

after_more : (done : List CatEntry) (e : CatEntry) (o : Result CatBlock ℕ) → after done (with_front e o) ≡ after (done ++ e ∷ []) o
after_more done e (Err at) = refl
after_more done e (Ok b) = ap (λ (es : List CatEntry). Ok (record { entries = es; next = b.next })) (sym (append_assoc done (e ∷ []) b.entries))

-- one more entry was read
pub one_more : (all rest left : List ℕ) (at bound n b : ℕ) (done more : List CatEntry) → read 2 0 all ≡ after done (read at bound rest)
    → breaks bound rest ≡ false → is_link rest ≡ false → more ≡ done ++ front_entry rest ∷ [] → left ≡ drop (front_length rest) rest → n ≡ at + front_length rest → b ≡ suc (front_number rest)
    → read 2 0 all ≡ after more (read n b left)
one_more all rest left at bound n b done more before whole other items left-is n-is b-is =
    before
    ∙ ap (after done) (read_entry at bound rest whole other)
    ∙ after_more done (front_entry rest) (later at rest)
    ∙ ap (λ (es : List CatEntry). after es (later at rest)) (sym items)
    ∙ ap (λ (xs : List ℕ). after more (read (at + front_length rest) (suc (front_number rest)) xs)) (sym left-is)
    ∙ ap (λ (k : ℕ). after more (read k (suc (front_number rest)) left)) (sym n-is)
    ∙ ap (λ (k : ℕ). after more (read n k left)) (sym b-is)

-- an entry that doesn't break the form is in the bytes
or_left : (a b : Bool) → (a || b) ≡ false → a ≡ false
or_left false b is = refl
or_left true b is = is

or_right : (a b : Bool) → (a || b) ≡ false → b ≡ false
or_right false b is = is
or_right true b is = absurd (true≢false is)

pub long_enough : (bound : ℕ) (bytes : List ℕ) → breaks bound bytes ≡ false → 12 ≤ length bytes
long_enough bound bytes is = ltb-false (length bytes) 12 (or_left (nat_lt (length bytes) 12) (nat_lt (length bytes) (front_length bytes) || (nat_lt (front_number bytes) bound || (is_link bytes && not (length bytes == 12)))) is)

pub inside : (bound : ℕ) (bytes : List ℕ) → breaks bound bytes ≡ false → front_length bytes ≤ length bytes
inside bound bytes is =
    let rest : Bool = nat_lt (front_number bytes) bound || (is_link bytes && not (length bytes == 12)) in
    ltb-false (length bytes) (front_length bytes) (or_left (nat_lt (length bytes) (front_length bytes)) rest (or_right (nat_lt (length bytes) 12) (nat_lt (length bytes) (front_length bytes) || rest) is))

-- its name is at least the number
pub above : (bound : ℕ) (bytes : List ℕ) → breaks bound bytes ≡ false → bound ≤ front_number bytes
above bound bytes is =
    let link : Bool = is_link bytes && not (length bytes == 12) in
    let rest : Bool = nat_lt (front_number bytes) bound || link in
    ltb-false (front_number bytes) bound (or_left (nat_lt (front_number bytes) bound) link
    (or_right (nat_lt (length bytes) (front_length bytes)) rest (or_right (nat_lt (length bytes) 12) (nat_lt (length bytes) (front_length bytes) || rest) is)))

-- an entry that is in the bytes, with such a name, stands at their front, unless it is a link entry
pub stands : (bound : ℕ) (bytes : List ℕ) → 12 ≤ length bytes → front_length bytes ≤ length bytes → bound ≤ front_number bytes → (is_link bytes && not (length bytes == 12)) ≡ false → breaks bound bytes ≡ false
stands bound bytes long low least link =
    or_from (le-ltb (length bytes) 12 long) (or_from (le-ltb (length bytes) (front_length bytes) low) (or_from (le-ltb (front_number bytes) bound least) link))
  where
    or_from : {a b : Bool} → a ≡ false → b ≡ false → (a || b) ≡ false
    or_from {a = a} {b = b} first second = ap (λ (x : Bool). x || b) first ∙ second
