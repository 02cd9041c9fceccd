-- The first of the lines that begin with printable columns.
use Rattle.std.proofs.Common.{◌≡◌, ◌∙◌, ap, sym, refl, subst, inl, inr, ◌⊎◌, ℕ, ◌+◌, ◌-◌, ◌==◌, Bool, true, false, cond, if◌then◌else◌, List, [], ◌∷◌, ◌++◌, length, take, slice_index, append_assoc, append-nil, arith}
use Rattle.std.specs.List.{list_all, prefix_len, slice_split, onto_first}
use Rattle.std.specs.Str.Lines.{lines, lines_of_parts, strip_carriage_return}
use Rattle.std.proofs.lemmas.Bool.Decides.{nat_tests}
use Rattle.std.proofs.lemmas.List.{length-append}
use Rattle.std.proofs.Math.Seq.{take-append_seam, take-append-add}
use Rattle.card_text.proofs.Lists.{parts_of_any}
use Rattle.deck_cards.specs.Deck.{is_printable}

abbrev pub is_line_feed : ℕ → Bool
is_line_feed b = b == 10

-- printable columns in front are in front of what is printable
pub printable_front : (line more : List ℕ) → list_all is_printable line ≡ true
    → prefix_len is_printable (line ++ more) ≡ length line + prefix_len is_printable more
printable_front [] more h = omega arith
printable_front (b ∷ bs) more h =
    let first : is_printable b ≡ true = grind (arith, nat_tests, h) in
    let behind : list_all is_printable bs ≡ true = grind (arith, nat_tests, h) in
    let others = printable_front bs more behind in
    rw first (omega (arith, others))

-- printable columns are in front of the first part of what follows them
pub front_of_parts : (line rest first : List ℕ) (others : List (List ℕ)) → list_all is_printable line ≡ true
    → slice_split is_line_feed rest ≡ first ∷ others → slice_split is_line_feed (line ++ rest) ≡ (line ++ first) ∷ others
front_of_parts [] rest first others h e = e
front_of_parts (b ∷ bs) rest first others h e =
    let no_feed : is_line_feed b ≡ false = grind (arith, nat_tests, h) in
    let behind : list_all is_printable bs ≡ true = grind (arith, nat_tests, h) in
    rw no_feed (ap (onto_first b) (front_of_parts bs rest first others behind e))

-- the last of printable columns isn't a carriage return
last_printable : (b : ℕ) (bs : List ℕ) → list_all is_printable (b ∷ bs) ≡ true → is_printable (slice_index (b ∷ bs) (length bs)) ≡ true
last_printable b [] h = grind (arith, nat_tests, h)
last_printable b (c ∷ cs) h =
    let behind : list_all is_printable (c ∷ cs) ≡ true = grind (arith, nat_tests, h) in
    grind (arith, last_printable c cs behind)

pub stripped_printable : (line : List ℕ) → list_all is_printable line ≡ true → strip_carriage_return line ≡ line
stripped_printable [] h = refl
stripped_printable (b ∷ bs) h =
    let last = last_printable b bs h in
    grind (arith, nat_tests, last)

-- the byte after others
last_byte : (line : List ℕ) (b : ℕ) → slice_index (line ++ b ∷ []) (length line) ≡ b
last_byte [] b = refl
last_byte (c ∷ cs) b = grind (arith, last_byte cs b)

pub stripped_return : (line : List ℕ) → strip_carriage_return (line ++ 13 ∷ []) ≡ line
stripped_return line = grind (arith, nat_tests, last_byte line 13, take-append_seam line (13 ∷ []), length-append line (13 ∷ []))

-- a last byte that isn't a carriage return stays
stripped_other : (line : List ℕ) (b : ℕ) → (b == 13) ≡ false → strip_carriage_return (line ++ b ∷ []) ≡ line ++ b ∷ []
stripped_other line b other = grind (arith, nat_tests, other, last_byte line b, length-append line (b ∷ []))

-- what stands before the last byte stays
stripped_front : (front : List ℕ) (b : ℕ) (bs : List ℕ) → (more : List ℕ) × (strip_carriage_return (front ++ b ∷ bs) ≡ front ++ more)
stripped_front front b bs =
    let whole = front ++ b ∷ bs in
    let size : length whole - 1 ≡ length front + length bs = grind (arith, length-append front (b ∷ bs)) in
    let cut : take (length whole - 1) whole ≡ front ++ take (length bs) (b ∷ bs) = rw size (take-append-add front (b ∷ bs) (length bs)) in
    elim (slice_index whole (length whole - 1) == 13)
    as (λ t. (more : List ℕ) × ((if t then take (length whole - 1) whole else whole) ≡ front ++ more))
    [ true ↦ (take (length bs) (b ∷ bs), cut) | false ↦ (b ∷ bs, refl) ]

abbrev pub starts_with_feed : List ℕ → Bool
starts_with_feed [] = false
starts_with_feed (b ∷ bs) = b == 10

-- an empty first part that others follow is what stands before a line feed
feed_first : (rest part : List ℕ) (parts : List (List ℕ)) → slice_split is_line_feed rest ≡ [] ∷ part ∷ parts → starts_with_feed rest ≡ true
feed_first [] part parts e = cc
feed_first (b ∷ bs) part parts e =
    let others = parts_of_any is_line_feed bs in
    (elim (b == 10) as (λ t. cond t ([] ∷ slice_split is_line_feed bs) (onto_first b (slice_split is_line_feed bs)) ≡ [] ∷ part ∷ parts → t ≡ true)
    [ true ↦ λ f. refl | false ↦ λ f. let g : (b ∷ others.0) ∷ others.1 ≡ [] ∷ part ∷ parts = sym (ap (onto_first b) others.2) ∙ f in cc ]) e

only_line : (line : List ℕ) (b : ℕ) (more : List ℕ) → lines_of_parts ((line ++ b ∷ more) ∷ []) ≡ (line ++ b ∷ more) ∷ []
only_line [] b more = grind (arith, nat_tests)
only_line (c ∷ cs) b more = grind (arith, nat_tests)

-- the first line begins with the bytes of the first part, where a carriage return at its end isn't the last of them
first_of_parts : (line : List ℕ) (b : ℕ) (part : List ℕ) (parts : List (List ℕ))
    → ((next : List ℕ) (others : List (List ℕ)) → part ≡ [] → parts ≡ next ∷ others → (b == 13) ≡ false)
    → (more : List ℕ) × (others : List (List ℕ)) × (lines_of_parts ((line ++ b ∷ part) ∷ parts) ≡ (line ++ b ∷ more) ∷ others)
first_of_parts line b part [] other = (part, [], only_line line b part)
first_of_parts line b [] (next ∷ parts) other =
    ([], lines_of_parts (next ∷ parts), ap (λ l. l ∷ lines_of_parts (next ∷ parts)) (stripped_other line b (other next parts refl refl)))
first_of_parts line b (c ∷ cs) (next ∷ parts) other =
    let kept = stripped_front (line ++ b ∷ []) c cs in
    let joined : (line ++ b ∷ []) ++ c ∷ cs ≡ line ++ b ∷ c ∷ cs = append_assoc line (b ∷ []) (c ∷ cs) in
    let front : (line ++ b ∷ []) ++ kept.0 ≡ line ++ b ∷ kept.0 = append_assoc line (b ∷ []) kept.0 in (
      kept.0,
      lines_of_parts (next ∷ parts),
      ap (λ l. l ∷ lines_of_parts (next ∷ parts)) (ap strip_carriage_return (sym joined) ∙ kept.1 ∙ front),
    )

-- the first line of bytes that begin with printable columns and a byte that no line feed follows or that is none to drop
pub first_line : (line : List ℕ) (b : ℕ) (rest : List ℕ) → list_all is_printable line ≡ true → (b == 10) ≡ false
    → ((b == 13) ≡ false) ⊎ (starts_with_feed rest ≡ false)
    → (more : List ℕ) × (others : List (List ℕ)) × (lines (line ++ b ∷ rest) ≡ (line ++ b ∷ more) ∷ others)
first_line line b rest h no_feed kept =
    let parts = parts_of_any is_line_feed rest in
    let cut : slice_split is_line_feed (b ∷ rest) ≡ (b ∷ parts.0) ∷ parts.1 = rw no_feed (ap (onto_first b) parts.2) in
    let whole = front_of_parts line (b ∷ rest) (b ∷ parts.0) parts.1 h cut in
    let other : (next : List ℕ) (others : List (List ℕ)) → parts.0 ≡ [] → parts.1 ≡ next ∷ others → (b == 13) ≡ false
    = λ next others none some.
    elim kept [
      | inl not_return ↦ not_return
      | inr not_feed ↦
          let all : slice_split is_line_feed rest ≡ [] ∷ next ∷ others = rw (sym none) (rw (sym some) parts.2) in
          let feed : starts_with_feed rest ≡ true = feed_first rest next others all in
          let both : false ≡ true = sym not_feed ∙ feed in cc
    ] in
    let found = first_of_parts line b parts.0 parts.1 other in
    (found.0, found.1, ap lines_of_parts whole ∙ found.2)

-- a part that a line feed ends, without a carriage return at its end, is a line
parts_behind : (part rest : List ℕ) → lines_of_parts (part ∷ slice_split is_line_feed rest) ≡ strip_carriage_return part ∷ lines rest
parts_behind part rest =
    let parts = parts_of_any is_line_feed rest in
    rw parts.2 refl

pub lines_fed : (line rest : List ℕ) → list_all is_printable line ≡ true → lines (line ++ 10 ∷ rest) ≡ line ∷ lines rest
lines_fed line rest h =
    let cut = front_of_parts line (10 ∷ rest) [] (slice_split is_line_feed rest) h refl in
    let same : strip_carriage_return (line ++ []) ≡ line = rw (append-nil line) (stripped_printable line h) in
    ap lines_of_parts cut ∙ parts_behind (line ++ []) rest ∙ ap (λ l. l ∷ lines rest) same

pub lines_returned : (line rest : List ℕ) → list_all is_printable line ≡ true → lines (line ++ 13 ∷ 10 ∷ rest) ≡ line ∷ lines rest
lines_returned line rest h =
    let cut = front_of_parts line (13 ∷ 10 ∷ rest) (13 ∷ []) (slice_split is_line_feed rest) h refl in
    ap lines_of_parts cut ∙ parts_behind (line ++ 13 ∷ []) rest ∙ ap (λ l. l ∷ lines rest) (stripped_return line)

line_of_parts : (b : ℕ) (part : List ℕ) (parts : List (List ℕ))
    → (line : List ℕ) × (others : List (List ℕ)) × (lines_of_parts ((b ∷ part) ∷ parts) ≡ line ∷ others)
line_of_parts b part [] = (b ∷ part, [], only_line [] b part)
line_of_parts b part (next ∷ parts) = (strip_carriage_return (b ∷ part), lines_of_parts (next ∷ parts), refl)

-- any byte begins a line
pub some_line : (b : ℕ) (rest : List ℕ) → (line : List ℕ) × (others : List (List ℕ)) × (lines (b ∷ rest) ≡ line ∷ others)
some_line b rest =
    let parts = parts_of_any is_line_feed rest in
    elim (b == 10) as (λ t. (line : List ℕ) × (others : List (List ℕ))
    × (lines_of_parts (cond t ([] ∷ slice_split is_line_feed rest) (onto_first b (slice_split is_line_feed rest))) ≡ line ∷ others)) [
      | true ↦ ([], lines rest, parts_behind [] rest)
      | false ↦
          let cut : onto_first b (slice_split is_line_feed rest) ≡ (b ∷ parts.0) ∷ parts.1 = ap (onto_first b) parts.2 in
          let found = line_of_parts b parts.0 parts.1 in
          (found.0, found.1, ap lines_of_parts cut ∙ found.2)
    ]

-- printable columns at the end of input are a line, where there are any
pub last_line : (b : ℕ) (bs : List ℕ) → list_all is_printable (b ∷ bs) ≡ true → lines (b ∷ bs) ≡ (b ∷ bs) ∷ []
last_line b bs h =
    let cut : slice_split is_line_feed (b ∷ bs) ≡ (b ∷ bs) ∷ [] =
    subst (λ l. slice_split is_line_feed l ≡ l ∷ []) (append-nil (b ∷ bs)) (front_of_parts (b ∷ bs) [] [] [] h refl) in
    ap lines_of_parts cut ∙ only_line [] b bs
