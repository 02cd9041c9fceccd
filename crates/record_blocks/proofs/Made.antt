-- The blocks that records are spread over are a packing of them.
use Rattle.std.proofs.Common.{◌≡◌, ◌∙◌, ap, ap₂, sym, refl, subst, ℕ, zero, suc, ◌+◌, ◌-◌, ◌<◌, ◌≤◌, Bool, true, false, not, Ok, List, [], ◌∷◌, ◌++◌, length, take, drop, Option, Some, None, arith, append_assoc, length-append, length-drop}
use Rattle.std.specs.Prelude.{◌&&◌, ◌||◌, is_some, nat_lt, nat_le}
use Rattle.std.specs.List.{AllByRecursion}
use Rattle.std.proofs.lemmas.List.{append-nil, take-append-drop, length-take-le}
use Rattle.std.proofs.lemmas.Bool.Decides.{nat_tests}
use Rattle.record_blocks.specs.declared.formats.Format.{Format}
use Rattle.record_blocks.specs.declared.formats.Base.TheVariants.{Variable}
use Rattle.record_blocks.specs.Formats.{is_blocked}
use Rattle.record_blocks.specs.Blocks.{Segment, piece, described_bytes, body_of}
use Rattle.record_blocks.specs.Segments.{ends, bytes_with}
use Rattle.record_blocks.specs.Joining.{joined_records, records_given}
use Rattle.record_blocks.specs.Packing.{room, needed, longest, is_spanned, block_of}
use Rattle.record_blocks.specs.Cut.{AllShort}
use Rattle.record_blocks.specs.Spanning.{segment_code, least, closes, is_last, filling, segment, filled_block, spanned_blocks, spanned_rest, must_close, pieces_in}
use Rattle.record_blocks.specs.Layout.{all_segments, HasByte, IsFullFor, IsSpannedBlock, spanned_bytes}
use Rattle.record_blocks.proofs.Exact.{many-of}
use Rattle.record_blocks.proofs.Joins.{small}
use Rattle.record_blocks.proofs.Heads.{Continues}
use Rattle.record_blocks.proofs.Spread.{spread-begins, spread-closes, spread-ends, spread-fills, some-placed, room-of}

-- an open block with these segments goes on to these blocks of these records
pub record Made (format : Format) (opens : List Segment) (some : Bool) (begun : Option (List ℕ)) (recs : List (List ℕ)) (bytes : List (List ℕ)) : Type 0 where
  pub more : List Segment
  pub others : List (List Segment)
  pub makes : bytes ≡ spanned_bytes format ((opens ++ more) ∷ others)
  pub goes : Continues format (length (body_of Variable opens)) some begun more others recs

-- its first segment is empty where what is left of the record is
abbrev pub FirstLeast : List ℕ → List Segment → Type 0
FirstLeast rest [] = Unit {0}
FirstLeast rest (s ∷ ss) = least s.bytes ≡ least rest

pub record MadeFirst (format : Format) (opens : List Segment) (some : Bool) (begun : Option (List ℕ)) (recs : List (List ℕ)) (rest : List ℕ) (bytes : List (List ℕ)) : Type 0 where
  pub made : Made format opens some begun recs bytes
  pub first : FirstLeast rest made.more

body-more : (opens : List Segment) (s : Segment) → body_of Variable (opens ++ s ∷ []) ≡ body_of Variable opens ++ described_bytes s
body-more [] s = append-nil (described_bytes s)
body-more (o ∷ os) s = ap (λ xs. described_bytes o ++ xs) (body-more os s) ∙ sym (append_assoc (described_bytes o) (body_of Variable os) (described_bytes s))

length-more : (opens : List Segment) (s : Segment) → length (body_of Variable (opens ++ s ∷ [])) ≡ length (body_of Variable opens) + length (described_bytes s)
length-more opens s = ap length (body-more opens s) ∙ length-append (body_of Variable opens) (described_bytes s)

code-small : (parted ended : Bool) → segment_code parted ended ≤ 3
code-small false true = omega arith
code-small false false = omega arith
code-small true true = omega arith
code-small true false = omega arith

ends-is : (parted ended : Bool) → ends (segment_code parted ended) ≡ ended
ends-is false true = refl
ends-is false false = refl
ends-is true true = refl
ends-is true false = refl

join-last : (most : ℕ) (begun : Option (List ℕ)) (bytes : List ℕ) (ss : List Segment) (recs : List (List ℕ)) → length (bytes_with begun bytes) ≤ most → joined_records most None ss ≡ Ok recs
    → joined_records most begun (piece (segment_code (is_some begun) true) bytes ∷ ss) ≡ Ok (bytes_with begun bytes ∷ recs)
unfolding joined_records
join-last most None bytes ss recs h e = rw (small most bytes h) (ap (records_given true bytes) e)
join-last most (Some body) bytes ss recs h e = rw (small most (body ++ bytes) h) (ap (records_given true (body ++ bytes)) e)

join-part : (most : ℕ) (begun : Option (List ℕ)) (bytes : List ℕ) (ss : List Segment) (recs : List (List ℕ)) → length (bytes_with begun bytes) ≤ most → joined_records most (Some (bytes_with begun bytes)) ss ≡ Ok recs
    → joined_records most begun (piece (segment_code (is_some begun) false) bytes ∷ ss) ≡ Ok recs
unfolding joined_records
join-part most None bytes ss recs h e = rw (small most bytes h) e
join-part most (Some body) bytes ss recs h e = rw (small most (body ++ bytes) h) e

-- one more segment in front
add : (format : Format) (used : ℕ) (some : Bool) (begun after : Option (List ℕ)) (s : Segment) (ss : List Segment) (others : List (List Segment)) (recs behind : List (List ℕ))
    → Continues format (used + length (described_bytes s)) true after ss others behind → s.code ≤ 3 → HasByte s → some && not (is_blocked format) ≡ false
    → (ends s.code ≡ false → used + length (described_bytes s) ≡ room format) → joined_records (longest format) begun (s ∷ (ss ++ all_segments others)) ≡ Ok recs → Continues format used some begun (s ∷ ss) others recs
add format used some begun after s ss others recs behind c code byte many fills joins =
    let all : used + length (described_bytes s) + length (body_of Variable ss) ≡ used + length (described_bytes s ++ body_of Variable ss) = omega (arith, length-append (described_bytes s) (body_of Variable ss)) in
    record {
      joins = joins;
      codes = (code, c.codes);
      bytes = (byte, c.bytes);
      many = (many, c.many);
      fits = subst (λ n. n ≤ room format) all c.fits;
      fills = (fills, c.fills);
      full = subst (λ n. IsFullFor format n others) all c.full;
      behind = c.behind;
    }

front-bytes : (xs ys : List Segment) → AllByRecursion HasByte (xs ++ ys) → AllByRecursion HasByte xs
front-bytes [] ys h = tt
front-bytes (x ∷ xs) ys h = (h.0, front-bytes xs ys h.1)

-- a full block in front
pub close : (format : Format) (used : ℕ) (begun : Option (List ℕ)) (more : List Segment) (others : List (List Segment)) (recs : List (List ℕ)) → used ≤ room format → IsFullFor format used (more ∷ others)
    → Continues format 0 false begun more others recs → Continues format used true begun [] (more ∷ others) recs
close format used begun more others recs h full c =
    let none : used ≡ used + length (body_of Variable []) = omega arith in
    let all : 0 + length (body_of Variable more) ≡ length (body_of Variable more) = omega arith in
    let block : IsSpannedBlock format more others = record {
      many = many-of (is_blocked format) more c.many;
      fits = subst (λ n. n ≤ room format) all c.fits;
      bytes = front-bytes more (all_segments others) c.bytes;
      fills = c.fills;
      full = subst (λ n. IsFullFor format n others) all c.full;
    } in
    record {
      joins = c.joins;
      codes = c.codes;
      bytes = c.bytes;
      many = refl;
      fits = subst (λ n. n ≤ room format) none h;
      fills = tt;
      full = subst (λ n. IsFullFor format n (more ∷ others)) none full;
      behind = (block, c.behind);
    }

least-some : (bytes : List ℕ) → 0 < least bytes
least-some [] = omega arith
least-some (b ∷ bs) = omega arith

pub full-at : (format : Format) (used : ℕ) (bs : List (List Segment)) → used ≡ room format → IsFullFor format used bs
full-at format used [] e = tt
full-at format used ([] ∷ bs) e = tt
full-at format used ((s ∷ ss) ∷ bs) e = λ _. omega (arith, least-some s.bytes)

closes-is : (blocked : Bool) (total n : ℕ) → not blocked || nat_lt total n ≡ true → blocked ≡ true → total < n
closes-is true total n e b = grind (arith, nat_tests)
closes-is false total n e b = cc

full-closed : (format : Format) (body rest : List ℕ) (more : List Segment) (others : List (List Segment)) → closes format body (least rest) ≡ true → FirstLeast rest more → IsFullFor format (length body) (more ∷ others)
full-closed format body rest [] others e f = tt
full-closed format body rest (s ∷ ss) others e f = λ blocked. subst (λ n. room format < length body + n) (sym f) (closes-is (is_blocked format) (room format) (length body + least rest) e blocked)

-- an open block, or none, that takes a segment of what is left of a record
record Takes (format : Format) (opens : List Segment) (some : Bool) (start : Option (List ℕ)) (rest : List ℕ) : Type 0 where
  start_is : pieces_in start ≡ body_of Variable opens
  opened : must_close format start rest ≡ false
  roomy : length (body_of Variable opens) + least rest ≤ room format
  many : some && not (is_blocked format) ≡ false

-- what is left of a record after its first bytes
pub record Left (format : Format) (begun : Option (List ℕ)) (placed : ℕ) (rest : List ℕ) : Type 0 where
  pub parted : is_some begun ≡ nat_lt 0 placed
  pub short : length (bytes_with begun rest) ≤ longest format
  pub byte : is_some begun ≡ true → 0 < length rest

-- VS or VBS, with room for a segment of one byte
pub record Spans (format : Format) : Type 0 where
  pub spanned : is_spanned format ≡ true
  pub roomy : needed format ≤ room format

abbrev pub Behind : Format → List (List ℕ) → Type 0
Behind format recs = (opens : List Segment) → length (body_of Variable opens) ≤ room format → Made format opens true None recs (spanned_blocks format (Some (body_of Variable opens)) recs)

last-fits : (total used count : ℕ) → nat_le (count + (used + 4)) total ≡ true → used + (count + 4) ≤ total
last-fits total used count e = grind (arith, nat_tests)

last-byte : (begun : Option (List ℕ)) (rest : List ℕ) → (is_some begun ≡ true → 0 < length rest) → HasByte (piece (segment_code (is_some begun) true) rest)
last-byte None rest h = λ e. refl
last-byte (Some body) rest h = λ e. let none : length rest ≡ 0 = ap length e in let some = h refl in absurd (omega arith)

no-end : (ended : Bool) (n m : ℕ) → ended ≡ true → ended ≡ false → n ≡ m
no-end true n m e f = cc
no-end false n m e f = cc

made-last : (format : Format) (opens : List Segment) (some : Bool) (start begun : Option (List ℕ)) (placed : ℕ) (rest : List ℕ) (recs : List (List ℕ)) → Spans format → Takes format opens some start rest → Left format begun placed rest
    → is_last format (body_of Variable opens) rest ≡ true → Behind format recs → MadeFirst format opens some begun (bytes_with begun rest ∷ recs) rest (spanned_rest format start placed rest recs)
made-last format opens some start begun placed rest recs f t l e behind =
    let s = piece (segment_code (is_some begun) true) rest in
    let used = length (body_of Variable opens) in
    let fits : used + (length rest + 4) ≤ room format = last-fits (room format) used (length rest) e in
    let size : length (described_bytes s) ≡ length rest + 4 = omega arith in
    let total : length (body_of Variable (opens ++ s ∷ [])) ≡ used + length (described_bytes s) = length-more opens s in
    let m = behind (opens ++ s ∷ []) (omega arith) in
    let ends_here : ends s.code ≡ true = ends-is (is_some begun) true in
    let makes = spread-ends format start placed rest recs f.spanned f.roomy t.opened (rw t.start_is e)
    ∙ ap₂ (λ xs parted. spanned_blocks format (Some (xs ++ segment parted true rest)) recs) t.start_is (sym l.parted)
    ∙ ap (λ xs. spanned_blocks format (Some xs) recs) (sym (body-more opens s))
    ∙ m.makes ∙ ap (λ xs. spanned_bytes format (xs ∷ m.others)) (append_assoc opens (s ∷ []) m.more) in
    let goes = subst (λ n. Continues format n true None m.more m.others recs) total m.goes in
    record {
      made = record {
        more = s ∷ m.more;
        others = m.others;
        makes = makes;
        goes = add format used some begun None s m.more m.others (bytes_with begun rest ∷ recs) recs goes (code-small (is_some begun) true) (last-byte begun rest l.byte) t.many
            (λ x. no-end (ends s.code) (used + length (described_bytes s)) (room format) ends_here x)
            (join-last (longest format) begun rest (m.more ++ all_segments m.others) recs l.short m.goes.joins);
      };
      first = refl;
    }

-- how many bytes a segment that fills its block takes of what is left
record Part (total used n : ℕ) (rest : List ℕ) : Type 0 where
  some : 0 < n
  within : n < length rest
  fills : used + (n + 4) ≡ total

part-of : (total used : ℕ) (rest : List ℕ) → used + least rest ≤ total → nat_le (length rest + (used + 4)) total ≡ false → Part total used (total - (used + 4)) rest
part-of total used [] h e = let x : total < 0 + (used + 4) = grind (arith, nat_tests) in absurd (omega arith)
part-of total used (b ∷ bs) h e =
    let x : total < length (b ∷ bs) + (used + 4) = grind (arith, nat_tests) in
    record { some = omega arith; within = omega arith; fills = omega arith }

least-take : (n : ℕ) (rest : List ℕ) → 0 < n → least (take n rest) ≡ least rest
least-take zero rest h = absurd (omega arith)
least-take (suc n) [] h = refl
least-take (suc n) (b ∷ bs) h = refl

with-parts : (begun : Option (List ℕ)) (n : ℕ) (rest : List ℕ) → bytes_with begun (take n rest) ++ drop n rest ≡ bytes_with begun rest
with-parts None n rest = take-append-drop n rest
with-parts (Some body) n rest = append_assoc body (take n rest) (drop n rest) ∙ ap (λ xs. body ++ xs) (take-append-drop n rest)

part-byte : (code : ℕ) (bytes : List ℕ) → 0 < length bytes → HasByte (piece code bytes)
part-byte code [] h = absurd (omega arith)
part-byte code (b ∷ bs) h = λ e. cc

-- the blocks after a segment of so many bytes
abbrev pub MadeBehind : Format → Option (List ℕ) → ℕ → List ℕ → List (List ℕ) → ℕ → Type 0
MadeBehind format begun placed rest recs n = MadeFirst format [] false (Some (bytes_with begun (take n rest))) ((bytes_with begun (take n rest) ++ drop n rest) ∷ recs) (drop n rest) (spanned_rest format None (placed + n) (drop n rest) recs)

part-behind : (format : Format) (opens : List Segment) (some : Bool) (start begun : Option (List ℕ)) (placed : ℕ) (rest : List ℕ) (recs : List (List ℕ)) → Spans format → Takes format opens some start rest → Left format begun placed rest
    → is_last format (body_of Variable opens) rest ≡ false
    → MadeBehind format begun placed rest recs (filling format (body_of Variable opens))
    → MadeFirst format opens some begun (bytes_with begun rest ∷ recs) rest (spanned_rest format start placed rest recs)
part-behind format opens some start begun placed rest recs f t l e m =
    let used = length (body_of Variable opens) in
    let n = filling format (body_of Variable opens) in
    let p = part-of (room format) used rest t.roomy e in
    let taken : length (take n rest) ≡ n = length-take-le n rest (omega (arith, p.within)) in
    let s = piece (segment_code (is_some begun) false) (take n rest) in
    let size : length (described_bytes s) ≡ n + 4 = omega arith in
    let fills : used + length (described_bytes s) ≡ room format = omega (arith, p.fills) in
    let whole = with-parts begun n rest in
    let long : length (bytes_with begun (take n rest)) ≤ longest format = omega (arith, l.short, ap length whole, length-append (bytes_with begun (take n rest)) (drop n rest)) in
    let start_some : 0 < filling format (pieces_in start) = rw t.start_is p.some in
    let makes = spread-fills format start placed rest recs f.spanned f.roomy t.opened (rw t.start_is e) start_some
    ∙ ap (λ xs. filled_block format (nat_lt 0 placed) xs rest ∷ spanned_rest format None (placed + filling format xs) (drop (filling format xs) rest) recs) t.start_is
    ∙ ap (λ parted. filled_block format parted (body_of Variable opens) rest ∷ spanned_rest format None (placed + n) (drop n rest) recs) (sym l.parted)
    ∙ ap₂ (λ xs xss. block_of format xs ∷ xss) (sym (body-more opens s)) m.made.makes in
    let recs_are : (bytes_with begun (take n rest) ++ drop n rest) ∷ recs ≡ bytes_with begun rest ∷ recs = ap (λ xs. xs ∷ recs) whole in
    let goes = subst (λ rs. Continues format 0 false (Some (bytes_with begun (take n rest))) m.made.more m.made.others rs) recs_are m.made.goes in
    let closed = close format (used + length (described_bytes s)) (Some (bytes_with begun (take n rest))) m.made.more m.made.others (bytes_with begun rest ∷ recs) (omega arith) (full-at format (used + length (described_bytes s)) (m.made.more ∷ m.made.others) fills) goes in
    record {
      made = record {
        more = s ∷ [];
        others = m.made.more ∷ m.made.others;
        makes = makes;
        goes = add format used some begun (Some (bytes_with begun (take n rest))) s [] (m.made.more ∷ m.made.others) (bytes_with begun rest ∷ recs) (bytes_with begun rest ∷ recs) closed (code-small (is_some begun) false)
            (part-byte (segment_code (is_some begun) false) (take n rest) (omega (arith, p.some))) t.many (λ _. fills)
            (join-part (longest format) begun (take n rest) (m.made.more ++ all_segments m.made.others) (bytes_with begun rest ∷ recs) long goes.joins);
      };
      first = least-take n rest p.some;
    }

made-part : (format : Format) (opens : List Segment) (some : Bool) (start begun : Option (List ℕ)) (placed : ℕ) (rest : List ℕ) (recs : List (List ℕ)) → Spans format → Takes format opens some start rest → Left format begun placed rest
    → is_last format (body_of Variable opens) rest ≡ false
    → ((next : ℕ) (after : Option (List ℕ)) (others : List ℕ) → Left format after next others → length others < length rest → MadeFirst format [] false after (bytes_with after others ∷ recs) others (spanned_rest format None next others recs))
    → MadeFirst format opens some begun (bytes_with begun rest ∷ recs) rest (spanned_rest format start placed rest recs)
made-part format opens some start begun placed rest recs f t l e deeper =
    let n = filling format (body_of Variable opens) in
    let p = part-of (room format) (length (body_of Variable opens)) rest t.roomy e in
    let whole = with-parts begun n rest in
    let left : length (drop n rest) + n ≡ length rest = omega (arith, length-drop n rest, p.within) in
    let m : MadeBehind format begun placed rest recs n = deeper (placed + n) (Some (bytes_with begun (take n rest))) (drop n rest)
    (record { parted = some-placed placed n p.some; short = subst (λ xs. length xs ≤ longest format) (sym whole) l.short; byte = λ _. omega (arith, p.within) }) (omega (arith, p.some)) in
    part-behind format opens some start begun placed rest recs f t l e m

made-open : (format : Format) (opens : List Segment) (some : Bool) (start begun : Option (List ℕ)) (placed : ℕ) (rest : List ℕ) (recs : List (List ℕ)) → Spans format → Takes format opens some start rest → Left format begun placed rest → Behind format recs
    → ((next : ℕ) (after : Option (List ℕ)) (others : List ℕ) → Left format after next others → length others < length rest → MadeFirst format [] false after (bytes_with after others ∷ recs) others (spanned_rest format None next others recs))
    → (v : Bool) → is_last format (body_of Variable opens) rest ≡ v → MadeFirst format opens some begun (bytes_with begun rest ∷ recs) rest (spanned_rest format start placed rest recs)
made-open format opens some start begun placed rest recs f t l behind deeper true e = made-last format opens some start begun placed rest recs f t l e behind
made-open format opens some start begun placed rest recs f t l behind deeper false e = made-part format opens some start begun placed rest recs f t l e deeper

least-five : (rest : List ℕ) → least rest ≤ 5
least-five [] = omega arith
least-five (b ∷ bs) = omega arith

takes-none : (format : Format) (rest : List ℕ) → Spans format → Takes format [] false None rest
unfolding pieces_in must_close
takes-none format rest f = record { start_is = refl; opened = refl; roomy = omega (arith, least-five rest, room-of format f.spanned f.roomy); many = refl }

pub made-none : (n : ℕ) (format : Format) (begun : Option (List ℕ)) (placed : ℕ) (rest : List ℕ) (recs : List (List ℕ)) → Spans format → Left format begun placed rest → Behind format recs → length rest ≤ n
    → MadeFirst format [] false begun (bytes_with begun rest ∷ recs) rest (spanned_rest format None placed rest recs)
made-none zero format begun placed rest recs f l behind h = made-open format [] false None begun placed rest recs f (takes-none format rest f) l behind (λ next after others k lt. absurd (omega arith)) (is_last format [] rest) refl
made-none (suc n) format begun placed rest recs f l behind h = made-open format [] false None begun placed rest recs f (takes-none format rest f) l behind (λ next after others k lt. made-none n format after next others recs f k behind (omega arith)) (is_last format [] rest) refl

open-is : (blocked : Bool) (total n : ℕ) → not blocked || nat_lt total n ≡ false → (blocked ≡ true) × (n ≤ total)
open-is true total n e = (refl, grind (arith, nat_tests))
open-is false total n e = cc

not-many : (blocked : Bool) → blocked ≡ true → true && not blocked ≡ false
not-many true e = refl
not-many false e = cc

takes-some : (format : Format) (opens : List Segment) (rest : List ℕ) → must_close format (Some (body_of Variable opens)) rest ≡ false → Takes format opens true (Some (body_of Variable opens)) rest
unfolding pieces_in must_close
takes-some format opens rest e =
    let o = open-is (is_blocked format) (room format) (length (body_of Variable opens) + least rest) e in
    record { start_is = refl; opened = e; roomy = o.1; many = not-many (is_blocked format) o.0 }

made-some : (format : Format) (opens : List Segment) (rec : List ℕ) (recs : List (List ℕ)) → Spans format → Left format None 0 rec → length (body_of Variable opens) ≤ room format → Behind format recs
    → (v : Bool) → must_close format (Some (body_of Variable opens)) rec ≡ v → Made format opens true None (rec ∷ recs) (spanned_rest format (Some (body_of Variable opens)) 0 rec recs)
unfolding pieces_in must_close
made-some format opens rec recs f l h behind true e =
    let m = made-none (length rec) format None 0 rec recs f l behind (omega arith) in
    record {
      more = [];
      others = m.made.more ∷ m.made.others;
      makes = spread-closes format (Some (body_of Variable opens)) 0 rec recs f.spanned f.roomy e
          ∙ ap₂ (λ xs xss. block_of format (body_of Variable xs) ∷ xss) (sym (append-nil opens)) m.made.makes;
      goes = close format (length (body_of Variable opens)) None m.made.more m.made.others (rec ∷ recs) h (full-closed format (body_of Variable opens) rec m.made.more m.made.others e m.first) m.made.goes;
    }
made-some format opens rec recs f l h behind false e =
    let m = made-open format opens true (Some (body_of Variable opens)) None 0 rec recs f (takes-some format opens rec e) l behind (λ next after others k lt. made-none (length others) format after next others recs f k behind (omega arith)) (is_last format (body_of Variable opens) rec) refl in
    m.made

pub left-all : (format : Format) (rec : List ℕ) → length rec ≤ longest format → Left format None 0 rec
left-all format rec h = record { parted = refl; short = h; byte = λ e. cc }

pub made-recs : (format : Format) (recs : List (List ℕ)) → Spans format → AllShort format recs → Behind format recs
unfolding joined_records spanned_blocks
made-recs format [] f a = λ opens h. record {
  more = [];
  others = [];
  makes = ap (λ xs. block_of format (body_of Variable xs) ∷ []) (sym (append-nil opens));
  goes = record { joins = refl; codes = tt; bytes = tt; many = refl; fits = omega arith; fills = tt; full = tt; behind = tt };
}
made-recs format (rec ∷ recs) f a = λ opens h.
    let m = made-some format opens rec recs f (left-all format rec a.0) h (made-recs format recs f a.1) (must_close format (Some (body_of Variable opens)) rec) refl in
    record { more = m.more; others = m.others; makes = spread-begins format (Some (body_of Variable opens)) rec recs ∙ m.makes; goes = m.goes }
