-- What is read at a place is its next piece and what is read after it.
use Rattle.std.proofs.Common.{◌≡◌, ◌∙◌, ap, ap₂, refl, ℕ, zero, suc, ◌+◌, ◌-◌, ◌<◌, ◌≤◌, Bool, true, false, cond, Result, Ok, Err, List, [], ◌∷◌, length, drop, Option, Some, None, arith}
use Rattle.std.specs.Prelude.{◌==◌}
use Rattle.std.proofs.lemmas.Grind.{common_steps}
use Rattle.std.proofs.lemmas.List.{drop-drop}
use Rattle.std.proofs.lemmas.Bool.Decides.{nat_tests}
use Rattle.record_blocks.specs.declared.formats.Format.{Format}
use Rattle.record_blocks.specs.declared.formats.Base.{Base}
use Rattle.record_blocks.specs.declared.formats.Base.TheVariants.{Fixed, Variable, Undefined}
use Rattle.record_blocks.specs.declared.pieces.BlockErr.{BlockErr}
use Rattle.record_blocks.specs.declared.pieces.BlockErr.TheVariants.{BadDescriptor}
use Rattle.record_blocks.specs.Formats.{base_of}
use Rattle.record_blocks.specs.Blocks.{Segment, greatest_code}
use Rattle.record_blocks.specs.Reading.{Reading, read_from, next_at, next_in, go_on, piece_or, first, first_as, first_fixed, first_described, size, size_as, fault, empty_reading, failed_reading, with_segment, read_on, is_full, reading_at, has_block_descriptor}

-- a piece that takes these bytes ends within them, and takes some
pub record Fits (base : Base) (rest : List ℕ) (s : Segment) : Type 0 where
  pub within : size_as base s ≤ length rest
  pub some : 0 < length rest → 0 < size_as base s

pub fixed-fits : (lrecl : ℕ) (rest : List ℕ) (s : Segment) → first_fixed lrecl rest ≡ Some s → Fits Fixed rest s
fixed-fits lrecl rest s e = grind (arith, common_steps)

pub piece-fits : (greatest high low code last : ℕ) (rest : List ℕ) (s : Segment) → first_described greatest (high ∷ low ∷ code ∷ last ∷ rest) ≡ Some s → Fits Variable (high ∷ low ∷ code ∷ last ∷ rest) s
piece-fits greatest high low code last rest s e = grind (arith, common_steps)

pub described-fits : (greatest : ℕ) (rest : List ℕ) (s : Segment) → first_described greatest rest ≡ Some s → Fits Variable rest s
described-fits greatest [] s e = cc
described-fits greatest (a ∷ []) s e = cc
described-fits greatest (a ∷ b ∷ []) s e = cc
described-fits greatest (a ∷ b ∷ c ∷ []) s e = cc
described-fits greatest (a ∷ b ∷ c ∷ d ∷ rest) s e = piece-fits greatest a b c d rest s e

pub first-fits : (base : Base) (format : Format) (rest : List ℕ) (s : Segment) → first_as base format rest ≡ Some s → Fits base rest s
first-fits Fixed format rest s e = fixed-fits format.lrecl rest s e
first-fits Variable format rest s e = described-fits (greatest_code format) rest s e
first-fits Undefined format rest s e = grind (arith, common_steps)

-- bytes that are passed over only move the place
pub read-passed : (format : Format) (begun : Bool) (at k : ℕ) (bs : List ℕ) → k ≤ length bs → read_from format begun at k bs ≡ read_from format begun (at + k) 0 (drop k bs)
unfolding read_from
read-passed format begun at zero [] h = let e : at ≡ at + 0 = omega arith in ap (λ n. read_from format begun n 0 []) e
read-passed format begun at zero (b ∷ bs) h = let e : at ≡ at + 0 = omega arith in ap (λ n. read_from format begun n 0 (b ∷ bs)) e
read-passed format begun at (suc k) [] h = absurd (omega arith)
read-passed format begun at (suc k) (b ∷ bs) h =
    read-passed format begun (at + 1) k bs (omega arith) ∙ (let e : at + 1 + k ≡ at + suc k = omega arith in ap (λ n. read_from format begun n 0 (drop k bs)) e)

read_on-same : (e : BlockErr) (f g : Segment → Reading) (o : Option Segment) → ((s : Segment) → o ≡ Some s → f s ≡ g s) → read_on e f o ≡ read_on e g o
read_on-same e f g None h = refl
read_on-same e f g (Some s) h = ap (with_segment s) (h s refl)

pub drop-front : (n : ℕ) (b : ℕ) (bs : List ℕ) → 0 < n → drop (n - 1) bs ≡ drop n (b ∷ bs)
drop-front zero b bs h = absurd (omega arith)
drop-front (suc n) b bs h = let e : suc n - 1 ≡ n = omega arith in rw e refl

behind : (format : Format) (at : ℕ) (b : ℕ) (bs : List ℕ) (s : Segment) → first format (b ∷ bs) ≡ Some s
    → read_from format true (at + 1) (size format s - 1) bs ≡ read_from format true (at + size format s) 0 (drop (size format s) (b ∷ bs))
behind format at b bs s e =
    let fits = first-fits (base_of format) format (b ∷ bs) s e in
    let some : 0 < size format s = fits.some (omega arith) in
    let within : size format s ≤ length bs + 1 = omega (arith, fits.within) in
    let there : at + 1 + (size format s - 1) ≡ at + size format s = omega arith in
    read-passed format true (at + 1) (size format s - 1) bs (omega arith)
    ∙ ap₂ (λ n xs. read_from format true n 0 xs) there (drop-front (size format s) b bs some)

nothing-behind : (format : Format) (at n : ℕ) → empty_reading ≡ read_from format true at 0 (drop n [])
unfolding read_from
nothing-behind format at zero = refl
nothing-behind format at (suc n) = refl

go_on-piece : (behind : Segment → Reading) (e : BlockErr) (o : Option Segment) → read_on e behind o ≡ go_on behind (piece_or e o)
go_on-piece behind e None = refl
go_on-piece behind e (Some s) = refl

-- after a piece
abbrev pub after : Format → ℕ → List ℕ → Segment → Reading
after format at rest s = read_from format true (at + size format s) 0 (drop (size format s) rest)

pub not_empty : (b : ℕ) (bs : List ℕ) → (length (b ∷ bs) == 0) ≡ false
not_empty b bs = grind (arith, nat_tests)

next-piece : (format : Format) (begun : Bool) (at b : ℕ) (bs : List ℕ) → read_from format begun at 0 (b ∷ bs) ≡ go_on (after format at (b ∷ bs)) (next_at format begun at (b ∷ bs))
unfolding read_from
next-piece format false at b bs =
    read_on-same (fault format at) (λ s. read_from format true (at + 1) (size format s - 1) bs) (after format at (b ∷ bs)) (first format (b ∷ bs)) (λ s e. behind format at b bs s e)
    ∙ go_on-piece (after format at (b ∷ bs)) (fault format at) (first format (b ∷ bs))
next-piece format true at b bs =
    let same = read_on-same (fault format at) (λ s. read_from format true (at + 1) (size format s - 1) bs) (after format at (b ∷ bs)) (first format (b ∷ bs)) (λ s e. behind format at b bs s e)
    ∙ go_on-piece (after format at (b ∷ bs)) (fault format at) (first format (b ∷ bs)) in
    rw (not_empty b bs) (elim (is_full format true) as (λ v. cond v (failed_reading (fault format at)) (read_on (fault format at) (λ s. read_from format true (at + 1) (size format s - 1) bs) (first format (b ∷ bs)))
    ≡ go_on (after format at (b ∷ bs)) (cond v (Err (fault format at)) (piece_or (fault format at) (first format (b ∷ bs)))))
    [ true ↦ refl | false ↦ same ])

pub read-next : (format : Format) (begun : Bool) (at : ℕ) (rest : List ℕ) → read_from format begun at 0 rest ≡ go_on (after format at rest) (next_at format begun at rest)
unfolding read_from
read-next format true at [] = refl
read-next format false at [] =
    read_on-same (fault format at) (λ s. empty_reading) (after format at []) (first format []) (λ s e. nothing-behind format (at + size format s) (size format s))
    ∙ go_on-piece (after format at []) (fault format at) (first format [])
read-next format begun at (b ∷ bs) = next-piece format begun at b bs

go_on-same : (f g : Segment → Reading) (r : Result (Option Segment) BlockErr) → ((s : Segment) → f s ≡ g s) → go_on f r ≡ go_on g r
go_on-same f g (Ok None) h = refl
go_on-same f g (Ok (Some s)) h = ap (with_segment s) (h s)
go_on-same f g (Err e) h = refl

-- what is left at a place of a block is the next piece and what is left after it
pub left-next : (format : Format) (block : List ℕ) (begun : Bool) (at : ℕ) → reading_at format block begun at ≡ go_on (λ s. reading_at format block true (at + size format s)) (next_in format block begun at)
unfolding reading_at
left-next format block begun at =
    elim (has_block_descriptor format block) as (λ v. cond v (read_from format begun at 0 (drop at block)) (failed_reading (BadDescriptor 0))
    ≡ go_on (λ s. cond v (read_from format true (at + size format s) 0 (drop (at + size format s) block)) (failed_reading (BadDescriptor 0))) (cond v (next_at format begun at (drop at block)) (Err (BadDescriptor 0)))) [
      | true ↦ read-next format begun at (drop at block) ∙ go_on-same (after format at (drop at block)) (λ s. read_from format true (at + size format s) 0 (drop (at + size format s) block)) (next_at format begun at (drop at block)) (λ s. ap (λ xs. read_from format true (at + size format s) 0 xs) (drop-drop (size format s) at block))
      | false ↦ refl
    ]

pub ruleset steps = (left-next, first-fits)

pub ruleset fits = (first-fits)
