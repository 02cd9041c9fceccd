-- Two packings of the same records into VS or VBS blocks are the same.
use Rattle.std.proofs.Common.{◌≡◌, ◌∙◌, ap, ap₂, sym, refl, subst, ℕ, zero, suc, ◌+◌, ◌<◌, ◌≤◌, Bool, true, false, not, Ok, List, [], ◌∷◌, ◌++◌, length, take, Option, Some, None, arith, length-append}
use Rattle.std.specs.Prelude.{◌&&◌, is_some}
use Rattle.std.proofs.lemmas.List.{append_cancel_left}
use Rattle.std.proofs.Math.Seq.{take-append_seam}
use Rattle.record_blocks.specs.declared.formats.Format.{Format}
use Rattle.record_blocks.specs.declared.formats.Base.TheVariants.{Variable}
use Rattle.record_blocks.specs.Formats.{is_blocked}
use Rattle.record_blocks.specs.Blocks.{Segment, piece, described_bytes, body_of}
use Rattle.record_blocks.specs.Segments.{ends, bytes_with}
use Rattle.record_blocks.specs.Joining.{joined_records}
use Rattle.record_blocks.specs.Packing.{room, longest}
use Rattle.record_blocks.specs.Spanning.{segment_code, least}
use Rattle.record_blocks.specs.Layout.{all_segments, HasByte, IsFullFor}
use Rattle.record_blocks.proofs.Exact.{of-many}
use Rattle.record_blocks.proofs.Heads.{Continues, Head, head-of, next, begun_behind, recs_behind}

-- no records, and some
at-end : (most : ℕ) (begun : Option (List ℕ)) (rec : List ℕ) (recs : List (List ℕ)) → joined_records most begun [] ≡ Ok (rec ∷ recs) → ⊥
unfolding joined_records
at-end most None rec recs e = cc
at-end most (Some body) rec recs e = cc

not-more : (most : ℕ) (begun : Option (List ℕ)) (s : Segment) (recs : List (List ℕ)) → joined_records most begun [] ≡ Ok recs → Head begun s recs → ⊥
not-more most begun s recs e h = at-end most begun (bytes_with begun (s.bytes ++ h.rest)) h.tail (subst (λ r. joined_records most begun [] ≡ Ok r) h.is e)

head : (format : Format) (used : ℕ) (some : Bool) (begun : Option (List ℕ)) (s : Segment) (ss : List Segment) (others : List (List Segment)) (recs : List (List ℕ)) → Continues format used some begun (s ∷ ss) others recs → Head begun s recs
head format used some begun s ss others recs c = head-of (longest format) begun s (ss ++ all_segments others) recs c.codes c.bytes c.joins

-- the next block
pub opened : (format : Format) (used : ℕ) (some : Bool) (begun : Option (List ℕ)) (b : List Segment) (bs : List (List Segment)) (recs : List (List ℕ))
    → Continues format used some begun [] (b ∷ bs) recs → Continues format 0 false begun b bs recs
opened format used some begun b bs recs c =
    let block = c.behind.0 in
    let all : length (body_of Variable b) ≡ 0 + length (body_of Variable b) = omega arith in
    record {
      joins = c.joins;
      codes = c.codes;
      bytes = c.bytes;
      many = of-many (is_blocked format) b block.many;
      fits = omega (arith, block.fits);
      fills = block.fills;
      full = subst (λ n. IsFullFor format n bs) all block.full;
      behind = c.behind.1;
    }

with-same : (begun : Option (List ℕ)) (xs ys : List ℕ) → bytes_with begun xs ≡ bytes_with begun ys → xs ≡ ys
with-same None xs ys e = e
with-same (Some body) xs ys e = append_cancel_left body xs ys e

-- what is left of the record is the same
rest-same : (begun : Option (List ℕ)) (s t : Segment) (recs : List (List ℕ)) → (h : Head begun s recs) (k : Head begun t recs) → s.bytes ++ h.rest ≡ t.bytes ++ k.rest
rest-same begun s t recs h k =
    let e : bytes_with begun (s.bytes ++ h.rest) ∷ h.tail ≡ bytes_with begun (t.bytes ++ k.rest) ∷ k.tail = sym h.is ∙ k.is in
    let same : bytes_with begun (s.bytes ++ h.rest) ≡ bytes_with begun (t.bytes ++ k.rest) = cc in
    with-same begun (s.bytes ++ h.rest) (t.bytes ++ k.rest) same

front-same : (xs ys us vs : List ℕ) → xs ++ us ≡ ys ++ vs → length xs ≡ length ys → xs ≡ ys
front-same xs ys us vs e h = sym (take-append_seam xs us) ∙ ap₂ (λ n zs. take n zs) h e ∙ take-append_seam ys vs

-- by which of them end their record
length-same : (total used : ℕ) (v w : Bool) (s t r q : ℕ) → s + r ≡ t + q → used + (s + 4) ≤ total → used + (t + 4) ≤ total
    → (v ≡ true → r ≡ 0) → (v ≡ false → 0 < r) → (w ≡ true → q ≡ 0) → (w ≡ false → 0 < q) → (v ≡ false → used + (s + 4) ≡ total) → (w ≡ false → used + (t + 4) ≡ total) → (s ≡ t) × (v ≡ w)
length-same total used true true s t r q e f g a b c d m n = let x = a refl in let y = c refl in (omega arith, refl)
length-same total used true false s t r q e f g a b c d m n = let x = a refl in let y = d refl in let z = n refl in absurd (omega arith)
length-same total used false true s t r q e f g a b c d m n = let x = b refl in let y = c refl in let z = m refl in absurd (omega arith)
length-same total used false false s t r q e f g a b c d m n = let x = m refl in let y = n refl in (omega arith, refl)

size-is : (s : Segment) → length (described_bytes s) ≡ length s.bytes + 4
size-is s = omega arith

first-fits : (used total : ℕ) (s : Segment) (ss : List Segment) → used + length (body_of Variable (s ∷ ss)) ≤ total → used + (length s.bytes + 4) ≤ total
first-fits used total s ss h = omega (arith, length-append (described_bytes s) (body_of Variable ss))

pub first-same : (format : Format) (used : ℕ) (some : Bool) (begun : Option (List ℕ)) (s t : Segment) (ss ts : List Segment) (os us : List (List Segment)) (recs : List (List ℕ))
    → Continues format used some begun (s ∷ ss) os recs → Continues format used some begun (t ∷ ts) us recs → s ≡ t
first-same format used some begun s t ss ts os us recs c d =
    let h = head format used some begun s ss os recs c in
    let k = head format used some begun t ts us recs d in
    let rest = rest-same begun s t recs h k in
    let total : length s.bytes + length h.rest ≡ length t.bytes + length k.rest = sym (length-append s.bytes h.rest) ∙ ap length rest ∙ length-append t.bytes k.rest in
    let both = length-same (room format) used (ends s.code) (ends t.code) (length s.bytes) (length t.bytes) (length h.rest) (length k.rest) total
    (first-fits used (room format) s ss c.fits) (first-fits used (room format) t ts d.fits) h.last h.parted k.last k.parted
    (λ e. ap (λ n. used + n) (sym (size-is s)) ∙ c.fills.0 e) (λ e. ap (λ n. used + n) (sym (size-is t)) ∙ d.fills.0 e) in
    let bytes : s.bytes ≡ t.bytes = front-same s.bytes t.bytes h.rest k.rest rest both.0 in
    let code : s.code ≡ t.code = h.code ∙ ap (segment_code (is_some begun)) both.1 ∙ sym k.code in
    ap₂ piece code bytes

-- a block that could take the next segment isn't closed
too-small : (used total : ℕ) (s t : List ℕ) → total < used + 0 + least s → used + (length t + 4) ≤ total → (0 < length s) × (t ≡ [])
too-small used total [] t h g = absurd (omega arith)
too-small used total (b ∷ bs) [] h g = (omega arith, refl)
too-small used total (b ∷ bs) (x ∷ xs) h g = absurd (omega arith)

zero-whole : (begun : Option (List ℕ)) (code : ℕ) → code ≡ 0 → code ≡ segment_code (is_some begun) (ends code) → (begun ≡ None) × (ends code ≡ true)
zero-whole None code z e = (refl, ap ends z)
zero-whole (Some body) code z e = let f : code ≡ 2 = e ∙ ap (λ n. segment_code true (ends n)) z in absurd (omega arith)

nil-is : (xs : List ℕ) → length xs ≡ 0 → xs ≡ []
nil-is [] h = refl
nil-is (x ∷ xs) h = absurd (omega arith)

-- an empty record isn't one that has bytes
empty-first : (begun : Option (List ℕ)) (s t : Segment) (recs : List (List ℕ)) → Head begun s recs → Head begun t recs → HasByte t → (0 < length s.bytes) × (t.bytes ≡ []) → ⊥
empty-first begun s t recs h k b p =
    let z = zero-whole begun t.code (b p.1) k.code in
    let rest = rest-same begun s t recs h k in
    let none : length k.rest ≡ 0 = k.last z.1 in
    let empty : length t.bytes ≡ 0 = ap length p.1 in
    let total : length s.bytes + length h.rest ≡ length t.bytes + length k.rest = sym (length-append s.bytes h.rest) ∙ ap length rest ∙ length-append t.bytes k.rest in
    let some = p.0 in
    omega arith

blocked-is : (some blocked : Bool) → some ≡ true → some && not blocked ≡ false → blocked ≡ true
blocked-is true true e h = refl
blocked-is true false e h = cc
blocked-is false blocked e h = cc

closed : (format : Format) (used : ℕ) (some : Bool) (begun : Option (List ℕ)) (t : Segment) (ts : List Segment) (os us : List (List Segment)) (recs : List (List ℕ))
    → Continues format used some begun [] os recs → Continues format used some begun (t ∷ ts) us recs → ⊥
closed format used some begun t ts [] us recs c d = not-more (longest format) begun t recs c.joins (head format used some begun t ts us recs d)
closed format used some begun t ts ([] ∷ bs) us recs c d = let block = c.behind.0 in absurd block.many
closed format used some begun t ts ((s ∷ ss) ∷ bs) us recs c d =
    let h = head format 0 false begun s ss bs recs (opened format used some begun (s ∷ ss) bs recs c) in
    let k = head format used some begun t ts us recs d in
    let blocked = blocked-is some (is_blocked format) c.many d.many.0 in
    empty-first begun s t recs h k d.bytes.0 (too-small used (room format) s.bytes t.bytes (c.full blocked) (first-fits used (room format) t ts d.fits))

none-behind : (format : Format) (used : ℕ) (some : Bool) (begun : Option (List ℕ)) (b : List Segment) (bs : List (List Segment)) (recs : List (List ℕ))
    → Continues format used some begun [] [] recs → Continues format used some begun [] (b ∷ bs) recs → ⊥
none-behind format used some begun [] bs recs c d = let block = d.behind.0 in absurd block.many
none-behind format used some begun (s ∷ ss) bs recs c d = not-more (longest format) begun s recs c.joins (head format 0 false begun s ss bs recs (opened format used some begun (s ∷ ss) bs recs d))

-- how many segments and blocks are left
abbrev pub left_of : List Segment → List (List Segment) → ℕ
left_of more [] = length more
left_of more (b ∷ bs) = suc (length more + left_of b bs)

same-more : (s : Segment) (ss : List Segment) (os : List (List Segment)) (n : ℕ) → left_of (s ∷ ss) os ≤ suc n → left_of ss os ≤ n
same-more s ss [] n h = omega arith
same-more s ss (b ∷ bs) n h = omega arith

pub same : (n : ℕ) (format : Format) (used : ℕ) (some : Bool) (begun : Option (List ℕ)) (m k : List Segment) (os us : List (List Segment)) (recs : List (List ℕ))
    → left_of m os ≤ n → Continues format used some begun m os recs → Continues format used some begun k us recs → (m ≡ k) × (os ≡ us)
same n format used some begun [] [] [] [] recs h c d = (refl, refl)
same n format used some begun [] [] [] (u ∷ us) recs h c d = absurd (none-behind format used some begun u us recs c d)
same n format used some begun [] [] (b ∷ bs) [] recs h c d = absurd (none-behind format used some begun b bs recs d c)
same zero format used some begun [] [] (b ∷ bs) (u ∷ us) recs h c d = absurd (omega arith)
same (suc n) format used some begun [] [] (b ∷ bs) (u ∷ us) recs h c d =
    let e = same n format 0 false begun b u bs us recs (omega arith) (opened format used some begun b bs recs c) (opened format used some begun u us recs d) in
    (refl, ap₂ (λ x xs. x ∷ xs) e.0 e.1)
same n format used some begun [] (t ∷ ts) os us recs h c d = absurd (closed format used some begun t ts os us recs c d)
same n format used some begun (s ∷ ss) [] os us recs h c d = absurd (closed format used some begun s ss us os recs d c)
same zero format used some begun (s ∷ ss) (t ∷ ts) [] us recs h c d = absurd (omega arith)
same zero format used some begun (s ∷ ss) (t ∷ ts) (b ∷ bs) us recs h c d = absurd (omega arith)
same (suc n) format used some begun (s ∷ ss) (t ∷ ts) os us recs h c d =
    let first = first-same format used some begun s t ss ts os us recs c d in
    let there = subst (λ x. Continues format used some begun (x ∷ ts) us recs) (sym first) d in
    let e = same n format (used + length (described_bytes s)) true (begun_behind begun s) ss ts os us (recs_behind recs s) (same-more s ss os n h)
    (next format used some begun s ss os recs c) (next format used some begun s ts us recs there) in
    (ap₂ (λ x xs. x ∷ xs) first e.0, e.1)
