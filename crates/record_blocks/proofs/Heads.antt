-- The first segment of what is left of a packing into VS or VBS blocks, and what is left after it.
use Rattle.std.proofs.Common.{◌≡◌, ◌∙◌, ap, sym, refl, subst, ℕ, zero, suc, ◌+◌, ◌<◌, ◌≤◌, Bool, true, false, Result, Ok, List, [], ◌∷◌, ◌++◌, length, drop, Option, Some, None, arith, append_assoc, length-append}
use Rattle.std.specs.Prelude.{if◌then◌else◌, is_some}
use Rattle.std.specs.List.{AllByRecursion}
use Rattle.std.proofs.lemmas.List.{append-nil}
use Rattle.record_blocks.specs.declared.formats.Format.{Format}
use Rattle.record_blocks.specs.declared.formats.Base.TheVariants.{Variable}
use Rattle.record_blocks.specs.declared.joiner.JoinErr.{JoinErr}
use Rattle.record_blocks.specs.Formats.{is_blocked}
use Rattle.record_blocks.specs.Blocks.{Segment, piece, described_bytes, body_of}
use Rattle.record_blocks.specs.Segments.{ends, bytes_with, AreCodes, AreRestOf}
use Rattle.record_blocks.specs.Segments.AreRestOf.{last, middle}
use Rattle.record_blocks.specs.Joining.{joined_records, records_given, is_bad}
use Rattle.record_blocks.specs.Packing.{room, longest}
use Rattle.record_blocks.specs.Spanning.{segment_code}
use Rattle.record_blocks.specs.Layout.{all_segments, HasByte, AreFilling, IsFullFor, AreSpannedBlocks}
use Rattle.record_blocks.proofs.Exact.{Many}
use Rattle.record_blocks.proofs.Joins.{part-at, given-one, sound}

-- after so many bytes of a block: its further segments, the blocks after it, and the records that they hold
pub record Continues (format : Format) (used : ℕ) (some : Bool) (begun : Option (List ℕ)) (more : List Segment) (others : List (List Segment)) (recs : List (List ℕ)) : Type 0 where
  pub joins : joined_records (longest format) begun (more ++ all_segments others) ≡ Ok recs
  pub codes : AreCodes (more ++ all_segments others)
  pub bytes : AllByRecursion HasByte (more ++ all_segments others)
  pub many : Many some (is_blocked format) more
  pub fits : used + length (body_of Variable more) ≤ room format
  pub fills : AreFilling (room format) used more
  pub full : IsFullFor format (used + length (body_of Variable more)) others
  pub behind : AreSpannedBlocks format others

-- the first segment of these records
pub record Head (begun : Option (List ℕ)) (s : Segment) (recs : List (List ℕ)) : Type 0 where
  pub rest : List ℕ
  pub tail : List (List ℕ)
  pub is : recs ≡ bytes_with begun (s.bytes ++ rest) ∷ tail
  pub code : s.code ≡ segment_code (is_some begun) (ends s.code)
  pub last : ends s.code ≡ true → length rest ≡ 0
  pub parted : ends s.code ≡ false → 0 < length rest

code-is : (begun : Option (List ℕ)) (code : ℕ) → code ≤ 3 → is_bad begun code ≡ false → code ≡ segment_code (is_some begun) (ends code)
code-is None zero h e = refl
code-is None (suc zero) h e = refl
code-is None (suc (suc zero)) h e = cc
code-is None (suc (suc (suc zero))) h e = cc
code-is (Some body) zero h e = cc
code-is (Some body) (suc zero) h e = cc
code-is (Some body) (suc (suc zero)) h e = refl
code-is (Some body) (suc (suc (suc zero))) h e = refl
code-is begun (suc (suc (suc (suc n)))) h e = absurd (omega arith)

some-bytes : (code : ℕ) (bytes : List ℕ) → 0 < code → HasByte (piece code bytes) → 0 < length bytes
some-bytes code [] h b = let e : code ≡ 0 = b refl in absurd (omega arith)
some-bytes code (x ∷ xs) h b = omega arith

rest-some : {front : List Segment} {rest : List ℕ} (others ss : List Segment) → AreRestOf front rest → ss ≡ front ++ others → AllByRecursion HasByte ss → 0 < length rest
rest-some others ss (last bytes) e b = let bs : AllByRecursion HasByte (piece 2 bytes ∷ others) = subst (λ x. AllByRecursion HasByte x) e b in some-bytes 2 bytes (omega arith) bs.0
rest-some others ss (middle bytes os rest r) e b =
    let bs : AllByRecursion HasByte (piece 3 bytes ∷ (os ++ others)) = subst (λ x. AllByRecursion HasByte x) e b in
    let some : 0 < length bytes = some-bytes 3 bytes (omega arith) bs.0 in
    omega (arith, length-append bytes rest)

with-append : (begun : Option (List ℕ)) (bytes rest : List ℕ) → bytes_with begun bytes ++ rest ≡ bytes_with begun (bytes ++ rest)
with-append None bytes rest = refl
with-append (Some body) bytes rest = append_assoc body bytes rest

head-by : (most : ℕ) (begun : Option (List ℕ)) (s : Segment) (ss : List Segment) (recs : List (List ℕ)) (v : Bool) → ends s.code ≡ v → AreCodes ss → AllByRecursion HasByte ss
    → s.code ≡ segment_code (is_some begun) (ends s.code) → records_given v (bytes_with begun s.bytes) (joined_records most (if v then None else Some (bytes_with begun s.bytes)) ss) ≡ Ok recs → Head begun s recs
head-by most begun s ss recs true e c b k goes =
    let g = given-one (bytes_with begun s.bytes) (joined_records most None ss) recs goes in
    record { rest = []; tail = g.tail; is = g.recs_are ∙ ap (λ xs. bytes_with begun xs ∷ g.tail) (sym (append-nil s.bytes)); code = k; last = λ h. refl; parted = λ h. cc }
head-by most begun s ss recs false e c b k goes =
    let o = sound most (Some (bytes_with begun s.bytes)) ss recs c goes in
    record { rest = o.rest; tail = o.tail; is = o.recs_are ∙ ap (λ xs. xs ∷ o.tail) (with-append begun s.bytes o.rest); code = k; last = λ h. cc; parted = λ h. rest-some o.others ss o.parts o.is b }

pub head-of : (most : ℕ) (begun : Option (List ℕ)) (s : Segment) (ss : List Segment) (recs : List (List ℕ)) → AreCodes (s ∷ ss) → AllByRecursion HasByte (s ∷ ss) → joined_records most begun (s ∷ ss) ≡ Ok recs → Head begun s recs
head-of most begun s ss recs c b e =
    let p = part-at most begun s ss recs e in
    head-by most begun s ss recs (ends s.code) refl c.1 b.1 (code-is begun s.code c.0 p.0) p.1.goes

goes-on : (v : Bool) (rec : List ℕ) (others : Result (List (List ℕ)) JoinErr) (recs : List (List ℕ)) → records_given v rec others ≡ Ok recs → others ≡ Ok (if v then drop 1 recs else recs)
goes-on true rec others recs e = let g = given-one rec others recs e in g.others_are ∙ ap (λ r. Ok (drop 1 r)) (sym g.recs_are)
goes-on false rec others recs e = e

-- the bytes of a record up to a segment, if it isn't whole
abbrev pub begun_behind : Option (List ℕ) → Segment → Option (List ℕ)
begun_behind begun s = if ends s.code then None else Some (bytes_with begun s.bytes)

-- and the records that end after it
abbrev pub recs_behind : List (List ℕ) → Segment → List (List ℕ)
recs_behind recs s = if ends s.code then drop 1 recs else recs

-- after the first segment
pub next : (format : Format) (used : ℕ) (some : Bool) (begun : Option (List ℕ)) (s : Segment) (ss : List Segment) (others : List (List Segment)) (recs : List (List ℕ))
    → Continues format used some begun (s ∷ ss) others recs → Continues format (used + length (described_bytes s)) true (begun_behind begun s) ss others (recs_behind recs s)
next format used some begun s ss others recs c =
    let p = part-at (longest format) begun s (ss ++ all_segments others) recs c.joins in
    let all : used + length (described_bytes s ++ body_of Variable ss) ≡ used + length (described_bytes s) + length (body_of Variable ss) = omega (arith, length-append (described_bytes s) (body_of Variable ss)) in
    record {
      joins = goes-on (ends s.code) (bytes_with begun s.bytes) (joined_records (longest format) (begun_behind begun s) (ss ++ all_segments others)) recs p.1.goes;
      codes = c.codes.1;
      bytes = c.bytes.1;
      many = c.many.1;
      fits = subst (λ n. n ≤ room format) all c.fits;
      fills = c.fills.1;
      full = subst (λ n. IsFullFor format n others) all c.full;
      behind = c.behind;
    }
