-- What is read of a block without a fault are the segments that it holds.
use Rattle.std.proofs.Common.{◌≡◌, ◌∙◌, ap, ap₂, sym, refl, subst, ℕ, zero, suc, ◌+◌, ◌-◌, ◌*◌, ◌/◌, ◌%◌, ◌<◌, ◌≤◌, ◌↔◌, Bool, true, false, not, Result, Ok, Err, List, [], ◌∷◌, ◌++◌, length, take, drop, Option, Some, None, arith, length-append}
use Rattle.std.specs.Prelude.{if◌then◌else◌, ◌==◌, ◌&&◌, nat_le}
use Rattle.std.specs.List.{AllByRecursion}
use Rattle.std.proofs.lemmas.Grind.{common_steps}
use Rattle.std.proofs.lemmas.Bool.Decides.{nat_tests}
use Rattle.std.proofs.lemmas.List.{take-append-drop, drop_all, drop_at, length-take-le, append-nil}
use Rattle.std.proofs.Math.Seq.{take-append_seam}
use Rattle.record_blocks.specs.declared.formats.Format.{Format}
use Rattle.record_blocks.specs.declared.formats.Base.{Base}
use Rattle.record_blocks.specs.declared.formats.Base.TheVariants.{Fixed, Variable, Undefined}
use Rattle.record_blocks.specs.declared.pieces.BlockErr.{BlockErr}
use Rattle.record_blocks.specs.declared.pieces.BlockErr.TheVariants.{BadDescriptor}
use Rattle.record_blocks.specs.Formats.{base_of, is_blocked, first_fault}
use Rattle.record_blocks.specs.Blocks.{Segment, whole_segment, described_bytes, segment_bytes, body_of, greatest_code, IsLawfulAs, IsMany, IsBlock, IsBlockAs}
use Rattle.record_blocks.specs.Packing.{least_as}
use Rattle.record_blocks.proofs.Bounds.{bounds}
use Rattle.record_blocks.specs.Reading.{Reading, AreBytes, complete_reading, read_from, next_at, go_on, piece_or, first, first_as, first_fixed, first_described, piece_in, size, size_as, fault, empty_reading, failed_reading, with_segment, is_full, has_block_descriptor_as, start_as, spans, reading_at, reading}
use Rattle.record_blocks.proofs.Steps.{read-next, after, not_empty}

pub bytes-drop : (n : ℕ) (bs : List ℕ) → AreBytes bs → AreBytes (drop n bs)
bytes-drop zero bs h = h
bytes-drop (suc n) [] h = tt
bytes-drop (suc n) (b ∷ bs) h = bytes-drop n bs h.1

-- what a conditional value says of its condition
pub record Given {X : Type 0} (b : Bool) (x s : X) : Type 0 where
  pub holds : b ≡ true
  pub same : x ≡ s

given : {X : Type 0} (b : Bool) (x s : X) → (if b then Some x else None) ≡ Some s → Given b x s
given true x s e = record { holds = refl; same = cc }
given false x s e = cc

-- a piece is spelled at the front of its bytes, and lawful
pub record Spells (base : Base) (format : Format) (rest : List ℕ) (s : Segment) : Type 0 where
  pub front : rest ≡ segment_bytes base s ++ drop (size_as base s) rest
  pub lawful : IsLawfulAs base format s

fixed-spells : (format : Format) (rest : List ℕ) (s : Segment) → first_fixed format.lrecl rest ≡ Some s → Spells Fixed format rest s
fixed-spells format rest s e =
    let g = given (not (format.lrecl == 0) && nat_le format.lrecl (length rest)) (whole_segment (take format.lrecl rest)) s e in
    let within : format.lrecl ≤ length rest = grind (arith, nat_tests, g.holds) in
    let size : length (take format.lrecl rest) ≡ format.lrecl = length-take-le format.lrecl rest within in
    subst (λ u. Spells Fixed format rest u) g.same (record {
      front = sym (ap (λ n. take format.lrecl rest ++ drop n rest) size ∙ take-append-drop format.lrecl rest);
      lawful = (refl, size);
    })

-- and so is a piece with a descriptor
pub record Describes (greatest : ℕ) (rest : List ℕ) (s : Segment) : Type 0 where
  pub front : rest ≡ described_bytes s ++ drop (length s.bytes + 4) rest
  pub code : s.code ≤ greatest

-- the descriptor's bytes tell its length
record Told (high low n : ℕ) : Type 0 where
  high_is : n / 256 ≡ high
  low_is : n % 256 ≡ low

told : (high low n : ℕ) → low < 256 → 256 * high + low ≡ n → Told high low n
told high low n b e = record { high_is = omega arith; low_is = omega arith }

drop-head : (n a b c d : ℕ) (rest : List ℕ) → drop (n + 4) (a ∷ b ∷ c ∷ d ∷ rest) ≡ drop n rest
drop-head n a b c d rest = let e : n + 4 ≡ suc (suc (suc (suc n))) = omega arith in rw e refl

drop-behind : (n a b c d : ℕ) (rest front : List ℕ) → 4 ≤ n → front ++ drop (n - 4) rest ≡ rest → front ++ drop n (a ∷ b ∷ c ∷ d ∷ rest) ≡ rest
drop-behind n a b c d rest front h e = let m : n ≡ n - 4 + 4 = omega arith in ap (λ k. front ++ drop k (a ∷ b ∷ c ∷ d ∷ rest)) m ∙ ap (λ xs. front ++ xs) (drop-head (n - 4) a b c d rest) ∙ e

-- what the tests of a descriptor say
record Tested (greatest n code last : ℕ) (rest : List ℕ) : Type 0 where
  least : 4 ≤ n
  code_is : code ≤ greatest
  last_is : last ≡ 0
  within : n ≤ length rest + 4

tested : (greatest n code last : ℕ) (rest : List ℕ) → nat_le 4 n && (nat_le code greatest && ((last == 0) && nat_le n (length rest + 4))) ≡ true → Tested greatest n code last rest
tested greatest n code last rest e = grind (arith, nat_tests)

head-spells : (greatest h l c z : ℕ) (rest : List ℕ) (s : Segment) → l < 256 → piece_in greatest (256 * h + l) c z rest ≡ Some s → Describes greatest (h ∷ l ∷ c ∷ z ∷ rest) s
head-spells greatest h l c z rest s b e =
    let n = 256 * h + l in
    let g = given (nat_le 4 n && (nat_le c greatest && ((z == 0) && nat_le n (length rest + 4)))) (record { code = c; bytes = take (n - 4) rest }) s e in
    let t = tested greatest n c z rest g.holds in
    let size : length (take (n - 4) rest) ≡ n - 4 = length-take-le (n - 4) rest (omega arith) in
    let all : length (take (n - 4) rest) + 4 ≡ n = omega arith in
    let two = told h l n b refl in
    let front : h ∷ l ∷ c ∷ z ∷ rest ≡ described_bytes (record { code = c; bytes = take (n - 4) rest }) ++ drop (length (take (n - 4) rest) + 4) (h ∷ l ∷ c ∷ z ∷ rest)
    = rw (all, two.high_is, two.low_is, t.last_is) (ap (λ xs. h ∷ l ∷ c ∷ 0 ∷ xs) (sym (drop-behind n h l c 0 rest (take (n - 4) rest) t.least (take-append-drop (n - 4) rest)))) in
    subst (λ u. Describes greatest (h ∷ l ∷ c ∷ z ∷ rest) u) g.same (record { front = front; code = t.code_is })

pub described-spells : (greatest : ℕ) (rest : List ℕ) (s : Segment) → AreBytes rest → first_described greatest rest ≡ Some s → Describes greatest rest s
described-spells greatest [] s b e = cc
described-spells greatest (h ∷ []) s b e = cc
described-spells greatest (h ∷ l ∷ []) s b e = cc
described-spells greatest (h ∷ l ∷ c ∷ []) s b e = cc
described-spells greatest (h ∷ l ∷ c ∷ z ∷ rest) s b e = head-spells greatest h l c z rest s b.1.0 e

pub first-spells : (base : Base) (format : Format) (rest : List ℕ) (s : Segment) → AreBytes rest → first_as base format rest ≡ Some s → Spells base format rest s
first-spells Fixed format rest s b e = fixed-spells format rest s e
first-spells Variable format rest s b e = let d = described-spells (greatest_code format) rest s b e in record { front = d.front; lawful = d.code }
first-spells Undefined format rest s b e =
    let same : whole_segment rest ≡ s = cc in
    subst (λ u. Spells Undefined format rest u) same (record { front = sym (ap (λ xs. rest ++ xs) (drop_all (length rest) rest (omega arith)) ∙ append-nil rest); lawful = refl })

-- a lawful piece is read at the front of its bytes, where pieces tell their end
abbrev pub Ends : Base → Type 0
Ends Fixed = Unit {0}
Ends Variable = Unit {0}
Ends Undefined = ⊥

fixed-reads : (lrecl : ℕ) (s : Segment) (rest : List ℕ) → 1 ≤ lrecl → s.code ≡ 0 → length s.bytes ≡ lrecl → first_fixed lrecl (s.bytes ++ rest) ≡ Some s
fixed-reads lrecl s rest l c h =
    let tests : not (lrecl == 0) && nat_le lrecl (length (s.bytes ++ rest)) ≡ true = simp length-append (grind (arith, nat_tests)) in
    let bytes : take lrecl (s.bytes ++ rest) ≡ s.bytes = rw (← h) (take-append_seam s.bytes rest) in
    let mk : ℕ → List ℕ → Segment = λ code bytes. record { code = code; bytes = bytes } in
    rw tests (ap Some (ap (mk 0) bytes ∙ ap (λ code. mk code s.bytes) (sym c)))

pub described-reads : (greatest : ℕ) (s : Segment) (rest : List ℕ) → s.code ≤ greatest → first_described greatest (described_bytes s ++ rest) ≡ Some s
described-reads greatest s rest h =
    let n = length s.bytes + 4 in
    let number : 256 * (n / 256) + n % 256 ≡ n = omega arith in
    let tests : nat_le 4 n && (nat_le s.code greatest && (true && nat_le n (length (s.bytes ++ rest) + 4))) ≡ true = simp length-append (grind (arith, nat_tests)) in
    let back : n - 4 ≡ length s.bytes = omega arith in
    let bytes : take (n - 4) (s.bytes ++ rest) ≡ s.bytes = rw back (take-append_seam s.bytes rest) in
    let mk : List ℕ → Segment = λ bytes. record { code = s.code; bytes = bytes } in
    ap (λ m. piece_in greatest m s.code 0 (s.bytes ++ rest)) number ∙ (rw tests (ap Some (ap mk bytes)))

pub first-reads : (base : Base) (format : Format) (s : Segment) (rest : List ℕ) → Ends base → least_as base ≤ format.lrecl → IsLawfulAs base format s → first_as base format (segment_bytes base s ++ rest) ≡ Some s
first-reads Fixed format s rest t l h = fixed-reads format.lrecl s rest l h.0 h.1
first-reads Variable format s rest t l h = described-reads (greatest_code format) s rest h
first-reads Undefined format s rest t l h = absurd t

-- after what was read, or at the front, so many may stand
abbrev pub Many : Bool → Bool → List Segment → Type 0
Many begun blocked [] = begun ≡ true
Many begun blocked (s ∷ ss) = (begun && not blocked ≡ false) × Many true blocked ss

pub record Holds (format : Format) (begun : Bool) (rest : List ℕ) (segments : List Segment) : Type 0 where
  pub spells : rest ≡ body_of (base_of format) segments
  pub lawful : AllByRecursion (IsLawfulAs (base_of format) format) segments
  pub many : Many begun (is_blocked format) segments

go_on-nothing : (f : Segment → Reading) (r : Result (Option Segment) BlockErr) → go_on f r ≡ empty_reading → r ≡ Ok None
go_on-nothing f (Ok None) e = refl
go_on-nothing f (Ok (Some s)) e = let h : s ∷ (f s).segments ≡ [] = ap (λ r. r.segments) e in cc
go_on-nothing f (Err x) e = let h : Some x ≡ None = ap (λ r. r.fault) e in cc

pub record Goes (f : Segment → Reading) (r : Result (Option Segment) BlockErr) (s : Segment) (ss : List Segment) : Type 0 where
  pub one : r ≡ Ok (Some s)
  pub others : f s ≡ complete_reading ss

go_on-some : (f : Segment → Reading) (r : Result (Option Segment) BlockErr) (s : Segment) (ss : List Segment) → go_on f r ≡ complete_reading (s ∷ ss) → Goes f r s ss
go_on-some f (Ok None) s ss e = let h : [] ≡ s ∷ ss = ap (λ r. r.segments) e in cc
go_on-some f (Ok (Some t)) s ss e =
    let all : t ∷ (f t).segments ≡ s ∷ ss = ap (λ r. r.segments) e in
    let none : (f t).fault ≡ None = ap (λ r. r.fault) e in
    let same : t ≡ s = cc in
    let others : (f t).segments ≡ ss = cc in
    let mk : List Segment → Option BlockErr → Reading = λ a b. record { segments = a; fault = b } in
    record { one = ap (λ u. Ok (Some u)) same; others = ap f (sym same) ∙ ap₂ mk others none }
go_on-some f (Err x) s ss e = let h : Some x ≡ None = ap (λ r. r.fault) e in cc

pub record AtEnd (begun : Bool) (rest : List ℕ) : Type 0 where
  pub after_some : begun ≡ true
  pub empty : rest ≡ []

piece-some : (x : BlockErr) (o : Option Segment) → piece_or x o ≡ Ok None → ⊥
piece-some x None e = cc
piece-some x (Some s) e = cc

choice-some : (v : Bool) (x : BlockErr) (o : Option Segment) → (if v then Err x else piece_or x o) ≡ Ok None → ⊥
choice-some true x o e = cc
choice-some false x o e = piece-some x o e

next-none : (format : Format) (begun : Bool) (at : ℕ) (rest : List ℕ) → next_at format begun at rest ≡ Ok None → AtEnd begun rest
next-none format false at rest e = absurd (piece-some (fault format at) (first format rest) e)
next-none format true at [] e = record { after_some = refl; empty = refl }
next-none format true at (b ∷ bs) e = absurd (choice-some (is_full format true) (fault format at) (first format (b ∷ bs)) (rw (not_empty b bs) at e))

pub record AtPiece (format : Format) (begun : Bool) (rest : List ℕ) (s : Segment) : Type 0 where
  pub room : is_full format begun ≡ false
  pub piece : first format rest ≡ Some s

piece-is : (x : BlockErr) (o : Option Segment) (s : Segment) → piece_or x o ≡ Ok (Some s) → o ≡ Some s
piece-is x None s e = cc
piece-is x (Some t) s e = cc

choice-is : (v : Bool) (x : BlockErr) (o : Option Segment) (s : Segment) → (if v then Err x else piece_or x o) ≡ Ok (Some s) → (v ≡ false) × (o ≡ Some s)
choice-is true x o s e = cc
choice-is false x o s e = (refl, piece-is x o s e)

pub next-some : (format : Format) (begun : Bool) (at : ℕ) (rest : List ℕ) (s : Segment) → next_at format begun at rest ≡ Ok (Some s) → AtPiece format begun rest s
next-some format false at rest s e = record { room = refl; piece = piece-is (fault format at) (first format rest) s e }
next-some format true at [] s e = cc
next-some format true at (b ∷ bs) s e =
    let c = choice-is (is_full format true) (fault format at) (first format (b ∷ bs)) s (rw (not_empty b bs) at e) in
    record { room = c.0; piece = c.1 }

pub sound : (format : Format) (segments : List Segment) (begun : Bool) (at : ℕ) (rest : List ℕ) → AreBytes rest → read_from format begun at 0 rest ≡ complete_reading segments → Holds format begun rest segments
sound format [] begun at rest b e =
    let end = next-none format begun at rest (go_on-nothing (after format at rest) (next_at format begun at rest) (sym (read-next format begun at rest) ∙ e)) in
    record { spells = end.empty; lawful = tt; many = end.after_some }
sound format (s ∷ ss) begun at rest b e =
    let goes = go_on-some (after format at rest) (next_at format begun at rest) s ss (sym (read-next format begun at rest) ∙ e) in
    let at_piece = next-some format begun at rest s goes.one in
    let spells = first-spells (base_of format) format rest s b at_piece.piece in
    let holds = sound format ss true (at + size format s) (drop (size format s) rest) (bytes-drop (size format s) rest b) goes.others in
    record { spells = spells.front ∙ ap (λ xs. segment_bytes (base_of format) s ++ xs) holds.spells; lawful = (spells.lawful, holds.lawful); many = (at_piece.room, holds.many) }

-- and what a block holds is read
pub size-spelled : (base : Base) (s : Segment) → length (segment_bytes base s) ≡ size_as base s
size-spelled Fixed s = refl
size-spelled Variable s = omega arith
size-spelled Undefined s = refl

some-spelled : (base : Base) (format : Format) (s : Segment) → Ends base → least_as base ≤ format.lrecl → IsLawfulAs base format s → 0 < size_as base s
some-spelled Fixed format s t l h = omega (arith, h.1)
some-spelled Variable format s t l h = omega arith
some-spelled Undefined format s t l h = absurd t

begun-some : (begun : Bool) (rest : List ℕ) → 0 < length rest → begun && (length rest == 0) ≡ false
begun-some begun rest h = grind (arith, nat_tests)

next-is : (format : Format) (begun : Bool) (at : ℕ) (rest : List ℕ) (s : Segment) → 0 < length rest → is_full format begun ≡ false → first format rest ≡ Some s → next_at format begun at rest ≡ Ok (Some s)
next-is format begun at rest s some full piece = rw (begun-some begun rest some, full, piece) refl

pub complete : (format : Format) (segments : List Segment) (begun : Bool) (at : ℕ) (rest : List ℕ) → Ends (base_of format) → least_as (base_of format) ≤ format.lrecl → Holds format begun rest segments → read_from format begun at 0 rest ≡ complete_reading segments
unfolding read_from
complete format [] begun at rest t l h = rw h.spells (rw h.many refl)
complete format (s ∷ ss) begun at rest t l h =
    let base = base_of format in
    let others = body_of base ss in
    let sized : length (segment_bytes base s) ≡ size format s = size-spelled base s in
    let some : 0 < length (segment_bytes base s ++ others) = rw length-append (omega (arith, some-spelled base format s t l h.lawful.0)) in
    let piece : first format (segment_bytes base s ++ others) ≡ Some s = first-reads base format s others t l h.lawful.0 in
    let next : next_at format begun at rest ≡ Ok (Some s) = rw h.spells (next-is format begun at (segment_bytes base s ++ others) s some h.many.0 piece) in
    let tail : drop (size format s) rest ≡ others = rw h.spells (drop_at (segment_bytes base s) others (size format s) sized) in
    read-next format begun at rest ∙ ap (go_on (after format at rest)) next
    ∙ ap (with_segment s) (complete format ss true (at + size format s) (drop (size format s) rest) t l (record { spells = tail; lawful = h.lawful.1; many = h.many.1 }))

-- so many may stand in a block
pub many-of : (blocked : Bool) (segments : List Segment) → Many false blocked segments → IsMany blocked segments
many-of blocked [] m = cc
many-of blocked (s ∷ []) m = tt
many-of true (s ∷ t ∷ ss) m = refl
many-of false (s ∷ t ∷ ss) m = let e : true ≡ false = m.1.0 in cc

others-many : (segments : List Segment) → Many true true segments
others-many [] = refl
others-many (s ∷ ss) = (refl, others-many ss)

pub of-many : (blocked : Bool) (segments : List Segment) → IsMany blocked segments → Many false blocked segments
of-many blocked [] m = absurd m
of-many blocked (s ∷ []) m = (refl, refl)
of-many true (s ∷ t ∷ ss) m = (refl, others-many (t ∷ ss))
of-many false (s ∷ t ∷ ss) m = cc

-- what is read of a block whose format has this base
abbrev pub reading_as : Base → Format → List ℕ → Reading
reading_as base format block = if has_block_descriptor_as base block then read_from format false (start_as base) 0 (drop (start_as base) block) else failed_reading (BadDescriptor 0)

no-ended : (e : BlockErr) (segments : List Segment) → failed_reading e ≡ complete_reading segments → ⊥
no-ended e segments h = let f : Some e ≡ None = ap (λ r. r.fault) h in cc

-- the block's own descriptor
pub record HasHead (block : List ℕ) : Type 0 where
  pub body : List ℕ
  pub is : block ≡ described_bytes (whole_segment body)
  pub behind : drop 4 block ≡ body

spans-is : (block : List ℕ) (o : Option Segment) → spans block o ≡ true → (whole : Segment) × (o ≡ Some whole) × (length whole.bytes + 4 ≡ length block)
spans-is block None e = cc
spans-is block (Some whole) e = (whole, refl, grind (arith, nat_tests))

head-is : (block : List ℕ) → AreBytes block → spans block (first_described 0 block) ≡ true → HasHead block
head-is block b e =
    let s = spans-is block (first_described 0 block) e in
    let d = described-spells 0 block s.0 b s.1 in
    let zero_is : s.0.code ≡ 0 = omega (arith, d.code) in
    let none : drop (length s.0.bytes + 4) block ≡ [] = drop_all (length s.0.bytes + 4) block (omega arith) in
    let mk : ℕ → Segment = λ code. record { code = code; bytes = s.0.bytes } in
    let is : block ≡ described_bytes (whole_segment s.0.bytes) = d.front ∙ ap (λ xs. described_bytes s.0 ++ xs) none ∙ append-nil (described_bytes s.0) ∙ ap (λ code. described_bytes (mk code)) zero_is in
    record { body = s.0.bytes; is = is; behind = ap (λ xs. drop 4 xs) is }

pub head-reads : (body : List ℕ) → spans (described_bytes (whole_segment body)) (first_described 0 (described_bytes (whole_segment body))) ≡ true
head-reads body =
    let e : first_described 0 (described_bytes (whole_segment body)) ≡ Some (whole_segment body) = subst (λ xs. first_described 0 xs ≡ Some (whole_segment body)) (append-nil (described_bytes (whole_segment body))) (described-reads 0 (whole_segment body) [] (omega arith)) in
    subst (λ o. spans (described_bytes (whole_segment body)) o ≡ true) (sym e) (grind (arith, nat_tests))

-- where pieces tell their end, what is read without a fault is what the block holds
exact-fixed : (format : Format) (block : List ℕ) (segments : List Segment) → base_of format ≡ Fixed → least_as (base_of format) ≤ format.lrecl → AreBytes block → (reading_as Fixed format block ≡ complete_reading segments) ↔ IsBlockAs Fixed format block segments
exact-fixed format block segments e l b = (
  (λ h. let holds = sound format segments false 0 block b h in record { spells = holds.spells; lawful = holds.lawful; many = many-of (is_blocked format) segments holds.many }),
  (λ h. complete format segments false 0 block (subst Ends (sym e) tt) l (record { spells = h.spells; lawful = h.lawful; many = of-many (is_blocked format) segments h.many })),
)

from-variable : (format : Format) (block : List ℕ) (segments : List Segment) → AreBytes block → (v : Bool) → spans block (first_described 0 block) ≡ v
    → (if v then read_from format false 4 0 (drop 4 block) else failed_reading (BadDescriptor 0)) ≡ complete_reading segments → IsBlockAs Variable format block segments
from-variable format block segments b true s h =
    let head = head-is block b s in
    let holds = sound format segments false 4 (drop 4 block) (bytes-drop 4 block b) h in
    record { spells = head.is ∙ ap (λ xs. described_bytes (whole_segment xs)) (sym head.behind ∙ holds.spells); lawful = holds.lawful; many = many-of (is_blocked format) segments holds.many }
from-variable format block segments b false s h = absurd (no-ended (BadDescriptor 0) segments h)

to-variable : (format : Format) (block : List ℕ) (segments : List Segment) → base_of format ≡ Variable → least_as (base_of format) ≤ format.lrecl → IsBlockAs Variable format block segments → reading_as Variable format block ≡ complete_reading segments
to-variable format block segments e l h =
    let body = body_of (base_of format) segments in
    let holds : Holds format false body segments = record { spells = refl; lawful = h.lawful; many = of-many (is_blocked format) segments h.many } in
    let read : read_from format false 4 0 body ≡ complete_reading segments = complete format segments false 4 body (subst Ends (sym e) tt) l holds in
    rw h.spells (rw (head-reads body) read)

exact-variable : (format : Format) (block : List ℕ) (segments : List Segment) → base_of format ≡ Variable → least_as (base_of format) ≤ format.lrecl → AreBytes block → (reading_as Variable format block ≡ complete_reading segments) ↔ IsBlockAs Variable format block segments
exact-variable format block segments e l b = (from-variable format block segments b (spans block (first_described 0 block)) refl, to-variable format block segments e l)

-- a block of U is one record
whole-read : (format : Format) (block : List ℕ) → base_of format ≡ Undefined → read_from format false 0 0 block ≡ complete_reading (whole_segment block ∷ [])
unfolding read_from
whole-read format block e =
    let firsts : first format block ≡ Some (whole_segment block) = subst (λ base. first_as base format block ≡ Some (whole_segment block)) (sym e) refl in
    let size_is : size format (whole_segment block) ≡ length block = subst (λ base. size_as base (whole_segment block) ≡ length block) (sym e) refl in
    let next : next_at format false 0 block ≡ Ok (Some (whole_segment block)) = rw firsts refl in
    let none : drop (size format (whole_segment block)) block ≡ [] = rw size_is (drop_all (length block) block (omega arith)) in
    read-next format false 0 block ∙ ap (go_on (after format 0 block)) next ∙ ap (with_segment (whole_segment block)) (ap (λ xs. read_from format true (0 + size format (whole_segment block)) 0 xs) none)

spelled-one : (base : Base) (s : Segment) → base ≡ Undefined → body_of base (s ∷ []) ≡ s.bytes
spelled-one base s e = subst (λ u. body_of u (s ∷ []) ≡ s.bytes) (sym e) (append-nil s.bytes)

to-undefined : (format : Format) (block : List ℕ) (segments : List Segment) → base_of format ≡ Undefined → is_blocked format ≡ false → IsBlockAs Undefined format block segments → reading_as Undefined format block ≡ complete_reading segments
to-undefined format block [] e u h = absurd h.many
to-undefined format block (s ∷ []) e u h =
    let code_is : s.code ≡ 0 = subst (λ base. IsLawfulAs base format s) e h.lawful.0 in
    let bytes_are : block ≡ s.bytes = h.spells ∙ spelled-one (base_of format) s e in
    let mk : ℕ → List ℕ → Segment = λ code bytes. record { code = code; bytes = bytes } in
    whole-read format block e ∙ ap (λ u. complete_reading (u ∷ [])) (ap₂ mk (sym code_is) bytes_are)
to-undefined format block (s ∷ t ∷ ss) e u h = let f : false ≡ true = sym u ∙ h.many in cc

from-undefined : (format : Format) (block : List ℕ) (segments : List Segment) → base_of format ≡ Undefined → reading_as Undefined format block ≡ complete_reading segments → IsBlockAs Undefined format block segments
from-undefined format block segments e h =
    let same : whole_segment block ∷ [] ≡ segments = ap (λ r. r.segments) (sym (whole-read format block e) ∙ h) in
    subst (λ ss. IsBlockAs Undefined format block ss) same (record { spells = sym (spelled-one (base_of format) (whole_segment block) e); lawful = (subst (λ base. IsLawfulAs base format (whole_segment block)) (sym e) refl, tt); many = tt })

exact-as : (base : Base) (format : Format) (block : List ℕ) (segments : List Segment) → base_of format ≡ base → (base ≡ Undefined → is_blocked format ≡ false) → least_as (base_of format) ≤ format.lrecl → AreBytes block → (reading_as base format block ≡ complete_reading segments) ↔ IsBlockAs base format block segments
exact-as Fixed format block segments e u l b = exact-fixed format block segments e l b
exact-as Variable format block segments e u l b = exact-variable format block segments e l b
exact-as Undefined format block segments e u l b = (from-undefined format block segments e, to-undefined format block segments e (u refl))

not-blocked : (format : Format) → first_fault format ≡ None → base_of format ≡ Undefined → is_blocked format ≡ false
not-blocked format e u = grind (arith, common_steps)

-- the reading of a block without a fault gives the segments that it holds, and no others
pub exact : (format : Format) (block : List ℕ) (segments : List Segment) → first_fault format ≡ None → AreBytes block → (reading format block ≡ complete_reading segments) ↔ IsBlock format block segments
unfolding reading_at
exact format block segments e b = exact-as (base_of format) format block segments refl (not-blocked format e) (bounds format e).least b

pub ruleset reading_laws = (exact)

reads-as : (base : Base) (format : Format) (block : List ℕ) (segments : List Segment) → base_of format ≡ base → (base ≡ Undefined → is_blocked format ≡ false) → least_as (base_of format) ≤ format.lrecl → IsBlockAs base format block segments → reading_as base format block ≡ complete_reading segments
reads-as Fixed format block segments e u l h = complete format segments false 0 block (subst Ends (sym e) tt) l (record { spells = h.spells; lawful = h.lawful; many = of-many (is_blocked format) segments h.many })
reads-as Variable format block segments e u l h = to-variable format block segments e l h
reads-as Undefined format block segments e u l h = to-undefined format block segments e (u refl) h

-- what a block holds is read
pub reads : (format : Format) (block : List ℕ) (segments : List Segment) → first_fault format ≡ None → IsBlock format block segments → reading format block ≡ complete_reading segments
unfolding reading_at
reads format block segments e h = reads-as (base_of format) format block segments refl (not-blocked format e) (bounds format e).least h
