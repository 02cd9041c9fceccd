-- Where the fault of a block is.
use Rattle.std.proofs.Common.{◌≡◌, ◌∙◌, ap, ap₂, sym, refl, inl, inr, ℕ, ◌+◌, ◌≤◌, Bool, true, false, Result, Ok, Err, List, [], ◌∷◌, ◌++◌, length, drop, Option, Some, None, arith, append_assoc, length-append}
use Rattle.std.specs.Prelude.{if◌then◌else◌, ◌⊎◌, ◌&&◌, not}
use Rattle.record_blocks.specs.declared.formats.Format.{Format}
use Rattle.record_blocks.specs.declared.pieces.BlockErr.{BlockErr}
use Rattle.record_blocks.specs.declared.pieces.BlockErr.TheVariants.{BadDescriptor}
use Rattle.record_blocks.specs.Formats.{base_of, is_blocked, first_fault}
use Rattle.record_blocks.specs.declared.formats.Base.{Base}
use Rattle.record_blocks.specs.declared.formats.Base.TheVariants.{Fixed, Variable, Undefined}
use Rattle.std.specs.List.{AllByRecursion}
use Rattle.record_blocks.specs.Packing.{least_as}
use Rattle.record_blocks.proofs.Bounds.{bounds}
use Rattle.record_blocks.specs.Blocks.{Segment, segment_bytes, body_of, IsLawfulAs}
use Rattle.record_blocks.specs.Reading.{Reading, AreBytes, broken_reading, Breaks, IsSecond, HasNoDescriptor, IsBroken, read_from, next_at, go_on, piece_or, first, first_as, has_block_descriptor_as, size, fault, failed_reading, is_full, has_block_descriptor, start, reading_at, reading}
use Rattle.record_blocks.proofs.Steps.{read-next, after, not_empty}
use Rattle.record_blocks.proofs.Exact.{bytes-drop, size-spelled, next-some, first-spells, first-reads, head-reads}

go_on-fails : (f : Segment → Reading) (r : Result (Option Segment) BlockErr) (e : BlockErr) → go_on f r ≡ broken_reading [] e → r ≡ Err e
go_on-fails f (Ok None) e h = let x : None ≡ Some e = ap (λ r. r.fault) h in cc
go_on-fails f (Ok (Some s)) e h = let x : s ∷ (f s).segments ≡ [] = ap (λ r. r.segments) h in cc
go_on-fails f (Err y) e h = let x : Some y ≡ Some e = ap (λ r. r.fault) h in cc

record Goes (f : Segment → Reading) (r : Result (Option Segment) BlockErr) (s : Segment) (ss : List Segment) (e : BlockErr) : Type 0 where
  one : r ≡ Ok (Some s)
  others : f s ≡ broken_reading ss e

go_on-some : (f : Segment → Reading) (r : Result (Option Segment) BlockErr) (s : Segment) (ss : List Segment) (e : BlockErr) → go_on f r ≡ broken_reading (s ∷ ss) e → Goes f r s ss e
go_on-some f (Ok None) s ss e h = let x : None ≡ Some e = ap (λ r. r.fault) h in cc
go_on-some f (Ok (Some t)) s ss e h =
    let all : t ∷ (f t).segments ≡ s ∷ ss = ap (λ r. r.segments) h in
    let some : (f t).fault ≡ Some e = ap (λ r. r.fault) h in
    let same : t ≡ s = cc in
    let others : (f t).segments ≡ ss = cc in
    let mk : List Segment → Option BlockErr → Reading = λ a b. record { segments = a; fault = b } in
    record { one = ap (λ u. Ok (Some u)) same; others = ap f (sym same) ∙ ap₂ mk others some }
go_on-some f (Err y) s ss e h = let x : [] ≡ s ∷ ss = ap (λ r. r.segments) h in cc

piece-err : (x e : BlockErr) (o : Option Segment) → piece_or x o ≡ Err e → e ≡ x
piece-err x e None h = cc
piece-err x e (Some s) h = cc

choice-err : (v : Bool) (x e : BlockErr) (o : Option Segment) → (if v then Err x else piece_or x o) ≡ Err e → e ≡ x
choice-err true x e o h = cc
choice-err false x e o h = piece-err x e o h

next-err : (format : Format) (begun : Bool) (at : ℕ) (rest : List ℕ) (e : BlockErr) → next_at format begun at rest ≡ Err e → e ≡ fault format at
next-err format false at rest e h = piece-err (fault format at) e (first format rest) h
next-err format true at [] e h = cc
next-err format true at (b ∷ bs) e h = choice-err (is_full format true) (fault format at) e (first format (b ∷ bs)) (rw (not_empty b bs) at h)

-- the next segment can't be read, or may not be
record Stuck (format : Format) (begun : Bool) (rest : List ℕ) : Type 0 where
  why : ((begun ≡ true) × (is_blocked format ≡ false)) ⊎ (first format rest ≡ None)

piece-none : (x e : BlockErr) (o : Option Segment) → piece_or x o ≡ Err e → o ≡ None
piece-none x e None h = refl
piece-none x e (Some s) h = cc

full-is : (begun blocked : Bool) → begun && not blocked ≡ true → (begun ≡ true) × (blocked ≡ false)
full-is true false e = (refl, refl)
full-is true true e = cc
full-is false blocked e = cc

choice-stuck : (format : Format) (begun : Bool) (rest : List ℕ) (v : Bool) (x e : BlockErr) → is_full format begun ≡ v → (if v then Err x else piece_or x (first format rest)) ≡ Err e → Stuck format begun rest
choice-stuck format begun rest true x e f h = record { why = inl (full-is begun (is_blocked format) f) }
choice-stuck format begun rest false x e f h = record { why = inr (piece-none x e (first format rest) h) }

next-stuck : (format : Format) (begun : Bool) (at : ℕ) (rest : List ℕ) (e : BlockErr) → next_at format begun at rest ≡ Err e → Stuck format begun rest
next-stuck format false at rest e h = record { why = inr (piece-none (fault format at) e (first format rest) h) }
next-stuck format true at [] e h = cc
next-stuck format true at (b ∷ bs) e h = choice-stuck format true (b ∷ bs) (is_full format true) (fault format at) e refl (rw (not_empty b bs) at h)

-- one more segment would be a second one after these
abbrev pub IsSecondAt : Bool → Format → List Segment → Type 0
IsSecondAt begun format [] = (begun ≡ true) × (is_blocked format ≡ false)
IsSecondAt begun format (s ∷ ss) = is_blocked format ≡ false

no-first : (base : Base) (format : Format) (s : Segment) (others rest : List ℕ) → least_as base ≤ format.lrecl → IsLawfulAs base format s → rest ≡ segment_bytes base s ++ others → first_as base format rest ≡ None → ⊥
no-first Fixed format s others rest l h e n = let some : first_as Fixed format rest ≡ Some s = ap (first_as Fixed format) e ∙ first-reads Fixed format s others tt l h in cc
no-first Variable format s others rest l h e n = let some : first_as Variable format rest ≡ Some s = ap (first_as Variable format) e ∙ first-reads Variable format s others tt l h in cc
no-first Undefined format s others rest l h e n = cc

stuck-is : (format : Format) (begun : Bool) (rest : List ℕ) (s : Segment) (others : List ℕ) → least_as (base_of format) ≤ format.lrecl → Stuck format begun rest → IsLawfulAs (base_of format) format s → rest ≡ segment_bytes (base_of format) s ++ others → (begun ≡ true) × (is_blocked format ≡ false)
stuck-is format begun rest s others l k h e = elim k.why [ inl w ↦ w | inr n ↦ absurd (no-first (base_of format) format s others rest l h e n) ]

second-behind : (format : Format) (begun : Bool) (ss : List Segment) → IsSecondAt true format ss → is_blocked format ≡ false
second-behind format begun [] h = h.1
second-behind format begun (s ∷ ss) h = h

-- the same with whether a segment was read before
record BreaksAt (format : Format) (begun : Bool) (at : ℕ) (rest : List ℕ) (segments : List Segment) (e : BlockErr) : Type 0 where
  behind : List ℕ
  front : rest ≡ body_of (base_of format) segments ++ behind
  lawful : AllByRecursion (IsLawfulAs (base_of format) format) segments
  stuck : (s : Segment) (others : List ℕ) → IsLawfulAs (base_of format) format s → behind ≡ segment_bytes (base_of format) s ++ others → IsSecondAt begun format segments
  place : e ≡ fault format (at + length (body_of (base_of format) segments))

breaks : (format : Format) (segments : List Segment) (e : BlockErr) (begun : Bool) (at : ℕ) (rest : List ℕ) → least_as (base_of format) ≤ format.lrecl → AreBytes rest → read_from format begun at 0 rest ≡ broken_reading segments e → BreaksAt format begun at rest segments e
breaks format [] e begun at rest l b h =
    let here = go_on-fails (after format at rest) (next_at format begun at rest) e (sym (read-next format begun at rest) ∙ h) in
    let err = next-err format begun at rest e here in
    let k = next-stuck format begun at rest e here in
    let there : at ≡ at + 0 = omega arith in
    record { behind = rest; front = refl; lawful = tt; stuck = λ s others g x. stuck-is format begun rest s others l k g x; place = err ∙ ap (fault format) there }
breaks format (s ∷ ss) e begun at rest l b h =
    let base = base_of format in
    let goes = go_on-some (after format at rest) (next_at format begun at rest) s ss e (sym (read-next format begun at rest) ∙ h) in
    let spells = first-spells base format rest s b (next-some format begun at rest s goes.one).piece in
    let later = breaks format ss e true (at + size format s) (drop (size format s) rest) l (bytes-drop (size format s) rest b) goes.others in
    let there : at + size format s + length (body_of base ss) ≡ at + length (segment_bytes base s ++ body_of base ss) = omega (arith, length-append (segment_bytes base s) (body_of base ss), size-spelled base s) in
    record {
      behind = later.behind;
      front = spells.front ∙ ap (λ xs. segment_bytes base s ++ xs) later.front ∙ sym (append_assoc (segment_bytes base s) (body_of base ss) later.behind);
      lawful = (spells.lawful, later.lawful);
      stuck = λ t others g x. second-behind format begun ss (later.stuck t others g x);
      place = later.place ∙ ap (fault format) there;
    }

second-is : (format : Format) (segments : List Segment) → IsSecondAt false format segments → IsSecond format segments
second-is format [] h = let e : false ≡ true = h.0 in cc
second-is format (s ∷ ss) h = h

to-breaks : (format : Format) (at : ℕ) (rest : List ℕ) (segments : List Segment) (e : BlockErr) → BreaksAt format false at rest segments e → Breaks format at rest segments e
to-breaks format at rest segments e b = record { behind = b.behind; front = b.front; lawful = b.lawful; stuck = λ s others g x. second-is format segments (b.stuck s others g x); place = b.place }

no-descriptor : (base : Base) (format : Format) (block : List ℕ) → base_of format ≡ base → has_block_descriptor_as base block ≡ false → HasNoDescriptor format block
no-descriptor Fixed format block e h = cc
no-descriptor Variable format block e h = record { variable = e; none = λ body x. let y : has_block_descriptor_as Variable block ≡ true = ap (has_block_descriptor_as Variable) x ∙ head-reads body in cc }
no-descriptor Undefined format block e h = cc

failed-is : (x e : BlockErr) (segments : List Segment) → failed_reading x ≡ broken_reading segments e → (segments ≡ []) × (e ≡ x)
failed-is x e segments h =
    let some : Some x ≡ Some e = ap (λ r. r.fault) h in
    let none : [] ≡ segments = ap (λ r. r.segments) h in
    (sym none, cc)

of-descriptor : (v : Bool) (format : Format) (block : List ℕ) (segments : List Segment) (e : BlockErr) → least_as (base_of format) ≤ format.lrecl → AreBytes block → has_block_descriptor format block ≡ v
    → (if v then read_from format false (start format) 0 (drop (start format) block) else failed_reading (BadDescriptor 0)) ≡ broken_reading segments e → IsBroken format block segments e
of-descriptor true format block segments e l b v h = record { cause = inr (to-breaks format (start format) (drop (start format) block) segments e (breaks format segments e false (start format) (drop (start format) block) l (bytes-drop (start format) block b) h)) }
of-descriptor false format block segments e l b v h = let f = failed-is (BadDescriptor 0) e segments h in record { cause = inl (no-descriptor (base_of format) format block refl v, f.0, f.1) }

pub fault-is : (format : Format) (block : List ℕ) (segments : List Segment) (e : BlockErr) → first_fault format ≡ None → AreBytes block → reading format block ≡ broken_reading segments e → IsBroken format block segments e
unfolding reading_at
fault-is format block segments e f b h = of-descriptor (has_block_descriptor format block) format block segments e (bounds format f).least b refl h
