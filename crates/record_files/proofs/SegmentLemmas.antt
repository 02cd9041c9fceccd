-- What is still to come of segments, call by call.
use Rattle.std.proofs.Common.{◌≡◌, ℕ, Bool, true, false, List, [], ◌∷◌, ◌++◌, length, refl, sym, ◌∙◌, ap, subst}
use Rattle.std.proofs.lemmas.List.{append-nil}
use Rattle.std.specs.Prelude.{if◌then◌else◌, nat_lt, is_some, Option, Some, None, Result, Ok, Err}
use Rattle.record_blocks.specs.declared.formats.Format.{Format}
use Rattle.record_blocks.specs.declared.joiner.Joiner.{Joiner}
use Rattle.record_blocks.specs.declared.joiner.JoinErr.{JoinErr}
use Rattle.record_blocks.specs.declared.joiner.JoinErr.TheVariants.{BadSegment, TooLong}
use Rattle.record_blocks.specs.declared.pieces.BlockErr.{BlockErr}
use Rattle.record_blocks.specs.Blocks.{Segment, piece}
use Rattle.record_blocks.specs.Joiner.{IsFaultOf, Takes, open_of, records_with, whole_of}
use Rattle.record_blocks.specs.Joining.{bytes_taken, go_on, is_bad, joined_records}
use Rattle.record_blocks.specs.Packing.{longest}
use Rattle.record_blocks.specs.Reading.{Reading, empty_reading, failed_reading, with_segment}
use Rattle.record_blocks.specs.Segments.{bytes_with, ends}
use Rattle.record_files.specs.Streams.{Stream, at_end, at_fault, with_record}
use Rattle.record_files.specs.Joined.{is_left_open, records_left, then_blocks}
use Rattle.record_files.specs.Reading.{joined, joined_then, read_then}

-- ---- one segment

module _ (j k : Joiner) (s : Segment) (r : Reading) where
  abbrev others : Option (List ℕ) → Stream
  others start = joined (longest j.format) (is_some r.fault) start r.segments

  -- a record that is whole stands in front of the others
  pub joins_whole : Takes s true j k → records_left (Some j) (with_segment s r) ≡ with_record (whole_of k) (records_left (Some k) r)
  unfolding joined
  joins_whole t =
      ap (λ (b : Result (List ℕ) JoinErr). joined_then (ends s.code) others b) t.taken
      ∙ ap (λ (e : Bool). joined_then e others (Ok t.bytes)) (sym t.ended)
      ∙ ap (λ (b : List ℕ). with_record b (others None)) (sym (t.given refl))
      ∙ ap (λ (o : Option (List ℕ)). with_record (whole_of k) (others o)) (sym t.left)
      ∙ ap (λ (f : Format). with_record (whole_of k) (joined (longest f) (is_some r.fault) (open_of k) r.segments)) (sym t.format)

  -- a part is left open
  pub joins_part : Takes s false j k → records_left (Some j) (with_segment s r) ≡ records_left (Some k) r
  unfolding joined
  joins_part t =
      ap (λ (b : Result (List ℕ) JoinErr). joined_then (ends s.code) others b) t.taken
      ∙ ap (λ (e : Bool). joined_then e others (Ok t.bytes)) (sym t.ended)
      ∙ ap others (sym t.left)
      ∙ ap (λ (f : Format). joined (longest f) (is_some r.fault) (open_of k) r.segments) (sym t.format)

-- what was taken isn't too long
fits_taken : (most : ℕ) (start : Option (List ℕ)) (s : Segment) (bytes : List ℕ) → bytes_taken most start s ≡ Ok bytes → nat_lt most (length bytes) ≡ false
fits_taken most start s bytes is = by_tests (is_bad start s.code) (nat_lt most (length (bytes_with start s.bytes))) refl is
  where
    by_tests : (bad long : Bool) → nat_lt most (length (bytes_with start s.bytes)) ≡ long
        → (if bad then Err BadSegment else (if long then Err (TooLong (length (bytes_with start s.bytes))) else Ok (bytes_with start s.bytes))) ≡ Ok bytes → nat_lt most (length bytes) ≡ false
    by_tests true long l e = cc
    by_tests false true l e = cc
    by_tests false false l e = let same : bytes_with start s.bytes ≡ bytes = cc in subst (λ (b : List ℕ). nat_lt most (length b) ≡ false) same l

-- a segment that was taken has no fault whatever comes after it
no_fault : (most : ℕ) (start : Option (List ℕ)) (s : Segment) (bytes : List ℕ) (e : JoinErr) → bytes_taken most start s ≡ Ok bytes → ((segments : List Segment) → joined_records most start (s ∷ segments) ≡ Err e) → ⊥
unfolding joined_records
no_fault most start s bytes e taken stuck = by_end (ends s.code) refl
  where
    part_closed : go_on true (λ (behind : Option (List ℕ)). joined_records most behind []) (bytes_taken most (Some bytes) (piece 2 [])) ≡ Ok ((bytes ++ []) ∷ [])
    part_closed =
        ap (λ (t : Bool). go_on true (λ (behind : Option (List ℕ)). joined_records most behind []) (if t then Err (TooLong (length (bytes ++ []))) else Ok (bytes ++ [])))
        (ap (λ (b : List ℕ). nat_lt most (length b)) (append-nil bytes) ∙ fits_taken most start s bytes taken)

    by_end : (whole : Bool) → ends s.code ≡ whole → ⊥
    by_end true is =
        let one : joined_records most start (s ∷ []) ≡ Ok (bytes ∷ []) =
        ap (λ (b : Result (List ℕ) JoinErr). go_on (ends s.code) (λ (behind : Option (List ℕ)). joined_records most behind []) b) taken ∙ ap (λ (t : Bool). go_on t (λ (behind : Option (List ℕ)). joined_records most behind []) (Ok bytes)) is in
        let no = sym one ∙ stuck [] in
        cc
    by_end false is =
        let closing : List Segment = piece 2 [] ∷ [] in
        let one : joined_records most start (s ∷ closing) ≡ Ok ((bytes ++ []) ∷ []) =
        ap (λ (b : Result (List ℕ) JoinErr). go_on (ends s.code) (λ (behind : Option (List ℕ)). joined_records most behind closing) b) taken ∙ ap (λ (t : Bool). go_on t (λ (behind : Option (List ℕ)). joined_records most behind closing) (Ok bytes)) is
        ∙ part_closed in
        let no = sym one ∙ stuck closing in
        cc

-- a segment that isn't taken is a fault
pub joins_fault : (j : Joiner) (s : Segment) (r : Reading) (e : JoinErr) → IsFaultOf e s j → records_left (Some j) (with_segment s r) ≡ at_fault
unfolding joined
joins_fault j s r e stuck = by_taken (bytes_taken (longest j.format) (open_of j) s) refl
  where
    by_taken : (b : Result (List ℕ) JoinErr) → bytes_taken (longest j.format) (open_of j) s ≡ b → joined_then (ends s.code) (λ behind. joined (longest j.format) (is_some r.fault) behind r.segments) b ≡ at_fault
    by_taken (Err x) is = refl
    by_taken (Ok bytes) is = absurd (no_fault (longest j.format) (open_of j) s bytes e is stuck)

-- ---- the end of segments

left_at_end : (j : Option Joiner) → records_left j empty_reading ≡ record { records = []; broken = is_left_open j }
unfolding joined
left_at_end None = refl
left_at_end (Some j) = refl

pub end_open : (j : Option Joiner) → is_left_open j ≡ true → records_left j empty_reading ≡ at_fault
end_open j is = left_at_end j ∙ ap (λ (b : Bool). record { records = []; broken = b }) is

pub end_whole : (j : Option Joiner) → is_left_open j ≡ false → records_left j empty_reading ≡ at_end
end_whole j is = left_at_end j ∙ ap (λ (b : Bool). record { records = []; broken = b }) is

-- a fault of a block
pub block_fault : (j : Option Joiner) (e : BlockErr) → records_left j (failed_reading e) ≡ at_fault
unfolding joined
block_fault None e = refl
block_fault (Some j) e = refl

-- ---- the segments of a block

pub then_segment : (s : Segment) (ss : List Segment) (fault : Option BlockErr) (others : Reading) → read_then (s ∷ ss) fault others ≡ with_segment s (read_then ss fault others)
then_segment s ss None others = refl
then_segment s ss (Some e) others = refl

pub block_goes_on : (left rest : Reading) (s : Segment) (others : Reading) → left ≡ with_segment s rest → then_blocks left others ≡ with_segment s (then_blocks rest others)
block_goes_on left rest s others is = ap (λ (r : Reading). then_blocks r others) is ∙ then_segment s rest.segments rest.fault others

pub block_ends : (left others : Reading) → left ≡ empty_reading → then_blocks left others ≡ others
block_ends left others is = ap (λ (r : Reading). then_blocks r others) is

pub block_breaks : (left others : Reading) (e : BlockErr) → left ≡ failed_reading e → then_blocks left others ≡ failed_reading e
block_breaks left others e is = ap (λ (r : Reading). then_blocks r others) is

pub fewer_left : (left rest : Reading) (s : Segment) → left ≡ with_segment s rest → length left.segments ≡ length (s ∷ rest.segments)
fewer_left left rest s is = ap (λ (r : Reading). length r.segments) is

-- whether a record is open, by what a joiner answers at the end
start_closed : (most : ℕ) (start : Option (List ℕ)) → joined_records most start [] ≡ Ok [] → false ≡ is_some start
unfolding joined_records
start_closed most None is = refl
start_closed most (Some body) is = cc

start_open : (most : ℕ) (start : Option (List ℕ)) (e : JoinErr) → joined_records most start [] ≡ Err e → true ≡ is_some start
unfolding joined_records
start_open most None e is = cc
start_open most (Some body) e is = refl

pub closed_at_end : (o : Option Joiner) (j : Joiner) → o ≡ Some j → records_with j [] ≡ Ok [] → false ≡ is_left_open o
closed_at_end o j some is = start_closed (longest j.format) (open_of j) is ∙ sym (ap is_left_open some)

pub open_at_end : (o : Option Joiner) (j : Joiner) (e : JoinErr) → o ≡ Some j → records_with j [] ≡ Err e → true ≡ is_left_open o
open_at_end o j e some is = start_open (longest j.format) (open_of j) e is ∙ sym (ap is_left_open some)
