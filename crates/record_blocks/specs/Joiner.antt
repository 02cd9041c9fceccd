-- What a `Joiner` makes of the segments that are still to come.
use Rattle.std.specs.Prelude.{◌≡◌, ℕ, Bool, true, if◌then◌else◌, List, [], ◌∷◌, Option, Some, None, Result, Ok, Err}
use Rattle.record_blocks.specs.declared.joiner.Joiner.{Joiner}
use Rattle.record_blocks.specs.declared.joiner.JoinErr.{JoinErr}
use Rattle.record_blocks.specs.declared.joiner.JoinErr.TheVariants.{BadSegment, TooLong, Memory}
use Rattle.record_blocks.specs.Blocks.{Segment}
use Rattle.record_blocks.specs.declared.formats.Format.{Format}
use Rattle.record_blocks.specs.Packing.{longest}
use Rattle.record_blocks.specs.Joining.{bytes_taken, joined_records, records_given}
use Rattle.record_blocks.specs.Segments.{ends}

-- the bytes of the record that is open
abbrev pub open_of : Joiner → Option (List ℕ)
open_of joiner = if joiner.begun then Some joiner.body.items else None

-- the record that is whole now
abbrev pub whole_of : Joiner → List ℕ
whole_of joiner = if joiner.done then joiner.body.items else []

-- the records that a joiner makes with these segments, or the first fault
abbrev pub records_with : Joiner → List Segment → Result (List (List ℕ)) JoinErr
records_with joiner segments = joined_records (longest joiner.format) (open_of joiner) segments

-- no record is open: the records are those of the segments to come
abbrev pub IsFresh : Format → Joiner → Type 0
IsFresh format joiner = (segments : List Segment) → records_with joiner segments ≡ joined_records (longest format) None segments

-- the record that is whole, if one is, and those of further segments are those that it made of this segment and them
abbrev pub RecordsFollow : Segment → Bool → Joiner → Joiner → Type 0
RecordsFollow s whole old new = (segments : List Segment) → records_with old (s ∷ segments) ≡ records_given whole (whole_of new) (records_with new segments)

-- A segment is taken: the record up to it is whole, or is left open, and the format stays.
pub record Takes (s : Segment) (whole : Bool) (old new : Joiner) : Type 0 where
  pub bytes : List ℕ
  pub taken : bytes_taken (longest old.format) (open_of old) s ≡ Ok bytes
  pub ended : whole ≡ ends s.code
  pub given : whole ≡ true → whole_of new ≡ bytes
  pub left : open_of new ≡ (if whole then None else Some bytes)
  pub format : new.format ≡ old.format

-- the same is open, and the same is whole
pub record IsUnchanged (old new : Joiner) : Type 0 where
  pub same : new.format ≡ old.format
  pub state : new.begun ≡ old.begun
  pub whole : new.done ≡ old.done
  pub bytes : new.body.items ≡ old.body.items

-- with this segment the records end in this fault, whatever comes after it
abbrev pub IsFaultOf : JoinErr → Segment → Joiner → Type 0
IsFaultOf e s joiner = (segments : List Segment) → records_with joiner (s ∷ segments) ≡ Err e

-- an error is the fault of the segment, or memory ran out
abbrev pub HasCause : JoinErr → Segment → Joiner → Type 0
HasCause BadSegment s joiner = IsFaultOf BadSegment s joiner
HasCause (TooLong len) s joiner = IsFaultOf (TooLong len) s joiner
HasCause Memory s joiner = Unit {0}
