-- Records from their segments.
use Rattle.std.specs.Prelude.{ℕ, Bool, not, if◌then◌else◌, nat_lt, List, [], ◌∷◌, length, Option, Some, None, Result, Ok, Err}
use Rattle.std.specs.Result.{result_map_both}
use Rattle.record_blocks.specs.declared.joiner.JoinErr.{JoinErr}
use Rattle.record_blocks.specs.declared.joiner.JoinErr.TheVariants.{BadSegment, TooLong}
use Rattle.record_blocks.specs.Blocks.{Segment}
use Rattle.record_blocks.specs.Segments.{begins, ends, bytes_with}

-- a segment that begins a record where one is open, or goes on with one where none is
abbrev pub is_bad : Option (List ℕ) → ℕ → Bool
is_bad None code = not (begins code)
is_bad (Some body) code = begins code

-- the bytes of a record up to a segment, or the segment's fault
abbrev pub bytes_taken : ℕ → Option (List ℕ) → Segment → Result (List ℕ) JoinErr
bytes_taken longest start s =
    if is_bad start s.code then Err BadSegment
    else (if nat_lt longest (length (bytes_with start s.bytes)) then Err (TooLong (length (bytes_with start s.bytes)))
    else Ok (bytes_with start s.bytes))

-- a record in front of others, where it is whole
abbrev pub records_given : Bool → List ℕ → Result (List (List ℕ)) JoinErr → Result (List (List ℕ)) JoinErr
records_given whole rec others = if whole then result_map_both (λ recs. rec ∷ recs) (λ e. e) others else others

-- a record up to a segment, and the records after it
abbrev pub go_on : Bool → (Option (List ℕ) → Result (List (List ℕ)) JoinErr) → Result (List ℕ) JoinErr → Result (List (List ℕ)) JoinErr
go_on whole others (Err e) = Err e
go_on whole others (Ok bytes) = records_given whole bytes (others (if whole then None else Some bytes))

-- at the end no record may be open
abbrev pub at_end : Option (List ℕ) → Result (List (List ℕ)) JoinErr
at_end None = Ok []
at_end (Some body) = Err BadSegment

-- the records of these segments after those of an open record, if one is, or the first fault
unfoldable pub joined_records : ℕ → Option (List ℕ) → List Segment → Result (List (List ℕ)) JoinErr
joined_records longest start [] = at_end start
joined_records longest start (s ∷ ss) = go_on (ends s.code) (λ behind. joined_records longest behind ss) (bytes_taken longest start s)
