-- Where the reading of a track stops, part by part: steps of the program. What a track's reader promises is `BreaksAt` in Track, which names none of them.
use Rattle.std.specs.Prelude.{ℕ, ◌+◌, ◌==◌, ◌||◌, nat_lt, nat_le, not, max, Bool, true, false, List, [], ◌∷◌, ◌++◌, length, take, drop, map, replicate, take_while, Option, Some, None, slice_index, if◌then◌else◌}
use Rattle.std.proofs.Common.{zero, suc}
use Rattle.std.specs.Option.{option_map}
use Rattle.std.specs.Int.{w16, to_be_bytes}
use Rattle.ckd_image.specs.Reading.{is_at_end, record_length}

-- how many of the first eight bytes are X'FF' from the front on
abbrev pub marker_length : List ℕ → ℕ
marker_length bytes = length (take_while (λ b. b == 255) (take 8 bytes))

-- the home address and R0: the bytes that are judged
abbrev pub front_pattern : ℕ → ℕ → List (Option ℕ)
front_pattern cylinder head =
    (None ∷ map Some (to_be_bytes w16 cylinder ++ to_be_bytes w16 head))
    ++ (replicate 4 None ++ ((Some 0 ∷ Some 0 ∷ Some 0 ∷ Some 8 ∷ []) ++ replicate 8 None))

-- the first place where the bytes run out, or aren't those of the pattern
unfoldable pub pattern_break : List (Option ℕ) → List ℕ → Option ℕ
pattern_break [] bytes = None
pattern_break (p ∷ ps) [] = Some 0
pattern_break (None ∷ ps) (b ∷ bytes) = option_map suc (pattern_break ps bytes)
pattern_break (Some x ∷ ps) (b ∷ bytes) = if b == x then option_map suc (pattern_break ps bytes) else Some 0

-- where the bytes at the front, which are no end marker, stop being those of an Rr; if the track may end there, X'FF' may also be the begin of a marker, and the break is the first byte that fits neither
abbrev pub record_break : Bool → ℕ → List ℕ → Option ℕ
record_break ends r bytes =
    if nat_lt (length bytes) 5 then Some (length bytes)
    else (if not (slice_index bytes 4 == r) then Some (if ends then max 4 (marker_length bytes) else 4)
    else (if nat_lt (length bytes) 8 || nat_lt (length bytes) (record_length bytes) then Some (length bytes) else None))

-- a break here, or further on by so many bytes
abbrev pub break_or_after : Option ℕ → ℕ → Option ℕ → Option ℕ
break_or_after (Some k) skipped later = Some k
break_or_after None skipped later = option_map (λ k. skipped + k) later

-- where the records from Rr on and the end marker break
unfoldable pub break_to_end : ℕ → ℕ → List ℕ → Option ℕ
break_to_end zero r bytes = if is_at_end bytes then None else Some (marker_length bytes)
break_to_end (suc left) r bytes =
    if is_at_end bytes then None
    else break_or_after (record_break true r bytes) (record_length bytes) (break_to_end left (suc r) (drop (record_length bytes) bytes))

-- where so many records from Rr on break, and the eight bytes after them; of an end marker in the place of Rr the count may have CC and HH, and that of R255 also R, KL and the first byte of DL
unfoldable pub break_up_to : ℕ → ℕ → List ℕ → Option ℕ
break_up_to zero r bytes = if nat_le 8 (length bytes) then None else Some (length bytes)
break_up_to (suc left) r bytes =
    if is_at_end bytes then Some (if r == 255 then 7 else 4)
    else break_or_after (record_break false r bytes) (record_length bytes) (break_up_to left (suc r) (drop (record_length bytes) bytes))

-- where the records after R0 break, to the end marker or up to a record
abbrev pub break_behind : Option ℕ → List ℕ → Option ℕ
break_behind None bytes = break_to_end 255 1 bytes
break_behind (Some r) bytes = break_up_to r 1 bytes

-- where a track breaks the grammar; nothing where it doesn't
unfoldable pub break_of : ℕ → ℕ → Option ℕ → List ℕ → Option ℕ
break_of cylinder head upto bytes = break_or_after (pattern_break (front_pattern cylinder head) bytes) 21 (break_behind upto (drop 21 bytes))
