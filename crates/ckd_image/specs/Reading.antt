-- The records that a track's bytes hold, as a function of the bytes.
use Rattle.std.specs.Prelude.{ℕ, ◌+◌, ◌==◌, ◌&&◌, nat_le, Bool, List, [], ◌∷◌, ◌++◌, length, take, drop, Option, Some, None, slice_index, slice_range, if◌then◌else◌}
use Rattle.std.proofs.Common.{zero, suc}
use Rattle.std.specs.Str.{bytes_eq}
use Rattle.std.specs.Option.{option_map}
use Rattle.std.specs.Int.{w16, to_be_bytes, from_be_bytes}
use Rattle.ckd_image.specs.Track.{Record, end_marker}

-- the bytes begin with an end marker
abbrev pub is_at_end : List ℕ → Bool
is_at_end bytes = bytes_eq (take 8 bytes) end_marker

-- KL of the count at the front
abbrev pub key_length : List ℕ → ℕ
key_length bytes = slice_index bytes 5

-- DL of the count at the front, two bytes with the high one first
abbrev pub data_length : List ℕ → ℕ
data_length bytes = from_be_bytes w16 (slice_range bytes 6 8)

-- count, key and data of the record at the front, in bytes
abbrev pub record_length : List ℕ → ℕ
record_length bytes = 8 + key_length bytes + data_length bytes

-- the record at the front
abbrev pub front_record : List ℕ → Record
front_record bytes = record {
  address = take 4 bytes;
  key = slice_range bytes 8 (8 + key_length bytes);
  «data» = slice_range bytes (8 + key_length bytes) (record_length bytes);
}

-- Rr stands whole at the front
abbrev pub is_record_at : ℕ → List ℕ → Bool
is_record_at r bytes = nat_le 8 (length bytes) && (slice_index bytes 4 == r) && nat_le (record_length bytes) (length bytes)

-- the records from Rr on to the end marker, which stands after at most so many
unfoldable pub records_to_end : ℕ → ℕ → List ℕ → Option (List Record)
records_to_end zero r bytes = if is_at_end bytes then Some [] else None
records_to_end (suc left) r bytes =
    if is_at_end bytes then Some []
    else (if is_record_at r bytes then option_map (λ xs. front_record bytes ∷ xs) (records_to_end left (suc r) (drop (record_length bytes) bytes)) else None)

-- so many records from Rr on, with at least eight bytes after them
unfoldable pub records_up_to : ℕ → ℕ → List ℕ → Option (List Record)
records_up_to zero r bytes = if nat_le 8 (length bytes) then Some [] else None
records_up_to (suc left) r bytes =
    if is_at_end bytes then None
    else (if is_record_at r bytes then option_map (λ xs. front_record bytes ∷ xs) (records_up_to left (suc r) (drop (record_length bytes) bytes)) else None)

-- the home address and R0 stand at the front: 21 bytes
unfoldable pub is_front : ℕ → ℕ → List ℕ → Bool
is_front cylinder head bytes =
    nat_le 21 (length bytes)
    && bytes_eq (slice_range bytes 1 5) (to_be_bytes w16 cylinder ++ to_be_bytes w16 head)
    && bytes_eq (slice_range bytes 9 13) (0 ∷ 0 ∷ 0 ∷ 8 ∷ [])

-- the records after the front
abbrev pub records_behind : Option ℕ → List ℕ → Option (List Record)
records_behind None bytes = records_to_end 255 1 bytes
records_behind (Some r) bytes = records_up_to r 1 bytes

-- the records after R0 of a track, to its end marker or up to a record; nothing where the bytes break the grammar
unfoldable pub records_of : ℕ → ℕ → Option ℕ → List ℕ → Option (List Record)
records_of cylinder head upto bytes = if is_front cylinder head bytes then records_behind upto (drop 21 bytes) else None
