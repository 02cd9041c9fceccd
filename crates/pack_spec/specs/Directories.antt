-- The body of a partitioned data set: its directory, and after that the blocks of its members (System Control Blocks GC28-6628; which bodies can't be read: this project's profile).
use Rattle.std.specs.Prelude.{ℕ, zero, suc, ◌+◌, ◌*◌, ◌%◌, ◌==◌, ◌&&◌, min, nat_le, nat_lt, Bool, true, false, List, [], ◌∷◌, ◌++◌, length, map, take, drop, replicate, position, is_none, Option, Some, None, option_and_then, option_map, unwrap_or, slice_get, slice_index, slice_range, if◌then◌else◌}
use Rattle.std.specs.List.{enumerate_from, filter, find, flat_map, list_all, list_any, range_with_len}
use Rattle.std.specs.Option.{option_map_or}
use Rattle.std.specs.Str.{bytes_eq}
use Rattle.std.specs.Int.{w16, w64, from_be_bytes}
use Rattle.chain_spec.specs.Store.{Block as Stored, reads}
use Rattle.ckd_image.specs.declared.device.DiskType.{DiskType}
use Rattle.ckd_image.specs.declared.header.Geometry.{Geometry}
use Rattle.ckd_image.specs.Track.{Record}
use Rattle.vol_model.specs.declared.contents.Block.{Block}
use Rattle.vol_model.specs.declared.contents.Body.{Body}
use Rattle.vol_model.specs.declared.contents.Body.TheVariants.{Part, Unreadable}
use Rattle.vol_model.specs.declared.contents.Entry.{Entry}
use Rattle.vol_model.specs.declared.contents.Place.{Place}
use Rattle.vol_model.specs.declared.contents.Run.{Run}
use Rattle.vol_model.specs.Places.{Content, directory_end, directory_place, end_of_file, is_before}
use Rattle.pack_spec.specs.Blocks.{blocks_from, is_block, last_of, owned_tracks, records_in, upto_last}

-- the number that the eight bytes of an entry's name spell, by which entries are ordered
abbrev pub name_number : Entry → ℕ
name_number e = from_be_bytes w64 e.name.bytes

-- the name that ends a directory: eight X'FF'
abbrev pub end_name : List ℕ
end_name = replicate 8 255

-- the bytes of user data that a C byte counts: its last five bits are their number in halfwords
abbrev pub user_length : ℕ → ℕ
user_length flags = 2 * (flags % 32)

-- the bytes of the entry at the front: its name, its TTR, its C byte and its user data
abbrev pub front_length : List ℕ → ℕ
front_length bytes = 12 + user_length (slice_index bytes 11)

-- the entry at the front
abbrev pub front_entry : List ℕ → Entry
front_entry bytes = record {
  name = record { bytes = take 8 bytes };
  place = record { tt = from_be_bytes w16 (slice_range bytes 8 10); r = slice_index bytes 10 };
  flags = slice_index bytes 11;
  user = slice_range bytes 12 (front_length bytes);
}

-- a block's entries with one more in front
abbrev pub with_front : Entry → Stored Entry → Stored Entry
with_front e b = record { entries = e ∷ b.entries; ends = b.ends }

-- no entry
abbrev pub no_entry : Bool → Stored Entry
no_entry ends = record { entries = []; ends = ends }

-- at most so many entries, as bytes hold them, up to the one that ends the directory; none where an entry leaves the bytes
unfoldable pub entries_from : ℕ → List ℕ → Option (Stored Entry)
entries_from zero bytes = Some (no_entry false)
entries_from (suc n) bytes =
    if length bytes == 0 then Some (no_entry false)
    else (if nat_lt (length bytes) 12 then None
    else (if bytes_eq (take 8 bytes) end_name then Some (no_entry true)
    else (if nat_lt (length bytes) (front_length bytes) then None
    else option_map (with_front (front_entry bytes)) (entries_from n (drop (front_length bytes) bytes)))))

-- the names of entries rise, from this number on
abbrev pub rise_from : ℕ → List Entry → Bool
rise_from bound [] = true
rise_from bound (e ∷ es) = nat_le bound (name_number e) && rise_from (suc (name_number e)) es

-- the entries of a block, unless their names don't rise
abbrev pub if_rising : Stored Entry → Option (Stored Entry)
if_rising b = if rise_from 0 b.entries then Some b else None

-- the used bytes of a directory block, of which there are so many with the two that count them
abbrev pub used_bytes : ℕ → List ℕ → List ℕ
used_bytes used bytes = slice_range bytes 2 used

-- what a directory block holds where so many of its bytes are used; none where its entries break the format
abbrev pub entries_used : ℕ → List ℕ → Option (Stored Entry)
entries_used used bytes =
    if nat_le 2 used && nat_le used 256 then option_and_then if_rising (entries_from (length (used_bytes used bytes)) (used_bytes used bytes))
    else None

-- what the bytes of a directory block hold; its first two count those that are used
unfoldable pub block_entries : List ℕ → Option (Stored Entry)
block_entries bytes = entries_used (from_be_bytes w16 (take 2 bytes)) bytes

-- what a block of the directory holds; a byte is below 256
abbrev pub stored_in : Block → Option (Stored Entry)
stored_in b = block_entries (map (λ x. x % 256) b.payload)

-- an end-of-file record, without key and data
abbrev pub is_end_record : Record → Bool
is_end_record x = length x.key == 0 && length x.data == 0

-- a record can be a block of the directory: its key has 8 bytes, and its data 256
abbrev pub is_directory_record : Record → Bool
is_directory_record x = length x.key == 8 && length x.data == 256

-- a track can be read up to Rr, and there is an end-of-file record up to there
abbrev pub has_end_by : Geometry → List (List ℕ) → ℕ → ℕ → Bool
has_end_by g tracks track r = option_map_or (list_any is_end_record) (records_in g tracks (Some r) track) false

-- R of the records that may stand after R0
unfoldable pub record_numbers : List ℕ
record_numbers = range_with_len 1 255

-- R of the first end-of-file record of a track, where the track can be read up to it
unfoldable pub end_record : Geometry → List (List ℕ) → ℕ → Option ℕ
end_record g tracks track = find (has_end_by g tracks track) record_numbers

-- the place of an end-of-file record on a relative track, where there is one, and else this later one
abbrev pub end_or : ℕ → Place → Option ℕ → Place
end_or k later None = later
end_or k later (Some r) = record { tt = k; r = r }

-- the place of the first end-of-file record of tracks, the first of which is relative track k; where they have none, after them
unfoldable pub end_from : Geometry → List (List ℕ) → ℕ → List ℕ → Place
end_from g tracks k [] = record { tt = k; r = 0 }
end_from g tracks k (t ∷ ts) = end_or k (end_from g tracks (k + 1) ts) (end_record g tracks t)

-- the place up to which a set is read: that of the last block, if this stands after the directory's end, and else that end
abbrev pub read_to : Place → List ℕ → Place
read_to end lstar = if is_before end (last_of lstar) then last_of lstar else end

-- a record may stand as Rr of relative track k: before the directory's end it can be a directory block, and else any block
abbrev pub may_stand : Place → ℕ → ℕ × Record → Bool
may_stand end k p = if is_before (record { tt = k; r = p.0 }) end then is_directory_record p.1 else is_block p.1

-- the blocks that all records of a relative track are, unless one may not stand there
abbrev pub part_blocks : Place → ℕ → List Record → Option (List Block)
part_blocks end k records = if list_all (may_stand end k) (enumerate_from 1 records) then Some (blocks_from k 1 records) else None

-- the blocks on a track, as a relative track, up to a place; none where it breaks the grammar, or has a record that may not stand there, or is read up to R0
unfoldable pub part_on : Geometry → List (List ℕ) → Place → Place → ℕ → ℕ → Option (List Block)
part_on g tracks end to k track =
    if (k == to.tt) && (to.r == 0) then None
    else option_and_then (part_blocks end k) (records_in g tracks (upto_last to k) track)

-- the blocks on a relative track of a data set with these tracks; none where it has no such track
unfoldable pub part_at : Geometry → List (List ℕ) → List ℕ → Place → Place → ℕ → Option (List Block)
part_at g tracks owned end to k = option_and_then (part_on g tracks end to k) (slice_get owned k)

-- the blocks on each relative track up to a place
unfoldable pub part_tracks : Geometry → List (List ℕ) → List ℕ → Place → Place → List (Option (List Block))
part_tracks g tracks owned end to = map (part_at g tracks owned end to) (range_with_len 0 (to.tt + 1))

-- of blocks those of the directory, which stand before its end
abbrev pub before_end : Place → List Block → List Block
before_end end blocks = filter (λ (b : Block). is_before b.place end) blocks

-- of blocks those of the members, which stand after it
abbrev pub behind_end : Place → List Block → List Block
behind_end end blocks = filter (λ (b : Block). is_before end b.place) blocks

-- the relative track that breaks a directory, by what a block on this track holds and the blocks after it
abbrev pub break_from : ℕ → Option ℕ → Option (Stored Entry) → Option ℕ
break_from track later None = Some track
break_from track later (Some b) = if b.ends then None else later

-- the first relative track that breaks a directory of these blocks: that of a block that breaks the format, up to the one that ends the directory; that of the end-of-file record, where none ends it
abbrev pub directory_break : ℕ → List Block → Option ℕ
directory_break last [] = Some last
directory_break last (b ∷ bs) = break_from b.place.tt (directory_break last bs) (stored_in b)

-- the lower of two tracks, as far as there are some
abbrev pub lower_of : Option ℕ → Option ℕ → Option ℕ
lower_of None b = b
lower_of (Some j) None = Some j
lower_of (Some j) (Some k) = Some (min j k)

-- the entries that count in a directory of these blocks, up to the one that ends it
abbrev pub entries_of : List Block → List Entry
entries_of directory = unwrap_or (reads name_number (map stored_in directory)) []

-- the body, unless a relative track breaks it
abbrev pub part_unless : Option ℕ → Body → Body
part_unless None body = body
part_unless (Some k) body = Unreadable k

-- the body of these blocks with the directory's end; it breaks at this track, or where its directory does, whichever is lower
abbrev pub part_with : Place → Option ℕ → List Block → Body
part_with end broken blocks =
    part_unless (lower_of broken (directory_break end.tt (before_end end blocks)))
    (Part (length (before_end end blocks)) end (entries_of (before_end end blocks)) (behind_end end blocks))

-- the body with these blocks track by track; a track that has none breaks it
unfoldable pub part_of : Place → List (Option (List Block)) → Body
part_of end tracks = part_with end (position (λ o. is_none o) tracks) (flat_map (λ o. unwrap_or o []) tracks)

-- the body of these tracks with the directory's end
abbrev pub part_ended : Geometry → List (List ℕ) → List ℕ → List ℕ → Place → Body
part_ended g tracks owned lstar end = part_of end (part_tracks g tracks owned end (read_to end lstar))

-- the body of a partitioned data set with these extents and this LSTAR: a directory up to the first end-of-file record, and the blocks after it up to the last
unfoldable pub part_body : Geometry → List (List ℕ) → List Run → List ℕ → Body
part_body g tracks extents lstar = part_ended g tracks (owned_tracks extents) lstar (end_from g tracks 0 (owned_tracks extents))

-- the first block of a new directory: 14 bytes are used, and they hold the end entry
unfoldable pub first_block : Content
first_block = (end_name, 0 ∷ 14 ∷ end_name ++ replicate 246 0)

-- each further one: zeros
unfoldable pub unused_block : Content
unused_block = (replicate 8 0, replicate 256 0)

-- the block of this number in a new directory, from 0
abbrev pub new_block : ℕ → Content
new_block zero = first_block
new_block (suc i) = unused_block

-- the numbers of the blocks of a new directory of so many that stand on a relative track
unfoldable pub new_numbers : DiskType → ℕ → ℕ → List ℕ
new_numbers device n k = filter (λ i. (directory_place device i).tt == k) (range_with_len 0 n)

-- what the records of a new directory of so many blocks hold on a relative track, with the end-of-file record if it stands there
abbrev pub new_records : DiskType → ℕ → ℕ → List Content
new_records device n k = map new_block (new_numbers device n k) ++ (if (directory_end device n).tt == k then end_of_file ∷ [] else [])
