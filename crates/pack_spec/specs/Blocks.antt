-- The blocks of a sequential data set: the records of its tracks, up to the last block that its format 1 names (System Control Blocks GC28-6628; which bodies can't be read: this project's profile).
use Rattle.std.specs.Prelude.{ℕ, ◌+◌, ◌/◌, ◌%◌, ◌==◌, ◌&&◌, nat_le, Bool, List, [], ◌∷◌, length, map, position, is_none, Option, Some, None, option_and_then, unwrap_or, slice_get, slice_index, slice_index_or, slice_range, if◌then◌else◌}
use Rattle.std.specs.List.{enumerate_from, flat_map, list_all, range_with_len}
use Rattle.std.specs.Str.{bytes_eq}
use Rattle.std.specs.Int.{w16, from_be_bytes}
use Rattle.ckd_image.specs.declared.header.Geometry.{Geometry}
use Rattle.ckd_image.specs.Track.{Record}
use Rattle.ckd_image.specs.Reading.{records_of}
use Rattle.vol_model.specs.declared.contents.Block.{Block}
use Rattle.vol_model.specs.declared.contents.Body.{Body}
use Rattle.vol_model.specs.declared.contents.Body.TheVariants.{Seq, Unreadable}
use Rattle.vol_model.specs.declared.contents.Place.{Place}
use Rattle.vol_model.specs.declared.contents.Run.{Run}
use Rattle.vol_model.specs.Space.{is_in}
use Rattle.pack_spec.specs.Label.{heads_of, track_bytes, tracks_of}
use Rattle.pack_spec.specs.Slots.{tracks_in}

-- the bytes of a track outside the VTOC; none of one in it
abbrev pub data_track : List ℕ → Geometry → Run → ℕ → List ℕ
data_track image g vtoc track = if is_in track vtoc then [] else track_bytes image g track

-- the bytes of all tracks of an image, in order; a track of the VTOC has none here, since no data set of a mounted image owns it
unfoldable pub data_tracks : List ℕ → Geometry → Run → List (List ℕ)
data_tracks image g vtoc = map (data_track image g vtoc) (range_with_len 0 (tracks_of g))

-- the records after R0 of one of these tracks, to its end marker or up to a record; nothing where it breaks the grammar
unfoldable pub records_in : Geometry → List (List ℕ) → Option ℕ → ℕ → Option (List Record)
records_in g tracks upto track = records_of (track / heads_of g) (track % heads_of g) upto
    (slice_index_or tracks track [])

-- the tracks of a data set, in relative order
unfoldable pub owned_tracks : List Run → List ℕ
owned_tracks extents = flat_map tracks_in extents

-- LSTAR is zeros: no block stands in the set
abbrev pub has_no_block : List ℕ → Bool
has_no_block lstar = bytes_eq lstar (0 ∷ 0 ∷ 0 ∷ [])

-- the place of the last block, which LSTAR gives as TTR: two bytes name the relative track, and one the record
abbrev pub last_of : List ℕ → Place
last_of lstar = record {
  tt = from_be_bytes w16 (slice_range lstar 0 2);
  r = slice_index lstar 2 % 256;
}

-- a record can be a block: its key has at most 255 bytes, as its length is one byte, and its data at most 32,760
abbrev pub is_block : Record → Bool
is_block x = nat_le (length x.key) 255 && nat_le (length x.data) 32760

-- the block that a record is, at a place
abbrev pub block_at : ℕ → ℕ → Record → Block
block_at k r x = record { place = record { tt = k; r = r }; key = x.key; payload = x.data }

-- the blocks that records on a relative track are, the first of which is R = r
abbrev pub blocks_from : ℕ → ℕ → List Record → List Block
blocks_from k r records = map (λ p. block_at k p.0 p.1) (enumerate_from r records)

-- the blocks that all records of a relative track are, unless one can't be one
abbrev pub blocks_of : ℕ → List Record → Option (List Block)
blocks_of k records = if list_all is_block records then Some (blocks_from k 1 records) else None

-- up to which record a relative track is read: the last block on its track, and else the end marker
abbrev pub upto_last : Place → ℕ → Option ℕ
upto_last last k = if k == last.tt then Some last.r else None

-- the blocks on a track, as a relative track; none where it breaks the grammar, or has a record that can't be a block, or the last block's as R0
unfoldable pub blocks_on : Geometry → List (List ℕ) → Place → ℕ → ℕ → Option (List Block)
blocks_on g tracks last k track =
    if (k == last.tt) && (last.r == 0) then None
    else option_and_then (blocks_of k) (records_in g tracks (upto_last last k) track)

-- the blocks on a relative track of a data set with these tracks; none where it has no such track
unfoldable pub blocks_at : Geometry → List (List ℕ) → List ℕ → Place → ℕ → Option (List Block)
blocks_at g tracks owned last k = option_and_then (blocks_on g tracks last k) (slice_get owned k)

-- the blocks of a body, unless a relative track breaks it
abbrev pub seq_unless : Option ℕ → List Block → Body
seq_unless None blocks = Seq blocks
seq_unless (Some k) blocks = Unreadable k

-- the body with these blocks track by track; it can't be read where a track has none, and breaks at the first such
abbrev pub seq_of : List (Option (List Block)) → Body
seq_of tracks = seq_unless (position (λ o. is_none o) tracks)
    (flat_map (λ o. unwrap_or o []) tracks)

-- the body of a sequential data set with these extents and this LSTAR: the blocks on its tracks up to the last
unfoldable pub seq_body : Geometry → List (List ℕ) → List Run → List ℕ → Body
seq_body g tracks extents lstar =
    if has_no_block lstar then Seq []
    else seq_of (map (blocks_at g tracks (owned_tracks extents) (last_of lstar))
    (range_with_len 0 ((last_of lstar).tt + 1)))
