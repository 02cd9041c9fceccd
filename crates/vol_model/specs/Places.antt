-- Where blocks stand in a data set, in this project's profile: the place of the next, and of directory records.
use Rattle.std.specs.Prelude.{ℕ, zero, suc, ◌+◌, ◌-◌, ◌==◌, nat_lt, ◌&&◌, ◌||◌, not, Bool, false, List, [], ◌∷◌, ◌++◌, length, map, filter, replicate, sum_by, if◌then◌else◌}
use Rattle.ckd_image.specs.Fit.{fits}
use Rattle.ckd_image.specs.declared.device.DiskType.{DiskType}
use Rattle.vol_model.specs.declared.contents.Block.{Block}
use Rattle.vol_model.specs.declared.contents.Body.{Body}
use Rattle.vol_model.specs.declared.contents.Body.TheVariants as bodies
use Rattle.vol_model.specs.declared.contents.Place.{Place}
use Rattle.vol_model.specs.declared.contents.Run.{Run}

-- what a block holds: its key, and its data
abbrev pub Content : Type 0
Content = List ℕ × List ℕ

-- an end-of-file block's
abbrev pub end_of_file : Content
end_of_file = ([], [])

abbrev pub content : Block → Content
content b = (b.key, b.payload)

-- the lengths by which a content takes room on a track
abbrev pub lengths : Content → ℕ × ℕ
lengths c = (length c.0, length c.1)

-- the number of tracks of extents
abbrev pub tracks_in : List Run → ℕ
tracks_in runs = sum_by (λ (r : Run). r.len) runs

-- one place stands before another
abbrev pub is_before : Place → Place → Bool
is_before p q = nat_lt p.tt q.tt || (p.tt == q.tt && nat_lt p.r q.r)

-- the place after the last record, where that track's records have these lengths: on the track if it fits there, and else at the front of the next
abbrev pub place_behind : DiskType → Place → List (ℕ × ℕ) → ℕ × ℕ → Place
place_behind device last earlier new = if fits device earlier new.0 new.1 then record { tt = last.tt; r = last.r + 1 } else record { tt = last.tt + 1; r = 1 }

-- a directory block's key and data
abbrev pub directory_lengths : ℕ × ℕ
directory_lengths = (8, 256)

-- the place of the n-th block of a new directory, from 0
abbrev pub directory_place : DiskType → ℕ → Place
directory_place device zero = record { tt = 0; r = 1 }
directory_place device (suc n) = let last = directory_place device n in place_behind device last (replicate last.r directory_lengths) directory_lengths

-- the place of the end-of-file record after a new directory of so many blocks
unfoldable pub directory_end : DiskType → ℕ → Place
directory_end device n = let last = directory_place device (n - 1) in place_behind device last (replicate last.r directory_lengths) (0, 0)

-- the last block's place, or this one
abbrev pub last_place : Place → List Block → Place
last_place p [] = p
last_place p (b ∷ bs) = last_place b.place bs

-- the lengths of the blocks on a track
abbrev pub lengths_on : ℕ → List Block → List (ℕ × ℕ)
lengths_on tt bs = map (λ (b : Block). lengths (content b)) (filter (λ (b : Block). b.place.tt == tt) bs)

-- what stands before the first block on a track: on that of the directory's end its last records and the end-of-file record
abbrev pub front_lengths : Place → ℕ → List (ℕ × ℕ)
front_lengths end tt = if end.tt == tt then replicate (end.r - 1) directory_lengths ++ (0, 0) ∷ [] else []

-- The place of the next block of a body.
unfoldable pub next_place : DiskType → Body → Content → Place
next_place device (bodies.Seq []) c = record { tt = 0; r = 1 }
next_place device (bodies.Seq (b ∷ bs)) c = let last = last_place b.place bs in place_behind device last (lengths_on last.tt (b ∷ bs)) (lengths c)
next_place device (bodies.Part dir end entries bs) c = let last = last_place end bs in place_behind device last (front_lengths end last.tt ++ lengths_on last.tt bs) (lengths c)
next_place device _ c = record { tt = 0; r = 1 }

-- a body with more blocks after its last
abbrev pub with_blocks : Body → List Block → Body
with_blocks (bodies.Seq old) bs = bodies.Seq (old ++ bs)
with_blocks (bodies.Part dir end entries old) bs = bodies.Part dir end entries (old ++ bs)
with_blocks body bs = body

-- a content as the next block of a body
abbrev pub next_block : DiskType → Body → Content → Block
next_block device body c = record { place = next_place device body c; key = c.0; payload = c.1 }

-- contents as the blocks after a body, each at its next place
unfoldable pub placed : DiskType → Body → List Content → List Block
placed device body [] = []
placed device body (c ∷ cs) = let b = next_block device body c in b ∷ placed device (with_blocks body (b ∷ [])) cs

-- the block ends a member
abbrev pub is_end_of_file : Block → Bool
is_end_of_file b = length b.key == 0 && length b.payload == 0

-- there are blocks, and the last of them doesn't end a member
abbrev pub is_open_ended : List Block → Bool
is_open_ended [] = false
is_open_ended (b ∷ []) = not (is_end_of_file b)
is_open_ended (b ∷ c ∷ bs) = is_open_ended (c ∷ bs)

-- the track formula lets a content onto an empty track
abbrev pub fits_a_track : DiskType → Content → Bool
fits_a_track device c = fits device [] (length c.0) (length c.1)
