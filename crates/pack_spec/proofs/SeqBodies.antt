-- The body of a sequential data set is lawful: its blocks follow one another on its tracks.
use Rattle.std.proofs.Common.{◌≡◌, ◌+◌, ◌≤◌, ◌<◌, ◌%◌, ℕ, zero, suc, Bool, true, false, cond, ◌&&◌, List, [], ◌∷◌, ◌++◌, drop, length, map, Option, Some, None, refl, sym, ap, ◌∙◌, arith, option_and_then}
use Rattle.std.specs.Prelude.{◌==◌, ◌/◌, is_none, nat_le, position, slice_get, slice_index, slice_index_or, unwrap_or}
use Rattle.std.specs.List.{AllByRecursion, flat_map, list_all, list_any, range_with_len, sum_by}
use Rattle.std.specs.Option.{option_map}
use Rattle.std.proofs.Math.Nat.{mod-lt}
use Rattle.std.proofs.lemmas.Bool.{and_parts, leb-true}
use Rattle.std.proofs.lemmas.Bool.Decides.{nat_tests}
use Rattle.std.proofs.lemmas.List.Concat.{length-flat_map}
use Rattle.std.proofs.lemmas.List.FromFn.{length-range_with_len}
use Rattle.std.proofs.lemmas.Option.{cond_some, slice_get_within}
use Rattle.ckd_image.specs.declared.header.Geometry.{Geometry}
use Rattle.ckd_image.specs.Track.{Record}
use Rattle.ckd_image.specs.Reading.{front_record, is_at_end, is_front, is_record_at, record_length, records_of, records_up_to}
use Rattle.vol_model.specs.declared.contents.Block.{Block}
use Rattle.vol_model.specs.declared.contents.Body.{Body}
use Rattle.vol_model.specs.declared.contents.Body.TheVariants.{Seq, Unreadable}
use Rattle.vol_model.specs.declared.contents.Place.{Place}
use Rattle.vol_model.specs.declared.contents.Run.{Run}
use Rattle.vol_model.specs.Lawful.{FollowFrom, IsLawfulBlock, IsLawfulBody, is_next}
use Rattle.vol_model.specs.Places as places
use Rattle.pack_spec.specs.Label.{heads_of}
use Rattle.pack_spec.specs.Slots.{tracks_in}
use Rattle.pack_spec.specs.Blocks.{blocks_at, blocks_from, blocks_of, blocks_on, has_no_block, is_block, last_of, owned_tracks, records_in, seq_body, seq_of, seq_unless, upto_last}
use Rattle.pack_spec.proofs.SetNames.{neither, nowhere}
use Rattle.pack_spec.proofs.SlotCounts.{length-records_to_end, more-records, taken}

-- so many records stand up to one
length-records_up_to : (left r : ℕ) (bytes : List ℕ) (xs : List Record) → records_up_to left r bytes ≡ Some xs → length xs ≤ left
unfolding records_up_to
length-records_up_to zero r bytes xs e =
    let same : [] ≡ xs = (cond_some (nat_le 8 (length bytes)) [] xs e).1 in
    rw (sym same) (omega arith)
length-records_up_to (suc left) r bytes xs e = by (is_at_end bytes) (is_record_at r bytes) (records_up_to left (suc r) (drop (record_length bytes) bytes)) (λ ys h. length-records_up_to left (suc r) (drop (record_length bytes) bytes) ys h) e
  where
    by : (ends stands : Bool) (o : Option (List Record)) → ((ys : List Record) → o ≡ Some ys → length ys ≤ left) → cond ends None (cond stands (option_map (λ ys. front_record bytes ∷ ys) o) None) ≡ Some xs → length xs ≤ suc left
    by true stands o h e = cc
    by false stands o h e = more-records left (front_record bytes) xs false stands o h e

-- at most 255 records stand on a track, to its end marker or up to a record of that number or less
pub few_records : (g : Geometry) (tracks : List (List ℕ)) (last : Place) (k track : ℕ) (xs : List Record) → last.r ≤ 255 → records_in g tracks (upto_last last k) track ≡ Some xs → length xs ≤ 255
unfolding records_in records_of
few_records g tracks last k track xs low e = by (k == last.tt) e
  where
    by : (c : Bool) → records_of (track / heads_of g) (track % heads_of g) (cond c (Some last.r) None) (slice_index_or tracks track []) ≡ Some xs → length xs ≤ 255
    by true e = omega (arith, low, length-records_up_to last.r 1 (drop 21 (slice_index_or tracks track [])) xs (taken (is_front (track / heads_of g) (track % heads_of g) (slice_index_or tracks track [])) _ xs e))
    by false e = length-records_to_end 255 1 (drop 21 (slice_index_or tracks track [])) xs (taken (is_front (track / heads_of g) (track % heads_of g) (slice_index_or tracks track [])) _ xs e)

-- the first block on each track from this on may stand after a place
abbrev pub IsReady : Place → ℕ → Type 0
IsReady p k = (j : ℕ) → k ≤ j → is_next p (record { tt = j; r = 1 }) ≡ true

-- blocks on tracks from this on, after any place that is ready
abbrev pub AreBehind : ℕ → ℕ → List Block → Type 0
AreBehind total k bs = ((p : Place) → IsReady p k → FollowFrom total p bs) × AllByRecursion IsLawfulBlock bs

module _ (total : ℕ) (few : total < 65535) where
  -- one after the other on a track, and then others on later tracks
  pub on_track : (k r : ℕ) (xs : List Record) (bs : List Block) (p : Place) → k < total → r + length xs ≤ 256 → is_next p (record { tt = k; r = r }) ≡ true → IsReady p (k + 1) → list_all is_block xs ≡ true → AreBehind total (k + 1) bs
      → FollowFrom total p (blocks_from k r xs ++ bs) × AllByRecursion IsLawfulBlock (blocks_from k r xs ++ bs)
  on_track k r [] bs p low room next ready are behind = (behind.0 p ready, behind.1)
  on_track k r (x ∷ xs) bs p low room next ready are behind =
      let parts = and_parts (is_block x) (list_all is_block xs) are in
      let sizes = and_parts (nat_le (length x.key) 255) (nat_le (length x.data) 32760) parts.0 in
      let place : Place = record { tt = k; r = r } in
      let rest = on_track k (r + 1) xs bs place low (omega (arith, room)) (next_record k r) (later k r) parts.1 behind in (
        (low, next, rest.0),
        (record { key = leb-true (length x.key) 255 sizes.0; payload = leb-true (length x.data) 32760 sizes.1; track = omega (arith, low, few); place = omega (arith, room) }, rest.1),
      )
    where
      next_record : (k r : ℕ) → is_next (record { tt = k; r = r }) (record { tt = k; r = r + 1 }) ≡ true
      next_record k r = grind (arith, nat_tests)

      later : (k r : ℕ) → IsReady (record { tt = k; r = r }) (k + 1)
      later k r j past = grind (arith, nat_tests)

  -- the blocks on one track
  pub one_track : (k : ℕ) (xs : List Record) (bs : List Block) → k < total → length xs ≤ 255 → list_all is_block xs ≡ true → AreBehind total (k + 1) bs → AreBehind total k (blocks_from k 1 xs ++ bs)
  one_track k xs bs low short are behind = (
    λ p ready. (on_track k 1 xs bs p low (omega arith) (ready k (omega arith)) (λ j past. ready j (omega arith)) are behind).0,
    (on_track k 1 xs bs (record { tt = k; r = 0 }) low (omega arith) (first k) (later k) are behind).1,
  )
    where
      first : (k : ℕ) → is_next (record { tt = k; r = 0 }) (record { tt = k; r = 1 }) ≡ true
      first k = grind (arith, nat_tests)

      later : (k : ℕ) → IsReady (record { tt = k; r = 0 }) (k + 1)
      later k j past = grind (arith, nat_tests)

  -- those on all tracks, each of which has some
  module _ (f : ℕ → Option (List Block))
      (one : (k : ℕ) (bs : List Block) → is_none (f k) ≡ false → AreBehind total (k + 1) bs → AreBehind total k (unwrap_or (f k) [] ++ bs)) where
    all_tracks : (n k : ℕ) → list_any (λ o. is_none o) (map f (range_with_len k n)) ≡ false → AreBehind total k (flat_map (λ o. unwrap_or o []) (map f (range_with_len k n)))
    all_tracks zero k some = (λ p ready. tt, tt)
    all_tracks (suc n) k some =
        let parts = neither (is_none (f k)) (list_any (λ o. is_none o) (map f (range_with_len (k + 1) n))) some in
        one k _ parts.0 (all_tracks n (k + 1) parts.1)

-- as many tracks are owned as the extents have
pub length-owned : (extents : List Run) → length (owned_tracks extents) ≡ places.tracks_in extents
unfolding owned_tracks
length-owned extents = length-flat_map tracks_in extents ∙ ap (λ (f : Run → ℕ). sum_by f extents) (λ i r. length-range_with_len r.start r.len i)

module _ (g : Geometry) (tracks : List (List ℕ)) (extents : List Run) (lstar : List ℕ) (few : places.tracks_in extents < 65535) where
  abbrev last : Place
  last = last_of lstar

  abbrev total : ℕ
  total = places.tracks_in extents

  low_place : last.r ≤ 255
  low_place = omega (arith, mod-lt (slice_index lstar 2) {m = 255} (omega arith))

  on_owned : (k track : ℕ) (bs : List Block) → slice_get (owned_tracks extents) k ≡ Some track → is_none (blocks_on g tracks last k track) ≡ false → AreBehind total (k + 1) bs → AreBehind total k (unwrap_or (blocks_on g tracks last k track) [] ++ bs)
  unfolding blocks_on
  on_owned k track bs there some behind = by ((k == last.tt) && (last.r == 0)) (records_in g tracks (upto_last last k) track) refl some
    where
      within : k < total
      within = omega (arith, slice_get_within (owned_tracks extents) k track there, length-owned extents)

      by_blocks : (xs : List Record) (b : Bool) → list_all is_block xs ≡ b → length xs ≤ 255 → is_none (cond b (Some (blocks_from k 1 xs)) None) ≡ false → AreBehind total k (unwrap_or (cond b (Some (blocks_from k 1 xs)) None) [] ++ bs)
      by_blocks xs true are short some = one_track total few k xs bs within short are behind
      by_blocks xs false are short some = cc

      by : (c : Bool) (o : Option (List Record)) → records_in g tracks (upto_last last k) track ≡ o → is_none (cond c None (option_and_then (blocks_of k) o)) ≡ false → AreBehind total k (unwrap_or (cond c None (option_and_then (blocks_of k) o)) [] ++ bs)
      by true o is some = cc
      by false None is some = cc
      by false (Some xs) is some = by_blocks xs (list_all is_block xs) refl (few_records g tracks last k track xs low_place is) some

  at_track : (k : ℕ) (bs : List Block) → is_none (blocks_at g tracks (owned_tracks extents) last k) ≡ false → AreBehind total (k + 1) bs → AreBehind total k (unwrap_or (blocks_at g tracks (owned_tracks extents) last k) [] ++ bs)
  unfolding blocks_at
  at_track k bs some behind = by (slice_get (owned_tracks extents) k) refl some
    where
      by : (o : Option ℕ) → slice_get (owned_tracks extents) k ≡ o → is_none (option_and_then (blocks_on g tracks last k) o) ≡ false → AreBehind total k (unwrap_or (option_and_then (blocks_on g tracks last k) o) [] ++ bs)
      by None there some = cc
      by (Some track) there some = on_owned k track bs there some behind

  pub lawful_seq : IsLawfulBody total (seq_body g tracks extents lstar)
  unfolding seq_body
  lawful_seq = by (has_no_block lstar)
    where
      start : IsReady (record { tt = 0; r = 0 }) 0
      start j past = grind (arith, nat_tests)

      by_position : (all : List (Option (List Block))) (o : Option ℕ) → position (λ o. is_none o) all ≡ o → (list_any (λ o. is_none o) all ≡ false → AreBehind total 0 (flat_map (λ o. unwrap_or o []) all)) → IsLawfulBody total (seq_unless o (flat_map (λ o. unwrap_or o []) all))
      by_position all None none behind = let are = behind (nowhere (λ o. is_none o) all none) in (are.0 (record { tt = 0; r = 0 }) start, are.1)
      by_position all (Some k) some behind = tt

      by : (b : Bool) → IsLawfulBody total (cond b (Seq []) (seq_of (map (blocks_at g tracks (owned_tracks extents) last) (range_with_len 0 (last.tt + 1)))))
      by true = (tt, tt)
      by false = by_position (map (blocks_at g tracks (owned_tracks extents) last) (range_with_len 0 (last.tt + 1))) _ refl (all_tracks total few (blocks_at g tracks (owned_tracks extents) last) at_track (last.tt + 1) 0)

-- whatever blocks it has, it is a sequential body, or can't be read
pub seq_or_unread : (g : Geometry) (tracks : List (List ℕ)) (extents : List Run) (lstar : List ℕ) (P : Body → Type 0) → ((bs : List Block) → P (Seq bs)) → ((k : ℕ) → P (Unreadable k)) → P (seq_body g tracks extents lstar)
unfolding seq_body
seq_or_unread g tracks extents lstar P read unread = by (has_no_block lstar)
  where
    by_position : (o : Option ℕ) (bs : List Block) → P (seq_unless o bs)
    by_position None bs = read bs
    by_position (Some k) bs = unread k

    by : (b : Bool) → P (cond b (Seq []) (seq_of (map (blocks_at g tracks (owned_tracks extents) (last_of lstar)) (range_with_len 0 ((last_of lstar).tt + 1)))))
    by true = read []
    by false = by_position _ _
