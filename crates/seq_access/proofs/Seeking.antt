-- The first block of a data set at or after a place, track by track.
use Rattle.std.proofs.Common.{◌≡◌, ◌≢◌, ◌<◌, ◌≤◌, ◌+◌, ◌-◌, ℕ, zero, suc, Bool, true, false, cond, not, inl, inr, IsTrue, List, [], ◌∷◌, ◌++◌, length, map, max, Option, Some, None, append_assoc, refl, sym, ap, ap₂, ◌∙◌, subst, arith, option_and_then}
use Rattle.std.specs.Prelude.{◌==◌, ◌&&◌, ◌||◌, nat_le, nat_lt, slice_get, unwrap_or, Ok, Result}
use Rattle.std.specs.Option.{option_map}
use Rattle.std.specs.List.{flat_map, list_all, range_with_len}
use Rattle.std.proofs.lemmas.Bool.{and_parts, leb-true}
use Rattle.std.proofs.lemmas.Bool.Decides.{nat_tests, leb_tells}
use Rattle.std.proofs.lemmas.Grind.{flat_map-append}
use Rattle.std.proofs.lemmas.List.{append-nil}
use Rattle.std.proofs.lemmas.List.Elements.{filter-append}
use Rattle.std.proofs.lemmas.List.FromFn.{map-range_with_len_more}
use Rattle.ckd_image.specs.Track.{Record}
use Rattle.ckd_image.specs.declared.header.Geometry.{Geometry}
use Rattle.dscb_codec.specs.declared.F1.{F1}
use Rattle.hall_core.specs.Facts.{Facts, ReportedCall}
use Rattle.hall_core.specs.Images.{image_in}
use Rattle.hall_core.specs.declared.steps.Device.{Device}
use Rattle.stop_model.specs.Files.{File}
use Rattle.stop_model.specs.Moments.{Meaning, Same}
use Rattle.stop_model.proofs.MomentLemmas.{same_then}
use Rattle.pack_spec.specs.Blocks.{block_at, blocks_at, blocks_from, blocks_of, blocks_on, has_no_block, is_block, last_of, records_in, upto_last}
use Rattle.pack_spec.specs.Label.{records_on, tracks_of}
use Rattle.track_records.specs.Buffers.{Buffer}
use Rattle.vol_model.specs.declared.contents.Block.{Block}
use Rattle.vol_model.specs.declared.contents.Place.{Place}
use Rattle.vol_model.specs.Places.{is_before}
use Rattle.vol_model.specs.Reading as reads
use Rattle.vtoc_index.specs.declared.vol.Vol.{Vol}
use Rattle.vtoc_index.proofs.Images.{same_image}
use Rattle.vtoc_sets.specs.Sets.{extents_in}
use Rattle.seq_access.specs.Bodies.{IsReadable, IsSetIn, body_in, data_in, owned_in}
use Rattle.seq_access.specs.Reading.{AreRead, Finds, FindsOn, HoldsTrack, IsThere, block_of, reach_of}
use Rattle.seq_access.specs.declared.read_buf.Reach.{Reach}
use Rattle.seq_access.specs.declared.read_buf.Reach.TheVariants as reaches
use Rattle.seq_access.specs.declared.read_buf.ReadBuf.{ReadBuf}
use Rattle.seq_access.proofs.BodyWalks.{blocks_on_tracks, body_none, body_read}
use Rattle.vtoc_sets.proofs.OtherBuffers.{call_none, call_then}
use Rattle.seq_access.proofs.Checked.{not_all}
use Rattle.vtoc_sets.proofs.DataPlaces.{blocks_are, blocks_by}

-- what a buffer holds that knows how far it was read
pub held_again : (image : List ℕ) (reach : Reach) (b : Buffer) (upto : Option ℕ) (t : ℕ) → AreRead image reach b → reach ≡ reach_of upto → b.track ≡ t → records_on image b.geometry upto t ≡ Some b.records
held_again image reach b None t held is at =
    let read : AreRead image reaches.Whole b = subst (λ (r : Reach). AreRead image r b) is held in
    ap (records_on image b.geometry None) (sym at) ∙ read
held_again image reach b (Some r) t held is at =
    let read : AreRead image (reaches.UpTo r) b = subst (λ (r : Reach). AreRead image r b) is held in
    ap (records_on image b.geometry (Some r)) (sym at) ∙ read

pub held_new : (image : List ℕ) (g : Geometry) (b : Buffer) (upto : Option ℕ) (t : ℕ) → records_on image g upto t ≡ Some b.records → b.geometry ≡ g → b.track ≡ t → AreRead image (reach_of upto) b
held_new image g b None t read geometry at = ap₂ (λ (h : Geometry) (n : ℕ). records_on image h None n) geometry at ∙ read
held_new image g b (Some r) t read geometry at = ap₂ (λ (h : Geometry) (n : ℕ). records_on image h (Some r) n) geometry at ∙ read

pub held_nothing : (image : List ℕ) (reach : Reach) (b : Buffer) → reach ≡ reaches.Nothing → AreRead image reach b
held_nothing image reach b is = subst (λ (r : Reach). AreRead image r b) (sym is) tt

-- the records of a track that has blocks can all be blocks
both : (b c : Bool) (y : List Block) → (cond b None (cond c (Some y) None) ≢ None) → (cond b None (cond c (Some y) None) ≡ Some y) × (c ≡ true)
both true c y some = absurd (some refl)
both false true y some = (refl, refl)
both false false y some = absurd (some refl)

module _ (image : List ℕ) (v : Vol) (f : F1) (set : IsSetIn image v f) (last : Place) (k t : ℕ)
    (there : slice_get (owned_in image v f) k ≡ Some t) (inside : t < tracks_of v.geometry) (xs : List Record)
    (read : records_on image v.geometry (upto_last last k) t ≡ Some xs) (some : blocks_at v.geometry (data_in image v) (owned_in image v f) last k ≢ None) where
  by_read : blocks_at v.geometry (data_in image v) (owned_in image v f) last k ≡ blocks_by last k (Some xs)
  by_read = blocks_are image v f set last k t there inside ∙ ap (blocks_by last k) read

  found : (blocks_by last k (Some xs) ≡ Some (blocks_from k 1 xs)) × (list_all is_block xs ≡ true)
  found = both ((k == last.tt) && (last.r == 0)) (list_all is_block xs) (blocks_from k 1 xs) (λ none. some (by_read ∙ none))

  pub blocks_found : blocks_at v.geometry (data_in image v) (owned_in image v f) last k ≡ Some (blocks_from k 1 xs)
  blocks_found = by_read ∙ found.0

  pub none_unfit : (j : ℕ) → option_map is_block (slice_get xs j) ≡ Some false → ⊥
  none_unfit j is = let no : false ≡ true = not_all is_block xs j is ∙ found.1 in cc

-- the blocks that records are, one by one
block_there : (k r j : ℕ) (xs : List Record) (x : Record) → slice_get xs j ≡ Some x → slice_get (blocks_from k r xs) j ≡ Some (block_at k (r + j) x)
block_there k r j [] x is = cc
block_there k r zero (y ∷ xs) x is =
    let same : y ≡ x = cc in
    let number : r ≡ r + zero = omega arith in
    ap₂ (λ (n : ℕ) (z : Record). Some (block_at k n z)) number same
block_there k r (suc j) (y ∷ xs) x is =
    let number : r + 1 + j ≡ r + suc j = omega arith in
    block_there k (r + 1) j xs x is ∙ ap (λ (n : ℕ). Some (block_at k n x)) number

many_blocks : (k r : ℕ) (xs : List Record) → length (blocks_from k r xs) ≡ length xs
many_blocks k r [] = refl
many_blocks k r (x ∷ xs) = omega (arith, many_blocks k (r + 1) xs)

there_is : (xs : List Record) (j : ℕ) → j < length xs → (x : Record) × (slice_get xs j ≡ Some x)
there_is [] j low = absurd (omega (arith, low))
there_is (x ∷ xs) zero low = (x, refl)
there_is (x ∷ xs) (suc j) low = there_is xs j (omega (arith, low))

pub finds_none : (blocks : Option (List Block)) (at : Place) (b : Buffer) → blocks ≡ Some (blocks_from at.tt 1 b.records) → length b.records < at.r → FindsOn (Ok None) blocks at b
finds_none blocks at b is past = (blocks_from at.tt 1 b.records, is, omega (arith, past, many_blocks at.tt 1 b.records))

pub finds_some : (blocks : Option (List Block)) (at p : Place) (b : Buffer) → blocks ≡ Some (blocks_from at.tt 1 b.records) → 1 ≤ at.r → at.r ≤ length b.records → FindsOn (Ok (Some p)) blocks at b
finds_some blocks at p b is first low =
    let x = there_is b.records (at.r - 1) (omega (arith, first, low)) in
    let number : 1 + (at.r - 1) ≡ at.r = omega (arith, first) in
    (blocks_from at.tt 1 b.records, x.0, is, x.1, block_there at.tt 1 (at.r - 1) b.records x.0 x.1 ∙ ap (λ (n : ℕ). Some (block_at at.tt n x.0)) number)

pub is_there : (at : Place) (b : Buffer) → 1 ≤ at.r → at.r ≤ length b.records → at.r ≤ 255 → at.tt < 65535 → option_map is_block (slice_get b.records (at.r - 1)) ≡ Some true → IsThere at b
is_there at b first low number track is = record {
  first = first;
  last = low;
  number = number;
  track = track;
  fits = λ x there. sizes x (sym (ap (option_map is_block) there) ∙ is);
}
  where
    sizes : (x : Record) → Some (is_block x) ≡ Some true → (length x.key ≤ 255) × (length x.data ≤ 32760)
    sizes x e =
        let here : is_block x ≡ true = cc in
        let parts = and_parts (nat_le (length x.key) 255) (nat_le (length x.data) 32760) here in
        (leb-true (length x.key) 255 parts.0, leb-true (length x.data) 32760 parts.1)

-- on a track before a place's there is no block at or after the place
track_before : (from : Place) (k r : ℕ) (xs : List Record) → k < from.tt → reads.blocks_from from (blocks_from k r xs) ≡ []
track_before from k r [] low = refl
track_before from k r (x ∷ xs) low =
    passed (is_before (record { tt = k; r = r }) from) (block_at k r x) (reads.blocks_from from (blocks_from k (r + 1) xs)) (before k from.tt r from.r low) (track_before from k (r + 1) xs low)
  where
    passed : (b : Bool) (y : Block) (ys : List Block) → b ≡ true → ys ≡ [] → cond (not b) (y ∷ ys) ys ≡ []
    passed true y ys e rest = rest
    passed false y ys e rest = cc

    before : (k l r s : ℕ) → k < l → (nat_lt k l || (k == l && nat_lt r s)) ≡ true
    before k l r s low = grind (arith, nat_tests)

-- on a track where it is told by the number of a record whether it stands before the place
module _ (from : Place) (k r : ℕ) (splits : (j : ℕ) → 1 ≤ j → is_before (record { tt = k; r = j }) from ≡ nat_lt j r) where
  track_passed : (i : ℕ) (xs : List Record) → 1 ≤ i → i + length xs ≤ r → reads.blocks_from from (blocks_from k i xs) ≡ []
  track_passed i [] first low = refl
  track_passed i (x ∷ xs) first low =
      passed (is_before (record { tt = k; r = i }) from) (block_at k i x) (reads.blocks_from from (blocks_from k (i + 1) xs)) (splits i first ∙ less i r (omega (arith, low))) (track_passed (i + 1) xs (omega arith) (omega (arith, low)))
    where
      passed : (b : Bool) (y : Block) (ys : List Block) → b ≡ true → ys ≡ [] → cond (not b) (y ∷ ys) ys ≡ []
      passed true y ys e rest = rest
      passed false y ys e rest = cc

      less : (i r : ℕ) → i < r → nat_lt i r ≡ true
      less i r low = grind (arith, nat_tests)

  track_found : (i j : ℕ) (xs : List Record) (y : Block) → 1 ≤ i → i + j ≡ r → slice_get (blocks_from k i xs) j ≡ Some y → (rest : List Block) × (reads.blocks_from from (blocks_from k i xs) ≡ y ∷ rest)
  track_found i j [] y first at is = cc
  track_found i zero (x ∷ xs) y first at is =
      let same : block_at k i x ≡ y = cc in
      let rest = reads.blocks_from from (blocks_from k (i + 1) xs) in
      (rest, taken (is_before (record { tt = k; r = i }) from) (block_at k i x) rest (splits i first ∙ level i r (omega (arith, at))) ∙ ap (λ (z : Block). z ∷ rest) same)
    where
      taken : (b : Bool) (y : Block) (ys : List Block) → b ≡ false → cond (not b) (y ∷ ys) ys ≡ y ∷ ys
      taken true y ys e = cc
      taken false y ys e = refl

      level : (i r : ℕ) → i ≡ r → nat_lt i r ≡ false
      level i r same = grind (arith, nat_tests)
  track_found i (suc j) (x ∷ xs) y first at is =
      let more = track_found (i + 1) j xs y (omega arith) (omega (arith, at)) is in
      (more.0, passed (is_before (record { tt = k; r = i }) from) (block_at k i x) (reads.blocks_from from (blocks_from k (i + 1) xs)) (splits i first ∙ less i r (omega (arith, at))) ∙ more.1)
    where
      passed : (b : Bool) (y : Block) (ys : List Block) → b ≡ true → cond (not b) (y ∷ ys) ys ≡ ys
      passed true y ys e = refl
      passed false y ys e = cc

      less : (i r : ℕ) → i < r → nat_lt i r ≡ true
      less i r low = grind (arith, nat_tests)

-- one track more
tracks_more : (at : ℕ → Option (List Block)) (n : ℕ) → blocks_on_tracks at (n + 1) ≡ blocks_on_tracks at n ++ unwrap_or (at n) []
tracks_more at n =
    let same : 0 + n ≡ n = omega arith in
    ap (flat_map (λ o. unwrap_or o [])) (map-range_with_len_more at 0 n n same)
    ∙ flat_map-append (λ o. unwrap_or o []) (map at (range_with_len 0 n)) (at n ∷ [])
    ∙ ap (λ (l : List Block). blocks_on_tracks at n ++ l) (append-nil (unwrap_or (at n) []))

-- the blocks on the tracks before one, on it, and after it
tracks_split : (at : ℕ → Option (List Block)) (k d : ℕ) → (more : List Block) × (blocks_on_tracks at (k + 1 + d) ≡ blocks_on_tracks at k ++ (unwrap_or (at k) [] ++ more))
tracks_split at k zero =
    let same : k + 1 + zero ≡ k + 1 = omega arith in
    ([], ap (blocks_on_tracks at) same ∙ tracks_more at k ∙ ap (λ (l : List Block). blocks_on_tracks at k ++ l) (sym (append-nil (unwrap_or (at k) []))))
tracks_split at k (suc d) =
    let same : k + 1 + suc d ≡ k + 1 + d + 1 = omega arith in
    let rest = tracks_split at k d in
    let here : List Block = unwrap_or (at k) [] in
    let next : List Block = unwrap_or (at (k + 1 + d)) [] in (
      rest.0 ++ next,
      ap (blocks_on_tracks at) same ∙ tracks_more at (k + 1 + d) ∙ ap (λ (l : List Block). l ++ next) rest.1
          ∙ append_assoc (blocks_on_tracks at k) (here ++ rest.0) next
          ∙ ap (λ (l : List Block). blocks_on_tracks at k ++ l) (append_assoc here rest.0 next),
    )

module _ (image : List ℕ) (v : Vol) (f : F1) where
  abbrev pub on_track : ℕ → Option (List Block)
  on_track k = blocks_at v.geometry (data_in image v) (owned_in image v f) (last_of f.lstar) k

  -- the blocks on a track are records of it
  on_track_from : (k : ℕ) (on : List Block) → on_track k ≡ Some on → (xs : List Record) × (on ≡ blocks_from k 1 xs)
  unfolding blocks_at blocks_on
  on_track_from k on is = by (slice_get (owned_in image v f) k) is
    where
      by_records : (b c : Bool) (xs : List Record) → cond b None (cond c (Some (blocks_from k 1 xs)) None) ≡ Some on → (ys : List Record) × (on ≡ blocks_from k 1 ys)
      by_records true c xs e = cc
      by_records false false xs e = cc
      by_records false true xs e = let same : blocks_from k 1 xs ≡ on = cc in (xs, sym same)

      by_read : (b : Bool) (o : Option (List Record)) → cond b None (option_and_then (blocks_of k) o) ≡ Some on → (ys : List Record) × (on ≡ blocks_from k 1 ys)
      by_read true o e = cc
      by_read false None e = cc
      by_read false (Some xs) e = by_records false (list_all is_block xs) xs e

      by : (o : Option ℕ) → option_and_then (blocks_on v.geometry (data_in image v) (last_of f.lstar) k) o ≡ Some on → (ys : List Record) × (on ≡ blocks_from k 1 ys)
      by None e = cc
      by (Some t) e = by_read ((k == (last_of f.lstar).tt) && ((last_of f.lstar).r == 0)) (records_in v.geometry (data_in image v) (upto_last (last_of f.lstar) k) t) e

  before_one : (from : Place) (k : ℕ) → k < from.tt → reads.blocks_from from (unwrap_or (on_track k) []) ≡ []
  before_one from k low = by (on_track k) refl
    where
      by : (o : Option (List Block)) → on_track k ≡ o → reads.blocks_from from (unwrap_or o []) ≡ []
      by None is = refl
      by (Some on) is =
          let of = on_track_from k on is in
          ap (reads.blocks_from from) of.1 ∙ track_before from k 1 of.0 low

  -- none on the tracks before a place's stands at or after the place
  pub before_all : (from : Place) (n : ℕ) → n ≤ from.tt → reads.blocks_from from (blocks_on_tracks on_track n) ≡ []
  before_all from zero low = refl
  before_all from (suc n) low =
      let next : suc n ≡ n + 1 = omega arith in
      ap (λ (m : ℕ). reads.blocks_from from (blocks_on_tracks on_track m)) next ∙ ap (reads.blocks_from from) (tracks_more on_track n)
      ∙ filter-append (λ (b : Block). not (is_before b.place from)) (blocks_on_tracks on_track n) (unwrap_or (on_track n) [])
      ∙ ap₂ (λ (xs ys : List Block). xs ++ ys) (before_all from n (omega (arith, low))) (before_one from n (omega (arith, low)))

  module _ (from : Place) (k r : ℕ) (splits : (j : ℕ) → 1 ≤ j → is_before (record { tt = k; r = j }) from ≡ nat_lt j r) (passed : reads.blocks_from from (blocks_on_tracks on_track k) ≡ []) where
    -- no block on one track more
    passed_more : (on : List Block) → on_track k ≡ Some on → length on < r → reads.blocks_from from (blocks_on_tracks on_track (k + 1)) ≡ []
    passed_more on is low =
        let of = on_track_from k on is in
        let many : length on ≡ length of.0 = ap length of.1 ∙ many_blocks k 1 of.0 in
        ap (reads.blocks_from from) (tracks_more on_track k)
        ∙ filter-append (λ (b : Block). not (is_before b.place from)) (blocks_on_tracks on_track k) (unwrap_or (on_track k) [])
        ∙ ap₂ (λ (xs ys : List Block). xs ++ ys) passed (ap (λ o. reads.blocks_from from (unwrap_or o [])) is ∙ ap (reads.blocks_from from) of.1 ∙ track_passed from k r splits 1 of.0 (omega arith) (omega (arith, low, many)))

    -- the first of all is that of this number on this track
    passed_to : (on : List Block) (y : Block) (d : ℕ) → 1 ≤ r → on_track k ≡ Some on → slice_get on (r - 1) ≡ Some y → (rest : List Block) × (reads.blocks_from from (blocks_on_tracks on_track (k + 1 + d)) ≡ y ∷ rest)
    passed_to on y d first is there =
        let of = on_track_from k on is in
        let here = track_found from k r splits 1 (r - 1) of.0 y (omega arith) (omega (arith, first)) (ap (λ (l : List Block). slice_get l (r - 1)) (sym of.1) ∙ there) in
        let split = tracks_split on_track k d in
        let more : List Block = reads.blocks_from from split.0 in (
          here.0 ++ more,
          ap (reads.blocks_from from) split.1
              ∙ filter-append (λ (b : Block). not (is_before b.place from)) (blocks_on_tracks on_track k) (unwrap_or (on_track k) [] ++ split.0)
              ∙ ap₂ (λ (xs ys : List Block). xs ++ ys) passed
              (filter-append (λ (b : Block). not (is_before b.place from)) (unwrap_or (on_track k) []) split.0
              ∙ ap (λ (xs : List Block). xs ++ more) (ap (λ o. reads.blocks_from from (unwrap_or o [])) is ∙ ap (reads.blocks_from from) of.1 ∙ here.1)),
        )

-- A search from a place that passed the first tracks; on the next it begins at a record.
pub record Seeks (tells : Bool) (f0 f1 : Facts) (m0 m1 : Meaning (List File)) (v : Vol) (f : F1) (from : Place) (b : ReadBuf) (k r : ℕ) : Type 0 where
  pub facts : ReportedCall ⊥ f0 f1
  pub same : IsTrue tells → Same m0 m1
  pub held : IsTrue tells → HoldsTrack (image_in m0 f0 v.unit) b
  pub geometry : b.records.geometry ≡ v.geometry
  pub number : 1 ≤ r
  pub splits : (j : ℕ) → 1 ≤ j → is_before (record { tt = k; r = j }) from ≡ nat_lt j r
  pub passed : IsTrue tells → reads.blocks_from from (blocks_on_tracks (on_track (image_in m0 f0 v.unit) v f) k) ≡ []

pub seeks_first : (tells : Bool) (f0 : Facts) (m0 : Meaning (List File)) (v : Vol) (f : F1) (from : Place) (b : ReadBuf) (r : ℕ) → (IsTrue tells → Same m0 m0) → (IsTrue tells → HoldsTrack (image_in m0 f0 v.unit) b) → b.records.geometry ≡ v.geometry → r ≡ max 1 from.r
    → Seeks tells f0 f0 m0 m0 v f from b from.tt r
seeks_first tells f0 m0 v f from b r same held geometry is = record {
  facts = call_none f0;
  same = same;
  held = held;
  geometry = geometry;
  number = omega (arith, is);
  splits = λ j first. level from.tt j r from.r first is;
  passed = λ told. before_all (image_in m0 f0 v.unit) v f from from.tt (omega arith);
}
  where
    level : (t j r s : ℕ) → 1 ≤ j → r ≡ max 1 s → (nat_lt t t || (t == t && nat_lt j s)) ≡ nat_lt j r
    level t j r s first is = grind (arith, nat_tests)

module _ (tells : Bool) (f0 f1 : Facts) (m0 m1 : Meaning (List File)) (v : Vol) (f : F1) (from : Place) (b : ReadBuf) (k r : ℕ) (s : Seeks tells f0 f1 m0 m1 v f from b k r) where
  abbrev image : List ℕ
  image = image_in m0 f0 v.unit

  abbrev now : List ℕ
  now = image_in m1 f1 v.unit

  pub image_now : IsTrue tells → now ≡ image
  image_now told = same_image m1.state m0.state f1 f0 v.unit (s.same told).state s.facts.units

  pub set_at : IsTrue tells → IsSetIn image v f → IsSetIn now v f
  set_at told set = subst (λ (i : List ℕ). IsSetIn i v f) (sym (image_now told)) set

  pub held_at : IsTrue tells → HoldsTrack now b
  held_at told = subst (λ (i : List ℕ). HoldsTrack i b) (sym (image_now told)) (s.held told)

  pub blocks_now : (last : Place) → last ≡ last_of f.lstar → has_no_block f.lstar ≡ false → k ≤ last.tt → IsTrue tells → IsReadable (body_in image v f) → blocks_at v.geometry (data_in now v) (owned_in now v f) last k ≢ None
  blocks_now last is some low told readable =
      let read = body_read v.geometry (data_in image v) (extents_in image v f) f.lstar readable.0 some readable.1 in
      let P : Place → Type 0 = λ p. blocks_at v.geometry (data_in now v) (owned_in now v f) p k ≢ None in
      let Q : List ℕ → Type 0 = λ i. on_track i v f k ≢ None in
      subst P (sym is) (subst Q (sym (image_now told)) (read.0 k (let within : k ≤ (last_of f.lstar).tt = subst (λ (p : Place). k ≤ p.tt) is low in omega (arith, within))))

  module _ (f2 : Facts) (m2 : Meaning (List File)) (c : ReadBuf) where
    pub seek_same : (IsTrue tells → Same m1 m2) → IsTrue tells → Same m0 m2
    seek_same same told = same_then (s.same told) (same told)

    pub seek_held : (IsTrue tells → HoldsTrack now c) → IsTrue tells → HoldsTrack image c
    seek_held held told = subst (λ (i : List ℕ). HoldsTrack i c) (image_now told) (held told)

    on_image : (p : Place) (last : Place) (o : Result (Option Place) Device) → last ≡ last_of f.lstar → IsTrue tells → FindsOn o (blocks_at v.geometry (data_in now v) (owned_in now v f) last k) p c.records → FindsOn o (on_track image v f k) p c.records
    on_image p last o is told found =
        let P : Place → Type 0 = λ l. FindsOn o (blocks_at v.geometry (data_in now v) (owned_in now v f) l k) p c.records in
        let Q : List ℕ → Type 0 = λ i. FindsOn o (on_track i v f k) p c.records in
        subst Q (image_now told) (subst P is found)

    pub seek_more : (last : Place) → last ≡ last_of f.lstar → from.tt ≤ k → ReportedCall ⊥ f1 f2 → (IsTrue tells → Same m1 m2) → (IsTrue tells → HoldsTrack now c) → c.records.geometry ≡ v.geometry
        → (IsTrue tells → FindsOn (Ok None) (blocks_at v.geometry (data_in now v) (owned_in now v f) last k) (record { tt = k; r = r }) c.records) → Seeks tells f0 f2 m0 m2 v f from c (k + 1) 1
    seek_more last is behind call same held geometry found = record {
      facts = call_then f0 f1 f2 s.facts call;
      same = seek_same same;
      held = seek_held held;
      geometry = geometry;
      number = omega arith;
      splits = λ j first. later from.tt k j from.r behind first;
      passed = λ told.
          let on = on_image (record { tt = k; r = r }) last (Ok None) is told (found told) in
          passed_more image v f from k r s.splits (s.passed told) on.0 on.1 on.2;
    }
      where
        later : (t k j s : ℕ) → t ≤ k → 1 ≤ j → (nat_lt (k + 1) t || ((k + 1) == t && nat_lt j s)) ≡ nat_lt j 1
        later t k j s behind first = grind (arith, nat_tests)

    pub seek_found : (last p : Place) → last ≡ last_of f.lstar → p ≡ record { tt = k; r = r } → has_no_block f.lstar ≡ false → k ≤ last.tt → IsTrue tells → IsReadable (body_in image v f)
        → FindsOn (Ok (Some p)) (blocks_at v.geometry (data_in now v) (owned_in now v f) last k) (record { tt = k; r = r }) c.records → Finds (Ok (Some p)) (body_in image v f) from c.records
    seek_found last p is at some low told readable found =
        let on = on_image (record { tt = k; r = r }) last (Ok (Some p)) is told found in
        let within : k ≤ (last_of f.lstar).tt = subst (λ (q : Place). k ≤ q.tt) is low in
        let d = (last_of f.lstar).tt - k in
        let all : k + 1 + d ≡ (last_of f.lstar).tt + 1 = omega (arith, within) in
        let read = body_read v.geometry (data_in image v) (extents_in image v f) f.lstar readable.0 some readable.1 in
        let here = passed_to image v f from k r s.splits (s.passed told) on.0 (block_of (record { tt = k; r = r }) on.1) d s.number on.2 on.4 in
        let number : p.r ≡ r = ap (λ (q : Place). q.r) at in (
          readable.0,
          on.1,
          here.0,
          readable.1,
          ap (λ (n : ℕ). slice_get c.records.records (n - 1)) number ∙ on.3,
          ap (reads.blocks_from from) (sym read.1) ∙ ap (λ (n : ℕ). reads.blocks_from from (blocks_on_tracks (on_track image v f) n)) (sym all) ∙ here.1 ∙ ap (λ (q : Place). block_of q on.1 ∷ here.0) (sym at),
        )

  pub seek_onward : (p : Place) → p ≡ record { tt = k; r = r } → is_before p from ≡ false
  seek_onward p at = ap (λ (q : Place). is_before q from) at ∙ s.splits r s.number ∙ level r
    where
      level : (r : ℕ) → nat_lt r r ≡ false
      level r = grind (arith, nat_tests)

  pub seek_end : (last : Place) → last ≡ last_of f.lstar → has_no_block f.lstar ≡ false → last.tt < k → (from.tt ≤ last.tt → k ≤ last.tt + 1) → IsTrue tells → IsReadable (body_in image v f) → Finds (Ok None) (body_in image v f) from b.records
  seek_end last is some past end told readable =
      let read = body_read v.geometry (data_in image v) (extents_in image v f) f.lstar readable.0 some readable.1 in
      let tracks : last.tt + 1 ≡ (last_of f.lstar).tt + 1 = ap (λ (p : Place). p.tt + 1) is in
      let none : reads.blocks_from from (blocks_on_tracks (on_track image v f) (last.tt + 1)) ≡ [] = elim (leb_tells from.tt last.tt) [
        | inl w ↦
            let all : last.tt + 1 ≡ k = omega (arith, past, end w.1) in
            ap (λ (n : ℕ). reads.blocks_from from (blocks_on_tracks (on_track image v f) n)) all ∙ s.passed told
        | inr w ↦ before_all image v f from (last.tt + 1) (omega (arith, w.1))
      ] in
      (readable.0, readable.1, ap (reads.blocks_from from) (sym read.1) ∙ ap (λ (n : ℕ). reads.blocks_from from (blocks_on_tracks (on_track image v f) n)) (sym tracks) ∙ none)

-- a set in which no block stands
pub finds_nothing : (image : List ℕ) (v : Vol) (f : F1) (from : Place) (b : Buffer) → has_no_block f.lstar ≡ true → Finds (Ok None) (body_in image v f) from b
finds_nothing image v f from b is = ([], body_none v.geometry (data_in image v) (extents_in image v f) f.lstar is, refl)
