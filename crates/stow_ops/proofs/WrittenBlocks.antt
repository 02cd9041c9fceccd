-- Tracks of a partitioned data set on which one block of the directory has another key and other data.
use Rattle.std.proofs.Common.{◌≡◌, ◌≢◌, ◌⊎◌, ◌+◌, ◌≤◌, ◌<◌, ℕ, zero, suc, Bool, true, false, cond, List, [], ◌∷◌, length, map, take, Option, Some, None, inl, inr, refl, sym, ap, ap₂, ◌∙◌, subst, eqb, arith, option_and_then, ⊎_elim}
use Rattle.std.specs.Prelude.{◌==◌, ◌&&◌, ◌||◌, slice_get, if◌then◌else◌}
use Rattle.std.specs.List.{enumerate_from, find, list_all, list_any, range_with_len}
use Rattle.std.specs.Option.{option_map, option_map_or}
use Rattle.std.proofs.lemmas.Bool.{cases_lt}
use Rattle.std.proofs.lemmas.Bool.Decides.{eqb_tells, nat_tests}
use Rattle.ckd_image.specs.declared.header.Geometry.{Geometry}
use Rattle.ckd_image.specs.Track.{Record}
use Rattle.vol_model.specs.declared.contents.Block.{Block}
use Rattle.vol_model.specs.declared.contents.Place.{Place}
use Rattle.vol_model.specs.Places.{is_before}
use Rattle.pack_spec.specs.Blocks.{block_at, blocks_from, is_block, records_in, upto_last}
use Rattle.pack_spec.specs.Directories.{end_from, end_or, end_record, has_end_by, is_directory_record, is_end_record, may_stand, part_at, part_blocks, part_on, part_tracks, record_numbers}
use Rattle.pack_spec.proofs.BlockBodies.{map_range}
use Rattle.pack_spec.proofs.FrontRecords.{count_in, first_of_all, first_of_some, first_records}
use Rattle.track_records.specs.Updates.{HasLengths, with_parts}

-- ---- one block with another key and other data

abbrev pub is_place : Place → Place → Bool
is_place p q = (p.tt == q.tt) && (p.r == q.r)

-- a block, with these where it has this place
abbrev pub rewritten : Place → List ℕ → List ℕ → Block → Block
rewritten place key content b = if is_place b.place place then record b { key = key; payload = content } else b

-- records of a directory block have a key of 8 bytes, and data of 256
is_dir : (x : Record) → 8 ≡ length x.key → 256 ≡ length x.data → is_directory_record x ≡ true
is_dir x keys contents = ap₂ (λ (m n : ℕ). (m == 8) && (n == 256)) (sym keys) (sym contents)

not_end : (x : Record) → is_directory_record x ≡ true → is_end_record x ≡ false
not_end x is = by (eqb_tells (length x.key) 0) is
  where
    by : ((eqb (length x.key) 0 ≡ true) × (length x.key ≡ 0)) ⊎ ((eqb (length x.key) 0 ≡ false) × (length x.key ≡ 0 → ⊥)) → is_directory_record x ≡ true → is_end_record x ≡ false
    by (inl w) e = let none : is_directory_record x ≡ false = ap (λ (n : ℕ). (n == 8) && (length x.data == 256)) w.1 in cc
    by (inr w) e = ap (λ (b : Bool). b && (length x.data == 0)) w.0

abbrev pub IsDirAt : List Record → ℕ → Type 0
IsDirAt xs i = (x : Record) → slice_get xs i ≡ Some x → is_directory_record x ≡ true

has_dir : (xs : List Record) (i : ℕ) → HasLengths xs i 8 256 → IsDirAt xs i
has_dir [] i has x there = absurd has
has_dir (y ∷ xs) zero has x there = let same : y ≡ x = cc in ap is_directory_record (sym same) ∙ is_dir y has.0 has.1
has_dir (y ∷ xs) (suc i) has x there = has_dir xs i has x there

module _ (place : Place) (key content : List ℕ) where
  abbrev change : Block → Block
  change = rewritten place key content

  pub place_kept : (b : Block) → (change b).place ≡ b.place
  place_kept b = by (is_place b.place place)
    where
      by : (c : Bool) → (cond c (record b { key = key; payload = content }) b).place ≡ b.place
      by true = refl
      by false = refl

  pub change_here : (b : Block) → b.place ≡ place → change b ≡ record { place = b.place; key = key; payload = content }
  change_here b same = ap (λ (c : Bool). cond c (record b { key = key; payload = content }) b) here
    where
      itself : (n : ℕ) → (n == n) ≡ true
      itself n = grind (arith, nat_tests)

      here : is_place b.place place ≡ true
      here = ap (λ (p : Place). is_place p place) same ∙ ap₂ (λ (x y : Bool). x && y) (itself place.tt) (itself place.r)

  pub change_other : (b : Block) → (b.place ≡ place → ⊥) → change b ≡ b
  change_other b other = by (eqb_tells b.place.tt place.tt) (eqb_tells b.place.r place.r)
    where
      made : is_place b.place place ≡ false → change b ≡ b
      made none = ap (λ (c : Bool). cond c (record b { key = key; payload = content }) b) none

      by : ((eqb b.place.tt place.tt ≡ true) × (b.place.tt ≡ place.tt)) ⊎ ((eqb b.place.tt place.tt ≡ false) × (b.place.tt ≡ place.tt → ⊥)) → ((eqb b.place.r place.r ≡ true) × (b.place.r ≡ place.r)) ⊎ ((eqb b.place.r place.r ≡ false) × (b.place.r ≡ place.r → ⊥)) → change b ≡ b
      by (inr w) o = made (ap (λ (c : Bool). c && (b.place.r == place.r)) w.0)
      by (inl w) (inr u) = made (ap₂ (λ (c d : Bool). c && d) w.0 u.0)
      by (inl w) (inl u) = absurd (other (ap₂ (λ (m n : ℕ). record { tt = m; r = n }) w.1 u.1))

  -- ---- the blocks of one track

  track_other : (k r : ℕ) (xs : List Record) → (k ≡ place.tt → place.r < r) → map change (blocks_from k r xs) ≡ blocks_from k r xs
  track_other k r [] none = refl
  track_other k r (x ∷ xs) none = ap₂ (λ (b : Block) (bs : List Block). b ∷ bs) (change_other (block_at k r x) (λ same. let low = none (ap (λ (p : Place). p.tt) same) in omega (arith, low, ap (λ (p : Place). p.r) same))) (track_other k (r + 1) xs (λ same. let low = none same in omega (arith, low)))

  track_here : (k r i : ℕ) (xs : List Record) → k ≡ place.tt → r + i ≡ place.r → map change (blocks_from k r xs) ≡ blocks_from k r (with_parts i key content xs)
  track_here k r i [] track number = refl
  track_here k r zero (x ∷ xs) track number = ap₂ (λ (b : Block) (bs : List Block). b ∷ bs) (change_here (block_at k r x) (ap₂ (λ (m n : ℕ). record { tt = m; r = n }) track (omega (arith, number)))) (track_other k (r + 1) xs (λ same. omega (arith, number)))
  track_here k r (suc i) (x ∷ xs) track number = ap₂ (λ (b : Block) (bs : List Block). b ∷ bs) (change_other (block_at k r x) (λ same. omega (arith, number, ap (λ (p : Place). p.r) same))) (track_here k (r + 1) i xs track (omega (arith, number)))

  module _ (keys : length key ≡ 8) (contents : length content ≡ 256) where
    made_dir : (x : Record) → is_directory_record (record x { key = key; «data» = content }) ≡ true
    made_dir x = ap₂ (λ (m n : ℕ). (m == 8) && (n == 256)) keys contents

    stand_same : (end : Place) (k r i : ℕ) (xs : List Record) → is_before (record { tt = k; r = r + i }) end ≡ true → IsDirAt xs i → list_all (may_stand end k) (enumerate_from r (with_parts i key content xs)) ≡ list_all (may_stand end k) (enumerate_from r xs)
    stand_same end k r i [] before dir = refl
    stand_same end k r zero (x ∷ xs) before dir =
        let here : is_before (record { tt = k; r = r }) end ≡ true = subst (λ (n : ℕ). is_before (record { tt = k; r = n }) end ≡ true) (omega arith) before in
        let stands : (y : Record) → is_directory_record y ≡ true → may_stand end k (r, y) ≡ true = λ (y : Record) (is : is_directory_record y ≡ true). ap (λ (b : Bool). cond b (is_directory_record y) (is_block y)) here ∙ is in
        ap (λ (b : Bool). b && list_all (may_stand end k) (enumerate_from (r + 1) xs)) (stands (record x { key = key; «data» = content }) (made_dir x) ∙ sym (stands x (dir x refl)))
    stand_same end k r (suc i) (x ∷ xs) before dir =
        ap (λ (b : Bool). may_stand end k (r, x) && b) (stand_same end k (r + 1) i xs (subst (λ (n : ℕ). is_before (record { tt = k; r = n }) end ≡ true) (omega arith) before) (λ y there. dir y there))

    ends_same : (i : ℕ) (xs : List Record) → IsDirAt xs i → list_any is_end_record (with_parts i key content xs) ≡ list_any is_end_record xs
    ends_same i [] dir = refl
    ends_same zero (x ∷ xs) dir = ap (λ (b : Bool). b || list_any is_end_record xs) (not_end (record x { key = key; «data» = content }) (made_dir x) ∙ sym (not_end x (dir x refl)))
    ends_same (suc i) (x ∷ xs) dir = ap (λ (b : Bool). is_end_record x || b) (ends_same i xs (λ y there. dir y there))

    -- ---- the tracks of a data set, of which one is written so
    module _ (g : Geometry) (a b : List (List ℕ)) (owned : List ℕ) (track i : ℕ) (held : List Record)
        (others : (t : ℕ) (u : Option ℕ) → t ≢ track → records_in g b u t ≡ records_in g a u t)
        (mine : (u : Option ℕ) → records_in g b u track ≡ option_map (with_parts i key content) (records_in g a u track))
        (number : 1 + i ≡ place.r) (read : records_in g a (Some place.r) track ≡ Some held) (lengths : HasLengths held i 8 256)
        (there : slice_get owned place.tt ≡ Some track) (once : (k : ℕ) → slice_get owned k ≡ Some track → k ≡ place.tt) where
      first_taken_is : (n : ℕ) (xs ys : List Record) → first_records n xs ≡ Some ys → ys ≡ take n xs
      first_taken_is zero xs ys is = cc
      first_taken_is (suc n) [] ys is = cc
      first_taken_is (suc n) (x ∷ xs) ys is = by (first_records n xs) (λ zs e. first_taken_is n xs zs e) is
        where
          by : (o : Option (List Record)) → ((zs : List Record) → o ≡ Some zs → zs ≡ take n xs) → option_map (λ (zs : List Record). x ∷ zs) o ≡ Some ys → ys ≡ x ∷ take n xs
          by None later e = cc
          by (Some zs) later e = let same : x ∷ zs ≡ ys = cc in sym same ∙ ap (λ (l : List Record). x ∷ l) (later zs refl)

      dir_taken : (n j : ℕ) (xs : List Record) → j < n → IsDirAt (take n xs) j → IsDirAt xs j
      dir_taken zero j xs low dir = absurd (omega (arith, low))
      dir_taken (suc n) j [] low dir = λ x none. cc
      dir_taken (suc n) zero (x ∷ xs) low dir = dir
      dir_taken (suc n) (suc j) (x ∷ xs) low dir = dir_taken n j xs (omega (arith, low)) dir

      past : {X : Type 0} (xs : List X) (j : ℕ) (x : X) → length xs ≤ j → slice_get xs j ≡ Some x → ⊥
      past [] j x low is = cc
      past (y ∷ xs) zero x low is = omega (arith, low)
      past (y ∷ xs) (suc j) x low is = past xs j x (omega (arith, low)) is

      held_dir : IsDirAt held i
      held_dir = has_dir held i lengths

      -- however far the track is read, that record can be a directory block
      dir_at : (u : Option ℕ) (xs : List Record) → records_in g a u track ≡ Some xs → IsDirAt xs i
      dir_at None xs is =
          let same = first_taken_is place.r xs held (sym (first_of_all g a track xs place.r is) ∙ read) in
          dir_taken place.r i xs (omega (arith, number)) (subst (λ (l : List Record). IsDirAt l i) same held_dir)
      dir_at (Some m) xs is = ⊎_elim
          (λ low. λ x at. absurd (past xs i x (omega (arith, count_in g a track xs m is, low, number)) at))
          (λ high.
          let same : take place.r xs ≡ held = some_same (take place.r xs) held (sym (first_of_some g a track xs place.r m high is) ∙ read) in
          dir_taken place.r i xs (omega (arith, number)) (subst (λ (l : List Record). IsDirAt l i) (sym same) held_dir))
          (cases_lt m place.r)
        where
          some_same : (x y : List Record) → Some x ≡ Some y → x ≡ y
          some_same x y e = cc

      end_at : end_record g b track ≡ end_record g a track
      unfolding end_record
      end_at = λ j. find (λ r. each r j) record_numbers
        where
          by : (r : ℕ) (o : Option (List Record)) → records_in g a (Some r) track ≡ o → option_map_or (list_any is_end_record) (option_map (with_parts i key content) o) false ≡ option_map_or (list_any is_end_record) o false
          by r None is = refl
          by r (Some xs) is = ends_same i xs (dir_at (Some r) xs is)

          each : (r : ℕ) → has_end_by g b track r ≡ has_end_by g a track r
          each r = ap (λ (o : Option (List Record)). option_map_or (list_any is_end_record) o false) (mine (Some r)) ∙ by r (records_in g a (Some r) track) refl

      end_of : (t : ℕ) → end_record g b t ≡ end_record g a t
      unfolding end_record
      end_of t = ⊎_elim (λ w. subst (λ (n : ℕ). end_record g b n ≡ end_record g a n) (sym w.1) end_at) (λ w. λ j. find (λ r. option_map_or (list_any is_end_record) (others t (Some r) w.1 j) false) record_numbers) (eqb_tells t track)

      ends_from : (k : ℕ) (ts : List ℕ) → end_from g b k ts ≡ end_from g a k ts
      unfolding end_from
      ends_from k [] = refl
      ends_from k (t ∷ ts) = ap₂ (λ (p : Place) (o : Option ℕ). end_or k p o) (ends_from (k + 1) ts) (end_of t)

      pub end_kept : end_from g b 0 owned ≡ end_from g a 0 owned
      end_kept = ends_from 0 owned

      part_kept : (end to : Place) (k : ℕ) → is_before place end ≡ true → part_at g b owned end to k ≡ option_map (map change) (part_at g a owned end to k)
      unfolding part_at part_on
      part_kept end to k before = by_track (slice_get owned k) refl
        where
          blocks_here : (xs : List Record) → k ≡ place.tt → IsDirAt xs i → part_blocks end k (with_parts i key content xs) ≡ option_map (map change) (part_blocks end k xs)
          blocks_here xs same dir = ap (λ (c : Bool). cond c (Some (blocks_from k 1 (with_parts i key content xs))) None) (stand_same end k 1 i xs (subst (λ (p : Place). is_before p end ≡ true) (ap₂ (λ (m n : ℕ). record { tt = m; r = n }) (sym same) (sym number)) before) dir) ∙ by (list_all (may_stand end k) (enumerate_from 1 xs))
            where
              by : (c : Bool) → cond c (Some (blocks_from k 1 (with_parts i key content xs))) None ≡ option_map (map change) (cond c (Some (blocks_from k 1 xs)) None)
              by true = ap Some (sym (track_here k 1 i xs same number))
              by false = refl

          blocks_other : (xs : List Record) → (k ≡ place.tt → ⊥) → part_blocks end k xs ≡ option_map (map change) (part_blocks end k xs)
          blocks_other xs other = by (list_all (may_stand end k) (enumerate_from 1 xs))
            where
              by : (c : Bool) → cond c (Some (blocks_from k 1 xs)) None ≡ option_map (map change) (cond c (Some (blocks_from k 1 xs)) None)
              by true = ap Some (sym (track_other k 1 xs (λ same. absurd (other same))))
              by false = refl

          outer : (c : Bool) (o p : Option (List Block)) → p ≡ option_map (map change) o → cond c None p ≡ option_map (map change) (cond c None o)
          outer true o p same = refl
          outer false o p same = same

          here_read : (o : Option (List Record)) → records_in g a (upto_last to k) track ≡ o → k ≡ place.tt → option_and_then (part_blocks end k) (option_map (with_parts i key content) o) ≡ option_map (map change) (option_and_then (part_blocks end k) o)
          here_read None is same = refl
          here_read (Some xs) is same = blocks_here xs same (dir_at (upto_last to k) xs is)

          other_read : (o : Option (List Record)) → (k ≡ place.tt → ⊥) → option_and_then (part_blocks end k) o ≡ option_map (map change) (option_and_then (part_blocks end k) o)
          other_read None other = refl
          other_read (Some xs) other = blocks_other xs other

          one : (t : ℕ) → slice_get owned k ≡ Some t → ((eqb t track ≡ true) × (t ≡ track)) ⊎ ((eqb t track ≡ false) × (t ≡ track → ⊥)) → option_and_then (part_blocks end k) (records_in g b (upto_last to k) t) ≡ option_map (map change) (option_and_then (part_blocks end k) (records_in g a (upto_last to k) t))
          one t is (inl w) =
              let at : k ≡ place.tt = once k (is ∙ ap Some w.1) in
              subst (λ (n : ℕ). option_and_then (part_blocks end k) (records_in g b (upto_last to k) n) ≡ option_map (map change) (option_and_then (part_blocks end k) (records_in g a (upto_last to k) n))) (sym w.1)
              (ap (option_and_then (part_blocks end k)) (mine (upto_last to k)) ∙ here_read (records_in g a (upto_last to k) track) refl at)
          one t is (inr w) =
              let apart : k ≡ place.tt → ⊥ = λ same. w.1 (some_same t track (sym is ∙ ap (slice_get owned) same ∙ there)) in
              ap (option_and_then (part_blocks end k)) (others t (upto_last to k) w.1) ∙ other_read (records_in g a (upto_last to k) t) apart
            where
              some_same : (x y : ℕ) → Some x ≡ Some y → x ≡ y
              some_same x y e = cc

          by_track : (o : Option ℕ) → slice_get owned k ≡ o → option_and_then (part_on g b end to k) o ≡ option_map (map change) (option_and_then (part_on g a end to k) o)
          by_track None is = refl
          by_track (Some t) is = outer ((k == to.tt) && (to.r == 0)) (option_and_then (part_blocks end k) (records_in g a (upto_last to k) t)) (option_and_then (part_blocks end k) (records_in g b (upto_last to k) t)) (one t is (eqb_tells t track))

      pub tracks_kept : (end to : Place) → is_before place end ≡ true → part_tracks g b owned end to ≡ map (option_map (map change)) (part_tracks g a owned end to)
      unfolding part_tracks
      tracks_kept end to before =
          map_range (part_at g b owned end to) (λ k. option_map (map change) (part_at g a owned end to k)) (to.tt + 1) 0 (λ k l u. part_kept end to k before)
          ∙ sym (map_twice (option_map (map change)) (part_at g a owned end to) (range_with_len 0 (to.tt + 1)))
        where
          map_twice : {X Y Z : Type 0} (h : Y → Z) (f : X → Y) (xs : List X) → map h (map f xs) ≡ map (λ x. h (f x)) xs
          map_twice h f [] = refl
          map_twice {Z = Z} h f (x ∷ xs) = ap (λ (l : List Z). h (f x) ∷ l) (map_twice h f xs)
