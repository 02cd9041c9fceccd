-- What the body of a partitioned data set depends on: the records of its tracks up to the last block, or else to the directory's end, and no more.
use Rattle.std.proofs.Common.{◌≡◌, ◌⊎◌, ◌+◌, ◌≤◌, ◌<◌, ℕ, zero, suc, Bool, true, false, cond, not, ◌&&◌, ◌||◌, List, [], ◌∷◌, ◌++◌, length, Option, Some, None, inl, inr, refl, sym, ap, ◌∙◌, subst, eqb, arith, option_and_then}
use Rattle.std.specs.Prelude.{◌==◌, is_none, nat_lt, position, slice_get, unwrap_or}
use Rattle.std.specs.List.{enumerate_from, find, flat_map, list_all, list_any, position_or_len, range_with_len}
use Rattle.std.specs.Option.{option_map_or}
use Rattle.std.proofs.lemmas.Bool.Decides.{eqb_tells, nat_tests}
use Rattle.std.proofs.lemmas.Grind.{flat_map-append}
use Rattle.std.proofs.lemmas.Option.{slice_get_within}
use Rattle.ckd_image.specs.declared.header.Geometry.{Geometry}
use Rattle.ckd_image.specs.Track.{Record}
use Rattle.vol_model.specs.declared.contents.Block.{Block}
use Rattle.vol_model.specs.declared.contents.Body.{Body}
use Rattle.vol_model.specs.declared.contents.Body.TheVariants.{Part, Unreadable}
use Rattle.vol_model.specs.declared.contents.Entry.{Entry}
use Rattle.vol_model.specs.declared.contents.Place.{Place}
use Rattle.vol_model.specs.declared.contents.Run.{Run}
use Rattle.vol_model.specs.Places.{is_before}
use Rattle.pack_spec.specs.Slots.{tracks_in}
use Rattle.pack_spec.specs.Blocks.{blocks_from, last_of, owned_tracks, records_in, upto_last}
use Rattle.pack_spec.specs.Directories.{before_end, behind_end, directory_break, end_from, end_or, end_record, entries_of, has_end_by, is_end_record, lower_of, may_stand, part_at, part_blocks, part_body, part_ended, part_of, part_on, part_tracks, part_unless, read_to, record_numbers}
use Rattle.pack_spec.proofs.BlockBodies.{all_there, front_there, map_range}
use Rattle.pack_spec.proofs.FrontRecords.{first_of_all, first_of_some}
use Rattle.pack_spec.proofs.SetNames.{nowhere}

-- ---- the place up to which a set is read

-- it isn't before the directory's end
pub record IsPast (end to : Place) : Type 0 where
  pub track : end.tt ≤ to.tt
  pub place : end.tt ≡ to.tt → end.r ≤ to.r

pub read_past_end : (end : Place) (lstar : List ℕ) → IsPast end (read_to end lstar)
read_past_end end lstar = by (is_before end (last_of lstar)) refl
  where
    by : (b : Bool) → is_before end (last_of lstar) ≡ b → IsPast end (cond b (last_of lstar) end)
    by true before = record { track = grind (arith, nat_tests); place = λ same. grind (arith, nat_tests) }
    by false before = record { track = omega arith; place = λ same. omega arith }

-- ---- the first number of a range that passes a test

found_past : (p : ℕ → Bool) (n low r : ℕ) → find p (range_with_len low n) ≡ Some r → low ≤ r
found_past p zero low r is = cc
found_past p (suc n) low r is = by (p low) (λ e. found_past p n (low + 1) r e) is
  where
    by : (b : Bool) → (find p (range_with_len (low + 1) n) ≡ Some r → low + 1 ≤ r) → cond b (Some low) (find p (range_with_len (low + 1) n)) ≡ Some r → low ≤ r
    by true later e = let here : low ≡ r = cc in omega (arith, here)
    by false later e = omega (arith, later e)

first_agrees : (p q : ℕ → Bool) (n low r : ℕ) → ((k : ℕ) → k ≤ r → q k ≡ p k) → find p (range_with_len low n) ≡ Some r → find q (range_with_len low n) ≡ Some r
first_agrees p q zero low r same is = cc
first_agrees p q (suc n) low r same is = by (p low) refl (λ e. first_agrees p q n (low + 1) r same e) is
  where
    by : (b : Bool) → p low ≡ b → (find p (range_with_len (low + 1) n) ≡ Some r → find q (range_with_len (low + 1) n) ≡ Some r) → cond b (Some low) (find p (range_with_len (low + 1) n)) ≡ Some r → cond (q low) (Some low) (find q (range_with_len (low + 1) n)) ≡ Some r
    by true passes later e =
        let here : low ≡ r = cc in
        ap (λ (b : Bool). cond b (Some low) (find q (range_with_len (low + 1) n))) (same low (omega (arith, here)) ∙ passes) ∙ e
    by false passes later e =
        let past : low + 1 ≤ r = found_past p n (low + 1) r e in
        ap (λ (b : Bool). cond b (Some low) (find q (range_with_len (low + 1) n))) (same low (omega (arith, past)) ∙ passes) ∙ later e

-- ---- the directory's end

-- R of the first end-of-file record is the same on tracks that are read alike up to any record
end_alike : (g : Geometry) (a b : List (List ℕ)) (t : ℕ) → ((r : ℕ) → records_in g b (Some r) t ≡ records_in g a (Some r) t) → end_record g b t ≡ end_record g a t
unfolding end_record
end_alike g a b t same = λ i. find (λ r. option_map_or (list_any is_end_record) (same r i) false) record_numbers

-- and on such as have the same records to their end marker
end_of_all : (g : Geometry) (a b : List (List ℕ)) (t : ℕ) (xs : List Record) → records_in g a None t ≡ Some xs → records_in g b None t ≡ Some xs → end_record g b t ≡ end_record g a t
end_of_all g a b t xs first second = end_alike g a b t (λ r. first_of_all g b t xs r second ∙ sym (first_of_all g a t xs r first))

-- or up to this record or a later one
end_of_some : (g : Geometry) (a b : List (List ℕ)) (t m r : ℕ) (xs : List Record) → records_in g a (Some m) t ≡ Some xs → records_in g b (Some m) t ≡ Some xs → r ≤ m → end_record g a t ≡ Some r → end_record g b t ≡ Some r
unfolding end_record record_numbers
end_of_some g a b t m r xs first second low is =
    first_agrees (has_end_by g a t) (has_end_by g b t) 255 1 r (λ k up. ap (λ (o : Option (List Record)). option_map_or (list_any is_end_record) o false)
    (first_of_some g b t xs k m (omega (arith, up, low)) second ∙ sym (first_of_some g a t xs k m (omega (arith, up, low)) first))) is

-- it stands on none of the earlier tracks, and on its own
module _ (g : Geometry) (a : List (List ℕ)) where
  end_low : (k : ℕ) (ts : List ℕ) → k ≤ (end_from g a k ts).tt
  unfolding end_from
  end_low k [] = omega arith
  end_low k (t ∷ ts) = by (end_record g a t) (end_low (k + 1) ts)
    where
      by : (o : Option ℕ) → k + 1 ≤ (end_from g a (k + 1) ts).tt → k ≤ (end_or k (end_from g a (k + 1) ts) o).tt
      by None later = omega (arith, later)
      by (Some r) later = omega arith

  pub end_stands : (k : ℕ) (ts : List ℕ) (j t : ℕ) → slice_get ts j ≡ Some t → k + j ≡ (end_from g a k ts).tt → end_record g a t ≡ Some (end_from g a k ts).r
  unfolding end_from
  end_stands k [] j t there at = cc
  end_stands k (u ∷ ts) zero t there at = by (end_record g a u) refl at
    where
      by : (o : Option ℕ) → end_record g a u ≡ o → k + 0 ≡ (end_or k (end_from g a (k + 1) ts) o).tt
          → end_record g a t ≡ Some (end_or k (end_from g a (k + 1) ts) o).r
      by None is at = absurd (omega (arith, at, end_low (k + 1) ts))
      by (Some r) is at = let same : u ≡ t = cc in ap (end_record g a) (sym same) ∙ is
  end_stands k (u ∷ ts) (suc j) t there at = by (end_record g a u) (λ h. end_stands (k + 1) ts j t there (omega (arith, h))) at
    where
      by : (o : Option ℕ) → (k + suc j ≡ (end_from g a (k + 1) ts).tt → end_record g a t ≡ Some (end_from g a (k + 1) ts).r) → k + suc j ≡ (end_or k (end_from g a (k + 1) ts) o).tt
          → end_record g a t ≡ Some (end_or k (end_from g a (k + 1) ts) o).r
      by None later at = later at
      by (Some r) later at = absurd (omega (arith, at))

-- it is the same where the tracks up to it have the same first end-of-file record
end_same : (g : Geometry) (a b : List (List ℕ)) (k : ℕ) (ts : List ℕ) → ((j t : ℕ) → slice_get ts j ≡ Some t → k + j ≤ (end_from g a k ts).tt → end_record g b t ≡ end_record g a t) → end_from g b k ts ≡ end_from g a k ts
unfolding end_from
end_same g a b k [] same = refl
end_same g a b k (t ∷ ts) same = by (end_record g a t) refl (same zero t refl) (λ none. end_same g a b (k + 1) ts none) (λ j u there low. same (suc j) u there low)
  where
    by : (o : Option ℕ) → end_record g a t ≡ o
        → (k + 0 ≤ (end_or k (end_from g a (k + 1) ts) o).tt → end_record g b t ≡ end_record g a t)
        → (((j u : ℕ) → slice_get ts j ≡ Some u → k + 1 + j ≤ (end_from g a (k + 1) ts).tt → end_record g b u ≡ end_record g a u) → end_from g b (k + 1) ts ≡ end_from g a (k + 1) ts)
        → ((j u : ℕ) → slice_get ts j ≡ Some u → k + suc j ≤ (end_or k (end_from g a (k + 1) ts) o).tt → end_record g b u ≡ end_record g a u)
        → end_or k (end_from g b (k + 1) ts) (end_record g b t) ≡ end_or k (end_from g a (k + 1) ts) o
    by None is here later others =
        ap (end_or k (end_from g b (k + 1) ts)) (here (omega (arith, end_low g a (k + 1) ts)) ∙ is)
        ∙ later (λ j u there low. others j u there (omega (arith, low)))
    by (Some r) is here later others =
        ap (end_or k (end_from g b (k + 1) ts)) (here (omega arith) ∙ is)

-- ---- a body that can be read

-- what a partitioned body has that can be read
pub record IsPart (end : Place) (tracks : List (Option (List Block))) (n : ℕ) (at : Place) (es : List Entry) (bs : List Block) : Type 0 where
  pub end_at : end ≡ at
  pub whole : list_any (λ o. is_none o) tracks ≡ false
  pub ended : directory_break end.tt (before_end end (flat_map (λ o. unwrap_or o []) tracks)) ≡ None
  pub count : length (before_end end (flat_map (λ o. unwrap_or o []) tracks)) ≡ n
  pub entries : entries_of (before_end end (flat_map (λ o. unwrap_or o []) tracks)) ≡ es
  pub blocks : behind_end end (flat_map (λ o. unwrap_or o []) tracks) ≡ bs

pub is_part : (end : Place) (tracks : List (Option (List Block))) (n : ℕ) (at : Place) (es : List Entry) (bs : List Block) → part_of end tracks ≡ Part n at es bs → IsPart end tracks n at es bs
unfolding part_of
is_part end tracks n at es bs is = by (position (λ o. is_none o) tracks) (directory_break end.tt (before_end end all)) refl refl is
  where
    all : List Block
    all = flat_map (λ o. unwrap_or o []) tracks

    by : (p q : Option ℕ) → position (λ o. is_none o) tracks ≡ p → directory_break end.tt (before_end end all) ≡ q
        → part_unless (lower_of p q) (Part (length (before_end end all)) end (entries_of (before_end end all)) (behind_end end all)) ≡ Part n at es bs → IsPart end tracks n at es bs
    by None None none ended e = record { end_at = cc; whole = nowhere (λ o. is_none o) tracks none; ended = ended; count = cc; entries = cc; blocks = cc }
    by None (Some k) none ended e = cc
    by (Some j) None none ended e = cc
    by (Some j) (Some k) none ended e = cc

-- where no element passes a test, none is the first that does
pub no_position : {X : Type 0} (p : X → Bool) (xs : List X) → list_any p xs ≡ false → position p xs ≡ None
no_position {X = X} p xs none = ap (λ (n : ℕ). cond (nat_lt n (length xs)) (Some n) None) (all xs none) ∙ ap (λ (b : Bool). cond b (Some (length xs)) None) (same (length xs))
  where
    more : (b c : Bool) (n m : ℕ) → (b || c) ≡ false → (c ≡ false → n ≡ m) → cond (not b) (1 + n) 0 ≡ suc m
    more true c n m none rest = absurd (cc)
    more false c n m none rest = omega (arith, rest none)

    all : (ys : List X) → list_any p ys ≡ false → position_or_len p ys ≡ length ys
    all [] none = refl
    all (y ∷ ys) none = more (p y) (list_any p ys) (position_or_len p ys) (length ys) none (λ rest. all ys rest)

    same : (n : ℕ) → nat_lt n n ≡ false
    same n = grind (arith, nat_tests)

-- and what has this can be read
pub from_part : (end : Place) (tracks : List (Option (List Block))) (n : ℕ) (at : Place) (es : List Entry) (bs : List Block) → IsPart end tracks n at es bs → part_of end tracks ≡ Part n at es bs
unfolding part_of
from_part end tracks n at es bs part =
    let all : List Block = flat_map (λ o. unwrap_or o []) tracks in
    let made : Body = Part (length (before_end end all)) end (entries_of (before_end end all)) (behind_end end all) in
    ap (λ (o : Option ℕ). part_unless (lower_of o (directory_break end.tt (before_end end all))) made) (no_position (λ o. is_none o) tracks part.whole)
    ∙ ap (λ (o : Option ℕ). part_unless (lower_of None o) made) part.ended
    ∙ ap (λ (m : ℕ). Part m end (entries_of (before_end end all)) (behind_end end all)) part.count
    ∙ ap (λ (p : Place). Part n p (entries_of (before_end end all)) (behind_end end all)) part.end_at
    ∙ ap (λ (zs : List Entry). Part n at zs (behind_end end all)) part.entries
    ∙ ap (λ (zs : List Block). Part n at es zs) part.blocks

-- a relative track that is read up to a place, with its records
pub record IsRead (g : Geometry) (tracks : List (List ℕ)) (owned : List ℕ) (end to : Place) (k : ℕ) : Type 0 where
  pub track : ℕ
  pub there : slice_get owned k ≡ Some track
  pub xs : List Record
  pub records : records_in g tracks (upto_last to k) track ≡ Some xs
  pub stand : list_all (may_stand end k) (enumerate_from 1 xs) ≡ true
  pub blocks : part_at g tracks owned end to k ≡ Some (blocks_from k 1 xs)

module _ (g : Geometry) (tracks : List (List ℕ)) (owned : List ℕ) (end to : Place) where
  pub read_at : (k : ℕ) → is_none (part_at g tracks owned end to k) ≡ false → IsRead g tracks owned end to k
  unfolding part_at part_on
  read_at k some = by (slice_get owned k) refl some
    where
      by_stand : (t : ℕ) (xs : List Record) (b : Bool) → slice_get owned k ≡ Some t → records_in g tracks (upto_last to k) t ≡ Some xs → list_all (may_stand end k) (enumerate_from 1 xs) ≡ b
          → is_none (cond b (Some (blocks_from k 1 xs)) None) ≡ false → part_at g tracks owned end to k ≡ cond b (Some (blocks_from k 1 xs)) None → IsRead g tracks owned end to k
      by_stand t xs true there records stand some is = record { track = t; there = there; xs = xs; records = records; stand = stand; blocks = is }
      by_stand t xs false there records stand some is = cc

      by_records : (t : ℕ) (b : Bool) (o : Option (List Record)) → slice_get owned k ≡ Some t → records_in g tracks (upto_last to k) t ≡ o → is_none (cond b None (option_and_then (part_blocks end k) o)) ≡ false
          → part_at g tracks owned end to k ≡ cond b None (option_and_then (part_blocks end k) o) → IsRead g tracks owned end to k
      by_records t true o there records some is = cc
      by_records t false None there records some is = cc
      by_records t false (Some xs) there records some is = by_stand t xs (list_all (may_stand end k) (enumerate_from 1 xs)) there records refl some is

      by : (o : Option ℕ) → slice_get owned k ≡ o → is_none (option_and_then (part_on g tracks end to k) o) ≡ false → IsRead g tracks owned end to k
      by None there some = cc
      by (Some t) there some = by_records t ((k == to.tt) && (to.r == 0)) (records_in g tracks (upto_last to k) t) there refl some (ap (option_and_then (part_on g tracks end to k)) there)

  pub all_read : list_any (λ o. is_none o) (part_tracks g tracks owned end to) ≡ false → (k : ℕ) → k ≤ to.tt → IsRead g tracks owned end to k
  unfolding part_tracks
  all_read whole k low = read_at k (all_there (part_at g tracks owned end to) (to.tt + 1) 0 whole k (omega arith) (omega (arith, low)))

-- blocks are the same on a relative track that is read alike
part_at_same : (g : Geometry) (a b : List (List ℕ)) (owned : List ℕ) (end to : Place) (k : ℕ) → ((t : ℕ) → slice_get owned k ≡ Some t → records_in g b (upto_last to k) t ≡ records_in g a (upto_last to k) t) → part_at g b owned end to k ≡ part_at g a owned end to k
unfolding part_at part_on
part_at_same g a b owned end to k same = by (slice_get owned k) refl
  where
    by : (o : Option ℕ) → slice_get owned k ≡ o → option_and_then (part_on g b end to k) o ≡ option_and_then (part_on g a end to k) o
    by None there = refl
    by (Some t) there = ap (λ (o : Option (List Record)). cond ((k == to.tt) && (to.r == 0)) None (option_and_then (part_blocks end k) o)) (same t there)

-- The bodies are equal where each track has the same records to its end marker and up to any record.
module _ (g : Geometry) (a b : List (List ℕ)) (extents : List Run) (lstar : List ℕ)
    (same : (k t : ℕ) (u : Option ℕ) → slice_get (owned_tracks extents) k ≡ Some t → records_in g b u t ≡ records_in g a u t) where
  pub same_part : part_body g b extents lstar ≡ part_body g a extents lstar
  unfolding part_body part_tracks
  same_part =
      let owned : List ℕ = owned_tracks extents in
      let end : Place = end_from g a 0 owned in
      let to : Place = read_to end lstar in
      ap (part_ended g b owned lstar) (end_same g a b 0 owned (λ j t there low. end_alike g a b t (λ r. same j t (Some r) there)))
      ∙ ap (part_of end) (map_range (part_at g b owned end to) (part_at g a owned end to) (to.tt + 1) 0 (λ k l u. part_at_same g a b owned end to k (λ t there. same k t (upto_last to k) there)))

-- What a body that can be read has: its directory's end, and tracks that are all read.
module _ (g : Geometry) (a : List (List ℕ)) (extents : List Run) (lstar : List ℕ) (n : ℕ) (end : Place) (es : List Entry) (bs : List Block)
    (is : part_body g a extents lstar ≡ Part n end es bs) where
  first_part : IsPart (end_from g a 0 (owned_tracks extents)) (part_tracks g a (owned_tracks extents) (end_from g a 0 (owned_tracks extents)) (read_to (end_from g a 0 (owned_tracks extents)) lstar)) n end es bs
  unfolding part_body
  first_part = is_part (end_from g a 0 (owned_tracks extents)) (part_tracks g a (owned_tracks extents) (end_from g a 0 (owned_tracks extents)) (read_to (end_from g a 0 (owned_tracks extents)) lstar)) n end es bs is

  pub part_end : end_from g a 0 (owned_tracks extents) ≡ end
  part_end = first_part.end_at

  pub part_is : IsPart end (part_tracks g a (owned_tracks extents) end (read_to end lstar)) n end es bs
  part_is = subst (λ (p : Place). IsPart p (part_tracks g a (owned_tracks extents) p (read_to p lstar)) n end es bs) part_end first_part

  pub part_read : (k : ℕ) → k ≤ (read_to end lstar).tt → IsRead g a (owned_tracks extents) end (read_to end lstar) k
  part_read = all_read g a (owned_tracks extents) end (read_to end lstar) part_is.whole

  pub part_within : (read_to end lstar).tt < length (owned_tracks extents)
  part_within =
      let read = part_read (read_to end lstar).tt (omega arith) in
      slice_get_within (owned_tracks extents) (read_to end lstar).tt read.track read.there

-- A body that can be read stays where each track before that of the last block, or else of the directory's end, has the same records to its end marker, and that one up to there.
module _ (g : Geometry) (a b : List (List ℕ)) (extents : List Run) (lstar : List ℕ) (n : ℕ) (end : Place) (es : List Entry) (bs : List Block)
    (is : part_body g a extents lstar ≡ Part n end es bs)
    (before : (k t : ℕ) → k < (read_to end lstar).tt → slice_get (owned_tracks extents) k ≡ Some t → records_in g b None t ≡ records_in g a None t)
    (at : (t : ℕ) → slice_get (owned_tracks extents) (read_to end lstar).tt ≡ Some t → records_in g b (Some (read_to end lstar).r) t ≡ records_in g a (Some (read_to end lstar).r) t) where
  abbrev owned : List ℕ
  owned = owned_tracks extents

  abbrev to : Place
  to = read_to end lstar

  kept_records : (k t : ℕ) → k ≤ to.tt → slice_get owned k ≡ Some t → records_in g b (upto_last to k) t ≡ records_in g a (upto_last to k) t
  kept_records k t low there = elim (eqb_tells k to.tt) [
    | inl w ↦ rw w.0 (at t (ap (slice_get owned) (sym w.1) ∙ there))
    | inr w ↦ rw w.0 (before k t (omega (arith, low, w.1)) there)
  ]

  past : IsPast end to
  past = read_past_end end lstar

  ended : end_from g a 0 owned ≡ end
  ended = part_end g a extents lstar n end es bs is

  end_kept_at : (k t : ℕ) → slice_get owned k ≡ Some t → k ≤ end.tt → end_record g b t ≡ end_record g a t
  end_kept_at k t there low = by (eqb_tells k to.tt)
    where
      read : IsRead g a owned end to k
      read = part_read g a extents lstar n end es bs is k (omega (arith, low, past.track))

      track_is : read.track ≡ t
      track_is = let same : Some read.track ≡ Some t = sym read.there ∙ there in cc

      first : records_in g a (upto_last to k) t ≡ Some read.xs
      first = ap (records_in g a (upto_last to k)) (sym track_is) ∙ read.records

      second : records_in g b (upto_last to k) t ≡ Some read.xs
      second = kept_records k t (omega (arith, low, past.track)) there ∙ first

      by : ((eqb k to.tt ≡ true) × (k ≡ to.tt)) ⊎ ((eqb k to.tt ≡ false) × (k ≡ to.tt → ⊥)) → end_record g b t ≡ end_record g a t
      by (inl w) =
          let same : end.tt ≡ to.tt = omega (arith, low, past.track, w.1) in
          let stands : end_record g a t ≡ Some end.r = subst (λ (p : Place). k ≡ p.tt → end_record g a t ≡ Some p.r) ended (λ e. end_stands g a 0 owned k t there (omega (arith, e))) (omega (arith, same, w.1)) in
          let up : upto_last to k ≡ Some to.r = ap (λ (c : Bool). cond c (Some to.r) None) w.0 in
          end_of_some g a b t to.r end.r read.xs (ap (λ (u : Option ℕ). records_in g a u t) (sym up) ∙ first) (ap (λ (u : Option ℕ). records_in g b u t) (sym up) ∙ second) (past.place same) stands ∙ sym stands
      by (inr w) =
          let up : upto_last to k ≡ None = ap (λ (c : Bool). cond c (Some to.r) None) w.0 in
          end_of_all g a b t read.xs (ap (λ (u : Option ℕ). records_in g a u t) (sym up) ∙ first) (ap (λ (u : Option ℕ). records_in g b u t) (sym up) ∙ second)

  end_kept : end_from g b 0 owned ≡ end
  end_kept = end_same g a b 0 owned (λ j t there low. end_kept_at j t there (omega (arith, low, ap (λ (p : Place). p.tt) ended))) ∙ ended

  pub kept_part : part_body g b extents lstar ≡ Part n end es bs
  unfolding part_body part_tracks
  kept_part =
      ap (part_ended g b owned lstar) end_kept
      ∙ ap (part_of end) (map_range (part_at g b owned end to) (part_at g a owned end to) (to.tt + 1) 0 (λ k l u. part_at_same g a b owned end to k (λ t there. kept_records k t (omega (arith, u)) there)))
      ∙ ap (part_ended g a owned lstar) (sym ended)
      ∙ is

-- the end is the same with more tracks after, where it stands on one of the first
end_front : (g : Geometry) (tracks : List (List ℕ)) (k : ℕ) (ts more : List ℕ) → (end_from g tracks k ts).tt < k + length ts → end_from g tracks k (ts ++ more) ≡ end_from g tracks k ts
unfolding end_from
end_front g tracks k [] more low = absurd (omega (arith, low))
end_front g tracks k (t ∷ ts) more low = by (end_record g tracks t) low (λ h. end_front g tracks (k + 1) ts more h)
  where
    by : (o : Option ℕ) → (end_or k (end_from g tracks (k + 1) ts) o).tt < k + suc (length ts) → ((end_from g tracks (k + 1) ts).tt < k + 1 + length ts → end_from g tracks (k + 1) (ts ++ more) ≡ end_from g tracks (k + 1) ts)
        → end_or k (end_from g tracks (k + 1) (ts ++ more)) o ≡ end_or k (end_from g tracks (k + 1) ts) o
    by None low later = later (omega (arith, low))
    by (Some r) low later = refl

-- More extents after the others leave a body that can be read as it is.
module _ (g : Geometry) (tracks : List (List ℕ)) (extents more : List Run) (lstar : List ℕ) (n : ℕ) (end : Place) (es : List Entry) (bs : List Block)
    (is : part_body g tracks extents lstar ≡ Part n end es bs) where
  abbrev last : Place
  last = read_to end lstar

  owned_more : owned_tracks (extents ++ more) ≡ owned_tracks extents ++ owned_tracks more
  unfolding owned_tracks
  owned_more = flat_map-append tracks_in extents more

  end_more : end_from g tracks 0 (owned_tracks (extents ++ more)) ≡ end
  end_more =
      let ended = part_end g tracks extents lstar n end es bs is in
      let past = read_past_end end lstar in
      let within = part_within g tracks extents lstar n end es bs is in
      ap (end_from g tracks 0) owned_more
      ∙ end_front g tracks 0 (owned_tracks extents) (owned_tracks more) (omega (arith, past.track, within, ap (λ (p : Place). p.tt) ended))
      ∙ ended

  at_more : (k : ℕ) → k ≤ last.tt → part_at g tracks (owned_tracks (extents ++ more)) end last k ≡ part_at g tracks (owned_tracks extents) end last k
  unfolding part_at
  at_more k low =
      let read = part_read g tracks extents lstar n end es bs is k low in
      ap (λ (ts : List ℕ). option_and_then (part_on g tracks end last k) (slice_get ts k)) owned_more
      ∙ ap (option_and_then (part_on g tracks end last k)) (front_there (owned_tracks extents) (owned_tracks more) k read.track read.there ∙ sym read.there)

  pub more_part : part_body g tracks (extents ++ more) lstar ≡ Part n end es bs
  unfolding part_body part_tracks
  more_part =
      ap (part_ended g tracks (owned_tracks (extents ++ more)) lstar) end_more
      ∙ ap (part_of end) (map_range (part_at g tracks (owned_tracks (extents ++ more)) end last) (part_at g tracks (owned_tracks extents) end last) (last.tt + 1) 0 (λ k l u. at_more k (omega (arith, u))))
      ∙ ap (part_ended g tracks (owned_tracks extents) lstar) (sym (part_end g tracks extents lstar n end es bs is))
      ∙ is

-- whatever it holds, it is a partitioned body, or can't be read
pub part_or_unread : (g : Geometry) (tracks : List (List ℕ)) (extents : List Run) (lstar : List ℕ) (P : Body → Type 0) → ((n : ℕ) (end : Place) (es : List Entry) (bs : List Block) → P (Part n end es bs)) → ((k : ℕ) → P (Unreadable k)) → P (part_body g tracks extents lstar)
unfolding part_body part_of
part_or_unread g tracks extents lstar P read unread = by _ _ _ _ _
  where
    by : (o : Option ℕ) (n : ℕ) (end : Place) (es : List Entry) (bs : List Block) → P (part_unless o (Part n end es bs))
    by None n end es bs = read n end es bs
    by (Some k) n end es bs = unread k
