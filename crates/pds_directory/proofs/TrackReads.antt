-- The blocks on a track of a directory, by its records up to the first end-of-file record.
use Rattle.std.proofs.Common.{◌≡◌, ◌+◌, ◌≤◌, ◌<◌, ℕ, zero, suc, Bool, true, false, cond, ◌&&◌, inl, inr, List, [], ◌∷◌, length, take, Option, Some, None, refl, sym, ap, ap₂, ◌∙◌, arith, option_and_then}
use Rattle.std.specs.Prelude.{◌==◌, is_none, slice_get}
use Rattle.std.specs.List.{AllByRecursion, enumerate_from, list_all}
use Rattle.std.specs.Option.{option_map}
use Rattle.std.proofs.lemmas.Bool.{and_parts}
use Rattle.std.proofs.lemmas.Bool.Decides.{eqb_tells, leb_tells, nat_tests}
use Rattle.ckd_image.specs.declared.header.Geometry.{Geometry}
use Rattle.ckd_image.specs.Track.{Record}
use Rattle.vol_model.specs.declared.contents.Block.{Block}
use Rattle.vol_model.specs.declared.contents.Place.{Place}
use Rattle.vol_model.specs.Places.{is_before}
use Rattle.pack_spec.specs.Blocks.{blocks_from, is_block, records_in, upto_last}
use Rattle.pack_spec.specs.Directories.{before_end, end_from, end_or, end_record, is_directory_record, may_stand, part_at, part_blocks, part_on, read_to}
use Rattle.pack_spec.proofs.FrontRecords.{first_of_all, first_of_some, first_records}
use Rattle.pack_spec.proofs.PartBodies.{IsPast, end_stands, read_at, read_past_end}
use Rattle.pds_directory.specs.declared.ends.Reached.{Reached}
use Rattle.pds_directory.specs.Reading.{IsReached, SeeksOn, end_on}
use Rattle.pds_directory.proofs.PartWalks.{all_stand, at}

-- ---- the place of the directory's end

module _ (g : Geometry) (tracks : List (List ℕ)) where
  -- it stands on the first track that has an end-of-file record
  end_by : (k : ℕ) (ts : List ℕ) (j t r : ℕ) → slice_get ts j ≡ Some t → end_record g tracks t ≡ Some r → (end_from g tracks k ts).tt ≤ k + j
  unfolding end_from
  end_by k [] j t r there is = cc
  end_by k (u ∷ ts) zero t r there is = let same : u ≡ t = cc in by (end_record g tracks u) (ap (end_record g tracks) same ∙ is)
    where
      by : (o : Option ℕ) → o ≡ Some r → (end_or k (end_from g tracks (k + 1) ts) o).tt ≤ k + zero
      by None e = cc
      by (Some q) e = omega arith
  end_by k (u ∷ ts) (suc j) t r there is = by (end_record g tracks u) (end_by (k + 1) ts j t r there is)
    where
      by : (o : Option ℕ) → (end_from g tracks (k + 1) ts).tt ≤ k + 1 + j → (end_or k (end_from g tracks (k + 1) ts) o).tt ≤ k + suc j
      by None later = omega (arith, later)
      by (Some q) later = omega arith

  pub end_within : (k : ℕ) (ts : List ℕ) → (end_from g tracks k ts).tt ≤ k + length ts
  unfolding end_from
  end_within k [] = omega arith
  end_within k (u ∷ ts) = by (end_record g tracks u) (end_within (k + 1) ts)
    where
      by : (o : Option ℕ) → (end_from g tracks (k + 1) ts).tt ≤ k + 1 + length ts → (end_or k (end_from g tracks (k + 1) ts) o).tt ≤ k + suc (length ts)
      by None later = omega (arith, later)
      by (Some q) later = omega arith

-- ---- records and blocks

first_are : (n : ℕ) (xs ys : List Record) → first_records n xs ≡ Some ys → ys ≡ take n xs
first_are zero xs ys is = cc
first_are (suc n) [] ys is = cc
first_are (suc n) (x ∷ xs) ys is = by (first_records n xs) (λ zs e. first_are n xs zs e) is
  where
    by : (o : Option (List Record)) → ((zs : List Record) → o ≡ Some zs → zs ≡ take n xs) → option_map (λ (zs : List Record). x ∷ zs) o ≡ Some ys → ys ≡ x ∷ take n xs
    by None rest e = cc
    by (Some zs) rest e = let same : x ∷ zs ≡ ys = cc in sym same ∙ ap (λ (zs : List Record). x ∷ zs) (rest zs refl)

take_take : (n m : ℕ) (xs : List Record) → n ≤ m → take n (take m xs) ≡ take n xs
take_take zero m xs low = refl
take_take (suc n) zero xs low = absurd (omega (arith, low))
take_take (suc n) (suc m) [] low = refl
take_take (suc n) (suc m) (x ∷ xs) low = ap (λ (zs : List Record). x ∷ zs) (take_take n m xs (omega (arith, low)))

both_true : (a b : Bool) → a ≡ true → b ≡ true → (a && b) ≡ true
both_true true true first second = refl
both_true true false first second = cc
both_true false b first second = cc

earlier : (p q : Place) → p.tt < q.tt → is_before p q ≡ true
earlier p q low = grind (arith, nat_tests)

lower : (p q : Place) → p.tt ≡ q.tt → p.r < q.r → is_before p q ≡ true
lower p q same low = grind (arith, nat_tests)

not_lower : (p q : Place) → p.tt ≡ q.tt → q.r ≤ p.r → is_before p q ≡ false
not_lower p q same low = grind (arith, nat_tests)

module _ (end : Place) (k : ℕ) where
  -- on the track of the end the records before it are the first ones
  none_behind : (r : ℕ) (xs : List Record) → k ≡ end.tt → end.r ≤ r → before_end end (blocks_from k r xs) ≡ []
  none_behind r [] same low = refl
  none_behind r (x ∷ xs) same low =
      ap (λ (c : Bool). cond c (record { place = record { tt = k; r = r }; key = x.key; payload = x.data } ∷ before_end end (blocks_from k (r + 1) xs)) (before_end end (blocks_from k (r + 1) xs))) (not_lower (record { tt = k; r = r }) end same low)
      ∙ none_behind (r + 1) xs same (omega (arith, low))

  first_before : (n r : ℕ) (xs : List Record) → k ≡ end.tt → n + r ≡ end.r → before_end end (blocks_from k r xs) ≡ blocks_from k r (take n xs)
  first_before zero r xs same is = none_behind r xs same (omega (arith, is))
  first_before (suc n) r [] same is = refl
  first_before (suc n) r (x ∷ xs) same is =
      let here : Block = record { place = record { tt = k; r = r }; key = x.key; payload = x.data } in
      ap (λ (c : Bool). cond c (here ∷ before_end end (blocks_from k (r + 1) xs)) (before_end end (blocks_from k (r + 1) xs))) (lower (record { tt = k; r = r }) end same (omega (arith, is)))
      ∙ ap (λ (bs : List Block). here ∷ bs) (first_before n (r + 1) xs same (omega (arith, is)))

  on_earlier : (r : ℕ) (xs : List Record) → k < end.tt → AllByRecursion (λ (b : Block). b.place.tt < end.tt) (blocks_from k r xs)
  on_earlier r [] low = tt
  on_earlier r (x ∷ xs) low = (low, on_earlier (r + 1) xs low)

  -- the records before the end can be blocks of the directory
  first_stand : (n r : ℕ) (xs : List Record) → ((q : ℕ) → q < r + n → is_before (record { tt = k; r = q }) end ≡ true) → list_all (may_stand end k) (enumerate_from r xs) ≡ true → list_all is_directory_record (take n xs) ≡ true
  first_stand zero r xs before all = refl
  first_stand (suc n) r [] before all = refl
  first_stand (suc n) r (x ∷ xs) before all =
      let parts = and_parts (may_stand end k (r, x)) (list_all (may_stand end k) (enumerate_from (r + 1) xs)) all in
      both_true (is_directory_record x) (list_all is_directory_record (take n xs))
      (ap (λ (c : Bool). cond c (is_directory_record x) (is_block x)) (sym (before r (omega arith))) ∙ parts.0)
      (first_stand n (r + 1) xs (λ q low. before q (omega (arith, low))) parts.1)

  all_may : (r : ℕ) (xs : List Record) → k < end.tt → list_all is_directory_record xs ≡ true → list_all (may_stand end k) (enumerate_from r xs) ≡ true
  all_may r [] low all = refl
  all_may r (x ∷ xs) low all =
      let parts = and_parts (is_directory_record x) (list_all is_directory_record xs) all in
      both_true (may_stand end k (r, x)) (list_all (may_stand end k) (enumerate_from (r + 1) xs))
      (ap (λ (c : Bool). cond c (is_directory_record x) (is_block x)) (earlier (record { tt = k; r = r }) end low) ∙ parts.0)
      (all_may (r + 1) xs low parts.1)

-- ---- a track that was read up to the directory's end

module _ (g : Geometry) (tracks : List (List ℕ)) (owned lstar : List ℕ) where
  abbrev pub end : Place
  end = end_from g tracks 0 owned

  abbrev pub to : Place
  to = read_to end lstar

  -- the blocks on a relative track
  abbrev pub here : ℕ → Option (List Block)
  here k = at g tracks owned end to k

  pub past : IsPast end to
  past = read_past_end end lstar

  -- a track that the set doesn't own has no blocks
  pub none_owned : (k : ℕ) → slice_get owned k ≡ None → here k ≡ None
  unfolding part_at
  none_owned k is = ap (option_and_then (part_on g tracks end to k)) is

  module _ (k t : ℕ) (there : slice_get owned k ≡ Some t) (low : k ≤ end.tt) where
    -- the end stands after a track that has none
    end_later : end_record g tracks t ≡ None → k < end.tt
    end_later none = elim (leb_tells end.tt k) [
      | inl w ↦ let some = end_stands g tracks 0 owned k t there (omega (arith, w.1, low)) in cc
      | inr w ↦ omega (arith, w.1)
    ]

    end_here : (r : ℕ) → end_record g tracks t ≡ Some r → (end.tt ≡ k) × (end.r ≡ r)
    end_here r is =
        let at_k : end.tt ≡ k = omega (arith, end_by g tracks 0 owned k t r there is, low) in
        let some = end_stands g tracks 0 owned k t there (omega (arith, at_k)) in
        (at_k, cc)

    on_front : k < end.tt → upto_last to k ≡ None
    on_front less = elim (eqb_tells k to.tt) [
      | inl w ↦ absurd (omega (arith, w.1, less, past.track))
      | inr w ↦ ap (λ (c : Bool). cond c (Some to.r) None) w.0
    ]

    -- its blocks are those of its records
    part_is : (o : Option (List Record)) → k < end.tt → records_in g tracks None t ≡ o → here k ≡ option_and_then (part_blocks end k) o
    unfolding part_at part_on
    part_is o less read =
        ap (option_and_then (part_on g tracks end to k)) there
        ∙ ap (λ (u : Option ℕ). cond ((k == to.tt) && (to.r == 0)) None (option_and_then (part_blocks end k) (records_in g tracks u t))) (on_front less)
        ∙ ap (λ (o : Option (List Record)). cond ((k == to.tt) && (to.r == 0)) None (option_and_then (part_blocks end k) o)) read
        ∙ elim (eqb_tells k to.tt) [
          | inl w ↦ absurd (omega (arith, w.1, less, past.track))
          | inr w ↦ ap (λ (c : Bool). cond (c && (to.r == 0)) None (option_and_then (part_blocks end k) o)) w.0
        ]

    -- it has none where it breaks the grammar before an end-of-file record and before its end marker
    pub none_read : end_record g tracks t ≡ None → records_in g tracks None t ≡ None → here k ≡ None
    none_read none broken = part_is None (end_later none) broken

    module _ (records : List Record) (r : Reached) (reached : IsReached g tracks t records r) where
      -- its records before the end
      abbrev pub front : List Record
      front = take r.before records

      -- what is known of the records that its blocks are
      record IsOn (xs : List Record) : Type 0 where
        stand : before_end end (blocks_from k 1 xs) ≡ blocks_from k 1 front
        lengths : list_all is_directory_record front ≡ true

      on : (xs : List Record) → records_in g tracks (upto_last to k) t ≡ Some xs → list_all (may_stand end k) (enumerate_from 1 xs) ≡ true → IsOn xs
      on xs read stand = by r.ended refl
        where
          ended_at : r.ended ≡ true → (end.tt ≡ k) × (end.r ≡ r.before + 1)
          ended_at is = end_here (r.before + 1) (reached.end ∙ ap (λ (c : Bool). cond c (Some (r.before + 1)) None) is)

          same_first : r.ended ≡ true → take (r.before + 1) records ≡ take (r.before + 1) xs
          same_first is =
              let at_end = ended_at is in
              let held : records_in g tracks (Some (r.before + 1)) t ≡ Some (take (r.before + 1) records) =
              ap (λ (c : Bool). records_in g tracks (cond c (Some (r.before + 1)) None) t) (sym is) ∙ reached.stand ∙ ap (λ (c : Bool). Some (take (cond c (r.before + 1) r.before) records)) is in
              elim (eqb_tells k to.tt) [
                | inl w ↦
                    let up : upto_last to k ≡ Some to.r = ap (λ (c : Bool). cond c (Some to.r) None) w.0 in
                    let some = first_of_some g tracks t xs (r.before + 1) to.r (omega (arith, past.place (omega (arith, at_end.0, w.1)), at_end.1)) (ap (λ (u : Option ℕ). records_in g tracks u t) (sym up) ∙ read) in
                    cc
                | inr w ↦
                    let up : upto_last to k ≡ None = ap (λ (c : Bool). cond c (Some to.r) None) w.0 in
                    let some = first_of_all g tracks t xs (r.before + 1) (ap (λ (u : Option ℕ). records_in g tracks u t) (sym up) ∙ read) in
                    first_are (r.before + 1) xs (take (r.before + 1) records) (sym some ∙ held)
              ]

          by : (c : Bool) → r.ended ≡ c → IsOn xs
          by true is =
              let at_end = ended_at is in
              let same : take r.before xs ≡ front = sym (take_take r.before (r.before + 1) xs (omega arith)) ∙ ap (take r.before) (sym (same_first is)) ∙ take_take r.before (r.before + 1) records (omega arith) in
              record {
                stand = first_before end k r.before 1 xs (sym at_end.0) (omega (arith, at_end.1)) ∙ ap (blocks_from k 1) same;
                lengths = ap (list_all is_directory_record) (sym same) ∙ first_stand end k r.before 1 xs (λ q low. lower (record { tt = k; r = q }) end (sym at_end.0) (omega (arith, low, at_end.1))) stand;
              }
          by false is =
              let less : k < end.tt = end_later (reached.end ∙ ap (λ (c : Bool). cond c (Some (r.before + 1)) None) is) in
              let held : records_in g tracks None t ≡ Some front =
              ap (λ (c : Bool). records_in g tracks (cond c (Some (r.before + 1)) None) t) (sym is) ∙ reached.stand ∙ ap (λ (c : Bool). Some (take (cond c (r.before + 1) r.before) records)) is in
              let all : records_in g tracks None t ≡ Some xs = ap (λ (u : Option ℕ). records_in g tracks u t) (sym (on_front less)) ∙ read in
              let same : xs ≡ front = cc in
              record {
                stand = all_stand end (blocks_from k 1 xs) (on_earlier end k 1 xs less) ∙ ap (blocks_from k 1) same;
                lengths = ap (list_all is_directory_record) (sym (take_take r.before r.before records (omega arith)) ∙ ap (take r.before) (sym same)) ∙ first_stand end k r.before 1 xs (λ q low. earlier (record { tt = k; r = q }) end less) stand;
              }

      known : (bs : List Block) → here k ≡ Some bs → (xs : List Record) × (bs ≡ blocks_from k 1 xs) × IsOn xs
      known bs is =
          let read = read_at g tracks owned end to k (ap (λ o. is_none o) is) in
          let same : read.track ≡ t = cc in
          let blocks : bs ≡ blocks_from k 1 read.xs = cc in
          (read.xs, blocks, on read.xs (ap (records_in g tracks (upto_last to k)) (sym same) ∙ read.records) read.stand)

      -- a track with a record before the end that can't be a block has none
      pub none_stand : list_all is_directory_record front ≡ false → here k ≡ None
      none_stand none = by (here k) refl
        where
          by : (o : Option (List Block)) → here k ≡ o → o ≡ None
          by None is = refl
          by (Some bs) is = let on = known bs is in let all = on.2.lengths in cc

      -- its blocks before the end are these records
      pub before_here : (bs : List Block) → here k ≡ Some bs → before_end end bs ≡ blocks_from k 1 front
      before_here bs is = let on = known bs is in ap (before_end end) on.1 ∙ on.2.stand

      -- and all its blocks are, where the end stands after it
      pub whole_here : r.ended ≡ false → list_all is_directory_record front ≡ true → (k < end.tt) × (here k ≡ Some (blocks_from k 1 front))
      whole_here is all =
          let less : k < end.tt = end_later (reached.end ∙ ap (λ (c : Bool). cond c (Some (r.before + 1)) None) is) in
          let held : records_in g tracks None t ≡ Some front =
          ap (λ (c : Bool). records_in g tracks (cond c (Some (r.before + 1)) None) t) (sym is) ∙ reached.stand ∙ ap (λ (c : Bool). Some (take (cond c (r.before + 1) r.before) records)) is in
          (less, part_is (Some front) less held ∙ ap (λ (c : Bool). cond c (Some (blocks_from k 1 front)) None) (all_may end k 1 front less all))

      -- the end stands on it
      pub ends_here : r.ended ≡ true → end.tt ≡ k
      ends_here is = let at_end = end_here (r.before + 1) (reached.end ∙ ap (λ (c : Bool). cond c (Some (r.before + 1)) None) is) in at_end.0

      -- its place is known where it was met, and else it stands after the track
      pub seeks_on : (o : Option Place) → o ≡ end_on k r → SeeksOn end k o
      seeks_on o is = by r.ended refl o is
        where
          by : (c : Bool) → r.ended ≡ c → (o : Option Place) → o ≡ cond c (Some (record { tt = k; r = r.before + 1 })) None → SeeksOn end k o
          by true ended None same = cc
          by true ended (Some p) same =
              let at_end = end_here (r.before + 1) (reached.end ∙ ap (λ (c : Bool). cond c (Some (r.before + 1)) None) ended) in
              let P : ℕ → ℕ → Place = λ a b. record { tt = a; r = b } in
              let met : p ≡ P k (r.before + 1) = cc in
              met ∙ sym (ap₂ P at_end.0 at_end.1)
          by false ended None same = end_later (reached.end ∙ ap (λ (c : Bool). cond c (Some (r.before + 1)) None) ended)
          by false ended (Some p) same = cc
