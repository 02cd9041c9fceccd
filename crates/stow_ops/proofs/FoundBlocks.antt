-- Where a block of a directory stands: on a track of the data set, which is read up to it.
use Rattle.std.proofs.Common.{◌≡◌, ◌+◌, ◌-◌, ◌≤◌, ◌<◌, ℕ, zero, suc, Bool, true, false, cond, List, [], ◌∷◌, ◌++◌, length, map, take, Option, Some, None, refl, sym, ap, ◌∙◌, subst, arith, ⊎_elim}
use Rattle.std.specs.Prelude.{◌==◌, is_none, slice_get, unwrap_or}
use Rattle.std.specs.List.{AllByRecursion, enumerate_from, flat_map, list_all, range_with_len}
use Rattle.std.proofs.lemmas.Bool.{and_parts}
use Rattle.std.proofs.lemmas.Bool.Decides.{eqb_tells}
use Rattle.ckd_image.specs.declared.header.Geometry.{Geometry}
use Rattle.ckd_image.specs.Track.{Record}
use Rattle.vol_model.specs.declared.contents.Block.{Block}
use Rattle.vol_model.specs.declared.contents.Place.{Place}
use Rattle.vol_model.specs.Places.{is_before}
use Rattle.pack_spec.specs.Blocks.{blocks_from, is_block, records_in, upto_last}
use Rattle.pack_spec.specs.Directories.{before_end, is_directory_record, may_stand, part_at, part_tracks}
use Rattle.pack_spec.proofs.FrontRecords.{count_in, first_of_all, first_of_some, first_taken}
use Rattle.pack_spec.proofs.PartBodies.{IsRead, read_at}
use Rattle.track_records.specs.Updates.{HasLengths}

-- a place is that of a directory block on a track of a data set
pub record IsFound (g : Geometry) (a : List (List ℕ)) (owned : List ℕ) (place : Place) : Type 0 where
  pub track : ℕ
  pub there : slice_get owned place.tt ≡ Some track
  pub first : 1 ≤ place.r
  pub held : List Record
  pub read : records_in g a (Some place.r) track ≡ Some held
  pub lengths : HasLengths held (place.r - 1) 8 256

within : {X : Type 0} (xs : List X) (n : ℕ) (x : X) → slice_get xs n ≡ Some x → n < length xs
within [] n x is = cc
within (y ∷ xs) zero x is = omega arith
within (y ∷ xs) (suc n) x is = let rest = within xs n x is in omega (arith, rest)

dir_lengths : (x : Record) → is_directory_record x ≡ true → (8 ≡ length x.key) × (256 ≡ length x.data)
dir_lengths x is =
    let parts = and_parts (length x.key == 8) (length x.data == 256) is in
    (same (length x.key) 8 parts.0, same (length x.data) 256 parts.1)
  where
    same : (m n : ℕ) → (m == n) ≡ true → n ≡ m
    same m n is = ⊎_elim (λ w. sym w.1) (λ w. absurd (no (sym is ∙ w.0))) (eqb_tells m n)
      where
        no : true ≡ false → ⊥
        no e = cc

taken_lengths : (xs : List Record) (n : ℕ) (x : Record) → slice_get xs n ≡ Some x → is_directory_record x ≡ true → HasLengths (take (suc n) xs) n 8 256
taken_lengths [] n x is dir = cc
taken_lengths (y ∷ xs) zero x is dir = let same : y ≡ x = cc in dir_lengths y (ap is_directory_record same ∙ dir)
taken_lengths (y ∷ xs) (suc n) x is dir = taken_lengths xs n x is dir

module _ (g : Geometry) (a : List (List ℕ)) (owned : List ℕ) (end to : Place) where
  abbrev WillBeFound : Block → Type 0
  WillBeFound b = is_before b.place end ≡ true → IsFound g a owned b.place

  module _ (k : ℕ) (r : IsRead g a owned end to k) where
    front_read : (n : ℕ) → suc n ≤ length r.xs → records_in g a (Some (suc n)) r.track ≡ Some (take (suc n) r.xs)
    front_read n low = by (upto_last to k) r.records
      where
        by : (u : Option ℕ) → records_in g a u r.track ≡ Some r.xs → records_in g a (Some (suc n)) r.track ≡ Some (take (suc n) r.xs)
        by None is = first_of_all g a r.track r.xs (suc n) is ∙ first_taken (suc n) r.xs low
        by (Some m) is = first_of_some g a r.track r.xs (suc n) m (omega (arith, low, count_in g a r.track r.xs m is)) is

    found_from : (n : ℕ) (ys : List Record) → ((j : ℕ) (y : Record) → slice_get ys j ≡ Some y → slice_get r.xs (j + n) ≡ Some y) → list_all (may_stand end k) (enumerate_from (n + 1) ys) ≡ true → AllByRecursion WillBeFound (blocks_from k (n + 1) ys)
    found_from n [] there stand = tt
    found_from n (y ∷ ys) there stand =
        let parts = and_parts (may_stand end k (n + 1, y)) (list_all (may_stand end k) (enumerate_from (n + 1 + 1) ys)) stand in
        let at : slice_get r.xs n ≡ Some y = ap (slice_get r.xs) (omega arith) ∙ there zero y refl in
        let low = within r.xs n y at in
        let one : suc n ≡ n + 1 = omega arith in (
          λ before.
              let dir : is_directory_record y ≡ true = sym (ap (λ (b : Bool). cond b (is_directory_record y) (is_block y)) before) ∙ parts.0 in
              record {
                track = r.track;
                there = r.there;
                first = omega arith;
                held = take (suc n) r.xs;
                read = ap (λ (m : ℕ). records_in g a (Some m) r.track) (sym one) ∙ front_read n (omega (arith, low));
                lengths = subst (λ (m : ℕ). HasLengths (take (suc n) r.xs) m 8 256) (omega arith) (taken_lengths r.xs n y at dir);
              },
          found_from (n + 1) ys (λ j z is. ap (slice_get r.xs) (omega arith) ∙ there (suc j) z is) parts.1,
        )

  found_on : (k : ℕ) (o : Option (List Block)) → part_at g a owned end to k ≡ o → AllByRecursion WillBeFound (unwrap_or o [])
  found_on k None is = tt
  found_on k (Some bs) is =
      let read = read_at g a owned end to k (ap (λ (o : Option (List Block)). is_none o) is) in
      subst (AllByRecursion WillBeFound) (same_some (blocks_from k 1 read.xs) bs (sym read.blocks ∙ is))
      (found_from k read zero read.xs (λ j y at. ap (slice_get read.xs) (omega arith) ∙ at) read.stand)
    where
      same_some : (x y : List Block) → Some x ≡ Some y → x ≡ y
      same_some x y e = cc

  all_both : (xs ys : List Block) → AllByRecursion WillBeFound xs → AllByRecursion WillBeFound ys → AllByRecursion WillBeFound (xs ++ ys)
  all_both [] ys first second = second
  all_both (x ∷ xs) ys first second = (first.0, all_both xs ys first.1 second)

  found_in : (n low : ℕ) → AllByRecursion WillBeFound (flat_map (λ o. unwrap_or o []) (map (part_at g a owned end to) (range_with_len low n)))
  found_in zero low = tt
  found_in (suc n) low = all_both (unwrap_or (part_at g a owned end to low) []) (flat_map (λ o. unwrap_or o []) (map (part_at g a owned end to) (range_with_len (low + 1) n))) (found_on low (part_at g a owned end to low) refl) (found_in n (low + 1))

  kept : (bs : List Block) → AllByRecursion WillBeFound bs → (k : ℕ) (b : Block) → slice_get (before_end end bs) k ≡ Some b → IsFound g a owned b.place × (is_before b.place end ≡ true)
  kept [] all k b is = cc
  kept (c ∷ bs) all k b is = by (is_before c.place end) refl k is (λ j there. kept bs all.1 j b there)
    where
      by : (t : Bool) → is_before c.place end ≡ t → (k : ℕ) → slice_get (cond t (c ∷ before_end end bs) (before_end end bs)) k ≡ Some b → ((j : ℕ) → slice_get (before_end end bs) j ≡ Some b → IsFound g a owned b.place × (is_before b.place end ≡ true)) → IsFound g a owned b.place × (is_before b.place end ≡ true)
      by true test zero there rest = let same : c ≡ b = cc in subst (λ (x : Block). IsFound g a owned x.place × (is_before x.place end ≡ true)) same (all.0 test, test)
      by true test (suc k) there rest = rest k there
      by false test k there rest = rest k there

  -- Each block of the directory is found so.
  pub block_found : (k : ℕ) (b : Block) → slice_get (before_end end (flat_map (λ o. unwrap_or o []) (part_tracks g a owned end to))) k ≡ Some b → IsFound g a owned b.place × (is_before b.place end ≡ true)
  unfolding part_tracks
  block_found k b is = kept (flat_map (λ o. unwrap_or o []) (map (part_at g a owned end to) (range_with_len 0 (to.tt + 1)))) (found_in (to.tt + 1) 0) k b is
