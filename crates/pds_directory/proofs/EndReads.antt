-- Where a track's first end-of-file record stands, by the records that are read of the track.
use Rattle.std.proofs.Common.{◌≡◌, ◌+◌, ◌-◌, ◌≤◌, ◌<◌, ℕ, zero, suc, Bool, true, false, cond, ◌||◌, inl, inr, List, [], ◌∷◌, ◌++◌, length, take, drop, Option, Some, None, refl, sym, ap, ◌∙◌, arith, length-take, length-drop}
use Rattle.std.specs.Prelude.{slice_get}
use Rattle.std.specs.List.{find, list_any, range_with_len}
use Rattle.std.specs.Option.{option_map, option_map_or}
use Rattle.std.proofs.lemmas.Bool.{or_parts}
use Rattle.std.proofs.lemmas.Bool.Decides.{leb_tells}
use Rattle.std.proofs.lemmas.List.Folds.{list_any-append}
use Rattle.std.proofs.lemmas.Option.{slice_get_within}
use Rattle.ckd_image.specs.declared.header.Geometry.{Geometry}
use Rattle.ckd_image.specs.Track.{Record}
use Rattle.pack_spec.specs.Blocks.{records_in}
use Rattle.pack_spec.specs.Directories.{end_record, has_end_by, is_end_record, record_numbers}
use Rattle.pack_spec.proofs.EndRecords.{end_read, first_read, no_end_read}
use Rattle.pack_spec.proofs.FrontRecords.{count_in, first_of_some}
use Rattle.pds_directory.specs.declared.ends.Reached.{Reached}
use Rattle.pds_directory.specs.Reading.{IsFirstEnd, IsHeld, IsLastEnd, IsReached, reach_of}

find_none : (p : ℕ → Bool) (n low : ℕ) → ((q : ℕ) → low ≤ q → q < low + n → p q ≡ false) → find p (range_with_len low n) ≡ None
find_none p zero low none = refl
find_none p (suc n) low none = ap (λ (b : Bool). cond b (Some low) (find p (range_with_len (low + 1) n))) (none low (omega arith) (omega arith)) ∙ find_none p n (low + 1) (λ q l u. none q (omega (arith, l)) (omega (arith, u)))

take_all : (xs : List Record) → take (length xs) xs ≡ xs
take_all [] = refl
take_all (x ∷ xs) = ap (λ (ys : List Record). x ∷ ys) (take_all xs)

-- records by one of them
parted : (n : ℕ) (xs : List Record) (x : Record) → slice_get xs n ≡ Some x → xs ≡ take n xs ++ x ∷ drop (suc n) xs
parted n [] x is = cc
parted zero (y ∷ xs) x is = let same : y ≡ x = cc in ap (λ (z : Record). z ∷ xs) same
parted (suc n) (y ∷ xs) x is = ap (λ (zs : List Record). y ∷ zs) (parted n xs x is)

found : (n : ℕ) (xs : List Record) (b : Bool) → option_map is_end_record (slice_get xs n) ≡ Some b → (x : Record) × (slice_get xs n ≡ Some x) × (is_end_record x ≡ b)
found n xs b is = by (slice_get xs n) refl is
  where
    by : (o : Option Record) → slice_get xs n ≡ o → option_map is_end_record o ≡ Some b → (x : Record) × (slice_get xs n ≡ Some x) × (is_end_record x ≡ b)
    by None there e = cc
    by (Some x) there e = (x, there, cc)

none_left : (xs : List Record) → length xs ≡ 0 → xs ≡ []
none_left [] is = refl
none_left (x ∷ xs) is = absurd (omega (arith, is))

none_more : (n : ℕ) (xs : List Record) → length xs ≡ n + 1 → list_any is_end_record (take n xs) ≡ false → option_map is_end_record (slice_get xs n) ≡ Some false → list_any is_end_record xs ≡ false
none_more n xs count none is =
    let last = found n xs false is in
    let rest : drop (suc n) xs ≡ [] = none_left (drop (suc n) xs) (omega (arith, count, length-drop (suc n) xs)) in
    ap (list_any is_end_record) (parted n xs last.0 last.1) ∙ list_any-append is_end_record (take n xs) (last.0 ∷ drop (suc n) xs)
    ∙ ap (λ (b : Bool). b || (is_end_record last.0 || list_any is_end_record (drop (suc n) xs))) none
    ∙ ap (λ (b : Bool). b || list_any is_end_record (drop (suc n) xs)) last.2 ∙ ap (list_any is_end_record) rest

-- how far they go is held by these
pub held_first : (xs : List Record) (r : Reached) → IsFirstEnd xs r → length xs ≤ 255 → IsHeld xs r
held_first xs r first few = record {
  before = first.within;
  ended = λ is. let last = found r.before xs true (first.end is) in slice_get_within xs r.before last.0 last.1;
  few = few;
}

pub held_last : (xs : List Record) (r : Reached) → IsLastEnd xs (Some r) → length xs ≤ 255 → IsHeld xs r
held_last xs r last few = record { before = omega (arith, last.1); ended = λ _. omega (arith, last.1); few = few }

module _ (g : Geometry) (tracks : List (List ℕ)) (t : ℕ) where
  -- a track is read as far as its first end-of-file record
  at_end : (u : Option ℕ) (xs : List Record) (r : Reached) → records_in g tracks u t ≡ Some xs → r.ended ≡ true → r.before < 255 → list_any is_end_record (take r.before xs) ≡ false → option_map is_end_record (slice_get xs r.before) ≡ Some true → IsReached g tracks t xs r
  at_end u xs r read is few none one =
      let last = found r.before xs true one in
      let low : r.before < length xs = slice_get_within xs r.before last.0 last.1 in
      let count : length (take r.before xs) ≡ r.before = omega (arith, low, length-take r.before xs) in
      let next : suc (length (take r.before xs)) ≡ r.before + 1 = omega (arith, count) in
      let whole : records_in g tracks u t ≡ Some (take r.before xs ++ last.0 ∷ drop (suc r.before) xs) = read ∙ ap (λ (ys : List Record). Some ys) (parted r.before xs last.0 last.1) in
      let reach : reach_of r ≡ Some (r.before + 1) = ap (λ (c : Bool). cond c (Some (r.before + 1)) None) is in
      record {
        end = end_read g tracks t u (take r.before xs) last.0 (drop (suc r.before) xs) whole none last.2 (omega (arith, count, few)) ∙ ap (λ (n : ℕ). Some n) next ∙ sym reach;
        stand = ap (λ (o : Option ℕ). records_in g tracks o t) reach ∙ first_read g tracks t u xs (r.before + 1) read (omega (arith, low)) ∙ ap (λ (c : Bool). Some (take (cond c (r.before + 1) r.before) xs)) (sym is);
        all = λ not. let clash : true ≡ false = sym is ∙ not in cc;
      }

  -- one that is read to its end marker
  pub reached_whole : (xs : List Record) (r : Reached) → IsFirstEnd xs r → length xs ≤ 255 → records_in g tracks None t ≡ Some xs → IsReached g tracks t xs r
  reached_whole xs r first few read = by r.ended refl
    where
      by : (c : Bool) → r.ended ≡ c → IsReached g tracks t xs r
      by true is =
          let last = found r.before xs true (first.end is) in
          at_end None xs r read is (omega (arith, few, slice_get_within xs r.before last.0 last.1)) first.none (first.end is)
      by false is =
          let reach : reach_of r ≡ None = ap (λ (c : Bool). cond c (Some (r.before + 1)) None) is in
          let all : take r.before xs ≡ xs = ap (λ (n : ℕ). take n xs) (first.all is) ∙ take_all xs in
          record {
            end = no_end_read g tracks t xs read (ap (list_any is_end_record) (sym all) ∙ first.none) ∙ sym reach;
            stand = ap (λ (o : Option ℕ). records_in g tracks o t) reach ∙ read ∙ ap (λ (ys : List Record). Some ys) (sym all) ∙ ap (λ (c : Bool). Some (take (cond c (r.before + 1) r.before) xs)) (sym is);
            all = first.all;
          }

  -- no end-of-file record is read up to a record of these first numbers
  abbrev pub NoEndBy : ℕ → Type 0
  NoEndBy n = (q : ℕ) → q ≤ n → has_end_by g tracks t q ≡ false

  by_records : (q : ℕ) (o : Option (List Record)) → records_in g tracks (Some q) t ≡ o → has_end_by g tracks t q ≡ option_map_or (list_any is_end_record) o false
  by_records q o is = ap (λ (o : Option (List Record)). option_map_or (list_any is_end_record) o false) is

  pub no_end_0 : NoEndBy 0
  no_end_0 q low = by (records_in g tracks (Some q) t) refl
    where
      by : (o : Option (List Record)) → records_in g tracks (Some q) t ≡ o → has_end_by g tracks t q ≡ false
      by None is = by_records q None is
      by (Some xs) is = by_records q (Some xs) is ∙ ap (list_any is_end_record) (none_left xs (omega (arith, low, count_in g tracks t xs q is)))

  module _ (n : ℕ) (no_end : NoEndBy n) where
    front_none : (xs : List Record) → records_in g tracks (Some (n + 1)) t ≡ Some xs → list_any is_end_record (take n xs) ≡ false
    front_none xs read = sym (by_records n (Some (take n xs)) (first_of_some g tracks t xs n (n + 1) (omega arith) read)) ∙ no_end n (omega arith)

    pub no_end_more : (xs : List Record) → records_in g tracks (Some (n + 1)) t ≡ Some xs → IsLastEnd xs None → NoEndBy (n + 1)
    no_end_more xs read last q low = elim (leb_tells q n) [
      | inl w ↦ no_end q w.1
      | inr w ↦
          let same : q ≡ n + 1 = omega (arith, w.1, low) in
          ap (has_end_by g tracks t) same ∙ by_records (n + 1) (Some xs) read ∙ by last
    ]
      where
        count : length xs ≡ n + 1
        count = count_in g tracks t xs (n + 1) read

        by : IsLastEnd xs None → list_any is_end_record xs ≡ false
        by (inl none) = ap (list_any is_end_record) none
        by (inr is) = let at : length xs - 1 ≡ n = omega (arith, count) in none_more n xs count (front_none xs read) (ap (λ (k : ℕ). option_map is_end_record (slice_get xs k)) (sym at) ∙ is)

    -- the record of the next number is the first
    pub reached_next : (xs : List Record) (r : Reached) → records_in g tracks (Some (n + 1)) t ≡ Some xs → IsLastEnd xs (Some r) → n < 255 → IsReached g tracks t xs r
    reached_next xs r read last few =
        let at : r.before ≡ n = omega (arith, count_in g tracks t xs (n + 1) read, last.1) in
        at_end (Some (n + 1)) xs r read last.0 (omega (arith, at, few)) (ap (λ (k : ℕ). list_any is_end_record (take k xs)) at ∙ front_none xs read) last.2

    -- the track breaks the grammar before the next number
    pub no_end_broken : records_in g tracks (Some (n + 1)) t ≡ None → end_record g tracks t ≡ None
    unfolding end_record record_numbers
    no_end_broken none = find_none (has_end_by g tracks t) 255 1 (λ q l u. each q)
      where
        clash : (q : ℕ) (xs : List Record) → n + 1 ≤ q → records_in g tracks (Some q) t ≡ Some xs → ⊥
        clash q xs low is = let some = first_of_some g tracks t xs (n + 1) q low is in cc

        later : (q : ℕ) (o : Option (List Record)) → n + 1 ≤ q → records_in g tracks (Some q) t ≡ o → has_end_by g tracks t q ≡ false
        later q None low is = by_records q None is
        later q (Some xs) low is = absurd (clash q xs low is)

        each : (q : ℕ) → has_end_by g tracks t q ≡ false
        each q = elim (leb_tells q n) [
          | inl w ↦ no_end q w.1
          | inr w ↦ later q (records_in g tracks (Some q) t) (omega (arith, w.1)) refl
        ]

  pub no_end_all : (n : ℕ) → 255 ≤ n → NoEndBy n → end_record g tracks t ≡ None
  unfolding end_record record_numbers
  no_end_all n all no_end = find_none (has_end_by g tracks t) 255 1 (λ q l u. no_end q (omega (arith, all, u)))

-- ---- the records of a buffer, one more

pub no_end_so_far : (n : ℕ) (xs : List Record) → list_any is_end_record (take n xs) ≡ false → option_map is_end_record (slice_get xs n) ≡ Some false → list_any is_end_record (take (n + 1) xs) ≡ false
no_end_so_far n [] none is = cc
no_end_so_far zero (x ∷ xs) none is =
    let here : is_end_record x ≡ false = cc in
    let one : zero + 1 ≡ suc zero = omega arith in
    ap (λ (k : ℕ). list_any is_end_record (take k (x ∷ xs))) one ∙ ap (λ (b : Bool). b || false) here
no_end_so_far (suc n) (x ∷ xs) none is =
    let parts = or_parts (is_end_record x) (list_any is_end_record (take n xs)) none in
    let next : suc n + 1 ≡ suc (n + 1) = omega arith in
    ap (λ (k : ℕ). list_any is_end_record (take k (x ∷ xs))) next ∙ ap (λ (b : Bool). b || list_any is_end_record (take (n + 1) xs)) parts.0 ∙ no_end_so_far n xs parts.1 is
