-- What is read of the first records of a track, where that is read to its end marker or up to a later record.
use Rattle.std.proofs.Common.{◌≡◌, ◌≤◌, ◌/◌, ◌%◌, ℕ, zero, suc, Bool, true, false, cond, List, [], ◌∷◌, length, take, drop, Option, Some, None, inl, inr, refl, sym, ap, ◌∙◌, arith, length-take}
use Rattle.std.specs.Prelude.{nat_le, slice_index_or}
use Rattle.std.specs.Option.{option_map}
use Rattle.std.proofs.lemmas.Bool.{and_parts}
use Rattle.std.proofs.lemmas.Bool.Decides.{leb_tells}
use Rattle.std.proofs.lemmas.Slice.Eq.{bytes_eq-Decides}
use Rattle.ckd_image.specs.declared.header.Geometry.{Geometry}
use Rattle.ckd_image.specs.Track.{Record, end_marker}
use Rattle.ckd_image.specs.Reading.{front_record, is_at_end, is_front, is_record_at, record_length, records_of, records_to_end, records_up_to}
use Rattle.pack_spec.specs.Label.{heads_of}
use Rattle.pack_spec.specs.Blocks.{records_in}
use Rattle.pack_spec.proofs.SlotCounts.{taken}

-- so many of these records, where there are so many
abbrev pub first_records : ℕ → List Record → Option (List Record)
first_records zero xs = Some []
first_records (suc n) [] = None
first_records (suc n) (x ∷ xs) = option_map (λ (ys : List Record). x ∷ ys) (first_records n xs)

pub first_taken : (n : ℕ) (xs : List Record) → n ≤ length xs → first_records n xs ≡ Some (take n xs)
first_taken zero xs low = refl
first_taken (suc n) [] low = absurd (omega (arith, low))
first_taken (suc n) (x ∷ xs) low = ap (option_map (λ (ys : List Record). x ∷ ys)) (first_taken n xs (omega (arith, low)))

-- eight bytes stand where an end marker or a record does
long_end : (bytes : List ℕ) → is_at_end bytes ≡ true → nat_le 8 (length bytes) ≡ true
long_end bytes ends = elim (leb_tells 8 (length bytes)) [
  | inl w ↦ w.0
  | inr w ↦ absurd (omega (arith, w.1, ap length ((bytes_eq-Decides (take 8 bytes) end_marker).0 ends), length-take 8 bytes))
]

-- of a track that is read to its end marker
front_to_end : (n left r : ℕ) (bytes : List ℕ) (xs : List Record) → records_to_end left r bytes ≡ Some xs → records_up_to n r bytes ≡ first_records n xs
unfolding records_to_end records_up_to
front_to_end zero left r bytes xs is = ap (λ (b : Bool). cond b (Some []) None) (long left is)
  where
    by_end : (e : Bool) → is_at_end bytes ≡ e → cond e (Some []) None ≡ Some xs → nat_le 8 (length bytes) ≡ true
    by_end true ends h = long_end bytes ends
    by_end false ends h = cc

    by : (e s : Bool) (o : Option (List Record)) → is_at_end bytes ≡ e → is_record_at r bytes ≡ s → cond e (Some []) (cond s o None) ≡ Some xs → nat_le 8 (length bytes) ≡ true
    by true s o ends stands h = long_end bytes ends
    by false true o ends stands h = (and_parts (nat_le 8 (length bytes)) _ (and_parts _ (nat_le (record_length bytes) (length bytes)) stands).0).0
    by false false o ends stands h = cc

    long : (left : ℕ) → records_to_end left r bytes ≡ Some xs → nat_le 8 (length bytes) ≡ true
    long zero h = by_end (is_at_end bytes) refl h
    long (suc left) h = by (is_at_end bytes) (is_record_at r bytes) _ refl refl h
front_to_end (suc n) zero r bytes xs is = by (is_at_end bytes) is
  where
    by : (e : Bool) → cond e (Some []) None ≡ Some xs → cond e None (cond (is_record_at r bytes) (option_map (λ ys. front_record bytes ∷ ys) (records_up_to n (suc r) (drop (record_length bytes) bytes))) None) ≡ first_records (suc n) xs
    by true h = let none : [] ≡ xs = cc in ap (first_records (suc n)) none
    by false h = cc
front_to_end (suc n) (suc left) r bytes xs is =
    by (is_at_end bytes) (is_record_at r bytes) (records_to_end left (suc r) (drop (record_length bytes) bytes)) (λ ys e. front_to_end n left (suc r) (drop (record_length bytes) bytes) ys e) is
  where
    by : (e s : Bool) (o : Option (List Record)) → ((ys : List Record) → o ≡ Some ys → records_up_to n (suc r) (drop (record_length bytes) bytes) ≡ first_records n ys) → cond e (Some []) (cond s (option_map (λ ys. front_record bytes ∷ ys) o) None) ≡ Some xs
        → cond e None (cond s (option_map (λ ys. front_record bytes ∷ ys) (records_up_to n (suc r) (drop (record_length bytes) bytes))) None) ≡ first_records (suc n) xs
    by true s o later h = let none : [] ≡ xs = cc in ap (first_records (suc n)) none
    by false true (Some ys) later h =
        let same : front_record bytes ∷ ys ≡ xs = cc in
        ap (option_map (λ (zs : List Record). front_record bytes ∷ zs)) (later ys refl) ∙ ap (first_records (suc n)) same
    by false true None later h = cc
    by false false o later h = cc

-- so many records are read up to one of that number
pub count_up : (n r : ℕ) (bytes : List ℕ) (xs : List Record) → records_up_to n r bytes ≡ Some xs → length xs ≡ n
unfolding records_up_to
count_up zero r bytes xs is = by (nat_le 8 (length bytes)) is
  where
    by : (b : Bool) → cond b (Some []) None ≡ Some xs → length xs ≡ 0
    by true e = let none : [] ≡ xs = cc in ap length (sym none)
    by false e = cc
count_up (suc n) r bytes xs is = by (is_at_end bytes) (is_record_at r bytes) (records_up_to n (suc r) (drop (record_length bytes) bytes)) (λ ys e. count_up n (suc r) (drop (record_length bytes) bytes) ys e) is
  where
    by : (b c : Bool) (o : Option (List Record)) → ((ys : List Record) → o ≡ Some ys → length ys ≡ n) → cond b None (cond c (option_map (λ ys. front_record bytes ∷ ys) o) None) ≡ Some xs → length xs ≡ suc n
    by true c o h e = cc
    by false true (Some ys) h e = let same : front_record bytes ∷ ys ≡ xs = cc in ap length (sym same) ∙ ap suc (h ys refl)
    by false true None h e = cc
    by false false o h e = cc

-- of a track that is read up to a later record
front_up_to : (n m r : ℕ) (bytes : List ℕ) (xs : List Record) → n ≤ m → records_up_to m r bytes ≡ Some xs → records_up_to n r bytes ≡ Some (take n xs)
unfolding records_up_to
front_up_to zero m r bytes xs low is = ap (λ (b : Bool). cond b (Some []) None) (long m is)
  where
    by_long : (b : Bool) → cond b (Some []) None ≡ Some xs → b ≡ true
    by_long true h = refl
    by_long false h = cc

    by : (e s : Bool) (o : Option (List Record)) → is_record_at r bytes ≡ s → cond e None (cond s o None) ≡ Some xs → nat_le 8 (length bytes) ≡ true
    by true s o stands h = cc
    by false true o stands h = (and_parts (nat_le 8 (length bytes)) _ (and_parts _ (nat_le (record_length bytes) (length bytes)) stands).0).0
    by false false o stands h = cc

    long : (m : ℕ) → records_up_to m r bytes ≡ Some xs → nat_le 8 (length bytes) ≡ true
    long zero h = by_long (nat_le 8 (length bytes)) h
    long (suc m) h = by (is_at_end bytes) (is_record_at r bytes) _ refl h
front_up_to (suc n) zero r bytes xs low is = absurd (omega (arith, low))
front_up_to (suc n) (suc m) r bytes xs low is =
    by (is_at_end bytes) (is_record_at r bytes) (records_up_to m (suc r) (drop (record_length bytes) bytes)) (λ ys e. front_up_to n m (suc r) (drop (record_length bytes) bytes) ys (omega (arith, low)) e) is
  where
    by : (e s : Bool) (o : Option (List Record)) → ((ys : List Record) → o ≡ Some ys → records_up_to n (suc r) (drop (record_length bytes) bytes) ≡ Some (take n ys)) → cond e None (cond s (option_map (λ ys. front_record bytes ∷ ys) o) None) ≡ Some xs
        → cond e None (cond s (option_map (λ ys. front_record bytes ∷ ys) (records_up_to n (suc r) (drop (record_length bytes) bytes))) None) ≡ Some (take (suc n) xs)
    by true s o later h = cc
    by false true (Some ys) later h =
        let same : front_record bytes ∷ ys ≡ xs = cc in
        ap (option_map (λ (zs : List Record). front_record bytes ∷ zs)) (later ys refl) ∙ ap (λ (zs : List Record). Some (take (suc n) zs)) same
    by false true None later h = cc
    by false false o later h = cc

module _ (g : Geometry) (tracks : List (List ℕ)) (t : ℕ) (xs : List Record) where
  -- the first records of a track that is read to its end marker
  pub first_of_all : (n : ℕ) → records_in g tracks None t ≡ Some xs → records_in g tracks (Some n) t ≡ first_records n xs
  unfolding records_in records_of
  first_of_all n is = by (is_front (t / heads_of g) (t % heads_of g) (slice_index_or tracks t [])) is
    where
      by : (b : Bool) → cond b (records_to_end 255 1 (drop 21 (slice_index_or tracks t []))) None ≡ Some xs → cond b (records_up_to n 1 (drop 21 (slice_index_or tracks t []))) None ≡ first_records n xs
      by true h = front_to_end n 255 1 _ xs h
      by false h = cc

  -- of one that is read up to a record
  pub first_of_some : (n m : ℕ) → n ≤ m → records_in g tracks (Some m) t ≡ Some xs → records_in g tracks (Some n) t ≡ Some (take n xs)
  unfolding records_in records_of
  first_of_some n m low is = by (is_front (t / heads_of g) (t % heads_of g) (slice_index_or tracks t [])) is
    where
      by : (b : Bool) → cond b (records_up_to m 1 (drop 21 (slice_index_or tracks t []))) None ≡ Some xs → cond b (records_up_to n 1 (drop 21 (slice_index_or tracks t []))) None ≡ Some (take n xs)
      by true h = front_up_to n m 1 _ xs low h
      by false h = cc

  pub count_in : (n : ℕ) → records_in g tracks (Some n) t ≡ Some xs → length xs ≡ n
  unfolding records_in records_of
  count_in n is = count_up n 1 (drop 21 (slice_index_or tracks t [])) xs (taken (is_front (t / heads_of g) (t % heads_of g) (slice_index_or tracks t [])) _ xs is)
