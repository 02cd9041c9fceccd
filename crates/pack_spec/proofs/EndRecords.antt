-- Where the first end-of-file record of a track stands, by the records that are read of it.
use Rattle.std.proofs.Common.{◌≡◌, ◌⊎◌, ◌+◌, ◌≤◌, ◌<◌, ℕ, zero, suc, Bool, true, false, cond, eqb, ◌||◌, List, [], ◌∷◌, ◌++◌, length, take, Option, Some, None, inl, inr, refl, ap, ◌∙◌, arith, length-append}
use Rattle.std.specs.List.{find, list_any, range_with_len}
use Rattle.std.specs.Option.{option_map, option_map_or}
use Rattle.std.proofs.lemmas.Bool.{or_parts}
use Rattle.std.proofs.lemmas.Bool.Decides.{eqb_tells}
use Rattle.ckd_image.specs.declared.header.Geometry.{Geometry}
use Rattle.ckd_image.specs.Track.{Record}
use Rattle.pack_spec.specs.Blocks.{records_in}
use Rattle.pack_spec.specs.Directories.{end_record, has_end_by, is_end_record, record_numbers}
use Rattle.pack_spec.proofs.FrontRecords.{count_in, first_of_all, first_of_some, first_records, first_taken}

-- ---- the first number of a range that passes a test

find_first : (p : ℕ → Bool) (n low r : ℕ) → low ≤ r → r < low + n → ((q : ℕ) → low ≤ q → q < r → p q ≡ false) → p r ≡ true → find p (range_with_len low n) ≡ Some r
find_first p zero low r least most none is = absurd (omega (arith, least, most))
find_first p (suc n) low r least most none is = by (eqb_tells low r) (λ h. find_first p n (low + 1) r h (omega (arith, most)) (λ q some up. none q (omega (arith, some)) up) is)
  where
    by : ((eqb low r ≡ true) × (low ≡ r)) ⊎ ((eqb low r ≡ false) × (low ≡ r → ⊥)) → (low + 1 ≤ r → find p (range_with_len (low + 1) n) ≡ Some r) → cond (p low) (Some low) (find p (range_with_len (low + 1) n)) ≡ Some r
    by (inl w) later = ap (λ (b : Bool). cond b (Some low) (find p (range_with_len (low + 1) n))) (ap p w.1 ∙ is) ∙ ap (λ (q : ℕ). Some q) w.1
    by (inr w) later = ap (λ (b : Bool). cond b (Some low) (find p (range_with_len (low + 1) n))) (none low (omega arith) (omega (arith, least, w.1))) ∙ later (omega (arith, least, w.1))

find_none : (p : ℕ → Bool) (n low : ℕ) → ((q : ℕ) → p q ≡ false) → find p (range_with_len low n) ≡ None
find_none p zero low none = refl
find_none p (suc n) low none = ap (λ (b : Bool). cond b (Some low) (find p (range_with_len (low + 1) n))) (none low) ∙ find_none p n (low + 1) none

-- ---- the first records

none_first : (xs : List Record) (q : ℕ) → list_any is_end_record xs ≡ false → option_map_or (list_any is_end_record) (first_records q xs) false ≡ false
none_first xs zero none = refl
none_first [] (suc q) none = refl
none_first (x ∷ xs) (suc q) none = let parts = or_parts (is_end_record x) (list_any is_end_record xs) none in by (first_records q xs) parts.0 (none_first xs q parts.1)
  where
    by : (o : Option (List Record)) → is_end_record x ≡ false → option_map_or (list_any is_end_record) o false ≡ false → option_map_or (list_any is_end_record) (option_map (λ (ys : List Record). x ∷ ys) o) false ≡ false
    by None here later = refl
    by (Some ys) here later = ap (λ (b : Bool). b || list_any is_end_record ys) here ∙ later

none_taken : (ys zs : List Record) (q : ℕ) → list_any is_end_record ys ≡ false → q ≤ length ys → list_any is_end_record (take q (ys ++ zs)) ≡ false
none_taken ys zs zero none low = refl
none_taken [] zs (suc q) none low = absurd (omega (arith, low))
none_taken (y ∷ ys) zs (suc q) none low =
    let parts = or_parts (is_end_record y) (list_any is_end_record ys) none in
    ap (λ (b : Bool). b || list_any is_end_record (take q (ys ++ zs))) parts.0 ∙ none_taken ys zs q parts.1 (omega (arith, low))

one_taken : (ys : List Record) (z : Record) (zs : List Record) → list_any is_end_record ys ≡ false → is_end_record z ≡ true → list_any is_end_record (take (suc (length ys)) (ys ++ z ∷ zs)) ≡ true
one_taken [] z zs none one = ap (λ (b : Bool). b || false) one
one_taken (y ∷ ys) z zs none one =
    let parts = or_parts (is_end_record y) (list_any is_end_record ys) none in
    ap (λ (b : Bool). b || list_any is_end_record (take (suc (length ys)) (ys ++ z ∷ zs))) parts.0 ∙ one_taken ys z zs parts.1 one

module _ (g : Geometry) (tracks : List (List ℕ)) (t : ℕ) where
  -- the first of the records that are read, to the end marker or up to one
  pub first_read : (u : Option ℕ) (xs : List Record) (q : ℕ) → records_in g tracks u t ≡ Some xs → q ≤ length xs → records_in g tracks (Some q) t ≡ Some (take q xs)
  first_read None xs q read low = first_of_all g tracks t xs q read ∙ first_taken q xs low
  first_read (Some m) xs q read low = first_of_some g tracks t xs q m (omega (arith, low, count_in g tracks t xs m read)) read

  -- A track that is read to its end marker has no end-of-file record where none of its records is one.
  pub no_end_read : (xs : List Record) → records_in g tracks None t ≡ Some xs → list_any is_end_record xs ≡ false → end_record g tracks t ≡ None
  unfolding end_record record_numbers
  no_end_read xs read none =
      find_none (has_end_by g tracks t) 255 1 (λ q. ap (λ (o : Option (List Record)). option_map_or (list_any is_end_record) o false) (first_of_all g tracks t xs q read) ∙ none_first xs q none)

  -- One that is read as far as this has its first where none of the records before is one.
  pub end_read : (u : Option ℕ) (ys : List Record) (z : Record) (zs : List Record) → records_in g tracks u t ≡ Some (ys ++ z ∷ zs) → list_any is_end_record ys ≡ false → is_end_record z ≡ true → length ys < 255 → end_record g tracks t ≡ Some (suc (length ys))
  unfolding end_record record_numbers
  end_read u ys z zs read none one few =
      find_first (has_end_by g tracks t) 255 1 (suc (length ys)) (omega arith) (omega (arith, few))
      (λ q some up. first q (omega (arith, up)) ∙ none_taken ys (z ∷ zs) q none (omega (arith, up)))
      (first (suc (length ys)) (omega arith) ∙ one_taken ys z zs none one)
    where
      first : (q : ℕ) → q ≤ suc (length ys) → has_end_by g tracks t q ≡ list_any is_end_record (take q (ys ++ z ∷ zs))
      first q low = ap (λ (o : Option (List Record)). option_map_or (list_any is_end_record) o false) (first_read u (ys ++ z ∷ zs) q read (omega (arith, low, length-append ys (z ∷ zs))))
