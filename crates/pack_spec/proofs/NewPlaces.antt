-- The places of the records of a new directory, track by track.
use Rattle.std.proofs.Common.{◌≡◌, ◌⊎◌, ◌+◌, ◌-◌, ◌*◌, ◌≤◌, ◌<◌, ℕ, zero, suc, Bool, true, false, cond, List, [], ◌∷◌, ◌++◌, length, inl, inr, refl, sym, ap, ◌∙◌, subst, arith, append-nil, zero-add}
use Rattle.std.specs.Prelude.{◌==◌, min, nat_le, nat_lt, replicate}
use Rattle.std.specs.List.{AllByRecursion, filter, flat_map, range_with_len}
use Rattle.std.proofs.Math.Nat.{mul-le-mul_right}
use Rattle.std.proofs.lemmas.Bool.{cases_lt, cases_order, eq-eqb, leb-true, ltb-false, ltb-true, ne_eqb}
use Rattle.std.proofs.lemmas.Bool.Decides.{eqb_tells, leb_tells}
use Rattle.std.proofs.lemmas.List.Elements.{filter-append}
use Rattle.std.proofs.lemmas.List.Folds.{sum_by-replicate}
use Rattle.std.proofs.lemmas.List.FromFn.{length-range_with_len}
use Rattle.ckd_image.specs.declared.device.DiskType.{DiskType}
use Rattle.ckd_image.specs.declared.device.DiskType.TheVariants.{D2311, D2314, D3330, D3350}
use Rattle.ckd_image.specs.Device.{row_of}
use Rattle.ckd_image.specs.Fit.{fits, record_cost}
use Rattle.vol_model.specs.declared.contents.Place.{Place}
use Rattle.vol_model.specs.Places.{directory_end, directory_lengths, directory_place, place_behind}
use Rattle.pack_spec.specs.Directories.{new_numbers}

-- ---- the places of a new directory

-- so few records of a directory fit a track
few_fit : (device : DiskType) (r kl dl : ℕ) → fits device (replicate r directory_lengths) kl dl ≡ true → r ≤ 254
few_fit D2311 r kl dl fit = omega (arith, leb-true _ _ fit, sum_by-replicate (λ (l : ℕ × ℕ). record_cost D2311 l.0 l.1) r directory_lengths)
few_fit D2314 r kl dl fit = omega (arith, leb-true _ _ fit, sum_by-replicate (λ (l : ℕ × ℕ). record_cost D2314 l.0 l.1) r directory_lengths)
few_fit D3330 r kl dl fit = omega (arith, leb-true _ _ fit, sum_by-replicate (λ (l : ℕ × ℕ). record_cost D3330 l.0 l.1) r directory_lengths)
few_fit D3350 r kl dl fit = omega (arith, leb-true _ _ fit, sum_by-replicate (λ (l : ℕ × ℕ). record_cost D3350 l.0 l.1) r directory_lengths)

-- a place after another is on its track or the next, and its record number is one byte above 0
record IsBehind (p q : Place) : Type 0 where
  track : p.tt ≤ q.tt
  some : 1 ≤ q.r
  few : q.r ≤ 255

behind : (device : DiskType) (p : Place) (new : ℕ × ℕ) → IsBehind p (place_behind device p (replicate p.r directory_lengths) new)
behind device p new = by (fits device (replicate p.r directory_lengths) new.0 new.1) (λ e. few_fit device p.r new.0 new.1 e)
  where
    by : (b : Bool) → (b ≡ true → p.r ≤ 254) → IsBehind p (cond b (record { tt = p.tt; r = p.r + 1 }) (record { tt = p.tt + 1; r = 1 }))
    by true low = record { track = omega arith; some = omega arith; few = omega (arith, low refl) }
    by false low = record { track = omega arith; some = omega arith; few = omega arith }

end_behind : (device : DiskType) (n : ℕ) → IsBehind (directory_place device (n - 1)) (directory_end device n)
unfolding directory_end
end_behind device n = behind device (directory_place device (n - 1)) (0, 0)

pub place_rises : (device : DiskType) (i : ℕ) → (directory_place device i).tt ≤ (directory_place device (suc i)).tt
place_rises device i = (behind device (directory_place device i) directory_lengths).track

-- ---- the numbers of a range, grouped by a number that doesn't fall

module _ (f : ℕ → ℕ) where
  -- those in one group
  abbrev group : List ℕ → ℕ → List ℕ
  group xs k = filter (λ i. f i == k) xs

  -- in so many groups from one on
  abbrev groups : List ℕ → ℕ → ℕ → List ℕ
  groups xs lo n = flat_map (group xs) (range_with_len lo n)

  with_one : (x : ℕ) (xs : List ℕ) (k : ℕ) → (f x == k) ≡ true → group (x ∷ xs) k ≡ x ∷ group xs k
  with_one x xs k is = ap (λ (b : Bool). cond b (x ∷ group xs k) (group xs k)) is

  without : (x : ℕ) (xs : List ℕ) (k : ℕ) → (f x == k) ≡ false → group (x ∷ xs) k ≡ group xs k
  without x xs k is = ap (λ (b : Bool). cond b (x ∷ group xs k) (group xs k)) is

  none_in : (xs : List ℕ) (k : ℕ) → AllByRecursion (λ i. k < f i) xs → group xs k ≡ []
  none_in [] k above = refl
  none_in (x ∷ xs) k above = elim (eqb_tells (f x) k) [
    | inl w ↦ absurd (omega (arith, w.1, above.0))
    | inr w ↦ without x xs k w.0 ∙ none_in xs k above.1
  ]

  none_at_all : (lo n : ℕ) → groups [] lo n ≡ []
  none_at_all lo zero = refl
  none_at_all lo (suc n) = none_at_all (lo + 1) n

  past_all : (x : ℕ) (xs : List ℕ) (lo n : ℕ) → f x < lo → groups (x ∷ xs) lo n ≡ groups xs lo n
  past_all x xs lo zero low = refl
  past_all x xs lo (suc n) low = elim (eqb_tells (f x) lo) [
    | inl w ↦ absurd (omega (arith, w.1, low))
    | inr w ↦ ap (λ (l : List ℕ). l ++ groups (x ∷ xs) (lo + 1) n) (without x xs lo w.0) ∙ ap (λ (l : List ℕ). group xs lo ++ l) (past_all x xs (lo + 1) n (omega (arith, low)))
  ]

  above_weaker : (j k : ℕ) (xs : List ℕ) → k < j → AllByRecursion (λ i. j ≤ f i) xs → AllByRecursion (λ i. k < f i) xs
  above_weaker j k [] low all = tt
  above_weaker j k (x ∷ xs) low all = (omega (arith, low, all.0), above_weaker j k xs low all.1)

  first_of_all : (x : ℕ) (xs : List ℕ) (lo n : ℕ) → lo ≤ f x → f x < lo + n → AllByRecursion (λ i. f x ≤ f i) xs → groups (x ∷ xs) lo n ≡ x ∷ groups xs lo n
  first_of_all x xs lo zero low up all = absurd (omega (arith, low, up))
  first_of_all x xs lo (suc n) low up all = elim (eqb_tells (f x) lo) [
    | inl w ↦ ap (λ (l : List ℕ). l ++ groups (x ∷ xs) (lo + 1) n) (with_one x xs lo w.0) ∙ ap (λ (l : List ℕ). x ∷ (group xs lo ++ l)) (past_all x xs (lo + 1) n (omega (arith, w.1)))
    | inr w ↦
        let later : f x < lo → ⊥ = λ h. omega (arith, h, low) in
        let above : lo < f x = omega (arith, low, w.1) in
        ap (λ (l : List ℕ). l ++ groups (x ∷ xs) (lo + 1) n) (without x xs lo w.0 ∙ none_in xs lo (above_weaker (f x) lo xs above all))
        ∙ first_of_all x xs (lo + 1) n (omega (arith, above)) (omega (arith, up)) all
        ∙ ap (λ (l : List ℕ). x ∷ (l ++ groups xs (lo + 1) n)) (sym (none_in xs lo (above_weaker (f x) lo xs above all)))
  ]

  module _ (rises : (i : ℕ) → f i ≤ f (suc i)) where
    above : (a low n : ℕ) → a ≤ f low → AllByRecursion (λ i. a ≤ f i) (range_with_len low n)
    above a low zero least = tt
    above a low (suc n) least =
        let next : f (suc low) ≡ f (low + 1) = let e : suc low ≡ low + 1 = omega arith in ap f e in
        (least, above a (low + 1) n (omega (arith, least, rises low, next)))

    all_groups : (low n m : ℕ) → AllByRecursion (λ i. f i < m) (range_with_len low n) → groups (range_with_len low n) 0 m ≡ range_with_len low n
    all_groups low zero m all = none_at_all 0 m
    all_groups low (suc n) m all =
        let next : f (suc low) ≡ f (low + 1) = let e : suc low ≡ low + 1 = omega arith in ap f e in
        first_of_all low (range_with_len (low + 1) n) 0 m (omega arith) (omega (arith, all.0)) (above (f low) (low + 1) n (omega (arith, rises low, next)))
        ∙ ap (λ (l : List ℕ). low ∷ l) (all_groups (low + 1) n m all.1)

module _ (device : DiskType) (n : ℕ) where
  abbrev end : Place
  end = directory_end device n

  -- the end-of-file record stands on none of the tracks before those of the blocks
  low_before : (i : ℕ) → i < n → (directory_place device i).tt ≤ end.tt
  low_before i low = let last = end_behind device n in omega (arith, last.track, upto (n - 1) i (omega (arith, low)))
    where
      upto : (m j : ℕ) → j ≤ m → (directory_place device j).tt ≤ (directory_place device m).tt
      upto zero j least = let same : j ≡ 0 = omega (arith, least) in subst (λ (l : ℕ). (directory_place device l).tt ≤ 0) (sym same) (omega arith)
      upto (suc m) j least = elim (cases_lt m j) [
        | inl w ↦ let same : j ≡ suc m = omega (arith, w, least) in subst (λ (l : ℕ). (directory_place device l).tt ≤ (directory_place device (suc m)).tt) (sym same) (omega arith)
        | inr w ↦ omega (arith, upto m j w, place_rises device m)
      ]

  all_low : (low m : ℕ) → low + m ≤ n → AllByRecursion (λ i. (directory_place device i).tt < end.tt + 1) (range_with_len low m)
  all_low low zero least = tt
  all_low low (suc m) least = (omega (arith, low_before low (omega (arith, least))), all_low (low + 1) m (omega (arith, least)))

  -- the blocks of all tracks up to its own are those of the directory
  pub all_numbers : flat_map (new_numbers device n) (range_with_len 0 (end.tt + 1)) ≡ range_with_len 0 n
  unfolding new_numbers
  all_numbers = all_groups (λ i. (directory_place device i).tt) (place_rises device) 0 n (end.tt + 1) (all_low 0 n (omega arith))

  pub end_some : 1 ≤ end.r
  end_some = let last = end_behind device n in last.some

  pub end_few : end.r ≤ 255
  end_few = let last = end_behind device n in last.few

-- ---- the numbers on a track

-- as many blocks stand on a full track
abbrev pub per_track : DiskType → ℕ
per_track device = (row_of device).directory_blocks_per_track

same_test : (a b c d : ℕ) → (a ≤ b → c ≤ d) → (c ≤ d → a ≤ b) → nat_le a b ≡ nat_le c d
same_test a b c d there back = by (leb_tells a b) (leb_tells c d)
  where
    by : ((nat_le a b ≡ true) × (a ≤ b)) ⊎ ((nat_le a b ≡ false) × (b < a)) → ((nat_le c d ≡ true) × (c ≤ d)) ⊎ ((nat_le c d ≡ false) × (d < c)) → nat_le a b ≡ nat_le c d
    by (inl v) (inl w) = v.0 ∙ sym w.0
    by (inl v) (inr w) = absurd (omega (arith, there v.1, w.1))
    by (inr v) (inl w) = absurd (omega (arith, back w.1, v.1))
    by (inr v) (inr w) = v.0 ∙ sym w.0

-- one more fits where there are fewer
one_fits : (device : DiskType) (r : ℕ) → fits device (replicate r directory_lengths) 8 256 ≡ nat_lt r (per_track device)
one_fits D2311 r = let all = sum_by-replicate (λ (l : ℕ × ℕ). record_cost D2311 l.0 l.1) r directory_lengths in same_test _ _ _ _ (λ h. omega (arith, h, all)) (λ h. omega (arith, h, all))
one_fits D2314 r = let all = sum_by-replicate (λ (l : ℕ × ℕ). record_cost D2314 l.0 l.1) r directory_lengths in same_test _ _ _ _ (λ h. omega (arith, h, all)) (λ h. omega (arith, h, all))
one_fits D3330 r = let all = sum_by-replicate (λ (l : ℕ × ℕ). record_cost D3330 l.0 l.1) r directory_lengths in same_test _ _ _ _ (λ h. omega (arith, h, all)) (λ h. omega (arith, h, all))
one_fits D3350 r = let all = sum_by-replicate (λ (l : ℕ × ℕ). record_cost D3350 l.0 l.1) r directory_lengths in same_test _ _ _ _ (λ h. omega (arith, h, all)) (λ h. omega (arith, h, all))

-- The place of a block, by its number: full tracks stand before its own.
pub record IsPlaceOf (device : DiskType) (i : ℕ) (p : Place) : Type 0 where
  pub number : i + 1 ≡ p.tt * per_track device + p.r
  pub some : 1 ≤ p.r
  pub few : p.r ≤ per_track device

some_fit : (device : DiskType) → 1 ≤ per_track device
some_fit D2311 = omega arith
some_fit D2314 = omega arith
some_fit D3330 = omega arith
some_fit D3350 = omega arith

pub place_of : (device : DiskType) (i : ℕ) → IsPlaceOf device i (directory_place device i)
place_of device zero = record { number = omega arith; some = omega arith; few = some_fit device }
place_of device (suc i) = next (fits device (replicate p.r directory_lengths) 8 256) (one_fits device p.r) (place_of device i)
  where
    p : Place
    p = directory_place device i

    next : (b : Bool) → b ≡ nat_lt p.r (per_track device) → IsPlaceOf device i p → IsPlaceOf device (suc i) (cond b (record { tt = p.tt; r = p.r + 1 }) (record { tt = p.tt + 1; r = 1 }))
    next true is before = record { number = omega (arith, before.number); some = omega arith; few = omega (arith, ltb-true p.r (per_track device) (sym is)) }
    next false is before =
        let full : p.r ≡ per_track device = omega (arith, before.few, ltb-false p.r (per_track device) (sym is)) in
        record { number = omega (arith, before.number, full); some = omega arith; few = some_fit device }

range_split : (low m n : ℕ) → range_with_len low (m + n) ≡ range_with_len low m ++ range_with_len (low + m) n
range_split low zero n = let none : low ≡ low + 0 = omega arith in let all : 0 + n ≡ n = omega arith in ap (range_with_len low) all ∙ ap (λ (l : ℕ). range_with_len l n) none
range_split low (suc m) n =
    let all : suc m + n ≡ suc (m + n) = omega arith in
    let next : low + 1 + m ≡ low + suc m = omega arith in
    ap (range_with_len low) all ∙ ap (λ (l : List ℕ). low ∷ l) (range_split (low + 1) m n ∙ ap (λ (l : ℕ). range_with_len (low + 1) m ++ range_with_len l n) next)

module _ (p : ℕ → Bool) where
  all_pass : (n low : ℕ) → ((i : ℕ) → low ≤ i → i < low + n → p i ≡ true) → filter p (range_with_len low n) ≡ range_with_len low n
  all_pass zero low pass = refl
  all_pass (suc n) low pass =
      ap (λ (b : Bool). cond b (low ∷ filter p (range_with_len (low + 1) n)) (filter p (range_with_len (low + 1) n))) (pass low (omega arith) (omega arith))
      ∙ ap (λ (l : List ℕ). low ∷ l) (all_pass n (low + 1) (λ i least most. pass i (omega (arith, least)) (omega (arith, most))))

  none_pass : (n low : ℕ) → ((i : ℕ) → low ≤ i → i < low + n → p i ≡ false) → filter p (range_with_len low n) ≡ []
  none_pass zero low pass = refl
  none_pass (suc n) low pass =
      ap (λ (b : Bool). cond b (low ∷ filter p (range_with_len (low + 1) n)) (filter p (range_with_len (low + 1) n))) (pass low (omega arith) (omega arith))
      ∙ none_pass n (low + 1) (λ i least most. pass i (omega (arith, least)) (omega (arith, most)))

  -- of the first numbers those from a on, at most c of them
  some_pass : (a c n : ℕ) → ((i : ℕ) → i < a → p i ≡ false) → ((i : ℕ) → a ≤ i → i < a + c → p i ≡ true) → ((i : ℕ) → a + c ≤ i → p i ≡ false) → filter p (range_with_len 0 n) ≡ range_with_len a (min c (n - a))
  some_pass a c n before within past = by (cases_lt a n) (cases_lt (a + c) n)
    where
      by : (a < n) ⊎ (n ≤ a) → (a + c < n) ⊎ (n ≤ a + c) → filter p (range_with_len 0 n) ≡ range_with_len a (min c (n - a))
      by (inr v) o =
          let none : min c (n - a) ≡ 0 = omega (arith, v) in
          none_pass n 0 (λ i least most. before i (omega (arith, most, v))) ∙ sym (ap (range_with_len a) none)
      by (inl v) (inr w) =
          let r : ℕ = n - a in
          let parts : n ≡ a + r = omega (arith, v) in
          let count : min c (n - a) ≡ r = omega (arith, v, w) in
          ap (λ (m : ℕ). filter p (range_with_len 0 m)) parts
          ∙ ap (filter p) (range_split 0 a r)
          ∙ filter-append p (range_with_len 0 a) (range_with_len (0 + a) r)
          ∙ ap (λ (l : List ℕ). l ++ filter p (range_with_len (0 + a) r)) (none_pass a 0 (λ i least most. before i (omega (arith, most))))
          ∙ ap (λ (low : ℕ). filter p (range_with_len low r)) (zero-add a)
          ∙ all_pass r a (λ i least most. within i least (omega (arith, most, w, v)))
          ∙ sym (ap (range_with_len a) count)
      by (inl v) (inl w) =
          let r : ℕ = n - a - c in
          let parts : n ≡ a + (c + r) = omega (arith, w) in
          let count : min c (n - a) ≡ c = omega (arith, w) in
          ap (λ (m : ℕ). filter p (range_with_len 0 m)) parts
          ∙ ap (filter p) (range_split 0 a (c + r))
          ∙ filter-append p (range_with_len 0 a) (range_with_len (0 + a) (c + r))
          ∙ ap (λ (l : List ℕ). l ++ filter p (range_with_len (0 + a) (c + r))) (none_pass a 0 (λ i least most. before i (omega (arith, most))))
          ∙ ap (λ (low : ℕ). filter p (range_with_len low (c + r))) (zero-add a)
          ∙ ap (filter p) (range_split a c r)
          ∙ filter-append p (range_with_len a c) (range_with_len (a + c) r)
          ∙ ap (λ (l : List ℕ). l ++ filter p (range_with_len (a + c) r)) (all_pass c a (λ i least most. within i least most))
          ∙ ap (λ (l : List ℕ). range_with_len a c ++ l) (none_pass r (a + c) (λ i least most. past i least))
          ∙ append-nil (range_with_len a c)
          ∙ sym (ap (range_with_len a) count)

-- So full tracks have as many blocks as fit, and the last has the rest.
pub numbers_on : (device : DiskType) (n k : ℕ) → new_numbers device n k ≡ range_with_len (k * per_track device) (min (per_track device) (n - k * per_track device))
unfolding new_numbers
numbers_on device n k = some_pass (λ i. (directory_place device i).tt == k) (k * per_track device) (per_track device) n before within past
  where
    c : ℕ
    c = per_track device

    -- two places of different tracks, by the numbers of their blocks
    apart : (i : ℕ) → ((directory_place device i).tt < k → i < k * c) × (k < (directory_place device i).tt → k * c + c ≤ i)
    apart i =
        let at = place_of device i in
        let tt : ℕ = (directory_place device i).tt in (
          λ low. omega (arith, at.number, at.few, mul-le-mul_right {m = suc tt} {n = k} c low),
          λ high. omega (arith, at.number, at.some, mul-le-mul_right {m = suc k} {n = tt} c high),
        )

    same : (i : ℕ) → (directory_place device i).tt ≡ k → (k * c ≤ i) × (i < k * c + c)
    same i is =
        let at = place_of device i in
        let here : (directory_place device i).tt * c ≡ k * c = ap (λ (t : ℕ). t * c) is in
        (omega (arith, at.number, at.some, here), omega (arith, at.number, at.few, here))

    before : (i : ℕ) → i < k * c → ((directory_place device i).tt == k) ≡ false
    before i low = ne_eqb (directory_place device i).tt k (λ is. omega (arith, low, (same i is).0))

    past : (i : ℕ) → k * c + c ≤ i → ((directory_place device i).tt == k) ≡ false
    past i high = ne_eqb (directory_place device i).tt k (λ is. omega (arith, high, (same i is).1))

    within : (i : ℕ) → k * c ≤ i → i < k * c + c → ((directory_place device i).tt == k) ≡ true
    within i low high = elim (cases_order (directory_place device i).tt k) [
      | inl w ↦ eq-eqb (directory_place device i).tt k w
      | inr o ↦ elim o [
        | inl w ↦ absurd (omega (arith, low, (apart i).0 w))
        | inr w ↦ absurd (omega (arith, high, (apart i).1 w))
      ]
    ]

-- the end-of-file record stands right after the blocks on its track
pub end_counts : (device : DiskType) (n : ℕ) → 1 ≤ n → (directory_end device n).r ≡ suc (length (new_numbers device n (directory_end device n).tt))
unfolding directory_end
end_counts device n some = by (fits device (replicate p.r directory_lengths) 0 0)
  where
    c : ℕ
    c = per_track device

    p : Place
    p = directory_place device (n - 1)

    at : IsPlaceOf device (n - 1) p
    at = place_of device (n - 1)

    as_many : (k : ℕ) → length (new_numbers device n k) ≡ min c (n - k * c)
    as_many k = ap length (numbers_on device n k) ∙ length-range_with_len (k * c) (min c (n - k * c))

    End : Place → Type 0
    End q = q.r ≡ suc (length (new_numbers device n q.tt))

    by : (b : Bool) → End (cond b (record { tt = p.tt; r = p.r + 1 }) (record { tt = p.tt + 1; r = 1 }))
    by true = omega (arith, as_many p.tt, at.number, at.few, some)
    by false = omega (arith, as_many (p.tt + 1), at.number, at.few, some)
