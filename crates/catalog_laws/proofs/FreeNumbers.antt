-- The numbers of blocks that no chain reaches.
use Rattle.std.proofs.Common.{◌≡◌, ◌+◌, ◌≤◌, ◌<◌, ℕ, zero, suc, Bool, true, false, cond, not, List, [], ◌∷◌, ◌++◌, filter, length, refl, sym, ap, subst, ◌∙◌, arith, append_assoc, append-nil}
use Rattle.std.specs.Prelude.{◌==◌, ◌||◌}
use Rattle.std.specs.List.{AllByRecursion, range_with_len, sum_by}
use Rattle.std.proofs.lemmas.Bool.{eq-eqb, eqb-true, ne_eqb}
use Rattle.std.proofs.lemmas.List.FromFn.{length-range_with_len}
use Rattle.std.proofs.lemmas.List.Sums.{sum_by-cons}
use Rattle.catalog_blocks.specs.declared.chains.Chain.{Chain}
use Rattle.catalog_blocks.specs.Trees.{Store, is_among, numbers, root_lead}
use Rattle.catalog_laws.specs.Forests.{AreApart, AreChains, all_numbers, free_below}
use Rattle.catalog_laws.proofs.Apart.{apart_first, apart_join, apart_not, apart_second, apart_turn}
use Rattle.catalog_laws.proofs.Inserted.{numbers_append}
use Rattle.catalog_laws.proofs.TreeReads.{all_below}

-- ---- how many there are

abbrev one_if : Bool → ℕ
one_if b = cond b 1 0

abbrev amount : List ℕ → List ℕ → ℕ
amount ks xs = sum_by (λ (k : ℕ). one_if (is_among k ks)) xs

-- those that are among others and those that aren't are all
both_amounts : (ks xs : List ℕ) → length (filter (λ k. not (is_among k ks)) xs) + amount ks xs ≡ length xs
both_amounts ks [] = refl
both_amounts ks (x ∷ xs) = by (is_among x ks) refl (both_amounts ks xs)
  where
    free : List ℕ
    free = filter (λ k. not (is_among k ks)) xs

    by : (b : Bool) → is_among x ks ≡ b → length free + amount ks xs ≡ length xs → length (cond (not (is_among x ks)) (x ∷ free) free) + amount ks (x ∷ xs) ≡ suc (length xs)
    by true is rest = omega (arith, rest, sum_by-cons (λ (k : ℕ). one_if (is_among k ks)) x xs, ap one_if is, ap (λ (b : Bool). length (cond (not b) (x ∷ free) free)) is)
    by false is rest = omega (arith, rest, sum_by-cons (λ (k : ℕ). one_if (is_among k ks)) x xs, ap one_if is, ap (λ (b : Bool). length (cond (not b) (x ∷ free) free)) is)

abbrev equal : ℕ → List ℕ → ℕ
equal x xs = sum_by (λ (k : ℕ). one_if (x == k)) xs

-- a number stands once in a range, or not at all
no_equal : (x low n : ℕ) → x < low → equal x (range_with_len low n) ≡ 0
no_equal x low zero less = refl
no_equal x low (suc n) less =
    omega (arith, sum_by-cons (λ (k : ℕ). one_if (x == k)) low (range_with_len (low + 1) n), ap one_if (ne_eqb x low (λ e. omega (arith, e, less))), no_equal x (low + 1) n (omega (arith, less)))

one_equal : (x low n : ℕ) → low ≤ x → x < low + n → equal x (range_with_len low n) ≡ 1
one_equal x low zero above below = absurd (omega (arith, above, below))
one_equal x low (suc n) above below = by (x == low) refl (λ other. one_equal x (low + 1) n (omega (arith, above, other)) (omega (arith, below)))
  where
    by : (b : Bool) → (x == low) ≡ b → ((x ≡ low → ⊥) → equal x (range_with_len (low + 1) n) ≡ 1) → equal x (low ∷ range_with_len (low + 1) n) ≡ 1
    by true is later = omega (arith, sum_by-cons (λ (k : ℕ). one_if (x == k)) low (range_with_len (low + 1) n), ap one_if is, no_equal x (low + 1) n (omega (arith, eqb-true x low is)))
    by false is later = omega (arith, sum_by-cons (λ (k : ℕ). one_if (x == k)) low (range_with_len (low + 1) n), ap one_if is, later (λ e. true_not (sym (eq-eqb x low e) ∙ is)))
      where
        true_not : true ≡ false → ⊥
        true_not e = cc

-- one number more among others
amount_more : (x : ℕ) (ks xs : List ℕ) → is_among x ks ≡ false → amount (x ∷ ks) xs ≡ equal x xs + amount ks xs
amount_more x ks [] fresh = refl
amount_more x ks (y ∷ ys) fresh = by (x == y) refl (amount_more x ks ys fresh)
  where
    by : (b : Bool) → (x == y) ≡ b → amount (x ∷ ks) ys ≡ equal x ys + amount ks ys → amount (x ∷ ks) (y ∷ ys) ≡ equal x (y ∷ ys) + amount ks (y ∷ ys)
    by true is rest =
        omega (
          arith,
          rest,
          sum_by-cons (λ (k : ℕ). one_if (is_among k (x ∷ ks))) y ys,
          sum_by-cons (λ (k : ℕ). one_if (x == k)) y ys,
          sum_by-cons (λ (k : ℕ). one_if (is_among k ks)) y ys,
          ap (λ (b : Bool). one_if (b || is_among y ks)) is,
          ap one_if is,
          ap one_if (sym (ap (λ (k : ℕ). is_among k ks) (eqb-true x y is)) ∙ fresh),
        )
    by false is rest =
        omega (
          arith,
          rest,
          sum_by-cons (λ (k : ℕ). one_if (is_among k (x ∷ ks))) y ys,
          sum_by-cons (λ (k : ℕ). one_if (x == k)) y ys,
          sum_by-cons (λ (k : ℕ). one_if (is_among k ks)) y ys,
          ap (λ (b : Bool). one_if (b || is_among y ks)) is,
          ap one_if is,
        )

none_among : (xs : List ℕ) → amount [] xs ≡ 0
none_among [] = refl
none_among (x ∷ xs) = omega (arith, sum_by-cons (λ (k : ℕ). one_if (is_among k [])) x xs, none_among xs)

all_among : (n : ℕ) (r ks : List ℕ) → AreApart r ks → AllByRecursion (λ (k : ℕ). k < n) ks → amount ks (range_with_len 0 n) ≡ length ks
all_among n r [] apart below = none_among (range_with_len 0 n)
all_among n r (k ∷ ks) apart below =
    let fresh : is_among k ks ≡ false = apart_not k ks (k ∷ r) (first k r) apart.1 in
    omega (arith, amount_more k ks (range_with_len 0 n) fresh, one_equal k 0 n (omega arith) (omega (arith, below.0)), all_among n (k ∷ r) ks apart.1 below.1)
  where
    first : (j : ℕ) (js : List ℕ) → is_among j (j ∷ js) ≡ true
    first j js = ap (λ (b : Bool). b || is_among j js) (eq-eqb j j refl)

-- those that no chain reaches are as many as the others leave
pub free_count : (per : ℕ) (store : Store) (cs : List Chain) → AreChains per store cs → length (free_below (length store) (all_numbers cs)) + length (all_numbers cs) ≡ length store
free_count per store cs are =
    omega (arith, both_amounts (all_numbers cs) (range_with_len 0 (length store)), all_among (length store) [] (all_numbers cs) are.apart (all_below per store (root_lead ∷ []) cs are.follow), length-range_with_len 0 (length store))

-- ---- they may be taken

free_are : (ks r : List ℕ) (low n : ℕ) → ((k : ℕ) → low ≤ k → is_among k ks ≡ false → is_among k r ≡ false) → AreApart r (filter (λ k. not (is_among k ks)) (range_with_len low n)) × AllByRecursion (λ (k : ℕ). k < low + n) (filter (λ k. not (is_among k ks)) (range_with_len low n))
free_are ks r low zero fresh = (tt, tt)
free_are ks r low (suc n) fresh =
    by (is_among low ks) refl (λ s h. free_are ks s (low + 1) n h)
  where
    free : List ℕ
    free = filter (λ k. not (is_among k ks)) (range_with_len (low + 1) n)

    Are : List ℕ → List ℕ → Type 0
    Are s xs = AreApart s xs × AllByRecursion (λ (k : ℕ). k < low + suc n) xs

    wider : (xs : List ℕ) → AllByRecursion (λ (k : ℕ). k < low + 1 + n) xs → AllByRecursion (λ (k : ℕ). k < low + suc n) xs
    wider [] all = tt
    wider (x ∷ xs) all = (omega (arith, all.0), wider xs all.1)

    Later : Type 0
    Later = (s : List ℕ) → ((k : ℕ) → low + 1 ≤ k → is_among k ks ≡ false → is_among k s ≡ false) → AreApart s free × AllByRecursion (λ (k : ℕ). k < low + 1 + n) free

    by : (b : Bool) → is_among low ks ≡ b → Later → Are r (cond (not (is_among low ks)) (low ∷ free) free)
    by true is later =
        let rest = later r (λ k above other. fresh k (omega (arith, above)) other) in
        subst (λ (b : Bool). Are r (cond (not b) (low ∷ free) free)) (sym is) (rest.0, wider free rest.1)
    by false is later =
        let rest = later (low ∷ r) (λ k above other. ap (λ (b : Bool). b || is_among k r) (ne_eqb low k (λ e. omega (arith, e, above))) ∙ fresh k (omega (arith, above)) other) in
        subst (λ (b : Bool). Are r (cond (not b) (low ∷ free) free)) (sym is) ((fresh low (omega arith) is, rest.0), (omega arith, wider free rest.1))

below_first : (n : ℕ) (xs ys : List ℕ) → AllByRecursion (λ (k : ℕ). k < n) (xs ++ ys) → AllByRecursion (λ (k : ℕ). k < n) xs
below_first n [] ys all = tt
below_first n (x ∷ xs) ys all = (all.0, below_first n xs ys all.1)

below_part : (n : ℕ) (xs ys : List ℕ) → AllByRecursion (λ (k : ℕ). k < n) (xs ++ ys) → AllByRecursion (λ (k : ℕ). k < n) ys
below_part n [] ys all = all
below_part n (x ∷ xs) ys all = below_part n xs ys all.1

below_both : (n : ℕ) (xs ys : List ℕ) → AllByRecursion (λ (k : ℕ). k < n) xs → AllByRecursion (λ (k : ℕ). k < n) ys → AllByRecursion (λ (k : ℕ). k < n) (xs ++ ys)
below_both n [] ys first second = second
below_both n (x ∷ xs) ys first second = (first.0, below_both n xs ys first.1 second)

-- any of the first of them, for one of the chains
pub free_fresh : (per : ℕ) (store : Store) (before : List Chain) (c : Chain) (after : List Chain) → AreChains per store (before ++ c ∷ after) → (fresh more : List ℕ) → free_below (length store) (all_numbers (before ++ c ∷ after)) ≡ fresh ++ more
    → AreApart [] (all_numbers before ++ ((numbers c ++ fresh) ++ all_numbers after)) × AllByRecursion (λ (k : ℕ). k < length store) (numbers c ++ fresh)
free_fresh per store before c after are fresh more is =
    let ks : List ℕ = all_numbers (before ++ c ∷ after) in
    let a : List ℕ = all_numbers before in
    let b : List ℕ = numbers c in
    let d : List ℕ = all_numbers after in
    let parts : ks ≡ a ++ (b ++ d) = numbers_append before (c ∷ after) in
    let found = free_are ks ks 0 (length store) (λ k low other. other) in
    let count : 0 + length store ≡ length store = omega arith in
    let low : AllByRecursion (λ (k : ℕ). k < length store) (free_below (length store) ks) = subst (λ (m : ℕ). AllByRecursion (λ (k : ℕ). k < m) (free_below (length store) ks)) count found.1 in
    let apart_free : AreApart ks fresh = apart_first ks fresh more (subst (AreApart ks) is found.0) in
    let below_free : AllByRecursion (λ (k : ℕ). k < length store) fresh = below_first (length store) fresh more (subst (AllByRecursion (λ (k : ℕ). k < length store)) is low) in
    let whole : AreApart [] (ks ++ fresh) = apart_join [] ks fresh are.apart (subst (λ (r : List ℕ). AreApart r fresh) (sym (append-nil ks)) apart_free) in
    let flat : AreApart [] (a ++ (b ++ (d ++ fresh))) = subst (AreApart []) (ap (λ (xs : List ℕ). xs ++ fresh) parts ∙ append_assoc a (b ++ d) fresh ∙ ap (λ (xs : List ℕ). a ++ xs) (append_assoc b d fresh)) whole in
    let tail = apart_second [] a (b ++ (d ++ fresh)) flat in
    let last = apart_second (a ++ []) b (d ++ fresh) tail in
    let turned : AreApart (b ++ (a ++ [])) (fresh ++ d) = subst (λ (xs : List ℕ). AreApart (b ++ (a ++ [])) (fresh ++ xs)) (append-nil d) (apart_turn (b ++ (a ++ [])) d fresh [] (subst (λ (xs : List ℕ). AreApart (b ++ (a ++ [])) (d ++ xs)) (sym (append-nil fresh)) last)) in
    let again : AreApart [] (a ++ (b ++ (fresh ++ d))) = apart_join [] a (b ++ (fresh ++ d)) (apart_first [] a (b ++ (d ++ fresh)) flat) (apart_join (a ++ []) b (fresh ++ d) (apart_first (a ++ []) b (d ++ fresh) tail) turned) in
    let own = below_first (length store) b d (below_part (length store) a (b ++ d) (subst (AllByRecursion (λ (k : ℕ). k < length store)) parts (all_below per store (root_lead ∷ []) (before ++ c ∷ after) are.follow))) in
    (subst (λ (xs : List ℕ). AreApart [] (a ++ xs)) (sym (append_assoc b fresh d)) again, below_both (length store) b fresh own below_free)
