-- Old records and cards, merged one by one.
use Rattle.std.proofs.Common.{◌≡◌, ℕ, Bool, true, false, List, [], ◌∷◌, ◌++◌, refl, sym, ap, ◌∙◌}
use Rattle.std.specs.Prelude.{◌&&◌, if◌then◌else◌, filter, fold}
use Rattle.std.specs.List.{AllByRecursion}
use Rattle.std.specs.Ordering.{is_lt, nat_cmp, ordering_reverse}
use Rattle.std.specs.declared.cmp.Ordering.{Ordering}
use Rattle.std.specs.declared.cmp.Ordering.TheVariants.{Less, Equal, Greater}
use Rattle.std.specs.Cmp.Lexicographic.{slice_cmp}
use Rattle.std.proofs.lemmas.Cmp.{nat_list_cmp_total}
use Rattle.update_forms.specs.declared.requests.Range.{Range}
use Rattle.update_forms.specs.Records.{is_before, sequence, stands_before}
use Rattle.update_forms.specs.Editing.{merged, put, rises_after, stays}

-- ---- the order of sequences

less : (o : Ordering) → is_lt o ≡ true → o ≡ Less
less Less h = refl
less Equal h = cc
less Greater h = cc

reversed : (o : Ordering) → is_lt o ≡ true → is_lt (ordering_reverse o) ≡ false
reversed Less e = refl
reversed Equal e = cc
reversed Greater e = cc

tied : (o : Ordering) → is_lt o ≡ false → is_lt (ordering_reverse o) ≡ false → o ≡ Equal
tied Less h k = cc
tied Equal h k = refl
tied Greater h k = cc

pub not_after : (a b : List ℕ) → stands_before a b ≡ true → stands_before b a ≡ false
unfolding stands_before
not_after a b h = ap is_lt (nat_list_cmp_total.antisymm b a) ∙ reversed (slice_cmp nat_cmp a b) h

before_next : (a b c : List ℕ) → stands_before a b ≡ true → stands_before b c ≡ true → stands_before a c ≡ true
unfolding stands_before
before_next a b c h k = ap is_lt (nat_list_cmp_total.trans a b c (less (slice_cmp nat_cmp a b) h) (less (slice_cmp nat_cmp b c) k))

same_before : (a b c : List ℕ) → stands_before a b ≡ false → stands_before b a ≡ false → stands_before b c ≡ true → stands_before a c ≡ true
unfolding stands_before
same_before a b c h k n =
    let back : is_lt (ordering_reverse (slice_cmp nat_cmp a b)) ≡ false = sym (ap is_lt (nat_list_cmp_total.antisymm b a)) ∙ k in
    ap is_lt (nat_list_cmp_total.congr a b c (tied (slice_cmp nat_cmp a b) h back)) ∙ n

-- ---- records after one

-- each of these stands after a record
unfoldable pub AllAfter : List ℕ → List (List ℕ) → Type 0
AllAfter r rs = AllByRecursion (λ (s : List ℕ). is_before r s ≡ true) rs

pub all_imply : (P Q : List ℕ → Type 0) → ((x : List ℕ) → P x → Q x) → (xs : List (List ℕ)) → AllByRecursion P xs → AllByRecursion Q xs
all_imply P Q h [] all = tt
all_imply P Q h (x ∷ xs) all = (h x all.0, all_imply P Q h xs all.1)

pub both_of : (a b : Bool) → (a && b) ≡ true → (a ≡ true) × (b ≡ true)
both_of true true h = (refl, refl)
both_of true false h = cc
both_of false b h = cc

pub all_after : (r : List ℕ) (rs : List (List ℕ)) → rises_after r rs ≡ true → AllAfter r rs
unfolding AllAfter
all_after r [] h = tt
all_after r (s ∷ others) h =
    let both = both_of (is_before r s) (rises_after s others) h in
    (both.0, all_imply (λ (t : List ℕ). is_before s t ≡ true) (λ (t : List ℕ). is_before r t ≡ true) (λ t k. before_next (sequence r) (sequence s) (sequence t) both.0 k) others (all_after s others both.1))

pub after_both : (c r : List ℕ) (rs : List (List ℕ)) → is_before c r ≡ true → AllAfter r rs → AllAfter c (r ∷ rs)
unfolding AllAfter
after_both c r rs h all =
    (h, all_imply (λ (t : List ℕ). is_before r t ≡ true) (λ (t : List ℕ). is_before c t ≡ true) (λ t k. before_next (sequence c) (sequence r) (sequence t) h k) rs all)

after_same : (c r : List ℕ) (rs : List (List ℕ)) → is_before c r ≡ false → is_before r c ≡ false → AllAfter r rs → AllAfter c rs
unfolding AllAfter
after_same c r rs h k all =
    all_imply (λ (t : List ℕ). is_before r t ≡ true) (λ (t : List ℕ). is_before c t ≡ true) (λ t n. same_before (sequence c) (sequence r) (sequence t) h k n) rs all

filter_after : (p : List ℕ → Bool) (r : List ℕ) (rs : List (List ℕ)) → AllAfter r rs → AllAfter r (filter p rs)
unfolding AllAfter
filter_after p r [] all = tt
filter_after p r (s ∷ others) all = by_test (p s) (filter_after p r others all.1)
  where
    by_test : (b : Bool) → AllByRecursion (λ (t : List ℕ). is_before r t ≡ true) (filter p others) → AllByRecursion (λ (t : List ℕ). is_before r t ≡ true) (if b then s ∷ filter p others else filter p others)
    by_test true rest = (all.0, rest)
    by_test false rest = rest

-- ---- a card that is put among records

test_true : (x : List ℕ) (xs ys : List (List ℕ)) (b : Bool) → b ≡ true → xs ≡ ys → (if b then x ∷ xs else xs) ≡ x ∷ ys
test_true x xs ys true h e = ap (λ (l : List (List ℕ)). x ∷ l) e
test_true x xs ys false h e = cc

test_false : (x : List ℕ) (xs ys : List (List ℕ)) (b : Bool) → b ≡ false → xs ≡ ys → (if b then x ∷ xs else xs) ≡ ys
test_false x xs ys true h e = cc
test_false x xs ys false h e = e

pub filter_all : (p : List ℕ → Bool) (xs : List (List ℕ)) → AllByRecursion (λ (x : List ℕ). p x ≡ true) xs → filter p xs ≡ xs
filter_all p [] all = refl
filter_all p (x ∷ xs) all = test_true x (filter p xs) xs (p x) all.0 (filter_all p xs all.1)

pub filter_none : (p : List ℕ → Bool) (xs : List (List ℕ)) → AllByRecursion (λ (x : List ℕ). p x ≡ false) xs → filter p xs ≡ []
filter_none p [] all = refl
filter_none p (x ∷ xs) all = test_false x (filter p xs) [] (p x) all.0 (filter_none p xs all.1)

none_before : (c : List ℕ) (rs : List (List ℕ)) → AllAfter c rs → AllByRecursion (λ (x : List ℕ). is_before x c ≡ false) rs
unfolding AllAfter
none_before c rs all = all_imply (λ (x : List ℕ). is_before c x ≡ true) (λ (x : List ℕ). is_before x c ≡ false) (λ x h. not_after (sequence c) (sequence x) h) rs all

-- a card before all of them stands first
put_first : (c : List ℕ) (rs : List (List ℕ)) → AllAfter c rs → put rs c ≡ c ∷ rs
unfolding put AllAfter
put_first c rs all =
    ap (λ (l : List (List ℕ)). l ++ c ∷ filter (λ r. is_before c r) rs) (filter_none (λ r. is_before r c) rs (none_before c rs all))
    ∙ ap (λ (l : List (List ℕ)). c ∷ l) (filter_all (λ r. is_before c r) rs all)

-- in the place of the first, where that has its sequence
put_instead : (c r : List ℕ) (rs : List (List ℕ)) → is_before r c ≡ false → is_before c r ≡ false → AllAfter c rs → put (r ∷ rs) c ≡ c ∷ rs
unfolding put
put_instead c r rs h k all =
    ap (λ (l : List (List ℕ)). l ++ c ∷ filter (λ s. is_before c s) (r ∷ rs)) (test_false r (filter (λ s. is_before s c) rs) (filter (λ s. is_before s c) rs) (is_before r c) h refl)
    ∙ ap (λ (l : List (List ℕ)). filter (λ s. is_before s c) rs ++ c ∷ l) (test_false r (filter (λ s. is_before c s) rs) (filter (λ s. is_before c s) rs) (is_before c r) k refl)
    ∙ put_first c rs all

-- after the first, where it stands after that
put_after : (c r : List ℕ) (rs : List (List ℕ)) → is_before r c ≡ true → put (r ∷ rs) c ≡ r ∷ put rs c
unfolding put
put_after c r rs h =
    ap (λ (l : List (List ℕ)). l ++ c ∷ filter (λ s. is_before c s) (r ∷ rs)) (test_true r (filter (λ s. is_before s c) rs) (filter (λ s. is_before s c) rs) (is_before r c) h refl)
    ∙ ap (λ (l : List (List ℕ)). r ∷ filter (λ s. is_before s c) rs ++ c ∷ l) (test_false r (filter (λ s. is_before c s) rs) (filter (λ s. is_before c s) rs) (is_before c r) (not_after (sequence r) (sequence c) h) refl)

-- what stands before all cards stays first
first_stays : (r : List ℕ) (rs cards : List (List ℕ)) → AllAfter r cards → fold put (r ∷ rs) cards ≡ r ∷ fold put rs cards
unfolding AllAfter
first_stays r rs [] all = refl
first_stays r rs (c ∷ cards) all = ap (λ (l : List (List ℕ)). fold put l cards) (put_after c r rs all.0) ∙ first_stays r (put rs c) cards all.1

-- ---- merging

-- a card before all old records comes first
pub card_first : (ranges : List Range) (olds cards : List (List ℕ)) (c : List ℕ) → AllAfter c olds → AllAfter c cards → merged ranges olds (c ∷ cards) ≡ c ∷ merged ranges olds cards
unfolding merged
card_first ranges olds cards c before after =
    ap (λ (l : List (List ℕ)). fold put l cards) (put_first c (filter (stays ranges) olds) (filter_after (stays ranges) c olds before)) ∙ first_stays c (filter (stays ranges) olds) cards after

-- a card comes in the place of the old record of its sequence
pub card_instead : (ranges : List Range) (r : List ℕ) (olds cards : List (List ℕ)) (c : List ℕ) → is_before r c ≡ false → is_before c r ≡ false → AllAfter r olds → AllAfter c cards
    → merged ranges (r ∷ olds) (c ∷ cards) ≡ c ∷ merged ranges olds cards
unfolding merged
card_instead ranges r olds cards c h k before after = ap (λ (l : List (List ℕ)). fold put l cards) (by_test (stays ranges r)) ∙ first_stays c (filter (stays ranges) olds) cards after
  where
    by_test : (b : Bool) → put (if b then r ∷ filter (stays ranges) olds else filter (stays ranges) olds) c ≡ c ∷ filter (stays ranges) olds
    by_test true = put_instead c r (filter (stays ranges) olds) h k (filter_after (stays ranges) c olds (after_same c r olds k h before))
    by_test false = put_first c (filter (stays ranges) olds) (filter_after (stays ranges) c olds (after_same c r olds k h before))

-- an old record before all cards comes first, or goes
pub old_first : (ranges : List Range) (r : List ℕ) (olds cards : List (List ℕ)) → AllAfter r cards → merged ranges (r ∷ olds) cards ≡ (if stays ranges r then r ∷ merged ranges olds cards else merged ranges olds cards)
unfolding merged
old_first ranges r olds cards after = by_test (stays ranges r)
  where
    by_test : (b : Bool) → fold put (if b then r ∷ filter (stays ranges) olds else filter (stays ranges) olds) cards
        ≡ (if b then r ∷ fold put (filter (stays ranges) olds) cards else fold put (filter (stays ranges) olds) cards)
    by_test true = first_stays r (filter (stays ranges) olds) cards after
    by_test false = refl
