-- Numbers none of which stands twice.
use Rattle.std.proofs.Common.{◌≡◌, ◌⊎◌, inl, inr, ◌≤◌, ◌<◌, ℕ, zero, suc, Bool, true, false, cond, List, [], ◌∷◌, ◌++◌, length, refl, sym, ap, subst, ◌∙◌, arith}
use Rattle.std.specs.Prelude.{◌==◌, ◌||◌}
use Rattle.std.specs.List.{AllByRecursion}
use Rattle.std.proofs.lemmas.Bool.{cases_Bool, cases_eq, true≢false, eqb-true, eqb-false, ne_eqb}
use Rattle.catalog_blocks.specs.Trees.{is_among}
use Rattle.catalog_laws.specs.Forests.{AreApart}
use Rattle.catalog_laws.proofs.Frames.{among_first, among_later, among_left, among_right}

-- each of some numbers is among others
abbrev pub AreAmong : List ℕ → List ℕ → Type 0
AreAmong xs ys = (k : ℕ) → is_among k xs ≡ true → is_among k ys ≡ true

pub not_among : (k : ℕ) (xs : List ℕ) → (is_among k xs ≡ true → ⊥) → is_among k xs ≡ false
not_among k xs none = by (cases_Bool (is_among k xs))
  where
    by : (is_among k xs ≡ true) ⊎ (is_among k xs ≡ false) → is_among k xs ≡ false
    by (inl is) = absurd (none is)
    by (inr other) = other

pub among_cases : (k : ℕ) (xs ys : List ℕ) → is_among k (xs ++ ys) ≡ true → (is_among k xs ≡ true) ⊎ (is_among k ys ≡ true)
among_cases k [] ys is = inr is
among_cases k (x ∷ xs) ys is = by (λ e. among_cases k xs ys e) (x == k) refl
  where
    by : (is_among k (xs ++ ys) ≡ true → (is_among k xs ≡ true) ⊎ (is_among k ys ≡ true)) → (b : Bool) → (x == k) ≡ b → (is_among k (x ∷ xs) ≡ true) ⊎ (is_among k ys ≡ true)
    by later true e = inl (ap (λ (b : Bool). b || is_among k xs) e)
    by later false e = front (later (sym (ap (λ (b : Bool). b || is_among k (xs ++ ys)) e) ∙ is))
      where
        front : (is_among k xs ≡ true) ⊎ (is_among k ys ≡ true) → (is_among k (x ∷ xs) ≡ true) ⊎ (is_among k ys ≡ true)
        front (inl s) = inl (ap (λ (b : Bool). b || is_among k xs) e ∙ s)
        front (inr s) = inr s

-- of x and further numbers
among_more : (x : ℕ) (xs ys : List ℕ) → AreAmong xs ys → AreAmong (x ∷ xs) (x ∷ ys)
among_more x xs ys are k is = by (are k) (x == k) refl
  where
    by : (is_among k xs ≡ true → is_among k ys ≡ true) → (b : Bool) → (x == k) ≡ b → is_among k (x ∷ ys) ≡ true
    by later true e = ap (λ (b : Bool). b || is_among k ys) e
    by later false e = ap (λ (b : Bool). b || is_among k ys) e ∙ later (sym (ap (λ (b : Bool). b || is_among k xs) e) ∙ is)

-- apart from some numbers, so from fewer
pub apart_less : (r s ks : List ℕ) → AreAmong s r → AreApart r ks → AreApart s ks
apart_less r s [] are apart = tt
apart_less r s (k ∷ ks) are apart = (
  not_among k s (λ is. true≢false (sym (are k is) ∙ apart.0)),
  apart_less (k ∷ r) (k ∷ s) ks (among_more k s r are) apart.1,
)

swap : (x : ℕ) (xs r : List ℕ) → AreAmong (xs ++ x ∷ r) (x ∷ xs ++ r)
swap x xs r k is = by (among_cases k xs (x ∷ r) is)
  where
    here : (b : Bool) → (x == k) ≡ b → is_among k (x ∷ r) ≡ true → is_among k (x ∷ xs ++ r) ≡ true
    here true e s = ap (λ (b : Bool). b || is_among k (xs ++ r)) e
    here false e s = among_later k x (xs ++ r) (among_right k xs r (sym (ap (λ (b : Bool). b || is_among k r) e) ∙ s))

    by : (is_among k xs ≡ true) ⊎ (is_among k (x ∷ r) ≡ true) → is_among k (x ∷ xs ++ r) ≡ true
    by (inl s) = among_later k x (xs ++ r) (among_left k xs r s)
    by (inr s) = here (x == k) refl s

swap_back : (x : ℕ) (xs r : List ℕ) → AreAmong (x ∷ xs ++ r) (xs ++ x ∷ r)
swap_back x xs r k is = by (x == k) refl
  where
    later : (is_among k xs ≡ true) ⊎ (is_among k r ≡ true) → is_among k (xs ++ x ∷ r) ≡ true
    later (inl s) = among_left k xs (x ∷ r) s
    later (inr s) = among_right k xs (x ∷ r) (among_later k x r s)

    by : (b : Bool) → (x == k) ≡ b → is_among k (xs ++ x ∷ r) ≡ true
    by true e = among_right k xs (x ∷ r) (ap (λ (b : Bool). b || is_among k r) e)
    by false e = later (among_cases k xs r (sym (ap (λ (b : Bool). b || is_among k (xs ++ r)) e) ∙ is))

-- numbers after others
pub apart_join : (r xs ys : List ℕ) → AreApart r xs → AreApart (xs ++ r) ys → AreApart r (xs ++ ys)
apart_join r [] ys first second = second
apart_join r (x ∷ xs) ys first second = (first.0, apart_join (x ∷ r) xs ys first.1 (apart_less (x ∷ xs ++ r) (xs ++ x ∷ r) ys (swap x xs r) second))

pub apart_first : (r xs ys : List ℕ) → AreApart r (xs ++ ys) → AreApart r xs
apart_first r [] ys apart = tt
apart_first r (x ∷ xs) ys apart = (apart.0, apart_first (x ∷ r) xs ys apart.1)

pub apart_second : (r xs ys : List ℕ) → AreApart r (xs ++ ys) → AreApart (xs ++ r) ys
apart_second r [] ys apart = apart
apart_second r (x ∷ xs) ys apart = apart_less (xs ++ x ∷ r) (x ∷ xs ++ r) ys (swap_back x xs r) (apart_second (x ∷ r) xs ys apart.1)

-- numbers but for one
abbrev without : ℕ → List ℕ → List ℕ
without m [] = []
without m (x ∷ xs) = cond (x == m) (without m xs) (x ∷ without m xs)

without_among : (m : ℕ) (xs : List ℕ) → AreAmong (without m xs) xs
without_among m [] k is = is
without_among m (x ∷ xs) k is = by (without_among m xs) (x == m) refl
  where
    by : AreAmong (without m xs) xs → (b : Bool) → (x == m) ≡ b → is_among k (x ∷ xs) ≡ true
    by later true e = among_later k x xs (later k (sym (ap (λ (b : Bool). is_among k (cond b (without m xs) (x ∷ without m xs))) e) ∙ is))
    by later false e = among_more x (without m xs) xs later k (sym (ap (λ (b : Bool). is_among k (cond b (without m xs) (x ∷ without m xs))) e) ∙ is)

apart_without : (m : ℕ) (r xs : List ℕ) → AreApart r xs → AreApart r (without m xs)
apart_without m r [] apart = tt
apart_without m r (x ∷ xs) apart = by (apart_without m r xs (apart_less (x ∷ r) r xs (λ k is. among_later k x r is) apart.1)) (apart_without m (x ∷ r) xs apart.1) (x == m) refl
  where
    by : AreApart r (without m xs) → AreApart (x ∷ r) (without m xs) → (b : Bool) → (x == m) ≡ b → AreApart r (cond (x == m) (without m xs) (x ∷ without m xs))
    by fewer later true e = subst (λ (b : Bool). AreApart r (cond b (without m xs) (x ∷ without m xs))) (sym e) fewer
    by fewer later false e = subst (λ (b : Bool). AreApart r (cond b (without m xs) (x ∷ without m xs))) (sym e) (apart.0, later)

-- none is left out where the one was reached before
all_stay : (m : ℕ) (r xs : List ℕ) → is_among m r ≡ true → AreApart r xs → length (without m xs) ≡ length xs
all_stay m r [] there apart = refl
all_stay m r (x ∷ xs) there apart = by (all_stay m (x ∷ r) xs (among_later m x r there) apart.1) (x == m) refl
  where
    by : length (without m xs) ≡ length xs → (b : Bool) → (x == m) ≡ b → length (cond (x == m) (without m xs) (x ∷ without m xs)) ≡ suc (length xs)
    by later true e = absurd (true≢false (sym (ap (λ (k : ℕ). is_among k r) (eqb-true x m e) ∙ there) ∙ apart.0))
    by later false e = ap (λ (b : Bool). length (cond b (without m xs) (x ∷ without m xs))) e ∙ ap suc later

-- at most one is left out
one_less : (m : ℕ) (r xs : List ℕ) → AreApart r xs → length xs ≤ suc (length (without m xs))
one_less m r [] apart = omega arith
one_less m r (x ∷ xs) apart = by (one_less m (x ∷ r) xs apart.1) (x == m) refl
  where
    by : length xs ≤ suc (length (without m xs)) → (b : Bool) → (x == m) ≡ b → suc (length xs) ≤ suc (length (cond (x == m) (without m xs) (x ∷ without m xs)))
    by later true e =
        let same = all_stay m (x ∷ r) xs (subst (λ (k : ℕ). is_among k (x ∷ r) ≡ true) (eqb-true x m e) (among_first x r)) apart.1 in
        omega (arith, same, ap (λ (b : Bool). length (cond b (without m xs) (x ∷ without m xs))) e)
    by later false e = omega (arith, later, ap (λ (b : Bool). length (cond b (without m xs) (x ∷ without m xs))) e)

below_it : (y n : ℕ) → y < suc n → (y ≡ n → ⊥) → y < n
below_it y n low other = omega (arith, low, other)

-- those that are left are below the one, where all are below the next
below_without : (m : ℕ) (xs : List ℕ) → AllByRecursion (λ (x : ℕ). x < suc m) xs → AllByRecursion (λ (x : ℕ). x < m) (without m xs)
below_without m [] all = tt
below_without m (x ∷ xs) all = by (below_without m xs all.1) (x == m) refl
  where
    by : AllByRecursion (λ (y : ℕ). y < m) (without m xs) → (b : Bool) → (x == m) ≡ b → AllByRecursion (λ (y : ℕ). y < m) (cond (x == m) (without m xs) (x ∷ without m xs))
    by later true e = subst (λ (b : Bool). AllByRecursion (λ (y : ℕ). y < m) (cond b (without m xs) (x ∷ without m xs))) (sym e) later
    by later false e = subst (λ (b : Bool). AllByRecursion (λ (y : ℕ). y < m) (cond b (without m xs) (x ∷ without m xs))) (sym e) (below_it x m all.0 (eqb-false x m e), later)

-- numbers below a bound none of which stands twice are no more than that
pub few : (n : ℕ) (r xs : List ℕ) → AreApart r xs → AllByRecursion (λ (x : ℕ). x < n) xs → length xs ≤ n
few zero r [] apart all = omega arith
few zero r (x ∷ xs) apart all = absurd (omega (arith, all.0))
few (suc m) r xs apart all = omega (arith, one_less m r xs apart, few m r (without m xs) (apart_without m r xs apart) (below_without m xs all))

-- numbers apart from others aren't among them
pub apart_not : (k : ℕ) (ms s : List ℕ) → is_among k s ≡ true → AreApart s ms → is_among k ms ≡ false
apart_not k [] s there apart = refl
apart_not k (m ∷ ms) s there apart = by (apart_not k ms (m ∷ s) (among_later k m s there) apart.1) (cases_Bool (is_among k (m ∷ ms)))
  where
    by : is_among k ms ≡ false → (is_among k (m ∷ ms) ≡ true) ⊎ (is_among k (m ∷ ms) ≡ false) → is_among k (m ∷ ms) ≡ false
    by later (inr none) = none
    by later (inl is) = absurd (in_front later (cases_eq m k))
      where
        in_front : is_among k ms ≡ false → (m ≡ k) ⊎ (m ≡ k → ⊥) → ⊥
        in_front none (inl e) = true≢false (sym (subst (λ (j : ℕ). is_among j s ≡ true) (sym e) there) ∙ apart.0)
        in_front none (inr other) = true≢false (sym is ∙ ap (λ (b : Bool). b || is_among k ms) (ne_eqb m k other) ∙ none)

-- numbers after others are apart from these the other way round too
apart_flip : (r xs ys : List ℕ) → AreApart r xs → AreApart (xs ++ r) ys → AreApart (ys ++ r) xs
apart_flip r [] ys first second = tt
apart_flip r (x ∷ xs) ys first second = (
  not_among x (ys ++ r) (λ is. never (among_cases x ys r is)),
  apart_less (ys ++ x ∷ r) (x ∷ ys ++ r) xs (swap_back x ys r) (apart_flip (x ∷ r) xs ys first.1 (apart_less (x ∷ xs ++ r) (xs ++ x ∷ r) ys (swap x xs r) second)),
)
  where
    never : (is_among x ys ≡ true) ⊎ (is_among x r ≡ true) → ⊥
    never (inl is) = true≢false (sym is ∙ apart_not x ys (x ∷ xs ++ r) (among_first x (xs ++ r)) second)
    never (inr is) = true≢false (sym is ∙ first.0)

-- two parts of numbers change places
pub apart_turn : (r xs ys zs : List ℕ) → AreApart r (xs ++ (ys ++ zs)) → AreApart r (ys ++ (xs ++ zs))
apart_turn r xs ys zs apart =
    let first = apart_first r xs (ys ++ zs) apart in
    let rest = apart_second r xs (ys ++ zs) apart in
    let second = apart_first (xs ++ r) ys zs rest in
    let third = apart_second (xs ++ r) ys zs rest in
    apart_join r ys (xs ++ zs) (apart_less (xs ++ r) r ys (λ k is. among_right k xs r is) second)
    (apart_join (ys ++ r) xs zs (apart_flip r xs ys first second) (apart_less (ys ++ (xs ++ r)) (xs ++ (ys ++ r)) zs (λ k is. turned k (among_cases k xs (ys ++ r) is)) third))
  where
    turned : (k : ℕ) → (is_among k xs ≡ true) ⊎ (is_among k (ys ++ r) ≡ true) → is_among k (ys ++ (xs ++ r)) ≡ true
    turned k (inl is) = among_right k ys (xs ++ r) (among_left k xs r is)
    turned k (inr is) = after (among_cases k ys r is)
      where
        after : (is_among k ys ≡ true) ⊎ (is_among k r ≡ true) → is_among k (ys ++ (xs ++ r)) ≡ true
        after (inl s) = among_left k ys (xs ++ r) s
        after (inr s) = among_right k ys (xs ++ r) (among_right k xs r s)

-- of numbers in front the others stay apart when they go
pub apart_rest : (r xs ys : List ℕ) → AreApart r (xs ++ ys) → AreApart r ys
apart_rest r xs ys apart = apart_less (xs ++ r) r ys (λ k is. among_right k xs r is) (apart_second r xs ys apart)
