-- Lists under a filter, and joined.
use Rattle.std.proofs.Common.{◌≡◌, ◌||◌, Bool, true, false, cond, List, [], ◌∷◌, ◌++◌, filter, length, refl, ◌∙◌, ap, arith}
use Rattle.std.specs.Prelude.{Option, Some, None, find}
use Rattle.std.specs.List.{AllByRecursion, list_any}

module _ {X : Type 0} where
  module _ (P : X → Type 0) (p : X → Bool) where
    all_first : (x : X) (xs : List X) (b : Bool) → P x → AllByRecursion P xs → AllByRecursion P (cond b (x ∷ xs) xs)
    all_first x xs true here rest = (here, rest)
    all_first x xs false here rest = rest

    pub all_filter : (xs : List X) → AllByRecursion P xs → AllByRecursion P (filter p xs)
    all_filter [] all = tt
    all_filter (x ∷ xs) all = all_first x (filter p xs) (p x) all.0 (all_filter xs all.1)

  pub all_joined : (P : X → Type 0) (xs ys : List X) → AllByRecursion P xs → AllByRecursion P ys → AllByRecursion P (xs ++ ys)
  all_joined P [] ys a b = b
  all_joined P (x ∷ xs) ys a b = (a.0, all_joined P xs ys a.1 b)

  pub all_weaker : (P Q : X → Type 0) → ((x : X) → P x → Q x) → (xs : List X) → AllByRecursion P xs → AllByRecursion Q xs
  all_weaker P Q h [] all = tt
  all_weaker P Q h (x ∷ xs) all = (h x all.0, all_weaker P Q h xs all.1)

  pub all_both : (P Q R : X → Type 0) → ((x : X) → P x → Q x → R x) → (xs : List X) → AllByRecursion P xs → AllByRecursion Q xs → AllByRecursion R xs
  all_both P Q R h [] a b = tt
  all_both P Q R h (x ∷ xs) a b = (h x a.0 b.0, all_both P Q R h xs a.1 b.1)

  passed_first : (p : X → Bool) (x : X) (xs : List X) (b : Bool) → p x ≡ b → AllByRecursion (λ y. p y ≡ true) xs → AllByRecursion (λ y. p y ≡ true) (cond b (x ∷ xs) xs)
  passed_first p x xs true e rest = (e, rest)
  passed_first p x xs false e rest = rest

  -- what is left by a filter passes it
  pub passed : (p : X → Bool) (xs : List X) → AllByRecursion (λ y. p y ≡ true) (filter p xs)
  passed p [] = tt
  passed p (x ∷ xs) = passed_first p x (filter p xs) (p x) refl (passed p xs)

  none_first : (p : X → Bool) (x : X) (xs : List X) (b : Bool) → p x ≡ b → length (cond b (x ∷ filter p xs) (filter p xs)) ≡ 0 → (length (filter p xs) ≡ 0 → AllByRecursion (λ y. p y ≡ false) xs) → (p x ≡ false) × AllByRecursion (λ y. p y ≡ false) xs
  none_first p x xs true e none rest = absurd (omega arith)
  none_first p x xs false e none rest = (e, rest none)

  -- what leaves nothing passes nothing
  pub none_passed : (p : X → Bool) (xs : List X) → length (filter p xs) ≡ 0 → AllByRecursion (λ y. p y ≡ false) xs
  none_passed p [] none = tt
  none_passed p (x ∷ xs) none = none_first p x xs (p x) refl none (none_passed p xs)

  -- ---- the first that passes

  -- one, or another where there is none
  abbrev pub or_else : Option X → Option X → Option X
  or_else (Some x) o = Some x
  or_else None o = o

  pub find_joined : (t : X → Bool) (xs ys : List X) → find t (xs ++ ys) ≡ or_else (find t xs) (find t ys)
  find_joined t [] ys = refl
  find_joined t (x ∷ xs) ys = ap (λ (o : Option X). cond (t x) (Some x) o) (find_joined t xs ys) ∙ by_test (t x)
    where
      by_test : (b : Bool) → cond b (Some x) (or_else (find t xs) (find t ys)) ≡ or_else (cond b (Some x) (find t xs)) (find t ys)
      by_test true = refl
      by_test false = refl

  module _ (t p : X → Bool) where
    kept_first : (x : X) (xs : List X) (b c : Bool) → t x ≡ b → p x ≡ c → (b ≡ true → c ≡ true) → find t (filter p xs) ≡ find t xs → find t (cond c (x ∷ filter p xs) (filter p xs)) ≡ cond b (Some x) (find t xs)
    kept_first x xs true true e f both rest = ap (λ b. cond b (Some x) (find t (filter p xs))) e
    kept_first x xs true false e f both rest = let no = both refl in cc
    kept_first x xs false true e f both rest = ap (λ b. cond b (Some x) (find t (filter p xs))) e ∙ rest
    kept_first x xs false false e f both rest = rest

    -- a filter keeps what is found
    pub find_kept : ((x : X) → t x ≡ true → p x ≡ true) → (xs : List X) → find t (filter p xs) ≡ find t xs
    find_kept both [] = refl
    find_kept both (x ∷ xs) = kept_first x xs (t x) (p x) refl refl (both x) (find_kept both xs)

    gone_first : (x : X) (xs : List X) (b c : Bool) → t x ≡ b → p x ≡ c → (b ≡ true → c ≡ false) → find t (filter p xs) ≡ None → find t (cond c (x ∷ filter p xs) (filter p xs)) ≡ None
    gone_first x xs true true e f apart rest = let no = apart refl in cc
    gone_first x xs true false e f apart rest = rest
    gone_first x xs false true e f apart rest = ap (λ b. cond b (Some x) (find t (filter p xs))) e ∙ rest
    gone_first x xs false false e f apart rest = rest

    -- or loses it
    pub find_gone : ((x : X) → t x ≡ true → p x ≡ false) → (xs : List X) → find t (filter p xs) ≡ None
    find_gone apart [] = refl
    find_gone apart (x ∷ xs) = gone_first x xs (t x) (p x) refl refl (apart x) (find_gone apart xs)

  pub find_none : (t : X → Bool) (xs : List X) → list_any t xs ≡ false → find t xs ≡ None
  find_none t [] e = refl
  find_none t (x ∷ xs) e = first (t x) (find_none t xs) e
    where
      first : (b : Bool) → (list_any t xs ≡ false → find t xs ≡ None) → (b || list_any t xs) ≡ false → cond b (Some x) (find t xs) ≡ None
      first true rest e = cc
      first false rest e = rest e
