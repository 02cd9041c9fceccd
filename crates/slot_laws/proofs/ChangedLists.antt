-- Lists whose items are changed by one function, tested alike before and after.
use Rattle.std.proofs.Common.{◌≡◌, ℕ, zero, suc, ◌+◌, ◌<◌, ◌≤◌, Bool, true, false, cond, List, [], ◌∷◌, map, length, get_or, Option, Some, None, refl, sym, ap, ◌∙◌, arith}
use Rattle.std.specs.Prelude.{◌||◌, nat_lt, not, is_some}
use Rattle.std.specs.List.{AllByRecursion, cons_option, enumerate_from, filter, filter_map, find, list_any, position, position_or_len, slice_get}
use Rattle.std.specs.Option.{option_map, option_map_or}
use Rattle.std.proofs.lemmas.Bool.{lt-ltb, ltb-false}
use Rattle.std.proofs.lemmas.Bool.Decides.{nat_tests}
use Rattle.std.proofs.lemmas.List.{length-map}

module _ {X Y : Type 0} (p : X → Bool) (q : Y → Bool) (f : X → Y) (alike : (x : X) → q (f x) ≡ p x) where
  -- whether any passes
  pub list_any-map : (xs : List X) → list_any q (map f xs) ≡ list_any p xs
  list_any-map [] = refl
  list_any-map (x ∷ xs) = ap (λ (b : Bool). b || list_any q (map f xs)) (alike x) ∙ ap (λ (b : Bool). p x || b) (list_any-map xs)

  kept : (x : X) (ys : List Y) (xs : List X) (b : Bool) → ys ≡ map f xs → cond b (f x ∷ ys) ys ≡ map f (cond b (x ∷ xs) xs)
  kept x ys xs true same = ap (λ l. f x ∷ l) same
  kept x ys xs false same = same

  -- which pass
  pub filter-map : (xs : List X) → filter q (map f xs) ≡ map f (filter p xs)
  filter-map [] = refl
  filter-map (x ∷ xs) = ap (λ (b : Bool). cond b (f x ∷ filter q (map f xs)) (filter q (map f xs))) (alike x) ∙ kept x (filter q (map f xs)) (filter p xs) (p x) (filter-map xs)

  -- the first that passes, and what it holds
  pub find-map : {Z : Type 0} (g : X → Z) (h : Y → Z) (none : Z) → ((x : X) → p x ≡ true → h (f x) ≡ g x) → (xs : List X) → (is_some (find q (map f xs)) ≡ is_some (find p xs)) × (option_map_or h (find q (map f xs)) none ≡ option_map_or g (find p xs) none)
  find-map {Z = Z} g h none held [] = (refl, refl)
  find-map {Z = Z} g h none held (x ∷ xs) = rw (alike x) (found (p x) (find p xs) (find q (map f xs)) (find-map g h none held xs) (held x))
    where
      found : (b : Bool) (o : Option X) (r : Option Y) → (is_some r ≡ is_some o) × (option_map_or h r none ≡ option_map_or g o none) → (b ≡ true → h (f x) ≡ g x) → (is_some (cond b (Some (f x)) r) ≡ is_some (cond b (Some x) o)) × (option_map_or h (cond b (Some (f x)) r) none ≡ option_map_or g (cond b (Some x) o) none)
      found true o r behind here = (refl, here refl)
      found false o r behind here = behind

-- the item of a number
pub slice_get-map : {X Y : Type 0} (f : X → Y) (xs : List X) (i : ℕ) → slice_get (map f xs) i ≡ option_map f (slice_get xs i)
slice_get-map f [] i = refl
slice_get-map f (x ∷ xs) zero = refl
slice_get-map f (x ∷ xs) (suc i) = slice_get-map f xs i

module _ {X Y : Type 0} (P : X → Type 0) (f : X → Y) where
  -- what is made of items with their numbers
  pub filter_map-map : {Z : Type 0} (g : ℕ × X → Option Z) (h : ℕ × Y → Option Z) → ((k : ℕ) (x : X) → P x → h (k, f x) ≡ g (k, x)) → (n : ℕ) (xs : List X) → AllByRecursion P xs → filter_map h (enumerate_from n (map f xs)) ≡ filter_map g (enumerate_from n xs)
  filter_map-map {Z = Z} g h alike n [] all = refl
  filter_map-map {Z = Z} g h alike n (x ∷ xs) all =
      ap (λ (o : Option Z). cons_option o (filter_map h (enumerate_from (n + 1) (map f xs)))) (alike n x all.0)
      ∙ ap (cons_option (g (n, x))) (filter_map-map g h alike (n + 1) xs all.1)

  module _ (p : X → Bool) (q : Y → Bool) (alike : (x : X) → P x → q (f x) ≡ p x) where
    position_or_len-map : (xs : List X) → AllByRecursion P xs → position_or_len q (map f xs) ≡ position_or_len p xs
    position_or_len-map [] all = refl
    position_or_len-map (x ∷ xs) all =
        ap (λ (b : Bool). cond (not b) (1 + position_or_len q (map f xs)) 0) (alike x all.0)
        ∙ ap (λ (n : ℕ). cond (not (p x)) (1 + n) 0) (position_or_len-map xs all.1)

    -- the number of the first that passes
    pub position-map : (xs : List X) → AllByRecursion P xs → position q (map f xs) ≡ position p xs
    position-map xs all =
        let answer : ℕ → ℕ → Option ℕ = λ n m. cond (nat_lt n m) (Some n) None in
        ap (λ (n : ℕ). answer n (length (map f xs))) (position_or_len-map xs all) ∙ ap (λ (m : ℕ). answer (position_or_len p xs) m) (length-map xs f)

past : (n m : ℕ) → cond (nat_lt n m) (Some n) None ≡ None → m ≤ n
past n m none = by_test (nat_lt n m) refl none
  where
    by_test : (b : Bool) → nat_lt n m ≡ b → cond b (Some n) None ≡ None → m ≤ n
    by_test true is same = cc
    by_test false is same = ltb-false n m is

one_more : (n m : ℕ) → nat_lt n m ≡ nat_lt (1 + n) (suc m)
one_more n m = grind (arith, nat_tests)

told : (b : Bool) (n : ℕ) → is_some (cond b (Some n) None) ≡ b
told true n = refl
told false n = refl

module _ {X : Type 0} (p : X → Bool) where
  none_past : (xs : List X) → length xs ≤ position_or_len p xs → AllByRecursion (λ x. p x ≡ false) xs
  none_past [] over = tt
  none_past (x ∷ xs) over = by_test (p x) refl (none_past xs) over
    where
      by_test : (b : Bool) → p x ≡ b → (length xs ≤ position_or_len p xs → AllByRecursion (λ y. p y ≡ false) xs) → suc (length xs) ≤ cond (not b) (1 + position_or_len p xs) 0 → (p x ≡ false) × AllByRecursion (λ y. p y ≡ false) xs
      by_test true is behind more = absurd (omega (arith, more))
      by_test false is behind more = (is, behind (omega (arith, more)))

  -- where there is no first that passes, none does
  pub none_passes : (xs : List X) → position p xs ≡ None → AllByRecursion (λ x. p x ≡ false) xs
  none_passes xs none = none_past xs (past (position_or_len p xs) (length xs) none)

  -- so the item of no number does
  pub fails_at : (xs : List X) (i : ℕ) (d : X) → AllByRecursion (λ x. p x ≡ false) xs → i < length xs → p (get_or xs i d) ≡ false
  fails_at [] i d all low = absurd (omega (arith, low))
  fails_at (x ∷ xs) zero d all low = all.0
  fails_at (x ∷ xs) (suc i) d all low = fails_at xs i d all.1 (omega (arith, low))

  any_before : (xs : List X) → list_any p xs ≡ nat_lt (position_or_len p xs) (length xs)
  any_before [] = refl
  any_before (x ∷ xs) = by_test (p x) (any_before xs)
    where
      by_test : (b : Bool) → list_any p xs ≡ nat_lt (position_or_len p xs) (length xs) → (b || list_any p xs) ≡ nat_lt (cond (not b) (1 + position_or_len p xs) 0) (suc (length xs))
      by_test true behind = sym (lt-ltb 0 (suc (length xs)) (omega arith))
      by_test false behind = behind ∙ one_more (position_or_len p xs) (length xs)

  -- whether any passes, by the first that does
  pub any_first : (xs : List X) → list_any p xs ≡ is_some (position p xs)
  any_first xs = any_before xs ∙ sym (told (nat_lt (position_or_len p xs) (length xs)) (position_or_len p xs))
