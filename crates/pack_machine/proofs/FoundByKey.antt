-- What is found by a key, where some elements are taken out or get another key.
use Rattle.std.proofs.Common.{◌≡◌, ◌≢◌, ⊎_elim, ℕ, Bool, true, false, cond, not, List, [], ◌∷◌, map, Option, Some, None, refl, sym, ap, ◌∙◌}
use Rattle.std.proofs.lemmas.Bool.{cases_Bool, or_parts}
use Rattle.std.proofs.lemmas.Slice.Eq.{bytes_eq-Decides}
use Rattle.std.specs.List.{filter, find, list_any}
use Rattle.std.specs.Option.{option_map}
use Rattle.std.specs.Str.{bytes_eq}

module _ {X : Type 0} where
  pub none_found : (p : X → Bool) (xs : List X) → list_any p xs ≡ false → find p xs ≡ None
  none_found p [] none = refl
  none_found p (x ∷ xs) none =
      let parts = or_parts (p x) (list_any p xs) none in
      ap (λ (t : Bool). cond t (Some x) (find p xs)) parts.0 ∙ none_found p xs parts.1

  -- what is found passes
  pub find_passes : (p : X → Bool) (xs : List X) (x : X) → find p xs ≡ Some x → p x ≡ true
  find_passes p [] x is = absurd cc
  find_passes p (y ∷ xs) x is = by_test (p y) refl (find_passes p xs x) is
    where
      by_test : (b : Bool) → p y ≡ b → (find p xs ≡ Some x → p x ≡ true) → cond b (Some y) (find p xs) ≡ Some x → p x ≡ true
      by_test true test rest same = let this : y ≡ x = cc in ap p (sym this) ∙ test
      by_test false test rest same = rest same

  -- nothing is found, so the first isn't it
  not_first : (b : Bool) (x : X) (rest : Option X) → cond b (Some x) rest ≡ None → (b ≡ false) × (rest ≡ None)
  not_first true x rest is = absurd cc
  not_first false x rest is = (refl, is)

module _ {X : Type 0} (key : X → List ℕ) where
  abbrev pub has_key : List ℕ → X → Bool
  has_key m x = bytes_eq (key x) m

  other_key : (x : X) (m : List ℕ) → key x ≢ m → has_key m x ≡ false
  other_key x m differs = ⊎_elim (λ same. absurd (differs ((bytes_eq-Decides (key x) m).0 same))) (λ not. not) (cases_Bool (has_key m x))

  no_other : (x : X) (n m : List ℕ) → has_key n x ≡ true → n ≢ m → has_key m x ≡ false
  no_other x n m is differs = other_key x m (λ same. differs (sym ((bytes_eq-Decides (key x) n).0 is) ∙ same))

  pub others_none : (n : List ℕ) (xs : List X) → find (has_key n) (filter (λ x. not (has_key n x)) xs) ≡ None
  others_none n [] = refl
  others_none n (x ∷ xs) = by (has_key n x) refl (others_none n xs)
    where
      rest : List X
      rest = filter (λ y. not (has_key n y)) xs

      by : (b : Bool) → has_key n x ≡ b → find (has_key n) rest ≡ None → find (has_key n) (cond (not b) (x ∷ rest) rest) ≡ None
      by true is none = none
      by false is none = ap (λ (t : Bool). cond t (Some x) (find (has_key n) rest)) is ∙ none

  pub others_same : (n m : List ℕ) → n ≢ m → (xs : List X) → find (has_key m) (filter (λ x. not (has_key n x)) xs) ≡ find (has_key m) xs
  others_same n m differs [] = refl
  others_same n m differs (x ∷ xs) = by (has_key n x) refl (others_same n m differs xs)
    where
      rest : List X
      rest = filter (λ y. not (has_key n y)) xs

      by : (b : Bool) → has_key n x ≡ b → find (has_key m) rest ≡ find (has_key m) xs → find (has_key m) (cond (not b) (x ∷ rest) rest) ≡ cond (has_key m x) (Some x) (find (has_key m) xs)
      by true is same = same ∙ sym (ap (λ (t : Bool). cond t (Some x) (find (has_key m) xs)) (no_other x n m is differs))
      by false is same = ap (λ (o : Option X). cond (has_key m x) (Some x) o) same

  module _ (old new : List ℕ) (given : X → X) (renames : (x : X) → key (given x) ≡ new) where
    abbrev pub re_keyed : X → X
    re_keyed x = cond (has_key old x) (given x) x

    pub found_new : (xs : List X) → find (has_key new) xs ≡ None → find (has_key new) (map re_keyed xs) ≡ option_map given (find (has_key old) xs)
    found_new [] none = refl
    found_new (x ∷ xs) none =
        let parts = not_first (has_key new x) x (find (has_key new) xs) none in
        by (has_key old x) parts.0 (found_new xs parts.1)
      where
        by : (b : Bool) → has_key new x ≡ false → find (has_key new) (map re_keyed xs) ≡ option_map given (find (has_key old) xs)
            → find (has_key new) (cond b (given x) x ∷ map re_keyed xs) ≡ option_map given (cond b (Some x) (find (has_key old) xs))
        by true other rest = ap (λ (t : Bool). cond t (Some (given x)) (find (has_key new) (map re_keyed xs))) ((bytes_eq-Decides (key (given x)) new).1 (renames x))
        by false other rest = ap (λ (t : Bool). cond t (Some x) (find (has_key new) (map re_keyed xs))) other ∙ rest

    pub found_old : old ≢ new → (xs : List X) → find (has_key old) (map re_keyed xs) ≡ None
    found_old differs [] = refl
    found_old differs (x ∷ xs) = by (has_key old x) refl (found_old differs xs)
      where
        by : (b : Bool) → has_key old x ≡ b → find (has_key old) (map re_keyed xs) ≡ None → find (has_key old) (cond b (given x) x ∷ map re_keyed xs) ≡ None
        by true is rest = ap (λ (t : Bool). cond t (Some (given x)) (find (has_key old) (map re_keyed xs))) (other_key (given x) old (λ same. differs (sym same ∙ renames x))) ∙ rest
        by false is rest = ap (λ (t : Bool). cond t (Some x) (find (has_key old) (map re_keyed xs))) is ∙ rest

    pub found_other : (m : List ℕ) → old ≢ m → new ≢ m → (xs : List X) → find (has_key m) (map re_keyed xs) ≡ find (has_key m) xs
    found_other m not_old not_new [] = refl
    found_other m not_old not_new (x ∷ xs) = by (has_key old x) refl (found_other m not_old not_new xs)
      where
        by : (b : Bool) → has_key old x ≡ b → find (has_key m) (map re_keyed xs) ≡ find (has_key m) xs
            → find (has_key m) (cond b (given x) x ∷ map re_keyed xs) ≡ cond (has_key m x) (Some x) (find (has_key m) xs)
        by true is rest =
            ap (λ (t : Bool). cond t (Some (given x)) (find (has_key m) (map re_keyed xs))) (other_key (given x) m (λ same. not_new (sym (renames x) ∙ same)))
            ∙ rest ∙ sym (ap (λ (t : Bool). cond t (Some x) (find (has_key m) xs)) (no_other x old m is not_old))
        by false is rest = ap (λ (o : Option X). cond (has_key m x) (Some x) o) rest

  -- what is changed under its key is found as before
  module _ (n : List ℕ) (f : X → X) (keeps : (x : X) → key (f x) ≡ key x) where
    abbrev pub changed_under : X → X
    changed_under x = cond (has_key n x) (f x) x

    pub found_changed : (m : List ℕ) (xs : List X) → find (has_key m) (map changed_under xs) ≡ option_map changed_under (find (has_key m) xs)
    found_changed m [] = refl
    found_changed m (x ∷ xs) = ap (λ (k : List ℕ). cond (bytes_eq k m) (Some (changed_under x)) (find (has_key m) (map changed_under xs))) (same_key (has_key n x))
        ∙ ap (λ (o : Option X). cond (has_key m x) (Some (changed_under x)) o) (found_changed m xs)
        ∙ by_test (has_key m x)
      where
        same_key : (b : Bool) → key (cond b (f x) x) ≡ key x
        same_key true = keeps x
        same_key false = refl

        by_test : (b : Bool) → cond b (Some (changed_under x)) (option_map changed_under (find (has_key m) xs)) ≡ option_map changed_under (cond b (Some x) (find (has_key m) xs))
        by_test true = refl
        by_test false = refl
