-- Entries whose names rise, with one put in, replaced or taken out.
use Rattle.std.proofs.Common.{◌≡◌, ◌⊎◌, ◌+◌, ◌≤◌, ◌<◌, ℕ, zero, suc, Bool, true, false, cond, not, List, [], ◌∷◌, ◌++◌, length, take, drop, get_or, Some, None, inl, inr, refl, sym, ap, ◌∙◌, subst, arith, ⊎_elim}
use Rattle.std.specs.Prelude.{slice_get, slice_set, position, nat_lt, ◌||◌}
use Rattle.std.specs.List.{AllByRecursion, list_any, position_or_len}
use Rattle.std.specs.Str.{bytes_eq}
use Rattle.std.proofs.lemmas.Bool.Decides.{nat_tests}
use Rattle.std.proofs.lemmas.Bool.{cases_lt}
use Rattle.std.proofs.lemmas.List.Quantifiers.{position-Some}
use Rattle.std.proofs.lemmas.Option.{slice_get-get_or}
use Rattle.chain_spec.specs.Kept.{Rises, RisesFrom}
use Rattle.vol_model.specs.declared.contents.Entry.{Entry}
use Rattle.pack_spec.specs.Directories.{name_number}
use Rattle.stow_ops.specs.Entries.{HasDropped, HasEntered, IsPlaceOf, StandsAt}

-- ---- lists

pub all_bytes : (xs : List ℕ) → ((i : ℕ) → get_or xs i 0 < 256) → AllByRecursion (λ (b : ℕ). b < 256) xs
all_bytes [] each = tt
all_bytes (x ∷ xs) each = (each zero, all_bytes xs (λ i. each (suc i)))

front_length : {X : Type 0} (xs : List X) (k : ℕ) → k ≤ length xs → length (take k xs) ≡ k
front_length [] zero low = refl
front_length [] (suc k) low = absurd (omega (arith, low))
front_length (x ∷ xs) zero low = refl
front_length (x ∷ xs) (suc k) low = let rest = front_length xs k (omega (arith, low)) in omega (arith, rest)

split_at : {X : Type 0} (xs : List X) (k : ℕ) → xs ≡ take k xs ++ drop k xs
split_at [] zero = refl
split_at [] (suc k) = refl
split_at (x ∷ xs) zero = refl
split_at {X = X} (x ∷ xs) (suc k) = ap (λ (l : List X). x ∷ l) (split_at xs k)

split_there : {X : Type 0} (xs : List X) (k : ℕ) (x : X) → slice_get xs k ≡ Some x → xs ≡ take k xs ++ x ∷ drop (k + 1) xs
split_there [] k x is = cc
split_there {X = X} (y ∷ xs) zero x is = let same : y ≡ x = cc in ap (λ (z : X). z ∷ xs) same
split_there {X = X} (y ∷ xs) (suc k) x is =
    let next : suc (k + 1) ≡ suc k + 1 = omega arith in
    ap (λ (l : List X). y ∷ l) (split_there xs k x is) ∙ ap (λ (n : ℕ). y ∷ (take k xs ++ x ∷ drop n (y ∷ xs))) next

set_there : {X : Type 0} (xs : List X) (k : ℕ) (x y : X) → slice_get xs k ≡ Some x → slice_set xs k y ≡ take k xs ++ y ∷ drop (k + 1) xs
set_there [] k x y is = cc
set_there (z ∷ xs) zero x y is = refl
set_there {X = X} (z ∷ xs) (suc k) x y is =
    let next : suc (k + 1) ≡ suc k + 1 = omega arith in
    ap (λ (l : List X). z ∷ l) (set_there xs k x y is) ∙ ap (λ (n : ℕ). z ∷ (take k xs ++ y ∷ drop n (z ∷ xs))) next

within : {X : Type 0} (xs : List X) (k : ℕ) (x : X) → slice_get xs k ≡ Some x → k < length xs
within [] k x is = cc
within (y ∷ xs) zero x is = omega arith
within (y ∷ xs) (suc k) x is = let rest = within xs k x is in omega (arith, rest)

-- ---- what the code does

pub entered_added : (e : Entry) (old new : List Entry) (at : ℕ) → at ≤ length old → IsPlaceOf old e at → (StandsAt old e at → ⊥) → new ≡ take at old ++ e ∷ drop at old → HasEntered e old new
entered_added e old new at low place free is =
    let long : at ≡ length (take at old) = sym (front_length old at low) in
    HasEntered.added (take at old) (drop at old) (subst (IsPlaceOf old e) long place) (λ there. free (subst (StandsAt old e) (sym long) there)) (split_at old at) is

pub entered_replaced : (e : Entry) (old new : List Entry) (at : ℕ) → IsPlaceOf old e at → StandsAt old e at → new ≡ slice_set old at e → HasEntered e old new
entered_replaced e old new at place there is =
    let long : at ≡ length (take at old) = sym (front_length old at (omega (arith, within old at there.0 there.1))) in
    HasEntered.replaced (take at old) there.0 (drop (at + 1) old) (subst (IsPlaceOf old e) long place) there.2 (split_there old at there.0 there.1) (is ∙ set_there old at there.0 e there.1)

pub dropped_at : (name : List ℕ) (old new : List Entry) (at : ℕ) (d : Entry) → position (λ (e : Entry). bytes_eq e.name.bytes name) old ≡ Some at → new ≡ take at old ++ drop (at + 1) old → HasDropped name old new
dropped_at name old new at d found is =
    let there = position-Some (λ (e : Entry). bytes_eq e.name.bytes name) old at d found in
    record { front = take at old; dropped = get_or old at d; rest = drop (at + 1) old; was = split_there old at (get_or old at d) (slice_get-get_or old at d there.0); is = is; named = there.1 }

-- a test that no place passes
pub nowhere : {X : Type 0} (p : X → Bool) (xs : List X) → position p xs ≡ None → list_any p xs ≡ false
nowhere {X = X} p xs none = by (list_any p xs) refl
  where
    low : (b c : Bool) (n m : ℕ) → (b || c) ≡ true → (c ≡ true → n < m) → cond (not b) (1 + n) 0 < suc m
    low true c n m some rest = omega arith
    low false c n m some rest = omega (arith, rest some)

    within_some : (ys : List X) → list_any p ys ≡ true → position_or_len p ys < length ys
    within_some [] some = cc
    within_some (y ∷ ys) some = low (p y) (list_any p ys) (position_or_len p ys) (length ys) some (λ rest. within_some ys rest)

    found : (n m : ℕ) → n < m → cond (nat_lt n m) (Some n) None ≡ Some n
    found n m less = let is : nat_lt n m ≡ true = grind (arith, nat_tests) in ap (λ (b : Bool). cond b (Some n) None) is

    by : (b : Bool) → list_any p xs ≡ b → list_any p xs ≡ false
    by false is = is
    by true is = let some = found (position_or_len p xs) (length xs) (within_some xs is) in cc

-- ---- rising names

higher : (e : Entry) (es : List Entry) (k : ℕ) (x : Entry) → RisesFrom name_number (suc (name_number e)) es → slice_get es k ≡ Some x → name_number e < name_number x
higher e [] k x rise is = cc
higher e (y ∷ es) zero x rise is = let same : y ≡ x = cc in omega (arith, rise.0, ap name_number same)
higher e (y ∷ es) (suc k) x rise is =
    let rest = higher y es k x rise.1 is in omega (arith, rise.0, rest)

later : (bound : ℕ) (es : List Entry) (j k : ℕ) (x y : Entry) → RisesFrom name_number bound es → j < k → slice_get es j ≡ Some x → slice_get es k ≡ Some y → name_number x < name_number y
later bound [] j k x y rise less first second = cc
later bound (e ∷ es) j zero x y rise less first second = absurd (omega (arith, less))
later bound (e ∷ es) zero (suc k) x y rise less first second =
    let same : e ≡ x = cc in
    let rest = higher e es k y rise.1 second in omega (arith, rest, ap name_number same)
later bound (e ∷ es) (suc j) (suc k) x y rise less first second = later (suc (name_number e)) es j k x y rise.1 (omega (arith, less)) first second

some_before : {X : Type 0} (xs : List X) (j k : ℕ) (x : X) → j < k → slice_get xs k ≡ Some x → (y : X) × (slice_get xs j ≡ Some y)
some_before [] j k x less is = cc
some_before (y ∷ xs) zero k x less is = (y, refl)
some_before (y ∷ xs) (suc j) zero x less is = absurd (omega (arith, less))
some_before (y ∷ xs) (suc j) (suc k) x less is = some_before xs j k x (omega (arith, less)) is

-- where none stands at its place, none stands anywhere
pub stands_nowhere : (es : List Entry) (e : Entry) (at : ℕ) → Rises name_number es → IsPlaceOf es e at → (StandsAt es e at → ⊥) → (k : ℕ) → StandsAt es e k → ⊥
stands_nowhere es e at rise place free k there = by (cases_lt k at)
  where
    past : at ≤ k → (at ≡ k) ⊎ (at < k)
    past low = ⊎_elim (λ less. inr less) (λ same. inl (omega (arith, same, low))) (cases_lt at k)

    by : (k < at) ⊎ (at ≤ k) → ⊥
    by (inl less) = let low = place.before k there.0 less there.1 in omega (arith, low, there.2)
    by (inr high) = ⊎_elim (λ same. free (subst (StandsAt es e) (sym same) there)) (λ less.
        let first = some_before es at k there.0 less there.1 in
        let low = place.here first.0 first.1 in
        let more = later 0 es at k first.0 there.0 rise less first.1 there.1 in
        omega (arith, low, more, there.2)) (past high)
