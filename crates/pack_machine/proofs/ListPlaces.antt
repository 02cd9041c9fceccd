-- Lists of which one element is set, or looked at, by its place.
use Rattle.std.proofs.Common.{◌≡◌, ◌≢◌, ◌<◌, ◌≤◌, ◌+◌, ℕ, zero, suc, Bool, true, false, cond, List, [], ◌∷◌, length, map, take, set, Option, Some, None, refl, sym, ap, ◌∙◌, arith}
use Rattle.std.specs.Prelude.{Contains, not, position, slice_get}
use Rattle.std.specs.List.{cons_option, enumerate_from, filter_map, position_or_len}
use Rattle.std.proofs.lemmas.Bool.{lt-ltb}
use Rattle.std.proofs.lemmas.Option.{slice_get_within}

pub there : {X : Type 0} (xs : List X) (k : ℕ) → k < length xs → (x : X) × (slice_get xs k ≡ Some x)
there [] k low = absurd (omega (arith, low))
there (x ∷ xs) zero low = (x, refl)
there (x ∷ xs) (suc k) low = there xs k (omega (arith, low))

-- the element that is set, and each other
pub get_set : {X : Type 0} (xs : List X) (k : ℕ) (x y : X) → slice_get xs k ≡ Some x → slice_get (set xs k y) k ≡ Some y
get_set [] k x y at = absurd cc
get_set (z ∷ xs) zero x y at = refl
get_set (z ∷ xs) (suc k) x y at = get_set xs k x y at

pub get_other : {X : Type 0} (xs : List X) (j k : ℕ) (y : X) → j ≢ k → slice_get (set xs k y) j ≡ slice_get xs j
get_other [] j k y other = refl
get_other (x ∷ xs) zero zero y other = absurd (other refl)
get_other (x ∷ xs) zero (suc k) y other = refl
get_other (x ∷ xs) (suc j) zero y other = refl
get_other (x ∷ xs) (suc j) (suc k) y other = get_other xs j k y (λ same. other (ap suc same))

-- an element that is set to itself
pub set_itself : {X : Type 0} (xs : List X) (k : ℕ) (x : X) → slice_get xs k ≡ Some x → set xs k x ≡ xs
set_itself [] k x at = absurd cc
set_itself (y ∷ xs) zero x at = let same : x ≡ y = cc in ap (λ z. z ∷ xs) same
set_itself (y ∷ xs) (suc k) x at = ap (λ zs. y ∷ zs) (set_itself xs k x at)

-- what stays of an element that is set stays of the list
pub map_set_same : {X Y : Type 0} (f : X → Y) (xs : List X) (k : ℕ) (x y : X) → slice_get xs k ≡ Some x → f y ≡ f x → map f (set xs k y) ≡ map f xs
map_set_same f [] k x y at same = absurd cc
map_set_same f (z ∷ xs) zero x y at same = let here : x ≡ z = cc in ap (λ w. w ∷ map f xs) (same ∙ ap f here)
map_set_same f (z ∷ xs) (suc k) x y at same = ap (λ ws. f z ∷ ws) (map_set_same f xs k x y at same)

-- what a function makes of a list of which an element is set
pub map_set : {X Y : Type 0} (f : X → Y) (xs : List X) (k : ℕ) (x : X) → map f (set xs k x) ≡ set (map f xs) k (f x)
map_set f [] k x = refl
map_set f (y ∷ ys) zero x = refl
map_set f (y ∷ ys) (suc k) x = ap (λ zs. f y ∷ zs) (map_set f ys k x)

pub set_size : {X : Type 0} (xs : List X) (k : ℕ) (y : X) → length (set xs k y) ≡ length xs
set_size [] k y = refl
set_size (x ∷ xs) zero y = refl
set_size (x ∷ xs) (suc k) y = ap suc (set_size xs k y)

-- an element of what a function makes of a list
pub get_map : {X Y : Type 0} (f : X → Y) (xs : List X) (k : ℕ) (x : X) → slice_get xs k ≡ Some x → slice_get (map f xs) k ≡ Some (f x)
get_map f [] k x at = absurd cc
get_map f (y ∷ xs) zero x at = let same : y ≡ x = cc in ap (λ z. Some (f z)) same
get_map f (y ∷ xs) (suc k) x at = get_map f xs k x at

-- and where the list has none
pub map_none : {X Y : Type 0} (f : X → Y) (xs : List X) (k : ℕ) → slice_get xs k ≡ None → slice_get (map f xs) k ≡ None
map_none f [] k none = refl
map_none f (y ∷ xs) zero none = absurd cc
map_none f (y ∷ xs) (suc k) none = map_none f xs k none

pub of_map : {X Y : Type 0} (f : X → Y) (xs : List X) (k : ℕ) (y : Y) → slice_get (map f xs) k ≡ Some y → (x : X) × (slice_get xs k ≡ Some x) × (f x ≡ y)
of_map f [] k y at = absurd cc
of_map f (x ∷ xs) zero y at = (x, refl, cc)
of_map f (x ∷ xs) (suc k) y at = of_map f xs k y at

-- elements with their numbers
pub numbered : {X : Type 0} (n : ℕ) (xs : List X) (k : ℕ) (p : ℕ × X) → slice_get (enumerate_from n xs) k ≡ Some p → (p.0 ≡ n + k) × (slice_get xs k ≡ Some p.1)
numbered n [] k p at = absurd cc
numbered {X} n (x ∷ xs) zero p at =
    let same : ◌≡◌ {A = ℕ × X} (n, x) p = some_same at in
    (ap (λ (q : ℕ × X). q.0) (sym same) ∙ omega arith, ap (λ (q : ℕ × X). Some q.1) same)
  where
    some_same : {a b : ℕ × X} → Some a ≡ Some b → a ≡ b
    some_same same = cc
numbered n (x ∷ xs) (suc k) p at =
    let rest = numbered (n + 1) xs k p at in (omega (arith, rest.0), rest.1)

pub number : {X : Type 0} (n : ℕ) (xs : List X) (k : ℕ) (x : X) → slice_get xs k ≡ Some x → slice_get (enumerate_from n xs) k ≡ Some (n + k, x)
number n [] k x at = absurd cc
number n (y ∷ xs) zero x at =
    let same : y ≡ x = cc in
    let none : n ≡ n + 0 = omega arith in
    ap (λ z. Some (n, z)) same ∙ ap (λ (m : ℕ). Some (m, x)) none
number n (y ∷ xs) (suc k) x at =
    let next : n + 1 + k ≡ n + suc k = omega arith in
    number (n + 1) xs k x at ∙ ap (λ (m : ℕ). Some (m, x)) next

pub number_of : {X : Type 0} (xs : List X) (k : ℕ) (x : X) → slice_get xs k ≡ Some x → slice_get (enumerate_from 0 xs) k ≡ Some (k, x)
number_of xs k x at = let same : 0 + k ≡ k = omega arith in number 0 xs k x at ∙ ap (λ (n : ℕ). Some (n, x)) same

-- nothing is kept where nothing is made of each, and else what is made of the first
pub none_kept : {X Y : Type 0} (f : X → Option Y) (xs : List X) → ((k : ℕ) (x : X) → slice_get xs k ≡ Some x → f x ≡ None) → filter_map f xs ≡ []
none_kept f [] each = refl
none_kept f (x ∷ xs) each = ap (λ o. cons_option o (filter_map f xs)) (each 0 x refl) ∙ none_kept f xs (λ k y at. each (suc k) y at)

pub first_kept : {X Y : Type 0} (f : X → Option Y) (xs : List X) (k : ℕ) (x : X) (y : Y) → slice_get xs k ≡ Some x → f x ≡ Some y → ((j : ℕ) (z : X) → j < k → slice_get xs j ≡ Some z → f z ≡ None) → slice_get (filter_map f xs) 0 ≡ Some y
first_kept f [] k x y at is before = absurd cc
first_kept f (w ∷ xs) zero x y at is before =
    let same : w ≡ x = cc in ap (λ o. slice_get (cons_option o (filter_map f xs)) 0) (ap f same ∙ is)
first_kept f (w ∷ xs) (suc k) x y at is before =
    ap (λ o. slice_get (cons_option o (filter_map f xs)) 0) (before 0 w (omega arith) refl)
    ∙ first_kept f xs k x y at is (λ j z low here. before (suc j) z (omega (arith, low)) here)

-- an element of the first ones of a list
pub of_take : {X : Type 0} (n : ℕ) (xs : List X) (k : ℕ) (x : X) → slice_get (take n xs) k ≡ Some x → (k < n) × (slice_get xs k ≡ Some x)
of_take zero xs k x at = absurd cc
of_take (suc n) [] k x at = absurd cc
of_take (suc n) (y ∷ xs) zero x at = (omega arith, at)
of_take (suc n) (y ∷ xs) (suc k) x at = let rest = of_take n xs k x at in (omega (arith, rest.0), rest.1)

pub in_take : {X : Type 0} (n : ℕ) (xs : List X) (k : ℕ) (x : X) → k < n → slice_get xs k ≡ Some x → slice_get (take n xs) k ≡ Some x
in_take zero xs k x low at = absurd (omega (arith, low))
in_take (suc n) [] k x low at = absurd cc
in_take (suc n) (y ∷ xs) zero x low at = at
in_take (suc n) (y ∷ xs) (suc k) x low at = in_take n xs k x (omega (arith, low)) at

-- the first element that passes a test stands no further than another that does
first_low : {X : Type 0} (p : X → Bool) (xs : List X) (k : ℕ) (x : X) → slice_get xs k ≡ Some x → p x ≡ true → position_or_len p xs ≤ k
first_low p [] k x at is = absurd cc
first_low p (y ∷ xs) zero x at is =
    let same : y ≡ x = cc in
    let none : position_or_len p (y ∷ xs) ≡ 0 = ap (λ (b : Bool). cond (not b) (1 + position_or_len p xs) 0) (ap p same ∙ is) in
    omega (arith, none)
first_low p (y ∷ xs) (suc k) x at is = by_test (p y) refl (first_low p xs k x at is)
  where
    by_test : (b : Bool) → p y ≡ b → position_or_len p xs ≤ k → position_or_len p (y ∷ xs) ≤ suc k
    by_test true test low =
        let none : position_or_len p (y ∷ xs) ≡ 0 = ap (λ (b : Bool). cond (not b) (1 + position_or_len p xs) 0) test in
        omega (arith, none)
    by_test false test low =
        let more : position_or_len p (y ∷ xs) ≡ 1 + position_or_len p xs = ap (λ (b : Bool). cond (not b) (1 + position_or_len p xs) 0) test in
        omega (arith, more, low)

-- where none is found, none passes
pub none_passes : {X : Type 0} (p : X → Bool) (xs : List X) (k : ℕ) (x : X) → position p xs ≡ None → slice_get xs k ≡ Some x → p x ≡ false
none_passes p xs k x none at = by_test (p x) refl
  where
    by_test : (b : Bool) → p x ≡ b → p x ≡ false
    by_test false is = is
    by_test true is =
        let low : position_or_len p xs < length xs = omega (arith, first_low p xs k x at is, slice_get_within xs k x at) in
        let found : position p xs ≡ Some (position_or_len p xs) = ap (λ (b : Bool). cond b (Some (position_or_len p xs)) None) (lt-ltb (position_or_len p xs) (length xs) low) in
        absurd (cc (found, none))

-- an element that stands at a place is one of the list
pub contains_at : {X : Type 0} (xs : List X) (k : ℕ) (x : X) → slice_get xs k ≡ Some x → Contains xs x
contains_at [] k x at = absurd cc
contains_at (y ∷ xs) zero x at = let same : y ≡ x = cc in (0, omega arith, same)
contains_at (y ∷ xs) (suc k) x at = let rest = contains_at xs k x at in (suc rest.0, omega (arith, rest.1), rest.2)
