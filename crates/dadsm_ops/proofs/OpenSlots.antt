-- Open slots of a VTOC, one of which gets a DSCB that isn't open.
use Rattle.std.proofs.Common.{◌≡◌, ℕ, zero, suc, ◌+◌, ◌<◌, ◌≤◌, Bool, true, false, cond, not, List, [], ◌∷◌, drop, length, Option, Some, None, refl, sym, ap, ◌∙◌, arith}
use Rattle.std.specs.Prelude.{count_by, nat_lt, position, slice_get, slice_set}
use Rattle.std.specs.List.{position_or_len}
use Rattle.std.proofs.lemmas.Bool.Decides.{nat_tests}
use Rattle.std.proofs.lemmas.List.Sums.{sum_by-cons}

module _ {X : Type 0} (p : X → Bool) where
  count_more : (x : X) (xs : List X) → count_by p (x ∷ xs) ≡ cond (p x) 1 0 + count_by p xs
  count_more x xs = sum_by-cons (λ (y : X). cond (p y) 1 0) x xs

  -- Where some pass, there is a first that does.
  pub record Found (xs : List X) (o : Option ℕ) : Type 0 where
    pub place : ℕ
    pub is : o ≡ Some place
    pub item : X
    pub there : slice_get xs place ≡ Some item
    pub passes : p item ≡ true

  found_from : (xs : List X) → 1 ≤ count_by p xs → (k : ℕ) × (x : X) × (position_or_len p xs ≡ k) × (k < length xs) × (slice_get xs k ≡ Some x) × (p x ≡ true)
  found_from [] some = absurd (omega (arith, some))
  found_from (x ∷ xs) some = by_test (p x) refl (λ more. found_from xs more)
    where
      behind_first : {m : ℕ} (n k : ℕ) → m ≡ 1 + n → n ≡ k → m ≡ suc k
      behind_first n k e f = omega (arith, e, f)

      by_test : (b : Bool) → p x ≡ b → (1 ≤ count_by p xs → (k : ℕ) × (y : X) × (position_or_len p xs ≡ k) × (k < length xs) × (slice_get xs k ≡ Some y) × (p y ≡ true))
          → (k : ℕ) × (y : X) × (position_or_len p (x ∷ xs) ≡ k) × (k < length (x ∷ xs)) × (slice_get (x ∷ xs) k ≡ Some y) × (p y ≡ true)
      by_test true is behind = (zero, x, ap {B = ℕ} (λ (t : Bool). cond (not t) (1 + position_or_len p xs) 0) is, omega arith, refl, is)
      by_test false is behind =
          let none : ◌≡◌ {A = ℕ} (cond (p x) 1 0) 0 = ap {B = ℕ} (λ (t : Bool). cond t 1 0) is in
          let less : 1 ≤ count_by p xs = omega (arith, some, count_more x xs, none) in
          let rest = behind less in (
            suc rest.0,
            rest.1,
            behind_first (position_or_len p xs) rest.0 (ap {B = ℕ} (λ (t : Bool). cond (not t) (1 + position_or_len p xs) 0) is) rest.2,
            omega (arith, rest.3),
            rest.4,
            rest.5,
          )

  pub found_first : (xs : List X) → 1 ≤ count_by p xs → Found xs (position p xs)
  found_first xs some =
      let f = found_from xs some in
      record {
        place = f.0;
        is = ap (λ (n : ℕ). cond (nat_lt n (length xs)) (Some n) None) f.2 ∙ ap (λ (b : Bool). cond b (Some f.0) None) (less f.0 (length xs) f.3);
        item = f.1;
        there = f.4;
        passes = f.5;
      }
    where
      less : (a b : ℕ) → a < b → nat_lt a b ≡ true
      less a b l = grind (arith, nat_tests)

  -- one fewer passes, where one that does gets another that doesn't
  pub count_less : (xs : List X) (k : ℕ) (x y : X) → slice_get xs k ≡ Some x → p x ≡ true → p y ≡ false → count_by p xs ≡ 1 + count_by p (slice_set xs k y)
  count_less [] k x y at is fails = cc
  count_less (z ∷ xs) zero x y at is fails =
      let same : z ≡ x = cc in
      let one : ◌≡◌ {A = ℕ} (cond (p z) 1 0) 1 = ap {B = ℕ} (λ (t : Bool). cond t 1 0) (ap p same ∙ is) in
      let none : ◌≡◌ {A = ℕ} (cond (p y) 1 0) 0 = ap {B = ℕ} (λ (t : Bool). cond t 1 0) fails in
      omega (arith, count_more z xs, count_more y xs, one, none)
  count_less (z ∷ xs) (suc k) x y at is fails = omega (arith, count_more z xs, count_more z (slice_set xs k y), count_less xs k x y at is fails)

drop_none : {X : Type 0} (xs : List X) → drop 0 xs ≡ xs
drop_none [] = refl
drop_none (x ∷ xs) = refl

-- what stands after the first two items
pub get_behind : {X : Type 0} (xs : List X) (k : ℕ) → slice_get (drop 2 xs) k ≡ slice_get xs (2 + k)
get_behind [] k = refl
get_behind (x ∷ []) k = let e : 2 + k ≡ suc (suc k) = omega arith in sym (ap (slice_get (x ∷ [])) e)
get_behind (x ∷ y ∷ xs) k = let e : 2 + k ≡ suc (suc k) = omega arith in ap (λ l. slice_get l k) (drop_none xs) ∙ sym (ap (slice_get (x ∷ y ∷ xs)) e)

pub set_behind : {X : Type 0} (xs : List X) (k : ℕ) (x : X) → drop 2 (slice_set xs (2 + k) x) ≡ slice_set (drop 2 xs) k x
set_behind [] k x = refl
set_behind (a ∷ []) k x = let e : 2 + k ≡ suc (suc k) = omega arith in ap (λ n. drop 2 (slice_set (a ∷ []) n x)) e
set_behind (a ∷ b ∷ xs) k x =
    let e : 2 + k ≡ suc (suc k) = omega arith in
    ap (λ n. drop 2 (slice_set (a ∷ b ∷ xs) n x)) e ∙ drop_none (slice_set xs k x) ∙ sym (ap (λ l. slice_set l k x) (drop_none xs))
