-- The blocks of a lawful body after a place, by the numbers of places.
use Rattle.std.proofs.Common.{◌≡◌, ◌+◌, ◌*◌, ◌≤◌, ◌<◌, ◌==◌, ◌&&◌, ◌||◌, not, nat_le, nat_lt, ℕ, Bool, true, false, cond, List, [], ◌∷◌, filter, refl, sym, ◌∙◌, ap, subst, arith}
use Rattle.std.proofs.lemmas.Bool.Decides.{nat_tests}
use Rattle.std.specs.List.{AllByRecursion}
use Rattle.vol_model.specs.declared.contents.Block.{Block}
use Rattle.vol_model.specs.declared.contents.Place.{Place}
use Rattle.vol_model.specs.Lawful.{FollowFrom, IsLawfulBlock}
use Rattle.vol_model.specs.Reading.{blocks_from}
use Rattle.member_access.specs.Ends.{IsNextPlace, place_number}

-- ---- lists whose elements have ascending numbers

module _ {X : Type 0} (n : X → ℕ) where
  -- the numbers rise, from this one on
  abbrev pub RiseFrom : ℕ → List X → Type 0
  RiseFrom low [] = Unit {0}
  RiseFrom low (x ∷ xs) = (low ≤ n x) × RiseFrom (n x + 1) xs

  -- the elements from a number on
  abbrev pub from_number : ℕ → List X → List X
  from_number k xs = filter (λ x. nat_le k (n x)) xs

  all_stay : (k low : ℕ) (xs : List X) → k ≤ low → RiseFrom low xs → from_number k xs ≡ xs
  all_stay k low [] few rise = refl
  all_stay k low (x ∷ xs) few rise = ap (λ b. cond b (x ∷ from_number k xs) (from_number k xs)) (passes k (n x) (omega (arith, rise.0))) ∙ ap (λ l. x ∷ l) (all_stay k (n x + 1) xs (omega (arith, rise.0)) rise.1)
    where
      passes : (k m : ℕ) → k ≤ m → nat_le k m ≡ true
      passes k m low = grind (arith, nat_tests)

  first_from : (k : ℕ) (xs : List X) (x : X) (rest : List X) → from_number k xs ≡ x ∷ rest → k ≤ n x
  first_from k [] x rest is = cc
  first_from k (y ∷ xs) x rest is = by_test (nat_le k (n y)) refl (λ e. first_from k xs x rest e) is
    where
      low : (k m : ℕ) → nat_le k m ≡ true → k ≤ m
      low k m e = grind (arith, nat_tests)

      by_test : (b : Bool) → nat_le k (n y) ≡ b → (from_number k xs ≡ x ∷ rest → k ≤ n x) → cond b (y ∷ from_number k xs) (from_number k xs) ≡ x ∷ rest → k ≤ n x
      by_test true e later here = let same : y ≡ x = cc in subst (λ z. k ≤ n z) same (low k (n y) e)
      by_test false e later here = later here

  -- after the first of those from a number on are the others
  pub others_behind : (k low : ℕ) (xs : List X) (x : X) (rest : List X) → RiseFrom low xs → from_number k xs ≡ x ∷ rest → from_number (n x + 1) xs ≡ rest
  others_behind k low [] x rest rise is = cc
  others_behind k low (y ∷ xs) x rest rise is = by_test (nat_le k (n y)) refl (λ e. others_behind k (n y + 1) xs x rest rise.1 e) (λ e. first_from k xs x rest e) is
    where
      fails : (m j : ℕ) → j ≤ m → nat_le (m + 1) j ≡ false
      fails m j few = grind (arith, nat_tests)

      at_most : (k m : ℕ) → nat_le k m ≡ true → k ≤ m
      at_most k m e = grind (arith, nat_tests)

      below : (k m : ℕ) → nat_le k m ≡ false → m < k
      below k m e = grind (arith, nat_tests)

      dropped : (m : ℕ) → n y ≤ m → from_number (m + 1) (y ∷ xs) ≡ from_number (m + 1) xs
      dropped m few = ap (λ b. cond b (y ∷ from_number (m + 1) xs) (from_number (m + 1) xs)) (fails m (n y) few)

      by_test : (b : Bool) → nat_le k (n y) ≡ b → (from_number k xs ≡ x ∷ rest → from_number (n x + 1) xs ≡ rest) → (from_number k xs ≡ x ∷ rest → k ≤ n x) → cond b (y ∷ from_number k xs) (from_number k xs) ≡ x ∷ rest → from_number (n x + 1) (y ∷ xs) ≡ rest
      by_test true e later first here =
          let same : y ≡ x = cc in
          let others : from_number k xs ≡ rest = cc in
          subst (λ z. from_number (n z + 1) (y ∷ xs) ≡ rest) same
          (dropped (n y) (omega arith) ∙ all_stay (n y + 1) (n y + 1) xs (omega arith) rise.1 ∙ sym (all_stay k (n y + 1) xs (omega (arith, at_most k (n y) e)) rise.1) ∙ others)
      by_test false e later first here = dropped (n x) (omega (arith, below k (n y) e, first here)) ∙ later here

-- ---- blocks

abbrev number_of : Block → ℕ
number_of b = place_number b.place

-- the order of places is that of their numbers
by_number : (a r b s : ℕ) → r ≤ 255 → s ≤ 255 → not (nat_lt a b || (a == b && nat_lt r s)) ≡ nat_le (b * 256 + s) (a * 256 + r)
by_number a r b s low few = grind (arith, nat_tests)

next_number : (a r b s : ℕ) → r ≤ 255 → ((b == a && s == r + 1) || (nat_lt a b && s == 1)) ≡ true → a * 256 + r + 1 ≤ b * 256 + s
next_number a r b s low next = grind (arith, nat_tests)

-- blocks that follow one another rise
rises : (tracks : ℕ) (p : Place) (bs : List Block) → p.r ≤ 255 → FollowFrom tracks p bs → AllByRecursion IsLawfulBlock bs → RiseFrom number_of (place_number p + 1) bs
rises tracks p [] low follow lawful = tt
rises tracks p (b ∷ bs) low follow lawful = (next_number p.tt p.r b.place.tt b.place.r low follow.1, rises tracks b.place bs lawful.0.place follow.2 lawful.1)

from_same : (p : Place) (bs : List Block) → p.r ≤ 255 → AllByRecursion IsLawfulBlock bs → blocks_from p bs ≡ from_number number_of (place_number p) bs
from_same p [] low lawful = refl
from_same p (b ∷ bs) low lawful =
    ap (λ t. cond t (b ∷ blocks_from p bs) (blocks_from p bs)) (by_number b.place.tt b.place.r p.tt p.r lawful.0.place low)
    ∙ ap (λ l. cond (nat_le (place_number p) (number_of b)) (b ∷ l) l) (from_same p bs low lawful.1)

-- Blocks are lawful, and their places rise.
pub record AreOrdered (bs : List Block) : Type 0 where
  pub rise : RiseFrom number_of 0 bs
  pub each : AllByRecursion IsLawfulBlock bs

pub ordered : (tracks : ℕ) (p : Place) (bs : List Block) → FollowFrom tracks p bs → AllByRecursion IsLawfulBlock bs → AreOrdered bs
ordered tracks p [] follow lawful = record { rise = tt; each = tt }
ordered tracks p (b ∷ bs) follow lawful = record { rise = (omega arith, rises tracks b.place bs lawful.0.place follow.2 lawful.1); each = lawful }

-- after the first block at or after a place are the others
pub blocks_behind : (bs : List Block) → AreOrdered bs → (p next : Place) (b : Block) (rest : List Block) → p.r ≤ 255 → blocks_from p bs ≡ b ∷ rest → IsNextPlace b.place next → blocks_from next bs ≡ rest
blocks_behind bs are p next b rest low is after =
    from_same next bs after.place.1 are.each
    ∙ ap (λ (k : ℕ). from_number number_of k bs) after.number
    ∙ others_behind number_of (place_number p) 0 bs b rest are.rise (sym (from_same p bs low are.each) ∙ is)
