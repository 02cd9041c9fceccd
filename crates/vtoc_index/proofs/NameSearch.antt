-- A name that is searched for in the order of names.
use Rattle.std.proofs.Common.{◌≡◌, ℕ, suc, ◌+◌, ◌<◌, ◌≤◌, Bool, true, false, cond, List, [], ◌∷◌, length, get_or, Option, Some, None, refl, sym, ap, subst, ◌∙◌, arith, inl, inr}
use Rattle.std.specs.declared.cmp.Ordering.{Ordering}
use Rattle.std.specs.declared.cmp.Ordering.TheVariants.{Less, Equal, Greater}
use Rattle.std.specs.Ordering.{is_lt, nat_cmp, ordering_reverse}
use Rattle.std.specs.Cmp.Lexicographic.{slice_cmp}
use Rattle.std.specs.Prelude.{◌||◌, nat_lt, not}
use Rattle.std.specs.List.{list_any, position, position_or_len, slice_get}
use Rattle.std.proofs.lemmas.Bool.{ltb-false}
use Rattle.std.proofs.lemmas.Bool.Decides.{leb_tells}
use Rattle.std.proofs.lemmas.Cmp.{nat_list_cmp_total}
use Rattle.std.proofs.lemmas.Option.{slice_get-get_or}
use Rattle.vtoc_index.specs.Names.{AreByName, IsFrom, is_lower, or_zeros}
use Rattle.vtoc_index.proofs.NameOrder.{compare, name_there, not_before, place_named, rises, slice_some, truth, zeros_some}

-- a name that stands after another doesn't stand before it
pub not_lower : (m n : List ℕ) → compare m n ≡ Less → is_lt (compare n m) ≡ false
not_lower m n less = ap is_lt (nat_list_cmp_total.antisymm n m ∙ ap ordering_reverse less)

lt_less : (o : Ordering) → is_lt o ≡ true → o ≡ Less
lt_less Less is = refl
lt_less Equal is = cc
lt_less Greater is = cc

module _ (name : ℕ → Option (List ℕ)) (xs : List ℕ) (order : AreByName name xs) (n : List ℕ) where
  -- by which slots are searched
  abbrev key : ℕ → List ℕ
  key s = or_zeros (name s)

  key_is : (s : ℕ) (m : List ℕ) → name s ≡ Some m → key s ≡ m
  key_is s m is = ap or_zeros is ∙ zeros_some m

  abbrev lower : ℕ → Bool
  lower s = is_lower name n s

  -- the names rise from place to place
  key_rises : (i j : ℕ) → i < j → j < length xs → compare (key (get_or xs i 0)) (key (get_or xs j 0)) ≡ Less
  key_rises i j less low =
      let here = name_there name xs order i (omega (arith, less, low)) in
      let there = name_there name xs order j low in
      ap (λ (m : List ℕ). compare m (key (get_or xs j 0))) (key_is (get_or xs i 0) here.0 here.1)
      ∙ ap (λ (m : List ℕ). compare here.0 m) (key_is (get_or xs j 0) there.0 there.1)
      ∙ rises name xs order i j here.0 there.0 less low here.1 there.1

  -- in front of a name that stands before another, all do
  pub before_lower : (i k : ℕ) → i < length xs → lower (get_or xs i 0) ≡ true → k < i + 1 → lower (get_or xs k 0) ≡ true
  before_lower i k low is less = elim (leb_tells (suc k) i) [
    | inl w ↦ ap is_lt (nat_list_cmp_total.trans (key (get_or xs k 0)) (key (get_or xs i 0)) n (key_rises k i w.1 low) (lt_less (compare (key (get_or xs i 0)) n) is))
    | inr w ↦ let same : i ≡ k = omega (arith, w.1, less) in ap (λ (m : ℕ). lower (get_or xs m 0)) (sym same) ∙ is
  ]

  -- and after one that doesn't, none does
  pub behind_lower : (i k : ℕ) → lower (get_or xs i 0) ≡ false → i ≤ k → k < length xs → lower (get_or xs k 0) ≡ false
  behind_lower i k is le low = elim (truth (lower (get_or xs k 0))) [
    | inl up ↦ let both : true ≡ false = sym (before_lower k i low up (omega (arith, le))) ∙ is in cc
    | inr down ↦ down
  ]

  -- a slot that is found has the name, or none has it
  pub from_is : (found : Option ℕ) (slot : ℕ) → IsFrom name xs n found → found ≡ Some slot → key slot ≡ n → name slot ≡ Some n
  from_is found slot from is same =
      let at = slice_some xs from.place slot (sym from.slot ∙ is) in
      let there = name_there name xs order from.place at.0 in
      let here : name slot ≡ Some there.0 = ap name (sym (at.1 0)) ∙ there.1 in
      here ∙ ap Some (sym (key_is slot there.0 here) ∙ same)

  pub from_other : (found : Option ℕ) → IsFrom name xs n found → ((slot : ℕ) → found ≡ Some slot → key slot ≡ n → ⊥) → (s : ℕ) → name s ≡ Some n → ⊥
  from_other found from never s named =
      let p = place_named name xs order s n named in
      let here : key (get_or xs p.0 0) ≡ n = ap key p.2 ∙ key_is s n named in
      elim (leb_tells (suc p.0) from.place) [
        | inl w ↦ not_before n (ap (λ (m : List ℕ). compare m n) (sym here) ∙ lt_less (compare (key (get_or xs p.0 0)) n) (from.below p.0 w.1))
        | inr w ↦ elim (leb_tells (suc from.place) p.0) [
          | inl v ↦
              let less = key_rises from.place p.0 v.1 p.1 in
              let low = from.above from.place (omega arith) (omega (arith, v.1, p.1)) in
              let both : true ≡ false = sym (ap (λ (m : List ℕ). is_lt (compare (key (get_or xs from.place 0)) m)) (sym here) ∙ ap is_lt less) ∙ low in
              cc
          | inr v ↦
              let same : p.0 ≡ from.place = omega (arith, w.1, v.1) in
              never s (from.slot ∙ ap (slice_get xs) (sym same) ∙ slice_get-get_or xs p.0 0 p.1 ∙ ap Some p.2) (key_is s n named)
        ]
      ]

-- where a slot stands nowhere, it is none of these
none_passes_more : (b rest : Bool) (m k : ℕ) → suc k ≤ cond (not b) (1 + m) 0 → (k ≤ m → rest ≡ false) → (b || rest) ≡ false
none_passes_more true rest m k h f = absurd (omega (arith, h))
none_passes_more false rest m k h f = f (omega (arith, h))

none_passes : (p : ℕ → Bool) (xs : List ℕ) → length xs ≤ position_or_len p xs → list_any p xs ≡ false
none_passes p [] h = refl
none_passes p (x ∷ xs) h = none_passes_more (p x) (list_any p xs) (position_or_len p xs) (length xs) h (none_passes p xs)

pub nowhere : (p : ℕ → Bool) (xs : List ℕ) → position p xs ≡ None → list_any p xs ≡ false
nowhere p xs is = none_passes p xs (ltb-false (position_or_len p xs) (length xs) (missing (nat_lt (position_or_len p xs) (length xs)) is))
  where
    missing : (b : Bool) → cond b (Some (position_or_len p xs)) None ≡ None → b ≡ false
    missing true none = cc
    missing false none = refl
