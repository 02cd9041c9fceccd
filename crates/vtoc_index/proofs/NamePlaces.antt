-- A slot that is taken from its place in the order of names, or put at the place of its name.
use Rattle.std.proofs.Common.{◌≡◌, ◌≢◌, inl, inr, ℕ, zero, suc, ◌+◌, ◌<◌, ◌≤◌, Bool, true, false, cond, List, [], ◌∷◌, length, map, get_or, Option, Some, refl, sym, ap, subst, ◌∙◌, arith}
use Rattle.std.specs.Prelude.{◌==◌, is_some, position}
use Rattle.std.specs.declared.cmp.Ordering.{Ordering}
use Rattle.std.specs.declared.cmp.Ordering.TheVariants.{Less, Equal, Greater}
use Rattle.std.specs.Ordering.{is_lt, nat_cmp, ordering_reverse}
use Rattle.std.specs.Cmp.Lexicographic.{slice_cmp}
use Rattle.std.specs.List.{AllByRecursion, count_by, insert, list_any, remove}
use Rattle.std.specs.List.Sorted.{IsStrictlySortedBy}
use Rattle.std.proofs.lemmas.Bool.{eqb-true}
use Rattle.std.proofs.lemmas.Bool.Decides.{leb_tells}
use Rattle.std.proofs.lemmas.Cmp.{nat_list_cmp_total}
use Rattle.std.proofs.lemmas.List.{get_or_default, get_or-map, length-map}
use Rattle.std.proofs.lemmas.List.Edits.{get_or-remove_above, get_or-remove_below, length-remove}
use Rattle.std.proofs.lemmas.List.Quantifiers.{position-Some}
use Rattle.std.proofs.lemmas.List.Sorted.{IsPermutation-remove, list_any-IsPermutation}
use Rattle.std.proofs.lemmas.List.Sums.{sum_by-cons}
use Rattle.std.proofs.lemmas.Map.Keys.{sorted_from_all_adjacent}
use Rattle.std.proofs.lemmas.Map.Lookups.{exact_bytes}
use Rattle.vtoc_index.specs.Names.{AreByName, or_zeros}
use Rattle.vtoc_index.proofs.NameOrder.{compare, name_there, not_before, rises, zeros_some}

-- names by a key rise
abbrev pub ByKey : (ℕ → List ℕ) → List ℕ → Type 0
ByKey key xs = IsStrictlySortedBy (slice_cmp nat_cmp) (map key xs)

-- all of a list with one more
all_insert : (P : List ℕ → Type 0) (key : ℕ → List ℕ) (xs : List ℕ) (q x : ℕ) → P (key x) → AllByRecursion P (map key xs) → AllByRecursion P (map key (insert xs q x))
all_insert P key [] zero x here all = (here, tt)
all_insert P key [] (suc q) x here all = (here, tt)
all_insert P key (y ∷ ys) zero x here all = (here, all)
all_insert P key (y ∷ ys) (suc q) x here all = (all.0, all_insert P key ys q x here all.1)

-- none stands before a name that the first stands after
none_lower : (key : ℕ → List ℕ) (n : List ℕ) (y : List ℕ) (xs : List ℕ) → compare n y ≡ Less → AllByRecursion (λ m. compare y m ≡ Less) (map key xs) → (AllByRecursion (λ m. compare n m ≡ Less) (map key xs)) × (count_by (λ s. is_lt (compare (key s) n)) xs ≡ 0)
none_lower key n y [] less all = (tt, refl)
none_lower key n y (x ∷ xs) less all =
    let here : compare n (key x) ≡ Less = nat_list_cmp_total.trans n y (key x) less all.0 in
    let more = none_lower key n y xs less all.1 in
    let not_lower : is_lt (compare (key x) n) ≡ false = ap is_lt (nat_list_cmp_total.antisymm (key x) n ∙ ap ordering_reverse here) in
    ((here, more.0), sum_by-cons (λ s. cond (is_lt (compare (key s) n)) 1 0) x xs ∙ ap (λ (b : Bool). cond b 1 0 + count_by (λ s. is_lt (compare (key s) n)) xs) not_lower ∙ zero_plus (count_by (λ s. is_lt (compare (key s) n)) xs) more.1)
  where
    zero_plus : (k : ℕ) → k ≡ 0 → 0 + k ≡ 0
    zero_plus k is = omega (arith, is)

-- a slot at the place of its name
pub inserted : (key : ℕ → List ℕ) (xs : List ℕ) (x : ℕ) → ByKey key xs → AllByRecursion (λ m. m ≢ key x) (map key xs) → ByKey key (insert xs (count_by (λ s. is_lt (compare (key s) (key x))) xs) x)
unfolding IsStrictlySortedBy
inserted key [] x up apart = (tt, tt)
inserted key (y ∷ ys) x up apart = by_order (compare (key y) (key x)) refl (inserted key ys x up.1 apart.1)
  where
    n : List ℕ
    n = key x

    count : ℕ
    count = count_by (λ s. is_lt (compare (key s) n)) ys

    at : (b : Bool) → is_lt (compare (key y) n) ≡ b → count_by (λ s. is_lt (compare (key s) n)) (y ∷ ys) ≡ cond b 1 0 + count
    at b is = sum_by-cons (λ s. cond (is_lt (compare (key s) n)) 1 0) y ys ∙ ap (λ (c : Bool). cond c 1 0 + count) is

    by_order : (o : Ordering) → compare (key y) n ≡ o → ByKey key (insert ys count x) → ByKey key (insert (y ∷ ys) (count_by (λ s. is_lt (compare (key s) n)) (y ∷ ys)) x)
    by_order Less is more =
        let place : count_by (λ s. is_lt (compare (key s) n)) (y ∷ ys) ≡ suc count = at true (ap is_lt is) ∙ omega arith in
        subst (λ (q : ℕ). ByKey key (insert (y ∷ ys) q x)) (sym place) (all_insert (λ m. compare (key y) m ≡ Less) key ys count x is up.0, more)
    by_order Equal is more = absurd (apart.0 (exact_bytes (key y) n is))
    by_order Greater is more =
        let less : compare n (key y) ≡ Less = nat_list_cmp_total.antisymm n (key y) ∙ ap ordering_reverse is in
        let rest = none_lower key n (key y) ys less up.0 in
        let place : count_by (λ s. is_lt (compare (key s) n)) (y ∷ ys) ≡ 0 = at false (ap is_lt is) ∙ omega (arith, rest.1) in
        subst (λ (q : ℕ). ByKey key (insert (y ∷ ys) q x)) (sym place) ((less, rest.0), up)

pub all_at : (P : List ℕ → Type 0) (key : ℕ → List ℕ) (xs : List ℕ) → ((i : ℕ) → i < length xs → P (key (get_or xs i 0))) → AllByRecursion P (map key xs)
all_at P key [] each = tt
all_at P key (x ∷ xs) each = (each 0 (omega arith), all_at P key xs (λ i low. each (suc i) (omega (arith, low))))

module _ (old new : ℕ → Option (List ℕ)) (xs : List ℕ) (order : AreByName old xs) (slot p : ℕ) (there : position (λ s. s == slot) xs ≡ Some p) (others : (other : ℕ) → other ≢ slot → new other ≡ old other) where
  -- the other slots
  abbrev rest : List ℕ
  rest = remove xs p

  abbrev key : ℕ → List ℕ
  key s = or_zeros (new s)

  pub low : p < length xs
  low = (position-Some (λ s. s == slot) xs p 0 there).0

  pub here : get_or xs p 0 ≡ slot
  here = eqb-true (get_or xs p 0) slot (position-Some (λ s. s == slot) xs p 0 there).1

  -- none of them is this slot
  pub not_slot : (i : ℕ) → i < length xs → i ≢ p → get_or xs i 0 ≢ slot
  not_slot i less other same =
      let a = name_there old xs order i less in
      let b : old (get_or xs p 0) ≡ Some a.0 = ap old (here ∙ sym same) ∙ a.1 in
      elim (leb_tells (suc i) p) [
        | inl w ↦ not_before a.0 (rises old xs order i p a.0 a.0 w.1 low a.1 b)
        | inr w ↦ elim (leb_tells (suc p) i) [
          | inl v ↦ not_before a.0 (rises old xs order p i a.0 a.0 v.1 less b a.1)
          | inr v ↦ other (omega (arith, w.1, v.1))
        ]
      ]

  -- where one of them stood
  pub stood : (i : ℕ) → i < length rest → (j : ℕ) × (j < length xs) × (j ≢ p) × (get_or rest i 0 ≡ get_or xs j 0) × (i ≤ j) × (j ≤ i + 1) × (i < p → j ≡ i) × (p ≤ i → j ≡ i + 1)
  stood i less =
      let long = length-remove xs p low in
      elim (leb_tells (suc i) p) [
        | inl w ↦ (i, omega (arith, w.1, low), (λ same. omega (arith, same, w.1)), get_or-remove_below xs p 0 i w.1 low, omega arith, omega arith, (λ less. refl), (λ le. absurd (omega (arith, le, w.1))))
        | inr w ↦ (i + 1, omega (arith, less, long), (λ same. omega (arith, same, w.1)), get_or-remove_above xs p 0 i (omega (arith, w.1)) low, omega arith, omega arith, (λ below. absurd (omega (arith, below, w.1))), (λ le. refl))
      ]

  -- and the name that it had and has
  pub named : (i : ℕ) → i < length xs → i ≢ p → (m : List ℕ) × (old (get_or xs i 0) ≡ Some m) × (key (get_or xs i 0) ≡ m)
  named i less other =
      let a = name_there old xs order i less in
      (a.0, a.1, ap or_zeros (others (get_or xs i 0) (not_slot i less other) ∙ a.1) ∙ zeros_some a.0)

  -- the names of the others rise
  pub up : ByKey key rest
  up = sorted_from_all_adjacent nat_list_cmp_total (map key rest) [] rise
    where
      rise : (k : ℕ) → k + 1 < length (map key rest) → slice_cmp nat_cmp (get_or (map key rest) k []) (get_or (map key rest) (k + 1) []) ≡ Less
      rise k less =
          let long : length (map key rest) ≡ length rest = length-map rest key in
          let first : k < length rest = omega (arith, less, long) in
          let second : k + 1 < length rest = omega (arith, less, long) in
          let a = stood k first in
          let b = stood (k + 1) second in
          let x = named a.0 a.1 a.2 in
          let y = named b.0 b.1 b.2 in
          let before : a.0 < b.0 = elim (leb_tells (suc k) p) [
            | inl w ↦ omega (arith, a.6 w.1, b.4)
            | inr w ↦ omega (arith, a.5, b.7 (omega (arith, w.1)))
          ] in
          let one : get_or (map key rest) k [] ≡ x.0 = get_or-map key rest k 0 [] first ∙ ap key a.3 ∙ x.2 in
          let other : get_or (map key rest) (k + 1) [] ≡ y.0 = get_or-map key rest (k + 1) 0 [] second ∙ ap key b.3 ∙ y.2 in
          ap (λ (m : List ℕ). compare m (get_or (map key rest) (k + 1) [])) one ∙ ap (λ (m : List ℕ). compare x.0 m) other ∙ rises old xs order a.0 b.0 x.0 y.0 before b.1 x.1 y.1

  -- the slots and the others are the same
  pub same_slots : (s : ℕ) → list_any (λ t. t == s) (slot ∷ rest) ≡ is_some (old s)
  same_slots s = sym (list_any-IsPermutation (λ t. t == s) xs (slot ∷ rest) (IsPermutation-remove xs p slot low (sym here ∙ get_or_default xs p 0 slot low))) ∙ order.each s
