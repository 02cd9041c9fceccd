-- Slots in the order of names: where each stands, and that no two have one name.
use Rattle.std.proofs.Common.{◌≡◌, ◌≢◌, ◌⊎◌, inl, inr, ℕ, zero, suc, ◌+◌, ◌<◌, ◌≤◌, Bool, true, false, cond, nat_lt, List, [], ◌∷◌, length, get_or, Option, Some, None, Ok, refl, sym, ap, subst, ◌∙◌, eq-eqb, arith}
use Rattle.std.specs.Prelude.{◌==◌, ◌||◌, is_some, option_and_then, slice_get}
use Rattle.std.specs.List.{list_any, position, position_or_len}
use Rattle.std.specs.Option.{option_map}
use Rattle.std.specs.declared.cmp.Ordering.{Ordering}
use Rattle.std.specs.declared.cmp.Ordering.TheVariants.{Less, Greater}
use Rattle.std.specs.Ordering.{nat_cmp, ordering_reverse}
use Rattle.std.specs.Cmp.Lexicographic.{slice_cmp}
use Rattle.std.proofs.lemmas.Bool.Decides.{nat_tests, eqb_tells, leb_tells}
use Rattle.std.proofs.lemmas.Cmp.{nat_list_cmp_total}
use Rattle.std.proofs.lemmas.List.{get_or-map, length-map}
use Rattle.std.proofs.lemmas.List.Folds.{list_any_at}
use Rattle.std.proofs.lemmas.List.Sums.{position_or_len_is}
use Rattle.std.proofs.lemmas.Map.Keys.{Less-from_sorted}
use Rattle.std.proofs.lemmas.Option.{slice_get-get_or}
use Rattle.std.proofs.lemmas.Slice.Eq.{bytes_eq-Decides}
use Rattle.dscb_codec.specs.declared.Dscb.{Dscb}
use Rattle.dscb_codec.specs.declared.Dscb.TheVariants as formats
use Rattle.pack_spec.specs.Rules.{is_named, set_in}
use Rattle.vtoc_index.specs.Index.{first_named}
use Rattle.vtoc_index.specs.Names.{AreByName, name_at, names_of, or_zeros}
use Rattle.vtoc_index.proofs.NameFaults.{name_of_named}

-- the order of names
abbrev pub compare : List ℕ → List ℕ → Ordering
compare = slice_cmp nat_cmp

-- no name stands before itself
pub not_before : (n : List ℕ) → compare n n ≡ Less → ⊥
not_before n less =
    let both : Less ≡ Greater = sym less ∙ nat_list_cmp_total.antisymm n n ∙ ap ordering_reverse less in
    cc

pub truth : (b : Bool) → (b ≡ true) ⊎ (b ≡ false)
truth true = inl refl
truth false = inr refl

module _ {X : Type 0} where
  -- an item that is there
  pub slice_some : (xs : List X) (k : ℕ) (x : X) → slice_get xs k ≡ Some x → (k < length xs) × ((d : X) → get_or xs k d ≡ x)
  slice_some [] k x is = cc
  slice_some (y ∷ xs) zero x is = (omega arith, λ d. cc)
  slice_some (y ∷ xs) (suc k) x is = let more = slice_some xs k x is in (omega (arith, more.0), more.1)

  fails : (p : X → Bool) (x : X) → (p x ≡ true → ⊥) → p x ≡ false
  fails p x never = elim (truth (p x)) [ inl is ↦ absurd (never is) | inr is ↦ is ]

  -- the first item that passes a test, where none before it does
  pub first_at : (p : X → Bool) (xs : List X) (k : ℕ) (d : X) → k < length xs → p (get_or xs k d) ≡ true → ((j : ℕ) → j < k → p (get_or xs j d) ≡ true → ⊥) → position p xs ≡ Some k
  first_at p xs k d low passes none =
      let at : position_or_len p xs ≡ k = position_or_len_is p xs k d (omega (arith, low)) (λ j l. fails p (get_or xs j d) (none j l)) (λ l. passes) in
      ap (λ (n : ℕ). cond (nat_lt n (length xs)) (Some n) None) at ∙ here k (length xs) low
    where
      here : (n l : ℕ) → n < l → cond (nat_lt n l) (Some n) None ≡ Some n
      here n l less = grind (arith, nat_tests)

  -- no item passes
  pub none_at : (p : X → Bool) (xs : List X) (d : X) → ((j : ℕ) → j < length xs → p (get_or xs j d) ≡ true → ⊥) → position p xs ≡ None
  none_at p xs d none =
      let at : position_or_len p xs ≡ length xs = position_or_len_is p xs (length xs) d (omega arith) (λ j l. fails p (get_or xs j d) (none j l)) (λ l. absurd (omega (arith, l))) in
      ap (λ (n : ℕ). cond (nat_lt n (length xs)) (Some n) None) at ∙ past (length xs)
    where
      past : (n : ℕ) → cond (nat_lt n n) (Some n) None ≡ None
      past n = grind (arith, nat_tests)

-- where a number stands in a list
pub any_place : (xs : List ℕ) (s : ℕ) → list_any (λ t. t == s) xs ≡ true → (i : ℕ) × (i < length xs) × (get_or xs i 0 ≡ s)
any_place [] s is = cc
any_place (x ∷ xs) s is = elim (eqb_tells x s) [
  | inl w ↦ (0, omega arith, w.1)
  | inr w ↦ let more = any_place xs s (subst (λ (b : Bool). (b || list_any (λ t. t == s) xs) ≡ true) w.0 is) in (suc more.0, omega (arith, more.1), more.2)
]

pub some_name : (o : Option (List ℕ)) → is_some o ≡ true → (n : List ℕ) × (o ≡ Some n)
some_name None is = cc
some_name (Some n) is = (n, refl)

-- a name that there is
pub zeros_some : (n : List ℕ) → or_zeros (Some n) ≡ n
unfolding or_zeros
zeros_some n = refl

module _ (name : ℕ → Option (List ℕ)) (xs : List ℕ) (order : AreByName name xs) where
  -- each slot that has a name has a place
  pub place_named : (s : ℕ) (n : List ℕ) → name s ≡ Some n → (i : ℕ) × (i < length xs) × (get_or xs i 0 ≡ s)
  place_named s n is = any_place xs s (order.each s ∙ ap is_some is)

  -- and at each place stands one
  pub name_there : (i : ℕ) → i < length xs → (n : List ℕ) × (name (get_or xs i 0) ≡ Some n)
  name_there i low =
      let s : ℕ = get_or xs i 0 in
      some_name (name s) (sym (order.each s) ∙ list_any_at (λ t. t == s) xs i 0 low (eq-eqb s s refl))

  pub names_there : (i : ℕ) (n e : List ℕ) → i < length xs → name (get_or xs i 0) ≡ Some n → get_or (names_of name xs) i e ≡ n
  names_there i n e low is = get_or-map (λ s. or_zeros (name s)) xs i 0 e low ∙ ap or_zeros is ∙ zeros_some n

  -- the names rise
  pub rises : (i j : ℕ) (m n : List ℕ) → i < j → j < length xs → name (get_or xs i 0) ≡ Some m → name (get_or xs j 0) ≡ Some n → compare m n ≡ Less
  rises i j m n less low one other =
      let names : List (List ℕ) = names_of name xs in
      let long : length names ≡ length xs = length-map xs (λ s. or_zeros (name s)) in
      let before = Less-from_sorted (slice_cmp nat_cmp) names i j [] order.rise less (omega (arith, low, long)) in
      sym (ap (λ (x : List ℕ). compare x n) (names_there i m [] (omega (arith, less, low)) one))
      ∙ sym (ap (λ (x : List ℕ). compare (get_or names i []) x) (names_there j n [] low other))
      ∙ before

  -- no two slots have one name
  pub one_slot : (s t : ℕ) (n : List ℕ) → name s ≡ Some n → name t ≡ Some n → s ≡ t
  one_slot s t n one other =
      let p = place_named s n one in
      let q = place_named t n other in
      let here : name (get_or xs p.0 0) ≡ Some n = ap name p.2 ∙ one in
      let there : name (get_or xs q.0 0) ≡ Some n = ap name q.2 ∙ other in
      elim (leb_tells (suc p.0) q.0) [
        | inl w ↦ absurd (not_before n (rises p.0 q.0 n n w.1 q.1 here there))
        | inr w ↦ elim (leb_tells (suc q.0) p.0) [
          | inl v ↦ absurd (not_before n (rises q.0 p.0 n n v.1 p.1 there here))
          | inr v ↦ let same : p.0 ≡ q.0 = omega (arith, w.1, v.1) in sym p.2 ∙ ap (λ (k : ℕ). get_or xs k 0) same ∙ q.2
        ]
      ]

-- another lookup of the same names
pub same_names : (name other : ℕ → Option (List ℕ)) (xs : List ℕ) → ((s : ℕ) → name s ≡ other s) → AreByName name xs → AreByName other xs
same_names name other xs same order = let equal : name ≡ other = λ i s. same s i in subst (λ (f : ℕ → Option (List ℕ)). AreByName f xs) equal order

-- a DSCB of this name is a format 1 that has it
of_name : (d : Dscb) (n : List ℕ) → option_map (λ f. f.name) (set_in (Ok d)) ≡ Some n → is_named n (Ok d) ≡ true
of_name formats.F0 n is = cc
of_name (formats.F1 f) n is = (bytes_eq-Decides f.name n).1 cc
of_name (formats.F3 f) n is = cc
of_name (formats.F4 f) n is = cc
of_name (formats.F5 f) n is = cc

pub named_at : (ds : List Dscb) (k : ℕ) (n : List ℕ) → name_at ds k ≡ Some n → (k < length ds) × (is_named n (Ok (get_or ds k formats.F0)) ≡ true)
named_at ds k n is = by_slot (slice_get ds k) refl is
  where
    by_slot : (o : Option Dscb) → slice_get ds k ≡ o → option_and_then (λ d. option_map (λ f. f.name) (set_in (Ok d))) o ≡ Some n → (k < length ds) × (is_named n (Ok (get_or ds k formats.F0)) ≡ true)
    by_slot None there named = cc
    by_slot (Some d) there named = let at = slice_some ds k d there in (at.0, ap (λ (x : Dscb). is_named n (Ok x)) (at.1 formats.F0) ∙ of_name d n named)

at_named : (ds : List Dscb) (k : ℕ) (n : List ℕ) → k < length ds → is_named n (Ok (get_or ds k formats.F0)) ≡ true → name_at ds k ≡ Some n
at_named ds k n low is =
    ap (option_and_then (λ (d : Dscb). option_map (λ f. f.name) (set_in (Ok d)))) (slice_get-get_or ds k formats.F0 low) ∙ name_of_named n (Ok (get_or ds k formats.F0)) is

-- the one slot of a name is the first
pub found_first : (ds : List Dscb) (k : ℕ) (n : List ℕ) → ((j : ℕ) → name_at ds j ≡ Some n → j ≡ k) → name_at ds k ≡ Some n → first_named n ds ≡ Some k
found_first ds k n one is =
    let at = named_at ds k n is in
    first_at (λ d. is_named n (Ok d)) ds k formats.F0 at.0 at.1 (λ j less passes. let same = one j (at_named ds j n (omega (arith, less, at.0)) passes) in omega (arith, same, less))

-- where no slot has it, none is found
pub found_none : (ds : List Dscb) (n : List ℕ) → ((j : ℕ) → name_at ds j ≡ Some n → ⊥) → first_named n ds ≡ None
found_none ds n never = none_at (λ d. is_named n (Ok d)) ds formats.F0 (λ j low passes. never j (at_named ds j n low passes))
