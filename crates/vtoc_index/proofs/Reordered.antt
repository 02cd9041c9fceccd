-- The order of names after a slot is moved to the place of its new name, comes, or goes.
use Rattle.std.proofs.Common.{◌≡◌, ◌≢◌, inl, inr, ℕ, suc, ◌<◌, Bool, true, false, List, [], ◌∷◌, length, map, get_or, Option, Some, None, refl, sym, ap, subst, ◌∙◌, arith}
use Rattle.std.specs.Prelude.{◌==◌, ◌||◌, is_some, position}
use Rattle.std.specs.Ordering.{is_lt, nat_cmp}
use Rattle.std.specs.Cmp.Lexicographic.{slice_cmp}
use Rattle.std.specs.List.Sorted.{IsStrictlySortedBy}
use Rattle.std.specs.List.{AllByRecursion, count_by, insert, list_any, remove}
use Rattle.std.proofs.lemmas.Bool.Decides.{eqb_tells}
use Rattle.std.proofs.lemmas.List.Sorted.{IsPermutation-insert, list_any-IsPermutation}
use Rattle.vtoc_index.specs.Names.{AreByName, or_zeros}
use Rattle.vtoc_index.proofs.NameOrder.{any_place, compare, name_there, truth, zeros_some}
use Rattle.vtoc_index.proofs.NamePlaces.{ByKey, all_at, inserted, named, not_slot, same_slots, stood, up}

module _ (old new : ℕ → Option (List ℕ)) (xs : List ℕ) (order : AreByName old xs) (slot p : ℕ) (n : List ℕ) (there : position (λ s. s == slot) xs ≡ Some p) (was : is_some (old slot) ≡ true) (is : new slot ≡ Some n)
    (others : (other : ℕ) → other ≢ slot → new other ≡ old other) (apart : (other : ℕ) → other ≢ slot → old other ≢ Some n) where
  abbrev rest : List ℕ
  rest = remove xs p

  abbrev key : ℕ → List ℕ
  key s = or_zeros (new s)

  key_slot : key slot ≡ n
  key_slot = ap or_zeros is ∙ zeros_some n

  no_name : AllByRecursion (λ m. m ≢ key slot) (map key rest)
  no_name = all_at (λ m. m ≢ key slot) key rest none
    where
      none : (i : ℕ) → i < length rest → key (get_or rest i 0) ≢ key slot
      none i less same =
          let a = stood old new xs order slot p there others i less in
          let x = named old new xs order slot p there others a.0 a.1 a.2 in
          let name : x.0 ≡ n = sym x.2 ∙ sym (ap key a.3) ∙ same ∙ key_slot in
          apart (get_or xs a.0 0) (not_slot old new xs order slot p there others a.0 a.1 a.2) (x.1 ∙ ap Some name)

  -- as many slots have names as before
  some_same : (s : ℕ) → is_some (old s) ≡ is_some (new s)
  some_same s = elim (eqb_tells s slot) [
    | inl w ↦ ap (λ (k : ℕ). is_some (old k)) w.1 ∙ was ∙ sym (ap (λ (k : ℕ). is_some (new k)) w.1 ∙ ap is_some is)
    | inr w ↦ ap is_some (sym (others s w.1))
  ]

  -- The slots, this one at the place of its new name.
  pub reordered : (q : ℕ) → q ≡ count_by (λ s. is_lt (compare (or_zeros (new s)) (or_zeros (new slot)))) (remove xs p) → AreByName new (insert (remove xs p) q slot)
  reordered q place = record {
    each = λ s.
        sym (list_any-IsPermutation (λ t. t == s) (slot ∷ rest) (insert rest q slot) (IsPermutation-insert rest q slot))
        ∙ same_slots old new xs order slot p there others s
        ∙ some_same s;
    rise = subst (λ (k : ℕ). ByKey key (insert rest k slot)) (sym place) (inserted key rest slot (up old new xs order slot p there others) no_name);
  }

-- names by another key that is the same at each place
same_keys : (f g : ℕ → List ℕ) (xs : List ℕ) → ((i : ℕ) → i < length xs → f (get_or xs i 0) ≡ g (get_or xs i 0)) → map f xs ≡ map g xs
same_keys f g [] each = refl
same_keys f g (x ∷ xs) each =
    let first : f x ≡ g x = each 0 (omega arith) in
    let others : map f xs ≡ map g xs = same_keys f g xs (λ i low. each (suc i) (omega (arith, low))) in
    cc

module _ (old new : ℕ → Option (List ℕ)) (xs : List ℕ) (order : AreByName old xs) (slot : ℕ) (n : List ℕ) (was : old slot ≡ None) (is : new slot ≡ Some n) (others : (other : ℕ) → other ≢ slot → new other ≡ old other) (apart : (other : ℕ) → other ≢ slot → old other ≢ Some n) where
  abbrev by_new : ℕ → List ℕ
  by_new s = or_zeros (new s)

  -- the name that each other slot had and has
  other_named : (i : ℕ) → i < length xs → (m : List ℕ) × (old (get_or xs i 0) ≡ Some m) × (by_new (get_or xs i 0) ≡ m) × (get_or xs i 0 ≢ slot)
  other_named i less =
      let a = name_there old xs order i less in
      let other : get_or xs i 0 ≢ slot = λ same. let both : Some a.0 ≡ None = sym a.1 ∙ ap old same ∙ was in cc in
      (a.0, a.1, ap or_zeros (others (get_or xs i 0) other ∙ a.1) ∙ zeros_some a.0, other)

  others_up : ByKey by_new xs
  others_up =
      let same : map (λ s. or_zeros (old s)) xs ≡ map by_new xs = same_keys (λ s. or_zeros (old s)) by_new xs (λ i less. let a = other_named i less in ap or_zeros a.1 ∙ zeros_some a.0 ∙ sym a.2) in
      subst (IsStrictlySortedBy (slice_cmp nat_cmp)) same order.rise

  none_has : AllByRecursion (λ m. m ≢ by_new slot) (map by_new xs)
  none_has = all_at (λ m. m ≢ by_new slot) by_new xs none
    where
      none : (i : ℕ) → i < length xs → by_new (get_or xs i 0) ≢ by_new slot
      none i less same =
          let a = other_named i less in
          let name : a.0 ≡ n = sym a.2 ∙ same ∙ ap or_zeros is ∙ zeros_some n in
          apart (get_or xs i 0) a.3 (a.1 ∙ ap Some name)

  -- of the slots with this one just those have names
  each_named : (s : ℕ) → list_any (λ t. t == s) (slot ∷ xs) ≡ is_some (new s)
  each_named s = elim (eqb_tells slot s) [
    | inl w ↦ ap (λ (b : Bool). b || list_any (λ t. t == s) xs) w.0 ∙ sym (ap (λ (k : ℕ). is_some (new k)) (sym w.1) ∙ ap is_some is)
    | inr w ↦ ap (λ (b : Bool). b || list_any (λ t. t == s) xs) w.0 ∙ order.each s ∙ ap is_some (sym (others s (λ same. w.1 (sym same))))
  ]

  -- The slots, and this one at the place of its name.
  pub entered : (q : ℕ) → q ≡ count_by (λ s. is_lt (compare (or_zeros (new s)) (or_zeros (new slot)))) xs → AreByName new (insert xs q slot)
  entered q place = record {
    each = λ s. sym (list_any-IsPermutation (λ t. t == s) (slot ∷ xs) (insert xs q slot) (IsPermutation-insert xs q slot)) ∙ each_named s;
    rise = subst (λ (k : ℕ). ByKey by_new (insert xs k slot)) (sym place) (inserted by_new xs slot others_up none_has);
  }

-- The slots without one that has no name any more.
pub forgotten : (old new : ℕ → Option (List ℕ)) (xs : List ℕ) → AreByName old xs → (slot p : ℕ) → position (λ s. s == slot) xs ≡ Some p → new slot ≡ None → ((other : ℕ) → other ≢ slot → new other ≡ old other) → AreByName new (remove xs p)
forgotten old new xs order slot p there is others = record { each = each; rise = up old new xs order slot p there others }
  where
    gone : list_any (λ t. t == slot) (remove xs p) ≡ false
    gone = elim (truth (list_any (λ t. t == slot) (remove xs p))) [
      | inl w ↦
          let i = any_place (remove xs p) slot w in
          let a = stood old new xs order slot p there others i.0 i.1 in
          absurd (not_slot old new xs order slot p there others a.0 a.1 a.2 (sym a.3 ∙ i.2))
      | inr w ↦ w
    ]

    each : (s : ℕ) → list_any (λ t. t == s) (remove xs p) ≡ is_some (new s)
    each s = elim (eqb_tells slot s) [
      | inl w ↦ ap (λ (k : ℕ). list_any (λ t. t == k) (remove xs p)) (sym w.1) ∙ gone ∙ sym (ap (λ (k : ℕ). is_some (new k)) (sym w.1) ∙ ap is_some is)
      | inr w ↦ sym (ap (λ (b : Bool). b || list_any (λ t. t == s) (remove xs p)) w.0) ∙ same_slots old new xs order slot p there others s ∙ ap is_some (sym (others s (λ same. w.1 (sym same))))
    ]
