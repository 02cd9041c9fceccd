-- The data set that has a name, among data sets in the order of their names.
use Rattle.std.proofs.Common.{◌≡◌, ⊎_elim, ℕ, Bool, true, false, cond, not, ◌&&◌, List, [], ◌∷◌, Some, refl, sym, ap, ◌∙◌}
use Rattle.std.proofs.lemmas.Bool.{cases_Bool}
use Rattle.std.proofs.lemmas.Cmp.{nat_list_cmp_total}
use Rattle.std.proofs.lemmas.Map.Text.{is_eq-slice_cmp}
use Rattle.std.proofs.lemmas.Slice.Eq.{bytes_eq-Decides}
use Rattle.std.specs.Cmp.Lexicographic.{slice_cmp}
use Rattle.std.specs.List.{filter, find, slice_get}
use Rattle.std.specs.List.Sorted.{ties}
use Rattle.std.specs.Ordering.{is_lt, is_eq, nat_cmp, ordering_reverse}
use Rattle.std.specs.Str.{bytes_eq}
use Rattle.std.specs.declared.cmp.Ordering.{Ordering}
use Rattle.std.specs.declared.cmp.Ordering.TheVariants.{Less, Equal, Greater}
use Rattle.vol_model.specs.declared.contents.DataSet.{DataSet}
use Rattle.vol_model.specs.Order.{in_order, is_before}
use Rattle.vol_model.specs.Shelf.{has_name}
use Rattle.vol_model.proofs.InOrder.{in_order-stable}

same_name : (a : List ℕ) → bytes_eq a a ≡ true
same_name a = (bytes_eq-Decides a a).1 refl

other_way : (a b : List ℕ) (t : Bool) → bytes_eq a b ≡ t → bytes_eq b a ≡ t
other_way a b true e = ap (bytes_eq b) ((bytes_eq-Decides a b).0 e) ∙ same_name b
other_way a b false e = ⊎_elim (λ h. let wrong = sym e ∙ ap (bytes_eq a) ((bytes_eq-Decides b a).0 h) ∙ same_name a in cc) (λ h. h) (cases_Bool (bytes_eq b a))

tied_answers : (r s : Ordering) → s ≡ ordering_reverse r → (not (is_lt r) && not (is_lt s)) ≡ is_eq r
tied_answers r s e = ap (λ t. not (is_lt r) && not (is_lt t)) e ∙ turned r
  where
    turned : (r : Ordering) → (not (is_lt r) && not (is_lt (ordering_reverse r))) ≡ is_eq r
    turned Less = refl
    turned Equal = refl
    turned Greater = refl

-- data sets tie where their names are equal
ties_named : (x y : DataSet) → ties is_before x y ≡ has_name x.name.bytes y
ties_named x y =
    tied_answers (slice_cmp nat_cmp x.name.bytes y.name.bytes) (slice_cmp nat_cmp y.name.bytes x.name.bytes) (nat_list_cmp_total.antisymm y.name.bytes x.name.bytes)
    ∙ is_eq-slice_cmp x.name.bytes y.name.bytes
    ∙ sym (other_way x.name.bytes y.name.bytes (bytes_eq x.name.bytes y.name.bytes) refl)

module _ {X : Type 0} (p : X → Bool) where
  -- the first that passes is the first of those that do
  find_first : (xs : List X) → find p xs ≡ slice_get (filter p xs) 0
  find_first [] = refl
  find_first (x ∷ xs) = by_test (p x) (find_first xs)
    where
      by_test : (b : Bool) → find p xs ≡ slice_get (filter p xs) 0 → cond b (Some x) (find p xs) ≡ slice_get (cond b (x ∷ filter p xs) (filter p xs)) 0
      by_test true rest = refl
      by_test false rest = rest

none_in_order : in_order [] ≡ []
unfolding in_order
none_in_order = refl

-- The data set of a name among those in order is that among them as they stand.
pub find_in_order : (name : List ℕ) (sets : List DataSet) → find (has_name name) (in_order sets) ≡ find (has_name name) sets
find_in_order name [] = ap (find (has_name name)) none_in_order
find_in_order name (x ∷ sets) =
    let z : DataSet = record x { name = record { bytes = name } } in
    let all : List DataSet = x ∷ sets in
    let named : (λ (y : DataSet). ties is_before z y) ≡ has_name name = λ i y. ties_named z y i in
    find_first (has_name name) (in_order all)
    ∙ ap (λ (q : DataSet → Bool). slice_get (filter q (in_order all)) 0) (sym named)
    ∙ ap (λ (l : List DataSet). slice_get l 0) (in_order-stable all z)
    ∙ ap (λ (q : DataSet → Bool). slice_get (filter q all) 0) named
    ∙ sym (find_first (has_name name) all)
