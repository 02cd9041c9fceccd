-- Data sets in the order of their names, without some of them; where no two have one name.
use Rattle.std.proofs.Common.{◌≡◌, Bool, true, false, cond, not, List, [], ◌∷◌, ◌++◌, filter, refl, sym, ◌∙◌, ap, ℕ}
use Rattle.std.specs.List.{AllByRecursion, IsDistinct}
use Rattle.std.specs.List.Sorted.{ties}
use Rattle.std.specs.Str.{bytes_eq}
use Rattle.std.proofs.lemmas.List.Kept.{IsSortedBy-filter}
use Rattle.std.proofs.lemmas.Slice.Eq.{bytes_eq-Decides}
use Rattle.vol_model.specs.declared.contents.DataSet.{DataSet}
use Rattle.vol_model.specs.Order.{in_order, is_before}
use Rattle.vol_model.specs.Shelf.{has_name}
use Rattle.vol_model.proofs.InOrder.{in_order-sorted, in_order-stable, in_order-unique, is_before-order}
use Rattle.vol_model.proofs.Steps.{same_names}

-- two tests keep the same in either order
pub filters_swapped : {X : Type 0} (p q : X → Bool) (xs : List X) → filter q (filter p xs) ≡ filter p (filter q xs)
filters_swapped p q [] = refl
filters_swapped {X = X} p q (x ∷ xs) = by_test (p x) (q x) refl refl (filters_swapped p q xs)
  where
    by_test : (a b : Bool) → p x ≡ a → q x ≡ b → filter q (filter p xs) ≡ filter p (filter q xs) → filter q (cond a (x ∷ filter p xs) (filter p xs)) ≡ filter p (cond b (x ∷ filter q xs) (filter q xs))
    by_test true true is_p is_q rest =
        ap (λ (c : Bool). cond c (x ∷ filter q (filter p xs)) (filter q (filter p xs))) is_q
        ∙ ap (λ (l : List X). x ∷ l) rest
        ∙ sym (ap (λ (c : Bool). cond c (x ∷ filter p (filter q xs)) (filter p (filter q xs))) is_p)
    by_test true false is_p is_q rest = ap (λ (c : Bool). cond c (x ∷ filter q (filter p xs)) (filter q (filter p xs))) is_q ∙ rest
    by_test false true is_p is_q rest = rest ∙ sym (ap (λ (c : Bool). cond c (x ∷ filter p (filter q xs)) (filter p (filter q xs))) is_p)
    by_test false false is_p is_q rest = rest

-- some data sets in order are those that the test keeps of all in order
pub filter_in_order : (p : DataSet → Bool) (sets : List DataSet) → filter p (in_order sets) ≡ in_order (filter p sets)
filter_in_order p sets =
    in_order-unique (filter p sets) (filter p (in_order sets)) (IsSortedBy-filter is_before is_before-order p (in_order sets) (in_order-sorted sets))
    (λ x. filters_swapped p (ties is_before x) (in_order sets) ∙ ap (filter p) (in_order-stable sets x) ∙ sym (filters_swapped p (ties is_before x) sets))

-- where no two have one name, no other has that of this one
pub apart_before : (name : List ℕ) (x : DataSet) (xs ys : List DataSet) → x.name.bytes ≡ name → IsDistinct same_names (xs ++ x ∷ ys) → AllByRecursion (λ y. not (has_name name y) ≡ true) xs
unfolding IsDistinct
apart_before name x [] ys is apart = tt
apart_before name x (z ∷ xs) ys is apart = (here xs apart.0, apart_before name x xs ys is apart.1)
  where
    here : (l : List DataSet) → AllByRecursion (λ y. same_names z y ≡ false) (l ++ x ∷ ys) → not (has_name name z) ≡ true
    here [] all = ap (λ (n : List ℕ). not (bytes_eq z.name.bytes n)) (sym is) ∙ ap not all.0
    here (y ∷ l) all = here l all.1

pub apart_behind : (name : List ℕ) (x : DataSet) (xs ys : List DataSet) → x.name.bytes ≡ name → IsDistinct same_names (xs ++ x ∷ ys) → AllByRecursion (λ y. not (has_name name y) ≡ true) ys
unfolding IsDistinct
apart_behind name x [] ys is apart = all ys apart.0
  where
    turned : (y : DataSet) (b : Bool) → has_name name y ≡ b → same_names x y ≡ false → not b ≡ true
    turned y true named other =
        let same : y.name.bytes ≡ name = (bytes_eq-Decides y.name.bytes name).0 named in
        let twice : same_names x y ≡ true = (bytes_eq-Decides x.name.bytes y.name.bytes).1 (is ∙ sym same) in
        let never : false ≡ true = sym other ∙ twice in
        absurd (cc never)
    turned y false named other = refl

    all : (l : List DataSet) → AllByRecursion (λ y. same_names x y ≡ false) l → AllByRecursion (λ y. not (has_name name y) ≡ true) l
    all [] each = tt
    all (y ∷ l) each = (turned y (has_name name y) refl each.0, all l each.1)
apart_behind name x (z ∷ xs) ys is apart = apart_behind name x xs ys is apart.1
