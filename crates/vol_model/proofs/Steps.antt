-- What the order of data sets, and a step, do to a shelf: its data sets stay in order, it stays lawful, and a rename can be undone.
use Rattle.std.proofs.Common.{◌≡◌, ◌+◌, ◌<◌, ℕ, zero, suc, Bool, true, false, cond, not, ◌&&◌, ◌||◌, List, [], ◌∷◌, length, map, get_or, refl, sym, ap, subst, ◌∙◌, arith}
use Rattle.std.proofs.Math.Logic.{⊎_elim}
use Rattle.std.proofs.lemmas.Bool.{cases_Bool}
use Rattle.std.proofs.lemmas.Cmp.{nat_list_cmp_total}
use Rattle.std.proofs.lemmas.List.Elements.{All-from_recursion, recursion_from_All}
use Rattle.std.proofs.lemmas.List.Folds.{Any-from_list_any}
use Rattle.std.proofs.lemmas.List.Sorted.{Contains-permutation, IsPermutation-sym, list_any-IsPermutation, sorted_far}
use Rattle.std.proofs.lemmas.Map.Keys.{IsDistinct-IsPermutation, apart_from_distinct}
use Rattle.std.proofs.lemmas.Map.Text.{is_eq-slice_cmp}
use Rattle.std.proofs.lemmas.Slice.Eq.{bytes_eq-Decides}
use Rattle.std.specs.Cmp.Lexicographic.{slice_cmp}
use Rattle.std.specs.List.{AllByRecursion, IsDistinct, filter, list_any}
use Rattle.std.specs.List.Sorted.{IsPermutation, IsSortedBy, ties}
use Rattle.std.specs.Ordering.{is_lt, is_eq, nat_cmp, ordering_reverse}
use Rattle.std.specs.Prelude.{None, Ok, Option, Some, if◌then◌else◌, slice_get, slice_set}
use Rattle.std.specs.Str.{bytes_eq}
use Rattle.std.specs.declared.cmp.Ordering.{Ordering}
use Rattle.std.specs.declared.cmp.Ordering.TheVariants.{Less, Equal, Greater}
use Rattle.ebcdic_names.specs.declared.names.Dsn.{Dsn}
use Rattle.vol_model.specs.declared.contents.DataSet.{DataSet}
use Rattle.vol_model.specs.Order.{IsAscending, in_order, is_before}
use Rattle.vol_model.specs.declared.contents.Shelf.{Shelf}
use Rattle.vol_model.specs.declared.contents.Volume.{Volume}
use Rattle.vol_model.specs.declared.refusals.Refusal.{Refusal}
use Rattle.vol_model.specs.declared.refusals.Refusal.TheVariants.{NoSet, SetExists, WrongKind}
use Rattle.vol_model.specs.declared.requests.Op.TheVariants.{Rename}
use Rattle.vol_model.specs.Lawful.{IsLawful, IsLawfulVolume}
use Rattle.vol_model.specs.Shelf.{has_name, has_set, is_catalog, on_volume, rename_on, rename_refusal, renamed, step, step_on, unless_refused, with_name, with_volume}
use Rattle.vol_model.proofs.InOrder.{in_order-permutation, in_order-sorted, in_order-stable, in_order-unique, is_before-order}

-- two names are equal, or not
same_name : (a : List ℕ) → bytes_eq a a ≡ true
same_name a = (bytes_eq-Decides a a).1 refl

name_is : (a b : List ℕ) → bytes_eq a b ≡ true → a ≡ b
name_is a b = (bytes_eq-Decides a b).0

other_way : (a b : List ℕ) (t : Bool) → bytes_eq a b ≡ t → bytes_eq b a ≡ t
other_way a b true e = ap (λ n. bytes_eq b n) (name_is a b e) ∙ same_name b
other_way a b false e = ⊎_elim (λ h. let wrong = sym e ∙ ap (λ n. bytes_eq a n) (name_is b a h) ∙ same_name a in cc) (λ h. h) (cases_Bool (bytes_eq b a))

tied_answers : (r s : Ordering) → s ≡ ordering_reverse r → (not (is_lt r) && not (is_lt s)) ≡ is_eq r
tied_answers r s e = ap (λ t. not (is_lt r) && not (is_lt t)) e ∙ turned r
  where
    turned : (r : Ordering) → (not (is_lt r) && not (is_lt (ordering_reverse r))) ≡ is_eq r
    turned Less = refl
    turned Equal = refl
    turned Greater = refl

-- data sets tie where their names are equal
ties-names : (x y : DataSet) → ties is_before x y ≡ bytes_eq x.name.bytes y.name.bytes
ties-names x y =
    tied_answers (slice_cmp nat_cmp x.name.bytes y.name.bytes) (slice_cmp nat_cmp y.name.bytes x.name.bytes) (nat_list_cmp_total.antisymm y.name.bytes x.name.bytes)
    ∙ is_eq-slice_cmp x.name.bytes y.name.bytes

neither : (b c : Bool) → (b || c) ≡ false → (b ≡ false) × (c ≡ false)
neither true c e = absurd cc
neither false c e = (refl, e)

module _ {X : Type 0} where
  filter-alike_at : (p q : X → Bool) (x : X) (us vs : List X) → p x ≡ q x → us ≡ vs → cond (p x) (x ∷ us) us ≡ cond (q x) (x ∷ vs) vs
  filter-alike_at p q x us vs e h = ap (λ b. cond b (x ∷ us) us) e ∙ ap (λ l. cond (q x) (x ∷ l) l) h

  -- tests that agree on the elements that don't pass another one keep the same, where none passes that one
  filter-alike : (skip p q : X → Bool) → ((x : X) → skip x ≡ false → p x ≡ q x) → (xs : List X) → list_any skip xs ≡ false → filter p xs ≡ filter q xs
  filter-alike skip p q same [] none = refl
  filter-alike skip p q same (x ∷ xs) none =
      let parts = neither (skip x) (list_any skip xs) none in
      filter-alike_at p q x (filter p xs) (filter q xs) (same x parts.0) (filter-alike skip p q same xs parts.1)

  filter-nothing : (xs : List X) → filter (λ x. false) xs ≡ []
  filter-nothing [] = refl
  filter-nothing (x ∷ xs) = filter-nothing xs

  filter-same : (p q : X → Bool) → ((x : X) → p x ≡ q x) → (xs : List X) → filter p xs ≡ filter q xs
  filter-same p q same xs = λ i. filter (λ x. same x i) xs

  filter-nowhere : (p : X → Bool) (xs : List X) → list_any p xs ≡ false → filter p xs ≡ []
  filter-nowhere p xs none = filter-alike p p (λ x. false) (λ x e. e) xs none ∙ filter-nothing xs

  filter-none : (p : X → Bool) (xs : List X) → AllByRecursion (λ x. p x ≡ false) xs → filter p xs ≡ []
  filter-none p [] all = refl
  filter-none p (x ∷ xs) all = ap (λ b. cond b (x ∷ filter p xs) (filter p xs)) all.0 ∙ filter-none p xs all.1

module _ {X Y : Type 0} (f : X → Y) (p : Y → Bool) where
  passed_step : (x : X) (us : List Y) (vs : List X) (b : Bool) → us ≡ map f vs → cond b (f x ∷ us) us ≡ map f (cond b (x ∷ vs) vs)
  passed_step x us vs true same = ap (λ l. f x ∷ l) same
  passed_step x us vs false same = same

  filter_of_map : (xs : List X) → filter p (map f xs) ≡ map f (filter (λ x. p (f x)) xs)
  filter_of_map [] = refl
  filter_of_map (x ∷ xs) = passed_step x (filter p (map f xs)) (filter (λ y. p (f y)) xs) (p (f x)) (filter_of_map xs)

-- a list and the data sets of it in order pass a test alike
pub any_in_order : (p : DataSet → Bool) (sets : List DataSet) → list_any p (in_order sets) ≡ list_any p sets
any_in_order p sets = list_any-IsPermutation p (in_order sets) sets (IsPermutation-sym sets (in_order sets) (in_order-permutation sets))

module _ (old : List ℕ) (new : Dsn) where
  -- which data sets tie with one after they are renamed, by whether they had the old name
  tie_renamed : (x y : DataSet) (b : Bool) → has_name old y ≡ b → ties is_before x (with_name old new y) ≡ (if b then bytes_eq x.name.bytes new.bytes else bytes_eq x.name.bytes y.name.bytes)
  tie_renamed x y true e = ties-names x (with_name old new y) ∙ ap (λ b. bytes_eq x.name.bytes (if b then record y { name = new } else y).name.bytes) e
  tie_renamed x y false e = ties-names x (with_name old new y) ∙ ap (λ b. bytes_eq x.name.bytes (if b then record y { name = new } else y).name.bytes) e

  -- with one of the new name tie those of the old name
  ties_new : (x y : DataSet) (b : Bool) → bytes_eq x.name.bytes new.bytes ≡ true → has_name old y ≡ b → has_name new.bytes y ≡ false
      → ties is_before x (with_name old new y) ≡ ties is_before (record x { name = record { bytes = old } }) y
  ties_new x y true here e apart =
      tie_renamed x y true e ∙ here ∙ sym (ties-names (record x { name = record { bytes = old } }) y ∙ other_way y.name.bytes old true e)
  ties_new x y false here e apart =
      tie_renamed x y false e
      ∙ ap (λ n. bytes_eq n y.name.bytes) (name_is x.name.bytes new.bytes here)
      ∙ other_way y.name.bytes new.bytes false apart
      ∙ sym (ties-names (record x { name = record { bytes = old } }) y ∙ other_way y.name.bytes old false e)

  -- with one of the old name ties none
  ties_old : (x y : DataSet) (b : Bool) → bytes_eq x.name.bytes new.bytes ≡ false → bytes_eq x.name.bytes old ≡ true → has_name old y ≡ b → ties is_before x (with_name old new y) ≡ false
  ties_old x y true apart here e = tie_renamed x y true e ∙ apart
  ties_old x y false apart here e =
      tie_renamed x y false e ∙ ap (λ n. bytes_eq n y.name.bytes) (name_is x.name.bytes old here) ∙ other_way y.name.bytes old false e

  -- with one of another name tie those that did before
  ties_other : (x y : DataSet) (b : Bool) → bytes_eq x.name.bytes new.bytes ≡ false → bytes_eq x.name.bytes old ≡ false → has_name old y ≡ b → ties is_before x (with_name old new y) ≡ ties is_before x y
  ties_other x y true apart other e =
      tie_renamed x y true e ∙ apart ∙ sym (ties-names x y ∙ ap (λ n. bytes_eq x.name.bytes n) (name_is y.name.bytes old e) ∙ other)
  ties_other x y false apart other e = tie_renamed x y false e ∙ sym (ties-names x y)

  -- a list with the same data sets, and those of one name in the same order, keeps those of one name so when they are renamed
  renamed_alike : (us vs : List DataSet) (x : DataSet) (b c : Bool) → bytes_eq x.name.bytes new.bytes ≡ b → bytes_eq x.name.bytes old ≡ c
      → list_any (has_name new.bytes) us ≡ false → list_any (has_name new.bytes) vs ≡ false → ((z : DataSet) → filter (ties is_before z) us ≡ filter (ties is_before z) vs)
      → filter (λ y. ties is_before x (with_name old new y)) us ≡ filter (λ y. ties is_before x (with_name old new y)) vs
  renamed_alike us vs x true c here other first second same =
      let z = record x { name = record { bytes = old } } in
      let alike : (y : DataSet) → has_name new.bytes y ≡ false → ties is_before x (with_name old new y) ≡ ties is_before z y = λ y e. ties_new x y (has_name old y) here refl e in
      filter-alike (has_name new.bytes) (λ y. ties is_before x (with_name old new y)) (ties is_before z) alike us first
      ∙ same z
      ∙ sym (filter-alike (has_name new.bytes) (λ y. ties is_before x (with_name old new y)) (ties is_before z) alike vs second)
  renamed_alike us vs x false true apart here first second same =
      let none : (y : DataSet) → has_name new.bytes y ≡ false → ties is_before x (with_name old new y) ≡ false = λ y e. ties_old x y (has_name old y) apart here refl in
      filter-alike (has_name new.bytes) (λ y. ties is_before x (with_name old new y)) (λ y. false) none us first
      ∙ filter-nothing us
      ∙ sym (filter-alike (has_name new.bytes) (λ y. ties is_before x (with_name old new y)) (λ y. false) none vs second ∙ filter-nothing vs)
  renamed_alike us vs x false false apart other first second same =
      let alike : (y : DataSet) → has_name new.bytes y ≡ false → ties is_before x (with_name old new y) ≡ ties is_before x y = λ y e. ties_other x y (has_name old y) apart other refl in
      filter-alike (has_name new.bytes) (λ y. ties is_before x (with_name old new y)) (ties is_before x) alike us first
      ∙ same x
      ∙ sym (filter-alike (has_name new.bytes) (λ y. ties is_before x (with_name old new y)) (ties is_before x) alike vs second)

  -- Data sets that are renamed stand in one order, whether they were in order before or not. No name must be once alone: it is enough that none was the new one.
  pub renamed_in_order : (sets : List DataSet) → list_any (has_name new.bytes) sets ≡ false → in_order (map (with_name old new) (in_order sets)) ≡ in_order (map (with_name old new) sets)
  renamed_in_order sets none =
      let f : DataSet → DataSet = with_name old new in
      in_order-unique (map f sets) (in_order (map f (in_order sets))) (in_order-sorted (map f (in_order sets))) (λ x.
      in_order-stable (map f (in_order sets)) x
      ∙ filter_of_map f (ties is_before x) (in_order sets)
      ∙ ap (map f) (renamed_alike (in_order sets) sets x (bytes_eq x.name.bytes new.bytes) (bytes_eq x.name.bytes old) refl refl (any_in_order (has_name new.bytes) sets ∙ none) none (in_order-stable sets))
      ∙ sym (filter_of_map f (ties is_before x) sets))

-- ---- data sets of which no two have one name

-- the names of two data sets are equal
abbrev pub same_names : DataSet → DataSet → Bool
same_names x y = bytes_eq x.name.bytes y.name.bytes

same_names-sym : (x y : DataSet) → same_names x y ≡ same_names y x
same_names-sym x y = sym (other_way x.name.bytes y.name.bytes (same_names x y) refl)

less_apart : (o : Ordering) → is_lt o ≡ true → is_eq o ≡ false
less_apart Less e = refl
less_apart Equal e = cc
less_apart Greater e = refl

-- the one that stands before the other has another name
before-apart : (x y : DataSet) → is_before x y ≡ true → same_names x y ≡ false
before-apart x y e = sym (is_eq-slice_cmp x.name.bytes y.name.bytes) ∙ less_apart (slice_cmp nat_cmp x.name.bytes y.name.bytes) e

not_greater_less : (o : Ordering) → is_lt (ordering_reverse o) ≡ false → is_eq o ≡ false → is_lt o ≡ true
not_greater_less Less e h = refl
not_greater_less Equal e h = cc
not_greater_less Greater e h = cc

-- of two with other names, one stands before the other
apart-before : (x y : DataSet) → is_before y x ≡ false → same_names x y ≡ false → is_before x y ≡ true
apart-before x y e h =
    let turned = nat_list_cmp_total.antisymm y.name.bytes x.name.bytes in
    not_greater_less (slice_cmp nat_cmp x.name.bytes y.name.bytes) (sym (ap is_lt turned) ∙ e) (is_eq-slice_cmp x.name.bytes y.name.bytes ∙ h)

module _ {X : Type 0} where
  each_weaker : (P Q : X → Type 0) → ((x : X) → P x → Q x) → (xs : List X) → AllByRecursion P xs → AllByRecursion Q xs
  each_weaker P Q h [] all = tt
  each_weaker P Q h (x ∷ xs) all = (h x all.0, each_weaker P Q h xs all.1)

-- data sets that ascend are sorted
rises : (sets : List DataSet) → IsAscending sets → (k : ℕ) (d : DataSet) → suc k < length sets → is_before (get_or sets (suc k) d) (get_or sets k d) ≡ false
rises [] up k d h = absurd (omega arith)
rises (x ∷ []) up k d h = absurd (omega arith)
rises (x ∷ y ∷ sets) up zero d h = is_before-order.one_way x y up.0.0
rises (x ∷ y ∷ sets) up (suc k) d h = rises (y ∷ sets) up.1 k d (omega arith)

ascending-sorted : (sets : List DataSet) → IsAscending sets → IsSortedBy is_before sets
ascending-sorted sets up k d low h =
    let next : suc k ≡ k + 1 = omega arith in
    subst (λ n. is_before (get_or sets n d) (get_or sets k d) ≡ false) next (rises sets up k d (omega arith))

-- data sets that ascend stand in order
pub ascending_in_order : (sets : List DataSet) → IsAscending sets → in_order sets ≡ sets
ascending_in_order sets up = sym (in_order-unique sets sets (ascending-sorted sets up) (λ x. refl))

-- no two data sets that ascend have one name
pub ascending-distinct : (sets : List DataSet) → IsAscending sets → IsDistinct same_names sets
unfolding IsDistinct
ascending-distinct [] up = tt
ascending-distinct (x ∷ sets) up = (each_weaker (λ y. is_before x y ≡ true) (λ y. same_names x y ≡ false) (before-apart x) sets up.0, ascending-distinct sets up.1)

ascending_of : (sets : List DataSet) → ((i j : ℕ) (d : DataSet) → i < j → j < length sets → is_before (get_or sets i d) (get_or sets j d) ≡ true) → IsAscending sets
ascending_of [] h = tt
ascending_of (x ∷ sets) h = (
  recursion_from_All (λ y. is_before x y ≡ true) sets (λ k d p. h 0 (suc k) d (omega arith) (omega arith)),
  ascending_of sets (λ i j d p q. h (suc i) (suc j) d (omega arith) (omega arith)),
)

-- where no two have one name, they ascend in order
pub in_order-ascending : (sets : List DataSet) → IsDistinct same_names sets → IsAscending (in_order sets)
in_order-ascending sets apart =
    let still = IsDistinct-IsPermutation same_names same_names-sym sets (in_order sets) (in_order-permutation sets) apart in
    ascending_of (in_order sets) (λ i j d p q. apart-before (get_or (in_order sets) i d) (get_or (in_order sets) j d) (sorted_far is_before is_before-order (in_order sets) (in_order-sorted sets) i j d (omega arith) q) (apart_from_distinct same_names (in_order sets) i j d still p q))

module _ (name : List ℕ) where
  all_apart : (x y : DataSet) → has_name name x ≡ true → same_names x y ≡ false → has_name name y ≡ false
  all_apart x y here apart = other_way name y.name.bytes false (ap (λ n. bytes_eq n y.name.bytes) (sym (name_is x.name.bytes name here)) ∙ apart)

  -- the one data set that has a name
  single : (sets : List DataSet) (k : ℕ) (z : DataSet) → IsDistinct same_names sets → k < length sets → get_or sets k z ≡ z → has_name name z ≡ true → filter (has_name name) sets ≡ z ∷ []
  unfolding IsDistinct
  single [] k z apart lt at here = absurd (omega arith)
  single (x ∷ sets) zero z apart lt at here =
      ap (λ b. cond b (x ∷ filter (has_name name) sets) (filter (has_name name) sets)) (ap (has_name name) at ∙ here)
      ∙ ap (λ l. x ∷ l) (filter-none (has_name name) sets (each_weaker (λ y. same_names x y ≡ false) (λ y. has_name name y ≡ false) (λ y e. all_apart x y (ap (has_name name) at ∙ here) e) sets apart.0))
      ∙ ap (λ y. y ∷ []) at
  single (x ∷ sets) (suc k) z apart lt at here =
      let differ = subst (λ y. same_names x y ≡ false) at (All-from_recursion (λ y. same_names x y ≡ false) sets apart.0 k z (omega arith)) in
      let first = all_apart z x here (same_names-sym z x ∙ differ) in
      ap (λ b. cond b (x ∷ filter (has_name name) sets) (filter (has_name name) sets)) first ∙ single sets k z apart.1 (omega arith) at here

  single_alike : (us vs : List DataSet) → IsDistinct same_names us → IsPermutation us vs → filter (has_name name) vs ≡ filter (has_name name) us
  single_alike us vs apart moved =
      let still = IsDistinct-IsPermutation same_names same_names-sym us vs moved apart in
      ⊎_elim
      (λ some.
      let z = Any-from_list_any (has_name name) us some in
      let there = Contains-permutation us vs z.1 moved (z.0, z.2, z.3) in
      single vs there.0 z.1 still there.1 there.2 z.4 ∙ sym (single us z.0 z.1 apart z.2 z.3 z.4))
      (λ none.
      filter-nowhere (has_name name) vs (sym (list_any-IsPermutation (has_name name) us vs moved) ∙ none) ∙ sym (filter-nowhere (has_name name) us none))
      (cases_Bool (list_any (has_name name) us))

-- where no two have one name, each sorted list of them is the one in order
pub sorted_in_order : (sets sorted : List DataSet) → IsDistinct same_names sets → IsPermutation sets sorted → IsSortedBy is_before sorted → sorted ≡ in_order sets
sorted_in_order sets sorted apart moved up =
    in_order-unique sets sorted up (λ x.
    let named : (y : DataSet) → ties is_before x y ≡ has_name x.name.bytes y = λ y. ties-names x y ∙ same_names-sym x y in
    filter-same (ties is_before x) (has_name x.name.bytes) named sorted ∙ single_alike x.name.bytes sets sorted apart moved ∙ sym (filter-same (ties is_before x) (has_name x.name.bytes) named sets))

-- ---- the data sets after a rename

module _ (old : List ℕ) (new : Dsn) where
  renamed_bytes : (x : DataSet) (b : Bool) → has_name old x ≡ b → (with_name old new x).name.bytes ≡ (if b then new.bytes else x.name.bytes)
  renamed_bytes x true e = ap (λ b. (if b then record x { name = new } else x).name.bytes) e
  renamed_bytes x false e = ap (λ b. (if b then record x { name = new } else x).name.bytes) e

  still_apart : (x y : DataSet) (b c : Bool) → has_name old x ≡ b → has_name old y ≡ c → same_names x y ≡ false → has_name new.bytes x ≡ false → has_name new.bytes y ≡ false
      → bytes_eq (if b then new.bytes else x.name.bytes) (if c then new.bytes else y.name.bytes) ≡ false
  still_apart x y true true e h apart first second =
      let wrong = sym apart ∙ ap (λ n. bytes_eq n y.name.bytes) (name_is x.name.bytes old e) ∙ other_way y.name.bytes old true h in cc
  still_apart x y true false e h apart first second = other_way y.name.bytes new.bytes false second
  still_apart x y false true e h apart first second = first
  still_apart x y false false e h apart first second = apart

  renamed_apart : (x y : DataSet) → same_names x y ≡ false → has_name new.bytes x ≡ false → has_name new.bytes y ≡ false → same_names (with_name old new x) (with_name old new y) ≡ false
  renamed_apart x y apart first second =
      ap (λ n. bytes_eq n (with_name old new y).name.bytes) (renamed_bytes x (has_name old x) refl)
      ∙ ap (λ n. bytes_eq (if has_name old x then new.bytes else x.name.bytes) n) (renamed_bytes y (has_name old y) refl)
      ∙ still_apart x y (has_name old x) (has_name old y) refl refl apart first second

  apart_from_each : (x : DataSet) (sets : List DataSet) → AllByRecursion (λ y. same_names x y ≡ false) sets → has_name new.bytes x ≡ false → list_any (has_name new.bytes) sets ≡ false
      → AllByRecursion (λ y. same_names (with_name old new x) y ≡ false) (map (with_name old new) sets)
  apart_from_each x [] all first none = tt
  apart_from_each x (y ∷ sets) all first none =
      let parts = neither (has_name new.bytes y) (list_any (has_name new.bytes) sets) none in
      (renamed_apart x y all.0 first parts.0, apart_from_each x sets all.1 first parts.1)

  -- no two have one name afterwards
  renamed-distinct : (sets : List DataSet) → IsDistinct same_names sets → list_any (has_name new.bytes) sets ≡ false → IsDistinct same_names (map (with_name old new) sets)
  unfolding IsDistinct
  renamed-distinct [] apart none = tt
  renamed-distinct (x ∷ sets) apart none =
      let parts = neither (has_name new.bytes x) (list_any (has_name new.bytes) sets) none in
      (apart_from_each x sets apart.0 parts.0 parts.1, renamed-distinct sets apart.1 parts.1)

  -- data sets that ascend do so after a rename
  pub renamed-ascending : (sets : List DataSet) → IsAscending sets → list_any (has_name new.bytes) sets ≡ false → IsAscending (in_order (map (with_name old new) sets))
  renamed-ascending sets up none = in_order-ascending (map (with_name old new) sets) (renamed-distinct sets (ascending-distinct sets up) none)

  -- a sorted list of the data sets under their new names is the one in order
  pub renamed_sorted : (sets sorted : List DataSet) → IsAscending sets → list_any (has_name new.bytes) sets ≡ false → IsPermutation (map (with_name old new) sets) sorted → IsSortedBy is_before sorted → sorted ≡ in_order (map (with_name old new) sets)
  renamed_sorted sets sorted up none moved sorted_up =
      sorted_in_order (map (with_name old new) sets) sorted (renamed-distinct sets (ascending-distinct sets up) none) moved sorted_up

  later : (b c : Bool) → c ≡ true → (b || c) ≡ true
  later true c e = refl
  later false c e = e

  -- the new name stands there where the old one did
  new_first : (x : DataSet) (sets : List DataSet) (b : Bool) → has_name old x ≡ b → (b || list_any (has_name old) sets) ≡ true → (list_any (has_name old) sets ≡ true → list_any (has_name new.bytes) (map (with_name old new) sets) ≡ true)
      → (has_name new.bytes (with_name old new x) || list_any (has_name new.bytes) (map (with_name old new) sets)) ≡ true
  new_first x sets true e h rest =
      ap (λ n. bytes_eq n new.bytes || list_any (has_name new.bytes) (map (with_name old new) sets)) (renamed_bytes x true e) ∙ ap (λ b. b || list_any (has_name new.bytes) (map (with_name old new) sets)) (same_name new.bytes)
  new_first x sets false e h rest = later (has_name new.bytes (with_name old new x)) (list_any (has_name new.bytes) (map (with_name old new) sets)) (rest h)

  has_new : (sets : List DataSet) → list_any (has_name old) sets ≡ true → list_any (has_name new.bytes) (map (with_name old new) sets) ≡ true
  has_new [] some = cc
  has_new (x ∷ sets) some = new_first x sets (has_name old x) refl some (has_new sets)

  -- the old name is gone
  old_gone : bytes_eq new.bytes old ≡ false → (sets : List DataSet) → list_any (has_name old) (map (with_name old new) sets) ≡ false
  old_gone apart [] = refl
  old_gone apart (x ∷ sets) = ap (λ b. b || list_any (has_name old) (map (with_name old new) sets)) (gone (has_name old x) refl) ∙ old_gone apart sets
    where
      gone : (b : Bool) → has_name old x ≡ b → has_name old (with_name old new x) ≡ false
      gone true e = ap (λ n. bytes_eq n old) (renamed_bytes x true e) ∙ apart
      gone false e = ap (λ n. bytes_eq n old) (renamed_bytes x false e) ∙ e

-- a name that one data set has, and another one that none has
names_apart : (a b : List ℕ) (sets : List DataSet) → list_any (has_name a) sets ≡ true → list_any (has_name b) sets ≡ false → bytes_eq b a ≡ false
names_apart a b sets some none =
    ⊎_elim (λ same. let wrong = sym none ∙ ap (λ n. list_any (has_name n) sets) (name_is b a same) ∙ some in cc) (λ e. e) (cases_Bool (bytes_eq b a))

module _ (old new : Dsn) where
  back_again : (x : DataSet) (b : Bool) → has_name old.bytes x ≡ b → has_name new.bytes x ≡ false → with_name new.bytes old (if b then record x { name = new } else x) ≡ x
  back_again x true e apart =
      ap (λ c. if c then record x { name = old } else record x { name = new }) (same_name new.bytes) ∙ ap (λ n. record x { name = record { bytes = n } }) (sym (name_is x.name.bytes old.bytes e))
  back_again x false e apart = ap (λ c. if c then record x { name = old } else x) apart

  -- renamed back, all are as before
  back_renamed : (sets : List DataSet) → list_any (has_name new.bytes) sets ≡ false → map (with_name new.bytes old) (map (with_name old.bytes new) sets) ≡ sets
  back_renamed [] none = refl
  back_renamed (x ∷ sets) none =
      let parts = neither (has_name new.bytes x) (list_any (has_name new.bytes) sets) none in
      ap (λ y. y ∷ map (with_name new.bytes old) (map (with_name old.bytes new) sets)) (back_again x (has_name old.bytes x) refl parts.0) ∙ ap (λ l. x ∷ l) (back_renamed sets parts.1)

-- ---- a step

-- What an operation that gives a data set another name has found and left, where it is done.
pub record Renames (shelf : Shelf) (v : ℕ) (old new : Dsn) (after : Shelf) : Type 0 where
  pub volume : Volume
  pub at : slice_get shelf.volumes v ≡ Some volume
  pub has_old : has_set volume old.bytes ≡ true
  pub no_new : has_set volume new.bytes ≡ false
  pub no_catalog : (is_catalog old.bytes || is_catalog new.bytes) ≡ false
  pub is : after ≡ record { volumes = slice_set shelf.volumes v (renamed volume old.bytes new) }

-- the first refusal of a rename, by what the volume has and whether a name is the catalog's
abbrev refused_by : Bool → Bool → Bool → Option Refusal
refused_by has_old has_new is_kept = if not has_old then Some NoSet else (if has_new then Some SetExists else (if is_kept then Some WrongKind else None))

module _ (shelf after : Shelf) (v : ℕ) (old new : Dsn) where
  done_where : (volume : Volume) (a b c : Bool) → slice_get shelf.volumes v ≡ Some volume → has_set volume old.bytes ≡ a → has_set volume new.bytes ≡ b → (is_catalog old.bytes || is_catalog new.bytes) ≡ c
      → with_volume shelf v (unless_refused (refused_by a b c) (renamed volume old.bytes new)) ≡ Ok after → Renames shelf v old new after
  done_where volume false b c at e f g h = cc
  done_where volume true true c at e f g h = cc
  done_where volume true false true at e f g h = cc
  done_where volume true false false at e f g h = record { volume = volume; at = at; has_old = e; no_new = f; no_catalog = g; is = cc }

  on_which : (found : Option Volume) → slice_get shelf.volumes v ≡ found → on_volume shelf v (rename_on old new) found ≡ Ok after → Renames shelf v old new after
  unfolding rename_on rename_refusal
  on_which None at h = cc
  on_which (Some volume) at h = done_where volume (has_set volume old.bytes) (has_set volume new.bytes) (is_catalog old.bytes || is_catalog new.bytes) at refl refl refl h

  -- what a rename that is done has found and left
  pub renames_of : step shelf (Rename v old new) ≡ Ok after → Renames shelf v old new after
  unfolding step step_on
  renames_of = on_which (slice_get shelf.volumes v) refl

  -- the rename is done where it finds and leaves that
  pub renames_done : Renames shelf v old new after → step shelf (Rename v old new) ≡ Ok after
  unfolding step step_on rename_on rename_refusal
  renames_done r =
      let volume = r.volume in
      ap (on_volume shelf v (rename_on old new)) r.at
      ∙ ap (λ a. with_volume shelf v (unless_refused (refused_by a (has_set volume new.bytes) (is_catalog old.bytes || is_catalog new.bytes)) (renamed volume old.bytes new))) r.has_old
      ∙ ap (λ b. with_volume shelf v (unless_refused (refused_by true b (is_catalog old.bytes || is_catalog new.bytes)) (renamed volume old.bytes new))) r.no_new
      ∙ ap (λ c. with_volume shelf v (unless_refused (refused_by true false c) (renamed volume old.bytes new))) r.no_catalog
      ∙ ap Ok (sym r.is)

module _ {X : Type 0} (P : X → Type 0) where
  each_at : (xs : List X) (i : ℕ) (x : X) → AllByRecursion P xs → slice_get xs i ≡ Some x → P x
  each_at [] i x all at = cc
  each_at (y ∷ xs) zero x all at = let same : y ≡ x = cc in subst P same all.0
  each_at (y ∷ xs) (suc i) x all at = each_at xs i x all.1 at

  each_set : (xs : List X) (i : ℕ) (x : X) → AllByRecursion P xs → P x → AllByRecursion P (slice_set xs i x)
  each_set [] i x all h = tt
  each_set (y ∷ xs) zero x all h = (h, all.1)
  each_set (y ∷ xs) (suc i) x all h = (all.0, each_set xs i x all.1 h)

set_found : {X : Type 0} (xs : List X) (i : ℕ) (x y : X) → slice_get xs i ≡ Some x → slice_get (slice_set xs i y) i ≡ Some y
set_found [] i x y at = cc
set_found (z ∷ xs) zero x y at = refl
set_found (z ∷ xs) (suc i) x y at = set_found xs i x y at

set_back : {X : Type 0} (xs : List X) (i : ℕ) (x y : X) → slice_get xs i ≡ Some x → slice_set (slice_set xs i y) i x ≡ xs
set_back [] i x y at = refl
set_back (z ∷ xs) zero x y at = let same : x ≡ z = cc in ap (λ w. w ∷ xs) same
set_back (z ∷ xs) (suc i) x y at = ap (λ l. z ∷ l) (set_back xs i x y at)

renamed_back : (volume : Volume) (old new : Dsn) → IsAscending volume.sets → has_set volume new.bytes ≡ false → bytes_eq new.bytes old.bytes ≡ false → renamed (renamed volume old.bytes new) new.bytes old ≡ volume
unfolding renamed
renamed_back volume old new up none apart =
    let sets = map (with_name old.bytes new) volume.sets in
    ap (λ l. record volume { sets = l }) (renamed_in_order new.bytes old sets (old_gone old.bytes new apart volume.sets) ∙ ap in_order (back_renamed old new volume.sets none) ∙ ascending_in_order volume.sets up)

renamed_has_new : (volume : Volume) (old : List ℕ) (new : Dsn) → has_set volume old ≡ true → has_set (renamed volume old new) new.bytes ≡ true
unfolding renamed
renamed_has_new volume old new some = any_in_order (has_name new.bytes) (map (with_name old new) volume.sets) ∙ has_new old new volume.sets some

renamed_no_old : (volume : Volume) (old : List ℕ) (new : Dsn) → bytes_eq new.bytes old ≡ false → has_set (renamed volume old new) old ≡ false
unfolding renamed
renamed_no_old volume old new apart = any_in_order (has_name old) (map (with_name old new) volume.sets) ∙ old_gone old new apart volume.sets

swapped_tests : (a b : Bool) → (a || b) ≡ false → (b || a) ≡ false
swapped_tests true b e = cc
swapped_tests false true e = cc
swapped_tests false false e = refl

back_renames : (s t : Shelf) (v : ℕ) (old new : Dsn) → IsLawful s → Renames s v old new t → Renames t v new old s
back_renames s t v old new h r =
    let volume = r.volume in
    let other = renamed volume old.bytes new in
    let up = (each_at IsLawfulVolume s.volumes v volume h.volumes r.at).order in
    let apart = names_apart old.bytes new.bytes volume.sets r.has_old r.no_new in
    record {
      volume = other;
      at = ap (λ (shelf : Shelf). slice_get shelf.volumes v) r.is ∙ set_found s.volumes v volume other r.at;
      has_old = renamed_has_new volume old.bytes new r.has_old;
      no_new = renamed_no_old volume old.bytes new apart;
      no_catalog = swapped_tests (is_catalog old.bytes) (is_catalog new.bytes) r.no_catalog;
      is = sym (ap (λ (shelf : Shelf). record { volumes = slice_set shelf.volumes v (renamed other new.bytes old) }) r.is
          ∙ ap (λ w. record { volumes = slice_set (slice_set s.volumes v other) v w }) (renamed_back volume old new up r.no_new apart)
          ∙ ap (λ l. record { volumes = l }) (set_back s.volumes v volume other r.at));
    }

-- a rename of a lawful shelf is undone by the one back to the old name
pub undone : (s t : Shelf) (v : ℕ) (old new : Dsn) → IsLawful s → step s (Rename v old new) ≡ Ok t → step t (Rename v new old) ≡ Ok s
undone s t v old new h done = renames_done t s v new old (back_renames s t v old new h (renames_of s t v old new done))
