-- The order of names, by a map that gives the lowest slot of each, where no name stands twice.
use Rattle.std.proofs.Common.{◌≡◌, ◌⊎◌, inl, inr, ℕ, zero, suc, ◌<◌, Bool, true, false, cond, List, [], ◌∷◌, length, map, get_or, Option, Some, None, Result, Ok, Err, refl, sym, ap, subst, ◌∙◌, arith}
use Rattle.std.specs.Prelude.{◌==◌, ◌||◌, is_some, option_and_then, position, slice_get}
use Rattle.std.specs.List.{AllByRecursion, Contains, IsDistinct, cons_option, enumerate_from, filter_map, list_any}
use Rattle.std.specs.List.Sorted.{IsStrictlySortedBy}
use Rattle.std.specs.Map.{keys_of, lookup, values_of}
use Rattle.std.specs.BTreeMap.{is_at}
use Rattle.std.specs.Option.{option_map}
use Rattle.std.specs.Ordering.{eq_by_cmp, nat_cmp}
use Rattle.std.specs.Cmp.Lexicographic.{slice_cmp}
use Rattle.std.specs.Str.{bytes_eq}
use Rattle.std.proofs.lemmas.Bool.Decides.{eqb_tells}
use Rattle.std.proofs.lemmas.Cmp.{eq_by_cmp_equiv, nat_list_cmp_total}
use Rattle.std.proofs.lemmas.List.Elements.{All-contains_itself, recursion_from_All}
use Rattle.std.proofs.lemmas.List.Quantifiers.{position-Some}
use Rattle.std.proofs.lemmas.Map.Keys.{IsDistinct-from_sorted}
use Rattle.std.proofs.lemmas.Map.Views.{lookup-from_Contains}
use Rattle.std.proofs.lemmas.Option.{slice_get-get_or}
use Rattle.std.proofs.lemmas.Slice.Eq.{bytes_eq-Decides}
use Rattle.dscb_codec.specs.declared.Dscb.{Dscb}
use Rattle.dscb_codec.specs.declared.Dscb.TheVariants as formats
use Rattle.dscb_codec.specs.declared.DscbErr.{DscbErr}
use Rattle.dscb_codec.specs.declared.F1.{F1}
use Rattle.pack_spec.specs.declared.slot.VtocSlot.{VtocSlot}
use Rattle.pack_spec.specs.Rules.{is_named, name_fault, name_faults, set_in}
use Rattle.pack_spec.proofs.SetNames.{each_weaker, named_set, names_apart, same_name, sets_among}
use Rattle.vtoc_index.specs.Index.{AreDscbs}
use Rattle.vtoc_index.specs.Names.{AreByName, name_at, name_in, names_of, or_zeros}
use Rattle.vtoc_index.proofs.NameFaults.{name_of_named}
use Rattle.vtoc_index.proofs.NameOrder.{first_at, slice_some, zeros_some}

abbrev no_slot : VtocSlot
no_slot = record { address = []; content = Ok formats.F0 }

-- the name in a content
abbrev name_by : Result Dscb DscbErr → Option (List ℕ)
name_by c = option_map (λ f. f.name) (set_in c)

at_named : (ss : List VtocSlot) (k : ℕ) (n : List ℕ) → k < length ss → is_named n (get_or ss k no_slot).content ≡ true → name_in ss k ≡ Some n
at_named ss k n low is = ap (option_and_then (λ (s : VtocSlot). name_by s.content)) (slice_get-get_or ss k no_slot low) ∙ name_of_named n (get_or ss k no_slot).content is

-- the format 1 of a name
set_named : (c : Result Dscb DscbErr) (n : List ℕ) → name_by c ≡ Some n → (f : F1) × (set_in c ≡ Some f) × (f.name ≡ n)
set_named c n is = by_set (set_in c) refl is
  where
    by_set : (o : Option F1) → set_in c ≡ o → option_map (λ f. f.name) o ≡ Some n → (f : F1) × (set_in c ≡ Some f) × (f.name ≡ n)
    by_set None there named = cc
    by_set (Some f) there named = (f, there, cc)

-- a slot of a name, and its format 1
slot_named : (ss : List VtocSlot) (k : ℕ) (n : List ℕ) → name_in ss k ≡ Some n → (s : VtocSlot) × (slice_get ss k ≡ Some s) × (name_by s.content ≡ Some n)
slot_named ss k n is = by_slot (slice_get ss k) refl is
  where
    by_slot : (o : Option VtocSlot) → slice_get ss k ≡ o → option_and_then (λ (s : VtocSlot). name_by s.content) o ≡ Some n → (s : VtocSlot) × (slice_get ss k ≡ Some s) × (name_by s.content ≡ Some n)
    by_slot None there named = cc
    by_slot (Some s) there named = (s, there, named)

module _ (Q : F1 → Type 0) where
  front_set : (o : Option F1) (fs : List F1) (f : F1) → o ≡ Some f → AllByRecursion Q (cons_option o fs) → Q f
  front_set None fs f is all = cc
  front_set (Some h) fs f is all = let same : h ≡ f = cc in subst Q same all.0

  behind_set : (o : Option F1) (fs : List F1) → AllByRecursion Q (cons_option o fs) → AllByRecursion Q fs
  behind_set None fs all = all
  behind_set (Some h) fs all = all.1

  set_at : (xs : List VtocSlot) (k : ℕ) (s : VtocSlot) (f : F1) → AllByRecursion Q (sets_among xs) → slice_get xs k ≡ Some s → set_in s.content ≡ Some f → Q f
  set_at [] k s f all there is = cc
  set_at (x ∷ xs) zero s f all there is =
      let same : x ≡ s = cc in
      front_set (set_in x.content) (sets_among xs) f (ap (λ (y : VtocSlot). set_in y.content) same ∙ is) all
  set_at (x ∷ xs) (suc k) s f all there is = set_at xs k s f (behind_set (set_in x.content) (sets_among xs) all) there is

distinct_head : (o : Option F1) (f : F1) (fs : List F1) → o ≡ Some f → IsDistinct same_name (cons_option o fs) → AllByRecursion (λ h. same_name f h ≡ false) fs
unfolding IsDistinct
distinct_head None f fs is d = cc
distinct_head (Some h) f fs is d = let same : h ≡ f = cc in subst (λ (x : F1). AllByRecursion (λ y. same_name x y ≡ false) fs) same d.0

distinct_tail : (o : Option F1) (fs : List F1) → IsDistinct same_name (cons_option o fs) → IsDistinct same_name fs
unfolding IsDistinct
distinct_tail None fs d = d
distinct_tail (Some h) fs d = d.1

-- no two slots have one name
apart : (xs : List VtocSlot) (i j : ℕ) (n : List ℕ) → IsDistinct same_name (sets_among xs) → i < j → name_in xs i ≡ Some n → name_in xs j ≡ Some n → ⊥
apart [] i j n d less one other = cc
apart (x ∷ xs) i zero n d less one other = absurd (omega (arith, less))
apart (x ∷ xs) zero (suc j) n d less one other =
    let f = set_named x.content n one in
    let s = slot_named xs j n other in
    let h = set_named s.0.content n s.2 in
    let differ : bytes_eq f.0.name h.0.name ≡ false = set_at (λ y. same_name f.0 y ≡ false) xs j s.0 h.0 (distinct_head (set_in x.content) f.0 (sets_among xs) f.1 d) s.1 h.1 in
    let same : bytes_eq f.0.name h.0.name ≡ true = (bytes_eq-Decides f.0.name h.0.name).1 (f.2 ∙ sym h.2) in
    cc
apart (x ∷ xs) (suc i) (suc j) n d less one other = apart xs i j n (distinct_tail (set_in x.content) (sets_among xs) d) (omega (arith, less)) one other

-- the values of a map, by what its entries are
any_value : (test : List ℕ → Bool) (es : List (List ℕ × ℕ)) (k : ℕ) → lookup test es ≡ Some k → list_any (λ s. s == k) (values_of es) ≡ true
any_value test [] k is = cc
any_value test (e ∷ es) k is = by_test (test e.0) (λ found. any_value test es k found) is
  where
    by_test : (b : Bool) → (lookup test es ≡ Some k → list_any (λ s. s == k) (values_of es) ≡ true) → cond b (Some e.1) (lookup test es) ≡ Some k → (e.1 == k || list_any (λ s. s == k) (values_of es)) ≡ true
    by_test true more found = let same : e.1 ≡ k = cc in elim (eqb_tells e.1 k) [ inl w ↦ ap (λ (b : Bool). b || list_any (λ s. s == k) (values_of es)) w.0 | inr w ↦ absurd (w.1 same) ]
    by_test false more found = elim (eqb_tells e.1 k) [
      | inl w ↦ ap (λ (b : Bool). b || list_any (λ s. s == k) (values_of es)) w.0
      | inr w ↦ ap (λ (b : Bool). b || list_any (λ s. s == k) (values_of es)) w.0 ∙ more found
    ]

module _ (ss : List VtocSlot) where
  -- an entry is that of a slot and its name
  abbrev IsEntry : List ℕ × ℕ → Type 0
  IsEntry e = name_in ss e.1 ≡ Some e.0

  no_value : (es : List (List ℕ × ℕ)) (k : ℕ) → AllByRecursion IsEntry es → name_in ss k ≡ None → list_any (λ s. s == k) (values_of es) ≡ false
  no_value [] k all none = refl
  no_value (e ∷ es) k all none = elim (eqb_tells e.1 k) [
    | inl w ↦ let both : None ≡ Some e.0 = sym none ∙ ap (name_in ss) (sym w.1) ∙ all.0 in cc
    | inr w ↦ ap (λ (b : Bool). b || list_any (λ s. s == k) (values_of es)) w.0 ∙ no_value es k all.1 none
  ]

  same_keys : (es : List (List ℕ × ℕ)) → AllByRecursion IsEntry es → names_of (name_in ss) (values_of es) ≡ keys_of es
  same_keys [] all = refl
  same_keys (e ∷ es) all =
      ap (λ (n : List ℕ). n ∷ names_of (name_in ss) (values_of es)) (ap or_zeros all.0 ∙ zeros_some e.0)
      ∙ ap (λ (l : List (List ℕ)). e.0 ∷ l) (same_keys es all.1)

  module _ (es : List (List ℕ × ℕ)) (sorted : IsStrictlySortedBy (slice_cmp nat_cmp) (keys_of es)) (lowest : (n : List ℕ) → lookup (is_at (slice_cmp nat_cmp n)) es ≡ position (λ s. is_named n s.content) ss)
      (none : slice_get (name_faults ss) 0 ≡ None) where
    distinct : IsDistinct same_name (sets_among ss)
    unfolding name_faults
    distinct = names_apart ss none

    -- each name that a slot has is an entry
    found : (k : ℕ) (n : List ℕ) → name_in ss k ≡ Some n → lookup (is_at (slice_cmp nat_cmp n)) es ≡ Some k
    found k n is =
        let s = slot_named ss k n is in
        let at = slice_some ss k s.0 s.1 in
        let f = set_named s.0.content n s.2 in
        let named : is_named n (get_or ss k no_slot).content ≡ true = ap (λ (x : VtocSlot). is_named n x.content) (at.1 no_slot) ∙ named_set s.0.content f.0 n f.1 ∙ (bytes_eq-Decides f.0.name n).1 f.2 in
        lowest n ∙ first_at (λ x. is_named n x.content) ss k no_slot at.0 named (λ j less passes. apart ss j k n distinct less (at_named ss j n (omega (arith, less, at.0)) passes) is)

    -- and each entry is of a slot and its name
    entries : AllByRecursion IsEntry es
    entries = each_weaker (Contains es) IsEntry (λ e there. of_entry e there) es (recursion_from_All (Contains es) es (All-contains_itself es))
      where
        of_entry : (e : List ℕ × ℕ) → Contains es e → IsEntry e
        of_entry e there =
            let given : lookup (is_at (slice_cmp nat_cmp e.0)) es ≡ Some e.1 = lookup-from_Contains (eq_by_cmp_equiv nat_list_cmp_total) e.0 e.1 es (IsDistinct-from_sorted (slice_cmp nat_cmp) (keys_of es) sorted) there in
            let at = position-Some (λ s. is_named e.0 s.content) ss e.1 no_slot (sym (lowest e.0) ∙ given) in
            at_named ss e.1 e.0 at.0 at.1

    -- the slots in the order of the entries
    pub by_entries : AreByName (name_in ss) (values_of es)
    by_entries = record {
      each = λ k. by_name k (name_in ss k) refl;
      rise = subst (IsStrictlySortedBy (slice_cmp nat_cmp)) (sym (same_keys es entries)) sorted;
    }
      where
        by_name : (k : ℕ) (o : Option (List ℕ)) → name_in ss k ≡ o → list_any (λ s. s == k) (values_of es) ≡ is_some (name_in ss k)
        by_name k None is = no_value es k entries is ∙ sym (ap is_some is)
        by_name k (Some n) is = any_value (is_at (slice_cmp nat_cmp n)) es k (found k n is) ∙ sym (ap is_some is)

-- the names that DSCBs have are those of their slots
pub names_alike : (ds : List Dscb) (ss : List VtocSlot) → AreDscbs ds ss → (k : ℕ) → name_in ss k ≡ name_at ds k
names_alike [] [] are k = refl
names_alike [] (s ∷ ss) are k = cc
names_alike (d ∷ ds) [] are k = cc
names_alike (d ∷ ds) (s ∷ ss) are zero = let first : s.content ≡ Ok d = cc in ap name_by first
names_alike (d ∷ ds) (s ∷ ss) are (suc k) = let rest : AreDscbs ds ss = cc in names_alike ds ss rest k
