-- The volume of slots of which one that held the format 1 of a data set holds another of the same name: that set alone is changed.
use Rattle.std.proofs.Common.{◌≡◌, ℕ, suc, Bool, true, false, cond, List, [], ◌∷◌, ◌++◌, take, drop, map, Option, Some, None, Ok, refl, sym, ap, ap₂, subst, ◌∙◌}
use Rattle.std.specs.Prelude.{not, filter, slice_get, slice_range, find}
use Rattle.std.specs.List.{AllByRecursion, IsDistinct, cons_option, list_any}
use Rattle.std.specs.List.Sorted.{IsPermutation}
use Rattle.std.proofs.lemmas.List.{map-append}
use Rattle.std.proofs.lemmas.List.Elements.{filter-append, filter_map-append}
use Rattle.std.proofs.lemmas.List.Sorted.{IsPermutation-map, IsPermutation-sym, IsPermutation-trans}
use Rattle.std.proofs.lemmas.Slice.Eq.{bytes_eq-Decides}
use Rattle.ckd_image.specs.declared.header.Geometry.{Geometry}
use Rattle.dscb_codec.specs.declared.Dscb.TheVariants as formats
use Rattle.dscb_codec.specs.declared.F1.{F1}
use Rattle.pack_spec.specs.declared.slot.VtocSlot.{VtocSlot}
use Rattle.pack_spec.specs.Bodies.{body_of, catalog_of}
use Rattle.pack_spec.specs.Rules.{name_faults, set_in, slots_faults}
use Rattle.pack_spec.specs.Volume.{attr_of, data_set_of, data_sets_in, volume_with}
use Rattle.pack_spec.specs.Vtoc.{run_of_extent}
use Rattle.pack_spec.proofs.Lawful.{groups_hold}
use Rattle.pack_spec.proofs.SetNames.{distinct_sets, names_apart, sets_among}
use Rattle.shelf_laws.proofs.SetChanges.{KeepsNames, changed-any, changed-ascending}
use Rattle.vol_model.specs.declared.catalogs.CatBody.TheVariants as catalogs
use Rattle.vol_model.specs.declared.contents.DataSet.{DataSet}
use Rattle.vol_model.specs.declared.contents.Run.{Run}
use Rattle.vol_model.specs.Order.{IsAscending, in_order}
use Rattle.vol_model.specs.Shelf.{catalog_name, changed, has_name, set_of, with_set}
use Rattle.vol_model.proofs.InOrder.{in_order-permutation, in_order-sorted}
use Rattle.vol_model.proofs.Steps.{ascending-distinct, ascending_in_order, in_order-ascending, same_names, sorted_in_order}
use Rattle.vtoc_index.specs.Index.{with_dscb}
use Rattle.slot_laws.proofs.ChangedNames.{apart_before, apart_behind, filter_in_order}
use Rattle.slot_laws.proofs.ChangedSlots.{holding, length-changed, split_changed, split_slots}
use Rattle.slot_laws.proofs.ReplacedSets.{counted_same}

-- ---- the one data set of a name

module _ (name : List ℕ) (x : DataSet) (xs ys : List DataSet) (is : x.name.bytes ≡ name) (apart : IsDistinct same_names (xs ++ x ∷ ys)) where
  has_it : has_name name x ≡ true
  has_it = (bytes_eq-Decides x.name.bytes name).1 is

  none_kept : (zs : List DataSet) → AllByRecursion (λ y. not (has_name name y) ≡ true) zs → filter (has_name name) zs ≡ []
  none_kept [] all = refl
  none_kept (z ∷ zs) all = by_test (has_name name z) all.0 (none_kept zs all.1)
    where
      by_test : (b : Bool) → not b ≡ true → filter (has_name name) zs ≡ [] → cond b (z ∷ filter (has_name name) zs) (filter (has_name name) zs) ≡ []
      by_test true other rest = cc
      by_test false other rest = rest

  filter_one : filter (has_name name) (xs ++ x ∷ ys) ≡ x ∷ []
  filter_one =
      filter-append (has_name name) xs (x ∷ ys)
      ∙ ap (λ (l : List DataSet). l ++ filter (has_name name) (x ∷ ys)) (none_kept xs (apart_before name x xs ys is apart))
      ∙ ap (λ (b : Bool). cond b (x ∷ filter (has_name name) ys) (filter (has_name name) ys)) has_it
      ∙ ap (λ (l : List DataSet). x ∷ l) (none_kept ys (apart_behind name x xs ys is apart))

  module _ (f : DataSet → DataSet) where
    changed_none : (zs : List DataSet) → AllByRecursion (λ y. not (has_name name y) ≡ true) zs → changed name f zs ≡ zs
    changed_none [] all = refl
    changed_none (z ∷ zs) all = ap₂ (λ (a : DataSet) (l : List DataSet). a ∷ l) (by_test (has_name name z) all.0) (changed_none zs all.1)
      where
        by_test : (b : Bool) → not b ≡ true → cond b (f z) z ≡ z
        by_test true other = cc
        by_test false other = refl

    changed_one : changed name f (xs ++ x ∷ ys) ≡ xs ++ f x ∷ ys
    changed_one =
        let one : DataSet → DataSet = λ y. cond (has_name name y) (f y) y in
        map-append one xs (x ∷ ys)
        ∙ ap (λ (l : List DataSet). l ++ changed name f (x ∷ ys)) (changed_none xs (apart_before name x xs ys is apart))
        ∙ ap (λ (b : Bool). xs ++ cond b (f x) x ∷ changed name f ys) has_it
        ∙ ap (λ (l : List DataSet). xs ++ f x ∷ l) (changed_none ys (apart_behind name x xs ys is apart))

-- what is found is the first that is kept
find_kept : (p : DataSet → Bool) (xs : List DataSet) → find p xs ≡ slice_get (filter p xs) 0
find_kept p [] = refl
find_kept p (x ∷ xs) = by_test (p x) (find_kept p xs)
  where
    by_test : (b : Bool) → find p xs ≡ slice_get (filter p xs) 0 → cond b (Some x) (find p xs) ≡ slice_get (cond b (x ∷ filter p xs) (filter p xs)) 0
    by_test true rest = refl
    by_test false rest = rest

-- ---- the data sets in the slots

module _ (g : Geometry) (tracks : List (List ℕ)) (slots : List VtocSlot) (k : ℕ) (s : VtocSlot) (f : F1) (at : slice_get slots k ≡ Some s) (set : s.content ≡ Ok (formats.F1 f)) (none : slots_faults g slots ≡ []) where
  abbrev x : DataSet
  x = data_set_of g tracks slots f

  abbrev old : List DataSet
  old = data_sets_in g tracks slots

  abbrev front : List DataSet
  front = map (data_set_of g tracks slots) (sets_among (take k slots))

  abbrev back : List DataSet
  back = map (data_set_of g tracks slots) (sets_among (drop (suc k) slots))

  formats_before : sets_among slots ≡ sets_among (take k slots) ++ f ∷ sets_among (drop (suc k) slots)
  formats_before =
      ap sets_among (split_slots k slots s at)
      ∙ filter_map-append (λ (t : VtocSlot). set_in t.content) (take k slots) (s ∷ drop (suc k) slots)
      ∙ ap (λ (o : Option F1). sets_among (take k slots) ++ cons_option o (sets_among (drop (suc k) slots))) (ap set_in set)

  all_before : old ≡ front ++ x ∷ back
  unfolding data_sets_in
  all_before = ap (map (data_set_of g tracks slots)) formats_before ∙ map-append (data_set_of g tracks slots) (sets_among (take k slots)) (f ∷ sets_among (drop (suc k) slots))

  distinct : IsDistinct same_names old
  unfolding data_sets_in name_faults
  distinct = distinct_sets g tracks slots (sets_among slots) (names_apart slots (groups_hold g slots none).2)

  apart : IsDistinct same_names (front ++ x ∷ back)
  apart = subst (IsDistinct same_names) all_before distinct

  named : x.name.bytes ≡ f.name
  unfolding data_set_of
  named = refl

  -- The set of its name on the volume is that of the format 1.
  pub set_there : (label : List ℕ) (vtoc : Run) → set_of f.name (volume_with g tracks label vtoc slots) ≡ Some (data_set_of g tracks slots f)
  unfolding volume_with
  set_there label vtoc =
      find_kept (has_name f.name) (in_order old)
      ∙ ap (λ (l : List DataSet). slice_get l 0)
      (filter_in_order (has_name f.name) old
      ∙ ap (λ (l : List DataSet). in_order (filter (has_name f.name) l)) all_before
      ∙ ap in_order (filter_one f.name x front back named apart)
      ∙ ascending_in_order (x ∷ []) (tt, tt))

  module _ (h : F1) (G : DataSet → DataSet) (names : KeepsNames G) (is : data_set_of g tracks slots h ≡ G (data_set_of g tracks slots f)) where
    abbrev other : List VtocSlot
    other = with_dscb k (formats.F1 h) slots

    set_same : (e : F1) → data_set_of g tracks other e ≡ data_set_of g tracks slots e
    unfolding data_set_of
    set_same e = ap (λ (es : List (List ℕ)). record { name = record { bytes = e.name }; attr = attr_of e; extents = map (run_of_extent g) es; body = body_of g tracks e.name (attr_of e) (map (run_of_extent g) es) e.lstar }) (counted_same g slots k s f at set (formats.F1 h) refl e)

    formats_after : sets_among other ≡ sets_among (take k slots) ++ h ∷ sets_among (drop (suc k) slots)
    formats_after = ap sets_among (split_changed k (formats.F1 h) slots s at) ∙ filter_map-append (λ (t : VtocSlot). set_in t.content) (take k slots) (holding (formats.F1 h) s ∷ drop (suc k) slots)

    all_after : data_sets_in g tracks other ≡ changed f.name G old
    unfolding data_sets_in
    all_after =
        (λ i. map (λ e. set_same e i) (sets_among other))
        ∙ ap (map (data_set_of g tracks slots)) formats_after
        ∙ map-append (data_set_of g tracks slots) (sets_among (take k slots)) (h ∷ sets_among (drop (suc k) slots))
        ∙ ap (λ (y : DataSet). front ++ y ∷ back) is
        ∙ sym (changed_one f.name x front back named apart G)
        ∙ ap (changed f.name G) (sym all_before)

    -- in the order of their names
    ascend : IsAscending (in_order old)
    ascend = in_order-ascending old distinct

    sets_changed : in_order (data_sets_in g tracks other) ≡ changed f.name G (in_order old)
    sets_changed =
        let l : List DataSet = changed f.name G (in_order old) in
        let up : IsAscending l = changed-ascending f.name G names (in_order old) ascend in
        let after : List DataSet = data_sets_in g tracks other in
        let one : DataSet → DataSet = λ y. cond (has_name f.name y) (G y) y in
        let moved : IsPermutation l (changed f.name G old) = IsPermutation-map one (in_order old) old (IsPermutation-sym _ _ (in_order-permutation old)) in
        let there : IsPermutation l after = subst (IsPermutation l) (sym all_after) moved in
        sorted_in_order l (in_order after) (ascending-distinct l up) (IsPermutation-trans _ _ _ there (in_order-permutation after)) (in_order-sorted after)
        ∙ ascending_in_order l up

    catalog_kept : catalog_of (in_order (data_sets_in g tracks other)) ≡ catalog_of (in_order old)
    unfolding catalog_of
    catalog_kept =
        ap (λ (b : Bool). cond b (Some (catalogs.Unreadable 0)) None)
        (ap (list_any (has_name catalog_name)) sets_changed ∙ changed-any f.name G names catalog_name (in_order old))

    -- The volume with the other format 1 has this set changed.
    pub volume_changed : (label : List ℕ) (vtoc : Run) → volume_with g tracks label vtoc (with_dscb k (formats.F1 h) slots) ≡ with_set (volume_with g tracks label vtoc slots) f.name G
    unfolding volume_with
    volume_changed label vtoc = λ i. record {
      serial = record { bytes = slice_range label 4 10 };
      geometry = g;
      vtoc = vtoc;
      slots = length-changed k (formats.F1 h) slots i;
      sets = sets_changed i;
      catalog = catalog_kept i;
    }
