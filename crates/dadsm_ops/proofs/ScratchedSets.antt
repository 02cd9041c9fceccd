-- The volume of slots of which one that held a format 1 is cleared: it is the one after a Scratch of its data set.
use Rattle.std.proofs.Common.{◌≡◌, ℕ, suc, Bool, true, false, cond, List, [], ◌∷◌, ◌++◌, take, drop, map, Option, Some, None, Ok, refl, sym, ap, subst, ◌∙◌}
use Rattle.std.specs.Prelude.{◌||◌, not, filter, slice_get, slice_range, Result}
use Rattle.std.specs.List.{AllByRecursion, IsDistinct, cons_option, filter_map, find, list_any}
use Rattle.std.proofs.lemmas.List.{map-append}
use Rattle.std.proofs.lemmas.List.Elements.{filter-append, filter_map-append}
use Rattle.std.proofs.lemmas.List.Folds.{list_any-append}
use Rattle.std.proofs.lemmas.Slice.Eq.{bytes_eq-Decides}
use Rattle.ckd_image.specs.declared.header.Geometry.{Geometry}
use Rattle.dscb_codec.specs.declared.Dscb.TheVariants as formats
use Rattle.dscb_codec.specs.declared.F1.{F1}
use Rattle.ebcdic_names.specs.declared.names.Dsn.{Dsn}
use Rattle.pack_spec.specs.declared.slot.VtocSlot.{VtocSlot}
use Rattle.pack_spec.specs.Bodies.{body_of, catalog_of}
use Rattle.pack_spec.specs.Rules.{name_faults, set_in, slots_faults}
use Rattle.pack_spec.specs.Volume.{attr_of, data_set_of, data_sets_in, volume_with}
use Rattle.pack_spec.specs.Vtoc.{run_of_extent}
use Rattle.pack_spec.proofs.Lawful.{groups_hold}
use Rattle.pack_spec.proofs.SetNames.{distinct_sets, names_apart}
use Rattle.vol_model.specs.declared.catalogs.CatBody.TheVariants as catalogs
use Rattle.vol_model.specs.declared.contents.DataSet.{DataSet}
use Rattle.vol_model.specs.declared.contents.Run.{Run}
use Rattle.vol_model.specs.declared.contents.Volume.{Volume}
use Rattle.vol_model.specs.declared.refusals.Refusal.{Refusal}
use Rattle.vol_model.specs.Order.{in_order}
use Rattle.vol_model.specs.Shelf.{catalog_name, has_name, is_catalog, on_found, scratch_on}
use Rattle.vol_model.proofs.Steps.{any_in_order, same_names}
use Rattle.vtoc_index.specs.Index.{with_dscb}
use Rattle.slot_laws.proofs.ChangedNames.{apart_before, apart_behind, filter_in_order}
use Rattle.slot_laws.proofs.ChangedSlots.{holding, length-changed, split_changed, split_slots}
use Rattle.dadsm_ops.proofs.ClearedSets.{counted_same}

-- ---- lists without some of their items

all_kept : (p : DataSet → Bool) (xs : List DataSet) → AllByRecursion (λ x. p x ≡ true) xs → filter p xs ≡ xs
all_kept p [] all = refl
all_kept p (x ∷ xs) all = ap (λ (b : Bool). cond b (x ∷ filter p xs) (filter p xs)) all.0 ∙ ap (λ (l : List DataSet). x ∷ l) (all_kept p xs all.1)

-- the data sets of other names
abbrev pub others : List ℕ → List DataSet → List DataSet
others name sets = filter (λ (y : DataSet). not (has_name name y)) sets

pub others_of : (name : List ℕ) (x : DataSet) (xs ys : List DataSet) → x.name.bytes ≡ name → IsDistinct same_names (xs ++ x ∷ ys) → others name (xs ++ x ∷ ys) ≡ xs ++ ys
others_of name x xs ys is apart =
    let p : DataSet → Bool = λ y. not (has_name name y) in
    let this : p x ≡ false = ap not ((bytes_eq-Decides x.name.bytes name).1 is) in
    filter-append p xs (x ∷ ys)
    ∙ ap (λ (l : List DataSet). l ++ filter p (x ∷ ys)) (all_kept p xs (apart_before name x xs ys is apart))
    ∙ ap (λ (l : List DataSet). xs ++ l) (ap (λ (b : Bool). cond b (x ∷ filter p ys) (filter p ys)) this ∙ all_kept p ys (apart_behind name x xs ys is apart))

-- ---- the catalog

found_some : (p : DataSet → Bool) (xs : List DataSet) → list_any p xs ≡ true → (x : DataSet) × (find p xs ≡ Some x)
found_some p [] any = absurd cc
found_some p (x ∷ xs) any = by_test (p x) (λ rest. found_some p xs rest) any
  where
    by_test : (b : Bool) → (list_any p xs ≡ true → (y : DataSet) × (find p xs ≡ Some y)) → (b || list_any p xs) ≡ true → (y : DataSet) × (cond b (Some x) (find p xs) ≡ Some y)
    by_test true more is = (x, refl)
    by_test false more is = more is

none_left : (name : List ℕ) (xs : List DataSet) → list_any (has_name name) (others name xs) ≡ false
none_left name [] = refl
none_left name (x ∷ xs) = by_test (has_name name x) refl (none_left name xs)
  where
    by_test : (b : Bool) → has_name name x ≡ b → list_any (has_name name) (others name xs) ≡ false → list_any (has_name name) (cond (not b) (x ∷ others name xs) (others name xs)) ≡ false
    by_test true is none = none
    by_test false is none = ap (λ (b : Bool). b || list_any (has_name name) (others name xs)) is ∙ none

catalog_left : (name : List ℕ) (xs : List DataSet) → is_catalog name ≡ false → list_any (has_name catalog_name) (others name xs) ≡ list_any (has_name catalog_name) xs
catalog_left name [] other = refl
catalog_left name (x ∷ xs) other = by_test (has_name name x) refl (catalog_left name xs other)
  where
    by_test : (b : Bool) → has_name name x ≡ b → list_any (has_name catalog_name) (others name xs) ≡ list_any (has_name catalog_name) xs → list_any (has_name catalog_name) (cond (not b) (x ∷ others name xs) (others name xs)) ≡ list_any (has_name catalog_name) (x ∷ xs)
    by_test true is rest =
        let named : x.name.bytes ≡ name = (bytes_eq-Decides x.name.bytes name).0 is in
        rest ∙ sym (ap (λ (b : Bool). b || list_any (has_name catalog_name) xs) (ap is_catalog named ∙ other))
    by_test false is rest = ap (λ (b : Bool). has_name catalog_name x || b) rest

pub catalog_without : (name : List ℕ) (sets : List DataSet) → catalog_of (others name sets) ≡ cond (is_catalog name) None (catalog_of sets)
unfolding catalog_of
catalog_without name sets = by_test (is_catalog name) refl
  where
    by_test : (b : Bool) → is_catalog name ≡ b → cond (list_any (has_name catalog_name) (others name sets)) (Some (catalogs.Unreadable 0)) None ≡ cond b None (cond (list_any (has_name catalog_name) sets) (Some (catalogs.Unreadable 0)) None)
    by_test true is =
        let same : name ≡ catalog_name = (bytes_eq-Decides name catalog_name).0 is in
        let none : list_any (has_name catalog_name) (others name sets) ≡ false = ap (λ (n : List ℕ). list_any (has_name n) (others name sets)) (sym same) ∙ none_left name sets in
        ap (λ (b : Bool). cond b (Some (catalogs.Unreadable 0)) None) none
    by_test false is = ap (λ (b : Bool). cond b (Some (catalogs.Unreadable 0)) None) (catalog_left name sets is)

-- ---- the data sets in the slots

-- The data sets in slots: those before one of them, it, and those after it.
pub record IsAmong (g : Geometry) (tracks : List (List ℕ)) (slots without : List VtocSlot) (x : DataSet) : Type 0 where
  pub front : List DataSet
  pub back : List DataSet
  pub all : data_sets_in g tracks slots ≡ front ++ x ∷ back
  pub left : data_sets_in g tracks without ≡ front ++ back
  pub apart : IsDistinct same_names (front ++ x ∷ back)

module _ (g : Geometry) (tracks : List (List ℕ)) (slots : List VtocSlot) (k : ℕ) (s : VtocSlot) (f : F1) (at : slice_get slots k ≡ Some s) (set : s.content ≡ Ok (formats.F1 f)) (none : slots_faults g slots ≡ []) where
  abbrev cleared : List VtocSlot
  cleared = with_dscb k formats.F0 slots

  -- a data set is as before
  pub set_same : (h : F1) → data_set_of g tracks cleared h ≡ data_set_of g tracks slots h
  unfolding data_set_of
  set_same h = ap (λ (es : List (List ℕ)). record { name = record { bytes = h.name }; attr = attr_of h; extents = map (run_of_extent g) es; body = body_of g tracks h.name (attr_of h) (map (run_of_extent g) es) h.lstar }) (counted_same g slots k s f at set h)

  abbrev sets_among : List VtocSlot → List F1
  sets_among ss = filter_map (λ (t : VtocSlot). set_in t.content) ss

  abbrev ahead : List VtocSlot
  ahead = take k slots

  abbrev behind : List VtocSlot
  behind = drop (suc k) slots

  formats_before : sets_among slots ≡ sets_among ahead ++ f ∷ sets_among behind
  formats_before =
      ap sets_among (split_slots k slots s at)
      ∙ filter_map-append (λ (t : VtocSlot). set_in t.content) ahead (s ∷ behind)
      ∙ ap (λ (o : Option F1). sets_among ahead ++ cons_option o (sets_among behind)) (ap set_in set)

  formats_after : sets_among cleared ≡ sets_among ahead ++ sets_among behind
  formats_after = ap sets_among (split_changed k formats.F0 slots s at) ∙ filter_map-append (λ (t : VtocSlot). set_in t.content) ahead (holding formats.F0 s ∷ behind)

  pub among : IsAmong g tracks slots cleared (data_set_of g tracks slots f)
  unfolding data_sets_in name_faults
  among =
      let D : F1 → DataSet = data_set_of g tracks slots in
      let all : data_sets_in g tracks slots ≡ map D (sets_among ahead) ++ D f ∷ map D (sets_among behind) = ap (map D) formats_before ∙ map-append D (sets_among ahead) (f ∷ sets_among behind) in
      record {
        front = map D (sets_among ahead);
        back = map D (sets_among behind);
        all = all;
        left = (λ i. map (λ h. set_same h i) (sets_among cleared)) ∙ ap (map D) formats_after ∙ map-append D (sets_among ahead) (sets_among behind);
        apart = subst (IsDistinct same_names) all (distinct_sets g tracks slots (sets_among slots) (names_apart slots (groups_hold g slots none).2));
      }

  abbrev name : List ℕ
  name = f.name

  named : (data_set_of g tracks slots f).name.bytes ≡ f.name
  unfolding data_set_of
  named = refl

  -- the data sets of the volume after it
  pub sets_left : in_order (data_sets_in g tracks cleared) ≡ others f.name (in_order (data_sets_in g tracks slots))
  sets_left =
      let x : DataSet = data_set_of g tracks slots f in
      ap in_order (among.left ∙ sym (others_of f.name x among.front among.back named among.apart) ∙ ap (others f.name) (sym among.all))
      ∙ sym (filter_in_order (λ (y : DataSet). not (has_name f.name y)) (data_sets_in g tracks slots))

  -- the set is one of the volume's
  there : list_any (has_name f.name) (in_order (data_sets_in g tracks slots)) ≡ true
  there =
      let x : DataSet = data_set_of g tracks slots f in
      any_in_order (has_name f.name) (data_sets_in g tracks slots)
      ∙ ap (list_any (has_name f.name)) among.all
      ∙ list_any-append (has_name f.name) among.front (x ∷ among.back)
      ∙ ap (λ (b : Bool). list_any (has_name f.name) among.front || (b || list_any (has_name f.name) among.back)) ((bytes_eq-Decides x.name.bytes f.name).1 named)
      ∙ or_true (list_any (has_name f.name) among.front)
    where
      or_true : (b : Bool) → (b || true) ≡ true
      or_true true = refl
      or_true false = refl

  -- The volume of the slots without the set is the one after its Scratch.
  pub volume_left : (label : List ℕ) (vtoc : Run) (dsn : Dsn) → dsn.bytes ≡ f.name → scratch_on dsn (volume_with g tracks label vtoc slots) ≡ Ok (volume_with g tracks label vtoc cleared)
  unfolding scratch_on volume_with
  volume_left label vtoc dsn is =
      let volume : Volume = volume_with g tracks label vtoc slots in
      let after : List ℕ → Volume = λ n. record volume { sets = others n volume.sets; catalog = cond (is_catalog n) None volume.catalog } in
      let sets = in_order (data_sets_in g tracks slots) in
      let found = found_some (has_name f.name) sets there in
      let step : List ℕ → Option DataSet → Result Volume Refusal = λ n o. on_found o (λ x. Ok (after n)) in
      ap (λ (n : List ℕ). step n (find (has_name n) sets)) is
      ∙ ap (step f.name) found.1
      ∙ (λ i. Ok (record {
        serial = record { bytes = slice_range label 4 10 };
        geometry = g;
        vtoc = vtoc;
        slots = sym (length-changed k formats.F0 slots) i;
        sets = sym sets_left i;
        catalog = (sym (catalog_without f.name sets) ∙ ap catalog_of (sym sets_left)) i;
      }))
