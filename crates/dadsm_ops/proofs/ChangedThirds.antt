-- Slots of which one that held a format 3 holds another, with which each data set counts the same extents: they break no rule, and the volume is the same.
use Rattle.std.proofs.Common.{◌≡◌, ◌≢◌, ◌⊎◌, inl, inr, ⊎_elim, ℕ, zero, suc, Bool, true, false, cond, List, [], ◌∷◌, ◌++◌, take, map, Option, Some, None, Result, Ok, Err, refl, sym, ap, ap₂, ◌∙◌}
use Rattle.std.specs.Prelude.{◌||◌, ◌&&◌, ◌==◌, nat_le, not, is_some, option_and_then, position, slice_get, slice_range}
use Rattle.std.specs.List.{cons_option, filter_map, find, list_all, list_any}
use Rattle.std.specs.Option.{option_map, option_map_or}
use Rattle.std.specs.Str.{bytes_eq}
use Rattle.std.proofs.lemmas.Bool.{and_parts}
use Rattle.ckd_image.specs.declared.header.Geometry.{Geometry}
use Rattle.dscb_codec.specs.declared.Dscb.{Dscb}
use Rattle.dscb_codec.specs.declared.Dscb.TheVariants as formats
use Rattle.dscb_codec.specs.declared.DscbErr.{DscbErr}
use Rattle.dscb_codec.specs.declared.DscbErr.TheVariants.{Unsupported, BadFormat}
use Rattle.dscb_codec.specs.declared.F1.{F1}
use Rattle.dscb_codec.specs.declared.F3.{F3}
use Rattle.pack_spec.specs.declared.MountErr.{MountErr}
use Rattle.pack_spec.specs.declared.MountErr.TheVariants.{DuplicateName}
use Rattle.pack_spec.specs.declared.slot.VtocSlot.{VtocSlot}
use Rattle.pack_spec.specs.Bodies.{body_of, catalog_of}
use Rattle.pack_spec.specs.Rules.{content_fault, counted_extents, extents_fault, format_3_of, further_extents, has_chain, has_extents, has_types, is_chained, is_f3, is_f4, is_f5_or_f0, is_led_to, is_named, name_fault, set_in, shares_chain, slot_fault, slots_faults}
use Rattle.pack_spec.specs.Vtoc.{is_counted_type, is_extent, is_field_type, run_of_extent}
use Rattle.pack_spec.specs.Volume.{attr_of, data_set_of, data_sets_in, volume_with}
use Rattle.pack_spec.proofs.AlikeSlots.{IsSetOf}
use Rattle.vol_model.specs.declared.contents.DataSet.{DataSet}
use Rattle.vol_model.specs.declared.contents.Run.{Run}
use Rattle.vol_model.specs.Order.{in_order}
use Rattle.vtoc_index.specs.Index.{with_dscb}
use Rattle.vtoc_index.proofs.VtocPut.{same_or_apart}
use Rattle.slot_laws.proofs.ChangedLists.{any_first}
use Rattle.slot_laws.proofs.ChangedSlots.{breaks_none, changed_elsewhere, changed_there, holding, length-changed, none_broken}

-- what is in a slot
abbrev Content : Type 0
Content = Result Dscb DscbErr

-- what a test finds that tells the changed slot as before: the same, or that slot
pub find_alike : (p : VtocSlot → Bool) (k : ℕ) (d : Dscb) (xs : List VtocSlot) (s : VtocSlot) → slice_get xs k ≡ Some s → p (holding d s) ≡ p s
    → (find p (with_dscb k d xs) ≡ find p xs) ⊎ ((p s ≡ true) × (find p xs ≡ Some s) × (find p (with_dscb k d xs) ≡ Some (holding d s)))
find_alike p k d [] s is same = inl refl
find_alike p zero d (x ∷ xs) s is same = let one : x ≡ s = cc in by_test (p s) refl one
  where
    by_test : (b : Bool) → p s ≡ b → x ≡ s → (cond (p (holding d x)) (Some (holding d x)) (find p xs) ≡ cond (p x) (Some x) (find p xs)) ⊎ ((p s ≡ true) × (cond (p x) (Some x) (find p xs) ≡ Some s) × (cond (p (holding d x)) (Some (holding d x)) (find p xs) ≡ Some (holding d s)))
    by_test true test one = inr (test, ap (λ (y : VtocSlot). cond (p y) (Some y) (find p xs)) one ∙ ap (λ (b : Bool). cond b (Some s) (find p xs)) test, ap (λ (y : VtocSlot). cond (p (holding d y)) (Some (holding d y)) (find p xs)) one ∙ ap (λ (b : Bool). cond b (Some (holding d s)) (find p xs)) (same ∙ test))
    by_test false test one = inl (ap (λ (y : VtocSlot). cond (p (holding d y)) (Some (holding d y)) (find p xs)) one ∙ ap (λ (b : Bool). cond b (Some (holding d s)) (find p xs)) (same ∙ test)
        ∙ sym (ap (λ (y : VtocSlot). cond (p y) (Some y) (find p xs)) one ∙ ap (λ (b : Bool). cond b (Some s) (find p xs)) test))
find_alike p (suc k) d (x ∷ xs) s is same = by_test (p x) (find_alike p k d xs s is same)
  where
    by_test : (b : Bool) → (find p (with_dscb k d xs) ≡ find p xs) ⊎ ((p s ≡ true) × (find p xs ≡ Some s) × (find p (with_dscb k d xs) ≡ Some (holding d s)))
        → (cond b (Some x) (find p (with_dscb k d xs)) ≡ cond b (Some x) (find p xs)) ⊎ ((p s ≡ true) × (cond b (Some x) (find p xs) ≡ Some s) × (cond b (Some x) (find p (with_dscb k d xs)) ≡ Some (holding d s)))
    by_test true rest = inl refl
    by_test false rest = rest

-- whether one of the first ones passes
pub any_alike : (p : VtocSlot → Bool) (k m : ℕ) (d : Dscb) (xs : List VtocSlot) (s : VtocSlot) → slice_get xs k ≡ Some s → p (holding d s) ≡ p s → list_any p (take m (with_dscb k d xs)) ≡ list_any p (take m xs)
any_alike p k m d [] s is same = refl
any_alike p zero zero d (x ∷ xs) s is same = refl
any_alike p (suc k) zero d (x ∷ xs) s is same = refl
any_alike p zero (suc m) d (x ∷ xs) s is same =
    let one : x ≡ s = cc in
    ap (λ (b : Bool). b || list_any p (take m xs)) (ap (λ (y : VtocSlot). p (holding d y)) one ∙ same ∙ sym (ap p one))
any_alike p (suc k) (suc m) d (x ∷ xs) s is same = ap (λ (b : Bool). p x || b) (any_alike p k m d xs s is same)

-- the format 1s
pub sets_alike : (k : ℕ) (d : Dscb) (xs : List VtocSlot) (s : VtocSlot) → slice_get xs k ≡ Some s → set_in (Ok d) ≡ set_in s.content → filter_map (λ (t : VtocSlot). set_in t.content) (with_dscb k d xs) ≡ filter_map (λ (t : VtocSlot). set_in t.content) xs
sets_alike k d [] s is same = refl
sets_alike zero d (x ∷ xs) s is same =
    let one : x ≡ s = cc in
    ap (λ (o : Option F1). cons_option o (filter_map (λ (t : VtocSlot). set_in t.content) xs)) (same ∙ sym (ap (λ (y : VtocSlot). set_in y.content) one))
sets_alike (suc k) d (x ∷ xs) s is same = ap (cons_option (set_in x.content)) (sets_alike k d xs s is same)

-- the format 1 that is found in a slot
pub set_held : (c : Content) (f : F1) → set_in c ≡ Some f → c ≡ Ok (formats.F1 f)
set_held (Ok formats.F0) f is = cc
set_held (Ok (formats.F1 h)) f is = let same : h ≡ f = cc in ap (λ (x : F1). Ok (formats.F1 x)) same
set_held (Ok (formats.F3 h)) f is = cc
set_held (Ok (formats.F4 h)) f is = cc
set_held (Ok (formats.F5 h)) f is = cc
set_held (Err e) f is = cc

always_none : (b : Bool) → let none : Option MountErr = None in cond b none none ≡ none
always_none true = refl
always_none false = refl

gone : (o : Option ℕ) → is_some o ≡ false → o ≡ None
gone None is = refl
gone (Some x) is = absurd cc

unmapped : (k : ℕ) (o : Option ℕ) → option_map (DuplicateName k) o ≡ None → o ≡ None
unmapped k None is = refl
unmapped k (Some n) is = cc

module _ (g : Geometry) (slots : List VtocSlot) (k : ℕ) (s : VtocSlot) (h d : F3) (at : slice_get slots k ≡ Some s) (held : s.content ≡ Ok (formats.F3 h))
    (kept : (f : F1) → IsSetOf slots f → is_chained f ≡ true → bytes_eq s.address f.pointer ≡ true → take f.extents (f.runs ++ (d.front ++ d.back)) ≡ take f.extents (f.runs ++ (h.front ++ h.back))) where
  abbrev changed : List VtocSlot
  changed = with_dscb k (formats.F3 d) slots

  led_same : (f : F1) → is_led_to f (holding (formats.F3 d) s) ≡ is_led_to f s
  led_same f = ap (λ (c : Content). bytes_eq s.address f.pointer && is_f3 c) (sym held)

  -- a set leads to the same format 3, or to the one that is changed
  third_alike : (f : F1) → (format_3_of changed f ≡ format_3_of slots f) ⊎ ((is_chained f ≡ true) × (bytes_eq s.address f.pointer ≡ true) × (format_3_of slots f ≡ Some s) × (format_3_of changed f ≡ Some (holding (formats.F3 d) s)))
  third_alike f = by_chain (is_chained f) refl (find_alike (is_led_to f) k (formats.F3 d) slots s at (led_same f))
    where
      by_chain : (b : Bool) → is_chained f ≡ b → (find (is_led_to f) changed ≡ find (is_led_to f) slots) ⊎ ((is_led_to f s ≡ true) × (find (is_led_to f) slots ≡ Some s) × (find (is_led_to f) changed ≡ Some (holding (formats.F3 d) s)))
          → (cond b (find (is_led_to f) changed) None ≡ cond b (find (is_led_to f) slots) None) ⊎ ((b ≡ true) × (bytes_eq s.address f.pointer ≡ true) × (cond b (find (is_led_to f) slots) None ≡ Some s) × (cond b (find (is_led_to f) changed) None ≡ Some (holding (formats.F3 d) s)))
      by_chain true is o = ⊎_elim (λ same. inl same) (λ w. inr (refl, (and_parts (bytes_eq s.address f.pointer) (is_f3 s.content) w.0).0, w.1, w.2)) o
      by_chain false is o = inl refl

  some_same : (f : F1) → is_some (format_3_of changed f) ≡ is_some (format_3_of slots f)
  some_same f = ⊎_elim (λ same. ap (λ (o : Option VtocSlot). is_some o) same) (λ w. ap (λ (o : Option VtocSlot). is_some o) w.3 ∙ sym (ap (λ (o : Option VtocSlot). is_some o) w.2)) (third_alike f)

  -- each data set counts the same extents
  pub counted_kept : (f : F1) → IsSetOf slots f → counted_extents changed f ≡ counted_extents slots f
  unfolding counted_extents
  counted_kept f set =
      let rows : Option VtocSlot → List (List ℕ) = λ o. take f.extents (f.runs ++ option_map_or (λ (t : VtocSlot). further_extents t.content) o []) in
      ⊎_elim (λ same. ap rows same)
      (λ w. ap rows w.3 ∙ kept f set w.0 w.1 ∙ ap (λ (c : Content). take f.extents (f.runs ++ further_extents c)) (sym held) ∙ sym (ap rows w.2))
      (third_alike f)

  types_kept : (f : F1) → IsSetOf slots f → has_types changed f ≡ has_types slots f
  unfolding has_types
  types_kept f set = ap (λ (es : List (List ℕ)). list_all is_field_type f.runs && list_all is_counted_type es) (counted_kept f set)

  extents_kept : (f : F1) → IsSetOf slots f → has_extents g changed f ≡ has_extents g slots f
  unfolding has_extents
  extents_kept f set = ap (λ (es : List (List ℕ)). nat_le f.extents 16 && list_all (is_extent g) es) (counted_kept f set)

  chain_kept : (m : ℕ) (f : F1) → has_chain changed (take m changed) f ≡ has_chain slots (take m slots) f
  unfolding has_chain
  chain_kept m f =
      ap (λ (b : Bool). not (is_chained f) || (b && not (list_any (λ (t : VtocSlot). shares_chain f t.content) (take m changed)))) (some_same f)
      ∙ ap (λ (b : Bool). not (is_chained f) || (is_some (format_3_of slots f) && not b)) (any_alike (λ (t : VtocSlot). shares_chain f t.content) k m (formats.F3 d) slots s at (ap (shares_chain f) (sym held)))

  fault_kept : (m : ℕ) (f : F1) → IsSetOf slots f → extents_fault g changed m f ≡ extents_fault g slots m f
  unfolding extents_fault
  fault_kept m f set = rw (types_kept f set, extents_kept f set, chain_kept m f) refl

  content_kept : (m : ℕ) (c : Content) → ((f : F1) → c ≡ Ok (formats.F1 f) → IsSetOf slots f) → content_fault g changed m c ≡ content_fault g slots m c
  content_kept m (Ok formats.F0) set = refl
  content_kept m (Ok (formats.F1 f)) set = fault_kept m f (set f refl)
  content_kept m (Ok (formats.F3 f)) set = refl
  content_kept m (Ok (formats.F4 f)) set = refl
  content_kept m (Ok (formats.F5 f)) set = refl
  content_kept m (Err (Unsupported byte)) set = refl
  content_kept m (Err (BadFormat byte)) set = refl

  slot_kept : (j : ℕ) (t : VtocSlot) → slice_get slots j ≡ Some t → slot_fault g slots j t ≡ None → slot_fault g changed j t ≡ None
  unfolding slot_fault
  slot_kept j t there none = ap (λ (o : Option MountErr). cond (j == 0) None o) (content_kept j t.content (λ f is. (j, t, there, is))) ∙ none

  name_kept : (j : ℕ) (t : VtocSlot) → name_fault slots j t ≡ None → name_fault changed j t ≡ None
  unfolding name_fault
  name_kept j t none = by_set (set_in t.content) none
    where
      by_set : (o : Option F1) → option_and_then (λ f. option_map (DuplicateName j) (position (λ u. is_named f.name u.content) (take j slots))) o ≡ None → option_and_then (λ f. option_map (DuplicateName j) (position (λ u. is_named f.name u.content) (take j changed))) o ≡ None
      by_set None is = refl
      by_set (Some f) is =
          let p : VtocSlot → Bool = λ u. is_named f.name u.content in
          let before : list_any p (take j slots) ≡ false = any_first p (take j slots) ∙ ap (λ (o : Option ℕ). is_some o) (unmapped j (position p (take j slots)) is) in
          let alike : list_any p (take j changed) ≡ list_any p (take j slots) = any_alike p k j (formats.F3 d) slots s at (ap (is_named f.name) (sym held)) in
          let after : position p (take j changed) ≡ None = gone (position p (take j changed)) (sym (any_first p (take j changed)) ∙ alike ∙ before) in
          ap (option_map (DuplicateName j)) after

  -- the slot is neither of the first two
  not_first : option_map_or (λ t. is_f4 t.content) (slice_get slots 0) false ≡ true → 0 ≢ k
  not_first four zero_is =
      let here : slice_get slots 0 ≡ Some s = ap (slice_get slots) zero_is ∙ at in
      let never : false ≡ true = sym (ap is_f4 held) ∙ (sym (ap (λ (o : Option VtocSlot). option_map_or (λ t. is_f4 t.content) o false) here) ∙ four) in
      cc never

  not_second : option_map_or (λ t. is_f5_or_f0 t.content) (slice_get slots 1) false ≡ true → 1 ≢ k
  not_second five one_is =
      let here : slice_get slots 1 ≡ Some s = ap (slice_get slots) one_is ∙ at in
      let never : false ≡ true = sym (ap is_f5_or_f0 held) ∙ (sym (ap (λ (o : Option VtocSlot). option_map_or (λ t. is_f5_or_f0 t.content) o false) here) ∙ five) in
      cc never

  it_is : (j : ℕ) (t : VtocSlot) → j ≡ k → slice_get changed j ≡ Some t → t.content ≡ Ok (formats.F3 d)
  it_is j t same there =
      let here : slice_get changed j ≡ Some (holding (formats.F3 d) s) = ap (slice_get changed) same ∙ changed_there k (formats.F3 d) slots s at in
      let one : t ≡ holding (formats.F3 d) s = cc in
      ap (λ (u : VtocSlot). u.content) one

  no_slot_fault : (j : ℕ) (t : VtocSlot) → t.content ≡ Ok (formats.F3 d) → slot_fault g changed j t ≡ None
  unfolding slot_fault
  no_slot_fault j t is = ap (λ (c : Content). cond (j == 0) None (content_fault g changed j c)) is ∙ always_none (j == 0)

  no_name_fault : (j : ℕ) (t : VtocSlot) → t.content ≡ Ok (formats.F3 d) → name_fault changed j t ≡ None
  unfolding name_fault
  no_name_fault j t is = ap (λ (c : Content). option_and_then (λ f. option_map (DuplicateName j) (position (λ u. is_named f.name u.content) (take j changed))) (set_in c)) is

  -- Slots that break no rule break none with another format 3.
  pub third_faults : slots_faults g slots ≡ [] → slots_faults g changed ≡ []
  third_faults none =
      let was = breaks_none g slots none in
      none_broken g changed (record {
        four = ap (λ (o : Option VtocSlot). option_map_or (λ t. is_f4 t.content) o false) (changed_elsewhere k 0 (formats.F3 d) slots (not_first was.four)) ∙ was.four;
        five = ap (λ (o : Option VtocSlot). option_map_or (λ t. is_f5_or_f0 t.content) o false) (changed_elsewhere k 1 (formats.F3 d) slots (not_second was.five)) ∙ was.five;
        each = λ j t there. ⊎_elim
            (λ same. no_slot_fault j t (it_is j t same there))
            (λ other. let before : slice_get slots j ≡ Some t = sym (changed_elsewhere k j (formats.F3 d) slots other) ∙ there in slot_kept j t before (was.each j t before))
            (same_or_apart j k);
        names = λ j t there. ⊎_elim
            (λ same. no_name_fault j t (it_is j t same there))
            (λ other. name_kept j t (was.names j t (sym (changed_elsewhere k j (formats.F3 d) slots other) ∙ there)))
            (same_or_apart j k);
      })

  pub third_behind : slots_faults g slots ≡ [] → k ≢ 0
  third_behind none = λ is. not_first (breaks_none g slots none).four (sym is)

  -- ---- the volume

  module _ (tracks : List (List ℕ)) where
    set_same : (f : F1) → IsSetOf slots f → data_set_of g tracks changed f ≡ data_set_of g tracks slots f
    unfolding data_set_of
    set_same f set = ap (λ (es : List (List ℕ)). record { name = record { bytes = f.name }; attr = attr_of f; extents = map (run_of_extent g) es; body = body_of g tracks f.name (attr_of f) (map (run_of_extent g) es) f.lstar }) (counted_kept f set)

    among_same : (some : List VtocSlot) → ((f : F1) → IsSetOf some f → IsSetOf slots f)
        → map (data_set_of g tracks changed) (filter_map (λ (t : VtocSlot). set_in t.content) some) ≡ map (data_set_of g tracks slots) (filter_map (λ (t : VtocSlot). set_in t.content) some)
    among_same [] among = refl
    among_same (x ∷ xs) among = by_set (set_in x.content) refl (among_same xs (λ f w. among f (suc w.0, w.1, w.2, w.3)))
      where
        by_set : (o : Option F1) → set_in x.content ≡ o → map (data_set_of g tracks changed) (filter_map (λ (t : VtocSlot). set_in t.content) xs) ≡ map (data_set_of g tracks slots) (filter_map (λ (t : VtocSlot). set_in t.content) xs)
            → map (data_set_of g tracks changed) (cons_option o (filter_map (λ (t : VtocSlot). set_in t.content) xs)) ≡ map (data_set_of g tracks slots) (cons_option o (filter_map (λ (t : VtocSlot). set_in t.content) xs))
        by_set None is rest = rest
        by_set (Some f) is rest = ap₂ (λ (a : DataSet) (l : List DataSet). a ∷ l) (set_same f (among f (zero, x, refl, set_held x.content f is))) rest

    sets_kept : data_sets_in g tracks changed ≡ data_sets_in g tracks slots
    unfolding data_sets_in
    sets_kept =
        ap (map (data_set_of g tracks changed)) (sets_alike k (formats.F3 d) slots s at (ap set_in (sym held)))
        ∙ among_same slots (λ f set. set)

    -- The volume is the same.
    pub third_volume : (label : List ℕ) (vtoc : Run) → volume_with g tracks label vtoc changed ≡ volume_with g tracks label vtoc slots
    unfolding volume_with
    third_volume label vtoc = λ i. record {
      serial = record { bytes = slice_range label 4 10 };
      geometry = g;
      vtoc = vtoc;
      slots = length-changed k (formats.F3 d) slots i;
      sets = in_order (sets_kept i);
      catalog = catalog_of (in_order (sets_kept i));
    }
