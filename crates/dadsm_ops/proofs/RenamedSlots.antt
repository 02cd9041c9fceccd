-- Slots of which the format 1 DSCBs of one name get another: they break the same rules, and hold the same extents.
use Rattle.std.proofs.Common.{◌≡◌, ◌≢◌, ℕ, zero, suc, ◌<◌, Bool, true, false, cond, List, [], ◌∷◌, ◌++◌, map, length, take, get_or, Option, Some, None, Result, Ok, Err, refl, sym, ap, ◌∙◌, arith}
use Rattle.std.specs.Prelude.{◌||◌, ◌&&◌, ◌==◌, nat_le, nat_lt, not, is_some, option_and_then}
use Rattle.std.specs.List.{AllByRecursion, find, list_all, list_any, position, slice_get}
use Rattle.std.specs.Option.{option_map, option_map_or}
use Rattle.std.specs.Str.{bytes_eq}
use Rattle.std.proofs.lemmas.Bool.{both_ways, false_from_ne_true}
use Rattle.std.proofs.lemmas.Slice.Eq.{bytes_eq-Decides}
use Rattle.std.proofs.lemmas.List.{take-map}
use Rattle.ckd_image.specs.declared.header.Geometry.{Geometry}
use Rattle.dscb_codec.specs.declared.Dscb.{Dscb}
use Rattle.dscb_codec.specs.declared.Dscb.TheVariants as formats
use Rattle.dscb_codec.specs.declared.DscbErr.{DscbErr}
use Rattle.dscb_codec.specs.declared.DscbErr.TheVariants.{Unsupported, BadFormat}
use Rattle.dscb_codec.specs.declared.F1.{F1}
use Rattle.pack_spec.specs.declared.MountErr.{MountErr}
use Rattle.pack_spec.specs.declared.MountErr.TheVariants.{DuplicateName}
use Rattle.pack_spec.specs.declared.slot.VtocSlot.{VtocSlot}
use Rattle.pack_spec.specs.Vtoc.{is_counted_type, is_extent, is_field_type}
use Rattle.pack_spec.specs.Rules.{content_fault, counted_extents, extents_fault, format_3_of, front_faults, further_extents, has_chain, has_extents, has_types, is_chained, is_f3, is_f4, is_f5_or_f0, is_led_to, is_named, name_fault, name_faults, set_in, shares_chain, slot_fault, slot_faults, slots_faults}
use Rattle.pack_spec.proofs.SetNames.{named_set}
use Rattle.vtoc_index.specs.Index.{with_dscb}
use Rattle.slot_laws.proofs.ChangedLists.{filter_map-map, find-map, list_any-map, position-map, slice_get-map}
use Rattle.slot_laws.proofs.FoundSlots.{has_named}
use Rattle.slot_laws.proofs.KeptSlots.{all_units}

-- a format 1, under the new name where it has the old one
abbrev pub renamed_set : List ℕ → List ℕ → F1 → F1
renamed_set old new f = cond (bytes_eq f.name old) (record f { name = new }) f

-- what is in a slot
abbrev Content : Type 0
Content = Result Dscb DscbErr

-- the same of what is in a slot
abbrev pub renamed_content : List ℕ → List ℕ → Content → Content
renamed_content old new (Ok (formats.F1 f)) = Ok (formats.F1 (renamed_set old new f))
renamed_content old new c = c

-- and of a slot
abbrev pub renamed_slot : List ℕ → List ℕ → VtocSlot → VtocSlot
renamed_slot old new s = record s { content = renamed_content old new s.content }

all_taken : (P : VtocSlot → Type 0) (k : ℕ) (ss : List VtocSlot) → AllByRecursion P ss → AllByRecursion P (take k ss)
all_taken P zero ss all = tt
all_taken P (suc k) [] all = tt
all_taken P (suc k) (s ∷ ss) all = (all.0, all_taken P k ss all.1)

not_same : (a b : List ℕ) → bytes_eq a b ≡ false → bytes_eq b a ≡ false
not_same a b apart =
    false_from_ne_true (bytes_eq b a) (λ is. both_ways (bytes_eq a b) apart ((bytes_eq-Decides a b).1 (sym ((bytes_eq-Decides b a).0 is))))

module _ (old new : List ℕ) where
  -- a name changes nothing else
  module _ (f : F1) where
    pub same_count : (renamed_set old new f).extents ≡ f.extents
    same_count = by_test (bytes_eq f.name old)
      where
        by_test : (b : Bool) → (cond b (record f { name = new }) f).extents ≡ f.extents
        by_test true = refl
        by_test false = refl

    pub same_runs : (renamed_set old new f).runs ≡ f.runs
    same_runs = by_test (bytes_eq f.name old)
      where
        by_test : (b : Bool) → (cond b (record f { name = new }) f).runs ≡ f.runs
        by_test true = refl
        by_test false = refl

    pub same_pointer : (renamed_set old new f).pointer ≡ f.pointer
    same_pointer = by_test (bytes_eq f.name old)
      where
        by_test : (b : Bool) → (cond b (record f { name = new }) f).pointer ≡ f.pointer
        by_test true = refl
        by_test false = refl

  pub set_in-renamed : (c : Content) → set_in (renamed_content old new c) ≡ option_map (renamed_set old new) (set_in c)
  set_in-renamed (Ok formats.F0) = refl
  set_in-renamed (Ok (formats.F1 f)) = refl
  set_in-renamed (Ok (formats.F3 f)) = refl
  set_in-renamed (Ok (formats.F4 f)) = refl
  set_in-renamed (Ok (formats.F5 f)) = refl
  set_in-renamed (Err e) = refl

  pub f3-renamed : (c : Content) → is_f3 (renamed_content old new c) ≡ is_f3 c
  f3-renamed (Ok formats.F0) = refl
  f3-renamed (Ok (formats.F1 f)) = refl
  f3-renamed (Ok (formats.F3 f)) = refl
  f3-renamed (Ok (formats.F4 f)) = refl
  f3-renamed (Ok (formats.F5 f)) = refl
  f3-renamed (Err e) = refl

  f4-renamed : (c : Content) → is_f4 (renamed_content old new c) ≡ is_f4 c
  f4-renamed (Ok formats.F0) = refl
  f4-renamed (Ok (formats.F1 f)) = refl
  f4-renamed (Ok (formats.F3 f)) = refl
  f4-renamed (Ok (formats.F4 f)) = refl
  f4-renamed (Ok (formats.F5 f)) = refl
  f4-renamed (Err e) = refl

  pub f5-renamed : (c : Content) → is_f5_or_f0 (renamed_content old new c) ≡ is_f5_or_f0 c
  f5-renamed (Ok formats.F0) = refl
  f5-renamed (Ok (formats.F1 f)) = refl
  f5-renamed (Ok (formats.F3 f)) = refl
  f5-renamed (Ok (formats.F4 f)) = refl
  f5-renamed (Ok (formats.F5 f)) = refl
  f5-renamed (Err e) = refl

  further-renamed : (c : Content) → further_extents (renamed_content old new c) ≡ further_extents c
  further-renamed (Ok formats.F0) = refl
  further-renamed (Ok (formats.F1 f)) = refl
  further-renamed (Ok (formats.F3 f)) = refl
  further-renamed (Ok (formats.F4 f)) = refl
  further-renamed (Ok (formats.F5 f)) = refl
  further-renamed (Err e) = refl

  shares-renamed : (f : F1) (c : Content) → shares_chain (renamed_set old new f) (renamed_content old new c) ≡ shares_chain f c
  shares-renamed f (Ok formats.F0) = refl
  shares-renamed f (Ok (formats.F1 h)) = rw (same_count h, same_pointer h, same_pointer f) refl
  shares-renamed f (Ok (formats.F3 h)) = refl
  shares-renamed f (Ok (formats.F4 h)) = refl
  shares-renamed f (Ok (formats.F5 h)) = refl
  shares-renamed f (Err e) = refl

  -- the rules on extents, for a set that is changed or not
  module _ (slots : List VtocSlot) (f : F1) where
    -- the format 3 of a set, and the extents that it holds
    led_to : (is_some (format_3_of (map (renamed_slot old new) slots) (renamed_set old new f)) ≡ is_some (format_3_of slots f)) × (option_map_or (λ s. further_extents s.content) (format_3_of (map (renamed_slot old new) slots) (renamed_set old new f)) [] ≡ option_map_or (λ s. further_extents s.content) (format_3_of slots f) [])
    led_to =
        let all = find-map (is_led_to f) (is_led_to (renamed_set old new f)) (renamed_slot old new)
        (λ s. ap (λ (l : List ℕ). bytes_eq s.address l && is_f3 (renamed_content old new s.content)) (same_pointer f) ∙ ap (λ (b : Bool). bytes_eq s.address f.pointer && b) (f3-renamed s.content))
        (λ s. further_extents s.content) (λ s. further_extents s.content) [] (λ s led. further-renamed s.content) slots in
        rw (same_count f) (chosen (is_chained f) (find (is_led_to (renamed_set old new f)) (map (renamed_slot old new) slots)) (find (is_led_to f) slots) all)
      where
        chosen : (b : Bool) (o r : Option VtocSlot) → (is_some o ≡ is_some r) × (option_map_or (λ s. further_extents s.content) o [] ≡ option_map_or (λ s. further_extents s.content) r [])
            → (is_some (cond b o None) ≡ is_some (cond b r None)) × (option_map_or (λ s. further_extents s.content) (cond b o None) [] ≡ option_map_or (λ s. further_extents s.content) (cond b r None) [])
        chosen true o r all = all
        chosen false o r all = (refl, refl)

    pub counted_alike : counted_extents (map (renamed_slot old new) slots) (renamed_set old new f) ≡ counted_extents slots f
    unfolding counted_extents
    counted_alike =
        ap (λ (n : ℕ). take n ((renamed_set old new f).runs ++ option_map_or (λ s. further_extents s.content) (format_3_of (map (renamed_slot old new) slots) (renamed_set old new f)) [])) (same_count f)
        ∙ ap (λ (rows : List (List ℕ)). take f.extents (rows ++ option_map_or (λ s. further_extents s.content) (format_3_of (map (renamed_slot old new) slots) (renamed_set old new f)) [])) (same_runs f)
        ∙ ap (λ (rows : List (List ℕ)). take f.extents (f.runs ++ rows)) led_to.1

    types_alike : has_types (map (renamed_slot old new) slots) (renamed_set old new f) ≡ has_types slots f
    unfolding has_types
    types_alike =
        ap (λ (rows : List (List ℕ)). list_all is_field_type rows && list_all is_counted_type (counted_extents (map (renamed_slot old new) slots) (renamed_set old new f))) (same_runs f)
        ∙ ap (λ (rows : List (List ℕ)). list_all is_field_type f.runs && list_all is_counted_type rows) counted_alike

    extents_alike : (g : Geometry) → has_extents g (map (renamed_slot old new) slots) (renamed_set old new f) ≡ has_extents g slots f
    unfolding has_extents
    extents_alike g =
        ap (λ (n : ℕ). nat_le n 16 && list_all (is_extent g) (counted_extents (map (renamed_slot old new) slots) (renamed_set old new f))) (same_count f)
        ∙ ap (λ (rows : List (List ℕ)). nat_le f.extents 16 && list_all (is_extent g) rows) counted_alike

    chain_alike : (lower : List VtocSlot) → has_chain (map (renamed_slot old new) slots) (map (renamed_slot old new) lower) (renamed_set old new f) ≡ has_chain slots lower f
    unfolding has_chain
    chain_alike lower =
        let shared : list_any (λ s. shares_chain (renamed_set old new f) s.content) (map (renamed_slot old new) lower) ≡ list_any (λ s. shares_chain f s.content) lower =
        list_any-map (λ s. shares_chain f s.content) (λ s. shares_chain (renamed_set old new f) s.content) (renamed_slot old new) (λ s. shares-renamed f s.content) lower in
        ap (λ (n : ℕ). not (nat_lt 3 n) || (is_some (format_3_of (map (renamed_slot old new) slots) (renamed_set old new f)) && not (list_any (λ s. shares_chain (renamed_set old new f) s.content) (map (renamed_slot old new) lower)))) (same_count f)
        ∙ ap (λ (b : Bool). not (is_chained f) || (b && not (list_any (λ s. shares_chain (renamed_set old new f) s.content) (map (renamed_slot old new) lower)))) led_to.0
        ∙ ap (λ (b : Bool). not (is_chained f) || (is_some (format_3_of slots f) && not b)) shared

    fault_alike : (g : Geometry) (k : ℕ) → extents_fault g (map (renamed_slot old new) slots) k (renamed_set old new f) ≡ extents_fault g slots k f
    unfolding extents_fault
    fault_alike g k =
        let chain : has_chain (map (renamed_slot old new) slots) (take k (map (renamed_slot old new) slots)) (renamed_set old new f) ≡ has_chain slots (take k slots) f =
        ap (λ (l : List VtocSlot). has_chain (map (renamed_slot old new) slots) l (renamed_set old new f)) (take-map (renamed_slot old new) k slots) ∙ chain_alike (take k slots) in
        rw (types_alike, extents_alike g, chain) refl

  -- the rule that a slot breaks by itself
  content_alike : (g : Geometry) (slots : List VtocSlot) (k : ℕ) (c : Content) → content_fault g (map (renamed_slot old new) slots) k (renamed_content old new c) ≡ content_fault g slots k c
  content_alike g slots k (Ok formats.F0) = refl
  content_alike g slots k (Ok (formats.F1 f)) = fault_alike slots f g k
  content_alike g slots k (Ok (formats.F3 f)) = refl
  content_alike g slots k (Ok (formats.F4 f)) = refl
  content_alike g slots k (Ok (formats.F5 f)) = refl
  content_alike g slots k (Err (Unsupported b)) = refl
  content_alike g slots k (Err (BadFormat b)) = refl

  slots_alike : (g : Geometry) (slots : List VtocSlot) → slot_faults g (map (renamed_slot old new) slots) ≡ slot_faults g slots
  unfolding slot_faults slot_fault
  slots_alike g slots =
      filter_map-map (λ s. Unit {0}) (renamed_slot old new) (λ p. slot_fault g slots p.0 p.1) (λ p. slot_fault g (map (renamed_slot old new) slots) p.0 p.1)
      (λ k s any. ap (λ (o : Option MountErr). cond (k == 0) None o) (content_alike g slots k s.content)) 0 slots (all_units slots)

  -- the first two slots
  front_alike : (slots : List VtocSlot) → front_faults (map (renamed_slot old new) slots) ≡ front_faults slots
  unfolding front_faults
  front_alike slots =
      let four : option_map_or (λ s. is_f4 s.content) (slice_get (map (renamed_slot old new) slots) 0) false ≡ option_map_or (λ s. is_f4 s.content) (slice_get slots 0) false =
      ap (λ (o : Option VtocSlot). option_map_or (λ s. is_f4 s.content) o false) (slice_get-map (renamed_slot old new) slots 0) ∙ tested (slice_get slots 0) (λ s. is_f4 s.content) (λ s. f4-renamed s.content) in
      let five : option_map_or (λ s. is_f5_or_f0 s.content) (slice_get (map (renamed_slot old new) slots) 1) false ≡ option_map_or (λ s. is_f5_or_f0 s.content) (slice_get slots 1) false =
      ap (λ (o : Option VtocSlot). option_map_or (λ s. is_f5_or_f0 s.content) o false) (slice_get-map (renamed_slot old new) slots 1) ∙ tested (slice_get slots 1) (λ s. is_f5_or_f0 s.content) (λ s. f5-renamed s.content) in
      rw (four, five) refl
    where
      tested : (o : Option VtocSlot) (test : VtocSlot → Bool) → ((s : VtocSlot) → test (renamed_slot old new s) ≡ test s) → option_map_or test (option_map (renamed_slot old new) o) false ≡ option_map_or test o false
      tested None test same = refl
      tested (Some s) test same = same s

  -- whether one name is another's, after as before; neither was the new name
  names-renamed : (f h : F1) → bytes_eq f.name new ≡ false → bytes_eq h.name new ≡ false → bytes_eq (renamed_set old new h).name (renamed_set old new f).name ≡ bytes_eq h.name f.name
  names-renamed f h new_f new_h = by_test (bytes_eq f.name old) (bytes_eq h.name old) refl refl
    where
      by_test : (a b : Bool) → bytes_eq f.name old ≡ a → bytes_eq h.name old ≡ b → bytes_eq (cond b (record h { name = new }) h).name (cond a (record f { name = new }) f).name ≡ bytes_eq h.name f.name
      by_test true true is_f is_h =
          (bytes_eq-Decides new new).1 refl ∙ sym ((bytes_eq-Decides h.name f.name).1 ((bytes_eq-Decides h.name old).0 is_h ∙ sym ((bytes_eq-Decides f.name old).0 is_f)))
      by_test true false is_f is_h = new_h ∙ sym (ap (bytes_eq h.name) ((bytes_eq-Decides f.name old).0 is_f) ∙ is_h)
      by_test false true is_f is_h =
          not_same f.name new new_f ∙ sym (ap (λ (l : List ℕ). bytes_eq l f.name) ((bytes_eq-Decides h.name old).0 is_h) ∙ not_same f.name old is_f)
      by_test false false is_f is_h = refl

  same_names : (f : F1) (c : Content) → bytes_eq f.name new ≡ false → is_named new c ≡ false → is_named (renamed_set old new f).name (renamed_content old new c) ≡ is_named f.name c
  same_names f (Ok formats.F0) new_f new_c = refl
  same_names f (Ok (formats.F1 h)) new_f new_c = names-renamed f h new_f new_c
  same_names f (Ok (formats.F3 h)) new_f new_c = refl
  same_names f (Ok (formats.F4 h)) new_f new_c = refl
  same_names f (Ok (formats.F5 h)) new_f new_c = refl
  same_names f (Err e) new_f new_c = refl

  -- the rule on names that a format 1 breaks among slots in front
  abbrev among : List VtocSlot → ℕ → F1 → Option MountErr
  among front k f = option_map (DuplicateName k) (position (λ t. is_named f.name t.content) front)

  set_alike : (slots : List VtocSlot) → AllByRecursion (λ t. has_named new t ≡ false) slots → (k : ℕ) (o : Option F1) → ((f : F1) → o ≡ Some f → bytes_eq f.name new ≡ false)
      → option_and_then (among (take k (map (renamed_slot old new) slots)) k) (option_map (renamed_set old new) o) ≡ option_and_then (among (take k slots) k) o
  set_alike slots absent k None apart = refl
  set_alike slots absent k (Some f) apart =
      ap (λ (l : List VtocSlot). among l k (renamed_set old new f)) (take-map (renamed_slot old new) k slots)
      ∙ ap (option_map (DuplicateName k)) (position-map (λ t. has_named new t ≡ false) (renamed_slot old new) (λ t. is_named f.name t.content) (λ t. is_named (renamed_set old new f).name t.content) (λ t new_t. same_names f t.content (apart f refl) new_t) (take k slots) (all_taken (λ t. has_named new t ≡ false) k slots absent))

  name_alike : (slots : List VtocSlot) → AllByRecursion (λ t. has_named new t ≡ false) slots → (k : ℕ) (s : VtocSlot) → has_named new s ≡ false → name_fault (map (renamed_slot old new) slots) k (renamed_slot old new s) ≡ name_fault slots k s
  unfolding name_fault
  name_alike slots absent k s new_s =
      ap (option_and_then (among (take k (map (renamed_slot old new) slots)) k)) (set_in-renamed s.content)
      ∙ set_alike slots absent k (set_in s.content) (λ f is. sym (named_set s.content f new is) ∙ new_s)

  names_alike : (slots : List VtocSlot) → AllByRecursion (λ t. has_named new t ≡ false) slots → name_faults (map (renamed_slot old new) slots) ≡ name_faults slots
  unfolding name_faults
  names_alike slots absent =
      filter_map-map (λ s. has_named new s ≡ false) (renamed_slot old new) (λ p. name_fault slots p.0 p.1) (λ p. name_fault (map (renamed_slot old new) slots) p.0 p.1) (name_alike slots absent) 0 slots absent

  -- The slots break the same rules under the new name, where none had it.
  pub faults_alike : (g : Geometry) (slots : List VtocSlot) → AllByRecursion (λ t. has_named new t ≡ false) slots → slots_faults g (map (renamed_slot old new) slots) ≡ slots_faults g slots
  unfolding slots_faults
  faults_alike g slots absent = rw (front_alike slots, slots_alike g slots, names_alike slots absent) refl

  -- a slot without the old name stays
  unnamed : (c : Content) → is_named old c ≡ false → renamed_content old new c ≡ c
  unnamed (Ok formats.F0) apart = refl
  unnamed (Ok (formats.F1 f)) apart = ap (λ (b : Bool). Ok (formats.F1 (cond b (record f { name = new }) f))) apart
  unnamed (Ok (formats.F3 f)) apart = refl
  unnamed (Ok (formats.F4 f)) apart = refl
  unnamed (Ok (formats.F5 f)) apart = refl
  unnamed (Err e) apart = refl

  same_slot : (s : VtocSlot) → has_named old s ≡ false → s ≡ renamed_slot old new s
  same_slot s apart = ap (λ (c : Content). record s { content = c }) (sym (unnamed s.content apart))

  unchanged : (ys : List VtocSlot) → ((k : ℕ) (d : VtocSlot) → k < length ys → has_named old (get_or ys k d) ≡ false) → ys ≡ map (renamed_slot old new) ys
  unchanged [] all = refl
  unchanged (y ∷ ys) all =
      ap (λ (z : VtocSlot). z ∷ ys) (same_slot y (all 0 y (omega arith))) ∙ ap (λ (zs : List VtocSlot). renamed_slot old new y ∷ zs) (unchanged ys (λ k d low. all (suc k) d (omega (arith, low))))

  -- One slot with its format 1 under the new name is the renaming of all, where no other has the old name.
  pub put_is_renaming : (slot : ℕ) (slots : List VtocSlot) (f : F1) → option_map (λ s. s.content) (slice_get slots slot) ≡ Some (Ok (formats.F1 f)) → bytes_eq f.name old ≡ true → ((k : ℕ) (d : VtocSlot) → k < length slots → k ≢ slot → has_named old (get_or slots k d) ≡ false)
      → with_dscb slot (formats.F1 (record f { name = new })) slots ≡ map (renamed_slot old new) slots
  put_is_renaming slot [] f here named others = refl
  put_is_renaming zero (x ∷ xs) f here named others =
      let this : x.content ≡ Ok (formats.F1 f) = cc in
      let first : Ok (formats.F1 (record f { name = new })) ≡ renamed_content old new x.content =
      sym (ap (renamed_content old new) this ∙ ap (λ (b : Bool). Ok (formats.F1 (cond b (record f { name = new }) f))) named) in
      ap (λ (c : Content). record x { content = c } ∷ xs) first
      ∙ ap (λ (ys : List VtocSlot). renamed_slot old new x ∷ ys) (unchanged xs (λ k d low. others (suc k) d (omega (arith, low)) (λ none. absurd (omega (arith, none)))))
  put_is_renaming (suc slot) (x ∷ xs) f here named others =
      ap (λ (y : VtocSlot). y ∷ with_dscb slot (formats.F1 (record f { name = new })) xs) (same_slot x (others 0 x (omega arith) (λ none. absurd (omega (arith, none)))))
      ∙ ap (λ (ys : List VtocSlot). renamed_slot old new x ∷ ys) (put_is_renaming slot xs f here named (λ k d low other. others (suc k) d (omega (arith, low)) (λ next. other (omega (arith, next)))))
