-- Slots of which the format 1 DSCBs are changed, but in their extents and pointers: they break the same rules, and hold the same extents.
use Rattle.std.proofs.Common.{◌≡◌, ◌≢◌, ℕ, zero, suc, ◌<◌, Bool, true, false, cond, List, [], ◌∷◌, ◌++◌, map, length, take, get_or, Option, Some, None, Result, Ok, Err, refl, sym, ap, ◌∙◌, arith}
use Rattle.std.specs.Prelude.{◌||◌, ◌&&◌, ◌==◌, nat_le, nat_lt, not, is_some, option_and_then}
use Rattle.std.specs.List.{AllByRecursion, find, list_all, list_any, position, slice_get}
use Rattle.std.specs.Option.{option_map, option_map_or}
use Rattle.std.specs.Str.{bytes_eq}
use Rattle.std.proofs.lemmas.List.{take-map}
use Rattle.ckd_image.specs.declared.header.Geometry.{Geometry}
use Rattle.dscb_codec.specs.declared.Dscb.{Dscb}
use Rattle.dscb_codec.specs.declared.Dscb.TheVariants as formats
use Rattle.dscb_codec.specs.declared.DscbErr.{DscbErr}
use Rattle.dscb_codec.specs.declared.DscbErr.TheVariants.{Unsupported, BadFormat}
use Rattle.dscb_codec.specs.declared.F1.{F1}
use Rattle.pack_spec.specs.declared.MountErr.{MountErr}
use Rattle.pack_spec.specs.declared.MountErr.TheVariants.{DuplicateName}
use Rattle.pack_spec.specs.declared.slot.VtocSlot.{VtocSlot}
use Rattle.pack_spec.specs.Vtoc.{is_counted_type, is_extent, is_field_type}
use Rattle.pack_spec.specs.Rules.{content_fault, counted_extents, extents_fault, format_3_of, front_faults, further_extents, has_chain, has_extents, has_types, is_chained, is_f3, is_f4, is_f5_or_f0, is_led_to, is_named, name_fault, name_faults, set_in, shares_chain, slot_fault, slot_faults, slots_faults}
use Rattle.vtoc_index.specs.Index.{with_dscb}
use Rattle.slot_laws.proofs.ChangedLists.{filter_map-map, find-map, list_any-map, position-map, slice_get-map}

-- a format 1 has the extents of another, and its pointer
pub record HasExtentsOf (f h : F1) : Type 0 where
  pub count : h.extents ≡ f.extents
  pub runs : h.runs ≡ f.runs
  pub pointer : h.pointer ≡ f.pointer

-- what is in a slot
abbrev Content : Type 0
Content = Result Dscb DscbErr

-- what is in a slot, changed where it is a format 1
abbrev pub changed_content : (F1 → F1) → Content → Content
changed_content c (Ok (formats.F1 f)) = Ok (formats.F1 (c f))
changed_content c d = d

-- and a slot
abbrev pub changed_slot : (F1 → F1) → VtocSlot → VtocSlot
changed_slot c s = record s { content = changed_content c s.content }

pub all_units : (ss : List VtocSlot) → AllByRecursion (λ s. Unit {0}) ss
all_units [] = tt
all_units (s ∷ ss) = (tt, all_units ss)

module _ (c : F1 → F1) where
  pub set_in-changed : (d : Content) → set_in (changed_content c d) ≡ option_map c (set_in d)
  set_in-changed (Ok formats.F0) = refl
  set_in-changed (Ok (formats.F1 f)) = refl
  set_in-changed (Ok (formats.F3 f)) = refl
  set_in-changed (Ok (formats.F4 f)) = refl
  set_in-changed (Ok (formats.F5 f)) = refl
  set_in-changed (Err e) = refl

  pub f3-changed : (d : Content) → is_f3 (changed_content c d) ≡ is_f3 d
  f3-changed (Ok formats.F0) = refl
  f3-changed (Ok (formats.F1 f)) = refl
  f3-changed (Ok (formats.F3 f)) = refl
  f3-changed (Ok (formats.F4 f)) = refl
  f3-changed (Ok (formats.F5 f)) = refl
  f3-changed (Err e) = refl

  f4-changed : (d : Content) → is_f4 (changed_content c d) ≡ is_f4 d
  f4-changed (Ok formats.F0) = refl
  f4-changed (Ok (formats.F1 f)) = refl
  f4-changed (Ok (formats.F3 f)) = refl
  f4-changed (Ok (formats.F4 f)) = refl
  f4-changed (Ok (formats.F5 f)) = refl
  f4-changed (Err e) = refl

  pub f5-changed : (d : Content) → is_f5_or_f0 (changed_content c d) ≡ is_f5_or_f0 d
  f5-changed (Ok formats.F0) = refl
  f5-changed (Ok (formats.F1 f)) = refl
  f5-changed (Ok (formats.F3 f)) = refl
  f5-changed (Ok (formats.F4 f)) = refl
  f5-changed (Ok (formats.F5 f)) = refl
  f5-changed (Err e) = refl

  further-changed : (d : Content) → further_extents (changed_content c d) ≡ further_extents d
  further-changed (Ok formats.F0) = refl
  further-changed (Ok (formats.F1 f)) = refl
  further-changed (Ok (formats.F3 f)) = refl
  further-changed (Ok (formats.F4 f)) = refl
  further-changed (Ok (formats.F5 f)) = refl
  further-changed (Err e) = refl

  unchanged : (ys : List VtocSlot) → ((k : ℕ) (d : VtocSlot) → k < length ys → get_or ys k d ≡ changed_slot c (get_or ys k d)) → ys ≡ map (changed_slot c) ys
  unchanged [] all = refl
  unchanged (y ∷ ys) all =
      ap (λ (z : VtocSlot). z ∷ ys) (all 0 y (omega arith)) ∙ ap (λ (zs : List VtocSlot). changed_slot c y ∷ zs) (unchanged ys (λ k d low. all (suc k) d (omega (arith, low))))

  -- One slot with its format 1 changed is the change of all, where no other changes.
  pub put_is_change : (slot : ℕ) (slots : List VtocSlot) (f : F1) → option_map (λ s. s.content) (slice_get slots slot) ≡ Some (Ok (formats.F1 f)) → ((k : ℕ) (d : VtocSlot) → k < length slots → k ≢ slot → get_or slots k d ≡ changed_slot c (get_or slots k d))
      → with_dscb slot (formats.F1 (c f)) slots ≡ map (changed_slot c) slots
  put_is_change slot [] f here others = refl
  put_is_change zero (x ∷ xs) f here others =
      let this : x.content ≡ Ok (formats.F1 f) = cc in
      ap (λ (d : Content). record x { content = d } ∷ xs) (sym (ap (changed_content c) this))
      ∙ ap (λ (ys : List VtocSlot). changed_slot c x ∷ ys) (unchanged xs (λ k d low. others (suc k) d (omega (arith, low)) (λ none. absurd (omega (arith, none)))))
  put_is_change (suc slot) (x ∷ xs) f here others =
      ap (λ (y : VtocSlot). y ∷ with_dscb slot (formats.F1 (c f)) xs) (others 0 x (omega arith) (λ none. absurd (omega (arith, none))))
      ∙ ap (λ (ys : List VtocSlot). changed_slot c x ∷ ys) (put_is_change slot xs f here (λ k d low other. others (suc k) d (omega (arith, low)) (λ next. other (omega (arith, next)))))

module _ (c : F1 → F1) (keeps : (f : F1) → HasExtentsOf f (c f)) where
  abbrev changed : List VtocSlot → List VtocSlot
  changed slots = map (changed_slot c) slots

  -- the rules on extents, for a format 1 and one with its extents
  module _ (slots : List VtocSlot) (f h : F1) (same : HasExtentsOf f h) where
    shares-changed : (d : Content) → shares_chain h (changed_content c d) ≡ shares_chain f d
    shares-changed (Ok formats.F0) = refl
    shares-changed (Ok (formats.F1 x)) = rw ((keeps x).count, (keeps x).pointer, same.pointer) refl
    shares-changed (Ok (formats.F3 x)) = refl
    shares-changed (Ok (formats.F4 x)) = refl
    shares-changed (Ok (formats.F5 x)) = refl
    shares-changed (Err e) = refl

    -- the format 3 of a set, and the extents that it holds
    led_to : (is_some (format_3_of (changed slots) h) ≡ is_some (format_3_of slots f)) × (option_map_or (λ s. further_extents s.content) (format_3_of (changed slots) h) [] ≡ option_map_or (λ s. further_extents s.content) (format_3_of slots f) [])
    led_to =
        let all = find-map (is_led_to f) (is_led_to h) (changed_slot c)
        (λ s. ap (λ (l : List ℕ). bytes_eq s.address l && is_f3 (changed_content c s.content)) same.pointer ∙ ap (λ (b : Bool). bytes_eq s.address f.pointer && b) (f3-changed c s.content))
        (λ s. further_extents s.content) (λ s. further_extents s.content) [] (λ s led. further-changed c s.content) slots in
        rw (same.count) (chosen (is_chained f) (find (is_led_to h) (changed slots)) (find (is_led_to f) slots) all)
      where
        chosen : (b : Bool) (o r : Option VtocSlot) → (is_some o ≡ is_some r) × (option_map_or (λ s. further_extents s.content) o [] ≡ option_map_or (λ s. further_extents s.content) r [])
            → (is_some (cond b o None) ≡ is_some (cond b r None)) × (option_map_or (λ s. further_extents s.content) (cond b o None) [] ≡ option_map_or (λ s. further_extents s.content) (cond b r None) [])
        chosen true o r all = all
        chosen false o r all = (refl, refl)

    pub counted_alike : counted_extents (changed slots) h ≡ counted_extents slots f
    unfolding counted_extents
    counted_alike =
        ap (λ (n : ℕ). take n (h.runs ++ option_map_or (λ s. further_extents s.content) (format_3_of (changed slots) h) [])) same.count
        ∙ ap (λ (rows : List (List ℕ)). take f.extents (rows ++ option_map_or (λ s. further_extents s.content) (format_3_of (changed slots) h) [])) same.runs
        ∙ ap (λ (rows : List (List ℕ)). take f.extents (f.runs ++ rows)) led_to.1

    types_alike : has_types (changed slots) h ≡ has_types slots f
    unfolding has_types
    types_alike =
        ap (λ (rows : List (List ℕ)). list_all is_field_type rows && list_all is_counted_type (counted_extents (changed slots) h)) same.runs
        ∙ ap (λ (rows : List (List ℕ)). list_all is_field_type f.runs && list_all is_counted_type rows) counted_alike

    extents_alike : (g : Geometry) → has_extents g (changed slots) h ≡ has_extents g slots f
    unfolding has_extents
    extents_alike g =
        ap (λ (n : ℕ). nat_le n 16 && list_all (is_extent g) (counted_extents (changed slots) h)) same.count
        ∙ ap (λ (rows : List (List ℕ)). nat_le f.extents 16 && list_all (is_extent g) rows) counted_alike

    chain_alike : (lower : List VtocSlot) → has_chain (changed slots) (changed lower) h ≡ has_chain slots lower f
    unfolding has_chain
    chain_alike lower =
        let shared : list_any (λ s. shares_chain h s.content) (changed lower) ≡ list_any (λ s. shares_chain f s.content) lower =
        list_any-map (λ s. shares_chain f s.content) (λ s. shares_chain h s.content) (changed_slot c) (λ s. shares-changed s.content) lower in
        ap (λ (n : ℕ). not (nat_lt 3 n) || (is_some (format_3_of (changed slots) h) && not (list_any (λ s. shares_chain h s.content) (changed lower)))) same.count
        ∙ ap (λ (b : Bool). not (is_chained f) || (b && not (list_any (λ s. shares_chain h s.content) (changed lower)))) led_to.0
        ∙ ap (λ (b : Bool). not (is_chained f) || (is_some (format_3_of slots f) && not b)) shared

    fault_alike : (g : Geometry) (k : ℕ) → extents_fault g (changed slots) k h ≡ extents_fault g slots k f
    unfolding extents_fault
    fault_alike g k =
        let chain : has_chain (changed slots) (take k (changed slots)) h ≡ has_chain slots (take k slots) f =
        ap (λ (l : List VtocSlot). has_chain (changed slots) l h) (take-map (changed_slot c) k slots) ∙ chain_alike (take k slots) in
        rw (types_alike, extents_alike g, chain) refl

  -- the rule that a slot breaks by itself
  content_alike : (g : Geometry) (slots : List VtocSlot) (k : ℕ) (d : Content) → content_fault g (changed slots) k (changed_content c d) ≡ content_fault g slots k d
  content_alike g slots k (Ok formats.F0) = refl
  content_alike g slots k (Ok (formats.F1 f)) = fault_alike slots f (c f) (keeps f) g k
  content_alike g slots k (Ok (formats.F3 f)) = refl
  content_alike g slots k (Ok (formats.F4 f)) = refl
  content_alike g slots k (Ok (formats.F5 f)) = refl
  content_alike g slots k (Err (Unsupported b)) = refl
  content_alike g slots k (Err (BadFormat b)) = refl

  slots_alike : (g : Geometry) (slots : List VtocSlot) → slot_faults g (changed slots) ≡ slot_faults g slots
  unfolding slot_faults slot_fault
  slots_alike g slots =
      filter_map-map (λ s. Unit {0}) (changed_slot c) (λ p. slot_fault g slots p.0 p.1) (λ p. slot_fault g (changed slots) p.0 p.1)
      (λ k s any. ap (λ (o : Option MountErr). cond (k == 0) None o) (content_alike g slots k s.content)) 0 slots (all_units slots)

  -- the first two slots
  front_alike : (slots : List VtocSlot) → front_faults (changed slots) ≡ front_faults slots
  unfolding front_faults
  front_alike slots =
      let four : option_map_or (λ s. is_f4 s.content) (slice_get (changed slots) 0) false ≡ option_map_or (λ s. is_f4 s.content) (slice_get slots 0) false =
      ap (λ (o : Option VtocSlot). option_map_or (λ s. is_f4 s.content) o false) (slice_get-map (changed_slot c) slots 0) ∙ tested (slice_get slots 0) (λ s. is_f4 s.content) (λ s. f4-changed c s.content) in
      let five : option_map_or (λ s. is_f5_or_f0 s.content) (slice_get (changed slots) 1) false ≡ option_map_or (λ s. is_f5_or_f0 s.content) (slice_get slots 1) false =
      ap (λ (o : Option VtocSlot). option_map_or (λ s. is_f5_or_f0 s.content) o false) (slice_get-map (changed_slot c) slots 1) ∙ tested (slice_get slots 1) (λ s. is_f5_or_f0 s.content) (λ s. f5-changed c s.content) in
      rw (four, five) refl
    where
      tested : (o : Option VtocSlot) (test : VtocSlot → Bool) → ((s : VtocSlot) → test (changed_slot c s) ≡ test s) → option_map_or test (option_map (changed_slot c) o) false ≡ option_map_or test o false
      tested None test same = refl
      tested (Some s) test same = same s

  -- where no name is changed either
  module _ (names : (f : F1) → (c f).name ≡ f.name) where
    named_alike : (name : List ℕ) (d : Content) → is_named name (changed_content c d) ≡ is_named name d
    named_alike name (Ok formats.F0) = refl
    named_alike name (Ok (formats.F1 f)) = ap (λ (n : List ℕ). bytes_eq n name) (names f)
    named_alike name (Ok (formats.F3 f)) = refl
    named_alike name (Ok (formats.F4 f)) = refl
    named_alike name (Ok (formats.F5 f)) = refl
    named_alike name (Err e) = refl

    -- the rule on names that a format 1 breaks among slots in front
    abbrev among : List VtocSlot → ℕ → F1 → Option MountErr
    among front k f = option_map (DuplicateName k) (position (λ t. is_named f.name t.content) front)

    set_alike : (slots : List VtocSlot) (k : ℕ) (o : Option F1) → option_and_then (among (take k (changed slots)) k) (option_map c o) ≡ option_and_then (among (take k slots) k) o
    set_alike slots k None = refl
    set_alike slots k (Some f) =
        ap (λ (l : List VtocSlot). among l k (c f)) (take-map (changed_slot c) k slots)
        ∙ ap (option_map (DuplicateName k)) (position-map (λ t. Unit {0}) (changed_slot c) (λ t. is_named f.name t.content) (λ t. is_named (c f).name t.content) (λ t any. ap (λ (n : List ℕ). is_named n (changed_content c t.content)) (names f) ∙ named_alike f.name t.content) (take k slots) (all_units (take k slots)))

    name_alike : (slots : List VtocSlot) (k : ℕ) (s : VtocSlot) → name_fault (changed slots) k (changed_slot c s) ≡ name_fault slots k s
    unfolding name_fault
    name_alike slots k s = ap (option_and_then (among (take k (changed slots)) k)) (set_in-changed c s.content) ∙ set_alike slots k (set_in s.content)

    names_alike : (slots : List VtocSlot) → name_faults (changed slots) ≡ name_faults slots
    unfolding name_faults
    names_alike slots =
        filter_map-map (λ s. Unit {0}) (changed_slot c) (λ p. name_fault slots p.0 p.1) (λ p. name_fault (changed slots) p.0 p.1) (λ k s any. name_alike slots k s) 0 slots (all_units slots)

    -- The slots break the same rules.
    pub faults_alike : (g : Geometry) (slots : List VtocSlot) → slots_faults g (changed slots) ≡ slots_faults g slots
    unfolding slots_faults
    faults_alike g slots = rw (front_alike slots, slots_alike g slots, names_alike slots) refl
