-- Slots of which one that held a format 1 holds another DSCB, but no format 3: the other data sets keep their extents, and the rules on them hold as before.
use Rattle.std.proofs.Common.{◌≡◌, ◌≢◌, ⊎_elim, ℕ, Bool, true, false, cond, List, [], ◌++◌, take, Option, Some, None, Result, Ok, Err, refl, sym, ap, ◌∙◌}
use Rattle.std.specs.Prelude.{◌||◌, ◌&&◌, ◌==◌, nat_le, not, is_some, option_and_then, position, slice_get}
use Rattle.std.specs.List.{list_all, list_any}
use Rattle.std.specs.Option.{option_map, option_map_or}
use Rattle.std.specs.Str.{bytes_eq}
use Rattle.ckd_image.specs.declared.header.Geometry.{Geometry}
use Rattle.dscb_codec.specs.declared.Dscb.{Dscb}
use Rattle.dscb_codec.specs.declared.Dscb.TheVariants as formats
use Rattle.dscb_codec.specs.declared.DscbErr.{DscbErr}
use Rattle.dscb_codec.specs.declared.DscbErr.TheVariants.{Unsupported, BadFormat}
use Rattle.dscb_codec.specs.declared.F1.{F1}
use Rattle.pack_spec.specs.declared.MountErr.{MountErr}
use Rattle.pack_spec.specs.declared.MountErr.TheVariants.{UnsupportedExtent, BadExtent, BadChain, DuplicateName}
use Rattle.pack_spec.specs.declared.slot.VtocSlot.{VtocSlot}
use Rattle.pack_spec.specs.Vtoc.{is_counted_type, is_extent, is_field_type}
use Rattle.pack_spec.specs.Rules.{content_fault, counted_extents, extents_fault, format_3_of, further_extents, has_chain, has_extents, has_types, is_chained, is_f3, is_f4, is_f5_or_f0, is_led_to, is_named, name_fault, set_in, shares_chain, slot_fault, slots_faults}
use Rattle.vtoc_index.specs.Index.{with_dscb}
use Rattle.vtoc_index.proofs.VtocPut.{same_or_apart}
use Rattle.slot_laws.proofs.ChangedLists.{any_first}
use Rattle.slot_laws.proofs.ChangedSlots.{any-changed, breaks_none, changed_elsewhere, changed_there, find-changed, holding, none_broken, take-changed}

-- what is in a slot
abbrev Content : Type 0
Content = Result Dscb DscbErr

and_false : (b : Bool) → (b && false) ≡ false
and_false true = refl
and_false false = refl

rules_hold : (a b c : Bool) (k : ℕ) → cond (not a) (Some (UnsupportedExtent k)) (cond (not b) (Some (BadExtent k)) (cond (not c) (Some (BadChain k)) None)) ≡ None → (a ≡ true) × (b ≡ true) × (c ≡ true)
rules_hold true true true k none = (refl, refl, refl)
rules_hold true true false k none = absurd cc
rules_hold true false c k none = absurd cc
rules_hold false b c k none = absurd cc

-- a chain that counts stays good where fewer share it
chain_weaker : (chained found shared fewer : Bool) → (chained ≡ true → shared ≡ false → fewer ≡ false) → (not chained || (found && not shared)) ≡ true → (not chained || (found && not fewer)) ≡ true
chain_weaker false found shared fewer weaker is = refl
chain_weaker true true true fewer weaker is = absurd cc
chain_weaker true true false fewer weaker is = ap not (weaker refl refl)
chain_weaker true false shared fewer weaker is = absurd cc

behind_first : (b : Bool) (x y : Option MountErr) → (x ≡ None → y ≡ None) → cond b None x ≡ None → cond b None y ≡ None
behind_first true x y weaker is = refl
behind_first false x y weaker is = weaker is

gone : (o : Option ℕ) → is_some o ≡ false → o ≡ None
gone None is = refl
gone (Some x) is = absurd cc

unmapped : (k : ℕ) (o : Option ℕ) → option_map (DuplicateName k) o ≡ None → o ≡ None
unmapped k None is = refl
unmapped k (Some n) is = cc

-- one of these slots has a name
abbrev pub has_name_in : List ℕ → List VtocSlot → Bool
has_name_in name ss = list_any (λ (u : VtocSlot). is_named name u.content) ss

module _ (g : Geometry) (slots : List VtocSlot) (k : ℕ) (s : VtocSlot) (f : F1) (at : slice_get slots k ≡ Some s) (set : s.content ≡ Ok (formats.F1 f)) where
  -- the slot is neither of the first two
  not_first : option_map_or (λ t. is_f4 t.content) (slice_get slots 0) false ≡ true → 0 ≢ k
  not_first four zero_is =
      let here : slice_get slots 0 ≡ Some s = ap (slice_get slots) zero_is ∙ at in
      let never : false ≡ true = sym (ap is_f4 set) ∙ (sym (ap (λ (o : Option VtocSlot). option_map_or (λ t. is_f4 t.content) o false) here) ∙ four) in
      cc never

  not_second : option_map_or (λ t. is_f5_or_f0 t.content) (slice_get slots 1) false ≡ true → 1 ≢ k
  not_second five one_is =
      let here : slice_get slots 1 ≡ Some s = ap (slice_get slots) one_is ∙ at in
      let never : false ≡ true = sym (ap is_f5_or_f0 set) ∙ (sym (ap (λ (o : Option VtocSlot). option_map_or (λ t. is_f5_or_f0 t.content) o false) here) ∙ five) in
      cc never

  module _ (d : Dscb) (third : is_f3 (Ok d) ≡ false) where
    abbrev replaced : List VtocSlot
    replaced = with_dscb k d slots

    pub third_same : (e : F1) → format_3_of replaced e ≡ format_3_of slots e
    third_same e = ap (λ (o : Option VtocSlot). cond (is_chained e) o None)
        (find-changed (is_led_to e) k d slots s at
        (ap (λ (c : Content). bytes_eq s.address e.pointer && is_f3 c) set ∙ and_false (bytes_eq s.address e.pointer))
        (ap (λ (b : Bool). bytes_eq s.address e.pointer && b) third ∙ and_false (bytes_eq s.address e.pointer)))

    -- the extents that a format 1 counts
    pub counted_same : (e : F1) → counted_extents replaced e ≡ counted_extents slots e
    unfolding counted_extents
    counted_same e = ap (λ (o : Option VtocSlot). take e.extents (e.runs ++ option_map_or (λ (t : VtocSlot). further_extents t.content) o [])) (third_same e)

    -- the rules on them
    pub types_same : (e : F1) → has_types replaced e ≡ has_types slots e
    unfolding has_types
    types_same e = ap (λ (es : List (List ℕ)). list_all is_field_type e.runs && list_all is_counted_type es) (counted_same e)

    pub extents_same : (e : F1) → has_extents g replaced e ≡ has_extents g slots e
    unfolding has_extents
    extents_same e = ap (λ (es : List (List ℕ)). nat_le e.extents 16 && list_all (is_extent g) es) (counted_same e)

    -- the slot itself
    it_is : (j : ℕ) (t : VtocSlot) → j ≡ k → slice_get replaced j ≡ Some t → t.content ≡ Ok d
    it_is j t same there =
        let here : slice_get replaced j ≡ Some (holding d s) = ap (slice_get replaced) same ∙ changed_there k d slots s at in
        let one : t ≡ holding d s = cc in
        ap (λ (u : VtocSlot). u.content) one

    -- the others, where the new DSCB shares no chain of theirs
    chain_kept : (j : ℕ) (e : F1) → (is_chained e ≡ true → shares_chain e (Ok d) ≡ false) → has_chain slots (take j slots) e ≡ true → has_chain replaced (take j replaced) e ≡ true
    unfolding has_chain
    chain_kept j e fails is =
        let shared : List VtocSlot → Bool = λ l. list_any (λ (t : VtocSlot). shares_chain e t.content) l in
        ap (λ (o : Option VtocSlot). not (is_chained e) || (is_some o && not (shared (take j replaced)))) (third_same e)
        ∙ chain_weaker (is_chained e) (is_some (format_3_of slots e)) (shared (take j slots)) (shared (take j replaced))
        (λ chained none. ap shared (take-changed k j d slots) ∙ any-changed (λ (t : VtocSlot). shares_chain e t.content) k d (take j slots) (λ t. fails chained) none) is

    fault_kept : (j : ℕ) (e : F1) → (is_chained e ≡ true → shares_chain e (Ok d) ≡ false) → extents_fault g slots j e ≡ None → extents_fault g replaced j e ≡ None
    unfolding extents_fault
    fault_kept j e fails none =
        let hold = rules_hold (has_types slots e) (has_extents g slots e) (has_chain slots (take j slots) e) j none in
        rw (types_same e ∙ hold.0, extents_same e ∙ hold.1, chain_kept j e fails hold.2) refl

    content_kept : (j : ℕ) (c : Content) → ((e : F1) → c ≡ Ok (formats.F1 e) → is_chained e ≡ true → shares_chain e (Ok d) ≡ false) → content_fault g slots j c ≡ None → content_fault g replaced j c ≡ None
    content_kept j (Ok formats.F0) fails none = refl
    content_kept j (Ok (formats.F1 e)) fails none = fault_kept j e (fails e refl) none
    content_kept j (Ok (formats.F3 e)) fails none = refl
    content_kept j (Ok (formats.F4 e)) fails none = none
    content_kept j (Ok (formats.F5 e)) fails none = refl
    content_kept j (Err (Unsupported byte)) fails none = none
    content_kept j (Err (BadFormat byte)) fails none = none

    slot_kept : (j : ℕ) (t : VtocSlot) → ((e : F1) → t.content ≡ Ok (formats.F1 e) → is_chained e ≡ true → shares_chain e (Ok d) ≡ false) → slot_fault g slots j t ≡ None → slot_fault g replaced j t ≡ None
    unfolding slot_fault
    slot_kept j t fails none = behind_first (j == 0) (content_fault g slots j t.content) (content_fault g replaced j t.content) (content_kept j t.content fails) none

    -- where no slots in front come to have a name that none had
    module _ (fewer : (j : ℕ) (name : List ℕ) → has_name_in name (take j slots) ≡ false → has_name_in name (take j replaced) ≡ false) where
      pub name_by : (j : ℕ) (o : Option F1) → option_and_then (λ e. option_map (DuplicateName j) (position (λ u. is_named e.name u.content) (take j slots))) o ≡ None → option_and_then (λ e. option_map (DuplicateName j) (position (λ u. is_named e.name u.content) (take j replaced))) o ≡ None
      name_by j None is = refl
      name_by j (Some e) is =
          let p : VtocSlot → Bool = λ u. is_named e.name u.content in
          let before : list_any p (take j slots) ≡ false = any_first p (take j slots) ∙ ap (λ (o : Option ℕ). is_some o) (unmapped j (position p (take j slots)) is) in
          let after : position p (take j replaced) ≡ None = gone (position p (take j replaced)) (sym (any_first p (take j replaced)) ∙ fewer j e.name before) in
          ap (option_map (DuplicateName j)) after

      name_kept : (j : ℕ) (t : VtocSlot) → name_fault slots j t ≡ None → name_fault replaced j t ≡ None
      unfolding name_fault
      name_kept j t none = name_by j (set_in t.content) none

      -- Slots that break no rule break none with the other DSCB, where that breaks none itself and shares no chain of another slot.
      pub replaced_faults : ((j : ℕ) (t : VtocSlot) (e : F1) → j ≢ k → slice_get slots j ≡ Some t → t.content ≡ Ok (formats.F1 e) → is_chained e ≡ true → shares_chain e (Ok d) ≡ false)
          → ((j : ℕ) (t : VtocSlot) → j ≡ k → t.content ≡ Ok d → slot_fault g replaced j t ≡ None)
          → ((j : ℕ) (t : VtocSlot) → j ≡ k → t.content ≡ Ok d → name_fault slots k s ≡ None → name_fault replaced j t ≡ None)
          → slots_faults g slots ≡ [] → slots_faults g replaced ≡ []
      replaced_faults apart this_slot this_name none =
          let was = breaks_none g slots none in
          none_broken g replaced (record {
            four = ap (λ (o : Option VtocSlot). option_map_or (λ t. is_f4 t.content) o false) (changed_elsewhere k 0 d slots (not_first was.four)) ∙ was.four;
            five = ap (λ (o : Option VtocSlot). option_map_or (λ t. is_f5_or_f0 t.content) o false) (changed_elsewhere k 1 d slots (not_second was.five)) ∙ was.five;
            each = λ j t there. ⊎_elim
                (λ same. this_slot j t same (it_is j t same there))
                (λ other. let before : slice_get slots j ≡ Some t = sym (changed_elsewhere k j d slots other) ∙ there in slot_kept j t (λ e held chained. apart j t e other before held chained) (was.each j t before))
                (same_or_apart j k);
            names = λ j t there. ⊎_elim
                (λ same. this_name j t same (it_is j t same there) (was.names k s at))
                (λ other. name_kept j t (was.names j t (sym (changed_elsewhere k j d slots other) ∙ there)))
                (same_or_apart j k);
          })
