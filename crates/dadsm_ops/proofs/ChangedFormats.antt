-- Slots of which one that held the format 1 of a data set holds another of the same name: they break no rule, where its extents and its chain are good.
use Rattle.std.proofs.Common.{◌≡◌, ◌≢◌, ℕ, zero, suc, ◌<◌, Bool, true, false, cond, List, [], ◌∷◌, take, Option, Some, None, Result, Ok, Err, refl, sym, ap, ◌∙◌, arith}
use Rattle.std.specs.Prelude.{◌||◌, ◌&&◌, ◌==◌, not, is_some, option_and_then, position, slice_get}
use Rattle.std.specs.List.{list_any}
use Rattle.std.specs.Option.{option_map}
use Rattle.std.specs.Str.{bytes_eq}
use Rattle.ckd_image.specs.declared.header.Geometry.{Geometry}
use Rattle.dscb_codec.specs.declared.Dscb.{Dscb}
use Rattle.dscb_codec.specs.declared.Dscb.TheVariants as formats
use Rattle.dscb_codec.specs.declared.DscbErr.{DscbErr}
use Rattle.dscb_codec.specs.declared.F1.{F1}
use Rattle.pack_spec.specs.declared.MountErr.{MountErr}
use Rattle.pack_spec.specs.declared.MountErr.TheVariants.{BadChain, DuplicateName}
use Rattle.pack_spec.specs.declared.slot.VtocSlot.{VtocSlot}
use Rattle.pack_spec.specs.Rules.{content_fault, extents_fault, format_3_of, has_chain, has_extents, has_types, is_chained, is_named, name_fault, set_in, shares_chain, slot_fault, slots_faults}
use Rattle.vtoc_index.specs.Index.{with_dscb}
use Rattle.dadsm_ops.specs.Extending.{IsPointedBy}
use Rattle.slot_laws.proofs.ReplacedSets.{extents_same, has_name_in, name_by, replaced_faults, third_same, types_same}
use Rattle.dadsm_ops.proofs.ChangedThirds.{any_alike}
use Rattle.dadsm_ops.proofs.NewSlots.{not_same}

-- what is in a slot
abbrev Content : Type 0
Content = Result Dscb DscbErr

-- none of the first ones passes, where none before a number does
none_first : (p : VtocSlot → Bool) (m : ℕ) (xs : List VtocSlot) → ((j : ℕ) (t : VtocSlot) → j < m → slice_get xs j ≡ Some t → p t ≡ false) → list_any p (take m xs) ≡ false
none_first p zero [] none = refl
none_first p (suc m) [] none = refl
none_first p zero (x ∷ xs) none = refl
none_first p (suc m) (x ∷ xs) none =
    ap (λ (b : Bool). b || list_any p (take m xs)) (none 0 x (omega arith) refl) ∙ none_first p m xs (λ j t low at. none (suc j) t (omega (arith, low)) at)

module _ (g : Geometry) (slots : List VtocSlot) (k : ℕ) (s : VtocSlot) (f h : F1) (at : slice_get slots k ≡ Some s) (set : s.content ≡ Ok (formats.F1 f)) where
  abbrev changed : List VtocSlot
  changed = with_dscb k (formats.F1 h) slots

  module _ (named : h.name ≡ f.name) (types : has_types slots h ≡ true) (extents : has_extents g slots h ≡ true) (third : is_chained h ≡ true → is_some (format_3_of slots h) ≡ true) (alone : is_chained h ≡ true → IsPointedBy slots h.pointer k) where
    -- no other set shares its chain
    apart : (j : ℕ) (t : VtocSlot) (e : F1) → j ≢ k → slice_get slots j ≡ Some t → t.content ≡ Ok (formats.F1 e) → is_chained e ≡ true → shares_chain e (Ok (formats.F1 h)) ≡ false
    apart j t e other there held chained = by_chain (is_chained h) (bytes_eq h.pointer e.pointer) refl refl
      where
        by_chain : (b c : Bool) → is_chained h ≡ b → bytes_eq h.pointer e.pointer ≡ c → (b && c) ≡ false
        by_chain true true is same = absurd (other (alone is j t e there held chained same))
        by_chain true false is same = refl
        by_chain false c is same = refl

    -- the set itself
    led_apart : (e : F1) (c : Content) → ((d : F1) → c ≡ Ok (formats.F1 d) → is_chained d ≡ true → bytes_eq e.pointer d.pointer ≡ false) → shares_chain e c ≡ false
    led_apart e (Ok formats.F0) other = refl
    led_apart e (Ok (formats.F1 d)) other = by_chain (is_chained d) refl
      where
        by_chain : (b : Bool) → is_chained d ≡ b → (b && bytes_eq d.pointer e.pointer) ≡ false
        by_chain true is = not_same e.pointer d.pointer (other d refl is)
        by_chain false is = refl
    led_apart e (Ok (formats.F3 d)) other = refl
    led_apart e (Ok (formats.F4 d)) other = refl
    led_apart e (Ok (formats.F5 d)) other = refl
    led_apart e (Err d) other = refl

    unshared : is_chained h ≡ true → list_any (λ (t : VtocSlot). shares_chain h t.content) (take k slots) ≡ false
    unshared chained = none_first (λ (t : VtocSlot). shares_chain h t.content) k slots (λ j t low there. led_apart h t.content (λ d held counts. by_test j t d low there held counts (bytes_eq h.pointer d.pointer) refl))
      where
        by_test : (j : ℕ) (t : VtocSlot) (d : F1) → j < k → slice_get slots j ≡ Some t → t.content ≡ Ok (formats.F1 d) → is_chained d ≡ true → (b : Bool) → bytes_eq h.pointer d.pointer ≡ b → b ≡ false
        by_test j t d low there held counts true same = absurd (omega (arith, low, alone chained j t d there held counts same))
        by_test j t d low there held counts false same = refl

    take_same : take k changed ≡ take k slots
    take_same = by k slots
      where
        by : (n : ℕ) (xs : List VtocSlot) → take n (with_dscb n (formats.F1 h) xs) ≡ take n xs
        by zero [] = refl
        by (suc n) [] = refl
        by zero (x ∷ xs) = refl
        by (suc n) (x ∷ xs) = ap (λ (l : List VtocSlot). x ∷ l) (by n xs)

    new_fault : extents_fault g changed k h ≡ None
    unfolding extents_fault has_chain
    new_fault = rw (types_same g slots k s f at set (formats.F1 h) refl h ∙ types, extents_same g slots k s f at set (formats.F1 h) refl h ∙ extents) (by_chain (is_chained h) refl)
      where
        ends : (a b : Bool) → a ≡ true → b ≡ false → cond (not (a && not b)) (Some (BadChain k)) None ≡ None
        ends true false e d = refl
        ends true true e d = cc
        ends false b e d = cc

        by_chain : (c : Bool) → is_chained h ≡ c → cond (not (not c || (is_some (format_3_of changed h) && not (list_any (λ (t : VtocSlot). shares_chain h t.content) (take k changed))))) (Some (BadChain k)) None ≡ None
        by_chain true is = ends (is_some (format_3_of changed h)) (list_any (λ (t : VtocSlot). shares_chain h t.content) (take k changed))
            (ap (λ (o : Option VtocSlot). is_some o) (third_same g slots k s f at set (formats.F1 h) refl h) ∙ third is)
            (ap (list_any (λ (t : VtocSlot). shares_chain h t.content)) take_same ∙ unshared is)
        by_chain false is = refl

    this_fault : (j : ℕ) (t : VtocSlot) → j ≡ k → t.content ≡ Ok (formats.F1 h) → slot_fault g changed j t ≡ None
    unfolding slot_fault
    this_fault j t same held = none (j == 0) (ap (content_fault g changed j) held ∙ ap (λ (n : ℕ). extents_fault g changed n h) same ∙ new_fault)
      where
        none : (b : Bool) {o : Option MountErr} → o ≡ None → cond b None o ≡ None
        none true e = refl
        none false e = e

    -- names
    names_alike : (j : ℕ) (name : List ℕ) → list_any (λ (u : VtocSlot). is_named name u.content) (take j changed) ≡ list_any (λ (u : VtocSlot). is_named name u.content) (take j slots)
    names_alike j name = any_alike (λ (u : VtocSlot). is_named name u.content) k j (formats.F1 h) slots s at (ap (λ (n : List ℕ). bytes_eq n name) named ∙ ap (is_named name) (sym set))

    fewer : (j : ℕ) (name : List ℕ) → has_name_in name (take j slots) ≡ false → has_name_in name (take j changed) ≡ false
    fewer j name none = names_alike j name ∙ none

    this_name : (j : ℕ) (t : VtocSlot) → j ≡ k → t.content ≡ Ok (formats.F1 h) → name_fault slots k s ≡ None → name_fault changed j t ≡ None
    unfolding name_fault
    this_name j t same held none =
        let here : (c : Content) (n : ℕ) → Option MountErr = λ c n. option_and_then (λ e. option_map (DuplicateName n) (position (λ u. is_named e.name u.content) (take n changed))) (set_in c) in
        ap (λ (c : Content). here c j) held
        ∙ ap (here (Ok (formats.F1 h))) same
        ∙ ap (λ (n : List ℕ). option_map (DuplicateName k) (position (λ u. is_named n u.content) (take k changed))) named
        ∙ ap (λ (c : Content). here c k) (sym set)
        ∙ name_by g slots k s f at set (formats.F1 h) refl fewer k (set_in s.content) none

    -- Slots that break no rule break none with the other format 1.
    pub format_faults : slots_faults g slots ≡ [] → slots_faults g changed ≡ []
    format_faults = replaced_faults g slots k s f at set (formats.F1 h) refl fewer apart this_fault this_name
