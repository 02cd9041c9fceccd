-- Slots of which a free one gets the format 1 of a new data set: they break no rule.
use Rattle.std.proofs.Common.{◌≡◌, ◌≢◌, inl, inr, ◌≤◌, ◌<◌, ℕ, zero, suc, Bool, true, false, cond, not, ◌||◌, ◌&&◌, List, [], ◌∷◌, ◌++◌, take, Option, Some, None, Result, Ok, Err, refl, sym, ap, ◌∙◌, arith}
use Rattle.std.specs.Prelude.{◌==◌, find, is_some, nat_le, option_and_then, slice_get}
use Rattle.std.specs.List.{list_all, list_any, position}
use Rattle.std.proofs.lemmas.Bool.{or_parts}
use Rattle.std.specs.Option.{option_map, option_map_or}
use Rattle.std.specs.Str.{bytes_eq}
use Rattle.std.proofs.lemmas.Slice.Eq.{bytes_eq-Decides}
use Rattle.std.proofs.lemmas.Bool.Decides.{eqb_tells}
use Rattle.ckd_image.specs.declared.header.Geometry.{Geometry}
use Rattle.dscb_codec.specs.declared.Dscb.{Dscb}
use Rattle.dscb_codec.specs.declared.Dscb.TheVariants as formats
use Rattle.dscb_codec.specs.declared.DscbErr.{DscbErr}
use Rattle.dscb_codec.specs.declared.DscbErr.TheVariants.{Unsupported, BadFormat}
use Rattle.dscb_codec.specs.declared.F1.{F1}
use Rattle.pack_spec.specs.declared.MountErr.{MountErr}
use Rattle.pack_spec.specs.declared.MountErr.TheVariants.{UnsupportedExtent, BadExtent, BadChain, DuplicateName}
use Rattle.pack_spec.specs.declared.slot.VtocSlot.{VtocSlot}
use Rattle.pack_spec.specs.Vtoc.{is_counted_type, is_extent, is_field_type}
use Rattle.pack_spec.specs.Rules.{content_fault, counted_extents, extents_fault, format_3_of, further_extents, has_chain, has_extents, has_types, is_chained, is_f3, is_f4, is_f5_or_f0, is_led_to, is_named, name_fault, set_in, shares_chain, slot_fault, slots_faults}
use Rattle.pack_spec.proofs.SetNames.{named_set}
use Rattle.vtoc_index.specs.Index.{with_dscb}
use Rattle.slot_laws.proofs.ChangedLists.{any_first}
use Rattle.slot_laws.proofs.ChangedSlots.{BreakNone, breaks_none, changed_elsewhere, changed_there, find-changed, none_broken}

-- what is in a slot
abbrev Content : Type 0
Content = Result Dscb DscbErr

not_all : (a : Bool) → (a && false) ≡ false
not_all true = refl
not_all false = refl

-- where none passes, none of the first does
any_take : {X : Type 0} (p : X → Bool) (m : ℕ) (xs : List X) → list_any p xs ≡ false → list_any p (take m xs) ≡ false
any_take p zero xs none = refl
any_take p (suc m) [] none = refl
any_take p (suc m) (x ∷ xs) none =
    let parts = or_parts (p x) (list_any p xs) none in
    ap (λ b. b || list_any p (take m xs)) parts.0 ∙ any_take p m xs parts.1

-- nor the one of a number
pub none_at : {X : Type 0} (p : X → Bool) (m : ℕ) (xs : List X) (x : X) → list_any p xs ≡ false → slice_get xs m ≡ Some x → p x ≡ false
none_at p m [] x none at = cc
none_at p zero (y ∷ xs) x none at = let same : y ≡ x = cc in ap p (sym same) ∙ (or_parts (p y) (list_any p xs) none).0
none_at p (suc m) (y ∷ xs) x none at = none_at p m xs x (or_parts (p y) (list_any p xs) none).1 at

pub not_same : (a b : List ℕ) → bytes_eq a b ≡ false → bytes_eq b a ≡ false
not_same a b apart = by_test (bytes_eq b a) refl
  where
    by_test : (t : Bool) → bytes_eq b a ≡ t → t ≡ false
    by_test true h = let wrong = sym apart ∙ (bytes_eq-Decides a b).1 (sym ((bytes_eq-Decides b a).0 h)) in cc
    by_test false h = refl

-- a free slot is neither a format 3 nor a data set
pub free_third : (c : Content) → is_f5_or_f0 c ≡ true → is_f3 c ≡ false
free_third (Ok formats.F0) free = refl
free_third (Ok (formats.F1 f)) free = cc
free_third (Ok (formats.F3 f)) free = cc
free_third (Ok (formats.F4 f)) free = cc
free_third (Ok (formats.F5 f)) free = refl
free_third (Err e) free = cc

pub free_set : (c : Content) → is_f5_or_f0 c ≡ true → set_in c ≡ None
free_set (Ok formats.F0) free = refl
free_set (Ok (formats.F1 f)) free = cc
free_set (Ok (formats.F3 f)) free = cc
free_set (Ok (formats.F4 f)) free = cc
free_set (Ok (formats.F5 f)) free = refl
free_set (Err e) free = cc

free_shares : (h : F1) (c : Content) → is_f5_or_f0 c ≡ true → shares_chain h c ≡ false
free_shares h (Ok formats.F0) free = refl
free_shares h (Ok (formats.F1 f)) free = cc
free_shares h (Ok (formats.F3 f)) free = cc
free_shares h (Ok (formats.F4 f)) free = cc
free_shares h (Ok (formats.F5 f)) free = refl
free_shares h (Err e) free = cc

free_named : (name : List ℕ) (c : Content) → is_f5_or_f0 c ≡ true → is_named name c ≡ false
free_named name (Ok formats.F0) free = refl
free_named name (Ok (formats.F1 f)) free = cc
free_named name (Ok (formats.F3 f)) free = cc
free_named name (Ok (formats.F4 f)) free = cc
free_named name (Ok (formats.F5 f)) free = refl
free_named name (Err e) free = cc

-- the rules on extents, where they hold
holds : (a b c : Bool) (k : ℕ) → cond (not a) (Some (UnsupportedExtent k)) (cond (not b) (Some (BadExtent k)) (cond (not c) (Some (BadChain k)) None)) ≡ None → (a ≡ true) × (b ≡ true) × (c ≡ true)
holds true true true k e = (refl, refl, refl)
holds true true false k e = cc
holds true false c k e = cc
holds false b c k e = cc

-- a name that stands in none of the slots
none_named : (k : ℕ) (p : VtocSlot → Bool) (ss : List VtocSlot) → list_any p ss ≡ false → option_map (DuplicateName k) (position p ss) ≡ None
none_named k p ss none = by (position p ss) (sym (any_first p ss) ∙ none)
  where
    by : (o : Option ℕ) → is_some o ≡ false → option_map (DuplicateName k) o ≡ None
    by None e = refl
    by (Some n) e = cc

none_named-back : (k : ℕ) (p : VtocSlot → Bool) (ss : List VtocSlot) → option_map (DuplicateName k) (position p ss) ≡ None → list_any p ss ≡ false
none_named-back k p ss none = any_first p ss ∙ by (position p ss) none
  where
    by : (o : Option ℕ) → option_map (DuplicateName k) o ≡ None → is_some o ≡ false
    by None e = refl
    by (Some n) e = cc

-- ---- one slot is put

module _ (f : F1) where
  abbrev put : ℕ → List VtocSlot → List VtocSlot
  put k y = with_dscb k (formats.F1 f) y

  put_take : (k : ℕ) (y : List VtocSlot) → take k (put k y) ≡ take k y
  put_take zero y = refl
  put_take (suc k) [] = refl
  put_take (suc k) (x ∷ y) = ap (λ (ss : List VtocSlot). x ∷ ss) (put_take k y)

  -- what neither the slot nor the format 1 passes, as many pass among the first
  put_any : (p : Content → Bool) (k m : ℕ) (y : List VtocSlot) (s : VtocSlot) → slice_get y k ≡ Some s → p (Ok (formats.F1 f)) ≡ false → p s.content ≡ false → list_any (λ (t : VtocSlot). p t.content) (take m (put k y)) ≡ list_any (λ (t : VtocSlot). p t.content) (take m y)
  put_any p k m [] s at new old = refl
  put_any p k zero (x ∷ y) s at new old = put_none k x y
    where
      put_none : (k : ℕ) (x : VtocSlot) (y : List VtocSlot) → list_any (λ (t : VtocSlot). p t.content) (take 0 (put k (x ∷ y))) ≡ false
      put_none zero x y = refl
      put_none (suc k) x y = refl
  put_any p zero (suc m) (x ∷ y) s at new old =
      let same : x ≡ s = cc in
      ap (λ b. b || list_any (λ (t : VtocSlot). p t.content) (take m y)) (new ∙ sym (ap (λ (t : VtocSlot). p t.content) same ∙ old))
  put_any p (suc k) (suc m) (x ∷ y) s at new old = ap (λ b. p x.content || b) (put_any p k m y s at new old)

  -- each format 1 leads to the same format 3
  put_find : (h : F1) (k : ℕ) (y : List VtocSlot) (s : VtocSlot) → slice_get y k ≡ Some s → is_f3 s.content ≡ false → find (is_led_to h) (put k y) ≡ find (is_led_to h) y
  put_find h k y s at other =
      find-changed (is_led_to h) k (formats.F1 f) y s at (ap (λ (b : Bool). bytes_eq s.address h.pointer && b) other ∙ not_all (bytes_eq s.address h.pointer)) (not_all (bytes_eq s.address h.pointer))

-- A free slot gets the format 1 of a set, whose extents are good, whose name no set has, and to whose format 3 none leads.
pub record CanPut (g : Geometry) (y : List VtocSlot) (k : ℕ) (f : F1) : Type 0 where
  pub lawful : slots_faults g y ≡ []
  pub slot : VtocSlot
  pub there : slice_get y k ≡ Some slot
  pub free : is_f5_or_f0 slot.content ≡ true
  pub behind : 2 ≤ k
  pub absent : list_any (λ (t : VtocSlot). is_named f.name t.content) y ≡ false
  pub types : has_types y f ≡ true
  pub extents : has_extents g y f ≡ true
  pub third : is_chained f ≡ true → is_some (format_3_of y f) ≡ true
  pub alone : is_chained f ≡ true → list_any (λ (t : VtocSlot). shares_chain f t.content) y ≡ false

module _ (g : Geometry) (y : List VtocSlot) (k : ℕ) (f : F1) (can : CanPut g y k f) where
  abbrev z : List VtocSlot
  z = with_dscb k (formats.F1 f) y

  pub third_put : (h : F1) → format_3_of z h ≡ format_3_of y h
  third_put h = ap (λ (o : Option VtocSlot). cond (is_chained h) o None) (put_find f h k y can.slot can.there (free_third can.slot.content can.free))

  -- each set counts the same extents
  pub counted_put : (h : F1) → counted_extents z h ≡ counted_extents y h
  unfolding counted_extents
  counted_put h = ap (λ (o : Option VtocSlot). take h.extents (h.runs ++ option_map_or (λ (s : VtocSlot). further_extents s.content) o [])) (third_put h)

  types_put : (h : F1) → has_types z h ≡ has_types y h
  unfolding has_types
  types_put h = ap (λ (es : List (List ℕ)). list_all is_field_type h.runs && list_all is_counted_type es) (counted_put h)

  extents_put : (h : F1) → has_extents g z h ≡ has_extents g y h
  unfolding has_extents
  extents_put h = ap (λ (es : List (List ℕ)). nat_le h.extents 16 && list_all (is_extent g) es) (counted_put h)

  -- the chain of a set that stands in another slot
  chain_put : (m : ℕ) (h : F1) → (is_chained h ≡ true → shares_chain h (Ok (formats.F1 f)) ≡ false) → has_chain z (take m z) h ≡ has_chain y (take m y) h
  unfolding has_chain
  chain_put m h apart =
      ap (λ (o : Option VtocSlot). not (is_chained h) || (is_some o && not (list_any (λ (s : VtocSlot). shares_chain h s.content) (take m z)))) (third_put h)
      ∙ by_chain (is_chained h) (is_some (format_3_of y h)) (list_any (λ (s : VtocSlot). shares_chain h s.content) (take m z)) (list_any (λ (s : VtocSlot). shares_chain h s.content) (take m y))
      (λ chained. put_any f (shares_chain h) k m y can.slot can.there (apart chained) (free_shares h can.slot.content can.free)) refl
    where
      by_chain : (c t a b : Bool) → (is_chained h ≡ true → a ≡ b) → (is_chained h ≡ c → (not c || (t && not a)) ≡ (not c || (t && not b)))
      by_chain true t a b same is = ap (λ x. t && not x) (same is)
      by_chain false t a b same is = refl

  -- no other set shares the chain
  not_shared : (m : ℕ) (s : VtocSlot) (h : F1) → slice_get y m ≡ Some s → s.content ≡ Ok (formats.F1 h) → is_chained h ≡ true → shares_chain h (Ok (formats.F1 f)) ≡ false
  not_shared m s h at held chained = by_chain (is_chained f) refl
    where
      by_chain : (c : Bool) → is_chained f ≡ c → (c && bytes_eq f.pointer h.pointer) ≡ false
      by_chain true is =
          let none : shares_chain f s.content ≡ false = none_at (λ (t : VtocSlot). shares_chain f t.content) m y s (can.alone is) at in
          let apart : (is_chained h && bytes_eq h.pointer f.pointer) ≡ false = ap (shares_chain f) (sym held) ∙ none in
          not_same h.pointer f.pointer (ap (λ b. b && bytes_eq h.pointer f.pointer) (sym chained) ∙ apart)
      by_chain false is = refl

  fault_put : (m : ℕ) (h : F1) → (is_chained h ≡ true → shares_chain h (Ok (formats.F1 f)) ≡ false) → extents_fault g z m h ≡ extents_fault g y m h
  unfolding extents_fault
  fault_put m h apart =
      ap (λ (t : Bool). cond (not t) (Some (UnsupportedExtent m)) (cond (not (has_extents g z h)) (Some (BadExtent m)) (cond (not (has_chain z (take m z) h)) (Some (BadChain m)) None))) (types_put h)
      ∙ ap (λ (t : Bool). cond (not (has_types y h)) (Some (UnsupportedExtent m)) (cond (not t) (Some (BadExtent m)) (cond (not (has_chain z (take m z) h)) (Some (BadChain m)) None))) (extents_put h)
      ∙ ap (λ (t : Bool). cond (not (has_types y h)) (Some (UnsupportedExtent m)) (cond (not (has_extents g y h)) (Some (BadExtent m)) (cond (not t) (Some (BadChain m)) None))) (chain_put m h apart)

  content_put : (m : ℕ) (c : Content) → ((h : F1) → c ≡ Ok (formats.F1 h) → is_chained h ≡ true → shares_chain h (Ok (formats.F1 f)) ≡ false) → content_fault g z m c ≡ content_fault g y m c
  content_put m (Ok formats.F0) apart = refl
  content_put m (Ok (formats.F1 h)) apart = fault_put m h (apart h refl)
  content_put m (Ok (formats.F3 h)) apart = refl
  content_put m (Ok (formats.F4 h)) apart = refl
  content_put m (Ok (formats.F5 h)) apart = refl
  content_put m (Err (Unsupported byte)) apart = refl
  content_put m (Err (BadFormat byte)) apart = refl

  -- the new set breaks no rule on extents
  new_fault : extents_fault g z k f ≡ None
  unfolding extents_fault has_chain
  new_fault =
      let types : has_types z f ≡ true = types_put f ∙ can.types in
      let extents : has_extents g z f ≡ true = extents_put f ∙ can.extents in
      rw (types, extents) (by_chain (is_chained f) refl)
    where
      ends : (a b : Bool) → a ≡ true → b ≡ false → cond (not (a && not b)) (Some (BadChain k)) None ≡ None
      ends true false e h = refl
      ends true true e h = cc
      ends false b e h = cc

      by_chain : (c : Bool) → is_chained f ≡ c → cond (not (not c || (is_some (format_3_of z f) && not (list_any (λ (s : VtocSlot). shares_chain f s.content) (take k z))))) (Some (BadChain k)) None ≡ None
      by_chain true is = ends (is_some (format_3_of z f)) (list_any (λ (s : VtocSlot). shares_chain f s.content) (take k z))
          (ap (λ (o : Option VtocSlot). is_some o) (third_put f) ∙ can.third is)
          (ap (λ (ss : List VtocSlot). list_any (λ (s : VtocSlot). shares_chain f s.content) ss) (put_take f k y) ∙ any_take (λ (s : VtocSlot). shares_chain f s.content) k y (can.alone is))
      by_chain false is = refl

  -- what stands in a slot afterwards
  by_slot : {P : Type 0} (m : ℕ) (t : VtocSlot) → slice_get z m ≡ Some t → (k ≡ m → t.content ≡ Ok (formats.F1 f) → P) → (k ≢ m → slice_get y m ≡ Some t → P) → P
  by_slot m t at here other = elim (eqb_tells k m) [
    | inl w ↦
        let found : Some (record (can.slot) { content = Ok (formats.F1 f) }) ≡ Some t = sym (changed_there k (formats.F1 f) y can.slot can.there) ∙ ap (slice_get z) w.1 ∙ at in
        let one : record (can.slot) { content = Ok (formats.F1 f) } ≡ t = cc in
        here w.1 (ap (λ (s : VtocSlot). s.content) (sym one))
    | inr w ↦ other w.1 (sym (changed_elsewhere k m (formats.F1 f) y (λ same. w.1 (sym same))) ∙ at)
  ]

  before : BreakNone g y
  before = breaks_none g y can.lawful

  slot_put : (m : ℕ) (t : VtocSlot) → slice_get z m ≡ Some t → slot_fault g z m t ≡ None
  unfolding slot_fault
  slot_put m t at = by_slot m t at
      (λ same held. none (m == 0) (ap (content_fault g z m) held ∙ ap (λ (n : ℕ). extents_fault g z n f) (sym same) ∙ new_fault))
      (λ apart there.
      ap (λ (o : Option MountErr). cond (m == 0) None o) (content_put m t.content (λ h held. not_shared m t h there held)) ∙ before.each m t there)
    where
      none : (b : Bool) {o : Option MountErr} → o ≡ None → cond b None o ≡ None
      none true e = refl
      none false e = e

  name_put : (m : ℕ) (t : VtocSlot) → slice_get z m ≡ Some t → name_fault z m t ≡ None
  unfolding name_fault
  name_put m t at = by_slot m t at
      (λ same held.
      ap (λ (c : Content). option_and_then (λ h. option_map (DuplicateName m) (position (λ u. is_named h.name u.content) (take m z))) (set_in c)) held
      ∙ none_named m (λ u. is_named f.name u.content) (take m z)
      (ap (λ (n : ℕ). list_any (λ (u : VtocSlot). is_named f.name u.content) (take n z)) (sym same) ∙ ap (list_any (λ (u : VtocSlot). is_named f.name u.content)) (put_take f k y) ∙ any_take (λ (u : VtocSlot). is_named f.name u.content) k y can.absent))
      (λ apart there. by_set (set_in t.content) refl there (before.names m t there))
    where
      by_set : (o : Option F1) → set_in t.content ≡ o → slice_get y m ≡ Some t → option_and_then (λ h. option_map (DuplicateName m) (position (λ u. is_named h.name u.content) (take m y))) (set_in t.content) ≡ None
          → option_and_then (λ h. option_map (DuplicateName m) (position (λ u. is_named h.name u.content) (take m z))) (set_in t.content) ≡ None
      by_set None is there old = ap (option_and_then (λ h. option_map (DuplicateName m) (position (λ u. is_named h.name u.content) (take m z)))) is
      by_set (Some h) is there old =
          let was : option_map (DuplicateName m) (position (λ u. is_named h.name u.content) (take m y)) ≡ None =
          sym (ap (option_and_then (λ h. option_map (DuplicateName m) (position (λ u. is_named h.name u.content) (take m y)))) is) ∙ old in
          let apart : bytes_eq h.name f.name ≡ false = sym (named_set t.content h f.name is) ∙ none_at (λ (u : VtocSlot). is_named f.name u.content) m y t can.absent there in
          ap (option_and_then (λ h. option_map (DuplicateName m) (position (λ u. is_named h.name u.content) (take m z)))) is
          ∙ none_named m (λ u. is_named h.name u.content) (take m z)
          (put_any f (is_named h.name) k m y can.slot can.there (not_same h.name f.name apart) (free_named h.name can.slot.content can.free) ∙ none_named-back m (λ u. is_named h.name u.content) (take m y) was)

  -- the first two slots stay
  front_put : (n : ℕ) → n < 2 → slice_get z n ≡ slice_get y n
  front_put n low = changed_elsewhere k n (formats.F1 f) y (λ same. omega (arith, low, same, can.behind))

  -- The slots with the new set break no rule.
  pub faults_put : slots_faults g z ≡ []
  faults_put = none_broken g z (record {
    four = ap (λ (o : Option VtocSlot). option_map_or (λ s. is_f4 s.content) o false) (front_put 0 (omega arith)) ∙ before.four;
    five = ap (λ (o : Option VtocSlot). option_map_or (λ s. is_f5_or_f0 s.content) o false) (front_put 1 (omega arith)) ∙ before.five;
    each = slot_put;
    names = name_put;
  })
