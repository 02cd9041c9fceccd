-- Slots that hold the added extents of a data set, once its format 3 is put, or where it needs none.
use Rattle.std.proofs.Common.{◌≡◌, ◌≢◌, ⊎_elim, ◌+◌, ◌≤◌, ◌<◌, ℕ, zero, suc, Bool, true, false, cond, not, ◌||◌, ◌&&◌, List, [], ◌∷◌, length, take, Option, Some, None, Result, Ok, refl, sym, ap, ◌∙◌, arith}
use Rattle.std.specs.Prelude.{◌==◌, find, is_some, nat_lt, slice_get}
use Rattle.std.specs.List.{list_any}
use Rattle.std.specs.Str.{bytes_eq}
use Rattle.std.proofs.Math.Dec.{eqb-suc-zero}
use Rattle.std.proofs.lemmas.Bool.{and_parts, cases_lt, ltb-true, or_parts}
use Rattle.std.proofs.lemmas.Bool.Decides.{nat_tests}
use Rattle.std.proofs.lemmas.Slice.Eq.{bytes_eq-Decides}
use Rattle.ckd_image.specs.declared.header.Geometry.{Geometry}
use Rattle.dscb_codec.specs.declared.Dscb.{Dscb}
use Rattle.dscb_codec.specs.declared.Dscb.TheVariants as formats
use Rattle.dscb_codec.specs.declared.DscbErr.{DscbErr}
use Rattle.dscb_codec.specs.declared.F1.{F1}
use Rattle.dscb_codec.specs.declared.F3.{F3}
use Rattle.pack_spec.specs.declared.MountErr.{MountErr}
use Rattle.pack_spec.specs.declared.MountErr.TheVariants.{UnsupportedExtent, BadExtent, BadChain}
use Rattle.pack_spec.specs.declared.slot.VtocSlot.{VtocSlot}
use Rattle.pack_spec.specs.Rules.{content_fault, extents_fault, format_3_of, has_chain, has_extents, has_types, is_chained, is_f3, is_led_to, shares_chain, slot_fault, slots_faults}
use Rattle.pack_spec.proofs.AddressesApart.{AreApart}
use Rattle.vol_model.specs.declared.contents.Run.{Run}
use Rattle.vtoc_index.specs.Index.{with_dscb}
use Rattle.dadsm_ops.specs.Extending.{HoldAdded, IsPointedBy, f1_with, f3_with}
use Rattle.dadsm_ops.proofs.AddedExtents.{after_chained, counted_new_third, counted_own, counted_own_third}
use Rattle.slot_laws.proofs.FoundSlots.{set_behind}
use Rattle.slot_laws.proofs.ChangedSlots.{breaks_none}

-- what is in a slot
abbrev Content : Type 0
Content = Result Dscb DscbErr

less : (a b : ℕ) → a < b → nat_lt a b ≡ true
less a b l = grind (arith, nat_tests)

turned : (a b : List ℕ) → bytes_eq a b ≡ true → bytes_eq b a ≡ true
turned a b is = (bytes_eq-Decides b a).1 (sym ((bytes_eq-Decides a b).0 is))

-- ---- the rules that a set keeps

rules_hold : (a b c : Bool) (k : ℕ) → cond (not a) (Some (UnsupportedExtent k)) (cond (not b) (Some (BadExtent k)) (cond (not c) (Some (BadChain k)) None)) ≡ None → (a ≡ true) × (b ≡ true) × (c ≡ true)
rules_hold true true true k none = (refl, refl, refl)
rules_hold true true false k none = absurd cc
rules_hold true false c k none = absurd cc
rules_hold false b c k none = absurd cc

-- where none of the first ones passes, one of them doesn't
none_passed : (p : VtocSlot → Bool) (m i : ℕ) (xs : List VtocSlot) (x : VtocSlot) → i < m → slice_get xs i ≡ Some x → list_any p (take m xs) ≡ false → p x ≡ false
none_passed p zero i xs x low at none = absurd (omega (arith, low))
none_passed p (suc m) i [] x low at none = cc
none_passed p (suc m) zero (y ∷ xs) x low at none = let same : y ≡ x = cc in ap p (sym same) ∙ (or_parts (p y) (list_any p (take m xs)) none).0
none_passed p (suc m) (suc i) (y ∷ xs) x low at none = none_passed p m i xs x (omega (arith, low)) at (or_parts (p y) (list_any p (take m xs)) none).1

module _ (g : Geometry) (slots : List VtocSlot) (lawful : slots_faults g slots ≡ []) where
  module _ (k : ℕ) (t : VtocSlot) (f : F1) (at : slice_get slots k ≡ Some t) (set : t.content ≡ Ok (formats.F1 f)) where
    fault_none : (n : ℕ) → n ≢ 0 → slot_fault g slots n t ≡ None → extents_fault g slots n f ≡ None
    unfolding slot_fault
    fault_none zero other none = absurd (other refl)
    fault_none (suc n) other none = sym (ap (content_fault g slots (suc n)) set) ∙ behind (suc n == 0) (content_fault g slots (suc n) t.content) (eqb-suc-zero n) none
      where
        behind : (b : Bool) (o : Option MountErr) → b ≡ false → cond b None o ≡ None → o ≡ None
        behind true o e none = cc
        behind false o e none = none

    pub set_rules : (has_types slots f ≡ true) × (has_extents g slots f ≡ true) × (has_chain slots (take k slots) f ≡ true)
    unfolding extents_fault
    set_rules = rules_hold (has_types slots f) (has_extents g slots f) (has_chain slots (take k slots) f) k
        (fault_none k (set_behind g slots k t f at set lawful) ((breaks_none g slots lawful).each k t at))

    unshared : is_chained f ≡ true → list_any (λ (s : VtocSlot). shares_chain f s.content) (take k slots) ≡ false
    unfolding has_chain
    unshared chained = by_test (is_chained f) (is_some (format_3_of slots f)) (list_any (λ (s : VtocSlot). shares_chain f s.content) (take k slots)) chained set_rules.2
      where
        by_test : (c s b : Bool) → c ≡ true → (not c || (s && not b)) ≡ true → b ≡ false
        by_test true true true is rule = cc
        by_test true true false is rule = refl
        by_test true false b is rule = cc
        by_test false s b is rule = cc

  -- of two sets that count one pointer, the second shares the first's
  shared : (i k : ℕ) (u t : VtocSlot) (e f : F1) → i < k → slice_get slots i ≡ Some u → u.content ≡ Ok (formats.F1 e) → is_chained e ≡ true → slice_get slots k ≡ Some t → t.content ≡ Ok (formats.F1 f) → is_chained f ≡ true → bytes_eq e.pointer f.pointer ≡ true → ⊥
  shared i k u t e f low one held counts two set chained same =
      let none : shares_chain f u.content ≡ false = none_passed (λ (s : VtocSlot). shares_chain f s.content) k i slots u low one (unshared k t f two set chained) in
      let here : (is_chained e && bytes_eq e.pointer f.pointer) ≡ false = ap (shares_chain f) (sym held) ∙ none in
      both (is_chained e) (bytes_eq e.pointer f.pointer) counts same here
    where
      both : (a b : Bool) → a ≡ true → b ≡ true → (a && b) ≡ false → ⊥
      both true true x y wrong = cc wrong
      both true false x y wrong = cc y
      both false b x y wrong = cc x

  -- no other set counts the pointer of one
  pub pointed_once : (k : ℕ) (t : VtocSlot) (f : F1) → slice_get slots k ≡ Some t → t.content ≡ Ok (formats.F1 f) → is_chained f ≡ true → IsPointedBy slots f.pointer k
  pointed_once k t f at set chained i u e there held counts same =
      ⊎_elim
      (λ (low : i < k). absurd (shared i k u t e f low there held counts at set chained (turned f.pointer e.pointer same)))
      (λ (high : k ≤ i). ⊎_elim
      (λ (low : k < i). absurd (shared k i t u f e low at set chained there held counts same))
      (λ (past : i ≤ k). let one : i ≡ k = omega (arith, high, past) in one)
      (cases_lt k i))
      (cases_lt i k)

-- ---- addresses stay apart

address_at : (k : ℕ) (d : Dscb) (xs : List VtocSlot) (j : ℕ) (u : VtocSlot) → slice_get (with_dscb k d xs) j ≡ Some u → (w : VtocSlot) × (slice_get xs j ≡ Some w) × (u.address ≡ w.address)
address_at k d [] j u at = cc
address_at zero d (x ∷ xs) zero u at = let same : record x { content = Ok d } ≡ u = cc in (x, refl, sym (ap (λ (y : VtocSlot). y.address) same))
address_at zero d (x ∷ xs) (suc j) u at = (u, at, refl)
address_at (suc k) d (x ∷ xs) zero u at = (u, at, refl)
address_at (suc k) d (x ∷ xs) (suc j) u at = address_at k d xs j u at

pub apart_changed : (k : ℕ) (d : Dscb) (xs : List VtocSlot) → AreApart xs → AreApart (with_dscb k d xs)
apart_changed k d xs apart i j s t one two same =
    let a = address_at k d xs i s one in
    let b = address_at k d xs j t two in
    apart i j a.0 b.0 a.1 b.1 (sym a.2 ∙ same ∙ b.2)

-- the one item that passes is the one that is found
find_one : (p : VtocSlot → Bool) (xs : List VtocSlot) (j : ℕ) (s : VtocSlot) → slice_get xs j ≡ Some s → p s ≡ true → ((i : ℕ) (t : VtocSlot) → slice_get xs i ≡ Some t → p t ≡ true → t ≡ s) → find p xs ≡ Some s
find_one p [] j s at is one = cc
find_one p (x ∷ xs) zero s at is one =
    let same : x ≡ s = cc in
    ap (λ (b : Bool). cond b (Some x) (find p xs)) (ap p same ∙ is) ∙ ap Some same
find_one p (x ∷ xs) (suc j) s at is one = by_test (p x) refl (find_one p xs j s at is (λ i t there passes. one (suc i) t there passes))
  where
    by_test : (b : Bool) → p x ≡ b → find p xs ≡ Some s → cond (p x) (Some x) (find p xs) ≡ Some s
    by_test true test rest = ap (λ (t : Bool). cond t (Some x) (find p xs)) test ∙ ap Some (one 0 x refl test)
    by_test false test rest = ap (λ (t : Bool). cond t (Some x) (find p xs)) test ∙ rest

-- ---- what the slots hold

module _ (g : Geometry) (kind k : ℕ) (f : F1) (runs : List Run) (three : length f.runs ≡ 3) where
  -- three extents or fewer
  pub hold_none : (slots : List VtocSlot) (pointer : List ℕ) → f.extents + length runs ≤ 3 → HoldAdded slots g kind k f runs pointer
  hold_none slots pointer few = record {
    counted = counted_own g kind f runs pointer three slots few;
    third = λ chained. absurd (flat chained);
    alone = λ chained. absurd (flat chained);
  }
    where
      flat : is_chained (f1_with g kind runs pointer f) ≡ true → ⊥
      flat chained = let more = ltb-true 3 (f.extents + length runs) (sym (after_chained g kind f runs pointer three) ∙ chained) in omega (arith, few, more)

  module _ (z : List VtocSlot) (apart : AreApart z) (number : ℕ) (s : VtocSlot) (there : slice_get z number ≡ Some s) (h : F3) (front : length h.front ≡ 4) (back : length h.back ≡ 9) (held : s.content ≡ Ok (formats.F3 (f3_with g kind f.extents runs h))) (most : f.extents + length runs ≤ 16) (once : IsPointedBy z s.address k) where
    third_found : (e : F1) → is_chained e ≡ true → bytes_eq s.address e.pointer ≡ true → format_3_of z e ≡ Some s
    third_found e chained same =
        ap (λ (b : Bool). cond b (find (is_led_to e) z) None) chained
        ∙ find_one (is_led_to e) z number s there (ap (λ (b : Bool). b && is_f3 s.content) same ∙ ap is_f3 held)
        (λ i t at passes.
        let parts = and_parts (bytes_eq t.address e.pointer) (is_f3 t.content) passes in
        let one : t.address ≡ s.address = (bytes_eq-Decides t.address e.pointer).0 parts.0 ∙ sym ((bytes_eq-Decides s.address e.pointer).0 same) in
        let place : i ≡ number = apart i number t s at there one in
        let both : Some t ≡ Some s = sym at ∙ ap (slice_get z) place ∙ there in
        cc)

    abbrev after : F1
    after = f1_with g kind runs s.address f

    led : (3 < f.extents + length runs) → format_3_of z after ≡ Some s
    unfolding f1_with
    led more = third_found after (less 3 (f.extents + length runs) more) ((bytes_eq-Decides s.address s.address).1 refl)

    third : is_chained after ≡ true → is_some (format_3_of z after) ≡ true
    third chained = ap (λ (o : Option VtocSlot). is_some o) (led (ltb-true 3 (f.extents + length runs) (sym (after_chained g kind f runs s.address three) ∙ chained)))

    -- the format 3 is new
    pub hold_new : f.extents ≤ 3 → 3 < f.extents + length runs → HoldAdded z g kind k f runs s.address
    hold_new few more = record {
      counted = counted_new_third g kind f runs s.address three z s h front back held most (led more) few;
      third = third;
      alone = λ chained. once;
    }

    -- or the set's own
    pub hold_own : 3 < f.extents → bytes_eq s.address f.pointer ≡ true → HoldAdded z g kind k f runs s.address
    hold_own more same = record {
      counted = counted_own_third g kind f runs s.address three z s h front back held most (led (omega (arith, more))) (third_found f (less 3 f.extents more) same);
      third = third;
      alone = λ chained. once;
    }
