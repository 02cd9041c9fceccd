-- The data sets in slots whose names stand once have different names.
use Rattle.std.proofs.Common.{option_and_then, ◌≡◌, ◌+◌, ◌≤◌, ℕ, suc, Bool, true, false, cond, not, ◌||◌, List, [], ◌∷◌, ◌++◌, length, take, map, Option, Some, None, Result, Ok, Err, refl, sym, ap, ◌∙◌, append_assoc, length-append, arith}
use Rattle.std.specs.Prelude.{nat_lt}
use Rattle.std.specs.List.{AllByRecursion, IsDistinct, cons_option, enumerate_from, filter_map, list_any, position, position_or_len, slice_get}
use Rattle.std.specs.Option.{option_map}
use Rattle.std.specs.Str.{bytes_eq}
use Rattle.std.proofs.lemmas.Bool.{ltb-false}
use Rattle.std.proofs.lemmas.List.{take_at}
use Rattle.std.proofs.lemmas.List.Folds.{list_any-append}
use Rattle.std.proofs.lemmas.Map.Keys.{IsDistinct-cons}
use Rattle.ckd_image.specs.declared.header.Geometry.{Geometry}
use Rattle.vol_model.proofs.Steps.{same_names}
use Rattle.dscb_codec.specs.declared.F1.{F1}
use Rattle.dscb_codec.specs.declared.Dscb.{Dscb}
use Rattle.dscb_codec.specs.declared.Dscb.TheVariants as formats
use Rattle.dscb_codec.specs.declared.DscbErr.{DscbErr}
use Rattle.pack_spec.specs.declared.MountErr.TheVariants.{DuplicateName}
use Rattle.pack_spec.specs.declared.slot.VtocSlot.{VtocSlot}
use Rattle.pack_spec.specs.Rules.{is_named, name_fault, set_in}
use Rattle.pack_spec.specs.Volume.{data_set_of}
use Rattle.pack_spec.proofs.FirstFaults.{cons_option-none}

-- one element more, none of which passes
none_passes_more : (b rest : Bool) (n k : ℕ) → suc k ≤ cond (not b) (1 + n) 0 → (k ≤ n → rest ≡ false) → (b || rest) ≡ false
none_passes_more true rest n k h f = absurd (omega arith)
none_passes_more false rest n k h f = f (omega arith)

module _ {X : Type 0} where
  -- what holds of each element, and what follows from it
  pub each_weaker : (P Q : X → Type 0) → ((x : X) → P x → Q x) → (xs : List X) → AllByRecursion P xs → AllByRecursion Q xs
  each_weaker P Q h [] all = tt
  each_weaker P Q h (x ∷ xs) all = (h x all.0, each_weaker P Q h xs all.1)

  -- no element passes a test, where there is no first that does
  none_passes : (p : X → Bool) (xs : List X) → length xs ≤ position_or_len p xs → list_any p xs ≡ false
  none_passes p [] h = refl
  none_passes p (x ∷ xs) h = none_passes_more (p x) (list_any p xs) (position_or_len p xs) (length xs) h (none_passes p xs)

  pub nowhere : (p : X → Bool) (xs : List X) → position p xs ≡ None → list_any p xs ≡ false
  nowhere p xs e = none_passes p xs (ltb-false (position_or_len p xs) (length xs) (missing (nat_lt (position_or_len p xs) (length xs)) e))
    where
      missing : (b : Bool) → cond b (Some (position_or_len p xs)) None ≡ None → b ≡ false
      missing true is = cc
      missing false is = refl

pub neither : (b c : Bool) → (b || c) ≡ false → (b ≡ false) × (c ≡ false)
neither true c e = absurd cc
neither false c e = (refl, e)

-- what is in a slot
abbrev Content : Type 0
Content = Result Dscb DscbErr

-- a format 1 is of a name, where its name is this one
pub named_set : (c : Content) (f : F1) (name : List ℕ) → set_in c ≡ Some f → is_named name c ≡ bytes_eq f.name name
named_set (Ok formats.F0) f name is = cc
named_set (Ok (formats.F1 h)) f name is = let same : h ≡ f = cc in ap (λ (x : F1). bytes_eq x.name name) same
named_set (Ok (formats.F3 h)) f name is = cc
named_set (Ok (formats.F4 h)) f name is = cc
named_set (Ok (formats.F5 h)) f name is = cc
named_set (Err e) f name is = cc

-- the format 1s in some slots
abbrev pub sets_among : List VtocSlot → List F1
sets_among some = filter_map (λ s. set_in s.content) some

module _ (Q : F1 → Type 0) where
  one_more : (o : Option F1) (fs : List F1) → ((f : F1) → o ≡ Some f → Q f) → AllByRecursion Q fs → AllByRecursion Q (cons_option o fs)
  one_more None fs here rest = rest
  one_more (Some f) fs here rest = (here f refl, rest)

  -- what holds of each slot that is a data set holds of the data sets
  pub all_sets : (P : VtocSlot → Type 0) → ((s : VtocSlot) (f : F1) → set_in s.content ≡ Some f → P s → Q f) → (xs : List VtocSlot) → AllByRecursion P xs → AllByRecursion Q (sets_among xs)
  all_sets P h [] all = tt
  all_sets P h (x ∷ xs) all = one_more (set_in x.content) (sets_among xs) (λ f is. h x f is all.0) (all_sets P h xs all.1)

-- two format 1s have one name
abbrev pub same_name : F1 → F1 → Bool
same_name f h = bytes_eq f.name h.name

distinct_more : (o : Option F1) (fs : List F1) → ((f : F1) → o ≡ Some f → AllByRecursion (λ h. same_name f h ≡ false) fs) → IsDistinct same_name fs → IsDistinct same_name (cons_option o fs)
distinct_more None fs here rest = rest
distinct_more (Some f) fs here rest = IsDistinct-cons same_name f fs (here f refl) rest

module _ (slots : List VtocSlot) where
  -- no slot in front has the name of this one, if it is a data set
  abbrev Apart : List VtocSlot → VtocSlot → Type 0
  Apart front s = (f : F1) → set_in s.content ≡ Some f → list_any (λ t. is_named f.name t.content) front ≡ false

  apart_from_fault : (k : ℕ) (s : VtocSlot) → name_fault slots k s ≡ None → Apart (take k slots) s
  unfolding name_fault
  apart_from_fault k s e f is =
      let found : Option ℕ = position (λ t. is_named f.name t.content) (take k slots) in
      nowhere (λ t. is_named f.name t.content) (take k slots) (unmapped k found (sym (ap (λ (o : Option F1). option_and_then (λ h. option_map (DuplicateName k) (position (λ t. is_named h.name t.content) (take k slots))) o) is) ∙ e))
    where
      unmapped : (k : ℕ) (o : Option ℕ) → option_map (DuplicateName k) o ≡ None → o ≡ None
      unmapped k None is = refl
      unmapped k (Some i) is = cc

  -- in front of a slot there is one more
  apart_less : (front : List VtocSlot) (s t : VtocSlot) → Apart (front ++ s ∷ []) t → Apart front t
  apart_less front s t apart f is =
      (neither (list_any (λ u. is_named f.name u.content) front) _ (sym (list_any-append (λ u. is_named f.name u.content) front (s ∷ [])) ∙ apart f is)).0

  apart_names : (front : List VtocSlot) (s t : VtocSlot) (f h : F1) → set_in s.content ≡ Some f → set_in t.content ≡ Some h → Apart (front ++ s ∷ []) t → same_name f h ≡ false
  apart_names front s t f h here is apart =
      let named : (is_named h.name s.content || false) ≡ false = (neither (list_any (λ u. is_named h.name u.content) front) _ (sym (list_any-append (λ u. is_named h.name u.content) front (s ∷ [])) ∙ apart h is)).1 in
      sym (named_set s.content f h.name here) ∙ (neither (is_named h.name s.content) false named).0

  -- the slots after those in front, where none has a name that stands before
  names_behind : (front rest : List VtocSlot) → slots ≡ front ++ rest → slice_get (filter_map (λ p. name_fault slots p.0 p.1) (enumerate_from (length front) rest)) 0 ≡ None
      → AllByRecursion (Apart front) rest × IsDistinct same_name (sets_among rest)
  unfolding IsDistinct
  names_behind front [] is none = (tt, tt)
  names_behind front (s ∷ rest) is none =
      let parts = cons_option-none (name_fault slots (length front) s) (filter_map (λ p. name_fault slots p.0 p.1) (enumerate_from (length front + 1) rest)) none in
      let more : slots ≡ (front ++ s ∷ []) ++ rest = is ∙ sym (append_assoc front (s ∷ []) rest) in
      let long : length front + 1 ≡ length (front ++ s ∷ []) = sym (length-append front (s ∷ [])) in
      let behind = names_behind (front ++ s ∷ []) rest more (sym (ap (λ (n : ℕ). slice_get (filter_map (λ p. name_fault slots p.0 p.1) (enumerate_from n rest)) 0) long) ∙ parts.1) in
      let first : take (length front) slots ≡ front = ap (λ (l : List VtocSlot). take (length front) l) is ∙ take_at front (s ∷ rest) (length front) refl in
      let apart : Apart front s = λ f here. ap (λ (l : List VtocSlot). list_any (λ u. is_named f.name u.content) l) (sym first) ∙ apart_from_fault (length front) s parts.0 f here in (
        (apart, each_weaker (Apart (front ++ s ∷ [])) (Apart front) (apart_less front s) rest behind.0),
        distinct_more (set_in s.content) (sets_among rest)
            (λ f here. all_sets (λ h. same_name f h ≡ false) (Apart (front ++ s ∷ [])) (λ t h is apart_t. apart_names front s t f h here is apart_t) rest behind.0)
            behind.1,
      )

  -- no two data sets have one name
  pub names_apart : slice_get (filter_map (λ p. name_fault slots p.0 p.1) (enumerate_from 0 slots)) 0 ≡ None → IsDistinct same_name (sets_among slots)
  names_apart none = (names_behind [] slots refl none).1

-- and so have the data sets of these
pub distinct_sets : (g : Geometry) (tracks : List (List ℕ)) (slots : List VtocSlot) (fs : List F1) → IsDistinct same_name fs → IsDistinct same_names (map (data_set_of g tracks slots) fs)
unfolding IsDistinct data_set_of
distinct_sets g tracks slots [] apart = tt
distinct_sets g tracks slots (f ∷ fs) apart = (all fs apart.0, distinct_sets g tracks slots fs apart.1)
  where
    all : (hs : List F1) → AllByRecursion (λ h. same_name f h ≡ false) hs → AllByRecursion (λ y. same_names (data_set_of g tracks slots f) y ≡ false) (map (data_set_of g tracks slots) hs)
    all [] apart = tt
    all (h ∷ hs) apart = (apart.0, all hs apart.1)
