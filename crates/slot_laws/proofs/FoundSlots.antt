-- The slot of a data set: no other has a format 1 of its name, and it isn't slot 0.
use Rattle.std.proofs.Common.{◌≡◌, ◌≢◌, inl, inr, ⊎_elim, ℕ, zero, suc, ◌+◌, ◌<◌, ◌≤◌, Bool, true, false, List, [], ◌∷◌, length, take, get_or, Option, Some, None, Result, Ok, Err, refl, sym, ap, ◌∙◌, arith}
use Rattle.std.specs.Prelude.{option_and_then}
use Rattle.std.specs.List.{position, slice_get}
use Rattle.std.specs.Option.{option_map, option_map_or}
use Rattle.std.proofs.lemmas.Bool.{both_ways, cases_lt, false_from_ne_true}
use Rattle.std.proofs.lemmas.List.{get_or-take, length-take-le}
use Rattle.std.proofs.lemmas.List.Quantifiers.{position-Some}
use Rattle.std.proofs.lemmas.Option.{get_or_from_slice_get}
use Rattle.std.proofs.lemmas.Slice.Eq.{bytes_eq-Decides}
use Rattle.ckd_image.specs.declared.header.Geometry.{Geometry}
use Rattle.dscb_codec.specs.declared.Dscb.{Dscb}
use Rattle.dscb_codec.specs.declared.Dscb.TheVariants as formats
use Rattle.dscb_codec.specs.declared.DscbErr.{DscbErr}
use Rattle.dscb_codec.specs.declared.F1.{F1}
use Rattle.pack_spec.specs.declared.MountErr.TheVariants.{DuplicateName}
use Rattle.pack_spec.specs.declared.slot.VtocSlot.{VtocSlot}
use Rattle.pack_spec.specs.Rules.{is_f4, is_named, name_fault, name_faults, set_in, slots_faults}
use Rattle.pack_spec.proofs.FirstFaults.{none_at}
use Rattle.vtoc_index.specs.Index.{AreDscbs}
use Rattle.vtoc_index.proofs.VtocPut.{same_or_apart}
use Rattle.slot_laws.proofs.ChangedLists.{fails_at, none_passes, slice_get-map}
use Rattle.slot_laws.proofs.ChangedSlots.{breaks_none}

-- what is in a slot
abbrev Content : Type 0
Content = Result Dscb DscbErr

-- a slot holds a format 1 of this name
abbrev pub has_named : List ℕ → VtocSlot → Bool
has_named name s = is_named name s.content

-- a slot that has a name holds a format 1 of it
set_named : (name : List ℕ) (c : Content) → is_named name c ≡ true → (f : F1) × ((set_in c ≡ Some f) × (f.name ≡ name))
set_named name (Ok formats.F0) is = cc
set_named name (Ok (formats.F1 f)) is = (f, (refl, (bytes_eq-Decides f.name name).0 is))
set_named name (Ok (formats.F3 f)) is = cc
set_named name (Ok (formats.F4 f)) is = cc
set_named name (Ok (formats.F5 f)) is = cc
set_named name (Err e) is = cc

-- A name that stands in no earlier slot stands once.
pub named_once : (name : List ℕ) (slots : List VtocSlot) (slot : ℕ) → slice_get (name_faults slots) 0 ≡ None → position (has_named name) slots ≡ Some slot → (k : ℕ) (d : VtocSlot) → k < length slots → k ≢ slot → has_named name (get_or slots k d) ≡ false
unfolding name_faults name_fault
named_once name slots slot lawful found k d low other =
    let at = position-Some (has_named name) slots slot d found in
    false_from_ne_true _ (λ is. elim (cases_lt k slot) [ inl before ↦ both_ways (has_named name (get_or slots k d)) (at.2 k before) is | inr behind ↦ twice at.0 at.1 is behind ])
  where
    unmapped : (o : Option ℕ) → option_map (DuplicateName k) o ≡ None → o ≡ None
    unmapped None none = refl
    unmapped (Some n) none = cc

    twice : slot < length slots → has_named name (get_or slots slot d) ≡ true → has_named name (get_or slots k d) ≡ true → slot ≤ k → ⊥
    twice there first is behind =
        let s : VtocSlot = get_or slots k d in
        let of = set_named name s.content is in
        let zero_more : 0 + k ≡ k = omega arith in
        let none : name_fault slots k s ≡ None = ap (λ (n : ℕ). name_fault slots n s) (sym zero_more) ∙ none_at (λ p. name_fault slots p.0 p.1) 0 slots k d lawful low in
        let judged : option_map (DuplicateName k) (position (λ t. is_named (of.0).name t.content) (take k slots)) ≡ None =
        sym (ap (option_and_then (λ f. option_map (DuplicateName k) (position (λ t. is_named f.name t.content) (take k slots)))) of.1.0) ∙ none in
        let earlier : position (has_named name) (take k slots) ≡ None = ap (λ (l : List ℕ). position (λ t. is_named l t.content) (take k slots)) (sym of.1.1) ∙ unmapped (position (λ t. is_named (of.0).name t.content) (take k slots)) judged in
        let taken : get_or (take k slots) slot d ≡ get_or slots slot d = get_or-take k slots slot d (omega (arith, behind, other)) in
        let fails : has_named name (get_or (take k slots) slot d) ≡ false =
        fails_at (has_named name) (take k slots) slot d (none_passes (has_named name) (take k slots) earlier) (omega (arith, length-take-le k slots (omega (arith, low)), behind, other)) in
        both_ways (has_named name (get_or slots slot d)) (ap (has_named name) (sym taken) ∙ fails) first

pub low_of : {X : Type 0} (xs : List X) (k : ℕ) (x : X) → slice_get xs k ≡ Some x → k < length xs
low_of [] k x is = cc
low_of (y ∷ xs) zero x is = omega arith
low_of (y ∷ xs) (suc k) x is = omega (arith, low_of xs k x is)

-- no other slot has the name of a data set that stands in one
pub others_apart : (name : List ℕ) (slots : List VtocSlot) (slot : ℕ) (s : VtocSlot) → slice_get slots slot ≡ Some s → has_named name s ≡ true → slice_get (name_faults slots) 0 ≡ None → (k : ℕ) (d : VtocSlot) → k < length slots → k ≢ slot → has_named name (get_or slots k d) ≡ false
others_apart name slots slot s at named lawful = by_first (position (has_named name) slots) refl
  where
    this : (d : VtocSlot) → has_named name (get_or slots slot d) ≡ true
    this d = ap (has_named name) (get_or_from_slice_get slots slot s d at) ∙ named

    by_first : (o : Option ℕ) → position (has_named name) slots ≡ o → (k : ℕ) (d : VtocSlot) → k < length slots → k ≢ slot → has_named name (get_or slots k d) ≡ false
    by_first None first k d low other = absurd (both_ways (has_named name (get_or slots slot d)) (fails_at (has_named name) slots slot d (none_passes (has_named name) slots first) (low_of slots slot s at)) (this d))
    by_first (Some j) first k d low other = ⊎_elim
        (λ same. named_once name slots j lawful first k d low (λ is. other (is ∙ sym same)))
        (λ apart. absurd (both_ways (has_named name (get_or slots slot d)) (named_once name slots j lawful first slot d (low_of slots slot s at) apart) (this d)))
        (same_or_apart slot j)

-- the slot of a content
pub slot_there : (o : Option VtocSlot) (c : Result Dscb DscbErr) → option_map (λ s. s.content) o ≡ Some c → (s : VtocSlot) × ((o ≡ Some s) × (s.content ≡ c))
slot_there None c is = cc
slot_there (Some s) c is = (s, (refl, cc))

-- the content of a slot that holds a DSCB
abbrev content_of : Dscb → Result Dscb DscbErr
content_of d = Ok d

-- what is in a slot whose DSCB the index holds
pub content_at : (items : List Dscb) (slots : List VtocSlot) (slot : ℕ) (d : Dscb) → AreDscbs items slots → slice_get items slot ≡ Some d → option_map (λ s. s.content) (slice_get slots slot) ≡ Some (Ok d)
content_at items slots slot d are item =
    sym (slice_get-map (λ (s : VtocSlot). s.content) slots slot)
    ∙ ap (λ (l : List (Result Dscb DscbErr)). slice_get l slot) are
    ∙ slice_get-map (λ (x : Dscb). content_of x) items slot
    ∙ ap (option_map (λ (x : Dscb). content_of x)) item

-- a data set doesn't stand in slot 0
pub set_behind : (g : Geometry) (slots : List VtocSlot) (k : ℕ) (s : VtocSlot) (f : F1) → slice_get slots k ≡ Some s → s.content ≡ Ok (formats.F1 f) → slots_faults g slots ≡ [] → k ≢ 0
set_behind g slots k s f at set none is =
    let four = (breaks_none g slots none).four in
    let here : slice_get slots 0 ≡ Some s = ap (slice_get slots) (sym is) ∙ at in
    let never : false ≡ true = sym (ap is_f4 set) ∙ (sym (ap (λ (o : Option VtocSlot). option_map_or (λ t. is_f4 t.content) o false) here) ∙ four) in
    cc never
