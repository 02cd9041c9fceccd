-- Slots of a new VTOC, and the rules that they keep.
use Rattle.std.proofs.Common.{◌≡◌, ◌+◌, ℕ, zero, suc, Bool, true, false, ◌&&◌, List, [], ◌∷◌, ◌++◌, length, map, take, drop, replicate, Option, None, Ok, ap, ap₂, refl, ◌∙◌, arith, eq-eqb, length-drop, length-take-le, if◌then◌else◌}
use Rattle.std.specs.Prelude.{◌==◌}
use Rattle.std.specs.List.{AllByRecursion, cons_option, enumerate_from, filter_map, list_all}
use Rattle.ckd_image.specs.declared.header.Geometry.{Geometry}
use Rattle.dscb_codec.specs.declared.F4.{F4}
use Rattle.dscb_codec.specs.declared.F5.{F5}
use Rattle.dscb_codec.specs.declared.Dscb.TheVariants as formats
use Rattle.dscb_codec.specs.Layout.{decoded}
use Rattle.pack_spec.specs.declared.MountErr.{MountErr}
use Rattle.pack_spec.specs.declared.MountErr.TheVariants.{NoFormat4, NoFormat5}
use Rattle.pack_spec.specs.declared.address.Address.{Address}
use Rattle.pack_spec.specs.declared.slot.VtocSlot.{VtocSlot}
use Rattle.pack_spec.specs.New.{free_slot}
use Rattle.pack_spec.specs.Rules.{content_fault, front_faults, is_f4, is_f5_or_f0, name_fault, name_faults, set_in, slot_fault, slot_faults, slots_faults}
use Rattle.pack_spec.specs.Slots.{slots_from}
use Rattle.pack_spec.specs.Vtoc.{is_slot}
use Rattle.pack_spec.specs.Written.{slot_record}
use Rattle.pack_init.proofs.ReadLemmas.{AreSlots}

pub both : (x y : Bool) → x ≡ true → y ≡ true → (x && y) ≡ true
both x y e f = ap₂ (λ (p q : Bool). p && q) e f

-- a record of a slot is one
pub slot_test : (at : Address) (slot : List ℕ) → length slot ≡ 140 → is_slot (slot_record at slot) ≡ true
slot_test at slot long =
    let key : length (take 44 slot) ≡ 44 = length-take-le 44 slot (omega arith) in
    let content : length (drop 44 slot) ≡ 96 = length-drop 44 slot ∙ omega arith in
    both _ _ (eq-eqb (length (take 44 slot)) 44 key) (eq-eqb (length (drop 44 slot)) 96 content)

pub slots_test : (at : Address) (slots : List (List ℕ)) → AreSlots slots → list_all is_slot (map (slot_record at) slots) ≡ true
slots_test at [] all = refl
slots_test at (slot ∷ slots) all = both _ _ (slot_test at slot all.0) (slots_test at slots all.1)

-- a slot holds no data set, and breaks no rule after slot 0
pub record IsSpare (g : Geometry) (s : VtocSlot) : Type 0 where
  pub unset : set_in s.content ≡ None
  pub sound : (slots : List VtocSlot) (k : ℕ) → content_fault g slots k s.content ≡ None

abbrev pub AreSpare : Geometry → List VtocSlot → Type 0
AreSpare g slots = AllByRecursion (IsSpare g) slots

-- each of them is free
abbrev pub AreFree : List VtocSlot → Type 0
AreFree slots = AllByRecursion (λ s. s.content ≡ Ok formats.F0) slots

pub free_append : (xs ys : List VtocSlot) → AreFree xs → AreFree ys → AreFree (xs ++ ys)
free_append [] ys a b = b
free_append (x ∷ xs) ys a b = (a.0, free_append xs ys a.1 b)

free_decoded : decoded (take 44 free_slot ++ drop 44 free_slot) ≡ Ok formats.F0
unfolding decoded
free_decoded = refl

pub free_slots : (g : Geometry) (track r j : ℕ) (at : Address) → AreFree (slots_from g track r (map (slot_record at) (replicate j free_slot)))
free_slots g track r zero at = tt
free_slots g track r (suc j) at = (free_decoded, free_slots g track (r + 1) j at)

pub spare_free : (g : Geometry) (ss : List VtocSlot) → AreFree ss → AreSpare g ss
spare_free g [] all = tt
spare_free g (s ∷ ss) all = (record { unset = ap set_in all.0; sound = λ slots k. ap (content_fault g slots k) all.0 }, spare_free g ss all.1)

pub spare_f5 : (g : Geometry) (s : VtocSlot) (f : F5) → s.content ≡ Ok (formats.F5 f) → IsSpare g s
spare_f5 g s f is = record { unset = ap set_in is; sound = λ slots k. ap (content_fault g slots k) is }

-- where each is spare, none has a fault
faults_none : (g : Geometry) (h : ℕ × VtocSlot → Option MountErr) → ((k : ℕ) (s : VtocSlot) → IsSpare g s → h (k, s) ≡ None) → (j : ℕ) (ss : List VtocSlot) → AreSpare g ss → filter_map h (enumerate_from j ss) ≡ []
faults_none g h none j [] all = refl
faults_none g h none j (s ∷ ss) all = ap₂ cons_option (none j s all.0) (faults_none g h none (j + 1) ss all.1)

either_none : {X : Type 0} (b : Bool) (o : Option X) → o ≡ None → (if b then None else o) ≡ None
either_none true o e = refl
either_none false o e = e

spare_slot : (g : Geometry) (slots : List VtocSlot) (k : ℕ) (s : VtocSlot) → IsSpare g s → slot_fault g slots k s ≡ None
unfolding slot_fault
spare_slot g slots k s spare = either_none (k == 0) (content_fault g slots k s.content) (spare.sound slots k)

unset_name : (slots : List VtocSlot) (k : ℕ) (s : VtocSlot) → set_in s.content ≡ None → name_fault slots k s ≡ None
unfolding name_fault
unset_name slots k s none = rw none refl

first_fault : (g : Geometry) (slots : List VtocSlot) (s : VtocSlot) → slot_fault g slots 0 s ≡ None
unfolding slot_fault
first_fault g slots s = refl

-- a VTOC of format 4, format 5 and free slots breaks no rule
pub slots_sound : (g : Geometry) (x y : VtocSlot) (others : List VtocSlot) (f : F4) (h : F5) → x.content ≡ Ok (formats.F4 f) → y.content ≡ Ok (formats.F5 h) → AreSpare g others → slots_faults g (x ∷ y ∷ others) ≡ []
unfolding slots_faults front_faults slot_faults name_faults
slots_sound g x y others f h x_is y_is spare =
    let all = x ∷ y ∷ others in
    let behind : AreSpare g (y ∷ others) = (spare_f5 g y h y_is, spare) in
    let front : front_faults all ≡ [] = ap₂ (λ (p q : Bool). (if p then [] else NoFormat4 ∷ []) ++ (if q then [] else NoFormat5 ∷ [])) (ap is_f4 x_is) (ap is_f5_or_f0 y_is) in
    let slots : slot_faults g all ≡ [] = ap₂ cons_option (first_fault g all x) (faults_none g (λ p. slot_fault g all p.0 p.1) (λ k s is. spare_slot g all k s is) 1 (y ∷ others) behind) in
    let names : name_faults all ≡ [] = ap₂ cons_option (unset_name all 0 x (ap set_in x_is)) (faults_none g (λ p. name_fault all p.0 p.1) (λ k s is. unset_name all k s is.unset) 1 (y ∷ others) behind) in
    ap₂ (λ (p q : List MountErr). p ++ q) front (ap₂ (λ (p q : List MountErr). p ++ q) slots names)

-- and has no data set
pub sets_none : (g : Geometry) (ss : List VtocSlot) → AreSpare g ss → filter_map (λ s. set_in s.content) ss ≡ []
sets_none g [] all = refl
sets_none g (s ∷ ss) all = ap₂ cons_option all.0.unset (sets_none g ss all.1)
