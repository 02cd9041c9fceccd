-- Slots of which one holds another DSCB, and the rules of slots, told one by one.
use Rattle.std.proofs.Common.{◌≡◌, ◌≢◌, ℕ, zero, suc, ◌+◌, Bool, true, false, cond, List, [], ◌∷◌, ◌++◌, length, take, drop, Option, Some, None, Ok, refl, sym, ap, ◌∙◌, arith}
use Rattle.std.specs.Prelude.{◌||◌, slice_get}
use Rattle.std.specs.List.{cons_option, enumerate_from, filter_map, find, list_any}
use Rattle.std.specs.Option.{option_map_or}
use Rattle.std.proofs.lemmas.Bool.{or_parts}
use Rattle.ckd_image.specs.declared.header.Geometry.{Geometry}
use Rattle.dscb_codec.specs.declared.Dscb.{Dscb}
use Rattle.pack_spec.specs.declared.MountErr.{MountErr}
use Rattle.pack_spec.specs.declared.MountErr.TheVariants.{NoFormat4, NoFormat5}
use Rattle.pack_spec.specs.declared.slot.VtocSlot.{VtocSlot}
use Rattle.pack_spec.specs.Rules.{front_faults, is_f4, is_f5_or_f0, name_fault, name_faults, slot_fault, slot_faults, slots_faults}
use Rattle.pack_spec.proofs.FirstFaults.{cons_option-none}
use Rattle.pack_spec.proofs.Lawful.{groups_hold}
use Rattle.vtoc_index.specs.Index.{with_dscb}

-- a slot that holds another DSCB
abbrev pub holding : Dscb → VtocSlot → VtocSlot
holding d s = record s { content = Ok d }

-- the slot of a number, that one and the others
pub changed_there : (k : ℕ) (d : Dscb) (xs : List VtocSlot) (s : VtocSlot) → slice_get xs k ≡ Some s → slice_get (with_dscb k d xs) k ≡ Some (holding d s)
changed_there k d [] s is = cc
changed_there zero d (x ∷ xs) s is = let same : x ≡ s = cc in ap (λ (y : VtocSlot). Some (holding d y)) same
changed_there (suc k) d (x ∷ xs) s is = changed_there k d xs s is

pub changed_elsewhere : (k j : ℕ) (d : Dscb) (xs : List VtocSlot) → j ≢ k → slice_get (with_dscb k d xs) j ≡ slice_get xs j
changed_elsewhere k j d [] other = refl
changed_elsewhere zero zero d (x ∷ xs) other = absurd (other refl)
changed_elsewhere zero (suc j) d (x ∷ xs) other = refl
changed_elsewhere (suc k) zero d (x ∷ xs) other = refl
changed_elsewhere (suc k) (suc j) d (x ∷ xs) other = changed_elsewhere k j d xs (λ same. other (omega (arith, same)))

-- as many
pub length-changed : (k : ℕ) (d : Dscb) (xs : List VtocSlot) → length (with_dscb k d xs) ≡ length xs
length-changed k d [] = refl
length-changed zero d (x ∷ xs) = refl
length-changed (suc k) d (x ∷ xs) = ap suc (length-changed k d xs)

-- the first ones
pub take-changed : (k j : ℕ) (d : Dscb) (xs : List VtocSlot) → take j (with_dscb k d xs) ≡ with_dscb k d (take j xs)
take-changed k zero d [] = refl
take-changed k (suc j) d [] = refl
take-changed zero zero d (x ∷ xs) = refl
take-changed zero (suc j) d (x ∷ xs) = refl
take-changed (suc k) zero d (x ∷ xs) = refl
take-changed (suc k) (suc j) d (x ∷ xs) = ap (λ (l : List VtocSlot). x ∷ l) (take-changed k j d xs)

-- the first that passes a test, where the changed one fails it before and after
pub find-changed : (p : VtocSlot → Bool) (k : ℕ) (d : Dscb) (xs : List VtocSlot) (s : VtocSlot) → slice_get xs k ≡ Some s → p s ≡ false → p (holding d s) ≡ false → find p (with_dscb k d xs) ≡ find p xs
find-changed p k d [] s is before after = refl
find-changed p zero d (x ∷ xs) s is before after =
    let same : x ≡ s = cc in
    ap (λ (b : Bool). cond b (Some (holding d x)) (find p xs)) (ap (λ (y : VtocSlot). p (holding d y)) same ∙ after)
    ∙ sym (ap (λ (b : Bool). cond b (Some x) (find p xs)) (ap p same ∙ before))
find-changed p (suc k) d (x ∷ xs) s is before after = ap (λ (o : Option VtocSlot). cond (p x) (Some x) o) (find-changed p k d xs s is before after)

-- none passes a test that the new one fails, where none did
pub any-changed : (p : VtocSlot → Bool) (k : ℕ) (d : Dscb) (xs : List VtocSlot) → ((s : VtocSlot) → p (holding d s) ≡ false) → list_any p xs ≡ false → list_any p (with_dscb k d xs) ≡ false
any-changed p k d [] fails none = refl
any-changed p zero d (x ∷ xs) fails none =
    let parts = or_parts (p x) (list_any p xs) none in
    ap (λ (b : Bool). b || list_any p xs) (fails x) ∙ parts.1
any-changed p (suc k) d (x ∷ xs) fails none =
    let parts = or_parts (p x) (list_any p xs) none in
    ap (λ (b : Bool). b || list_any p (with_dscb k d xs)) parts.0 ∙ any-changed p k d xs fails parts.1

-- the slots before it, it, and those after it
pub split_slots : (k : ℕ) (xs : List VtocSlot) (s : VtocSlot) → slice_get xs k ≡ Some s → xs ≡ take k xs ++ s ∷ drop (suc k) xs
split_slots k [] s is = cc
split_slots zero (x ∷ xs) s is = let same : x ≡ s = cc in ap (λ (y : VtocSlot). y ∷ xs) same
split_slots (suc k) (x ∷ xs) s is = ap (λ (l : List VtocSlot). x ∷ l) (split_slots k xs s is)

pub split_changed : (k : ℕ) (d : Dscb) (xs : List VtocSlot) (s : VtocSlot) → slice_get xs k ≡ Some s → with_dscb k d xs ≡ take k xs ++ holding d s ∷ drop (suc k) xs
split_changed k d [] s is = cc
split_changed zero d (x ∷ xs) s is = let same : x ≡ s = cc in ap (λ (y : VtocSlot). holding d y ∷ xs) same
split_changed (suc k) d (x ∷ xs) s is = ap (λ (l : List VtocSlot). x ∷ l) (split_changed k d xs s is)

-- Slots break no rule, told slot by slot.
pub record BreakNone (g : Geometry) (slots : List VtocSlot) : Type 0 where
  pub four : option_map_or (λ s. is_f4 s.content) (slice_get slots 0) false ≡ true
  pub five : option_map_or (λ s. is_f5_or_f0 s.content) (slice_get slots 1) false ≡ true
  pub each : (k : ℕ) (s : VtocSlot) → slice_get slots k ≡ Some s → slot_fault g slots k s ≡ None
  pub names : (k : ℕ) (s : VtocSlot) → slice_get slots k ≡ Some s → name_fault slots k s ≡ None

none_here : {Y : Type 0} (h : ℕ × VtocSlot → Option Y) (n : ℕ) (xs : List VtocSlot) (i : ℕ) (x : VtocSlot) → slice_get (filter_map h (enumerate_from n xs)) 0 ≡ None → slice_get xs i ≡ Some x → h (n + i, x) ≡ None
none_here h n [] i x none is = cc
none_here h n (y ∷ xs) zero x none is =
    let here : n + 0 ≡ n = omega arith in
    let same : y ≡ x = cc in
    ap (λ k. h (k, x)) here ∙ ap (λ z. h (n, z)) (sym same) ∙ (cons_option-none (h (n, y)) (filter_map h (enumerate_from (n + 1) xs)) none).0
none_here h n (y ∷ xs) (suc i) x none is =
    let next : n + suc i ≡ n + 1 + i = omega arith in
    ap (λ k. h (k, x)) next ∙ none_here h (n + 1) xs i x (cons_option-none (h (n, y)) (filter_map h (enumerate_from (n + 1) xs)) none).1 is

none_anywhere : {Y : Type 0} (h : ℕ × VtocSlot → Option Y) (n : ℕ) (xs : List VtocSlot) → ((i : ℕ) (x : VtocSlot) → slice_get xs i ≡ Some x → h (n + i, x) ≡ None) → filter_map h (enumerate_from n xs) ≡ []
none_anywhere h n [] none = refl
none_anywhere {Y = Y} h n (x ∷ xs) none =
    let first : n ≡ n + 0 = omega arith in
    let here : h (n, x) ≡ None = ap (λ k. h (k, x)) first ∙ none 0 x refl in
    ap (λ (o : Option Y). cons_option o (filter_map h (enumerate_from (n + 1) xs))) here
    ∙ none_anywhere h (n + 1) xs (λ i y is. let next : n + 1 + i ≡ n + suc i = omega arith in ap (λ k. h (k, y)) next ∙ none (suc i) y is)

two_tests : (a b : Bool) → slice_get (cond a [] (NoFormat4 ∷ []) ++ cond b [] (NoFormat5 ∷ [])) 0 ≡ None → (a ≡ true) × (b ≡ true)
two_tests true true none = (refl, refl)
two_tests true false none = absurd cc
two_tests false b none = absurd cc

pub breaks_none : (g : Geometry) (slots : List VtocSlot) → slots_faults g slots ≡ [] → BreakNone g slots
unfolding front_faults slot_faults name_faults
breaks_none g slots none =
    let groups = groups_hold g slots none in
    let front = two_tests (option_map_or (λ s. is_f4 s.content) (slice_get slots 0) false) (option_map_or (λ s. is_f5_or_f0 s.content) (slice_get slots 1) false) groups.0 in
    record {
      four = front.0;
      five = front.1;
      each = λ k s there. let number : k ≡ 0 + k = omega arith in ap (λ (n : ℕ). slot_fault g slots n s) number ∙ none_here (λ p. slot_fault g slots p.0 p.1) 0 slots k s groups.1 there;
      names = λ k s there. let number : k ≡ 0 + k = omega arith in ap (λ (n : ℕ). name_fault slots n s) number ∙ none_here (λ p. name_fault slots p.0 p.1) 0 slots k s groups.2 there;
    }

pub none_broken : (g : Geometry) (slots : List VtocSlot) → BreakNone g slots → slots_faults g slots ≡ []
unfolding slots_faults front_faults slot_faults name_faults
none_broken g slots is =
    let one : Bool → List MountErr = λ b. cond b [] (NoFormat4 ∷ []) in
    let two : Bool → List MountErr = λ b. cond b [] (NoFormat5 ∷ []) in
    let others : List MountErr = filter_map (λ p. slot_fault g slots p.0 p.1) (enumerate_from 0 slots) ++ filter_map (λ p. name_fault slots p.0 p.1) (enumerate_from 0 slots) in
    ap (λ (b : Bool). (one b ++ two (option_map_or (λ s. is_f5_or_f0 s.content) (slice_get slots 1) false)) ++ others) is.four
    ∙ ap (λ (b : Bool). two b ++ others) is.five
    ∙ ap (λ (l : List MountErr). l ++ filter_map (λ p. name_fault slots p.0 p.1) (enumerate_from 0 slots)) (none_anywhere (λ p. slot_fault g slots p.0 p.1) 0 slots (λ k s there. let number : 0 + k ≡ k = omega arith in ap (λ (n : ℕ). slot_fault g slots n s) number ∙ is.each k s there))
    ∙ none_anywhere (λ p. name_fault slots p.0 p.1) 0 slots (λ k s there. let number : 0 + k ≡ k = omega arith in ap (λ (n : ℕ). name_fault slots n s) number ∙ is.names k s there)
