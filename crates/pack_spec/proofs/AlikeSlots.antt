-- Slots that differ in what has no part in the volume, pair by pair: they break the same rules and have the same data sets.
use Rattle.std.proofs.Common.{◌≡◌, ◌+◌, ℕ, zero, suc, Bool, true, false, cond, not, ◌||◌, ◌&&◌, List, [], ◌∷◌, ◌++◌, length, take, map, Option, Some, None, Result, Ok, Err, ◌⊎◌, inl, inr, ⊎_elim, refl, sym, ap, ◌∙◌, option_and_then}
use Rattle.std.specs.Prelude.{◌==◌, find, is_some, nat_le, nat_lt, slice_get, if◌then◌else◌}
use Rattle.std.specs.List.{cons_option, enumerate_from, filter_map, list_all, list_any, position, position_or_len}
use Rattle.std.specs.Option.{option_map, option_map_or}
use Rattle.std.specs.Str.{bytes_eq}
use Rattle.ckd_image.specs.declared.header.Geometry.{Geometry}
use Rattle.dscb_codec.specs.declared.F1.{F1}
use Rattle.dscb_codec.specs.declared.Dscb.{Dscb}
use Rattle.dscb_codec.specs.declared.Dscb.TheVariants as formats
use Rattle.dscb_codec.specs.declared.DscbErr.{DscbErr}
use Rattle.dscb_codec.specs.declared.DscbErr.TheVariants.{Unsupported, BadFormat}
use Rattle.vol_model.specs.declared.contents.DataSet.{DataSet}
use Rattle.pack_spec.specs.declared.MountErr.{MountErr}
use Rattle.pack_spec.specs.declared.MountErr.TheVariants.{NoFormat4, NoFormat5, UnsupportedExtent, BadExtent, BadChain, DuplicateName}
use Rattle.pack_spec.specs.declared.slot.VtocSlot.{VtocSlot}
use Rattle.pack_spec.specs.Vtoc.{is_counted_type, is_extent, is_field_type}
use Rattle.pack_spec.specs.Rules.{content_fault, counted_extents, extents_fault, format_3_of, front_faults, further_extents, has_chain, has_extents, has_types, is_chained, is_f3, is_f4, is_f5_or_f0, is_led_to, is_named, name_fault, name_faults, set_in, shares_chain, slot_fault, slot_faults, slots_faults}
use Rattle.pack_spec.specs.Volume.{data_set_of, data_sets_in}
use Rattle.pack_spec.specs.Alike.{is_blank}

-- what is in a slot
abbrev pub Content : Type 0
Content = Result Dscb DscbErr

-- a format 1 that stands in one of these slots
abbrev pub IsSetOf : List VtocSlot → F1 → Type 0
IsSetOf slots f = (k : ℕ) × (s : VtocSlot) × (slice_get slots k ≡ Some s) × (s.content ≡ Ok (formats.F1 f))

-- What a slot holds before and after has no part in the volume: no format 1 counts a pointer to it.
pub record Beside (slots : List VtocSlot) (n : ℕ) (a b : VtocSlot) : Type 0 where
  pub before : is_blank n a.content ≡ true
  pub after : is_blank n b.content ≡ true
  pub away : (f : F1) → IsSetOf slots f → is_chained f ≡ true → bytes_eq a.address f.pointer ≡ false

-- One of these slots, and what stands at its address afterwards: the same, or else nothing that has a part.
pub record Pair (slots : List VtocSlot) (n : ℕ) (a b : VtocSlot) : Type 0 where
  pub there : slice_get slots n ≡ Some a
  pub address : b.address ≡ a.address
  pub either : (b.content ≡ a.content) ⊎ Beside slots n a b

-- slots from a number on, pair by pair
abbrev pub Pairs : List VtocSlot → ℕ → List VtocSlot → List VtocSlot → Type 0
Pairs slots n [] [] = Unit {0}
Pairs slots n [] (b ∷ zs) = ⊥
Pairs slots n (a ∷ ys) [] = ⊥
Pairs slots n (a ∷ ys) (b ∷ zs) = Pair slots n a b × Pairs slots (n + 1) ys zs

-- what has no part by itself is no format 1
blank_set : (n : ℕ) (c : Content) → is_blank n c ≡ true → set_in c ≡ None
blank_set n (Ok formats.F0) is = refl
blank_set zero (Ok (formats.F1 f)) is = cc
blank_set (suc zero) (Ok (formats.F1 f)) is = cc
blank_set (suc (suc n)) (Ok (formats.F1 f)) is = cc
blank_set n (Ok (formats.F3 f)) is = refl
blank_set n (Ok (formats.F4 f)) is = refl
blank_set n (Ok (formats.F5 f)) is = refl
blank_set n (Err e) is = refl

-- and breaks no rule
blank_content : (g : Geometry) (slots : List VtocSlot) (n : ℕ) (c : Content) → is_blank (suc n) c ≡ true → content_fault g slots (suc n) c ≡ None
blank_content g slots n (Ok formats.F0) is = refl
blank_content g slots zero (Ok (formats.F1 f)) is = cc
blank_content g slots (suc n) (Ok (formats.F1 f)) is = cc
blank_content g slots n (Ok (formats.F3 f)) is = refl
blank_content g slots zero (Ok (formats.F4 f)) is = cc
blank_content g slots (suc n) (Ok (formats.F4 f)) is = cc
blank_content g slots n (Ok (formats.F5 f)) is = refl
blank_content g slots zero (Err e) is = cc
blank_content g slots (suc n) (Err e) is = cc

blank_fault : (g : Geometry) (slots : List VtocSlot) (n : ℕ) (c : Content) → is_blank n c ≡ true → (if n == 0 then None else content_fault g slots n c) ≡ None
blank_fault g slots zero c is = refl
blank_fault g slots (suc n) c is = ap (λ (o : Option MountErr). cond (suc n == 0) None o) (blank_content g slots n c is) ∙ none (suc n == 0)
  where
    none : (t : Bool) → cond {A = Option MountErr} t None None ≡ None
    none true = refl
    none false = refl

-- what is told of format 1 DSCBs alone isn't told of another
shares_set : (f : F1) (c : Content) → set_in c ≡ None → shares_chain f c ≡ false
shares_set f (Ok formats.F0) none = refl
shares_set f (Ok (formats.F1 h)) none = cc
shares_set f (Ok (formats.F3 h)) none = refl
shares_set f (Ok (formats.F4 h)) none = refl
shares_set f (Ok (formats.F5 h)) none = refl
shares_set f (Err e) none = refl

named_set : (name : List ℕ) (c : Content) → set_in c ≡ None → is_named name c ≡ false
named_set name (Ok formats.F0) none = refl
named_set name (Ok (formats.F1 h)) none = cc
named_set name (Ok (formats.F3 h)) none = refl
named_set name (Ok (formats.F4 h)) none = refl
named_set name (Ok (formats.F5 h)) none = refl
named_set name (Err e) none = refl

same_slot : (a b : VtocSlot) → b.address ≡ a.address → b.content ≡ a.content → b ≡ a
same_slot a b address content = ap (λ (x : List ℕ). record { address = x; content = b.content }) address ∙ ap (λ (c : Content). record { address = a.address; content = c }) content

module _ {slots : List VtocSlot} {n : ℕ} {a b : VtocSlot} (pair : Pair slots n a b) where
  -- the format 1 of a slot is the same
  pub pair_set : set_in b.content ≡ set_in a.content
  pair_set = ⊎_elim (λ same. ap set_in same) (λ none. blank_set n b.content none.after ∙ sym (blank_set n a.content none.before)) pair.either

  -- and so is what is told of it
  pub pair_test : (p : Content → Bool) → ((c : Content) → set_in c ≡ None → p c ≡ false) → p b.content ≡ p a.content
  pair_test p none_passes = ⊎_elim (λ same. ap p same) (λ none. none_passes b.content (blank_set n b.content none.after) ∙ sym (none_passes a.content (blank_set n a.content none.before))) pair.either

  -- a format 1 leads to the same format 3
  pub pair_led : (f : F1) → IsSetOf slots f → is_chained f ≡ true → (b ≡ a) ⊎ ((is_led_to f b ≡ false) × (is_led_to f a ≡ false))
  pair_led f set chained = ⊎_elim
      (λ same. inl (same_slot a b pair.address same))
      (λ none.
      let here : bytes_eq a.address f.pointer ≡ false = none.away f set chained in
      let there : bytes_eq b.address f.pointer ≡ false = ap (λ (x : List ℕ). bytes_eq x f.pointer) pair.address ∙ here in
      inr (ap (λ (t : Bool). t && is_f3 b.content) there, ap (λ (t : Bool). t && is_f3 a.content) here))
      pair.either

-- as many
pub pairs_length : (slots : List VtocSlot) (n : ℕ) (ys zs : List VtocSlot) → Pairs slots n ys zs → length zs ≡ length ys
pairs_length slots n [] [] pairs = refl
pairs_length slots n [] (b ∷ zs) pairs = absurd pairs
pairs_length slots n (a ∷ ys) [] pairs = absurd pairs
pairs_length slots n (a ∷ ys) (b ∷ zs) pairs = ap suc (pairs_length slots (n + 1) ys zs pairs.1)

-- the first ones
pub pairs_take : (slots : List VtocSlot) (n k : ℕ) (ys zs : List VtocSlot) → Pairs slots n ys zs → Pairs slots n (take k ys) (take k zs)
pairs_take slots n zero [] [] pairs = tt
pairs_take slots n zero [] (b ∷ zs) pairs = absurd pairs
pairs_take slots n zero (a ∷ ys) [] pairs = absurd pairs
pairs_take slots n zero (a ∷ ys) (b ∷ zs) pairs = tt
pairs_take slots n (suc k) [] [] pairs = tt
pairs_take slots n (suc k) [] (b ∷ zs) pairs = absurd pairs
pairs_take slots n (suc k) (a ∷ ys) [] pairs = absurd pairs
pairs_take slots n (suc k) (a ∷ ys) (b ∷ zs) pairs = (pairs.0, pairs_take slots (n + 1) k ys zs pairs.1)

-- a format 1 leads to the same format 3
pub pairs_find : (slots : List VtocSlot) (n : ℕ) (ys zs : List VtocSlot) (f : F1) → IsSetOf slots f → is_chained f ≡ true → Pairs slots n ys zs → find (is_led_to f) zs ≡ find (is_led_to f) ys
pairs_find slots n [] [] f set chained pairs = refl
pairs_find slots n [] (b ∷ zs) f set chained pairs = absurd pairs
pairs_find slots n (a ∷ ys) [] f set chained pairs = absurd pairs
pairs_find slots n (a ∷ ys) (b ∷ zs) f set chained pairs =
    let rest = pairs_find slots (n + 1) ys zs f set chained pairs.1 in
    ⊎_elim
    (λ same. ap (λ (s : VtocSlot). cond (is_led_to f s) (Some s) (find (is_led_to f) zs)) same ∙ ap (λ (o : Option VtocSlot). cond (is_led_to f a) (Some a) o) rest)
    (λ away. ap (λ (t : Bool). cond t (Some b) (find (is_led_to f) zs)) away.0 ∙ rest ∙ sym (ap (λ (t : Bool). cond t (Some a) (find (is_led_to f) ys)) away.1))
    (pair_led pairs.0 f set chained)

module _ (slots : List VtocSlot) (p : Content → Bool) (none_passes : (c : Content) → set_in c ≡ None → p c ≡ false) where
  abbrev test : VtocSlot → Bool
  test s = p s.content

  -- whether any passes what format 1 DSCBs alone pass
  pub pairs_any : (n : ℕ) (ys zs : List VtocSlot) → Pairs slots n ys zs → list_any test zs ≡ list_any test ys
  pairs_any n [] [] pairs = refl
  pairs_any n [] (b ∷ zs) pairs = absurd pairs
  pairs_any n (a ∷ ys) [] pairs = absurd pairs
  pairs_any n (a ∷ ys) (b ∷ zs) pairs =
      ap (λ (t : Bool). t || list_any test zs) (pair_test pairs.0 p none_passes) ∙ ap (λ (t : Bool). test a || t) (pairs_any (n + 1) ys zs pairs.1)

  pairs_front : (n : ℕ) (ys zs : List VtocSlot) → Pairs slots n ys zs → position_or_len test zs ≡ position_or_len test ys
  pairs_front n [] [] pairs = refl
  pairs_front n [] (b ∷ zs) pairs = absurd pairs
  pairs_front n (a ∷ ys) [] pairs = absurd pairs
  pairs_front n (a ∷ ys) (b ∷ zs) pairs =
      ap (λ (t : Bool). cond (not t) (1 + position_or_len test zs) 0) (pair_test pairs.0 p none_passes) ∙ ap (λ (i : ℕ). cond (not (test a)) (1 + i) 0) (pairs_front (n + 1) ys zs pairs.1)

  -- and the first that does
  pub pairs_position : (n : ℕ) (ys zs : List VtocSlot) → Pairs slots n ys zs → position test zs ≡ position test ys
  pairs_position n ys zs pairs =
      let answer : ℕ → ℕ → Option ℕ = λ i m. cond (nat_lt i m) (Some i) None in
      ap (λ (i : ℕ). answer i (length zs)) (pairs_front n ys zs pairs) ∙ ap (answer (position_or_len test ys)) (pairs_length slots n ys zs pairs)

-- slots before and after
module _ (y z : List VtocSlot) (all : Pairs y 0 y z) where
  third_by : (f : F1) (t : Bool) → IsSetOf y f → is_chained f ≡ t → cond t (find (is_led_to f) z) None ≡ cond t (find (is_led_to f) y) None
  third_by f true set is = pairs_find y 0 y z f set is all
  third_by f false set is = refl

  pub third_same : (f : F1) → IsSetOf y f → format_3_of z f ≡ format_3_of y f
  third_same f set = third_by f (is_chained f) set refl

  -- the extents that a set counts
  pub counted_same : (f : F1) → IsSetOf y f → counted_extents z f ≡ counted_extents y f
  unfolding counted_extents
  counted_same f set = ap (λ (o : Option VtocSlot). take f.extents (f.runs ++ option_map_or (λ (s : VtocSlot). further_extents s.content) o [])) (third_same f set)

  -- the rules on them
  types_same : (f : F1) → IsSetOf y f → has_types z f ≡ has_types y f
  unfolding has_types
  types_same f set = ap (λ (es : List (List ℕ)). list_all is_field_type f.runs && list_all is_counted_type es) (counted_same f set)

  extents_same : (g : Geometry) (f : F1) → IsSetOf y f → has_extents g z f ≡ has_extents g y f
  unfolding has_extents
  extents_same g f set = ap (λ (es : List (List ℕ)). nat_le f.extents 16 && list_all (is_extent g) es) (counted_same f set)

  chain_same : (k : ℕ) (f : F1) → IsSetOf y f → has_chain z (take k z) f ≡ has_chain y (take k y) f
  unfolding has_chain
  chain_same k f set =
      ap (λ (o : Option VtocSlot). not (is_chained f) || (is_some o && not (list_any (λ (s : VtocSlot). shares_chain f s.content) (take k z)))) (third_same f set)
      ∙ ap (λ (t : Bool). not (is_chained f) || (is_some (format_3_of y f) && not t)) (pairs_any y (shares_chain f) (shares_set f) 0 (take k y) (take k z) (pairs_take y 0 k y z all))

  fault_same : (g : Geometry) (k : ℕ) (f : F1) → IsSetOf y f → extents_fault g z k f ≡ extents_fault g y k f
  unfolding extents_fault
  fault_same g k f set =
      ap (λ (t : Bool). cond (not t) (Some (UnsupportedExtent k)) (cond (not (has_extents g z f)) (Some (BadExtent k)) (cond (not (has_chain z (take k z) f)) (Some (BadChain k)) None))) (types_same f set)
      ∙ ap (λ (t : Bool). cond (not (has_types y f)) (Some (UnsupportedExtent k)) (cond (not t) (Some (BadExtent k)) (cond (not (has_chain z (take k z) f)) (Some (BadChain k)) None))) (extents_same g f set)
      ∙ ap (λ (t : Bool). cond (not (has_types y f)) (Some (UnsupportedExtent k)) (cond (not (has_extents g y f)) (Some (BadExtent k)) (cond (not t) (Some (BadChain k)) None))) (chain_same k f set)

  -- the rule that a slot breaks by itself
  content_same : (g : Geometry) (k : ℕ) (c : Content) → ((f : F1) → c ≡ Ok (formats.F1 f) → IsSetOf y f) → content_fault g z k c ≡ content_fault g y k c
  content_same g k (Ok formats.F0) set = refl
  content_same g k (Ok (formats.F1 f)) set = fault_same g k f (set f refl)
  content_same g k (Ok (formats.F3 f)) set = refl
  content_same g k (Ok (formats.F4 f)) set = refl
  content_same g k (Ok (formats.F5 f)) set = refl
  content_same g k (Err (Unsupported byte)) set = refl
  content_same g k (Err (BadFormat byte)) set = refl

  slot_same : (g : Geometry) (n : ℕ) (a b : VtocSlot) → Pair y n a b → slot_fault g z n b ≡ slot_fault g y n a
  unfolding slot_fault
  slot_same g n a b pair = ⊎_elim
      (λ same. ap (λ (c : Content). cond (n == 0) None (content_fault g z n c)) same ∙ ap (λ (o : Option MountErr). cond (n == 0) None o) (content_same g n a.content (λ f is. (n, a, pair.there, is))))
      (λ none. blank_fault g z n b.content none.after ∙ sym (blank_fault g y n a.content none.before))
      pair.either

  -- a name that stands before
  name_same : (n : ℕ) (a b : VtocSlot) → Pair y n a b → name_fault z n b ≡ name_fault y n a
  unfolding name_fault
  name_same n a b pair =
      ap (λ (o : Option F1). option_and_then (λ (f : F1). option_map (DuplicateName n) (position (λ (t : VtocSlot). is_named f.name t.content) (take n z))) o) (pair_set pair)
      ∙ by_set (set_in a.content)
    where
      by_set : (o : Option F1) → option_and_then (λ (f : F1). option_map (DuplicateName n) (position (λ (t : VtocSlot). is_named f.name t.content) (take n z))) o ≡ option_and_then (λ (f : F1). option_map (DuplicateName n) (position (λ (t : VtocSlot). is_named f.name t.content) (take n y))) o
      by_set None = refl
      by_set (Some f) = ap (λ (i : Option ℕ). option_map (DuplicateName n) i) (pairs_position y (is_named f.name) (named_set f.name) 0 (take n y) (take n z) (pairs_take y 0 n y z all))

  -- what is found slot by slot
  found_same : {X : Type 0} (h k : ℕ → VtocSlot → Option X) → ((n : ℕ) (a b : VtocSlot) → Pair y n a b → h n b ≡ k n a) → (n : ℕ) (ys zs : List VtocSlot) → Pairs y n ys zs → filter_map (λ p. h p.0 p.1) (enumerate_from n zs) ≡ filter_map (λ p. k p.0 p.1) (enumerate_from n ys)
  found_same h k same n [] [] pairs = refl
  found_same h k same n [] (b ∷ zs) pairs = absurd pairs
  found_same h k same n (a ∷ ys) [] pairs = absurd pairs
  found_same {X = X} h k same n (a ∷ ys) (b ∷ zs) pairs =
      ap (λ (o : Option X). cons_option o (filter_map (λ p. h p.0 p.1) (enumerate_from (n + 1) zs))) (same n a b pairs.0)
      ∙ ap (cons_option (k n a)) (found_same h k same (n + 1) ys zs pairs.1)

  -- slots 0 and 1
  first_same : (n : ℕ) (p : Content → Bool) (ys zs : List VtocSlot) → ((c : Content) → is_blank n c ≡ true → p c ≡ true) → Pairs y n ys zs → option_map_or (λ (s : VtocSlot). p s.content) (slice_get zs 0) false ≡ option_map_or (λ (s : VtocSlot). p s.content) (slice_get ys 0) false
  first_same n p [] [] blank pairs = refl
  first_same n p [] (b ∷ zs) blank pairs = absurd pairs
  first_same n p (a ∷ ys) [] blank pairs = absurd pairs
  first_same n p (a ∷ ys) (b ∷ zs) blank pairs = ⊎_elim (λ same. ap p same) (λ none. blank b.content none.after ∙ sym (blank a.content none.before)) pairs.0.either

  second_same : (ys zs : List VtocSlot) → Pairs y 0 ys zs → option_map_or (λ (s : VtocSlot). is_f5_or_f0 s.content) (slice_get zs 1) false ≡ option_map_or (λ (s : VtocSlot). is_f5_or_f0 s.content) (slice_get ys 1) false
  second_same [] [] pairs = refl
  second_same [] (b ∷ zs) pairs = absurd pairs
  second_same (a ∷ ys) [] pairs = absurd pairs
  second_same (a ∷ ys) (b ∷ zs) pairs = first_same 1 is_f5_or_f0 ys zs (λ c is. is) pairs.1

  front_same : front_faults z ≡ front_faults y
  unfolding front_faults
  front_same =
      let one : Bool → List MountErr = λ t. cond t [] (NoFormat4 ∷ []) in
      let two : Bool → List MountErr = λ t. cond t [] (NoFormat5 ∷ []) in
      ap (λ (t : Bool). one t ++ two (option_map_or (λ (s : VtocSlot). is_f5_or_f0 s.content) (slice_get z 1) false)) (first_same 0 is_f4 y z (λ c is. is) all)
      ∙ ap (λ (t : Bool). one (option_map_or (λ (s : VtocSlot). is_f4 s.content) (slice_get y 0) false) ++ two t) (second_same y z all)

  -- the rules that are broken
  pub pairs_faults : (g : Geometry) → slots_faults g z ≡ slots_faults g y
  unfolding slots_faults slot_faults name_faults
  pairs_faults g =
      let slot = found_same (slot_fault g z) (slot_fault g y) (slot_same g) 0 y z all in
      let name = found_same (name_fault z) (name_fault y) name_same 0 y z all in
      ap (λ (l : List MountErr). l ++ (slot_faults g z ++ name_faults z)) front_same
      ∙ ap (λ (l : List MountErr). front_faults y ++ (l ++ name_faults z)) slot
      ∙ ap (λ (l : List MountErr). front_faults y ++ (slot_faults g y ++ l)) name

  -- a data set
  set_same : (g : Geometry) (tracks : List (List ℕ)) (f : F1) → IsSetOf y f → data_set_of g tracks z f ≡ data_set_of g tracks y f
  unfolding data_set_of
  set_same g tracks f set = rw (counted_same f set) refl

  kept_same : (g : Geometry) (tracks : List (List ℕ)) (o : Option F1) (fz fy : List F1) → ((f : F1) → o ≡ Some f → IsSetOf y f) → map (data_set_of g tracks z) fz ≡ map (data_set_of g tracks y) fy → map (data_set_of g tracks z) (cons_option o fz) ≡ map (data_set_of g tracks y) (cons_option o fy)
  kept_same g tracks None fz fy set rest = rest
  kept_same g tracks (Some f) fz fy set rest = ap (λ (d : DataSet). d ∷ map (data_set_of g tracks z) fz) (set_same g tracks f (set f refl)) ∙ ap (λ (ds : List DataSet). data_set_of g tracks y f ∷ ds) rest

  set_there : (n : ℕ) (a : VtocSlot) (c : Content) (f : F1) → slice_get y n ≡ Some a → a.content ≡ c → set_in c ≡ Some f → IsSetOf y f
  set_there n a (Ok formats.F0) f there is held = cc
  set_there n a (Ok (formats.F1 h)) f there is held = (n, a, there, is ∙ ap (λ (x : F1). Ok (formats.F1 x)) (let same : h ≡ f = cc in same))
  set_there n a (Ok (formats.F3 h)) f there is held = cc
  set_there n a (Ok (formats.F4 h)) f there is held = cc
  set_there n a (Ok (formats.F5 h)) f there is held = cc
  set_there n a (Err e) f there is held = cc

  sets_from : (g : Geometry) (tracks : List (List ℕ)) (n : ℕ) (ys zs : List VtocSlot) → Pairs y n ys zs → map (data_set_of g tracks z) (filter_map (λ (s : VtocSlot). set_in s.content) zs) ≡ map (data_set_of g tracks y) (filter_map (λ (s : VtocSlot). set_in s.content) ys)
  sets_from g tracks n [] [] pairs = refl
  sets_from g tracks n [] (b ∷ zs) pairs = absurd pairs
  sets_from g tracks n (a ∷ ys) [] pairs = absurd pairs
  sets_from g tracks n (a ∷ ys) (b ∷ zs) pairs =
      ap (λ (o : Option F1). map (data_set_of g tracks z) (cons_option o (filter_map (λ (s : VtocSlot). set_in s.content) zs))) (pair_set pairs.0)
      ∙ kept_same g tracks (set_in a.content) _ _ (λ f is. set_there n a a.content f pairs.0.there refl is) (sets_from g tracks (n + 1) ys zs pairs.1)

  -- the data sets
  pub pairs_sets : (g : Geometry) (tracks : List (List ℕ)) → data_sets_in g tracks z ≡ data_sets_in g tracks y
  unfolding data_sets_in
  pairs_sets g tracks = sets_from g tracks 0 y z all
