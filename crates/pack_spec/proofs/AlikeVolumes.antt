-- Slots and images that differ in what has no part in the volume stand for one volume.
use Rattle.std.proofs.Common.{◌≡◌, ◌+◌, ◌≤◌, ℕ, zero, suc, Bool, true, false, cond, not, ◌||◌, ◌&&◌, List, [], ◌∷◌, ◌++◌, length, take, map, Option, Some, None, Ok, ◌⊎◌, inl, inr, ⊎_elim, refl, sym, ap, ap₂, subst, ◌∙◌, arith}
use Rattle.std.specs.Prelude.{find, is_some, slice_get, unwrap_or}
use Rattle.std.specs.List.{enumerate_from, filter_map, list_any}
use Rattle.std.specs.Str.{bytes_eq}
use Rattle.std.proofs.Math.Dec.{eqb, eqb-suc-zero}
use Rattle.std.proofs.lemmas.Bool.{and_parts}
use Rattle.std.proofs.lemmas.Slice.Eq.{bytes_eq-Decides}
use Rattle.ckd_image.specs.declared.header.Geometry.{Geometry}
use Rattle.ckd_image.specs.Header.{geometry_of}
use Rattle.dscb_codec.specs.declared.F1.{F1}
use Rattle.dscb_codec.specs.declared.Dscb.TheVariants as formats
use Rattle.vol_model.specs.declared.contents.Run.{Run}
use Rattle.vol_model.specs.declared.contents.Volume.{Volume}
use Rattle.pack_spec.specs.declared.MountErr.{MountErr}
use Rattle.pack_spec.specs.declared.MountErr.TheVariants.{UnsupportedExtent, BadExtent, BadChain}
use Rattle.pack_spec.specs.declared.slot.VtocSlot.{VtocSlot}
use Rattle.pack_spec.specs.Vtoc.{vtoc_of}
use Rattle.pack_spec.specs.Slots.{slots_of_vtoc, track_faults}
use Rattle.pack_spec.specs.Rules.{content_fault, extents_fault, format_3_of, front_faults, has_chain, has_extents, has_types, is_chained, is_f3, is_f4, is_led_to, shares_chain, slot_fault, slot_faults, slots_faults}
use Rattle.pack_spec.specs.Blocks.{data_tracks}
use Rattle.pack_spec.specs.Owned.{volume_faults}
use Rattle.pack_spec.specs.Volume.{unless, volume_by, volume_of, volume_on, volume_with, volume_within, vtoc_fault}
use Rattle.pack_spec.specs.Settled.{is_used, leads_to}
use Rattle.pack_spec.specs.Alike.{AreAlike, StandAlike, is_blank}
use Rattle.pack_spec.proofs.FirstFaults.{cons_option-none}
use Rattle.pack_spec.proofs.Lawful.{groups_hold, has_volume}
use Rattle.pack_spec.proofs.AddressesApart.{AreApart, slots_apart}
use Rattle.pack_spec.proofs.BlockBodies.{vtoc_tracks}
use Rattle.pack_spec.proofs.AlikeSlots.{Beside, Content, IsSetOf, Pairs, pairs_faults, pairs_length, pairs_sets}

-- where no rule is broken, none is by one slot
none_here : {X Y : Type 0} (h : ℕ × X → Option Y) (n : ℕ) (xs : List X) (i : ℕ) (x : X) → slice_get (filter_map h (enumerate_from n xs)) 0 ≡ None → slice_get xs i ≡ Some x → h (n + i, x) ≡ None
none_here h n [] i x none is = cc
none_here h n (y ∷ xs) zero x none is =
    let here : n + 0 ≡ n = omega arith in
    let same : y ≡ x = cc in
    ap (λ k. h (k, x)) here ∙ ap (λ z. h (n, z)) (sym same) ∙ (cons_option-none (h (n, y)) (filter_map h (enumerate_from (n + 1) xs)) none).0
none_here h n (y ∷ xs) (suc i) x none is =
    let next : n + suc i ≡ n + 1 + i = omega arith in
    ap (λ k. h (k, x)) next ∙ none_here h (n + 1) xs i x (cons_option-none (h (n, y)) (filter_map h (enumerate_from (n + 1) xs)) none).1 is

-- what is found, stands in the list
abbrev Stands : {X : Type 0} → (X → Bool) → List X → Type 0
Stands {X} p xs = (j : ℕ) × (x : X) × (slice_get xs j ≡ Some x) × (p x ≡ true)

found_there : {X : Type 0} (p : X → Bool) (xs : List X) → is_some (find p xs) ≡ true → Stands p xs
found_there p [] is = cc
found_there {X = X} p (y ∷ xs) is = by_test (p y) refl (λ found. found_there p xs found) is
  where
    by_test : (t : Bool) → p y ≡ t → (is_some (find p xs) ≡ true → Stands p xs) → is_some (cond t (Some y) (find p xs)) ≡ true → Stands p (y ∷ xs)
    by_test true test more found = (zero, y, refl, test)
    by_test false test more found = let rest = more found in (suc rest.0, rest.1, rest.2, rest.3)

-- and what stands in it and passes
any_there : {X : Type 0} (p : X → Bool) (xs : List X) (i : ℕ) (x : X) → slice_get xs i ≡ Some x → p x ≡ true → list_any p xs ≡ true
any_there p [] i x is passes = cc
any_there p (y ∷ xs) zero x is passes =
    let same : y ≡ x = cc in
    ap (λ (t : Bool). t || list_any p xs) (ap p same ∙ passes)
any_there p (y ∷ xs) (suc i) x is passes = ap (λ (t : Bool). p y || t) (any_there p xs i x is passes) ∙ or_true (p y)
  where
    or_true : (t : Bool) → (t || true) ≡ true
    or_true true = refl
    or_true false = refl

last_holds : (a b c : Bool) (k : ℕ) → cond (not a) (Some (UnsupportedExtent k)) (cond (not b) (Some (BadExtent k)) (cond (not c) (Some (BadChain k)) None)) ≡ None → c ≡ true
last_holds true true true k e = refl
last_holds true true false k e = cc
last_holds true false c k e = cc
last_holds false b c k e = cc

chained_found : (a b c : Bool) → a ≡ true → (not a || (b && c)) ≡ true → b ≡ true
chained_found true true c is e = refl
chained_found true false c is e = cc
chained_found false b c is e = cc

four_first : (slots : List VtocSlot) (s : VtocSlot) → slice_get (front_faults slots) 0 ≡ None → slice_get slots 0 ≡ Some s → is_f4 s.content ≡ true
unfolding front_faults
four_first [] s none is = cc
four_first (x ∷ slots) s none is =
    let same : x ≡ s = cc in
    ap (λ (y : VtocSlot). is_f4 y.content) (sym same) ∙ front_none (is_f4 x.content) _ _ none
  where
    front_none : (b : Bool) (x : MountErr) (ys : List MountErr) → slice_get (cond b [] (x ∷ []) ++ ys) 0 ≡ None → b ≡ true
    front_none true x ys e = refl
    front_none false x ys e = cc

module _ (g : Geometry) (y : List VtocSlot) (none : slots_faults g y ≡ []) where
  set_behind : (f : F1) (k : ℕ) (s : VtocSlot) → slice_get y k ≡ Some s → s.content ≡ Ok (formats.F1 f) → slot_fault g y k s ≡ None → extents_fault g y k f ≡ None
  unfolding slot_fault
  set_behind f zero s there held fault =
      let four : is_f4 (Ok (formats.F1 f)) ≡ true = ap is_f4 (sym held) ∙ four_first y s (groups_hold g y none).0 there in
      cc
  set_behind f (suc k) s there held fault =
      let content : content_fault g y (suc k) s.content ≡ None = behind (eqb (suc k) 0) (content_fault g y (suc k) s.content) (eqb-suc-zero k) fault in
      ap (content_fault g y (suc k)) (sym held) ∙ content
    where
      behind : (b : Bool) (o : Option MountErr) → b ≡ false → cond b None o ≡ None → o ≡ None
      behind true o h e = cc
      behind false o h e = e

  -- a format 1 that counts its pointer leads to a format 3
  pub chain_found : (f : F1) → IsSetOf y f → is_chained f ≡ true → is_some (format_3_of y f) ≡ true
  unfolding slot_faults extents_fault has_chain
  chain_found f set chained =
      let number : 0 + set.0 ≡ set.0 = omega arith in
      let fault : slot_fault g y set.0 set.1 ≡ None = ap (λ (k : ℕ). slot_fault g y k set.1) (sym number) ∙ none_here (λ p. slot_fault g y p.0 p.1) 0 y set.0 set.1 (groups_hold g y none).1 set.2 in
      let extents = set_behind f set.0 set.1 set.2 set.3 fault in
      let chain : has_chain y (take set.0 y) f ≡ true = last_holds (has_types y f) (has_extents g y f) (has_chain y (take set.0 y) f) set.0 extents in
      chained_found (is_chained f) (is_some (format_3_of y f)) (not (list_any (λ (s : VtocSlot). shares_chain f s.content) (take set.0 y))) chained chain

  third_there : (f : F1) → is_chained f ≡ true → is_some (format_3_of y f) ≡ true → is_some (find (is_led_to f) y) ≡ true
  third_there f chained found = sym (ap (λ (t : Bool). is_some (cond t (find (is_led_to f) y) None)) chained) ∙ found

  module _ (apart : AreApart y) where
    both_not : (t u : Bool) → (t && not u) ≡ true → (t ≡ true) × (u ≡ false)
    both_not true true e = cc
    both_not true false e = (refl, refl)
    both_not false u e = cc

    -- none leads to what has no part
    away : (k : ℕ) (s : VtocSlot) → slice_get y k ≡ Some s → is_used y s ≡ false → (f : F1) → IsSetOf y f → is_chained f ≡ true → bytes_eq s.address f.pointer ≡ false
    away k s there unused f set chained = by_address (bytes_eq s.address f.pointer) refl
      where
        not_used : bytes_eq s.address f.pointer ≡ true → is_f3 s.content ≡ true → bytes_eq s.address f.pointer ≡ false
        not_used here third =
            let led : leads_to set.1.content s ≡ true =
            ap (λ (c : Content). leads_to c s) set.3 ∙ ap (λ (t : Bool). t && (bytes_eq s.address f.pointer && is_f3 s.content)) chained ∙ ap (λ (t : Bool). t && is_f3 s.content) here ∙ third in
            let used : is_used y s ≡ true = any_there (λ (t : VtocSlot). leads_to t.content s) y set.0 set.1 set.2 led in
            cc

        not_other : bytes_eq s.address f.pointer ≡ true → is_f3 s.content ≡ false → bytes_eq s.address f.pointer ≡ false
        not_other here other =
            let found = found_there (is_led_to f) y (third_there f chained (chain_found f set chained)) in
            let parts = and_parts (bytes_eq found.1.address f.pointer) (is_f3 found.1.content) found.3 in
            let one : s.address ≡ f.pointer = (bytes_eq-Decides s.address f.pointer).0 here in
            let two : found.1.address ≡ f.pointer = (bytes_eq-Decides found.1.address f.pointer).0 parts.0 in
            let number : k ≡ found.0 = apart k found.0 s found.1 there found.2 (one ∙ sym two) in
            let same : Some s ≡ Some found.1 = sym there ∙ ap (slice_get y) number ∙ found.2 in
            let slot : s ≡ found.1 = cc in
            let third : is_f3 s.content ≡ true = ap (λ (x : VtocSlot). is_f3 x.content) slot ∙ parts.1 in
            cc

        by_third : (t : Bool) → is_f3 s.content ≡ t → bytes_eq s.address f.pointer ≡ true → bytes_eq s.address f.pointer ≡ false
        by_third true third here = not_used here third
        by_third false third here = not_other here third

        by_address : (t : Bool) → bytes_eq s.address f.pointer ≡ t → bytes_eq s.address f.pointer ≡ false
        by_address true here = by_third (is_f3 s.content) refl here
        by_address false here = here

    module _ (z : List VtocSlot) (alike : AreAlike y z) where
      either : (k : ℕ) (a b : VtocSlot) → slice_get y k ≡ Some a → slice_get z k ≡ Some b → (b.content ≡ a.content) ⊎ Beside y k a b
      either k a b one two = ⊎_elim (λ same. inl same) (λ none. let parts = both_not (is_blank k a.content) (is_used y a) none.0 in inr (record { before = parts.0; after = none.1; away = away k a one parts.1 })) (alike.each k a b one two)

      pairs_of : (n : ℕ) (ys zs : List VtocSlot) → map (λ (s : VtocSlot). s.address) zs ≡ map (λ (s : VtocSlot). s.address) ys → ((i : ℕ) (a b : VtocSlot) → slice_get ys i ≡ Some a → slice_get zs i ≡ Some b → (slice_get y (n + i) ≡ Some a) × (slice_get z (n + i) ≡ Some b)) → Pairs y n ys zs
      pairs_of n [] [] same there = tt
      pairs_of n [] (b ∷ zs) same there = absurd cc
      pairs_of n (a ∷ ys) [] same there = absurd cc
      pairs_of n (a ∷ ys) (b ∷ zs) same there =
          let here = there 0 a b refl refl in
          let n0 : n + 0 ≡ n = omega arith in
          let one : slice_get y n ≡ Some a = ap (slice_get y) (sym n0) ∙ here.0 in
          let two : slice_get z n ≡ Some b = ap (slice_get z) (sym n0) ∙ here.1 in
          let address : b.address ≡ a.address = cc in
          let others : map (λ (s : VtocSlot). s.address) zs ≡ map (λ (s : VtocSlot). s.address) ys = cc in (
            record { there = one; address = address; either = either n a b one two },
            pairs_of (n + 1) ys zs others (λ i s t is_s is_t.
                let more = there (suc i) s t is_s is_t in
                let ni : n + 1 + i ≡ n + suc i = omega arith in
                (ap (slice_get y) ni ∙ more.0, ap (slice_get z) ni ∙ more.1)),
          )

      pub alike_pairs : Pairs y 0 y z
      alike_pairs = pairs_of 0 y z alike.addresses (λ i a b one two.
          let oi : 0 + i ≡ i = omega arith in
          (ap (slice_get y) oi ∙ one, ap (slice_get z) oi ∙ two))

      -- they break no rule either
      pub alike_faults : slots_faults g z ≡ []
      alike_faults = pairs_faults y z alike_pairs g ∙ none

      -- and stand for one volume
      pub alike_volume : (tracks : List (List ℕ)) (label : List ℕ) (vtoc : Run) → volume_with g tracks label vtoc z ≡ volume_with g tracks label vtoc y
      unfolding volume_with
      alike_volume tracks label vtoc =
          let size = pairs_length y 0 y z alike_pairs in
          let sets = pairs_sets y z alike_pairs g tracks in
          rw (size, sets) refl

-- an image whose header, VTOC and slots break no rule stands for the volume of these
pub volume_is : (image : List ℕ) (g : Geometry) (vtoc : Run) → geometry_of (take 512 image) (length image) ≡ Ok g → vtoc_of image g ≡ Ok vtoc → track_faults image g vtoc ≡ [] → slots_faults g (slots_of_vtoc image g vtoc) ≡ [] → volume_faults (volume_by image g vtoc) ≡ [] → volume_of image ≡ Ok (volume_by image g vtoc)
unfolding volume_of vtoc_fault
volume_is image g vtoc header found tracks slots whole =
    let first : List MountErr → List MountErr → List MountErr → Option MountErr = λ a b c. slice_get (a ++ (b ++ c)) 0 in
    let none : vtoc_fault image g vtoc ≡ None =
    ap (λ (a : List MountErr). first a (slots_faults g (slots_of_vtoc image g vtoc)) (volume_faults (volume_by image g vtoc))) tracks
    ∙ ap (λ (b : List MountErr). first [] b (volume_faults (volume_by image g vtoc))) slots
    ∙ ap (λ (c : List MountErr). first [] [] c) whole in
    ap (volume_on image) header
    ∙ ap (volume_within image g) found
    ∙ ap (λ (o : Option MountErr). unless o (volume_by image g vtoc)) none

volume_parts : (image : List ℕ) (g : Geometry) (vtoc : Run) (volume : Volume) → volume_by image g vtoc ≡ volume → (g ≡ volume.geometry) × (vtoc ≡ volume.vtoc)
unfolding volume_with
volume_parts image g vtoc volume is = (ap (λ (v : Volume). v.geometry) is, ap (λ (v : Volume). v.vtoc) is)

-- an image that differs from one that stands for a volume in what has no part stands for the same
pub alike_stands : (image other : List ℕ) (volume : Volume) → volume_of image ≡ Ok volume → volume.vtoc.start + volume.vtoc.len ≤ 65536 → StandAlike volume.geometry volume.vtoc image other → volume_of other ≡ Ok volume
alike_stands image other volume is few alike =
    let has = has_volume image volume is in
    let g : Geometry = has.geometry in
    let vtoc : Run = has.vtoc in
    let parts = volume_parts image g vtoc volume has.is in
    let low : vtoc.start + vtoc.len ≤ 65536 = subst (λ (r : Run). r.start + r.len ≤ 65536) (sym parts.1) few in
    let one : StandAlike g volume.vtoc image other = subst (λ (x : Geometry). StandAlike x volume.vtoc image other) (sym parts.0) alike in
    let all : StandAlike g vtoc image other = subst (λ (r : Run). StandAlike g r image other) (sym parts.1) one in
    let y : List VtocSlot = slots_of_vtoc image g vtoc in
    let z : List VtocSlot = slots_of_vtoc other g vtoc in
    let apart = slots_apart image g vtoc low in
    let header : geometry_of (take 512 other) (length other) ≡ Ok g =
    ap (λ (bytes : List ℕ). geometry_of bytes (length other)) all.others.header ∙ ap (geometry_of (take 512 image)) all.others.size ∙ has.header in
    let same : volume_by other g vtoc ≡ volume_by image g vtoc =
    ap₂ (λ (tracks : List (List ℕ)) (o : Option (List ℕ)). volume_with g tracks (unwrap_or o []) vtoc z) (vtoc_tracks g vtoc image other all.others) all.label
    ∙ alike_volume g y has.slots apart z all.slots (data_tracks image g vtoc) _ vtoc in
    volume_is other g vtoc header (all.extent ∙ has.found) all.tracks (alike_faults g y has.slots apart z all.slots) (ap volume_faults same ∙ has.whole)
    ∙ ap (λ (v : Volume). Ok v) (same ∙ has.is)
