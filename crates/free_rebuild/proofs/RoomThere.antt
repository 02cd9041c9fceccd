-- A mounted VTOC from which the unused is cleared has room for the chain of free space.
use Rattle.std.proofs.Common.{◌≡◌, ◌+◌, ◌≤◌, ◌<◌, ℕ, zero, suc, Bool, true, false, cond, not, ◌||◌, ◌&&◌, List, [], ◌∷◌, ◌++◌, length, take, map, Option, Some, None, Result, Ok, Err, refl, sym, ap, ◌∙◌, ◌⊎◌, inl, inr, ⊎_elim, arith, length-take}
use Rattle.std.specs.Prelude.{count_by, find, is_some, nat_le, nat_lt, slice_get}
use Rattle.std.specs.List.{cons_option, enumerate_from, filter_map}
use Rattle.std.specs.Option.{option_map, option_map_or}
use Rattle.std.proofs.Math.Dec.{eqb, eqb-suc-zero}
use Rattle.std.proofs.lemmas.Bool.{and_parts, lt-ltb, ltb-true}
use Rattle.std.proofs.lemmas.Bool.Decides.{nat_tests}
use Rattle.std.proofs.lemmas.List.{length-append, length-map}
use Rattle.std.proofs.lemmas.List.Sorted.{length_permutation, sum_by-IsPermutation}
use Rattle.ckd_image.specs.declared.header.Geometry.{Geometry}
use Rattle.dscb_codec.specs.declared.Dscb.{Dscb}
use Rattle.dscb_codec.specs.declared.Dscb.TheVariants as formats
use Rattle.dscb_codec.specs.declared.DscbErr.{DscbErr}
use Rattle.dscb_codec.specs.declared.F1.{F1}
use Rattle.vol_model.specs.declared.contents.DataSet.{DataSet}
use Rattle.vol_model.specs.declared.contents.Volume.{Volume}
use Rattle.vol_model.specs.Order.{in_order}
use Rattle.vol_model.specs.Slots.{slots_needed}
use Rattle.vol_model.specs.Space.{free_runs}
use Rattle.vol_model.proofs.InOrder.{in_order-permutation}
use Rattle.pack_spec.specs.declared.MountErr.{MountErr}
use Rattle.pack_spec.specs.declared.slot.VtocSlot.{VtocSlot}
use Rattle.pack_spec.specs.FreeChain.{dscbs_for, entries_of}
use Rattle.pack_spec.specs.Label.{heads_of}
use Rattle.pack_spec.specs.Owned.{overlap_faults, room_faults, volume_faults}
use Rattle.pack_spec.specs.Rules.{content_fault, counted_extents, format_3_of, further_extents, is_chained, is_f3, is_f4, is_led_to, set_in, slot_fault, slot_faults, slots_faults}
use Rattle.pack_spec.specs.Settled.{is_f5}
use Rattle.pack_spec.specs.Blocks.{data_tracks}
use Rattle.pack_spec.specs.Volume.{data_set_of, data_sets_in, volume_with}
use Rattle.pack_spec.specs.Vtoc.{run_of_extent}
use Rattle.pack_spec.proofs.AddressesApart.{slots_apart}
use Rattle.pack_spec.proofs.AlikeSlots.{IsSetOf}
use Rattle.pack_spec.proofs.AlikeVolumes.{chain_found}
use Rattle.pack_spec.proofs.FirstFaults.{cons_option-none}
use Rattle.pack_spec.proofs.Lawful.{groups_hold}
use Rattle.pack_spec.proofs.OwnedTracks.{has_room}
use Rattle.vtoc_index.specs.declared.vol.Vol.{Vol}
use Rattle.vtoc_index.specs.Index.{AreDscbs, IsMounted, address_in}
use Rattle.vtoc_index.proofs.HeldDscbs.{dscbs_many}
use Rattle.free_rebuild.specs.Chain.{is_open}
use Rattle.free_rebuild.specs.Clearing.{AreCleared, is_extra, is_pointed}
use Rattle.free_rebuild.proofs.AddressLemmas.{held_slots}
use Rattle.free_rebuild.proofs.ChainLemmas.{HasRoom, get_low, get_some}
use Rattle.free_rebuild.proofs.ChainItems.{count_more}
use Rattle.free_rebuild.proofs.ClearedLemmas.{cleared_pointed}
use Rattle.free_rebuild.proofs.DecodedSlots.{found_at, slot_decoded, third_of, thirteen_more, three_runs}
use Rattle.free_rebuild.proofs.NeededSlots.{fours, fours_few, kinds, opens_behind, sets_in, thirds, thirds_led}
use Rattle.free_rebuild.proofs.RoomLemmas.{room_of}
use Rattle.free_rebuild.proofs.StandLemmas.{HasFront, has_front, slots_by, volume_on}
use Rattle.free_rebuild.proofs.WriteLemmas.{entries_many}

-- a data set that counts its pointer has more than three extents
pub many_extents : (image : List ℕ) (v : Vol) → IsMounted image v → (f : F1) → IsSetOf (slots_by image v) f → is_chained f ≡ true → nat_lt 3 (length (counted_extents (slots_by image v) f)) ≡ true
unfolding counted_extents
many_extents image v mounted f set chained = by_third (format_3_of slots f) refl (chain_found v.geometry slots mounted.lawful f set chained)
  where
    slots : List VtocSlot
    slots = slots_by image v

    runs : length f.runs ≡ 3
    runs = three_runs set.1 f (slot_decoded image v.geometry v.vtoc set.0 set.1 set.2) set.3

    counts : 3 < f.extents
    counts = ltb-true 3 f.extents chained

    by_third : (o : Option VtocSlot) → format_3_of slots f ≡ o → is_some o ≡ true → nat_lt 3 (length (take f.extents (f.runs ++ option_map_or (λ s. further_extents s.content) (format_3_of slots f) []))) ≡ true
    by_third None is some = cc
    by_third (Some t) is some =
        let found : find (is_led_to f) slots ≡ Some t = sym (ap (λ (b : Bool). cond b (find (is_led_to f) slots) None) chained) ∙ is in
        let there = found_at (is_led_to f) slots t found in
        let third = third_of t.content (and_parts _ (is_f3 t.content) there.2).1 in
        let more : length (third.0.front ++ third.0.back) ≡ 13 = thirteen_more t third.0 (slot_decoded image v.geometry v.vtoc there.0 t there.1) third.1 in
        let rows : option_map_or (λ (s : VtocSlot). further_extents s.content) (format_3_of slots f) [] ≡ third.0.front ++ third.0.back =
        ap (λ (o : Option VtocSlot). option_map_or (λ (s : VtocSlot). further_extents s.content) o []) is ∙ ap further_extents third.1 in
        let whole : length (f.runs ++ option_map_or (λ (s : VtocSlot). further_extents s.content) (format_3_of slots f) []) ≡ 16 =
        ap (λ (l : List (List ℕ)). length (f.runs ++ l)) rows ∙ length-append f.runs (third.0.front ++ third.0.back) ∙ omega (arith, runs, more) in
        lt-ltb 3 _ (omega (arith, length-take f.extents (f.runs ++ option_map_or (λ (s : VtocSlot). further_extents s.content) (format_3_of slots f) []), whole, counts))

-- format 4 stands in slot 0 alone
none_here : {X Y : Type 0} (h : ℕ × X → Option Y) (n : ℕ) (xs : List X) (i : ℕ) (x : X) → slice_get (filter_map h (enumerate_from n xs)) 0 ≡ None → slice_get xs i ≡ Some x → h (n + i, x) ≡ None
none_here h n [] i x none is = cc
none_here h n (y ∷ xs) zero x none is =
    let here : n + 0 ≡ n = omega arith in
    let same : y ≡ x = cc in
    ap (λ k. h (k, x)) here ∙ ap (λ z. h (n, z)) (sym same) ∙ (cons_option-none (h (n, y)) (filter_map h (enumerate_from (n + 1) xs)) none).0
none_here h n (y ∷ xs) (suc i) x none is =
    let next : n + suc i ≡ n + 1 + i = omega arith in
    ap (λ k. h (k, x)) next ∙ none_here h (n + 1) xs i x (cons_option-none (h (n, y)) (filter_map h (enumerate_from (n + 1) xs)) none).1 is

pub four_alone : (g : Geometry) (slots : List VtocSlot) (k : ℕ) (s : VtocSlot) → slots_faults g slots ≡ [] → slice_get slots (suc k) ≡ Some s → is_f4 s.content ≡ false
unfolding slot_faults slot_fault
four_alone g slots k s none is =
    let e : 0 + suc k ≡ suc k = omega arith in
    let fault : slot_fault g slots (suc k) s ≡ None = ap (λ (n : ℕ). slot_fault g slots n s) (sym e) ∙ none_here (λ p. slot_fault g slots p.0 p.1) 0 slots (suc k) s (groups_hold g slots none).1 is in
    by_content s.content (behind (eqb (suc k) 0) (content_fault g slots (suc k) s.content) (eqb-suc-zero k) fault)
  where
    behind : (b : Bool) (o : Option MountErr) → b ≡ false → cond b None o ≡ None → o ≡ None
    behind true o h e = cc
    behind false o h e = e

    by_content : (c : Result Dscb DscbErr) → content_fault g slots (suc k) c ≡ None → is_f4 c ≡ false
    by_content (Ok formats.F0) e = refl
    by_content (Ok (formats.F1 f)) e = refl
    by_content (Ok (formats.F3 f)) e = refl
    by_content (Ok (formats.F4 f)) e = cc
    by_content (Ok (formats.F5 f)) e = refl
    by_content (Err x) e = refl

-- the data sets of slots are those of the DSCBs that these hold
pub sets_held : (slots : List VtocSlot) (ds : List Dscb) → AreDscbs ds slots → filter_map (λ (s : VtocSlot). set_in s.content) slots ≡ sets_in ds
sets_held [] [] are = refl
sets_held [] (d ∷ ds) are = absurd cc
sets_held (s ∷ slots) [] are = absurd cc
sets_held (s ∷ slots) (d ∷ ds) are =
    let one : s.content ≡ Ok d = cc in
    let rest : AreDscbs ds slots = cc in
    ap (λ (c : Result Dscb DscbErr). cons_option (set_in c) (filter_map (λ (t : VtocSlot). set_in t.content) slots)) one
    ∙ ap (cons_option (set_in (Ok d))) (sets_held slots ds rest)

-- a set that stands in the list of sets stands in a slot
pub set_stands : (slots : List VtocSlot) (i : ℕ) (f : F1) → slice_get (filter_map (λ (s : VtocSlot). set_in s.content) slots) i ≡ Some f → IsSetOf slots f
set_stands [] i f is = cc
set_stands (s ∷ slots) i f is = by_content s.content refl i is (λ j more. set_stands slots j f more)
  where
    later : IsSetOf slots f → IsSetOf (s ∷ slots) f
    later set = (suc set.0, set.1, set.2, set.3)

    by_content : (c : Result Dscb DscbErr) → s.content ≡ c → (i : ℕ) → slice_get (cons_option (set_in c) (filter_map (λ (t : VtocSlot). set_in t.content) slots)) i ≡ Some f → ((j : ℕ) → slice_get (filter_map (λ (t : VtocSlot). set_in t.content) slots) j ≡ Some f → IsSetOf slots f) → IsSetOf (s ∷ slots) f
    by_content (Ok formats.F0) held i there more = later (more i there)
    by_content (Ok (formats.F1 x)) held zero there more = let same : x ≡ f = cc in (zero, s, refl, held ∙ ap (λ (y : F1). Ok (formats.F1 y)) same)
    by_content (Ok (formats.F1 x)) held (suc i) there more = later (more i there)
    by_content (Ok (formats.F3 x)) held i there more = later (more i there)
    by_content (Ok (formats.F4 x)) held i there more = later (more i there)
    by_content (Ok (formats.F5 x)) held i there more = later (more i there)
    by_content (Err e) held i there more = later (more i there)

-- more pass a test that each item passes which passes another
pub count_weaker : {X Y : Type 0} (p : X → Bool) (q : Y → Bool) (f : X → Y) (xs : List X) → ((i : ℕ) (x : X) → slice_get xs i ≡ Some x → p x ≡ true → q (f x) ≡ true) → count_by p xs ≤ count_by q (map f xs)
count_weaker p q f [] each = omega arith
count_weaker p q f (x ∷ xs) each =
    let rest = count_weaker p q f xs (λ i y is. each (suc i) y is) in
    omega (arith, count_more p x xs, count_more q (f x) (map f xs), rest, one (p x) (q (f x)) (each 0 x refl))
  where
    one : (s t : Bool) → (s ≡ true → t ≡ true) → cond s 1 0 ≤ cond t 1 0
    one true true both = omega arith
    one true false both = cc (both refl)
    one false true both = omega arith
    one false false both = omega arith

-- the slots that the data sets of a mounted image need
sets_need : (image : List ℕ) (v : Vol) → IsMounted image v → 1 + dscbs_for (length v.free.items) + length (sets_in v.slots.items) + count_by is_chained (sets_in v.slots.items) ≤ length v.slots.items
unfolding volume_faults volume_with data_sets_in data_set_of slots_needed
sets_need image v mounted =
    let volume : Volume = volume_on image v in
    let slots : List VtocSlot = slots_by image v in
    let fs : List F1 = filter_map (λ (s : VtocSlot). set_in s.content) slots in
    let sets : List DataSet = data_sets_in v.geometry (data_tracks image v.geometry v.vtoc) slots in
    let room = has_room volume (no_more (overlap_faults volume) (room_faults volume) mounted.whole) in
    let same : fs ≡ sets_in v.slots.items = sets_held slots v.slots.items mounted.index.slots in
    let size : length volume.sets ≡ length (sets_in v.slots.items) = length_permutation sets (in_order sets) (in_order-permutation sets) ∙ length-map fs (data_set_of v.geometry (data_tracks image v.geometry v.vtoc) slots) ∙ ap length same in
    let more : count_by is_chained fs ≤ count_by (λ (x : DataSet). nat_lt 3 (length x.extents)) sets = count_weaker is_chained (λ (x : DataSet). nat_lt 3 (length x.extents)) (data_set_of v.geometry (data_tracks image v.geometry v.vtoc) slots) fs (λ i f is chained.
    ap (nat_lt 3) (length-map (counted_extents slots f) (run_of_extent v.geometry)) ∙ many_extents image v mounted f (set_stands slots i f is) chained) in
    let ordered : count_by (λ (x : DataSet). nat_lt 3 (length x.extents)) volume.sets ≡ count_by (λ (x : DataSet). nat_lt 3 (length x.extents)) sets = sum_by-IsPermutation (λ (x : DataSet). cond (nat_lt 3 (length x.extents)) 1 0) sets (in_order sets) (in_order-permutation sets) in
    let many : length v.slots.items ≡ volume.slots = dscbs_many v.slots.items slots mounted.index.slots in
    let free : length v.free.items ≡ length (free_runs volume) = ap length mounted.free in
    omega (arith, room, size, more, ordered, many, ap dscbs_for free, ap (count_by is_chained) same)
  where
    no_more : (xs ys : List MountErr) → xs ++ ys ≡ [] → ys ≡ []
    no_more [] ys none = none
    no_more (x ∷ xs) ys none = cc

-- what is cleared, or stays
cleared_item : (at : ℕ → List ℕ) (ds cleared : List Dscb) (k : ℕ) (d : Dscb) → AreCleared at (length ds) ds cleared → slice_get cleared k ≡ Some d → (d ≡ formats.F0) ⊎ (slice_get ds k ≡ Some d)
cleared_item at ds cleared k d clears there =
    let low : k < length ds = let in_cleared = get_low cleared k d there in omega (arith, in_cleared, clears.size) in
    let was = get_some ds k low in
    by_extra was.0 was.1 (nat_le 2 k && (nat_lt k (length ds) && is_extra ds (at k) was.0)) (sym there ∙ clears.each k was.0 was.1)
  where
    by_extra : (w : Dscb) → slice_get ds k ≡ Some w → (t : Bool) → Some d ≡ Some (cond t formats.F0 w) → (d ≡ formats.F0) ⊎ (slice_get ds k ≡ Some d)
    by_extra w is true same = inl cc
    by_extra w is false same = let one : d ≡ w = cc in inr (is ∙ ap Some (sym one))

-- a format 3 that stays is one that a data set leads to
third_stays : (at : ℕ → List ℕ) (ds cleared : List Dscb) (k : ℕ) (d : Dscb) → AreCleared at (length ds) ds cleared → HasFront ds → slice_get cleared k ≡ Some d → is_f3 (Ok d) ≡ true → is_pointed cleared (at k) ≡ true
third_stays at ds cleared k d clears front there third =
    let low : k < length ds = let in_cleared = get_low cleared k d there in omega (arith, in_cleared, clears.size) in
    let was = get_some ds k low in
    cleared_pointed at (length ds) ds cleared clears (at k)
    ∙ by_place k d low was.0 was.1 third (sym there ∙ clears.each k was.0 was.1)
  where
    by_pointed : (k : ℕ) (d w : Dscb) → is_f3 (Ok d) ≡ true → (t : Bool) → is_pointed ds (at k) ≡ t → Some d ≡ Some (cond (is_f5 (Ok w) || (is_f3 (Ok w) && not (is_pointed ds (at k)))) formats.F0 w) → is_pointed ds (at k) ≡ true
    by_pointed k d w third true pointed same = pointed
    by_pointed k d w third false pointed same = absurd (by_kind w (same ∙ ap (λ (t : Bool). Some (cond (is_f5 (Ok w) || (is_f3 (Ok w) && not t)) formats.F0 w)) pointed))
      where
        by_kind : (w : Dscb) → Some d ≡ Some (cond (is_f5 (Ok w) || (is_f3 (Ok w) && true)) formats.F0 w) → ⊥
        by_kind formats.F0 same = let one : d ≡ formats.F0 = cc in let two : false ≡ true = sym (ap (λ (x : Dscb). is_f3 (Ok x)) one) ∙ third in cc
        by_kind (formats.F1 f) same = let one : d ≡ formats.F1 f = cc in let two : false ≡ true = sym (ap (λ (x : Dscb). is_f3 (Ok x)) one) ∙ third in cc
        by_kind (formats.F3 f) same = let one : d ≡ formats.F0 = cc in let two : false ≡ true = sym (ap (λ (x : Dscb). is_f3 (Ok x)) one) ∙ third in cc
        by_kind (formats.F4 f) same = let one : d ≡ formats.F4 f = cc in let two : false ≡ true = sym (ap (λ (x : Dscb). is_f3 (Ok x)) one) ∙ third in cc
        by_kind (formats.F5 f) same = let one : d ≡ formats.F0 = cc in let two : false ≡ true = sym (ap (λ (x : Dscb). is_f3 (Ok x)) one) ∙ third in cc

    reached : (k n : ℕ) (t : Bool) → 2 ≤ k → k < n → (nat_le 2 k && (nat_lt k n && t)) ≡ t
    reached k n t two low = grind (arith, nat_tests)

    not_open : (w : Dscb) → is_open w ≡ true → is_f3 (Ok w) ≡ true → ⊥
    not_open formats.F0 opened third = cc
    not_open (formats.F1 f) opened third = cc
    not_open (formats.F3 f) opened third = cc
    not_open (formats.F4 f) opened third = cc
    not_open (formats.F5 f) opened third = cc

    by_place : (k : ℕ) (d : Dscb) → k < length ds → (w : Dscb) → slice_get ds k ≡ Some w → is_f3 (Ok d) ≡ true → Some d ≡ Some (cond (nat_le 2 k && (nat_lt k (length ds) && is_extra ds (at k) w)) formats.F0 w) → is_pointed ds (at k) ≡ true
    by_place zero d low w is third same =
        let one : d ≡ w = cc in
        let four : w ≡ formats.F4 front.head = let both : Some w ≡ Some (formats.F4 front.head) = sym is ∙ front.four in cc in
        let never : false ≡ true = sym (ap (λ (x : Dscb). is_f3 (Ok x)) (one ∙ four)) ∙ third in
        absurd cc
    by_place (suc zero) d low w is third same =
        let one : d ≡ w = cc in
        let two : w ≡ front.one = let both : Some w ≡ Some front.one = sym is ∙ front.second in cc in
        absurd (not_open d (ap is_open (one ∙ two) ∙ front.opened) third)
    by_place (suc (suc k)) d low w is third same =
        by_pointed (suc (suc k)) d w third (is_pointed ds (at (suc (suc k)))) refl (same ∙ ap (λ (t : Bool). Some (cond t formats.F0 w)) (reached (suc (suc k)) (length ds) (is_extra ds (at (suc (suc k))) w) (omega arith) low))

-- data sets stay
sets_stay : (ds cleared : List Dscb) → length cleared ≡ length ds → ((k : ℕ) (d e : Dscb) → slice_get ds k ≡ Some d → slice_get cleared k ≡ Some e → set_in (Ok e) ≡ set_in (Ok d)) → sets_in cleared ≡ sets_in ds
sets_stay [] [] size each = refl
sets_stay [] (e ∷ cleared) size each = absurd (omega (arith, size))
sets_stay (d ∷ ds) [] size each = absurd (omega (arith, size))
sets_stay (d ∷ ds) (e ∷ cleared) size each =
    ap (λ (o : Option F1). cons_option o (sets_in cleared)) (each 0 d e refl refl)
    ∙ ap (cons_option (set_in (Ok d))) (sets_stay ds cleared (omega (arith, size)) (λ k x y is_x is_y. each (suc k) x y is_x is_y))

pub set_stays : (at : ℕ → List ℕ) (ds cleared : List Dscb) → AreCleared at (length ds) ds cleared → (k : ℕ) (d e : Dscb) → slice_get ds k ≡ Some d → slice_get cleared k ≡ Some e → set_in (Ok e) ≡ set_in (Ok d)
set_stays at ds cleared clears k d e is_d is_e = by_test (nat_le 2 k) (nat_lt k (length ds)) (is_extra ds (at k) d) refl (let both : Some e ≡ Some (cond (nat_le 2 k && (nat_lt k (length ds) && is_extra ds (at k) d)) formats.F0 d) = sym is_e ∙ clears.each k d is_d in cc)
  where
    extra_set : (d : Dscb) → is_extra ds (at k) d ≡ true → set_in (Ok d) ≡ None
    extra_set formats.F0 is = cc
    extra_set (formats.F1 f) is = cc
    extra_set (formats.F3 f) is = refl
    extra_set (formats.F4 f) is = cc
    extra_set (formats.F5 f) is = refl

    by_test : (t u x : Bool) → is_extra ds (at k) d ≡ x → e ≡ cond (t && (u && x)) formats.F0 d → set_in (Ok e) ≡ set_in (Ok d)
    by_test true true true extra same = ap (λ (y : Dscb). set_in (Ok y)) same ∙ sym (extra_set d extra)
    by_test true true false extra same = ap (λ (y : Dscb). set_in (Ok y)) same
    by_test true false x extra same = ap (λ (y : Dscb). set_in (Ok y)) same
    by_test false u x extra same = ap (λ (y : Dscb). set_in (Ok y)) same

-- slots 0 and 1 stay
pub front_stays : (at : ℕ → List ℕ) (ds cleared : List Dscb) → AreCleared at (length ds) ds cleared → (k : ℕ) (d : Dscb) → k < 2 → slice_get ds k ≡ Some d → slice_get cleared k ≡ Some d
front_stays at ds cleared clears k d low there = clears.each k d there ∙ ap (λ (t : Bool). Some (cond (t && (nat_lt k (length ds) && is_extra ds (at k) d)) formats.F0 d)) (below k low)
  where
    below : (k : ℕ) → k < 2 → nat_le 2 k ≡ false
    below k low = grind (arith, nat_tests)

-- so the chain has room
pub room_there : (image : List ℕ) (v : Vol) (cleared : List Dscb) → IsMounted image v → v.vtoc.start + v.vtoc.len ≤ 65536 → AreCleared (address_in v) (length v.slots.items) v.slots.items cleared → HasRoom cleared 1 (entries_of (heads_of v.geometry) v.free.items)
room_there image v cleared mounted low clears =
    let at : ℕ → List ℕ = address_in v in
    let ds : List Dscb = v.slots.items in
    let slots : List VtocSlot = slots_by image v in
    let front = has_front image v mounted in
    let held = held_slots image v mounted.index in
    let many : length ds ≡ length slots = dscbs_many ds slots mounted.index.slots in
    let slot : (i : ℕ) → i < length cleared → (d : Dscb) × (slice_get slots i ≡ Some (record { address = at i; content = Ok d })) = λ i inside.
    let d = get_some ds i (omega (arith, inside, clears.size)) in (d.0, held i ∙ ap (option_map (λ (x : Dscb). record { address = at i; content = Ok x })) d.1) in
    let apart : (i j : ℕ) → i < length cleared → j < length cleared → at i ≡ at j → i ≡ j = λ i j one two same.
    let s = slot i one in let t = slot j two in
    slots_apart image v.geometry v.vtoc low i j (record { address = at i; content = Ok s.0 }) (record { address = at j; content = Ok t.0 }) s.1 t.1 same in
    let led : thirds cleared ≤ count_by is_chained (sets_in cleared) = thirds_led at cleared apart (λ k d there third. third_stays at ds cleared k d clears front there third) in
    let sets : sets_in cleared ≡ sets_in ds = sets_stay ds cleared clears.size (set_stays at ds cleared clears) in
    let one : fours cleared ≤ 1 = fours_few cleared (λ k d there. ⊎_elim
    (λ (zeros : d ≡ formats.F0). ap (λ (x : Dscb). is_f4 (Ok x)) zeros)
    (λ (was : slice_get ds (suc k) ≡ Some d).
    let slot : slice_get slots (suc k) ≡ Some (record { address = at (suc k); content = Ok d }) = held (suc k) ∙ ap (option_map (λ (x : Dscb). record { address = at (suc k); content = Ok x })) was in
    four_alone v.geometry slots k (record { address = at (suc k); content = Ok d }) mounted.lawful slot)
    (cleared_item at ds cleared (suc k) d clears there)) in
    let first = front_stays at ds cleared clears 0 (formats.F4 front.head) (omega arith) front.four in
    let second = front_stays at ds cleared clears 1 front.one (omega arith) front.second in
    let opens = opens_behind cleared (formats.F4 front.head) front.one first refl second front.opened in
    let need = sets_need image v mounted in
    let all = kinds cleared in
    let size : length (entries_of (heads_of v.geometry) v.free.items) ≡ dscbs_for (length v.free.items) = entries_many (heads_of v.geometry) v.free.items in
    room_of cleared 1 (entries_of (heads_of v.geometry) v.free.items) (omega (arith, size, need, all, opens, one, led, clears.size, ap length sets, ap (count_by is_chained) sets))
