-- The slots that the data sets of a volume take, counted slot by slot.
use Rattle.std.proofs.Common.{◌≡◌, ◌<◌, ◌≤◌, ◌+◌, ◌*◌, ◌/◌, max, ℕ, zero, suc, Bool, true, false, cond, List, [], ◌∷◌, ◌++◌, length, get_or, map, take, Option, Some, None, refl, sym, ap, ◌∙◌, arith}
use Rattle.std.specs.Prelude.{nat_lt, Result, Ok, slice_get}
use Rattle.std.specs.List.{cons_option, count_by, filter_map}
use Rattle.std.proofs.lemmas.Bool.{lt-ltb}
use Rattle.std.proofs.lemmas.Bool.Decides.{nat_tests}
use Rattle.std.proofs.lemmas.List.{take_all, take_more}
use Rattle.std.proofs.lemmas.List.Sorted.{sum_by-IsPermutation}
use Rattle.std.proofs.lemmas.List.Sums.{sum_by-cons}
use Rattle.std.proofs.lemmas.Option.{slice_get-get_or}
use Rattle.ckd_image.specs.declared.header.Geometry.{Geometry}
use Rattle.dscb_codec.specs.declared.Dscb.{Dscb}
use Rattle.dscb_codec.specs.declared.Dscb.TheVariants as formats
use Rattle.dscb_codec.specs.declared.DscbErr.{DscbErr}
use Rattle.dscb_codec.specs.declared.F1.{F1}
use Rattle.pack_spec.specs.declared.slot.VtocSlot.{VtocSlot}
use Rattle.pack_spec.specs.Rules.{set_in}
use Rattle.pack_spec.specs.Slots.{slots_of_vtoc}
use Rattle.pack_spec.specs.Blocks.{data_tracks}
use Rattle.pack_spec.specs.Volume.{data_set_of, data_sets_in, volume_with}
use Rattle.pack_spec.proofs.Lawful.{good_sets}
use Rattle.vol_model.specs.declared.contents.DataSet.{DataSet}
use Rattle.vol_model.specs.declared.contents.Run.{Run}
use Rattle.vol_model.specs.Order.{in_order}
use Rattle.vol_model.specs.Slots.{slots_needed}
use Rattle.vol_model.specs.Space.{free_runs}
use Rattle.vol_model.proofs.InOrder.{in_order-permutation}
use Rattle.vtoc_index.specs.Index.{IsMounted}
use Rattle.vtoc_index.specs.declared.vol.Vol.{Vol}
use Rattle.vtoc_index.proofs.HeldDscbs.{dscbs_many}
use Rattle.vtoc_sets.specs.Sets.{TakesSlots, slots_taken, volume_in}
use Rattle.vtoc_sets.proofs.SlotAddresses.{slot_content}

-- the slots of one data set
abbrev taken : DataSet → ℕ
taken x = cond (nat_lt 3 (length x.extents)) 2 1

-- a fourth extent is there, or not
pub two_slots : (xs : List Run) (r : Run) → Some r ≡ slice_get xs 3 → ◌≡◌ {A = ℕ} 2 (cond (nat_lt 3 (length xs)) 2 1)
two_slots xs r is = sym (ap (λ (b : Bool). cond b 2 1) (lt-ltb 3 (length xs) (within xs 3 r (sym is))))
  where
    within : (xs : List Run) (k : ℕ) (r : Run) → slice_get xs k ≡ Some r → k < length xs
    within [] k r is = cc
    within (x ∷ xs) zero r is = omega arith
    within (x ∷ xs) (suc k) r is = omega (arith, within xs k r is)

pub one_slot : (xs : List Run) → None ≡ slice_get xs 3 → ◌≡◌ {A = ℕ} 1 (cond (nat_lt 3 (length xs)) 2 1)
one_slot xs is = few (length xs) (past xs 3 (sym is))
  where
    past : (xs : List Run) (k : ℕ) → slice_get xs k ≡ None → length xs ≤ k
    past [] k is = omega arith
    past (x ∷ xs) zero is = cc
    past (x ∷ xs) (suc k) is = omega (arith, past xs k is)

    few : (n : ℕ) → n ≤ 3 → ◌≡◌ {A = ℕ} 1 (cond (nat_lt 3 n) 2 1)
    few n low = grind (arith, nat_tests)

-- the data sets in some slots
abbrev sets_by : Geometry → List (List ℕ) → List VtocSlot → List VtocSlot → List DataSet
sets_by g tracks slots some = map (data_set_of g tracks slots) (filter_map (λ s. set_in s.content) some)

-- The slots that the data sets in the first so many slots take; and there aren't many.
pub record AreTaken (v : Vol) (k n : ℕ) : Type 0 where
  pub few : n ≤ 2 * k
  pub told : (image : List ℕ) → IsMounted image v → n ≡ slots_taken (sets_by v.geometry (data_tracks image v.geometry v.vtoc) (slots_of_vtoc image v.geometry v.vtoc) (take k (slots_of_vtoc image v.geometry v.vtoc)))

-- one slot more
added : (g : Geometry) (tracks : List (List ℕ)) (slots some : List VtocSlot) (s : VtocSlot) → slots_taken (sets_by g tracks slots (some ++ s ∷ [])) ≡ slots_taken (sets_by g tracks slots some) + slots_taken (sets_by g tracks slots (s ∷ []))
added g tracks slots [] s = omega arith
added g tracks slots (x ∷ some) s = one (set_in x.content) (added g tracks slots some s)
  where
    one : (o : Option F1) → slots_taken (sets_by g tracks slots (some ++ s ∷ [])) ≡ slots_taken (sets_by g tracks slots some) + slots_taken (sets_by g tracks slots (s ∷ []))
        → slots_taken (map (data_set_of g tracks slots) (cons_option o (filter_map (λ t. set_in t.content) (some ++ s ∷ [])))) ≡ slots_taken (map (data_set_of g tracks slots) (cons_option o (filter_map (λ t. set_in t.content) some))) + slots_taken (sets_by g tracks slots (s ∷ []))
    one None rest = rest
    one (Some f) rest =
        sum_by-cons taken (data_set_of g tracks slots f) (sets_by g tracks slots (some ++ s ∷ []))
        ∙ (let here = sum_by-cons taken (data_set_of g tracks slots f) (sets_by g tracks slots some) in omega (arith, rest, here))

-- what one slot takes
alone : (image : List ℕ) (v : Vol) (k n : ℕ) (d : Dscb) (s : VtocSlot) → IsMounted image v → slice_get (slots_of_vtoc image v.geometry v.vtoc) k ≡ Some s → s.content ≡ Ok d → TakesSlots image v d n → n ≡ slots_taken (sets_by v.geometry (data_tracks image v.geometry v.vtoc) (slots_of_vtoc image v.geometry v.vtoc) (s ∷ []))
unfolding data_set_of
alone image v k n d s mounted there content takes =
    by d content takes ∙ sym (ap (λ (c : Result Dscb DscbErr). slots_taken (map (data_set_of v.geometry (data_tracks image v.geometry v.vtoc) (slots_of_vtoc image v.geometry v.vtoc)) (cons_option (set_in c) []))) content)
  where
    by : (d : Dscb) → s.content ≡ Ok d → TakesSlots image v d n → n ≡ slots_taken (map (data_set_of v.geometry (data_tracks image v.geometry v.vtoc) (slots_of_vtoc image v.geometry v.vtoc)) (cons_option (set_in (Ok d)) []))
    by formats.F0 content takes = takes
    by (formats.F1 f) content takes =
        takes (record { mounted = mounted; extents = good_sets v.geometry (slots_of_vtoc image v.geometry v.vtoc) mounted.lawful k s f there (ap set_in content) })
        ∙ sym (sum_by-cons taken (data_set_of v.geometry (data_tracks image v.geometry v.vtoc) (slots_of_vtoc image v.geometry v.vtoc) f) [] ∙ omega arith)
    by (formats.F3 f) content takes = takes
    by (formats.F4 f) content takes = takes
    by (formats.F5 f) content takes = takes

pub taken_more : (v : Vol) (k n m : ℕ) (xs : List Dscb) (e : Dscb) → xs ≡ v.slots.items → AreTaken v k n → k < length xs → m ≤ 2 → ((image : List ℕ) → TakesSlots image v (get_or xs k e) m) → AreTaken v (k + 1) (n + m)
taken_more v k n m xs e same so_far low few takes = record {
  few = omega (arith, so_far.few, few);
  told = λ image mounted.
      let slots : List VtocSlot = slots_of_vtoc image v.geometry v.vtoc in
      let s0 : VtocSlot = record { address = []; content = Ok e } in
      let many : length v.slots.items ≡ length slots = dscbs_many v.slots.items slots mounted.index.slots in
      let below : k < length v.slots.items = omega (arith, low, ap length same) in
      let s : VtocSlot = get_or slots k s0 in
      let there : slice_get slots k ≡ Some s = slice_get-get_or slots k s0 (omega (arith, many, below)) in
      let content : s.content ≡ Ok (get_or xs k e) = slot_content v.slots.items slots k e s mounted.index.slots below there ∙ ap (λ (l : List Dscb). Ok (get_or l k e)) (sym same) in
      let one : m ≡ slots_taken (sets_by v.geometry (data_tracks image v.geometry v.vtoc) slots (s ∷ [])) = alone image v k m (get_or xs k e) s mounted there content (takes image) in
      let before = so_far.told image mounted in
      let next : take (k + 1) slots ≡ take k slots ++ s ∷ [] = take_more slots k s0 (omega (arith, many, below)) in
      let all : slots_taken (sets_by v.geometry (data_tracks image v.geometry v.vtoc) slots (take (k + 1) slots)) ≡ slots_taken (sets_by v.geometry (data_tracks image v.geometry v.vtoc) slots (take k slots)) + slots_taken (sets_by v.geometry (data_tracks image v.geometry v.vtoc) slots (s ∷ [])) =
      ap (λ (l : List VtocSlot). slots_taken (sets_by v.geometry (data_tracks image v.geometry v.vtoc) slots l)) next ∙ added v.geometry (data_tracks image v.geometry v.vtoc) slots (take k slots) s in
      omega (arith, one, before, all);
}

pub taken_all : (v : Vol) (k n : ℕ) → length v.slots.items ≤ k → AreTaken v k n → (image : List ℕ) → IsMounted image v → n ≡ slots_taken (volume_in image v).sets
unfolding volume_with data_sets_in
taken_all v k n past so_far image mounted =
    let slots : List VtocSlot = slots_of_vtoc image v.geometry v.vtoc in
    let many : length v.slots.items ≡ length slots = dscbs_many v.slots.items slots mounted.index.slots in
    so_far.told image mounted
    ∙ ap (λ (l : List VtocSlot). slots_taken (sets_by v.geometry (data_tracks image v.geometry v.vtoc) slots l)) (take_all k slots (omega (arith, many, past)))
    ∙ sym (sum_by-IsPermutation taken (data_sets_in v.geometry (data_tracks image v.geometry v.vtoc) slots) (in_order (data_sets_in v.geometry (data_tracks image v.geometry v.vtoc) slots)) (in_order-permutation (data_sets_in v.geometry (data_tracks image v.geometry v.vtoc) slots)))

-- one for each, and one more for each with more extents
pub taken_apart : (xs : List DataSet) → slots_taken xs ≡ length xs + count_by (λ (x : DataSet). nat_lt 3 (length x.extents)) xs
taken_apart [] = refl
taken_apart (x ∷ xs) =
    let one : (b : Bool) → cond b 2 1 ≡ 1 + cond b 1 0 = λ b. elim b as (λ t. cond t 2 1 ≡ 1 + cond t 1 0) [ true ↦ refl | false ↦ refl ] in
    omega (arith, sum_by-cons taken x xs, sum_by-cons (λ (y : DataSet). cond (nat_lt 3 (length y.extents)) 1 0) x xs, one (nat_lt 3 (length x.extents)), taken_apart xs)

-- The slots that a volume needs, by its free runs and what its data sets take.
pub needed_is : (image : List ℕ) (v : Vol) → IsMounted image v → (runs n : ℕ) → runs ≡ length v.free.items → n ≡ slots_taken (volume_in image v).sets → 1 + max 1 ((runs + 25) / 26) + n ≡ slots_needed (volume_in image v)
unfolding slots_needed
needed_is image v mounted runs n runs_are taken_are =
    let apart = taken_are ∙ taken_apart (volume_in image v).sets in
    let free : runs ≡ length (free_runs (volume_in image v)) = runs_are ∙ ap length mounted.free in
    omega (arith, apart, ap (λ (r : ℕ). 1 + max 1 ((r + 25) / 26)) free)
