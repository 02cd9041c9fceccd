-- A settled VTOC that has the slots that a volume with a new data set needs has as many open ones as the set takes.
use Rattle.std.proofs.Common.{◌≡◌, ◌+◌, ◌≤◌, ℕ, zero, suc, max, ◌/◌, Bool, true, false, not, ◌||◌, ◌&&◌, List, [], ◌∷◌, length, Some, refl, sym, ap, ◌∙◌, arith}
use Rattle.std.specs.Prelude.{Ok, count_by, nat_lt, slice_get}
use Rattle.std.specs.List.{filter_map, list_all, sum_by}
use Rattle.std.specs.Option.{option_map}
use Rattle.std.proofs.lemmas.List.{length-map}
use Rattle.std.proofs.lemmas.List.Sorted.{length_permutation, sum_by-IsPermutation}
use Rattle.dscb_codec.specs.declared.Dscb.{Dscb}
use Rattle.dscb_codec.specs.declared.Dscb.TheVariants as formats
use Rattle.dscb_codec.specs.declared.F1.{F1}
use Rattle.ebcdic_names.specs.declared.names.Dsn.{Dsn}
use Rattle.pack_spec.specs.declared.slot.VtocSlot.{VtocSlot}
use Rattle.pack_spec.specs.Rules.{counted_extents, is_chained, is_f3, set_in}
use Rattle.pack_spec.specs.Settled.{AreSettled, is_used}
use Rattle.pack_spec.specs.Blocks.{data_tracks}
use Rattle.pack_spec.specs.Volume.{data_set_of, data_sets_in, volume_by, volume_with}
use Rattle.pack_spec.specs.Vtoc.{run_of_extent}
use Rattle.pack_spec.proofs.AddressesApart.{slots_apart}
use Rattle.vol_model.specs.declared.contents.Attr.{Attr}
use Rattle.vol_model.specs.declared.contents.DataSet.{DataSet}
use Rattle.vol_model.specs.declared.contents.Run.{Run}
use Rattle.vol_model.specs.declared.contents.Volume.{Volume}
use Rattle.vol_model.specs.declared.requests.Request.{Request}
use Rattle.vol_model.specs.Order.{in_order}
use Rattle.vol_model.specs.Shelf.{with_new}
use Rattle.vol_model.specs.Slots.{slots_needed}
use Rattle.vol_model.specs.Space.{free_runs}
use Rattle.vol_model.proofs.InOrder.{in_order-permutation}
use Rattle.vtoc_index.specs.declared.vol.Vol.{Vol}
use Rattle.vtoc_index.specs.Index.{IsMounted, address_in}
use Rattle.vtoc_index.proofs.HeldDscbs.{dscbs_many}
use Rattle.free_rebuild.specs.Clearing.{is_pointed}
use Rattle.free_rebuild.proofs.AddressLemmas.{held_slots}
use Rattle.free_rebuild.proofs.ChainLemmas.{get_some}
use Rattle.free_rebuild.proofs.ClearSteps.{used_pointed}
use Rattle.free_rebuild.proofs.NeededSlots.{AreNamedApart, fours_few, kinds, opens_behind, sets_in, thirds_led}
use Rattle.free_rebuild.proofs.RoomThere.{count_weaker, four_alone, many_extents, set_stands, sets_held}
use Rattle.free_rebuild.proofs.StandLemmas.{has_front}
use Rattle.dadsm_ops.specs.Allocating.{open_slots, own_slots}
use Rattle.dadsm_ops.proofs.NewVolumes.{has_third, needed_new, taken_sum, takes}
use Rattle.slot_laws.proofs.StandingPuts.{slots_by}

all_at : (p : VtocSlot → Bool) (xs : List VtocSlot) (k : ℕ) (s : VtocSlot) → list_all p xs ≡ true → slice_get xs k ≡ Some s → p s ≡ true
all_at p [] k s all at = cc
all_at p (x ∷ xs) zero s all at = let same : x ≡ s = cc in ap p (sym same) ∙ first (p x) (list_all p xs) all
  where
    first : (a b : Bool) → (a && b) ≡ true → a ≡ true
    first true b e = refl
    first false b e = e
all_at p (x ∷ xs) (suc k) s all at = all_at p xs k s (second (p x) (list_all p xs) all) at
  where
    second : (a b : Bool) → (a && b) ≡ true → b ≡ true
    second true b e = e
    second false b e = cc

module _ (image : List ℕ) (v : Vol) (mounted : IsMounted image v) (few : v.vtoc.start + v.vtoc.len ≤ 65536) where
  abbrev slots : List VtocSlot
  slots = slots_by image v

  abbrev items : List Dscb
  items = v.slots.items

  abbrev at : ℕ → List ℕ
  at = address_in v

  abbrev volume : Volume
  volume = volume_by image v.geometry v.vtoc

  held : (k : ℕ) (d : Dscb) → slice_get items k ≡ Some d → slice_get slots k ≡ Some (record { address = at k; content = Ok d })
  held k d there = held_slots image v mounted.index k ∙ ap (option_map (λ (x : Dscb). record { address = at k; content = Ok x })) there

  apart : AreNamedApart at (length items)
  apart i j one two same =
      let a = get_some items i one in
      let b = get_some items j two in
      slots_apart image v.geometry v.vtoc few i j (record { address = at i; content = Ok a.0 }) (record { address = at j; content = Ok b.0 }) (held i a.0 a.1) (held j b.0 b.1) same

  -- as many sets as format 1 DSCBs, and as many with a second slot as count a pointer
  sets_many : length volume.sets ≡ length (sets_in items)
  unfolding volume_with data_sets_in
  sets_many =
      let fs : List F1 = filter_map (λ (s : VtocSlot). set_in s.content) slots in
      let sets : List DataSet = data_sets_in v.geometry (data_tracks image v.geometry v.vtoc) slots in
      length_permutation sets (in_order sets) (in_order-permutation sets) ∙ length-map fs (data_set_of v.geometry (data_tracks image v.geometry v.vtoc) slots) ∙ ap length (sets_held slots items mounted.index.slots)

  chained_many : count_by is_chained (sets_in items) ≤ sum_by has_third volume.sets
  unfolding volume_with data_sets_in data_set_of
  chained_many =
      let fs : List F1 = filter_map (λ (s : VtocSlot). set_in s.content) slots in
      let sets : List DataSet = data_sets_in v.geometry (data_tracks image v.geometry v.vtoc) slots in
      let more : count_by is_chained fs ≤ count_by (λ (x : DataSet). nat_lt 3 (length x.extents)) sets = count_weaker is_chained (λ (x : DataSet). nat_lt 3 (length x.extents)) (data_set_of v.geometry (data_tracks image v.geometry v.vtoc) slots) fs (λ i f is chained.
      ap (nat_lt 3) (length-map (counted_extents slots f) (run_of_extent v.geometry)) ∙ many_extents image v mounted f (set_stands slots i f is) chained) in
      let ordered : sum_by has_third volume.sets ≡ sum_by has_third sets = sum_by-IsPermutation has_third sets (in_order sets) (in_order-permutation sets) in
      omega (arith, more, ordered, ap (count_by is_chained) (sets_held slots items mounted.index.slots))

  slots_many : length items ≡ volume.slots
  unfolding volume_with
  slots_many = dscbs_many items slots mounted.index.slots

  -- each format 3 is led to
  module _ (settled : AreSettled slots volume) where
    led : (k : ℕ) (d : Dscb) → slice_get items k ≡ Some d → is_f3 (Ok d) ≡ true → is_pointed items (at k) ≡ true
    led k d there third =
        let s : VtocSlot = record { address = at k; content = Ok d } in
        let used : (not (is_f3 (Ok d)) || is_used slots s) ≡ true = all_at (λ (t : VtocSlot). not (is_f3 t.content) || is_used slots t) slots k s settled.used (held k d there) in
        sym (used_pointed at slots items s (held_slots image v mounted.index) third) ∙ sym (ap (λ (b : Bool). not b || is_used slots s) third) ∙ used

    -- So there are as many open slots.
    pub open_room : (dsn : Dsn) (attr : Attr) (q : Request) (dir : ℕ) (runs : List Run) → slots_needed (with_new dsn attr q dir volume runs) ≤ volume.slots → own_slots runs ≤ open_slots items
    open_room dsn attr q dir runs fits =
        let front = has_front image v mounted in
        let chained = thirds_led at items apart led in
        let one = fours_few items (λ k d there. four_alone v.geometry slots k (record { address = at (suc k); content = Ok d }) mounted.lawful (held (suc k) d there)) in
        let opens = opens_behind items (formats.F4 front.head) front.one front.four refl front.second front.opened in
        let need = needed_new dsn attr q dir volume runs in
        let sum = taken_sum volume.sets in
        let all = kinds items in
        let chain = some ((length (free_runs (with_new dsn attr q dir volume runs)) + 25) / 26) in
        omega (arith, chained, one, opens, need, sum, all, chain, fits, sets_many, chained_many, slots_many)
      where
        some : (n : ℕ) → 1 ≤ max 1 n
        some n = omega arith

    -- The same of any slots that are needed besides those that the sets take.
    pub more_room : (q extra needed : ℕ) → needed ≡ 1 + max 1 q + (sum_by takes volume.sets + extra) → needed ≤ volume.slots → extra ≤ open_slots items
    more_room q extra needed need fits =
        let front = has_front image v mounted in
        let chained = thirds_led at items apart led in
        let one = fours_few items (λ k d there. four_alone v.geometry slots k (record { address = at (suc k); content = Ok d }) mounted.lawful (held (suc k) d there)) in
        let opens = opens_behind items (formats.F4 front.head) front.one front.four refl front.second front.opened in
        let sum = taken_sum volume.sets in
        let all = kinds items in
        let chain : 1 ≤ max 1 q = omega arith in
        omega (arith, chained, one, opens, need, sum, all, chain, fits, sets_many, chained_many, slots_many)
