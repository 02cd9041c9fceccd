-- A volume of which a data set has another name owns the same tracks and needs the same slots, so it breaks the same rules.
use Rattle.std.proofs.Common.{◌≡◌, ℕ, ◌+◌, ◌*◌, ◌/◌, max, Bool, true, false, cond, not, List, [], ◌∷◌, ◌++◌, length, map, filter, nat_le, nat_lt, refl, sym, ap, ap₂, ◌∙◌}
use Rattle.std.specs.List.{count_by, flat_map, range_with_len}
use Rattle.std.proofs.lemmas.List.{length-map}
use Rattle.std.proofs.lemmas.List.Sorted.{length_permutation, sum_by-IsPermutation}
use Rattle.std.proofs.lemmas.List.Sums.{sum_by-cons}
use Rattle.ckd_image.specs.Device.{row_of}
use Rattle.ebcdic_names.specs.declared.names.Dsn.{Dsn}
use Rattle.pack_spec.specs.declared.MountErr.{MountErr}
use Rattle.pack_spec.specs.declared.MountErr.TheVariants.{Overlap, VtocFull}
use Rattle.pack_spec.specs.Label.{tracks_of}
use Rattle.pack_spec.specs.Owned.{overlap_faults, room_faults, volume_faults}
use Rattle.pack_spec.proofs.OwnedRuns.{covers_owners, owners_permuted, unowned_covers}
use Rattle.vol_model.specs.declared.contents.DataSet.{DataSet}
use Rattle.vol_model.specs.declared.contents.Run.{Run}
use Rattle.vol_model.specs.declared.contents.Volume.{Volume}
use Rattle.vol_model.specs.Lawful.{owned_runs}
use Rattle.vol_model.specs.Order.{in_order}
use Rattle.vol_model.specs.Shelf.{has_name, renamed, with_name}
use Rattle.vol_model.specs.Slots.{slots_for, slots_needed}
use Rattle.vol_model.specs.Space.{free_runs, is_in, is_unowned, runs_of, usable_cylinders}
use Rattle.vol_model.proofs.InOrder.{in_order-permutation}

module _ (old : List ℕ) (new : Dsn) where
  same_extents : (x : DataSet) → (with_name old new x).extents ≡ x.extents
  same_extents x = by_test (has_name old x)
    where
      by_test : (b : Bool) → (cond b (record x { name = new }) x).extents ≡ x.extents
      by_test true = refl
      by_test false = refl

  extents_alike : (xs : List DataSet) → flat_map (λ (x : DataSet). x.extents) (map (with_name old new) xs) ≡ flat_map (λ (x : DataSet). x.extents) xs
  extents_alike [] = refl
  extents_alike (x ∷ xs) = ap₂ (λ (a b : List Run). a ++ b) (same_extents x) (extents_alike xs)

  -- so many sets have a second slot
  abbrev seconds : List DataSet → ℕ
  seconds xs = count_by (λ (x : DataSet). nat_lt 3 (length x.extents)) xs

  seconds_alike : (xs : List DataSet) → seconds (map (with_name old new) xs) ≡ seconds xs
  seconds_alike [] = refl
  seconds_alike (x ∷ xs) =
      sum_by-cons (λ (y : DataSet). cond (nat_lt 3 (length y.extents)) 1 0) (with_name old new x) (map (with_name old new) xs)
      ∙ ap₂ (λ (rs : List Run) (n : ℕ). cond (nat_lt 3 (length rs)) 1 0 + n) (same_extents x) (seconds_alike xs)
      ∙ sym (sum_by-cons (λ (y : DataSet). cond (nat_lt 3 (length y.extents)) 1 0) x xs)

  slots_alike : (runs : ℕ) (xs : List DataSet) → slots_for runs (in_order (map (with_name old new) xs)) ≡ slots_for runs xs
  slots_alike runs xs =
      let ys : List DataSet = map (with_name old new) xs in
      let moved = in_order-permutation ys in
      let many : length (in_order ys) ≡ length xs = length_permutation ys (in_order ys) moved ∙ length-map xs (with_name old new) in
      let second : seconds (in_order ys) ≡ seconds xs = sum_by-IsPermutation (λ (y : DataSet). cond (nat_lt 3 (length y.extents)) 1 0) ys (in_order ys) moved ∙ seconds_alike xs in
      ap₂ (λ (n m : ℕ). 1 + max 1 ((runs + 25) / 26) + n + m) many second

  module _ (volume : Volume) where
    -- how many runs have a track
    owners_alike : (t : ℕ) → count_by (is_in t) (owned_runs (renamed volume old new)) ≡ count_by (is_in t) (owned_runs volume)
    unfolding renamed
    owners_alike t =
        let ys : List DataSet = map (with_name old new) volume.sets in
        owners_permuted t volume.vtoc ys (in_order ys) (in_order-permutation ys)
        ∙ ap (λ (rs : List Run). count_by (is_in t) (record { start = 0; len = 1 } ∷ volume.vtoc ∷ rs)) (extents_alike volume.sets)

    -- the free tracks, and the runs of them
    unowned_alike : (t : ℕ) → is_unowned (renamed volume old new) t ≡ is_unowned volume t
    unowned_alike t =
        unowned_covers (renamed volume old new) t
        ∙ ap not (covers_owners t (owned_runs (renamed volume old new)) ∙ ap (nat_lt 0) (owners_alike t) ∙ sym (covers_owners t (owned_runs volume)))
        ∙ sym (unowned_covers volume t)

    abbrev runs_by : (ℕ → Bool) → List Run
    runs_by p = runs_of (filter p (range_with_len 0 (usable_cylinders volume.geometry * (row_of volume.geometry.device).heads)))

    pub runs_alike : free_runs (renamed volume old new) ≡ free_runs volume
    unfolding renamed
    runs_alike = ap runs_by (λ i t. unowned_alike t i)

    needed_alike : slots_needed (renamed volume old new) ≡ slots_needed volume
    unfolding slots_needed renamed
    needed_alike =
        ap (λ (rs : List Run). slots_for (length rs) (in_order (map (with_name old new) volume.sets))) runs_alike ∙ slots_alike (length (free_runs volume)) volume.sets

    overlaps_alike : overlap_faults (renamed volume old new) ≡ overlap_faults volume
    unfolding overlap_faults renamed
    overlaps_alike = ap (λ (p : ℕ → Bool). map Overlap (filter p (range_with_len 0 (tracks_of volume.geometry)))) (λ i t. nat_le 2 (owners_alike t i))

    room_alike : room_faults (renamed volume old new) ≡ room_faults volume
    unfolding room_faults renamed
    room_alike = ap (λ (n : ℕ). cond (nat_lt volume.slots n) (VtocFull n ∷ []) []) needed_alike

    -- The volume breaks the same rules under the new name.
    pub volume_alike : volume_faults (renamed volume old new) ≡ volume_faults volume
    unfolding volume_faults
    volume_alike = ap₂ (λ (a b : List MountErr). a ++ b) overlaps_alike room_alike
