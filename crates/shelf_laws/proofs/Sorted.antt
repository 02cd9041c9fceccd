-- A volume whose data sets are put in order.
use Rattle.std.proofs.Common.{◌≡◌, ◌+◌, ◌*◌, ◌/◌, ◌==◌, ◌||◌, max, not, ℕ, cond, List, [], ◌∷◌, length, refl, sym, ◌∙◌, ap, arith}
use Rattle.std.proofs.lemmas.List.Elements.{All-from_recursion, recursion_from_All}
use Rattle.std.proofs.lemmas.List.Sorted.{All-permutation, length_permutation, list_any-IsPermutation, sum_by-IsPermutation}
use Rattle.std.proofs.lemmas.List.Sums.{sum_by-cons}
use Rattle.std.specs.Prelude.{nat_lt, sum_by}
use Rattle.std.specs.List.{AllByRecursion, count_by, range_with_len}
use Rattle.ckd_image.specs.Device.{row_of}
use Rattle.vol_model.specs.declared.contents.DataSet.{DataSet}
use Rattle.vol_model.specs.declared.contents.Run.{Run}
use Rattle.vol_model.specs.declared.contents.Volume.{Volume}
use Rattle.vol_model.specs.Lawful.{OwnsOnce}
use Rattle.vol_model.specs.Order.{in_order}
use Rattle.vol_model.specs.Slots.{slots_for, slots_needed}
use Rattle.vol_model.specs.Space.{covers, free_runs, is_in, is_unowned, runs_of, usable_cylinders}
use Rattle.vol_model.proofs.InOrder.{in_order-permutation}
use Rattle.shelf_laws.proofs.SetChanges.{filter_same}
use Rattle.shelf_laws.proofs.Tracks.{extents_of, owners, owners-append, owners-cons}

-- the volume with its data sets in order
abbrev pub sorted : Volume → Volume
sorted volume = record volume { sets = in_order volume.sets }

pub sorted_all : (P : DataSet → Type 0) (sets : List DataSet) → AllByRecursion P sets → AllByRecursion P (in_order sets)
sorted_all P sets all = recursion_from_All P (in_order sets) (All-permutation P sets (in_order sets) (in_order-permutation sets) (All-from_recursion P sets all))

module _ (t : ℕ) where
  pub by_sets : (sets : List DataSet) → owners t (extents_of sets) ≡ sum_by (λ (x : DataSet). owners t x.extents) sets
  by_sets [] = refl
  by_sets (x ∷ sets) = owners-append t x.extents (extents_of sets) ∙ ap (λ (n : ℕ). owners t x.extents + n) (by_sets sets) ∙ sym (sum_by-cons (λ (x : DataSet). owners t x.extents) x sets)

  sorted_owners : (sets : List DataSet) → owners t (extents_of (in_order sets)) ≡ owners t (extents_of sets)
  sorted_owners sets = by_sets (in_order sets) ∙ sum_by-IsPermutation (λ (x : DataSet). owners t x.extents) sets (in_order sets) (in_order-permutation sets) ∙ sym (by_sets sets)

pub sorted_owned : (volume : Volume) → OwnsOnce volume → OwnsOnce (sorted volume)
sorted_owned volume once t =
    let zero_run : Run = record { start = 0; len = 1 } in
    let a = owners-cons t zero_run (volume.vtoc ∷ extents_of (in_order volume.sets)) in
    let b = owners-cons t volume.vtoc (extents_of (in_order volume.sets)) in
    let c = owners-cons t zero_run (volume.vtoc ∷ extents_of volume.sets) in
    let d = owners-cons t volume.vtoc (extents_of volume.sets) in
    let same = sorted_owners t volume.sets in
    let was = once t in
    omega (arith, a, b, c, d, same, was)

sorted_unowned : (volume : Volume) (track : ℕ) → is_unowned (sorted volume) track ≡ is_unowned volume track
sorted_unowned volume track = ap (λ b. not (track == 0 || (is_in track volume.vtoc || b))) (sym (list_any-IsPermutation (λ (x : DataSet). covers x.extents track) volume.sets (in_order volume.sets) (in_order-permutation volume.sets)))

pub sorted_slots : (volume : Volume) → slots_needed (sorted volume) ≡ slots_needed volume
unfolding slots_needed
sorted_slots volume =
    let limit = usable_cylinders volume.geometry * (row_of volume.geometry.device).heads in
    ap (λ (ts : List ℕ). slots_for (length (runs_of ts)) (in_order volume.sets)) (filter_same (is_unowned (sorted volume)) (is_unowned volume) (sorted_unowned volume) (range_with_len 0 limit))
    ∙ ap (λ (n : ℕ). 1 + max 1 ((length (free_runs volume) + 25) / 26) + n + count_by (λ (x : DataSet). nat_lt 3 (length x.extents)) (in_order volume.sets)) (length_permutation volume.sets (in_order volume.sets) (in_order-permutation volume.sets))
    ∙ ap (λ (n : ℕ). 1 + max 1 ((length (free_runs volume) + 25) / 26) + length volume.sets + n) (sum_by-IsPermutation (λ (x : DataSet). cond (nat_lt 3 (length x.extents)) 1 0) volume.sets (in_order volume.sets) (in_order-permutation volume.sets))
