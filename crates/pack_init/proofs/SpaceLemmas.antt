-- The free tracks of a new volume, and the rules that it keeps.
use Rattle.std.proofs.Common.{◌≡◌, ◌≤◌, ◌+◌, ◌-◌, ◌*◌, ◌/◌, ℕ, zero, suc, Bool, false, List, [], ◌∷◌, ◌++◌, filter, map, length, max, ap, ap₂, refl, ◌∙◌, arith, if◌then◌else◌}
use Rattle.std.specs.Prelude.{nat_lt}
use Rattle.std.specs.List.{range_with_len}
use Rattle.std.proofs.Math.Nat.{mul-le-mul_right}
use Rattle.std.proofs.lemmas.Bool.Decides.{nat_tests}
use Rattle.ckd_image.specs.declared.header.Geometry.{Geometry}
use Rattle.ckd_image.specs.Device.{row_of}
use Rattle.vol_model.specs.declared.contents.Run.{Run}
use Rattle.vol_model.specs.declared.contents.Volume.{Volume}
use Rattle.vol_model.specs.Slots.{slots_needed}
use Rattle.vol_model.specs.Space.{AreRunsOf, free_runs, is_unowned, runs_of, usable_cylinders}
use Rattle.vol_model.proofs.FreeRuns.{AreRunsOf-runs_of}
use Rattle.pack_spec.specs.declared.MountErr.{MountErr}
use Rattle.pack_spec.specs.declared.MountErr.TheVariants.{Overlap, VtocFull}
use Rattle.pack_spec.specs.Label.{heads_of, tracks_of}
use Rattle.pack_spec.specs.New.{IsNewPack, new_slots, new_volume}
use Rattle.pack_spec.specs.Owned.{is_owned_twice, overlap_faults, room_faults, volume_faults}
use Rattle.pack_init.proofs.ReadLemmas.{some_slots}

-- nothing passes a test that is false
filter_none : (p : ℕ → Bool) → ((t : ℕ) → p t ≡ false) → (xs : List ℕ) → filter p xs ≡ []
filter_none p none [] = refl
filter_none p none (x ∷ xs) = rw (none x) (filter_none p none xs)

-- the tracks after the VTOC, if there are any
unfoldable pub spaces : ℕ → ℕ → List Run
spaces n zero = []
spaces n (suc k) = record { start = n + 1; len = suc k } ∷ []

module _ (g : Geometry) (serial : List ℕ) (n : ℕ) (pack : IsNewPack g n) where
  abbrev volume : Volume
  volume = new_volume g serial n

  -- no track is owned twice
  once : (t : ℕ) → is_owned_twice volume t ≡ false
  once t = grind (arith, nat_tests)

  none_overlaps : overlap_faults volume ≡ []
  unfolding overlap_faults
  none_overlaps = ap (map Overlap) (filter_none (is_owned_twice volume) once (range_with_len 0 (tracks_of g)))

  usable : usable_cylinders g ≡ g.cylinders
  usable = omega (arith, pack.primary)

  free_are : (k : ℕ) → tracks_of g ≡ n + 1 + k → AreRunsOf (is_unowned volume) (tracks_of g) (spaces n k)
  unfolding spaces
  free_are zero e = record { maximal = tt; within = tt; same = λ t below. grind (arith, nat_tests) }
  free_are (suc k) e = record { maximal = (omega arith, omega arith, tt); within = (omega arith, tt); same = λ t below. grind (arith, nat_tests) }

  few_spaces : (k : ℕ) → length (spaces n k) ≤ 1
  unfolding spaces
  few_spaces zero = omega arith
  few_spaces (suc k) = omega arith

  pub free_runs_are : free_runs volume ≡ spaces n (tracks_of g - (n + 1))
  free_runs_are =
      let k = tracks_of g - (n + 1) in
      let number : tracks_of g ≡ n + 1 + k = omega (arith, pack.room) in
      ap (λ (c : ℕ). runs_of (filter (is_unowned volume) (range_with_len 0 (c * heads_of g)))) usable ∙ AreRunsOf-runs_of (is_unowned volume) (tracks_of g) (spaces n k) (free_are k number)

  few_runs : length (free_runs volume) ≤ 1
  few_runs = omega (arith, ap length free_runs_are, few_spaces (tracks_of g - (n + 1)))

  needed : slots_needed volume ≡ 2
  unfolding slots_needed
  needed = two (length (free_runs volume)) few_runs
    where
      two : (l : ℕ) → l ≤ 1 → 1 + max 1 ((l + 25) / 26) + 0 + 0 ≡ 2
      two zero few = refl
      two (suc zero) few = refl
      two (suc (suc l)) few = absurd (omega arith)

  has_room : room_faults volume ≡ []
  unfolding room_faults
  has_room =
      let d = (row_of g.device).dscbs_per_track in
      let many : 2 ≤ n * d = omega (arith, some_slots g.device, mul-le-mul_right {m = 1} {n = n} d pack.first) in
      let fits : nat_lt (new_slots g n) (slots_needed volume) ≡ false = ap (nat_lt (new_slots g n)) needed ∙ not_below (n * d) many in
      ap (λ (t : Bool). if t then VtocFull (slots_needed volume) ∷ [] else []) fits
    where
      not_below : (m : ℕ) → 2 ≤ m → nat_lt m 2 ≡ false
      not_below m many = grind (arith, nat_tests)

  pub none_broken : volume_faults volume ≡ []
  unfolding volume_faults
  none_broken = ap₂ (λ (x y : List MountErr). x ++ y) none_overlaps has_room
