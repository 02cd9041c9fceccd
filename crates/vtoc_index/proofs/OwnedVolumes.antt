-- The rules on a volume as a whole, by the runs that its data sets own in the order of their slots.
use Rattle.std.proofs.Common.{◌≡◌, ℕ, zero, suc, ◌+◌, ◌*◌, ◌/◌, ◌<◌, ◌≤◌, Bool, true, false, cond, not, List, [], ◌∷◌, ◌++◌, length, map, filter, nat_le, nat_lt, Option, Some, None, refl, sym, ap, subst, ◌∙◌, arith, inl, inr}
use Rattle.std.specs.Prelude.{◌==◌, max, slice_get}
use Rattle.std.specs.List.{All, AllByRecursion, count_by, flat_map, list_any, range_with_len}
use Rattle.std.specs.List.Sorted.{IsPermutation}
use Rattle.std.specs.Option.{option_map}
use Rattle.std.proofs.Math.Nat.{mul-le-mul_right}
use Rattle.std.proofs.lemmas.Bool.Decides.{nat_tests, eqb_tells, leb_tells}
use Rattle.std.proofs.lemmas.List.Elements.{All-from_recursion}
use Rattle.std.proofs.lemmas.List.Sorted.{length_permutation, list_any-IsPermutation, sum_by-IsPermutation}
use Rattle.std.proofs.lemmas.List.Sums.{sum_by-cons}
use Rattle.std.proofs.lemmas.Option.{slice_get-map}
use Rattle.ckd_image.specs.declared.header.Geometry.{Geometry}
use Rattle.ckd_image.specs.declared.device.DiskType.{DiskType}
use Rattle.ckd_image.specs.declared.device.DiskType.TheVariants.{D2311, D2314, D3330, D3350}
use Rattle.ckd_image.specs.Device.{row_of}
use Rattle.ckd_image.specs.Header.{HasGeometry}
use Rattle.vol_model.specs.declared.contents.DataSet.{DataSet}
use Rattle.vol_model.specs.declared.contents.Run.{Run}
use Rattle.vol_model.specs.declared.contents.Volume.{Volume}
use Rattle.vol_model.specs.Lawful.{IsOnPack, owned_runs}
use Rattle.vol_model.specs.Order.{in_order}
use Rattle.vol_model.specs.Slots.{slots_needed}
use Rattle.vol_model.specs.Space.{AreApartFrom, AreMaximal, AreRunsOf, EndBy, covers, free_runs, is_in, is_unowned, usable_cylinders}
use Rattle.vol_model.proofs.FreeRuns.{AreRunsOf-runs_of, AreRunsOf-same, EndBy-higher}
use Rattle.vol_model.proofs.InOrder.{in_order-permutation}
use Rattle.pack_spec.specs.declared.MountErr.{MountErr}
use Rattle.pack_spec.specs.declared.MountErr.TheVariants.{Overlap, VtocFull}
use Rattle.pack_spec.specs.declared.slot.VtocSlot.{VtocSlot}
use Rattle.pack_spec.specs.Label.{tracks_of}
use Rattle.pack_spec.specs.Owned.{is_owned_twice, overlap_faults, room_faults, volume_faults}
use Rattle.pack_spec.specs.Volume.{data_sets_in, volume_with}
use Rattle.pack_spec.proofs.FirstFaults.{first_append-some}
use Rattle.pack_spec.proofs.OwnedRuns.{covers_owners, owners_permuted, runs_owned, unowned_covers}
use Rattle.space_alloc.specs.Owned.{IsLowestTwice}

-- runs on the pack end by its tracks, and each has one
pub runs_end : (g : Geometry) (rs : List Run) → AllByRecursion (IsOnPack g) rs → EndBy (tracks_of g) rs
runs_end g [] all = tt
runs_end g (r ∷ rs) all = (all.0.1, runs_end g rs all.1)

pub runs_some : (g : Geometry) (rs : List Run) → AllByRecursion (IsOnPack g) rs → All (λ (r : Run). 1 ≤ r.len) rs
runs_some g rs all = All-from_recursion (λ (r : Run). 1 ≤ r.len) rs (each rs all)
  where
    each : (ss : List Run) → AllByRecursion (IsOnPack g) ss → AllByRecursion (λ (r : Run). 1 ≤ r.len) ss
    each [] a = tt
    each (s ∷ ss) a = (a.0.0, each ss a.1)

-- no run that ends by a track has it, or one after it
beyond : (t : ℕ) (r : Run) → r.start + r.len ≤ t → is_in t r ≡ false
beyond t r l = grind (arith, nat_tests)

count_beyond : (limit t : ℕ) (rs : List Run) → EndBy limit rs → limit ≤ t → count_by (is_in t) rs ≡ 0
count_beyond limit t [] e l = refl
count_beyond limit t (r ∷ rs) e l =
    let out : is_in t r ≡ false = beyond t r (omega (arith, e.0, l)) in
    sum_by-cons (λ (x : Run). cond (is_in t x) 1 0) r rs ∙ rw (out, count_beyond limit t rs e.1 l) refl

-- the first number that passes a test
first_kept : (p : ℕ → Bool) (n low t : ℕ) → low ≤ t → t < low + n → p t ≡ true → ((u : ℕ) → low ≤ u → u < t → p u ≡ false) → slice_get (filter p (range_with_len low n)) 0 ≡ Some t
first_kept p zero low t le less passes before = absurd (omega (arith, le, less))
first_kept p (suc n) low t le less passes before = elim (eqb_tells low t) [
  | inl w ↦
      let here : p low ≡ true = ap p w.1 ∙ passes in
      ap (λ (b : Bool). slice_get (cond b (low ∷ filter p (range_with_len (low + 1) n)) (filter p (range_with_len (low + 1) n))) 0) here ∙ ap Some w.1
  | inr w ↦
      let apart : low < t = other low t le w.0 in
      let here : p low ≡ false = before low (omega arith) apart in
      ap (λ (b : Bool). slice_get (cond b (low ∷ filter p (range_with_len (low + 1) n)) (filter p (range_with_len (low + 1) n))) 0) here
      ∙ first_kept p n (low + 1) t (omega (arith, apart)) (omega (arith, less)) passes (λ u l m. before u (omega (arith, l)) m)
]
  where
    other : (a b : ℕ) → a ≤ b → (a == b) ≡ false → a < b
    other a b l e = grind (arith, nat_tests)

none_kept : (p : ℕ → Bool) (n low : ℕ) → ((u : ℕ) → p u ≡ false) → filter p (range_with_len low n) ≡ []
none_kept p zero low fails = refl
none_kept p (suc n) low fails = ap (λ (b : Bool). cond b (low ∷ filter p (range_with_len (low + 1) n)) (filter p (range_with_len (low + 1) n))) (fails low) ∙ none_kept p n (low + 1) fails

at_most_one : (n : ℕ) → n ≤ 1 → nat_le 2 n ≡ false
at_most_one n l = grind (arith, nat_tests)

at_least_two : (n : ℕ) → 2 ≤ n → nat_le 2 n ≡ true
at_least_two n l = grind (arith, nat_tests)

-- maximal runs have room between them
apart_few : (low limit : ℕ) (rs : List Run) → AreApartFrom low rs → EndBy limit rs → 0 < length rs → low + 2 * length rs ≤ limit + 1
apart_few low limit [] a e some = absurd (omega (arith, some))
apart_few low limit (r ∷ []) a e some = omega (arith, a.0, a.1, e.0)
apart_few low limit (r ∷ s ∷ rs) a e some = omega (arith, a.0, a.1, apart_few (r.start + r.len + 1) limit (s ∷ rs) a.2 e.1 (omega arith))

module _ (g : Geometry) (tracks : List (List ℕ)) (label : List ℕ) (vtoc : Run) (ss : List VtocSlot) where
  abbrev meant : Volume
  meant = volume_with g tracks label vtoc ss

  abbrev sets : List DataSet
  sets = data_sets_in g tracks ss

  abbrev runs : List Run
  runs = runs_owned vtoc sets

  geometry_is : meant.geometry ≡ g
  unfolding volume_with
  geometry_is = refl

  slots_are : meant.slots ≡ length ss
  unfolding volume_with
  slots_are = refl

  -- as many runs have a track, in whatever order the data sets stand
  owners_are : (t : ℕ) → count_by (is_in t) (owned_runs meant) ≡ count_by (is_in t) runs
  unfolding volume_with
  owners_are t = owners_permuted t vtoc sets (in_order sets) (in_order-permutation sets)

  -- the lowest track that two have is the first fault
  pub first_twice : (track : ℕ) → EndBy (tracks_of g) runs → IsLowestTwice runs (Some track) → slice_get (volume_faults meant) 0 ≡ Some (Overlap track)
  unfolding volume_faults overlap_faults
  first_twice track ends low =
      let inside : track < tracks_of g = elim (leb_tells (suc track) (tracks_of g)) [
        | inl w ↦ omega (arith, w.1)
        | inr w ↦ absurd (omega (arith, low.0, count_beyond (tracks_of g) track runs ends (omega (arith, w.1))))
      ] in
      let p : ℕ → Bool = is_owned_twice meant in
      let here : p track ≡ true = at_least_two _ (omega (arith, low.0, owners_are track)) in
      let kept : slice_get (filter p (range_with_len 0 (tracks_of meant.geometry))) 0 ≡ Some track =
      ap (λ (h : Geometry). slice_get (filter p (range_with_len 0 (tracks_of h))) 0) geometry_is
      ∙ first_kept p (tracks_of g) 0 track (omega arith) (omega (arith, inside)) here (λ u l m. at_most_one _ (omega (arith, low.1 u m, owners_are u))) in
      sym (first_append-some (overlap_faults meant) (room_faults meant) (Overlap track) (sym (slice_get-map Overlap (filter p (range_with_len 0 (tracks_of meant.geometry))) 0 ∙ ap (option_map Overlap) kept)))

  -- where no two have one, none is
  none_twice : IsLowestTwice runs None → overlap_faults meant ≡ []
  unfolding overlap_faults
  none_twice low = ap (map Overlap) (none_kept (is_owned_twice meant) (tracks_of meant.geometry) 0 (λ u. at_most_one _ (omega (arith, low u, owners_are u))))

  -- the slots that are needed
  pub needed_are : (free : List Run) (slots : ℕ) → free ≡ free_runs meant → slots ≡ length sets + count_by (λ (x : DataSet). nat_lt 3 (length x.extents)) sets → 1 + max 1 ((length free + 25) / 26) + slots ≡ slots_needed meant
  unfolding slots_needed volume_with
  needed_are free slots is count =
      let moved = in_order-permutation sets in
      let many : length (in_order sets) ≡ length sets = length_permutation sets (in_order sets) moved in
      let long : count_by (λ (x : DataSet). nat_lt 3 (length x.extents)) (in_order sets) ≡ count_by (λ (x : DataSet). nat_lt 3 (length x.extents)) sets =
      sum_by-IsPermutation (λ (x : DataSet). cond (nat_lt 3 (length x.extents)) 1 0) sets (in_order sets) moved in
      let front : 1 + max 1 ((length free + 25) / 26) ≡ 1 + max 1 ((length (free_runs meant) + 25) / 26) = ap (λ (rs : List Run). 1 + max 1 ((length rs + 25) / 26)) is in
      joined (1 + max 1 ((length free + 25) / 26)) (1 + max 1 ((length (free_runs meant) + 25) / 26)) slots (length sets) (length (in_order sets)) (count_by (λ (x : DataSet). nat_lt 3 (length x.extents)) sets) (count_by (λ (x : DataSet). nat_lt 3 (length x.extents)) (in_order sets)) front count many long
    where
      joined : (a b s m n k l : ℕ) → a ≡ b → s ≡ m + k → n ≡ m → l ≡ k → a + s ≡ b + n + l
      joined a b s m n k l one two three four = omega (arith, one, two, three, four)

  -- more than there are
  pub room_fault : (needed : ℕ) → IsLowestTwice runs None → needed ≡ slots_needed meant → length ss < needed → slice_get (volume_faults meant) 0 ≡ Some (VtocFull needed)
  unfolding volume_faults room_faults
  room_fault needed low is less =
      let few : nat_lt meant.slots (slots_needed meant) ≡ true = ap (λ (n : ℕ). nat_lt n (slots_needed meant)) slots_are ∙ ap (nat_lt (length ss)) (sym is) ∙ holds (length ss) needed less in
      ap (λ (l : List MountErr). slice_get (l ++ cond (nat_lt meant.slots (slots_needed meant)) (VtocFull (slots_needed meant) ∷ []) []) 0) (none_twice low)
      ∙ ap (λ (b : Bool). slice_get (cond b (VtocFull (slots_needed meant) ∷ []) []) 0) few
      ∙ ap (λ (n : ℕ). Some (VtocFull n)) (sym is)
    where
      holds : (a b : ℕ) → a < b → nat_lt a b ≡ true
      holds a b l = grind (arith, nat_tests)

  -- nothing is broken
  pub no_faults : (needed : ℕ) → IsLowestTwice runs None → needed ≡ slots_needed meant → needed ≤ length ss → volume_faults meant ≡ []
  unfolding volume_faults room_faults
  no_faults needed low is enough =
      let few : nat_lt meant.slots (slots_needed meant) ≡ false = ap (λ (n : ℕ). nat_lt n (slots_needed meant)) slots_are ∙ ap (nat_lt (length ss)) (sym is) ∙ fails (length ss) needed enough in
      ap (λ (l : List MountErr). l ++ cond (nat_lt meant.slots (slots_needed meant)) (VtocFull (slots_needed meant) ∷ []) []) (none_twice low)
      ∙ ap (λ (b : Bool). cond b (VtocFull (slots_needed meant) ∷ []) []) few
    where
      fails : (a b : ℕ) → b ≤ a → nat_lt a b ≡ false
      fails a b l = grind (arith, nat_tests)

  -- the free runs
  pub free_are : (free sorted : List Run) → IsPermutation runs sorted → AreRunsOf (λ t. not (covers sorted t)) (usable_cylinders g * (row_of g.device).heads) free → free ≡ free_runs meant
  unfolding volume_with
  free_are free sorted moved are =
      let same : (t : ℕ) → is_unowned meant t ≡ not (covers sorted t) = λ t.
      unowned_covers meant t
      ∙ ap not (covers_owners t (owned_runs meant) ∙ ap (nat_lt 0) (owners_are t) ∙ sym (covers_owners t runs) ∙ list_any-IsPermutation (is_in t) runs sorted moved) in
      sym (AreRunsOf-runs_of (is_unowned meant) (usable_cylinders g * (row_of g.device).heads) free
      (AreRunsOf-same (is_unowned meant) (λ t. not (covers sorted t)) (usable_cylinders g * (row_of g.device).heads) free (λ t l. same t) are))

-- the cylinders that may hold data sets lie on the pack
pub usable_inside : (g : Geometry) (rs : List Run) → EndBy (usable_cylinders g * (row_of g.device).heads) rs → EndBy (tracks_of g) rs
usable_inside g rs ends =
    let fewer : usable_cylinders g ≤ g.cylinders = omega arith in
    EndBy-higher (usable_cylinders g * (row_of g.device).heads) (tracks_of g) rs (mul-le-mul_right {m = usable_cylinders g} {n = g.cylinders} (row_of g.device).heads fewer) ends

-- a pack has few tracks
few_by : (d : DiskType) (n : ℕ) → n ≤ (row_of d).most_cylinders → n * (row_of d).heads ≤ 65535
few_by D2311 n most = omega (arith, most)
few_by D2314 n most = omega (arith, most)
few_by D3330 n most = omega (arith, most)
few_by D3350 n most = omega (arith, most)

pub few_tracks : (g : Geometry) → (len : ℕ) × HasGeometry len g → tracks_of g ≤ 65535
few_tracks g whole = few_by g.device g.cylinders whole.1.most

-- so the numbers of its tracks, and of runs of them, are small
pub owned_small : (g : Geometry) (rs : List Run) → (len : ℕ) × HasGeometry len g → AllByRecursion (IsOnPack g) rs → EndBy 65535 rs
owned_small g rs whole inside = EndBy-higher (tracks_of g) 65535 rs (few_tracks g whole) (runs_end g rs inside)

pub free_small : (g : Geometry) (has : ℕ → Bool) (rs : List Run) → (len : ℕ) × HasGeometry len g → AreRunsOf has (usable_cylinders g * (row_of g.device).heads) rs → length rs ≤ 65535
free_small g has rs whole are =
    let ends = EndBy-higher (tracks_of g) 65535 rs (few_tracks g whole) (usable_inside g rs are.within) in
    runs_few rs are.maximal ends
  where
    runs_few : (ss : List Run) → AreMaximal ss → EndBy 65535 ss → length ss ≤ 65535
    runs_few [] a e = omega arith
    runs_few (s ∷ ss) a e = omega (arith, apart_few 0 65535 (s ∷ ss) a e (omega arith))
