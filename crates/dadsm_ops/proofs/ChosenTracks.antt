-- The tracks that are chosen for a new data set: nothing owns them, and each is one of the set's tracks once.
use Rattle.std.proofs.Common.{◌≡◌, ◌⊎◌, ◌+◌, ◌*◌, ◌≤◌, ◌<◌, ℕ, zero, suc, Bool, true, false, ◌&&◌, ◌||◌, not, List, [], ◌∷◌, ◌++◌, length, Some, Ok, inl, inr, refl, arith}
use Rattle.std.specs.Prelude.{slice_get}
use Rattle.std.specs.List.{AllByRecursion, flat_map, range_with_len}
use Rattle.std.proofs.lemmas.Bool.{and_parts}
use Rattle.std.proofs.lemmas.Bool.Decides.{nat_tests}
use Rattle.std.proofs.lemmas.List.Sums.{sum_by-cons}
use Rattle.ckd_image.specs.declared.device.DiskType.{DiskType}
use Rattle.ckd_image.specs.declared.device.DiskType.TheVariants.{D2311, D2314, D3330, D3350}
use Rattle.ckd_image.specs.declared.header.Geometry.{Geometry}
use Rattle.ckd_image.specs.Device.{row_of}
use Rattle.pack_spec.specs.Blocks.{owned_tracks}
use Rattle.pack_spec.specs.Label.{tracks_of}
use Rattle.pack_spec.specs.Slots.{tracks_in}
use Rattle.vol_model.specs.declared.contents.Run.{Run}
use Rattle.vol_model.specs.declared.contents.Volume.{Volume}
use Rattle.hall_core.specs.Facts.{Attached}
use Rattle.space_alloc.specs.declared.extents.Extents.{Extents}
use Rattle.space_alloc.specs.Units.{Chooses, listed}
use Rattle.vol_model.specs.declared.requests.Request.{Request}
use Rattle.vol_model.specs.declared.requests.SpaceUnit.{SpaceUnit}
use Rattle.vol_model.specs.Lawful.{IsOnPack}
use Rattle.vol_model.specs.Places as places
use Rattle.vol_model.specs.Space.{AreRunsOf, AreTaken, EndBy, choice, covers, is_in, is_unowned, usable_cylinders}
use Rattle.vol_model.proofs.Taken.{choice_from-taken}
use Rattle.vtoc_index.specs.declared.vol.Vol.{Vol}
use Rattle.vtoc_index.specs.Index.{IsOfUnit}
use Rattle.dadsm_ops.specs.Allocating.{AreTracksOf}
use Rattle.dadsm_ops.specs.Formatting.{AreSpare}

-- the number of a track in a run
run_at : (a n k t : ℕ) → slice_get (range_with_len a n) k ≡ Some t → (t ≡ a + k) × (k < n)
run_at a zero k t is = cc
run_at a (suc n) zero t is = let same : a ≡ t = cc in (omega (arith, same), omega arith)
run_at a (suc n) (suc k) t is = let rest = run_at (a + 1) n k t is in (omega (arith, rest.0), omega (arith, rest.1))

within : (r : Run) (k t : ℕ) → (t ≡ r.start + k) × (k < r.len) → is_in t r ≡ true
within r k t at = inside t r (omega (arith, at.0)) (omega (arith, at.0, at.1))
  where
    inside : (t : ℕ) (r : Run) → r.start ≤ t → t < r.start + r.len → is_in t r ≡ true
    inside t r low high = grind (arith, nat_tests)

-- what stands in one of two lists
either : (xs ys : List ℕ) (k x : ℕ) → slice_get (xs ++ ys) k ≡ Some x → (slice_get xs k ≡ Some x) ⊎ ((j : ℕ) × (k ≡ length xs + j) × (slice_get ys j ≡ Some x))
either [] ys k x is = inr (k, omega arith, is)
either (y ∷ xs) ys zero x is = inl is
either (y ∷ xs) ys (suc k) x is = elim (either xs ys k x is) [
  | inl w ↦ inl w
  | inr w ↦ inr (w.0, omega (arith, w.1), w.2)
]

-- a track that is taken was there
owned_taken : (has : ℕ → Bool) (es : List Run) → AreTaken has es → (k t : ℕ) → slice_get (owned_tracks es) k ≡ Some t → has t ≡ true
unfolding owned_tracks
owned_taken has [] taken k t is = cc
owned_taken has (e ∷ es) taken k t is = elim (either (tracks_in e) (flat_map tracks_in es) k t is) [
  | inl w ↦ taken.1 t (within e k t (run_at e.start e.len k t w))
  | inr w ↦ (and_parts (has t) (not (is_in t e)) (owned_taken (λ u. has u && not (is_in u e)) es taken.2 w.0 t w.2)).0
]

-- and isn't taken again
not_again : (has : ℕ → Bool) (e : Run) (es : List Run) → AreTaken has (e ∷ es) → (k j t : ℕ) → (t ≡ e.start + k) × (k < e.len) → slice_get (owned_tracks es) j ≡ Some t → ⊥
not_again has e es taken k j t at later = both (is_in t e) (within e k t at) (and_parts (has t) (not (is_in t e)) (owned_taken (λ u. has u && not (is_in u e)) es taken.2 j t later)).1
  where
    both : (b : Bool) → b ≡ true → not b ≡ true → ⊥
    both true is other = cc
    both false is other = cc

taken_apart : (has : ℕ → Bool) (es : List Run) → AreTaken has es → (i j t : ℕ) → slice_get (owned_tracks es) i ≡ Some t → slice_get (owned_tracks es) j ≡ Some t → i ≡ j
unfolding owned_tracks
taken_apart has [] taken i j t one two = cc
taken_apart has (e ∷ es) taken i j t one two = elim (either (tracks_in e) (flat_map tracks_in es) i t one) [
  | inl w ↦ elim (either (tracks_in e) (flat_map tracks_in es) j t two) [
    | inl u ↦ let p = run_at e.start e.len i t w in let q = run_at e.start e.len j t u in omega (arith, p.0, q.0)
    | inr u ↦ absurd (not_again has e es taken i u.0 t (run_at e.start e.len i t w) u.2)
  ]
  | inr w ↦ elim (either (tracks_in e) (flat_map tracks_in es) j t two) [
    | inl u ↦ absurd (not_again has e es taken j w.0 t (run_at e.start e.len j t u) w.2)
    | inr u ↦ let same = taken_apart (λ x. has x && not (is_in x e)) es taken.2 w.0 u.0 t w.2 u.2 in omega (arith, same, w.1, u.1)
  ]
]

heads_some : (d : DiskType) → 0 < (row_of d).heads
heads_some D2311 = omega arith
heads_some D2314 = omega arith
heads_some D3330 = omega arith
heads_some D3350 = omega arith

module _ (volume : Volume) (unit : SpaceUnit) (contig : Bool) (n : ℕ) (runs : List Run) (chosen : choice volume unit contig n ≡ Some runs) where
  taken : AreTaken (is_unowned volume) runs
  unfolding choice
  taken = (choice_from-taken (is_unowned volume) (usable_cylinders volume.geometry) (row_of volume.geometry.device).heads unit contig n runs (heads_some volume.geometry.device) chosen).0

  -- Nothing on the volume owns them.
  pub chosen_spare : AreSpare volume runs
  chosen_spare = record { free = owned_taken (is_unowned volume) runs taken }

  -- No track is chosen twice.
  pub chosen_apart : (i j t : ℕ) → slice_get (owned_tracks runs) i ≡ Some t → slice_get (owned_tracks runs) j ≡ Some t → i ≡ j
  chosen_apart = taken_apart (is_unowned volume) runs taken

-- The tracks of runs on a pack are on it.
pub runs_inside : (g : Geometry) (runs : List Run) → AllByRecursion (IsOnPack g) runs → (k t : ℕ) → slice_get (owned_tracks runs) k ≡ Some t → t < tracks_of g
unfolding owned_tracks
runs_inside g [] on k t is = cc
runs_inside g (r ∷ rs) on k t is = elim (either (tracks_in r) (flat_map tracks_in rs) k t is) [
  | inl w ↦ let at = run_at r.start r.len k t w in omega (arith, at.0, at.1, on.0.1)
  | inr w ↦ runs_inside g rs on.1 w.0 t w.2
]

-- ---- by the free runs of an index

ends_low : (limit : ℕ) (rs : List Run) → EndBy limit rs → (t : ℕ) → covers rs t ≡ true → t < limit
ends_low limit [] ends t is = cc
ends_low limit (r ∷ rs) ends t is = by (is_in t r) refl is (λ here. ends_low limit rs ends.1 t here)
  where
    low : (t : ℕ) (r : Run) → is_in t r ≡ true → t < r.start + r.len
    low t r at = grind (arith, nat_tests)

    by : (b : Bool) → is_in t r ≡ b → (b || covers rs t) ≡ true → (covers rs t ≡ true → t < limit) → t < limit
    by true at here more = omega (arith, low t r at, ends.0)
    by false at here more = more here

-- runs that can be written are few tracks each
pub tracks_few : (rs : List Run) → ((k : ℕ) (r : Run) → slice_get rs k ≡ Some r → (1 ≤ r.len) × (r.start + r.len ≤ 65535)) → places.tracks_in rs ≤ 65535 * length rs
tracks_few [] each = omega arith
tracks_few (r ∷ rs) each =
    let more = tracks_few rs (λ k s there. each (suc k) s there) in
    let first = each 0 r refl in
    let sum = sum_by-cons (λ (x : Run). x.len) r rs in
    omega (arith, more, first.1, sum)

-- What is chosen from them is on the pack, each track once.
pub chosen_tracks : (v : Vol) (q : Request) (e : Extents) → (units : List Attached) × IsOfUnit units v → Chooses v.free.items v.geometry q (Ok e) → AreTracksOf v.geometry (listed e)
chosen_tracks v q e unit chooses =
    let g : Geometry = v.geometry in
    let free : AreRunsOf (covers v.free.items) (g.cylinders * (row_of g.device).heads) v.free.items = record { maximal = unit.1.free.0; within = unit.1.free.1; same = λ t low. refl } in
    let taken = choice_from-taken (covers v.free.items) g.cylinders (row_of g.device).heads q.unit q.contig q.primary (listed e) (heads_some g.device) (chooses (covers v.free.items) g.cylinders free) in
    record {
      inside = λ k t there. ends_low (tracks_of g) v.free.items unit.1.free.1 t (owned_taken (covers v.free.items) (listed e) taken.0 k t there);
      apart = taken_apart (covers v.free.items) (listed e) taken.0;
    }
