-- The free runs of a volume after one of its data sets is gone.
use Rattle.std.proofs.Common.{◌≡◌, ℕ, ◌+◌, ◌≤◌, Bool, cond, not, ◌||◌, List, ◌∷◌, ◌++◌, nat_lt, sym, ap, subst, ◌∙◌, arith}
use Rattle.std.proofs.lemmas.Bool.Decides.{nat_tests}
use Rattle.std.proofs.lemmas.Grind.{flat_map-append}
use Rattle.ckd_image.specs.declared.header.Geometry.{Geometry}
use Rattle.pack_spec.specs.declared.slot.VtocSlot.{VtocSlot}
use Rattle.pack_spec.specs.Volume.{data_sets_in, volume_with}
use Rattle.pack_spec.proofs.OwnedRuns.{covers_owners, owners_permuted, runs_owned, unowned_covers}
use Rattle.vol_model.specs.declared.contents.DataSet.{DataSet}
use Rattle.vol_model.specs.declared.contents.Run.{Run}
use Rattle.vol_model.specs.declared.contents.Volume.{Volume}
use Rattle.vol_model.specs.Lawful.{OwnsOnce, owned_runs}
use Rattle.vol_model.specs.Order.{in_order}
use Rattle.vol_model.specs.Space.{EndBy, covers, free_runs, is_in, is_unowned}
use Rattle.vol_model.proofs.FreeRuns.{AreRunsOf-runs_of, runs_of-AreRunsOf}
use Rattle.vol_model.proofs.InOrder.{in_order-permutation}
use Rattle.shelf_laws.proofs.Tracks.{extents_of, owners, owners-append, owners-cons}
use Rattle.dadsm_ops.specs.Scratching.{AreFreed, usable_tracks}
use Rattle.dadsm_ops.proofs.ScratchedSets.{IsAmong}

-- track 0 as a run
first : Run
first = record { start = 0; len = 1 }

counted : (t : ℕ) (vtoc : Run) (xs : List DataSet) → owners t (runs_owned vtoc xs) ≡ cond (is_in t first) 1 0 + (cond (is_in t vtoc) 1 0 + owners t (extents_of xs))
unfolding first
counted t vtoc xs = owners-cons t first (vtoc ∷ extents_of xs) ∙ ap (λ (n : ℕ). cond (is_in t first) 1 0 + n) (owners-cons t vtoc (extents_of xs))

sums : (p q a b c n m : ℕ) → n ≡ p + (q + (a + (b + c))) → m ≡ p + (q + (a + c)) → n ≡ m + b
sums p q a b c n m one other = omega arith

freed_track : (n m b : ℕ) → n ≡ m + b → n ≤ 1 → not (nat_lt 0 m) ≡ (not (nat_lt 0 n) || nat_lt 0 b)
freed_track n m b split once = grind (arith, nat_tests)

module _ (g : Geometry) (tracks : List (List ℕ)) (label : List ℕ) (vtoc : Run) (slots without : List VtocSlot) (x : DataSet) (among : IsAmong g tracks slots without x) where
  abbrev volume : Volume
  volume = volume_with g tracks label vtoc slots

  abbrev after : Volume
  after = volume_with g tracks label vtoc without

  -- the runs that have a track, before and after
  split : (t : ℕ) → owners t (owned_runs volume) ≡ owners t (owned_runs after) + owners t x.extents
  unfolding volume_with
  split t =
      let sets : List DataSet = data_sets_in g tracks slots in
      let left : List DataSet = data_sets_in g tracks without in
      let before = owners_permuted t vtoc sets (in_order sets) (in_order-permutation sets) ∙ ap (λ (l : List DataSet). owners t (runs_owned vtoc l)) among.all in
      let later = owners_permuted t vtoc left (in_order left) (in_order-permutation left) ∙ ap (λ (l : List DataSet). owners t (runs_owned vtoc l)) among.left in
      let front : ℕ = owners t (extents_of among.front) in
      let one : owners t (extents_of (among.front ++ x ∷ among.back)) ≡ front + (owners t x.extents + owners t (extents_of among.back)) =
      ap (owners t) (flat_map-append (λ (y : DataSet). y.extents) among.front (x ∷ among.back))
      ∙ owners-append t (extents_of among.front) (x.extents ++ extents_of among.back)
      ∙ ap (λ (n : ℕ). front + n) (owners-append t x.extents (extents_of among.back)) in
      let other : owners t (extents_of (among.front ++ among.back)) ≡ front + owners t (extents_of among.back) =
      ap (owners t) (flat_map-append (λ (y : DataSet). y.extents) among.front among.back) ∙ owners-append t (extents_of among.front) (extents_of among.back) in
      let p : ℕ = cond (is_in t first) 1 0 in
      let q : ℕ = cond (is_in t vtoc) 1 0 in
      sums p q front (owners t x.extents) (owners t (extents_of among.back)) _ _
      (before ∙ counted t vtoc (among.front ++ x ∷ among.back) ∙ ap (λ (n : ℕ). p + (q + n)) one)
      (later ∙ counted t vtoc (among.front ++ among.back) ∙ ap (λ (n : ℕ). p + (q + n)) other)

  module _ (once : OwnsOnce volume) where
    -- a track is free then where it was, or where the data set had it
    freed : (t : ℕ) → is_unowned after t ≡ (is_unowned volume t || covers x.extents t)
    freed t =
        unowned_covers after t
        ∙ ap not (covers_owners t (owned_runs after))
        ∙ freed_track (owners t (owned_runs volume)) (owners t (owned_runs after)) (owners t x.extents) (split t) (once t)
        ∙ ap (λ (b : Bool). b || nat_lt 0 (owners t x.extents)) (sym (unowned_covers volume t ∙ ap not (covers_owners t (owned_runs volume))))
        ∙ ap (λ (b : Bool). is_unowned volume t || b) (sym (covers_owners t x.extents))

    -- The free runs are the old ones with the data set's inserted.
    pub freed_runs : (old runs new : List Run) → old ≡ free_runs volume → ((t : ℕ) → covers runs t ≡ covers x.extents t) → AreFreed (usable_tracks g) old runs new → new ≡ free_runs after
    unfolding volume_with
    freed_runs old runs new is same are =
        let limit : ℕ = usable_tracks g in
        let was = runs_of-AreRunsOf (is_unowned volume) limit in
        sym (AreRunsOf-runs_of (is_unowned after) limit new (record {
          maximal = are.maximal;
          within = are.within limit (omega arith) (subst (λ (rs : List Run). EndBy limit rs) (sym is) was.within);
          same = λ t low.
              freed t
              ∙ ap (λ (b : Bool). b || covers x.extents t) (was.same t low ∙ ap (λ (rs : List Run). covers rs t) (sym is))
              ∙ ap (λ (b : Bool). covers old t || b) (sym (same t))
              ∙ sym (are.tracks t low);
        }))
