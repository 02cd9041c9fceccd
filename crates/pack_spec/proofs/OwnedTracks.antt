-- A volume that breaks no rule as a whole owns no track twice, and has the slots that it needs.
use Rattle.std.proofs.Common.{◌≡◌, ℕ, zero, suc, ◌+◌, ◌≤◌, ◌<◌, inl, inr, Bool, true, false, cond, List, [], ◌∷◌, ◌++◌, filter, map, nat_le, nat_lt, refl, ◌∙◌, arith}
use Rattle.std.specs.List.{AllByRecursion, count_by, flat_map, range_with_len}
use Rattle.std.proofs.lemmas.Bool.{ltb-false}
use Rattle.std.proofs.lemmas.Bool.Decides.{nat_tests, leb_tells, eqb_tells}
use Rattle.std.proofs.lemmas.List.Sums.{sum_by-cons}
use Rattle.ckd_image.specs.declared.header.Geometry.{Geometry}
use Rattle.vol_model.specs.declared.contents.DataSet.{DataSet}
use Rattle.vol_model.specs.declared.contents.Run.{Run}
use Rattle.vol_model.specs.declared.contents.Volume.{Volume}
use Rattle.vol_model.specs.Lawful.{IsOnPack, OwnsOnce, owned_runs}
use Rattle.vol_model.specs.Slots.{slots_needed}
use Rattle.vol_model.specs.Space.{EndBy, is_in}
use Rattle.pack_spec.specs.declared.MountErr.TheVariants.{Overlap, VtocFull}
use Rattle.pack_spec.specs.Label.{tracks_of}
use Rattle.pack_spec.specs.Owned.{is_owned_twice, overlap_faults, room_faults}

-- where no track passes a test, each fails it
none_kept : (b : Bool) (t : ℕ) (ts : List ℕ) → map Overlap (cond b (t ∷ ts) ts) ≡ [] → (b ≡ false) × (map Overlap ts ≡ [])
none_kept true t ts e = absurd (cc)
none_kept false t ts e = (refl, e)

none_passes : (p : ℕ → Bool) (n low : ℕ) → map Overlap (filter p (range_with_len low n)) ≡ [] → (t : ℕ) → low ≤ t → t < low + n → p t ≡ false
none_passes p zero low e t l u = absurd (omega arith)
none_passes p (suc n) low e t l u =
    let parts = none_kept (p low) low (filter p (range_with_len (low + 1) n)) e in
    elim (eqb_tells low t) [
      | inl w ↦ rw (← w.1) parts.0
      | inr w ↦ none_passes p n (low + 1) parts.1 t (omega arith) (omega arith)
    ]

-- runs that end by a track don't have it
beyond : (t : ℕ) (r : Run) → r.start + r.len ≤ t → is_in t r ≡ false
beyond t r l = grind (arith, nat_tests)

count_beyond : (limit t : ℕ) (rs : List Run) → EndBy limit rs → limit ≤ t → count_by (is_in t) rs ≡ 0
count_beyond limit t [] e l = refl
count_beyond limit t (r ∷ rs) e l =
    let out : is_in t r ≡ false = beyond t r (omega arith) in
    sum_by-cons (λ (x : Run). cond (is_in t x) 1 0) r rs ∙ rw (out, count_beyond limit t rs e.1 l) refl

-- no track is owned twice, where the owned runs lie on the pack
pub owns_once : (volume : Volume) → EndBy (tracks_of volume.geometry) (owned_runs volume) → overlap_faults volume ≡ [] → OwnsOnce volume
unfolding overlap_faults
owns_once volume ends none track =
    elim (leb_tells (suc track) (tracks_of volume.geometry)) [
      | inl w ↦ at_most_one (count_by (is_in track) (owned_runs volume)) (none_passes (is_owned_twice volume) (tracks_of volume.geometry) 0 none track (omega arith) (omega arith))
      | inr w ↦ let zeros : count_by (is_in track) (owned_runs volume) ≡ 0 = count_beyond (tracks_of volume.geometry) track (owned_runs volume) ends (omega arith) in omega arith
    ]
  where
    at_most_one : (n : ℕ) → nat_le 2 n ≡ false → n ≤ 1
    at_most_one n e = grind (arith, nat_tests)

-- there are as many slots as are needed
pub has_room : (volume : Volume) → room_faults volume ≡ [] → slots_needed volume ≤ volume.slots
unfolding room_faults
has_room volume none = ltb-false volume.slots (slots_needed volume) (not_less (nat_lt volume.slots (slots_needed volume)) none)
  where
    not_less : (b : Bool) → cond b (VtocFull (slots_needed volume) ∷ []) [] ≡ [] → b ≡ false
    not_less true e = absurd (cc)
    not_less false e = refl

-- the owned runs lie on the pack
both_end : (limit : ℕ) (rs ss : List Run) → EndBy limit rs → EndBy limit ss → EndBy limit (rs ++ ss)
both_end limit [] ss e f = f
both_end limit (r ∷ rs) ss e f = (e.0, both_end limit rs ss e.1 f)

runs_end : (g : Geometry) (rs : List Run) → AllByRecursion (IsOnPack g) rs → EndBy (tracks_of g) rs
runs_end g [] all = tt
runs_end g (r ∷ rs) all = (all.0.1, runs_end g rs all.1)

sets_end : (g : Geometry) (xs : List DataSet) → AllByRecursion (λ (x : DataSet). AllByRecursion (IsOnPack g) x.extents) xs → EndBy (tracks_of g) (flat_map (λ (x : DataSet). x.extents) xs)
sets_end g [] all = tt
sets_end g (x ∷ xs) all =
    both_end (tracks_of g) x.extents (flat_map (λ (y : DataSet). y.extents) xs) (runs_end g x.extents all.0) (sets_end g xs all.1)

pub owned_end : (volume : Volume) → IsOnPack volume.geometry volume.vtoc → AllByRecursion (λ (x : DataSet). AllByRecursion (IsOnPack volume.geometry) x.extents) volume.sets → EndBy (tracks_of volume.geometry) (owned_runs volume)
owned_end volume vtoc sets = (omega (arith, vtoc.0, vtoc.1), (vtoc.1, sets_end volume.geometry volume.sets sets))
