-- The free runs of an index and their tracks are few.
use Rattle.std.proofs.Common.{◌≤◌, ◌+◌, ◌-◌, ◌*◌, ℕ, List, [], ◌∷◌, length, arith}
use Rattle.std.proofs.lemmas.List.Sums.{sum_by-cons}
use Rattle.ckd_image.specs.declared.device.DiskType.{DiskType}
use Rattle.ckd_image.specs.declared.device.DiskType.TheVariants.{D2311, D2314, D3330, D3350}
use Rattle.ckd_image.specs.Device.{row_of}
use Rattle.pack_spec.specs.Label.{tracks_of}
use Rattle.vol_model.specs.declared.contents.Run.{Run}
use Rattle.vol_model.specs.Places.{tracks_in}
use Rattle.vol_model.specs.Space.{AreApartFrom, EndBy}
use Rattle.hall_core.specs.Facts.{Attached}
use Rattle.vtoc_index.specs.declared.vol.Vol.{Vol}
use Rattle.vtoc_index.specs.Index.{IsOfUnit}

-- runs that lie apart have at most as many tracks as they lie on, and as many tracks as runs or more
tracks_most : (low limit : ℕ) (rs : List Run) → AreApartFrom low rs → EndBy limit rs → tracks_in rs ≤ limit - low
tracks_most low limit [] apart ends = omega arith
tracks_most low limit (r ∷ rs) apart ends =
    omega (arith, sum_by-cons (λ (x : Run). x.len) r rs, apart.0, apart.1, ends.0, tracks_most (r.start + r.len + 1) limit rs apart.2 ends.1)

runs_most : (low : ℕ) (rs : List Run) → AreApartFrom low rs → length rs ≤ tracks_in rs
runs_most low [] apart = omega arith
runs_most low (r ∷ rs) apart = omega (arith, sum_by-cons (λ (x : Run). x.len) r rs, apart.1, runs_most (r.start + r.len + 1) rs apart.2)

-- a pack has few tracks
few_tracks : (d : DiskType) (cylinders : ℕ) → cylinders ≤ (row_of d).most_cylinders → cylinders * (row_of d).heads ≤ 65535
few_tracks D2311 cylinders most = omega (arith, most)
few_tracks D2314 cylinders most = omega (arith, most)
few_tracks D3330 cylinders most = omega (arith, most)
few_tracks D3350 cylinders most = omega (arith, most)

module _ (units : List Attached) (v : Vol) (of : IsOfUnit units v) where
  pub free_most : tracks_in v.free.items ≤ 65535
  free_most = omega (arith, tracks_most 0 (tracks_of v.geometry) v.free.items of.free.0 of.free.1, few_tracks v.geometry.device v.geometry.cylinders of.whole.most)

  pub free_few : length v.free.items ≤ 65535
  free_few = omega (arith, free_most, runs_most 0 v.free.items of.free.0)
