-- The free space of a volume, counted by the free runs of its index.
use Rattle.std.proofs.Common.{◌≡◌, ◌+◌, ◌-◌, ℕ, Bool, true, false, cond, eqb, List, [], ◌∷◌, length, Option, Some, None, refl, sym, ap, ◌∙◌, arith}
use Rattle.std.specs.Prelude.{slice_range, unwrap_or}
use Rattle.std.specs.Option.{option_map}
use Rattle.std.proofs.lemmas.List.Sums.{sum_by-cons}
use Rattle.pack_spec.specs.Label.{label_of}
use Rattle.pack_spec.specs.Slots.{slots_of_vtoc}
use Rattle.pack_spec.specs.Volume.{volume_with}
use Rattle.vol_model.specs.declared.answers.VolumeInfo.{VolumeInfo}
use Rattle.vol_model.specs.declared.contents.Run.{Run}
use Rattle.vol_model.specs.declared.contents.Volume.{Volume}
use Rattle.vol_model.specs.Places.{tracks_in}
use Rattle.vol_model.specs.Reading.{volume_info}
use Rattle.vol_model.specs.Slots.{slots_needed}
use Rattle.vol_model.specs.Space.{free_tracks, runs_of, with_front}
use Rattle.vtoc_index.specs.declared.vol.Vol.{Vol}
use Rattle.vtoc_index.specs.Index.{IsMounted}
use Rattle.vtoc_index.proofs.HeldDscbs.{dscbs_many}
use Rattle.vtoc_sets.specs.Sets.{volume_in}

-- as many tracks are in runs as fall into them
one_more : (t : ℕ) (rs : List Run) → tracks_in (with_front t rs) ≡ 1 + tracks_in rs
one_more t [] = sum_by-cons (λ (x : Run). x.len) (record { start = t; len = 1 }) []
one_more t (r ∷ rs) = by_test (eqb (t + 1) r.start)
  where
    by_test : (b : Bool) → tracks_in (cond b (record { start = t; len = r.len + 1 } ∷ rs) (record { start = t; len = 1 } ∷ r ∷ rs)) ≡ 1 + tracks_in (r ∷ rs)
    by_test true = omega (arith, sum_by-cons (λ (x : Run). x.len) (record { start = t; len = r.len + 1 }) rs, sum_by-cons (λ (x : Run). x.len) r rs)
    by_test false = omega (arith, sum_by-cons (λ (x : Run). x.len) (record { start = t; len = 1 }) (r ∷ rs))

tracks_fallen : (ts : List ℕ) → tracks_in (runs_of ts) ≡ length ts
tracks_fallen [] = refl
tracks_fallen (t ∷ ts) = one_more t (runs_of ts) ∙ (let rest = tracks_fallen ts in omega arith)

-- the serial in the label
pub labelled : (label : Option (List ℕ)) (serial : List ℕ) → option_map (λ l. slice_range l 4 10) label ≡ Some serial → slice_range (unwrap_or label []) 4 10 ≡ serial
labelled None serial is = cc
labelled (Some label) serial is = cc

-- The volume of an image in short, by its index.
pub info_is : (image : List ℕ) (v : Vol) → IsMounted image v → (tracks runs slots : ℕ) → tracks ≡ tracks_in v.free.items → runs ≡ length v.free.items → slots ≡ length v.slots.items - slots_needed (volume_in image v)
    → ◌≡◌ {A = VolumeInfo} (record { serial = v.serial; geometry = v.geometry; free_tracks = tracks; free_runs = runs; free_slots = slots }) (volume_info (volume_in image v))
unfolding volume_info volume_with
info_is image v mounted tracks runs slots tracks_are runs_are slots_are =
    let volume : Volume = volume_in image v in
    let serial = labelled (label_of image v.geometry) v.serial.bytes mounted.index.serial in
    let free : tracks ≡ length (free_tracks volume) = tracks_are ∙ ap tracks_in mounted.free ∙ tracks_fallen (free_tracks volume) in
    let many : runs ≡ length (runs_of (free_tracks volume)) = runs_are ∙ ap length mounted.free in
    let left : slots ≡ length (slots_of_vtoc image v.geometry v.vtoc) - slots_needed volume = slots_are ∙ ap (λ (n : ℕ). n - slots_needed volume) (dscbs_many v.slots.items (slots_of_vtoc image v.geometry v.vtoc) mounted.index.slots) in
    λ i. record { serial = record { bytes = sym serial i }; geometry = v.geometry; free_tracks = free i; free_runs = many i; free_slots = left i }
