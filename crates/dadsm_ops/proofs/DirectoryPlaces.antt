-- Where the last block of a new directory and its end-of-file record stand, by division.
use Rattle.std.proofs.Common.{◌≡◌, ◌+◌, ◌-◌, ◌*◌, ◌/◌, ◌%◌, ◌<◌, ℕ, Bool, cond, List, replicate, ap, ◌∙◌, arith}
use Rattle.std.proofs.lemmas.Nat.{div-mul-add, div-add-mod'}
use Rattle.ckd_image.specs.declared.device.DiskType.{DiskType}
use Rattle.ckd_image.specs.Fit.{fits}
use Rattle.vol_model.specs.declared.contents.Place.{Place}
use Rattle.vol_model.specs.Places.{directory_end, directory_lengths, directory_place}
use Rattle.pack_spec.proofs.NewPlaces.{per_track, place_of}

-- full tracks stand before a block's own
pub place_by : (device : DiskType) (i : ℕ) → (i / per_track device ≡ (directory_place device i).tt) × (i % per_track device + 1 ≡ (directory_place device i).r)
place_by device i =
    let at = place_of device i in
    let p : Place = directory_place device i in
    let c : ℕ = per_track device in
    let parts : i ≡ p.tt * c + (p.r - 1) = omega (arith, at.number, at.some) in
    let low : p.r - 1 < c = omega (arith, at.some, at.few) in
    let tracks : i / c ≡ p.tt = ap (λ (n : ℕ). n / c) parts ∙ div-mul-add p.tt c (p.r - 1) low in
    let same : i / c * c ≡ p.tt * c = ap (λ (n : ℕ). n * c) tracks in
    (tracks, omega (arith, div-add-mod' i c, same, parts, at.some))

pub last_block : (device : DiskType) (i : ℕ) (q : Place) → q.tt ≡ i / per_track device → q.r ≡ i % per_track device + 1 → q ≡ directory_place device i
last_block device i q track number =
    let by = place_by device i in
    let tt : q.tt ≡ (directory_place device i).tt = track ∙ by.0 in
    let r : q.r ≡ (directory_place device i).r = number ∙ by.1 in
    λ j. record { tt = tt j; r = r j }

-- the end-of-file record stands after the last block, on its track or the next
pub end_by : (device : DiskType) (n : ℕ) (last : Place) (earlier : List (ℕ × ℕ)) (b : Bool) → last ≡ directory_place device (n - 1) → earlier ≡ replicate last.r directory_lengths → b ≡ fits device earlier 0 0
    → cond b (record { tt = last.tt; r = last.r + 1 }) (record { tt = last.tt + 1; r = 1 }) ≡ directory_end device n
unfolding directory_end
end_by device n last earlier b is before test =
    let p : Place = directory_place device (n - 1) in
    let fit : b ≡ fits device (replicate p.r directory_lengths) 0 0 = test ∙ ap (λ (xs : List (ℕ × ℕ)). fits device xs 0 0) (before ∙ ap (λ (q : Place). replicate q.r directory_lengths) is) in
    let ends : Bool → Place → Place = λ c q. cond c (record { tt = q.tt; r = q.r + 1 }) (record { tt = q.tt + 1; r = 1 }) in
    ap (ends b) is ∙ ap (λ (c : Bool). ends c p) fit
