-- What fits a track by the capacity of its device fits the bytes that a track has in an image.
use Rattle.std.proofs.Common.{◌≡◌, ℕ, ◌+◌, ◌*◌, ◌<◌, ◌≤◌, Bool, true, false, List, [], ◌∷◌, length, arith, leb-true}
use Rattle.std.specs.Prelude.{sum_by, nat_le, ◌==◌, ◌&&◌, ◌%◌, if◌then◌else◌}
use Rattle.std.proofs.lemmas.Bool.{and_parts}
use Rattle.std.proofs.lemmas.List.Sums.{sum_by-cons}
use Rattle.ckd_image.specs.declared.device.DiskType.{DiskType}
use Rattle.ckd_image.specs.declared.device.DiskType.TheVariants.{D2311, D2314, D3330, D3350}
use Rattle.ckd_image.specs.Device.{row_of}
use Rattle.ckd_image.specs.Fit.{fits, record_cost, last_record_cost, saved}
use Rattle.ckd_image.specs.Header.{is_track_size}

-- the keys and data of records, in bytes
abbrev pub lengths_of : List (ℕ × ℕ) → ℕ
lengths_of records = sum_by (λ lengths. lengths.0 + lengths.1) records

-- the bytes of a track with earlier records and one more: home address and R0, each count, keys and data, and the end marker
abbrev pub track_length : List (ℕ × ℕ) → ℕ → ℕ → ℕ
track_length earlier kl dl = 21 + 8 * (length earlier + 1) + (lengths_of earlier + (kl + dl)) + 8

-- at most this much is saved
at_most : (b : Bool) (k : ℕ) → (if b then k else 0) ≤ k
at_most true k = omega arith
at_most false k = omega arith

-- the bytes around a record without a key
abbrev around : DiskType → ℕ
around D2311 = 61
around D2314 = 101
around D3330 = 135
around D3350 = 185

-- what a record costs at least
cost_least : (device : DiskType) (kl dl : ℕ) → around device + (kl + dl) ≤ record_cost device kl dl
cost_least D2311 kl dl = let s : saved D2311 kl ≤ 20 = at_most (kl == 0) 20 in omega arith
cost_least D2314 kl dl = let s : saved D2314 kl ≤ 45 = at_most (kl == 0) 45 in omega arith
cost_least D3330 kl dl = let s : saved D3330 kl ≤ 56 = at_most (kl == 0) 56 in omega arith
cost_least D3350 kl dl = let s : saved D3350 kl ≤ 82 = at_most (kl == 0) 82 in omega arith

-- and some of them
costs_least : (device : DiskType) (earlier : List (ℕ × ℕ)) → around device * length earlier + lengths_of earlier ≤ sum_by (λ lengths. record_cost device lengths.0 lengths.1) earlier
costs_least D2311 [] = omega arith
costs_least D2311 (x ∷ xs) =
    let cost = sum_by-cons (λ (lengths : ℕ × ℕ). record_cost D2311 lengths.0 lengths.1) x xs in
    let long = sum_by-cons (λ (lengths : ℕ × ℕ). lengths.0 + lengths.1) x xs in
    omega (arith, cost, long, cost_least D2311 x.0 x.1, costs_least D2311 xs)
costs_least D2314 [] = omega arith
costs_least D2314 (x ∷ xs) =
    let cost = sum_by-cons (λ (lengths : ℕ × ℕ). record_cost D2314 lengths.0 lengths.1) x xs in
    let long = sum_by-cons (λ (lengths : ℕ × ℕ). lengths.0 + lengths.1) x xs in
    omega (arith, cost, long, cost_least D2314 x.0 x.1, costs_least D2314 xs)
costs_least D3330 [] = omega arith
costs_least D3330 (x ∷ xs) =
    let cost = sum_by-cons (λ (lengths : ℕ × ℕ). record_cost D3330 lengths.0 lengths.1) x xs in
    let long = sum_by-cons (λ (lengths : ℕ × ℕ). lengths.0 + lengths.1) x xs in
    omega (arith, cost, long, cost_least D3330 x.0 x.1, costs_least D3330 xs)
costs_least D3350 [] = omega arith
costs_least D3350 (x ∷ xs) =
    let cost = sum_by-cons (λ (lengths : ℕ × ℕ). record_cost D3350 lengths.0 lengths.1) x xs in
    let long = sum_by-cons (λ (lengths : ℕ × ℕ). lengths.0 + lengths.1) x xs in
    omega (arith, cost, long, cost_least D3350 x.0 x.1, costs_least D3350 xs)

-- what fits a track by its capacity has fewer than 255 earlier records, and no more bytes than the largest R1 takes
pub record FitsBytes (device : DiskType) (earlier : List (ℕ × ℕ)) (kl dl : ℕ) : Type 0 where
  pub few : length earlier < 255
  pub bytes : track_length earlier kl dl ≤ (row_of device).largest_record + 37

pub fits_bytes : (device : DiskType) (earlier : List (ℕ × ℕ)) (kl dl : ℕ) → fits device earlier kl dl ≡ true → FitsBytes device earlier kl dl
fits_bytes device earlier kl dl fit = by_device device (leb-true _ _ fit) (costs_least device earlier)
  where
    by_device : (d : DiskType) → sum_by (λ lengths. record_cost d lengths.0 lengths.1) earlier + last_record_cost d kl dl ≤ (row_of d).track_capacity → around d * length earlier + lengths_of earlier ≤ sum_by (λ lengths. record_cost d lengths.0 lengths.1) earlier → FitsBytes d earlier kl dl
    by_device D2311 room least = let s : saved D2311 kl ≤ 20 = at_most (kl == 0) 20 in record { few = omega arith; bytes = omega arith }
    by_device D2314 room least = let s : saved D2314 kl ≤ 45 = at_most (kl == 0) 45 in record { few = omega arith; bytes = omega arith }
    by_device D3330 room least = let s : saved D3330 kl ≤ 56 = at_most (kl == 0) 56 in record { few = omega arith; bytes = omega arith }
    by_device D3350 room least = let s : saved D3350 kl ≤ 82 = at_most (kl == 0) 82 in record { few = omega arith; bytes = omega arith }

-- so it has at most as many as any track may have
pub fits_track : (device : DiskType) (earlier : List (ℕ × ℕ)) (kl dl size : ℕ) → fits device earlier kl dl ≡ true → is_track_size device size ≡ true → track_length earlier kl dl ≤ size
fits_track device earlier kl dl size fit lawful =
    let first = and_parts ((size % 512 == 0) && nat_le ((row_of device).largest_record + 37) size) (nat_le size 65536) lawful in
    let second = and_parts (size % 512 == 0) (nat_le ((row_of device).largest_record + 37) size) first.0 in
    let long : (row_of device).largest_record + 37 ≤ size = leb-true ((row_of device).largest_record + 37) size second.1 in
    omega (arith, long, (fits_bytes device earlier kl dl fit).bytes)
