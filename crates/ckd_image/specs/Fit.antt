-- What records cost on a track, and whether they fit it: the track capacity formula of the device, rounded as in this project's profile.
use Rattle.std.specs.Prelude.{ℕ, ◌+◌, ◌-◌, ◌*◌, ◌/◌, ◌==◌, ◌≡◌, nat_le, Bool, true, false, List, replicate, sum_by, if◌then◌else◌}
use Rattle.ckd_image.specs.declared.device.DiskType.{DiskType}
use Rattle.ckd_image.specs.Device.{row_of}

-- the bytes that a record without a key saves
abbrev pub saved : DiskType → ℕ → ℕ
saved device kl = if kl == 0 then (row_of device).key_overhead else 0

-- what a record with another after it costs, in bytes of the track capacity
abbrev pub record_cost : DiskType → ℕ → ℕ → ℕ
record_cost device kl dl = (row_of device).overhead + (kl + dl) * (row_of device).tolerance / 512 - saved device kl

-- what the last record costs: its overhead and its bytes, without the tolerance
abbrev pub last_record_cost : DiskType → ℕ → ℕ → ℕ
last_record_cost device kl dl = (row_of device).last_overhead + kl + dl - saved device kl

-- a record of this KL and DL fits after earlier ones, each with its KL and DL
abbrev pub fits : DiskType → List (ℕ × ℕ) → ℕ → ℕ → Bool
fits device earlier kl dl =
    nat_le (sum_by (λ lengths. record_cost device lengths.0 lengths.1) earlier + last_record_cost device kl dl) (row_of device).track_capacity

-- so many records of this KL and DL fit a track, and one more doesn't
abbrev pub IsMost : DiskType → ℕ → ℕ → ℕ → Type 0
IsMost device kl dl n = (fits device (replicate (n - 1) (kl, dl)) kl dl ≡ true) × (fits device (replicate n (kl, dl)) kl dl ≡ false)

-- the balance of a track with these records: its capacity less what they cost with others after them, and at least 0
abbrev pub balance : DiskType → List (ℕ × ℕ) → ℕ
balance device records = (row_of device).track_capacity - sum_by (λ lengths. record_cost device lengths.0 lengths.1) records
