-- The label of a new pack.
use Rattle.std.proofs.Common.{◌≡◌, ◌<◌, ◌^◌, ℕ, List, [], ◌∷◌, length, Some, refl, ap₂, arith}
use Rattle.std.specs.Prelude.{slice_range}
use Rattle.std.proofs.lemmas.Nat.{from_be_bytes-to_be_bytes_2}
use Rattle.ckd_image.specs.Track.{records_bytes}
use Rattle.pack_spec.specs.declared.address.Address.{Address}
use Rattle.pack_spec.specs.Label.{address_at, label_in}
use Rattle.pack_spec.specs.Written.{label_bytes, label_records}

-- what is read of it
pub record IsLabel (serial : List ℕ) (v : Address) : Type 0 where
  pub size : length (records_bytes 1 (label_records serial v)) ≡ 284
  pub found : label_in (label_records serial v) ≡ Some (label_bytes serial v)
  pub vtoc : address_at 11 (label_bytes serial v) ≡ v
  pub serial_is : slice_range (label_bytes serial v) 4 10 ≡ serial

pub label_read : (serial : List ℕ) (v : Address) → length serial ≡ 6 → v.cylinder < 2 ^ 16 → v.head < 2 ^ 16 → IsLabel serial v
unfolding label_in
label_read [] v six low high = absurd (omega arith)
label_read (a ∷ []) v six low high = absurd (omega arith)
label_read (a ∷ b ∷ []) v six low high = absurd (omega arith)
label_read (a ∷ b ∷ c ∷ []) v six low high = absurd (omega arith)
label_read (a ∷ b ∷ c ∷ d ∷ []) v six low high = absurd (omega arith)
label_read (a ∷ b ∷ c ∷ d ∷ e ∷ []) v six low high = absurd (omega arith)
label_read (a ∷ b ∷ c ∷ d ∷ e ∷ f ∷ []) v six low high = record {
  size = refl;
  found = refl;
  vtoc = ap₂ (λ (x y : ℕ). let at : Address = record { cylinder = x; head = y } in at) (from_be_bytes-to_be_bytes_2 v.cylinder low) (from_be_bytes-to_be_bytes_2 v.head high);
  serial_is = refl;
}
label_read (a ∷ b ∷ c ∷ d ∷ e ∷ f ∷ x ∷ xs) v six low high = absurd (omega arith)
