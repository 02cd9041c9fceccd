-- How many records fit a track: so few that the number of each is one byte.
use Rattle.std.proofs.Common.{◌≡◌, ◌+◌, ◌-◌, ◌*◌, ◌/◌, ◌≤◌, ◌==◌, nat_le, ℕ, suc, Bool, true, false, List, [], ◌∷◌, length, arith}
use Rattle.std.proofs.lemmas.Bool.Decides.{nat_tests}
use Rattle.std.proofs.lemmas.List.Sums.{sum_by-cons}
use Rattle.std.specs.Prelude.{sum_by, if◌then◌else◌}
use Rattle.ckd_image.specs.declared.device.DiskType.{DiskType}
use Rattle.ckd_image.specs.declared.device.DiskType.TheVariants.{D2311, D2314, D3330, D3350}
use Rattle.ckd_image.specs.Device.{row_of}
use Rattle.ckd_image.specs.Fit.{fits, last_record_cost, record_cost, saved}

-- what a record without a byte costs at least
abbrev least : DiskType → ℕ
least d = (row_of d).overhead - (row_of d).key_overhead

saved_most : (d : DiskType) (kl : ℕ) → saved d kl ≤ (row_of d).key_overhead
saved_most d kl = by_test (kl == 0)
  where
    by_test : (b : Bool) → (if b then (row_of d).key_overhead else 0) ≤ (row_of d).key_overhead
    by_test true = omega arith
    by_test false = omega arith

cost_least : (d : DiskType) (kl dl : ℕ) → least d ≤ record_cost d kl dl
cost_least d kl dl = let most = saved_most d kl in less (row_of d).overhead (row_of d).key_overhead ((kl + dl) * (row_of d).tolerance / 512) (saved d kl) most
  where
    less : (o k x s : ℕ) → s ≤ k → o - k ≤ o + x - s
    less o k x s h = omega arith

costs_least : (d : DiskType) (earlier : List (ℕ × ℕ)) → length earlier * least d ≤ sum_by (λ lengths. record_cost d lengths.0 lengths.1) earlier
costs_least d [] = omega arith
costs_least d (l ∷ ls) =
    let rest = costs_least d ls in
    let one = cost_least d l.0 l.1 in
    let sum = sum_by-cons (λ lengths. record_cost d lengths.0 lengths.1) l ls in
    more (length ls) (least d) (record_cost d l.0 l.1) (sum_by (λ lengths. record_cost d lengths.0 lengths.1) ls) (sum_by (λ lengths. record_cost d lengths.0 lengths.1) (l ∷ ls)) rest one sum
  where
    more : (n m c s t : ℕ) → n * m ≤ s → m ≤ c → t ≡ c + s → suc n * m ≤ t
    more n m c s t a b e = let k : suc n * m ≡ n * m + m = omega arith in omega arith

within : (a b c : ℕ) → nat_le (a + b) c ≡ true → a ≤ c
within a b c e = grind (arith, nat_tests)

few : (d : DiskType) (n : ℕ) → n * least d ≤ (row_of d).track_capacity → n + 1 ≤ 255
few D2311 n h = omega arith
few D2314 n h = omega arith
few D3330 n h = omega arith
few D3350 n h = omega arith

-- where a record fits after others, its number is at most 255
pub fits_few : (d : DiskType) (earlier : List (ℕ × ℕ)) (kl dl : ℕ) → fits d earlier kl dl ≡ true → length earlier + 1 ≤ 255
fits_few d earlier kl dl e =
    let sum = sum_by (λ lengths. record_cost d lengths.0 lengths.1) earlier in
    let low = costs_least d earlier in
    let high = within sum (last_record_cost d kl dl) (row_of d).track_capacity e in
    few d (length earlier) (omega (arith, low, high))
