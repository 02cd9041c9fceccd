-- Numbers of up to eight digits.
use Rattle.std.proofs.Common.{◌≡◌, ℕ, ◌+◌, ◌*◌, ◌^◌, ◌<◌, ◌≤◌, refl, add-one, arith}
use Rattle.std.proofs.Math.Nat.{pow-le-pow_right, pow-succ'}

-- a number of fewer than eight digits
pub small_number : (i n : ℕ) → i < 8 → n < 10 ^ i → n < 10000000
small_number i n less below =
    let power : 10 ^ i ≤ 10 ^ 7 = pow-le-pow_right {n = 10} (omega arith) {j = 7} (omega arith) in
    let same : 10 ^ 7 ≡ 10000000 = refl in
    omega (arith, below, power, same)

-- one digit more
pub next_number : (i n digit : ℕ) → n < 10 ^ i → digit < 10 → 10 * n + digit < 10 ^ (i + 1)
next_number i n digit below one =
    let power : 10 ^ (i + 1) ≡ 10 * 10 ^ i = rw add-one (pow-succ' 10 i) in
    omega (arith, below, one, power)

pub ruleset digits = (small_number, next_number)
