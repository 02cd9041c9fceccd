-- Counts and offsets that may be missing.
use Rattle.std.proofs.Common.{◌≡◌, ◌+◌, ℕ, List, length, Option, Some, None, refl, ap, arith}
use Rattle.std.specs.Option.{option_map}
use Rattle.ckd_image.specs.Track.{Record}

-- a list whose length is known is there
pub counted : (records : Option (List Record)) (n : ℕ) → option_map length records ≡ Some n → (xs : List Record) × (records ≡ Some xs) × (n ≡ length xs)
counted None n e = cc
counted (Some xs) n e = (xs, refl, cc)

-- counting on by none, and twice
pub option_map-zero : (o : Option ℕ) → o ≡ option_map (λ k. 0 + k) o
option_map-zero None = refl
option_map-zero (Some k) = let e : k ≡ 0 + k = omega arith in ap Some e

pub option_map-add : (a b : ℕ) (o : Option ℕ) → option_map (λ k. a + k) (option_map (λ k. b + k) o) ≡ option_map (λ k. a + b + k) o
option_map-add a b None = refl
option_map-add a b (Some k) = let e : a + (b + k) ≡ a + b + k = omega arith in ap Some e
