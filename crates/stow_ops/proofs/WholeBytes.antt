-- A byte is the same modulo 256.
use Rattle.std.proofs.Common.{◌≡◌, ◌<◌, ◌%◌, ℕ, List, [], ◌∷◌, map, refl, ap₂, arith}
use Rattle.std.specs.List.{AllByRecursion}

pub whole_bytes : (xs : List ℕ) → AllByRecursion (λ (b : ℕ). b < 256) xs → map (λ (x : ℕ). x % 256) xs ≡ xs
whole_bytes [] all = refl
whole_bytes (x ∷ xs) all = ap₂ (λ (y : ℕ) (ys : List ℕ). y ∷ ys) (omega (arith, all.0)) (whole_bytes xs all.1)
