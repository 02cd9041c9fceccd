-- Orders of writes under which a stop loses an entry, and those of a plan. Names and sizes: 1 is A, each takes 60 or 120 bytes.
use Rattle.std.proofs.Common.{◌≡◌, ℕ, ◌∷◌, [], refl, arith, List, Option, Some, take}
use Rattle.chain_spec.specs.Cut.{IsCut}
use Rattle.chain_spec.specs.Store.{reads, stored}
use Rattle.sorted_chain.proofs.Places.{backward_writes}
use Rattle.sorted_chain.specs.Cutting.{forward_writes}
use Rattle.sorted_chain.specs.Plan.{after_writes}

abbrev after_one : List (ℕ × List ℕ) → List (List ℕ) → Option (List ℕ)
after_one writes old = reads (λ n. n) (after_writes 2 (take 1 writes) (stored old))

-- C comes to [A, B, D, F] and [G]: F is lost where the first block is written first
inserted : (after_one (forward_writes 0 ((1 ∷ 2 ∷ 3 ∷ 4 ∷ []) ∷ (6 ∷ 7 ∷ []) ∷ [])) ((1 ∷ 2 ∷ 4 ∷ 6 ∷ []) ∷ (7 ∷ []) ∷ []) ≡ Some (1 ∷ 2 ∷ 3 ∷ 4 ∷ 7 ∷ [])) × (after_one (backward_writes ((1 ∷ 2 ∷ 3 ∷ 4 ∷ []) ∷ (6 ∷ 7 ∷ []) ∷ [])) ((1 ∷ 2 ∷ 4 ∷ 6 ∷ []) ∷ (7 ∷ []) ∷ []) ≡ Some (1 ∷ 2 ∷ 4 ∷ 6 ∷ 7 ∷ []))
inserted = (refl, refl)

-- A goes from [A, B] and [C, D]: C is lost where the last block is written first
removed : (after_one (backward_writes ((2 ∷ 3 ∷ []) ∷ (4 ∷ []) ∷ [])) ((1 ∷ 2 ∷ []) ∷ (3 ∷ 4 ∷ []) ∷ []) ≡ Some (1 ∷ 2 ∷ 4 ∷ [])) × (after_one (forward_writes 0 ((2 ∷ 3 ∷ []) ∷ (4 ∷ []) ∷ [])) ((1 ∷ 2 ∷ []) ∷ (3 ∷ 4 ∷ []) ∷ []) ≡ Some (2 ∷ 3 ∷ 4 ∷ []))
removed = (refl, refl)

-- both chains are cut
cuts : IsCut (λ (n : ℕ). 60) 254 12 ((1 ∷ 2 ∷ 4 ∷ 6 ∷ []) ∷ (7 ∷ []) ∷ []) (1 ∷ 2 ∷ 4 ∷ 6 ∷ 7 ∷ []) × IsCut (λ (n : ℕ). 120) 254 12 ((1 ∷ 2 ∷ []) ∷ (3 ∷ 4 ∷ []) ∷ []) (1 ∷ 2 ∷ 3 ∷ 4 ∷ [])
cuts = (record { holds = refl; fits = (omega arith, omega arith); full = (omega arith, tt) }, record { holds = refl; fits = (omega arith, omega arith); full = (omega arith, tt) })
