-- Definitions on cases at which near readings of them give something else.
use Rattle.std.proofs.Common.{◌≡◌, ℕ, ◌∷◌, [], refl, None, Some, false, true}
use Rattle.std.specs.Prelude.{replicate}
use Rattle.chain_spec.specs.Cut.{needed}
use Rattle.chain_spec.specs.Kept.{kept}
use Rattle.chain_spec.specs.Store.{reads, stored}

-- [A, B, D] and [C, D, E, end]: C isn't greater than D, so not equal names alone are dropped; after the end nothing is read
two_blocks : reads (λ (n : ℕ). n) (Some (record { entries = 1 ∷ 2 ∷ 4 ∷ []; ends = false }) ∷ Some (record { entries = 3 ∷ 4 ∷ 5 ∷ []; ends = true }) ∷ None ∷ []) ≡ Some (1 ∷ 2 ∷ 4 ∷ 5 ∷ [])
two_blocks = refl

-- a name that is dropped sets no bound
dropped : kept (λ (n : ℕ). n) (4 ∷ 3 ∷ 5 ∷ 4 ∷ 6 ∷ []) ≡ 4 ∷ 5 ∷ 6 ∷ []
dropped = refl

-- without an end, or with a block before it that breaks its format, nothing can be read
no_end : (reads (λ (n : ℕ). n) (Some (record { entries = 1 ∷ []; ends = false }) ∷ []) ≡ None) × (reads (λ (n : ℕ). n) (None ∷ stored ((1 ∷ []) ∷ [])) ≡ None)
no_end = (refl, refl)

-- a directory block takes 20 members of 12 bytes and the end entry; 21 fit without it, so the end entry alone opens the next
members : (needed (λ (n : ℕ). 12) 254 12 (replicate 20 0) ≡ 1) × (needed (λ (n : ℕ). 12) 254 12 (replicate 21 0) ≡ 2) × (needed (λ (n : ℕ). 12) 254 0 (replicate 21 0) ≡ 1) × (needed (λ (n : ℕ). 12) 254 12 [] ≡ 1)
members = (refl, refl, refl, refl)

-- an entry more may need two blocks more
two_more : (needed (λ (n : ℕ). n) 242 0 (121 ∷ 121 ∷ []) ≡ 1) × (needed (λ (n : ℕ). n) 242 0 (121 ∷ 242 ∷ 121 ∷ []) ≡ 3)
two_more = (refl, refl)
