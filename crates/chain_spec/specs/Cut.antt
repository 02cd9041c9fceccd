-- The cut of a list of entries into blocks. An entry is seen as its size, a block has a room for sizes.
use Rattle.std.specs.Prelude.{◌≡◌, ℕ, suc, ◌+◌, ◌<◌, ◌≤◌, List, [], ◌∷◌, if◌then◌else◌, nat_le, ⊤}
use Rattle.chain_spec.specs.Kept.{joined}

-- the sum of the sizes
abbrev pub total : {E : Type 0} → (E → ℕ) → List E → ℕ
total size [] = 0
total size (e ∷ es) = size e + total size es

-- there is a block, and each fits the room, the last together with the end entry
abbrev pub AllFit : {E : Type 0} → (E → ℕ) → ℕ → ℕ → List (List E) → Type 0
AllFit size room end [] = ⊥
AllFit size room end (b ∷ []) = total size b + end ≤ room
AllFit size room end (b ∷ c ∷ cs) = (total size b ≤ room) × AllFit size room end (c ∷ cs)

-- the size of the first entry of a block with these blocks after it: that of the end entry, where the last has no other
abbrev pub first_size : {E : Type 0} → (E → ℕ) → ℕ → List E → List (List E) → ℕ
first_size size end [] [] = end
first_size size end [] (d ∷ ds) = 0
first_size size end (e ∷ es) ds = size e

-- no block has room for the first entry of the next
abbrev pub IsFull : {E : Type 0} → (E → ℕ) → ℕ → ℕ → List (List E) → Type 0
IsFull size room end [] = ⊤
IsFull size room end (b ∷ []) = ⊤
IsFull size room end (b ∷ c ∷ cs) = (room < total size b + first_size size end c cs) × IsFull size room end (c ∷ cs)

-- these blocks are the cut of these entries, after which comes an end entry of this size (0: none)
pub record IsCut {E : Type 0} (size : E → ℕ) (room end : ℕ) (blocks : List (List E)) (entries : List E) : Type 0 where
  pub holds : joined blocks ≡ entries
  pub fits : AllFit size room end blocks
  pub full : IsFull size room end blocks

-- how many blocks these entries need, the first of which is used so far
abbrev pub needed_from : {E : Type 0} → (E → ℕ) → ℕ → ℕ → ℕ → List E → ℕ
needed_from size room end used [] = if nat_le (used + end) room then 1 else 2
needed_from size room end used (e ∷ es) =
    if nat_le (used + size e) room then (needed_from size room end (used + size e) es)
    else (suc (needed_from size room end (size e) es))

-- how many blocks these entries need, each of which takes as many of them as fit
abbrev pub needed : {E : Type 0} → (E → ℕ) → ℕ → ℕ → List E → ℕ
needed size room end entries = needed_from size room end 0 entries
