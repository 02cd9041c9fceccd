-- A cut that is being made.
use Rattle.std.specs.Prelude.{◌≡◌, ℕ, suc, List, [], ◌∷◌, ◌++◌, ⊤}
use Rattle.chain_spec.specs.Cut.{AllFit, IsCut, IsFull, total}
use Rattle.chain_spec.specs.Kept.{joined}

-- the writes of these blocks from this place on, from the first to the last
abbrev pub forward_writes : {E : Type 0} → ℕ → List (List E) → List (ℕ × List E)
forward_writes place [] = []
forward_writes place (b ∷ bs) = (place, b) ∷ forward_writes (suc place) bs

-- the blocks that these writes write
abbrev pub blocks_of : {E : Type 0} → List (ℕ × List E) → List (List E)
blocks_of [] = []
blocks_of (w ∷ ws) = w.1 ∷ blocks_of ws

-- an open block has an entry, where blocks stand before it
abbrev pub IsStarted : {E : Type 0} → List (List E) → List E → Type 0
IsStarted [] block = ⊤
IsStarted (d ∷ ds) [] = ⊥
IsStarted (d ∷ ds) (e ∷ es) = ⊤

-- these writes of full blocks and this open block hold these entries
pub record IsOpen {E : Type 0} (size : E → ℕ) (room end : ℕ)
    (done : List (ℕ × List E)) (block : List E) (used : ℕ) (entries : List E) : Type 0 where
  pub ordered : done ≡ forward_writes 0 (blocks_of done)
  pub holds : joined (blocks_of done ++ (block ∷ [])) ≡ entries
  pub fits : AllFit size room 0 (blocks_of done ++ (block ∷ []))
  pub full : IsFull size room end (blocks_of done ++ (block ∷ []))
  pub started : IsStarted (blocks_of done) block
  pub counts : total size block ≡ used

-- these writes write the cut of these entries, from the first block to the last
pub record IsForward {E : Type 0} (size : E → ℕ) (room end : ℕ) (entries : List E) (writes : List (ℕ × List E)) : Type 0 where
  pub cut : IsCut size room end (blocks_of writes) entries
  pub ordered : writes ≡ forward_writes 0 (blocks_of writes)
