-- The writes of a plan, without those that change nothing.
use Rattle.std.specs.Prelude.{◌≡◌, ◌⊎◌, ℕ, suc, nat_eq, set, List, [], ◌∷◌, drop, length, slice_get, slice_index, Some}
use Rattle.catalog_blocks.specs.declared.blocks.CatEntry.{CatEntry}
use Rattle.catalog_blocks.specs.Trees.{Store}
use Rattle.catalog_laws.specs.Writes.{next_after}
use Rattle.catalog_plan.specs.declared.writes.BlockWrite.{BlockWrite}

-- blocks after these were written
abbrev pub wrote : List BlockWrite → Store → Store
wrote [] store = store
wrote (w ∷ ws) store = wrote ws (set store w.number (Some w.block))

-- A write of a chain's block leaves it as it was, the last or not.
pub record IsSame (old : List (List CatEntry)) (blocks : ℕ) (w : ℕ × List CatEntry) : Type 0 where
  pub entries : slice_get old w.0 ≡ Some w.1
  pub ends : nat_eq (suc w.0) (length old) ≡ nat_eq (suc w.0) blocks

-- A write of a block by its number is one of a chain's block by its place.
pub record IsWriteOf (per : ℕ) (ns : List ℕ) (blocks : ℕ) (w : ℕ × List CatEntry) (b : BlockWrite) : Type 0 where
  pub number : b.number ≡ slice_index ns w.0
  pub block : b.block ≡ record { entries = w.1; next = next_after per (nat_eq (suc w.0) blocks) (drop (suc w.0) ns) }

-- these are the writes of those but for some that change nothing
abbrev pub AreThinned : ℕ → List (List CatEntry) → List ℕ → ℕ → List (ℕ × List CatEntry) → List BlockWrite → Type 0
AreThinned per old ns blocks [] [] = Unit {0}
AreThinned per old ns blocks [] (b ∷ bs) = ⊥
AreThinned per old ns blocks (w ∷ ws) [] = IsSame old blocks w × AreThinned per old ns blocks ws []
AreThinned per old ns blocks (w ∷ ws) (b ∷ bs) =
    (IsSame old blocks w × AreThinned per old ns blocks ws (b ∷ bs))
    ⊎ (IsWriteOf per ns blocks w b × AreThinned per old ns blocks ws bs)
