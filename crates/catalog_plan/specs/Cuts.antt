-- A chain that is cut into blocks.
use Rattle.std.specs.Prelude.{ℕ, List, [], ◌∷◌}
use Rattle.catalog_blocks.specs.declared.blocks.CatEntry.{CatEntry}
use Rattle.catalog_blocks.specs.declared.chains.Chain.{Chain}

-- blocks at these numbers, one after the other
abbrev pub at_numbers : List ℕ → List (List CatEntry) → List (ℕ × List CatEntry)
at_numbers ns [] = []
at_numbers [] (b ∷ bs) = []
at_numbers (n ∷ ns) (b ∷ bs) = (n, b) ∷ at_numbers ns bs

-- a chain in these blocks
abbrev pub cut_chain : Chain → List ℕ → List (List CatEntry) → Chain
cut_chain c ns cut = record c { blocks = at_numbers ns cut }
