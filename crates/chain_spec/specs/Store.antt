-- A chain of blocks as it stands on a pack, where any of them may break its format.
use Rattle.std.specs.Prelude.{ℕ, Bool, true, false, List, [], ◌∷◌, ◌++◌, Option, Some, None, option_map, if◌then◌else◌}
use Rattle.chain_spec.specs.Kept.{kept}

-- a block: its entries, and whether it is the last (it holds the end entry, or links to no other)
pub record Block (E : Type 0) : Type 0 where
  pub entries : List E
  pub ends : Bool

-- a chain of these blocks
abbrev pub stored : {E : Type 0} → List (List E) → List (Option (Block E))
stored [] = []
stored (b ∷ []) = Some (record { entries = b; ends = true }) ∷ []
stored (b ∷ c ∷ cs) = Some (record { entries = b; ends = false }) ∷ stored (c ∷ cs)

-- the entries of the blocks up to the first that ends the chain; none where none does, or one up to there breaks its format
abbrev pub up_to_end : {E : Type 0} → List (Option (Block E)) → Option (List E)
up_to_end [] = None
up_to_end (None ∷ bs) = None
up_to_end (Some b ∷ bs) = if b.ends then (Some b.entries) else (option_map (λ es. b.entries ++ es) (up_to_end bs))

-- the entries of a chain that are kept, up to its end; none where it can't be read
abbrev pub reads : {E : Type 0} → (E → ℕ) → List (Option (Block E)) → Option (List E)
reads name store = option_map (kept name) (up_to_end store)
