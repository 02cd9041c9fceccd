-- The entries of a chain of blocks that count. An entry is seen as its name, a number that orders the entries.
use Rattle.std.specs.Prelude.{ℕ, suc, ◌≤◌, List, [], ◌∷◌, ◌++◌, if◌then◌else◌, nat_le, ⊤}

-- the entries of these blocks, one after the other
abbrev pub joined : {E : Type 0} → List (List E) → List E
joined [] = []
joined (b ∷ bs) = b ++ joined bs

-- of these entries those with a name that is at least the bound, and greater than every name kept before
abbrev pub kept_from : {E : Type 0} → (E → ℕ) → ℕ → List E → List E
kept_from name bound [] = []
kept_from name bound (e ∷ es) =
    if nat_le bound (name e) then (e ∷ kept_from name (suc (name e)) es) else (kept_from name bound es)

-- of these entries those with a name that is greater than every name kept before
abbrev pub kept : {E : Type 0} → (E → ℕ) → List E → List E
kept name entries = kept_from name 0 entries

-- the least name that is kept where these entries stand before it
abbrev pub bound_after : {E : Type 0} → (E → ℕ) → ℕ → List E → ℕ
bound_after name bound [] = bound
bound_after name bound (e ∷ es) =
    if nat_le bound (name e) then (bound_after name (suc (name e)) es) else (bound_after name bound es)

-- the names are at least the bound, and rise
abbrev pub RisesFrom : {E : Type 0} → (E → ℕ) → ℕ → List E → Type 0
RisesFrom name bound [] = ⊤
RisesFrom name bound (e ∷ es) = (bound ≤ name e) × RisesFrom name (suc (name e)) es

-- each name is greater than that before it
abbrev pub Rises : {E : Type 0} → (E → ℕ) → List E → Type 0
Rises name entries = RisesFrom name 0 entries
