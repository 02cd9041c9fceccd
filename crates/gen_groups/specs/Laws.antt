-- What relative names and the limit of a group mean.
use Rattle.std.specs.Prelude.{ℕ, pos, negsuc, ◌≡◌, ◌+◌, ◌-◌, ◌<◌, ◌≤◌, Bool, true, List, ◌∷◌, length, count_by, take, IfSome}
use Rattle.std.specs.List.{AllByRecursion}
use Rattle.ebcdic_names.specs.declared.names.Name8.{Name8}
use Rattle.vol_model.specs.Trees.{is_generation}
use Rattle.gen_groups.specs.Generations.{AreGenerations, highest, is_newer, leaving, number_of, relative}

-- the newest generation has the highest number
abbrev pub NewestIsHighest : Type 0
NewestIsHighest = (g : Name8) (gs : List Name8) → AreGenerations (g ∷ gs) → highest (g ∷ gs) ≡ number_of g

-- (+n) names a generation that is newer than all of the group
abbrev pub NextIsNewer : Type 0
NextIsNewer = (gens : List Name8) (n : ℕ) → AreGenerations gens → 0 < n
    → IfSome (relative gens (pos n)) (λ g. (is_generation g.bytes ≡ true) × AllByRecursion (λ h. is_newer g h ≡ true) gens)

-- (0) is the newest: no generation is newer
abbrev pub ZeroIsNewest : Type 0
ZeroIsNewest = (gens : List Name8) → AreGenerations gens → IfSome (relative gens (pos 0)) (λ g. count_by (λ h. is_newer h g) gens ≡ 0)

-- (-n) is the one than which n are newer
abbrev pub OlderAreCounted : Type 0
OlderAreCounted = (gens : List Name8) (n : ℕ) → AreGenerations gens → IfSome (relative gens (negsuc n)) (λ g. count_by (λ h. is_newer h g) gens ≡ n + 1)

-- what stays leaves room for one more
abbrev pub RoomIsMade : Type 0
RoomIsMade = (gens : List Name8) (limit : ℕ) (empty : Bool) → 0 < limit → length gens - length (leaving gens limit empty) + 1 ≤ limit

-- the oldest go: each that stays is newer than each that goes, and with EMPTY none stays where one goes
abbrev pub OldestGo : Type 0
OldestGo = (gens : List Name8) (limit : ℕ) (empty : Bool) → AreGenerations gens
    → AllByRecursion (λ g. AllByRecursion (λ h. is_newer g h ≡ true) (leaving gens limit empty)) (take (length gens - length (leaving gens limit empty)) gens)
