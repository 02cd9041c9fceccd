-- Generation data groups: the names of generations by their numbers, and which of them go (Utilities GC28-6586, in this project's profile).
use Rattle.std.specs.Prelude.{ℕ, ℤ, pos, negsuc, ◌≡◌, ◌+◌, ◌-◌, ◌*◌, ◌/◌, ◌%◌, ◌==◌, nat_le, nat_lt, max, Bool, true, List, [], ◌∷◌, length, drop, fold, slice_get, Option, Some, None, if◌then◌else◌}
use Rattle.std.specs.List.{AllByRecursion}
use Rattle.std.specs.Ordering.{is_lt, nat_cmp}
use Rattle.std.specs.Cmp.Lexicographic.{slice_cmp}
use Rattle.ebcdic_names.specs.declared.names.Name8.{Name8}
use Rattle.vol_model.specs.Trees.{is_generation, stored_generation}

-- the value of a digit in EBCDIC
abbrev pub digit_value : ℕ → ℕ
digit_value c = c - 0xF0

-- the number that the four digits after G write
abbrev pub number_in : List ℕ → ℕ
number_in (g ∷ a ∷ b ∷ c ∷ d ∷ rest) = 1000 * digit_value a + 100 * digit_value b + 10 * digit_value c + digit_value d
number_in name = 0

-- the number of a generation
unfoldable pub number_of : Name8 → ℕ
number_of name = number_in name.bytes

-- the last digit of a number in EBCDIC
abbrev pub last_digit : ℕ → ℕ
last_digit n = 0xF0 + n % 10

-- GnnnnV00 with the last four digits of a number
unfoldable pub numbered : ℕ → Name8
numbered n = record { bytes = 0xC7 ∷ last_digit (n / 1000) ∷ last_digit (n / 100) ∷ last_digit (n / 10) ∷ last_digit n ∷ 0xE5 ∷ 0xF0 ∷ 0xF0 ∷ [] }

-- the generation of a number with V00; there is none above 9999
unfoldable pub generation : ℕ → Option Name8
generation n = if nat_le n 9999 then Some (numbered n) else None

-- the highest number in a group, 0 in an empty one
unfoldable pub highest : List Name8 → ℕ
highest gens = fold (λ n (name : Name8). max n (number_of name)) 0 gens

-- The generation that a number counts from the newest of a group, which is 0: one above names the highest number and so many
-- more, one below the generation so many places after the newest, if the group has it.
unfoldable pub relative : List Name8 → ℤ → Option Name8
relative gens (pos n) = if nat_lt 0 n then generation (highest gens + n) else slice_get gens 0
relative gens (negsuc n) = slice_get gens (n + 1)

-- whether a list has no item
abbrev pub is_nil : List Name8 → Bool
is_nil gens = length gens == 0

-- the generations for which there is no room beside one more: all but the newest, one fewer than the limit
abbrev pub without_room : List Name8 → ℕ → List Name8
without_room gens limit = drop (limit - 1) gens

-- The generations that go before one is added: those without room, and with EMPTY all where there are such. Nothing makes room
-- where the limit is 0.
unfoldable pub leaving : List Name8 → ℕ → Bool → List Name8
leaving gens limit empty =
    if limit == 0 then []
    else (if is_nil (without_room gens limit) then [] else (if empty then gens else without_room gens limit))

-- how many go
unfoldable pub overflow : List Name8 → ℕ → Bool → ℕ
overflow gens limit empty = length (leaving gens limit empty)

-- one generation is newer than another: the catalog stores it before that
unfoldable pub is_newer : Name8 → Name8 → Bool
is_newer a b = is_lt (slice_cmp nat_cmp (stored_generation a.bytes) (stored_generation b.bytes))

-- names of generations, each newer than all after it: so the catalog holds a group
abbrev pub AreGenerations : List Name8 → Type 0
AreGenerations [] = Unit {0}
AreGenerations (g ∷ gs) = (is_generation g.bytes ≡ true) × AllByRecursion (λ (h : Name8). is_newer g h ≡ true) gs × AreGenerations gs
