-- The parts of an operand's value.
use Rattle.std.specs.Prelude.{ℕ, ◌+◌, ◌-◌, ◌==◌, nat_eq, Bool, ◌&&◌, if◌then◌else◌, nat_lt, List, [], length, take, drop, position, slice_index, Option, Some, None, option_map, unwrap_or}
use Rattle.std.specs.Borrow.{Bor}
use Rattle.std.specs.List.{before_first, slice_split}
use Rattle.std.specs.Cmp.Lexicographic.{pointwise}

abbrev pub is_text : List ℕ → List ℕ → Bool
is_text text word = pointwise nat_eq word text

abbrev pub is_byte : ℕ → ℕ → Bool
is_byte separator b = b == separator

-- what stands before the first separator, or all where there is none
abbrev pub before : ℕ → List ℕ → List ℕ
before separator text = before_first (is_byte separator) text

-- what is after the first separator, if there is one
abbrev pub behind : ℕ → List ℕ → Option (List ℕ)
behind separator text = option_map (λ at. drop (at + 1) text) (position (is_byte separator) text)

-- the parts of what is after a separator, if there is one
abbrev pub other_items : ℕ → Option (Bor (List ℕ)) → List (List ℕ)
other_items separator None = []
other_items separator (Some rest) = slice_split (is_byte separator) rest.now

-- the items of a list after its first
abbrev pub others : List ℕ → List ℕ
others items = unwrap_or (behind 44 items) []

-- what is in the parentheses around a text
unfoldable pub inner : List ℕ → Option (List ℕ)
inner text =
    if nat_lt 1 (length text) && ((slice_index text 0 == 40) && (slice_index text (length text - 1) == 41))
    then Some (take (length text - 2) (drop 1 text)) else None

-- the items of a list, of which one may stand without parentheses
abbrev pub items : List ℕ → List ℕ
items text = unwrap_or (inner text) text
