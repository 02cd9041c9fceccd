-- Characters in parentheses.
use Rattle.std.specs.Prelude.{ℕ, ◌+◌, ◌-◌, ◌==◌, Bool, false, not, ◌&&◌, ◌||◌, if◌then◌else◌, List, [], ◌∷◌, length, slice_get, Option, Some, None}
use Rattle.std.specs.List.{list_any, slice_split}
use Rattle.std.specs.Option.{option_map_or}
use Rattle.std.specs.Borrow.{Bor}
use Rattle.card_text.specs.declared.characters.Character.{Character}
use Rattle.card_text.specs.declared.nesting.Mark.{Mark}
use Rattle.card_text.specs.Characters.{quoted_behind}

-- the number of open parentheses after a character; those in quotes don't count
abbrev pub depth_behind : ℕ → Character → ℕ
depth_behind depth c =
    if c.quoted then depth
    else (if c.byte == 40 then depth + 1 else (if c.byte == 41 then depth - 1 else depth))

-- each character with the number of parentheses that are open before it
abbrev pub nested : ℕ → List Character → List Mark
nested depth [] = []
nested depth (c ∷ text) = record { character = c; depth = depth } ∷ nested (depth_behind depth c) text

-- a comma outside quotes with that many parentheses around it
abbrev pub is_separator : ℕ → Mark → Bool
is_separator depth mark = (mark.character.byte == 44) && (not mark.character.quoted && (mark.depth == depth))

-- the pieces of what follows a comma, if there is one
abbrev pub other_pieces : ℕ → Option (Bor (List Mark)) → List (List Mark)
other_pieces depth None = []
other_pieces depth (Some rest) = slice_split (is_separator depth) rest.now

-- a closing parenthesis that closes none
abbrev pub closes_none : Mark → Bool
closes_none mark = (mark.character.byte == 41) && (not mark.character.quoted && (mark.depth == 0))

abbrev pub is_open_behind : Mark → Bool
is_open_behind mark = not (depth_behind mark.depth mark.character == 0)

-- whether a piece ends within quotes or parentheses
abbrev pub ends_open : List Mark → Bool
ends_open piece =
    option_map_or (λ mark. quoted_behind mark.character.quoted mark.character.byte || is_open_behind mark) (slice_get piece (length piece - 1)) false

-- whether a parenthesis or a quote of a piece has no partner in it
abbrev pub is_unbalanced : List Mark → Bool
is_unbalanced piece = list_any closes_none piece || ends_open piece
