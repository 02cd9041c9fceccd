-- Cards, of which columns 1 to 71 have the text of a statement.
use Rattle.std.specs.Prelude.{ℕ, ◌+◌, ◌-◌, ◌==◌, Bool, if◌then◌else◌, List, [], ◌∷◌, length, reverse, take, position}
use Rattle.std.specs.List.{take_while}
use Rattle.std.specs.Option.{option_map_or}
use Rattle.card_text.specs.declared.cards.Card.{Card}
use Rattle.card_text.specs.declared.cards.CardColumn.{CardColumn}
use Rattle.card_text.specs.declared.characters.Character.{Character}
use Rattle.card_text.specs.declared.nesting.Mark.{Mark}
use Rattle.card_text.specs.Characters.{characters_of}

abbrev pub is_space : ℕ → Bool
is_space b = b == 32

-- columns 1 to 71
abbrev pub statement_columns : ℕ × Card → List ℕ
statement_columns card = take 71 card.1.bytes

-- their characters, which begin in quotes where the first argument says so
unfoldable pub statement_characters : Bool → ℕ × Card → List Character
statement_characters quoted card = characters_of quoted card.0 1 (statement_columns card)

-- the place of a part that is missing at the end of a card: the second column after the last that isn't blank
unfoldable pub missing_place : ℕ × Card → CardColumn
missing_place card =
    record { card = card.0; column = 73 - length (take_while is_space (reverse (statement_columns card))) }

-- the place of the first character, and an end where there is none
abbrev pub first_place : CardColumn → List Mark → CardColumn
first_place end [] = end
first_place end (mark ∷ marks) = record { card = mark.character.card; column = mark.character.column }

abbrev pub has_number : ℕ → ℕ × Card → Bool
has_number number card = card.0 == number

-- how many cards after the first there are up to the card of that number
unfoldable pub cards_up_to : ℕ × Card → List (ℕ × Card) → ℕ → ℕ
cards_up_to card others number =
    if card.0 == number then 0
    else option_map_or (λ at. at + 1) (position (has_number number) others) (length others)
