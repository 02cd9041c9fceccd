-- The cards of a deck's lines, as this project's profile has them.
use Rattle.std.specs.Prelude.{◌≡◌, ℕ, ◌+◌, ◌-◌, ◌*◌, ◌≤◌, ◌==◌, Bool, true, false, ◌&&◌, if◌then◌else◌, nat_le, min, List, [], ◌∷◌, ◌++◌, length, replicate, Option, Some, None, Result, Ok, Err}
use Rattle.std.specs.List.{list_all, prefix_len}
use Rattle.std.specs.Str.Lines.{lines}
use Rattle.card_text.specs.declared.cards.Card.{Card}
use Rattle.deck_cards.specs.declared.reader.DeckErr.{DeckErr}
use Rattle.deck_cards.specs.declared.reader.DeckErr.TheVariants.{Long, Wide, Byte, Read, Memory}
use Rattle.deck_cards.specs.declared.reader.Reader.{Reader}

-- a character of ASCII from the blank to the tilde
abbrev pub is_printable : ℕ → Bool
is_printable b = nat_le 32 b && nat_le b 126

-- the card of a line, with blanks up to column 80
abbrev pub card_of : List ℕ → Card
card_of line = record { bytes = line ++ replicate (80 - length line) 32 }

-- the fault after so many printable columns of a card
abbrev pub fault : ℕ → ℕ → DeckErr
fault card columns = if columns == 80 then Wide card else Byte card (columns + 1)

-- the first fault of a line: a byte in column 81, or one in columns 1 to 80 that isn't printable
unfoldable pub line_fault : ℕ → List ℕ → Option DeckErr
line_fault card line =
    let columns = min 80 (prefix_len is_printable line) in
    if columns == length line then None else Some (fault card columns)

abbrev pub unless_fault : Option DeckErr → Result (List Card) DeckErr → Result (List Card) DeckErr
unless_fault None cards = cards
unless_fault (Some e) cards = Err e

-- cards and those of further lines, or the first fault from the left: a deck has at most 100,000 cards
abbrev pub cards_with : List Card → List (List ℕ) → Result (List Card) DeckErr
cards_with cards [] = Ok cards
cards_with cards (line ∷ others) =
    if length cards == 100000 then Err Long
    else unless_fault (line_fault (length cards + 1) line) (cards_with (cards ++ card_of line ∷ []) others)

-- the cards of a deck's bytes: a line feed ends a line, and a carriage return before it is dropped
unfoldable pub deck : List ℕ → Result (List Card) DeckErr
deck bytes = cards_with [] (lines bytes)

-- what cards and the columns of one more line, with a carriage return after them, become with the bytes still to come
abbrev pub cards_behind : List Card → List ℕ → Bool → List ℕ → Result (List Card) DeckErr
cards_behind cards line returned rest = cards_with cards (lines (line ++ (if returned then 13 ∷ rest else rest)))

-- what a reader's cards and line become with the bytes still to come
unfoldable pub deck_of : Reader → List ℕ → Result (List Card) DeckErr
deck_of reader rest = cards_behind reader.cards.items reader.line.items reader.returned rest

-- at most 100000 cards, and before the last of them at most 80 printable columns of one more
pub record IsFit (reader : Reader) : Type 0 where
  pub cards : length reader.cards.items ≤ 100000
  pub line : length reader.line.items ≤ 80
  pub printable : list_all is_printable reader.line.items ≡ true
  pub last : length reader.cards.items ≡ 100000 → length reader.line.items ≡ 0
  pub returned : length reader.cards.items ≡ 100000 → reader.returned ≡ false

-- more than the number of bytes that can still be taken
abbrev pub room : Reader → ℕ
room reader = 83 * (100000 - length reader.cards.items) + (82 - (length reader.line.items + (if reader.returned then 1 else 0)))

-- what a fault of the bytes says of them, and what one of the source says of it
abbrev pub Refuses : DeckErr → Type 0 → Type 0 → Type 0
Refuses Long bytes source = bytes
Refuses (Wide card) bytes source = bytes
Refuses (Byte card column) bytes source = bytes
Refuses Read bytes source = source
Refuses Memory bytes source = Unit {0}
