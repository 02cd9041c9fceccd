-- The parts of lines of a listing, as this project's profile has them.
use Rattle.std.specs.Prelude.{ℕ, ◌-◌, List, ◌++◌, codes, length, replicate}
use Rattle.std.specs.Fmt.{decimal}

-- the number of a card in decimal, with zeros in front up to five digits
unfoldable pub card_number : ℕ → List ℕ
card_number card = replicate (5 - length (decimal card)) 48 ++ decimal card

-- a word after a blank
abbrev pub next_word : List ℕ → List ℕ
next_word word = codes " " ++ word
