-- Numbers on cards that have a limit (this project's profile).
use Rattle.std.specs.Prelude.{ℕ, ◌==◌, if◌then◌else◌, nat_lt, List, length, Option, Some, None, option_and_then}
use Rattle.card_text.specs.Names.{number_of}

-- the number that a text is, if it is less than a limit
unfoldable pub number_below : ℕ → List ℕ → Option ℕ
number_below limit text = option_and_then (λ n. if nat_lt n limit then Some n else None) (number_of text)

-- a number that may be left out, which is 0 then
unfoldable pub number_or_zero : ℕ → List ℕ → Option ℕ
number_or_zero limit text = if length text == 0 then Some 0 else number_below limit text
