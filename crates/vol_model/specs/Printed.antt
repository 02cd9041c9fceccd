-- What is printed for a line.
use Rattle.std.specs.Prelude.{ℕ, ◌-◌, List, [], ◌∷◌, ◌++◌, length, take}

-- the text of a line, and a line feed
unfoldable pub printed_line : List ℕ → List ℕ
printed_line text = text ++ 10 ∷ []

-- the text for which these bytes are printed
abbrev pub text_of : List ℕ → List ℕ
text_of bytes = take (length bytes - 1) bytes
