-- A text in ASCII is its characters.
use Rattle.std.proofs.Common.{◌≡◌, ℕ, ◌<◌, true, List, nat_lt, arith}
use Rattle.std.specs.Str.{IsAscii, IsUtf8, chars}
use Rattle.std.proofs.lemmas.Bool.Decides.{nat_tests}
use Rattle.std.proofs.lemmas.List.Elements.{All-weaker}
use Rattle.std.proofs.lemmas.List.Sums.{AllPass-from_list_all}
use Rattle.std.proofs.lemmas.Str.{chars-IsAscii, IsUtf8-from_ascii}
use Rattle.std.proofs.lemmas.Str.Ascii.{IsAscii-from_all}
use Rattle.card_text.specs.Names.{has_only_ascii}

ascii_is : (text : List ℕ) → has_only_ascii text ≡ true → IsAscii text
ascii_is text h = IsAscii-from_all text (All-weaker (λ b. nat_lt b 128 ≡ true) (λ b. b < 128) (λ b k. grind (arith, nat_tests, k)) text (AllPass-from_list_all (λ b. nat_lt b 128) text h))

pub ascii_characters : (text : List ℕ) → has_only_ascii text ≡ true → chars text ≡ text
ascii_characters text h = chars-IsAscii text (ascii_is text h)

pub ascii_text : (text : List ℕ) → has_only_ascii text ≡ true → IsUtf8 text
ascii_text text h = IsUtf8-from_ascii text (ascii_is text h)

pub ruleset ascii = (ascii_characters, ascii_text)
