-- Cards of JCL (this project's profile).
use Rattle.std.specs.Prelude.{ℕ, ◌==◌, Bool, not, ◌&&◌, List, ◌++◌, take, drop, slice_index}
use Rattle.std.specs.List.{list_all}
use Rattle.card_text.specs.declared.cards.Card.{Card}
use Rattle.card_text.specs.declared.characters.Character.{Character}
use Rattle.card_text.specs.Cards.{statement_characters}
use Rattle.card_text.specs.Characters.{past_blanks, field_part, in_quotes}

-- a card that begins with two slashes
unfoldable pub is_jcl : ℕ × Card → Bool
is_jcl card = (slice_index card.1.bytes 0 == 47) && (slice_index card.1.bytes 1 == 47)

unfoldable pub is_comment : ℕ × Card → Bool
is_comment card = is_jcl card && (slice_index card.1.bytes 2 == 42)

abbrev pub has_blanks : List ℕ → Bool
has_blanks columns = list_all (λ b. b == 32) columns

-- two slashes and blanks up to column 71, which end a job
unfoldable pub is_end : ℕ × Card → Bool
is_end card = is_jcl card && has_blanks (take 69 (drop 2 card.1.bytes))

-- a slash and an asterisk, which end data
unfoldable pub ends_data : ℕ × Card → Bool
ends_data card = (slice_index card.1.bytes 0 == 47) && (slice_index card.1.bytes 1 == 42)

-- a card that can continue operands: two slashes, a blank and something else
unfoldable pub continues : ℕ × Card → Bool
continues card = is_jcl card && ((slice_index card.1.bytes 2 == 32) && not (is_end card))

-- operands with those of one more card: from the first that isn't blank to a blank outside quotes
unfoldable pub field_with_card : List Character → ℕ × Card → List Character
field_with_card field card = field ++ field_part (past_blanks (drop 2 (statement_characters (in_quotes field) card)))
