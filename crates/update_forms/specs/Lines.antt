-- The cards of SYSIN: data, and statements, each a card by itself (Utilities GC28-6586, in this project's profile).
use Rattle.std.specs.Prelude.{ℕ, ◌==◌, ◌&&◌, if◌then◌else◌, Bool, List, [], ◌∷◌, drop, slice_index, Option, Some, None}
use Rattle.card_text.specs.declared.cards.Card.{Card}
use Rattle.util_syntax.specs.Items.{ItemView, fault, items_of, statement}
use Rattle.util_syntax.specs.Program.{bad_operand}
use Rattle.update_forms.specs.declared.lines.CardLine.{CardLine}
use Rattle.update_forms.specs.declared.lines.CardLine.TheVariants.{Asked, Data, Faulty}
use Rattle.update_forms.specs.declared.requests.Request.{Request}
use Rattle.update_forms.specs.Records.{record_of}
use Rattle.update_forms.specs.Requests.{request_of}

-- the card begins ./
abbrev pub is_statement : Card → Bool
is_statement card = slice_index card.bytes 0 == 46 && slice_index card.bytes 1 == 47

-- the card with blanks in its first two columns
abbrev pub uncovered : Card → Card
uncovered card = record { bytes = 32 ∷ 32 ∷ drop 2 card.bytes }

abbrev pub asked_for : ℕ → Option Request → CardLine
asked_for card None = Faulty (bad_operand card)
asked_for card (Some request) = Asked card request

-- what the one statement of a card asks for, or its fault
unfoldable pub line_with : ℕ → List ItemView → CardLine
line_with card [] = Faulty (bad_operand card)
line_with card (fault place column kind ∷ items) = Faulty (record { card = place; kind = kind })
line_with card (statement s ∷ items) = asked_for s.card (request_of s)

-- what a card is: data, or a statement by itself
unfoldable pub line_of : ℕ × Card → CardLine
line_of card = if is_statement card.1 then line_with card.0 (items_of ((card.0, uncovered card.1) ∷ [])) else Data card.0 (record_of card.1)
