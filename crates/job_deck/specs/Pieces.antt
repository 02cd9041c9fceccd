-- The operands of a statement: the pieces of its field between commas outside quotes and parentheses.
use Rattle.std.specs.Prelude.{◌+◌, ◌==◌, Bool, false, ◌&&◌, if◌then◌else◌, List, [], ◌∷◌, length, drop, find, Option, option_map, Result, Ok, Err}
use Rattle.std.specs.List.{slice_split}
use Rattle.card_text.specs.declared.cards.CardColumn.{CardColumn}
use Rattle.card_text.specs.declared.nesting.Mark.{Mark}
use Rattle.card_text.specs.Cards.{first_place, missing_place}
use Rattle.card_text.specs.Nesting.{nested, is_separator, is_unbalanced}
use Rattle.job_deck.specs.Faults.{fault_at}
use Rattle.job_deck.specs.declared.faults.JclErr.{JclErr}
use Rattle.job_deck.specs.declared.faults.JclKind.TheVariants.{Unbalanced, ContinuationMissing}
use Rattle.job_deck.specs.declared.statements.Joined.{Joined}
use Rattle.job_deck.specs.declared.operands.Piece.{Piece}

-- whether a piece is what a missing card would have: an empty last one
abbrev pub is_absent : Bool → List Mark → List (List Mark) → Bool
is_absent missing text [] = missing && (length text == 0)
is_absent missing text (next ∷ others) = false

-- pieces with the places where they begin; an empty one begins at the comma that ends it
unfoldable pub placed_pieces : Bool → CardColumn → List Mark → List (List Mark) → List Piece
placed_pieces missing end rest [] = []
placed_pieces missing end rest (text ∷ texts) =
    if is_absent missing text texts then []
    else (record { place = first_place end rest; text = text }) ∷ placed_pieces missing end (drop (length text + 1) rest) texts

-- the operands of a statement
unfoldable pub pieces : Joined → List Piece
pieces operands =
    if length operands.field == 0 then []
    else (let field = nested 0 operands.field in
    placed_pieces operands.missing (missing_place operands.last) field (slice_split (is_separator 0) field))

-- an operand with a parenthesis or a quote that has no partner in it
abbrev pub is_unbalanced_piece : Piece → Bool
is_unbalanced_piece piece = is_unbalanced piece.text

-- the first operand that is broken
abbrev pub balance_fault : List Piece → Option JclErr
balance_fault pieces = option_map (λ piece. fault_at piece.place Unbalanced) (find is_unbalanced_piece pieces)

-- after what is read of operands a card may be missing
abbrev pub with_continuation : {X : Type 0} → Joined → Result X JclErr → Result X JclErr
with_continuation operands (Err fault) = Err fault
with_continuation operands (Ok value) =
    if operands.missing then Err (fault_at (missing_place operands.last) ContinuationMissing) else Ok value

-- the fault of operands that a further card should continue
abbrev pub continuation_faults : Joined → List JclErr
continuation_faults operands = if operands.missing then fault_at (missing_place operands.last) ContinuationMissing ∷ [] else []
