-- The parts of a statement: a name, blanks, an operation, blanks, operands.
use Rattle.std.specs.Prelude.{ℕ, ◌==◌, nat_eq, Bool, false, ◌||◌, if◌then◌else◌, List, [], ◌∷◌, codes, length, drop, slice_get, is_none, unwrap_or, replicate}
use Rattle.std.specs.Option.{option_map_or}
use Rattle.std.specs.Cmp.Lexicographic.{pointwise}
use Rattle.ebcdic_names.specs.declared.names.Name8.{Name8}
use Rattle.card_text.specs.declared.cards.Card.{Card}
use Rattle.card_text.specs.declared.cards.CardColumn.{CardColumn}
use Rattle.card_text.specs.declared.characters.Character.{Character}
use Rattle.card_text.specs.Cards.{statement_characters, missing_place}
use Rattle.card_text.specs.Characters.{first_word, behind_word, past_blanks, field_part, ends_in_comma, bytes_of}
use Rattle.card_text.specs.Names.{name_of}
use Rattle.job_deck.specs.Faults.{fault_at}
use Rattle.job_deck.specs.JclCards.{field_with_card}
use Rattle.job_deck.specs.declared.faults.JclErr.{JclErr}
use Rattle.job_deck.specs.declared.faults.JclKind.TheVariants.{BadName, NoOperation, BadOperation}
use Rattle.job_deck.specs.declared.deck.DeckCard.{DeckCard}
use Rattle.job_deck.specs.declared.statements.Joined.{Joined}
use Rattle.job_deck.specs.declared.statements.Operation.{Operation}
use Rattle.job_deck.specs.declared.statements.Operation.TheVariants.{Missing, Job, Exec, Dd, Other}
use Rattle.job_deck.specs.declared.statements.Statement.{Statement}

abbrev pub is_text : List ℕ → List ℕ → Bool
is_text text word = pointwise nat_eq word text

abbrev pub is_either : List ℕ → List ℕ → List ℕ → Bool
is_either one other text = is_text one text || is_text other text

unfoldable pub operation_of : List ℕ → Operation
operation_of word =
    if length word == 0 then Missing
    else (if is_text (codes "JOB") word then Job
    else (if is_text (codes "EXEC") word then Exec
    else (if is_text (codes "DD") word then Dd
    else Other)))

-- the characters of a card after its two slashes
unfoldable pub behind_slashes : ℕ × Card → List Character
behind_slashes card = drop 2 (statement_characters false card)

-- the operation of a card
unfoldable pub card_operation : ℕ × Card → Operation
card_operation card = operation_of (bytes_of (first_word (past_blanks (behind_word (behind_slashes card)))))

-- the name on the first card of a statement
unfoldable pub name_on : ℕ × Card → List ℕ
name_on card = bytes_of (first_word (behind_slashes card))

-- the operands on the first card of a statement
unfoldable pub first_operands : ℕ × Card → List Character
first_operands card = field_part (past_blanks (behind_word (past_blanks (behind_word (behind_slashes card)))))

-- the operands of a statement that go so up to a card, with those of the cards that continue it
unfoldable pub joined : List Character → ℕ × Card → List DeckCard → Joined
joined field last [] = record { field = field; last = last; missing = ends_in_comma field }
joined field last (next ∷ others) = joined (field_with_card field next.card) next.card others

-- the statement on a card and those that continue it
unfoldable pub statement : ℕ × Card → List DeckCard → Statement
statement card others =
    let text = behind_slashes card in
    record {
      card = card;
      name = name_on card;
      operation = first_word (past_blanks (behind_word text));
      operands = joined (first_operands card) card others;
    }

-- the name of eight blanks
abbrev pub blank_name : Name8
blank_name = record { bytes = replicate 8 0x40 }

-- the name of a statement, or blanks where it has none of one level
abbrev pub name_or_blank : List ℕ → Name8
name_or_blank name = unwrap_or (name_of name) blank_name

abbrev pub column_of : ℕ × Card → ℕ → CardColumn
column_of card column = record { card = card.0; column = column }

-- the fault of a statement's name: it is missing where it is needed, or isn't one level
unfoldable pub name_faults : Bool → Statement → List JclErr
name_faults needed s =
    if length s.name == 0
    then (if needed then fault_at (missing_place s.operands.last) BadName ∷ [] else [])
    else (if is_none (name_of s.name) then fault_at (column_of s.card 3) BadName ∷ [] else [])

-- the column of an operation
abbrev pub operation_column : List Character → ℕ
operation_column word = option_map_or (λ c. c.column) (slice_get word 0) 0

-- the fault of a statement that has no operation, or none that is taken
unfoldable pub operation_fault : Statement → JclErr
operation_fault s =
    if length s.operation == 0 then fault_at (missing_place s.card) NoOperation
    else fault_at (column_of s.card (operation_column s.operation)) BadOperation
