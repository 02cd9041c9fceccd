-- The statements of utilities on cards (Utilities GC28-6586, in this project's profile): columns 1 to 71 have the text, and column 72 says whether it goes on.
use Rattle.std.specs.Prelude.{ℕ, zero, suc, ◌==◌, Bool, true, false, not, ◌||◌, if◌then◌else◌, List, [], ◌∷◌, ◌++◌, length, map, slice_index, Option, Some, None, option_map, Result, Ok, Err, ok_or}
use Rattle.std.specs.List.{slice_split, after_first}
use Rattle.ebcdic_names.specs.declared.names.Name8.{Name8}
use Rattle.card_text.specs.declared.cards.Card.{Card}
use Rattle.card_text.specs.declared.characters.Character.{Character}
use Rattle.card_text.specs.Cards.{statement_characters, missing_place, has_number}
use Rattle.card_text.specs.Characters.{first_word, behind_word, past_blanks, field_part, in_quotes, ends_in_comma, bytes_of}
use Rattle.card_text.specs.Names.{name_of}
use Rattle.card_text.specs.Nesting.{nested, is_separator}
use Rattle.card_text.specs.Operands.{OperandView, operand_view}
use Rattle.util_syntax.specs.declared.operands.SynErr.{SynErr}
use Rattle.util_syntax.specs.declared.operands.SynErr.TheVariants.{NoOperation, BadOperand, ContinuationMissing}
use Rattle.util_syntax.specs.declared.operands.Fault.{Fault}
use Rattle.util_syntax.specs.declared.items.Head.{Head}
use Rattle.util_syntax.specs.declared.items.Joined.{Joined}
use Rattle.util_syntax.specs.declared.items.Read.{Read}
use Rattle.util_syntax.specs.declared.items.Item.{Item}
use Rattle.util_syntax.specs.declared.items.Item.TheVariants as item
use Rattle.util_syntax.specs.Operands.{operands}

-- whether operands that end so on a card go on on the next one: a comma at their end, or a character in column 72
unfoldable pub goes_on : List Character → ℕ × Card → Bool
goes_on field card = ends_in_comma field || not (slice_index card.1.bytes 71 == 32)

-- whether operands can go on on a card: its column 1 is blank
unfoldable pub continues : ℕ × Card → Bool
continues card = slice_index card.1.bytes 0 == 32

-- the operands with those of one more card, from its first column on that isn't blank
unfoldable pub continued : List Character → ℕ × Card → List Character
continued field card = field ++ field_part (past_blanks (statement_characters (in_quotes field) card))

-- the operands of a statement, the last card that has some, and whether a card is missing after it
pub record JoinedView : Type 0 where
  pub field : List Character
  pub last : ℕ × Card
  pub missing : Bool

abbrev pub joined_view : Joined → JoinedView
joined_view joined = record { field = joined.field.items; last = joined.last; missing = joined.missing }

-- the operands of which the first stand on a card
unfoldable pub joined : List Character → ℕ × Card → List (ℕ × Card) → JoinedView
joined field last [] = record { field = field; last = last; missing = goes_on field last }
joined field last (next ∷ others) =
    if goes_on field last
    then (if continues next then joined (continued field next) next others
    else record { field = field; last = last; missing = true })
    else record { field = field; last = last; missing = false }

-- a name, if the text isn't empty
unfoldable pub optional_name : List Character → Result (Option Name8) SynErr
optional_name [] = Ok None
optional_name (c ∷ text) = ok_or (option_map Some (name_of (bytes_of (c ∷ text)))) BadOperand

-- the operation on a card
unfoldable pub operation : ℕ × Card → List Character → Result Name8 Fault
operation card [] = Err (record { place = missing_place card; kind = NoOperation })
operation card (c ∷ text) =
    ok_or (name_of (bytes_of (c ∷ text))) (record { place = record { card = c.card; column = c.column }; kind = BadOperand })

abbrev pub head_with : ℕ → Result (Option Name8) SynErr → Result Name8 Fault → Result Head Fault
head_with card (Err kind) operation = Err (record { place = record { card = card; column = 1 }; kind = kind })
head_with card (Ok name) (Err fault) = Err fault
head_with card (Ok name) (Ok op) = Ok (record { name = name; op = op })

-- the name and the operation, or the fault of the first of them that has one
unfoldable pub head : ℕ × Card → List Character → List Character → Result Head Fault
head card name op = head_with card.0 (optional_name name) (operation card op)

-- the operands of a field, or their first fault
unfoldable pub field_operands : JoinedView → Result (List OperandView) Fault
field_operands joined =
    if length joined.field == 0 then Ok []
    else (let field = nested 0 joined.field in operands joined.missing (missing_place joined.last) [] field (slice_split (is_separator 0) field))

-- a statement as it is read
pub record StatementView : Type 0 where
  pub card : ℕ
  pub name : Option Name8
  pub op : Name8
  pub operands : List OperandView

pub data ItemView : Type 0 where
  statement : StatementView → ItemView
  fault : ℕ → ℕ → SynErr → ItemView

abbrev pub item_view : Item → ItemView
item_view (item.Stmt s) = statement (record { card = s.card; name = s.name; op = s.op; operands = map operand_view s.operands.items })
item_view (item.Fault card column kind) = fault card column kind

-- what is read, and the number of the card after which reading goes on
pub record ReadView : Type 0 where
  pub item : ItemView
  pub last : ℕ

abbrev pub read_view : Read → ReadView
read_view read = record { item = item_view read.item; last = read.last }

-- a fault; reading goes on after its card
abbrev pub refused : Fault → ReadView
refused f = record { item = fault f.place.card f.place.column f.kind; last = f.place.card }

abbrev pub finished_with : ℕ → Head → JoinedView → Result (List OperandView) Fault → ReadView
finished_with card head joined (Err f) = refused f
finished_with card head joined (Ok operands) =
    if joined.missing then refused (record { place = missing_place joined.last; kind = ContinuationMissing })
    else record { item = statement (record { card = card; name = head.name; op = head.op; operands = operands }); last = joined.last.0 }

unfoldable pub finished : ℕ → Head → JoinedView → ReadView
finished card head joined = finished_with card head joined (field_operands joined)

unfoldable pub read_with : ℕ × Card → JoinedView → Result Head Fault → ReadView
read_with card joined (Err f) = refused f
read_with card joined (Ok head) = finished card.0 head joined

-- the statement or the fault that begins on a card: a name, blanks, the operation, blanks, the operands
unfoldable pub read : ℕ × Card → List (ℕ × Card) → ReadView
read card others =
    let text = statement_characters false card in
    let behind_name = past_blanks (behind_word text) in
    let behind_op = past_blanks (behind_word behind_name) in
    read_with card (joined (field_part behind_op) card others) (head card (first_word text) (first_word behind_name))

unfoldable pub is_comment : ℕ × Card → Bool
is_comment card = slice_index card.1.bytes 0 == 42

-- the cards after the one of that number
abbrev pub cards_after : ℕ → List (ℕ × Card) → List (ℕ × Card)
cards_after number cards = after_first (has_number number) cards

-- the statements and faults on cards, of which there are at most so many: after each, reading goes on at the next card
unfoldable pub items_within : ℕ → List (ℕ × Card) → List ItemView
items_within limit [] = []
items_within zero (card ∷ others) = []
items_within (suc limit) (card ∷ others) =
    if is_comment card then items_within limit others
    else (read card others).item ∷ items_within limit (cards_after (read card others).last (card ∷ others))

-- the statements on cards, in order, each or its first fault; after a fault reading goes on at the card after its own
abbrev pub items_of : List (ℕ × Card) → List ItemView
items_of cards = items_within (length cards) cards
