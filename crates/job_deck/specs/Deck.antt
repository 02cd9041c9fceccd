-- How the cards of a deck are divided into jobs, steps and statements (this project's profile).
use Rattle.std.specs.Prelude.{ℕ, ◌+◌, Bool, true, false, not, ◌&&◌, ◌||◌, if◌then◌else◌, List, [], ◌∷◌, drop}
use Rattle.std.specs.List.{before_first, after_first, position_or_len}
use Rattle.card_text.specs.declared.cards.Card.{Card}
use Rattle.card_text.specs.declared.characters.Character.{Character}
use Rattle.card_text.specs.Characters.{ends_in_comma}
use Rattle.job_deck.specs.JclCards.{is_jcl, is_comment, is_end, ends_data, continues, field_with_card}
use Rattle.job_deck.specs.Statements.{card_operation, first_operands}
use Rattle.job_deck.specs.declared.deck.DeckCard.{DeckCard}
use Rattle.job_deck.specs.declared.deck.Role.{Role}
use Rattle.job_deck.specs.declared.deck.Role.TheVariants as role
use Rattle.job_deck.specs.declared.statements.Operation.TheVariants as operation

-- what a card is, after a statement with these operands: it continues them where they end in a comma
unfoldable pub role_of : List Character → ℕ × Card → Role
role_of before card =
    if not (is_jcl card) then role.NotJcl
    else (if is_comment card then role.Comment
    else (if is_end card then role.Null
    else (if ends_in_comma before && continues card then role.Continuation
    else role.Statement (card_operation card))))

-- the operands of a statement up to a card
abbrev pub operands_up_to : List Character → ℕ × Card → Role → List Character
operands_up_to before card (role.Statement operation) = first_operands card
operands_up_to before card role.Continuation = field_with_card before card
operands_up_to before card role.NotJcl = []
operands_up_to before card role.Comment = []
operands_up_to before card role.Null = []

-- cards with their numbers and roles, after a statement with these operands
abbrev pub cards_of : ℕ → List Character → List Card → List DeckCard
cards_of number before [] = []
cards_of number before (card ∷ cards) =
    let role = role_of before (number, card) in
    record { card = (number, card); role = role } ∷ cards_of (number + 1) (operands_up_to before (number, card) role) cards

abbrev pub is_job : Role → Bool
is_job (role.Statement operation.Job) = true
is_job _ = false

abbrev pub is_null : Role → Bool
is_null role.Null = true
is_null _ = false

abbrev pub is_exec : Role → Bool
is_exec (role.Statement operation.Exec) = true
is_exec _ = false

abbrev pub is_first : Role → Bool
is_first role.Comment = true
is_first (role.Statement operation) = true
is_first _ = false

abbrev pub is_continuation : Role → Bool
is_continuation role.Continuation = true
is_continuation _ = false

abbrev pub is_comment_role : Role → Bool
is_comment_role role.Comment = true
is_comment_role _ = false

abbrev pub is_comment_card : DeckCard → Bool
is_comment_card card = is_comment_role card.role

abbrev pub begins_job : DeckCard → Bool
begins_job card = is_job card.role

-- a JOB, or a null statement, which ends a job
abbrev pub divides : DeckCard → Bool
divides card = begins_job card || is_null card.role

abbrev pub begins_step : DeckCard → Bool
begins_step card = is_exec card.role

-- the first card of a statement, or a comment
abbrev pub begins_statement : DeckCard → Bool
begins_statement card = is_first card.role

abbrev pub continues_none : DeckCard → Bool
continues_none card = not (is_continuation card.role)

abbrev pub is_delimiter : DeckCard → Bool
is_delimiter card = ends_data card.card

-- a list in groups: each item that passes a test begins one, which goes up to the next
abbrev pub groups : {A : Type 0} → (A → Bool) → List A → List (A × List A)
groups test [] = []
groups test (item ∷ items) = if test item then (item, before_first test items) ∷ groups test items else groups test items

-- of the cards after the first of a statement: those that continue it
abbrev pub continuation : List DeckCard → List DeckCard
continuation cards = before_first continues_none cards

-- and the others, which are no JCL
abbrev pub cards_behind : List DeckCard → List DeckCard
cards_behind cards = drop (position_or_len continues_none cards) cards

-- the data of a DD *: the cards up to the delimiter
abbrev pub data_of : List DeckCard → List DeckCard
data_of cards = before_first is_delimiter cards

abbrev pub behind_data : List DeckCard → List DeckCard
behind_data cards = after_first is_delimiter cards
