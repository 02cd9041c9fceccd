-- The operands of a statement, or their first fault.
use Rattle.std.specs.Prelude.{◌+◌, ◌==◌, Bool, false, ◌&&◌, if◌then◌else◌, List, [], ◌∷◌, ◌++◌, length, drop, Result, Ok, Err, ok_or}
use Rattle.card_text.specs.declared.cards.CardColumn.{CardColumn}
use Rattle.card_text.specs.declared.nesting.Mark.{Mark}
use Rattle.card_text.specs.Cards.{first_place}
use Rattle.card_text.specs.Nesting.{is_unbalanced}
use Rattle.card_text.specs.Operands.{OperandView, operand}
use Rattle.util_syntax.specs.declared.operands.SynErr.{SynErr}
use Rattle.util_syntax.specs.declared.operands.SynErr.TheVariants.{BadOperand, Unbalanced}
use Rattle.util_syntax.specs.declared.operands.Fault.{Fault}

-- the operand or the fault of the text between two commas
abbrev pub operand_or_fault : List Mark → Result OperandView SynErr
operand_or_fault text = if is_unbalanced text then Err Unbalanced else ok_or (operand text) BadOperand

-- what follows an operand, or its fault at that place
abbrev pub behind_operand : CardColumn → (OperandView → Result (List OperandView) Fault) → Result OperandView SynErr → Result (List OperandView) Fault
behind_operand place next (Ok operand) = next operand
behind_operand place next (Err kind) = Err (record { place = place; kind = kind })

-- whether a text is what a missing card would have: an empty last one
abbrev pub is_absent : Bool → List Mark → List (List Mark) → Bool
is_absent missing text [] = missing && (length text == 0)
is_absent missing text (next ∷ others) = false

-- the operands after those that are done, or the first fault, which stands where its text begins: the rest of the field, and the texts between its commas
abbrev pub operands : Bool → CardColumn → List OperandView → List Mark → List (List Mark) → Result (List OperandView) Fault
operands missing end done rest [] = Ok done
operands missing end done rest (text ∷ texts) =
    if is_absent missing text texts then Ok done
    else behind_operand (first_place end rest)
    (λ operand. operands missing end (done ++ operand ∷ []) (drop (length text + 1) rest) texts) (operand_or_fault text)
