-- The lines of a listing that answer items, and those of faults, as this project's profile has them.
use Rattle.std.specs.Prelude.{ℕ, List, ◌++◌, codes}
use Rattle.std.specs.Fmt.{decimal}
use Rattle.ebcdic_names.specs.Names.{shown}
use Rattle.ebcdic_names.specs.declared.names.Name8.{Name8}
use Rattle.vol_model.specs.Words.{refusal_words}
use Rattle.util_syntax.specs.declared.listing.Object.{Object}
use Rattle.util_syntax.specs.declared.listing.Object.TheVariants as object
use Rattle.util_syntax.specs.declared.listing.Outcome.{Outcome}
use Rattle.util_syntax.specs.declared.listing.Outcome.TheVariants.{Done, Refused, Expires, Dcb, SameSet, BadTtr, BadRecord, SeqOrder}
use Rattle.util_syntax.specs.declared.operands.SynErr.{SynErr}
use Rattle.util_syntax.specs.declared.operands.SynErr.TheVariants.{NoOperation, BadOperand, Unbalanced, ContinuationMissing}
use Rattle.util_syntax.specs.Lines.{card_number, next_word}

-- a name, `set(member)`, or a serial, in ASCII and without trailing blanks
unfoldable pub object_text : Object → List ℕ
object_text (object.Name name) = shown name.bytes
object_text (object.Member set name) = shown set.bytes ++ codes "(" ++ shown name.bytes ++ codes ")"
object_text (object.Volume serial) = shown serial.bytes

-- what became of an item: `OK`, the words of a refusal, or a word of the utilities' own
unfoldable pub outcome_text : Outcome → List ℕ
outcome_text Done = codes "OK"
outcome_text (Refused refusal) = refusal_words refusal
outcome_text Expires = codes "EXPIRES"
outcome_text Dcb = codes "DCB"
outcome_text SameSet = codes "SAME-SET"
outcome_text BadTtr = codes "BAD-TTR"
outcome_text BadRecord = codes "BAD-RECORD"
outcome_text SeqOrder = codes "SEQ-ORDER"

-- the card on which an item begins, its operation, what it names, and what became of it
unfoldable pub item_line : ℕ → List ℕ → Object → Outcome → List ℕ
item_line card operation object outcome =
    card_number card ++ next_word operation ++ next_word (object_text object) ++ next_word (outcome_text outcome)

unfoldable pub syntax_words : SynErr → List ℕ
syntax_words NoOperation = codes "NO-OPERATION"
syntax_words BadOperand = codes "BAD-OPERAND"
syntax_words Unbalanced = codes "UNBALANCED"
syntax_words ContinuationMissing = codes "CONTINUATION-MISSING"

-- the card of a fault of a statement, and its kind
unfoldable pub syntax_line : ℕ → SynErr → List ℕ
syntax_line card kind = card_number card ++ next_word (codes "SYNTAX") ++ next_word (syntax_words kind)

-- a card, a word and a name
unfoldable pub named_line : ℕ → List ℕ → Name8 → List ℕ
named_line card word name = card_number card ++ next_word word ++ next_word (shown name.bytes)

-- the card and the column of a fault of a job, and its kind
unfoldable pub jcl_line : ℕ → ℕ → List ℕ → List ℕ
jcl_line card column kind =
    card_number card ++ next_word (decimal column) ++ next_word (codes "JCL") ++ next_word kind
