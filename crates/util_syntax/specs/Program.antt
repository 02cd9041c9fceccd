-- Programs that read statements from SYSIN, and the items that answer these (Utilities GC28-6586, in this project's profile).
use Rattle.std.specs.Prelude.{ℕ, List, [], ◌∷◌, codes, map, Option, Some, None, Result, Ok, Err}
use Rattle.ebcdic_names.specs.declared.names.Name8.{Name8}
use Rattle.card_text.specs.Operands.{operand_view}
use Rattle.vol_model.specs.Did.{Did}
use Rattle.vol_model.specs.Events.{Item}
use Rattle.util_syntax.specs.declared.items.Statement.{Statement}
use Rattle.util_syntax.specs.declared.listing.Object.{Object}
use Rattle.util_syntax.specs.declared.listing.Outcome.{Outcome}
use Rattle.util_syntax.specs.declared.listing.Outcome.TheVariants.{Done, Refused, Expires, Dcb, SameSet, BadTtr, BadRecord, SeqOrder}
use Rattle.util_syntax.specs.declared.operands.SynErr.{SynErr}
use Rattle.util_syntax.specs.declared.operands.SynErr.TheVariants.{BadOperand}
use Rattle.util_syntax.specs.declared.program.StatementFault.{StatementFault}
use Rattle.util_syntax.specs.declared.step.DdIn.{DdIn}
use Rattle.util_syntax.specs.declared.step.DdIn.TheVariants.{Dummy, Sysout, Cards, Set}
use Rattle.util_syntax.specs.Items.{ItemView, StatementView, items_of}
use Rattle.util_syntax.specs.Listing.{item_line, named_line, syntax_line}

-- a statement as it is read
abbrev pub statement_view : Statement → StatementView
statement_view s = record { card = s.card; name = s.name; op = s.op; operands = map operand_view s.operands.items }

-- SYSIN in EBCDIC
abbrev pub sysin : Name8
sysin = record { bytes = 0xE2 ∷ 0xE8 ∷ 0xE2 ∷ 0xC9 ∷ 0xD5 ∷ 0x40 ∷ 0x40 ∷ 0x40 ∷ [] }

-- the statements that a DD gives: those on its cards, and none of DUMMY
abbrev pub statements_in : Option DdIn → Option (List ItemView)
statements_in None = None
statements_in (Some Dummy) = Some []
statements_in (Some Sysout) = None
statements_in (Some (Cards cards)) = Some (items_of cards)
statements_in (Some (Set v dsn member append dcb)) = None

-- the item of a statement with a fault
abbrev pub syntax_item : ℕ → SynErr → Item
syntax_item card kind = record { operations = []; lines = syntax_line card kind ∷ []; code = 12 }

-- the item of a step that lacks a DD
abbrev pub no_dd_item : ℕ → Name8 → Item
no_dd_item card name = record { operations = []; lines = named_line card (codes "NO-DD") name ∷ []; code = 16 }

-- a statement that has no place, or not the form of its operation
abbrev pub bad_operand : ℕ → StatementFault
bad_operand card = record { card = card; kind = BadOperand }

-- what became of steps
abbrev pub outcome_of : Result (Unit {0}) Outcome → Outcome
outcome_of (Ok x) = Done
outcome_of (Err outcome) = outcome

-- the condition code of an item, unless its program has another: 8 where it is refused, 12 for bad records or numbers
abbrev pub outcome_code : Outcome → ℕ
outcome_code Done = 0
outcome_code (Refused refusal) = 8
outcome_code Expires = 8
outcome_code Dcb = 8
outcome_code SameSet = 8
outcome_code BadTtr = 8
outcome_code BadRecord = 12
outcome_code SeqOrder = 12

-- the item of steps that one line answers
abbrev pub answered_item : ℕ → List ℕ → Object → Did (Unit {0}) Outcome → Item
answered_item card operation object did =
    let outcome = outcome_of did.answer in
    record { operations = did.operations; lines = item_line card operation object outcome ∷ []; code = outcome_code outcome }
