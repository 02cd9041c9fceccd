-- The operands of EXEC.
use Rattle.std.specs.Prelude.{ℕ, false, true, if◌then◌else◌, is_some, List, [], ◌∷◌, codes, Option, Some, None, option_map, option_and_then, unwrap_or, Result, Ok, Err, ok_or}
use Rattle.card_text.specs.declared.nesting.Mark.{Mark}
use Rattle.card_text.specs.Cards.{missing_place}
use Rattle.card_text.specs.Names.{name_of}
use Rattle.card_text.specs.Operands.{keyed, whole_value}
use Rattle.card_text.specs.Values.{is_quoted, unquoted, text_of}
use Rattle.job_deck.specs.Faults.{fault_at}
use Rattle.job_deck.specs.Pieces.{is_unbalanced_piece, pieces, with_continuation}
use Rattle.job_deck.specs.Statements.{is_text}
use Rattle.job_deck.specs.declared.faults.JclErr.{JclErr}
use Rattle.job_deck.specs.declared.faults.JclKind.TheVariants.{BadOperand, Unbalanced, NoProgram}
use Rattle.job_deck.specs.declared.statements.Joined.{Joined}
use Rattle.job_deck.specs.declared.operands.Piece.{Piece}
use Rattle.job_deck.specs.declared.exec_operands.ExecKey.{ExecKey}
use Rattle.job_deck.specs.declared.exec_operands.ExecKey.TheVariants.{Pgm, Parm, Region, Time}
use Rattle.job_deck.specs.declared.exec_operands.ExecOperands.{ExecOperands}
use Rattle.job_deck.specs.declared.exec_operands.Program.{Program}
use Rattle.jcl_forms.specs.Attributes.{new_value}

unfoldable pub exec_key_of : List ℕ → Option ExecKey
exec_key_of key =
    if is_text (codes "PGM") key then Some Pgm
    else (if is_text (codes "PARM") key then Some Parm
    else (if is_text (codes "REGION") key then Some Region
    else (if is_text (codes "TIME") key then Some Time
    else None)))

-- the text in quotes, or a word or a list as it stands
unfoldable pub parm_of : List Mark → Option (List ℕ)
parm_of text =
    if is_quoted text then Some (unquoted text)
    else (if is_some (whole_value text) then Some (text_of text) else None)

-- operands with a value for one of them, which has none yet
unfoldable pub with_exec_value : ExecOperands → ExecKey → List Mark → Option ExecOperands
with_exec_value operands Pgm value = option_map (λ v. record operands { pgm = Some v }) (new_value operands.pgm (name_of (text_of value)))
with_exec_value operands Parm value = option_map (λ v. record operands { parm = Some v }) (new_value operands.parm (parm_of value))
with_exec_value operands Region value = if operands.region then None else Some (record operands { region = true })
with_exec_value operands Time value = if operands.time then None else Some (record operands { time = true })

abbrev pub with_exec_parts : ExecOperands → Option (List Mark × List Mark) → Option ExecOperands
with_exec_parts operands None = None
with_exec_parts operands (Some parts) = option_and_then (λ key. with_exec_value operands key parts.1) (exec_key_of (text_of parts.0))

-- operands with one more, or its fault
unfoldable pub with_exec_piece : ExecOperands → Piece → Result ExecOperands JclErr
with_exec_piece operands piece =
    if is_unbalanced_piece piece then Err (fault_at piece.place Unbalanced)
    else ok_or (with_exec_parts operands (keyed piece.text)) (fault_at piece.place BadOperand)

abbrev pub exec_and_then : (ExecOperands → Result ExecOperands JclErr) → Result ExecOperands JclErr → Result ExecOperands JclErr
exec_and_then others (Err fault) = Err fault
exec_and_then others (Ok operands) = others operands

-- operands with those of pieces, or the first fault
unfoldable pub with_exec_pieces : ExecOperands → List Piece → Result ExecOperands JclErr
with_exec_pieces operands [] = Ok operands
with_exec_pieces operands (piece ∷ others) = exec_and_then (λ more. with_exec_pieces more others) (with_exec_piece operands piece)

abbrev pub no_exec_operands : ExecOperands
no_exec_operands = record { pgm = None; parm = None; region = false; time = false }

abbrev pub program_with : JclErr → Result ExecOperands JclErr → Result Program JclErr
program_with missing (Err fault) = Err fault
program_with missing (Ok operands) =
    ok_or (option_map (λ pgm. record { pgm = pgm; parm = unwrap_or operands.parm [] }) operands.pgm) missing

-- the program that operands name, and its parameter; or the first fault
unfoldable pub program_of : Joined → Result Program JclErr
program_of operands =
    program_with (fault_at (missing_place operands.last) NoProgram)
    (with_continuation operands (with_exec_pieces no_exec_operands (pieces operands)))
