-- The operands of DD.
use Rattle.std.specs.Prelude.{ℕ, Bool, false, true, not, ◌||◌, ◌&&◌, ◌==◌, nat_le, if◌then◌else◌, List, [], ◌∷◌, codes, length, slice_index, Option, Some, None, option_map, option_and_then, unwrap_or, Result, Ok, Err, ok_or}
use Rattle.ebcdic_names.specs.declared.names.Dsn.{Dsn}
use Rattle.card_text.specs.declared.nesting.Mark.{Mark}
use Rattle.card_text.specs.Cards.{missing_place}
use Rattle.card_text.specs.Operands.{keyed}
use Rattle.card_text.specs.Values.{is_word, text_of}
use Rattle.jcl_forms.specs.Attributes.{attributes_of, new_value, no_attributes}
use Rattle.jcl_forms.specs.Dates.{expiry_of}
use Rattle.jcl_forms.specs.SpaceRequest.{space_of}
use Rattle.jcl_forms.specs.Volume.{volume_of}
use Rattle.jcl_forms.specs.declared.data_set.DdPart.{DdPart}
use Rattle.jcl_forms.specs.declared.disposition.DdStatus.TheVariants.{New}
use Rattle.jcl_forms.specs.declared.disposition.DdAfter.TheVariants.{Delete}
use Rattle.job_deck.specs.Faults.{fault_at}
use Rattle.job_deck.specs.Pieces.{is_unbalanced_piece, pieces, with_continuation}
use Rattle.job_deck.specs.Statements.{is_text, is_either}
use Rattle.job_deck.specs.Taken.{named_set_of, plain_disposition_of}
use Rattle.job_deck.specs.declared.faults.JclErr.{JclErr}
use Rattle.job_deck.specs.declared.faults.JclKind.TheVariants.{BadOperand, Unbalanced}
use Rattle.job_deck.specs.declared.statements.Joined.{Joined}
use Rattle.job_deck.specs.declared.job.DdSet.{DdSet}
use Rattle.job_deck.specs.declared.operands.Piece.{Piece}
use Rattle.job_deck.specs.declared.dd_operands.DdKey.{DdKey}
use Rattle.job_deck.specs.declared.dd_operands.DdKey.TheVariants as key
use Rattle.job_deck.specs.declared.dd_operands.DdOperands.{DdOperands}
use Rattle.job_deck.specs.declared.dd_operands.DdForm.{DdForm}
use Rattle.job_deck.specs.declared.dd_operands.DdForm.TheVariants as form

-- the keywords that have one spelling
unfoldable pub plain_key_of : List ℕ → Option DdKey
plain_key_of text =
    if is_text (codes "DISP") text then Some key.Disp
    else (if is_text (codes "UNIT") text then Some key.Unit
    else (if is_text (codes "SPACE") text then Some key.Space
    else (if is_text (codes "DCB") text then Some key.Dcb
    else (if is_text (codes "LABEL") text then Some key.Label
    else None))))

-- DSN and DSNAME, and VOL and VOLUME, are one keyword each
unfoldable pub dd_key_of : List ℕ → Option DdKey
dd_key_of text =
    if is_either (codes "DSN") (codes "DSNAME") text then Some key.Dsn
    else (if is_either (codes "VOL") (codes "VOLUME") text then Some key.Volume
    else plain_key_of text)

-- operands with a value for one of them, which has none yet
unfoldable pub with_dd_value : List ℕ → DdOperands → DdKey → List Mark → Option DdOperands
with_dd_value date operands key.Dsn value = option_map (λ v. record operands { dsn = Some v }) (new_value operands.dsn (named_set_of (text_of value)))
with_dd_value date operands key.Disp value = option_map (λ v. record operands { disp = Some v }) (new_value operands.disp (plain_disposition_of (text_of value)))
with_dd_value date operands key.Volume value = option_map (λ v. record operands { serial = Some v }) (new_value operands.serial (volume_of (text_of value)))
with_dd_value date operands key.Unit value = if not operands.unit && is_word value then Some (record operands { unit = true }) else None
with_dd_value date operands key.Space value = option_map (λ v. record operands { space = Some v }) (new_value operands.space (space_of (text_of value)))
with_dd_value date operands key.Dcb value = option_map (λ v. record operands { dcb = Some v }) (new_value operands.dcb (attributes_of (text_of value)))
with_dd_value date operands key.Label value = option_map (λ v. record operands { expires = Some v }) (new_value operands.expires (expiry_of date (text_of value)))

abbrev pub with_dd_parts : List ℕ → DdOperands → Option (List Mark × List Mark) → Option DdOperands
with_dd_parts date operands None = None
with_dd_parts date operands (Some parts) = option_and_then (λ k. with_dd_value date operands k parts.1) (dd_key_of (text_of parts.0))

abbrev pub no_dd_operands : DdOperands
no_dd_operands = record { dsn = None; disp = None; serial = None; unit = false; space = None; dcb = None; expires = None }

-- a capital letter or a digit
abbrev pub is_class : List ℕ → Bool
is_class text =
    (length text == 1)
    && ((nat_le 65 (slice_index text 0) && nat_le (slice_index text 0) 90) || (nat_le 48 (slice_index text 0) && nat_le (slice_index text 0) 57))

-- SYSOUT=x
abbrev pub is_sysout : Option (List Mark × List Mark) → Bool
is_sysout None = false
is_sysout (Some parts) = is_text (codes "SYSOUT") (text_of parts.0) && is_class (text_of parts.1)

-- the form that a first operand begins
unfoldable pub first_form : List ℕ → List Mark → Option DdForm
first_form date text =
    if is_text (codes "DUMMY") (text_of text) then Some form.Dummy
    else (if is_text (codes "*") (text_of text) then Some form.Cards
    else (if is_sysout (keyed text) then Some form.Sysout
    else option_map form.Keyed (with_dd_parts date no_dd_operands (keyed text))))

-- a form with one more operand: after DUMMY, * and SYSOUT=x there is none
abbrev pub with_dd_operand : List ℕ → DdForm → List Mark → Option DdForm
with_dd_operand date form.Empty text = first_form date text
with_dd_operand date form.Dummy text = None
with_dd_operand date form.Cards text = None
with_dd_operand date form.Sysout text = None
with_dd_operand date (form.Keyed operands) text = option_map form.Keyed (with_dd_parts date operands (keyed text))

-- a form with one more operand, or its fault
unfoldable pub with_dd_piece : List ℕ → DdForm → Piece → Result DdForm JclErr
with_dd_piece date form piece =
    if is_unbalanced_piece piece then Err (fault_at piece.place Unbalanced)
    else ok_or (with_dd_operand date form piece.text) (fault_at piece.place BadOperand)

abbrev pub dd_and_then : (DdForm → Result DdForm JclErr) → Result DdForm JclErr → Result DdForm JclErr
dd_and_then others (Err fault) = Err fault
dd_and_then others (Ok form) = others form

-- a form with the operands of pieces, or the first fault
unfoldable pub with_dd_pieces : List ℕ → DdForm → List Piece → Result DdForm JclErr
with_dd_pieces date form [] = Ok form
with_dd_pieces date form (piece ∷ others) = dd_and_then (λ more. with_dd_pieces date more others) (with_dd_piece date form piece)

-- a DD without operands has a fault where they are missing
abbrev pub form_or_missing : JclErr → Result DdForm JclErr → Result DdForm JclErr
form_or_missing missing (Err fault) = Err fault
form_or_missing missing (Ok form.Empty) = Err missing
form_or_missing missing (Ok form.Dummy) = Ok form.Dummy
form_or_missing missing (Ok form.Cards) = Ok form.Cards
form_or_missing missing (Ok form.Sysout) = Ok form.Sysout
form_or_missing missing (Ok (form.Keyed operands)) = Ok (form.Keyed operands)

-- the form that operands have, or the first fault
unfoldable pub dd_form_of : List ℕ → Joined → Result DdForm JclErr
dd_form_of date operands =
    form_or_missing (fault_at (missing_place operands.last) BadOperand)
    (with_continuation operands (with_dd_pieces date form.Empty (pieces operands)))

-- the set that operands define: a missing DISP is NEW, and NEW alone means DELETE
abbrev pub set_of : DdOperands → Dsn × DdPart → DdSet
set_of operands named =
    let disposition = unwrap_or operands.disp (New, Delete) in
    record {
      dsn = named.0;
      part = named.1;
      status = disposition.0;
      after = disposition.1;
      serial = operands.serial;
      space = operands.space;
      dcb = unwrap_or operands.dcb no_attributes;
      expires = unwrap_or operands.expires (0 ∷ 0 ∷ 0 ∷ []);
    }
