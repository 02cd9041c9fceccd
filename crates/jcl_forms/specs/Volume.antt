-- VOL.
use Rattle.std.specs.Prelude.{ℕ, if◌then◌else◌, List, codes, Option, None, option_and_then}
use Rattle.ebcdic_names.specs.declared.names.Serial.{Serial}
use Rattle.card_text.specs.Names.{volume_serial_of}
use Rattle.jcl_forms.specs.Parts.{is_text, before, behind}

-- SER=serial
unfoldable pub volume_of : List ℕ → Option Serial
volume_of text = if is_text (codes "SER") (before 61 text) then option_and_then volume_serial_of (behind 61 text) else None
