-- Names and numbers on cards.
use Rattle.std.specs.Prelude.{ℕ, ◌+◌, ◌-◌, ◌*◌, ◌==◌, Bool, not, ◌&&◌, if◌then◌else◌, nat_le, nat_lt, List, [], ◌∷◌, length, Option, Some, None}
use Rattle.std.specs.List.{list_all}
use Rattle.std.specs.Result.{result_ok}
use Rattle.ebcdic_names.specs.Names.{name8_of, dsn_of, serial_of}
use Rattle.ebcdic_names.specs.declared.names.Dsn.{Dsn}
use Rattle.ebcdic_names.specs.declared.names.Name8.{Name8}
use Rattle.ebcdic_names.specs.declared.names.Serial.{Serial}

abbrev pub has_only_ascii : List ℕ → Bool
has_only_ascii text = list_all (λ b. nat_lt b 128) text

-- the name of one level that a text is
abbrev pub name_of : List ℕ → Option Name8
name_of text = if has_only_ascii text then result_ok (name8_of text) else None

-- the data set name that a text is
abbrev pub data_set_name_of : List ℕ → Option Dsn
data_set_name_of text = if has_only_ascii text then result_ok (dsn_of text) else None

-- the volume serial that a text is
abbrev pub volume_serial_of : List ℕ → Option Serial
volume_serial_of text = if has_only_ascii text then result_ok (serial_of text) else None

abbrev pub is_digit : ℕ → Bool
is_digit b = nat_le 48 b && nat_le b 57

abbrev pub has_only_digits : List ℕ → Bool
has_only_digits text = list_all is_digit text

-- the number that digits write after a number
abbrev pub decimal_value : ℕ → List ℕ → ℕ
decimal_value number [] = number
decimal_value number (digit ∷ digits) = decimal_value (10 * number + (digit - 48)) digits

-- the number that one to eight digits write
abbrev pub number_of : List ℕ → Option ℕ
number_of text =
    if not (length text == 0) && (nat_le (length text) 8 && has_only_digits text) then Some (decimal_value 0 text) else None
