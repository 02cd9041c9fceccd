-- Operands: values, and values after a keyword (Utilities GC28-6586).
use Rattle.std.specs.Prelude.{◌+◌, ◌==◌, Bool, if◌then◌else◌, List, take, drop, position, Option, Some, None, option_map, option_and_then}
use Rattle.ebcdic_names.specs.declared.names.Name8.{Name8}
use Rattle.card_text.specs.declared.operands.Operand.{Operand}
use Rattle.card_text.specs.declared.nesting.Mark.{Mark}
use Rattle.card_text.specs.Names.{name_of}
use Rattle.card_text.specs.Tree.{Tree, word, list, more, none, value_view}
use Rattle.card_text.specs.Values.{is_word, is_quoted, text_of, value}

-- lists nest at most eight deep
abbrev pub whole_value : List Mark → Option Tree
whole_value text = value 8 0 text

abbrev pub is_equals : Mark → Bool
is_equals mark = mark.character.byte == 61

-- a word before the first equals sign, and what is after it
abbrev pub keyed : List Mark → Option (List Mark × List Mark)
keyed text =
    option_and_then (λ at. if is_word (take at text) then Some (take at text, drop (at + 1) text) else None) (position is_equals text)

-- the value after a device: a word or a list
abbrev pub serial_value : List Mark → Option Tree
serial_value text = if is_quoted text then None else whole_value text

-- the list of a device and what is after it
abbrev pub pair : List Mark → Tree → Tree
pair device serial = list (more (word (text_of device)) (more serial none))

-- the value after a key: dev=serial is the list of the two
abbrev pub value_behind : Option (List Mark × List Mark) → List Mark → Option Tree
value_behind None text = whole_value text
value_behind (Some parts) text = option_map (pair parts.0) (serial_value parts.1)

abbrev pub keyed_value : List Mark → Option Tree
keyed_value text = value_behind (keyed text) text

-- an operand as it is read
pub record OperandView : Type 0 where
  pub key : Option Name8
  pub value : Tree

abbrev pub operand_view : Operand → OperandView
operand_view operand = record { key = operand.key; value = value_view operand.value }

abbrev pub with_key : List Mark → List Mark → Option OperandView
with_key key text =
    option_and_then (λ name. option_map (λ v. record { key = Some name; value = v }) (keyed_value text)) (name_of (text_of key))

abbrev pub operand_with : Option (List Mark × List Mark) → List Mark → Option OperandView
operand_with None text = option_map (λ v. record { key = None; value = v }) (whole_value text)
operand_with (Some parts) text = with_key parts.0 parts.1

-- KEY= and a value, or a value
abbrev pub operand : List Mark → Option OperandView
operand text = operand_with (keyed text) text
