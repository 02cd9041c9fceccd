-- The operands of statements by their keywords, and the forms of their values (Utilities GC28-6586, in this project's profile).
use Rattle.std.specs.Prelude.{◌≡◌, replicate, ℕ, ◌==◌, nat_le, Bool, false, ◌&&◌, if◌then◌else◌, List, [], ◌∷◌, find, count_by, is_none, Option, Some, None, option_map, option_and_then}
use Rattle.std.specs.Option.{option_map_or}
use Rattle.std.specs.List.{list_any}
use Rattle.std.specs.Str.{bytes_eq}
use Rattle.ckd_image.specs.Device.{row_of}
use Rattle.ckd_image.specs.declared.device.DiskType.TheVariants.{D2311, D2314, D3330, D3350}
use Rattle.ebcdic_names.specs.declared.names.Dsn.{Dsn}
use Rattle.ebcdic_names.specs.declared.names.Name8.{Name8}
use Rattle.ebcdic_names.specs.declared.names.Serial.{Serial}
use Rattle.card_text.specs.Names.{data_set_name_of, name_of, volume_serial_of}
use Rattle.card_text.specs.Operands.{OperandView}
use Rattle.card_text.specs.Tree.{Tree, Trees, more, none, as_list, as_word}

-- the name is this word
unfoldable pub is_named : List ℕ → Name8 → Bool
is_named word name = option_map_or (λ (n : Name8). bytes_eq n.bytes name.bytes) (name_of word) false

-- the operand has this keyword
abbrev pub has_keyword : List ℕ → OperandView → Bool
has_keyword word o = option_map_or (is_named word) o.key false

-- the operand is this word alone
abbrev pub is_flag : List ℕ → OperandView → Bool
is_flag word o = is_none o.key && option_map_or (bytes_eq word) (as_word o.value) false

-- the value of the operand with a keyword, if one operand has it, and no second
unfoldable pub value_of : List ℕ → List OperandView → Option Tree
value_of word operands =
    if count_by (has_keyword word) operands == 1 then option_map (λ (o : OperandView). o.value) (find (has_keyword word) operands) else None

-- what the value of the operand with a keyword says in its form, where that operand may be missing
unfoldable pub if_given : {X : Type 0} → (Tree → Option X) → List ℕ → List OperandView → Option (Option X)
if_given form word operands =
    if count_by (has_keyword word) operands == 0 then Some None else option_map Some (option_and_then form (value_of word operands))

-- whether a word stands among the operands, where it stands once at most
unfoldable pub flag_of : List ℕ → List OperandView → Option Bool
flag_of word operands = let times = count_by (is_flag word) operands in if nat_le times 1 then Some (times == 1) else None

-- a data set name
unfoldable pub data_set_in : Tree → Option Dsn
data_set_in value = option_and_then data_set_name_of (as_word value)

-- the two items of a list
abbrev pub pair_of : Trees → Option (Tree × Tree)
pair_of none = None
pair_of (more a none) = None
pair_of (more a (more b none)) = Some (a, b)
pair_of (more a (more b (more c rest))) = None

-- whether a word names a device
abbrev pub is_device_word : List ℕ → Bool
is_device_word word = list_any (λ device. bytes_eq word (row_of device).device_word) (D2311 ∷ D2314 ∷ D3330 ∷ D3350 ∷ [])

-- the serial of a volume after its device
abbrev pub serial_behind : Option (List ℕ) → Option (List ℕ) → Option Serial
serial_behind None serial = None
serial_behind (Some device) None = None
serial_behind (Some device) (Some serial) = if is_device_word device then volume_serial_of serial else None

-- the name of a member
unfoldable pub member_in : Tree → Option Name8
member_in value = option_and_then name_of (as_word value)

-- the name of a member after a keyword, if that stands once
unfoldable pub member_of : List ℕ → List OperandView → Option Name8
member_of word operands = option_and_then member_in (value_of word operands)

-- an entry may have this name: it isn't that of the entry which ends a directory
abbrev pub IsMemberName : Name8 → Type 0
IsMemberName name = bytes_eq name.bytes (replicate 8 255) ≡ false

-- dev=serial, which reads as the list of the two
unfoldable pub volume_in : Tree → Option Serial
volume_in value = option_and_then (λ (pair : Tree × Tree). serial_behind (as_word pair.0) (as_word pair.1)) (option_and_then pair_of (as_list value))

-- data set names
abbrev pub data_sets_among : Trees → Option (List Dsn)
data_sets_among none = Some []
data_sets_among (more value values) = option_and_then (λ (dsn : Dsn). option_map (λ (others : List Dsn). dsn ∷ others) (data_sets_among values)) (data_set_in value)

abbrev pub listed_or_one : Option Trees → Tree → Option (List Dsn)
listed_or_one None value = option_map (λ (dsn : Dsn). dsn ∷ []) (data_set_in value)
listed_or_one (Some values) value = data_sets_among values

-- a list of data set names, of which one may stand without parentheses
unfoldable pub data_sets_in : Tree → Option (List Dsn)
data_sets_in value = listed_or_one (as_list value) value

-- the data set name after a keyword, if that stands once
unfoldable pub data_set_of : List ℕ → List OperandView → Option Dsn
data_set_of word operands = option_and_then data_set_in (value_of word operands)

-- the serial of the volume after a keyword, if that stands once
unfoldable pub volume_of : List ℕ → List OperandView → Option Serial
volume_of word operands = option_and_then volume_in (value_of word operands)
