-- The values of options, in this project's profile.
use Rattle.std.specs.Prelude.{ℕ, ◌*◌, ◌+◌, ◌==◌, ◌&&◌, not, nat_le, nat_lt, Bool, true, List, [], ◌∷◌, length, find, chars, Option, Some, None, option_map, option_and_then, Result, Ok, Err, if◌then◌else◌}
use Rattle.std.specs.List.{list_any}
use Rattle.std.specs.Str.{bytes_eq}
use Rattle.ckd_image.specs.declared.device.DiskType.{DiskType}
use Rattle.ckd_image.specs.declared.device.DiskType.TheVariants.{D2311, D2314, D3330, D3350}
use Rattle.ckd_image.specs.Device.{row_of}
use Rattle.ebcdic_names.specs.declared.names.Serial.{Serial}
use Rattle.ebcdic_names.specs.Names.{serial_of}
use Rattle.jcl_forms.specs.Numbers.{number_below}

-- a number of one to six digits, from 1 to this limit
unfoldable pub number_up_to : ℕ → List ℕ → Option ℕ
number_up_to limit text = if nat_le (length text) 6 then option_and_then (λ n. if n == 0 then None else Some n) (number_below (limit + 1) text) else None

-- the device of this name
unfoldable pub device_named : List ℕ → Option DiskType
device_named text = find (λ d. bytes_eq (row_of d).device_word text) (D2311 ∷ D2314 ∷ D3330 ∷ D3350 ∷ [])

-- what was read, if it was
abbrev pub if_read : {X E : Type 0} → Result X E → Option X
if_read (Ok x) = Some x
if_read (Err e) = None

-- the serial that a text is
unfoldable pub serial_word : List ℕ → Option Serial
serial_word text = if_read (serial_of (chars text))

-- no two words are equal
unfoldable pub are_distinct : List (List ℕ) → Bool
are_distinct [] = true
are_distinct (word ∷ words) = not (list_any (bytes_eq word) words) && are_distinct words
