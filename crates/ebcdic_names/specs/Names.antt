-- Data set names, names of one level and volume serials, as lists of characters (Utilities GC28-6586; the faults and their order are this project's profile).
use Rattle.std.specs.Prelude.{ℕ, ◌+◌, ◌-◌, ◌==◌, Bool, false, ◌&&◌, ◌||◌, nat_lt, nat_le, if◌then◌else◌, List, [], ◌∷◌, ◌++◌, length, map, replicate, slice_get, unwrap_or, Option, Some, None, Result, Ok, Err}
use Rattle.std.specs.List.{list_all}
use Rattle.ebcdic_names.specs.CodePage.{ascii_of, ebcdic_of}
use Rattle.ebcdic_names.specs.declared.names.NameForm.{NameForm}
use Rattle.ebcdic_names.specs.declared.names.NameForm.TheVariants.{Levels, OneLevel}
use Rattle.ebcdic_names.specs.declared.names.NameErr.{NameErr}
use Rattle.ebcdic_names.specs.declared.names.NameErr.TheVariants.{Empty, TooLong, BadLevel, BadChar}
use Rattle.ebcdic_names.specs.declared.names.Dsn.{Dsn}
use Rattle.ebcdic_names.specs.declared.names.Name8.{Name8}
use Rattle.ebcdic_names.specs.declared.names.Serial.{Serial}

-- a capital letter, @, # or $
abbrev pub begins_level : ℕ → Bool
begins_level c = (nat_le 65 c && nat_le c 90) || ((c == 64) || ((c == 35) || (c == 36)))

-- a decimal digit
abbrev pub is_digit : ℕ → Bool
is_digit c = nat_le 48 c && nat_le c 57

-- a digit, and in a name of several levels a hyphen
abbrev pub continues_level : NameForm → ℕ → Bool
continues_level Levels c = is_digit c || (c == 45)
continues_level OneLevel c = is_digit c

-- whether c may be the i-th character of a level, counted from 0
abbrev pub level_allows : NameForm → ℕ → ℕ → Bool
level_allows form i c = begins_level c || (nat_lt 0 i && continues_level form c)

-- the faults of character c, the i-th of level k and the o-th of the name: the ninth makes its level too long
unfoldable pub char_faults : NameForm → ℕ → ℕ → ℕ → ℕ → List NameErr
char_faults form k i o c =
    (if i == 8 then BadLevel k ∷ [] else []) ++ (if level_allows form i c then [] else BadChar o ∷ [])

-- the faults of the characters of level k from its i-th on, which is the o-th of the name
abbrev pub char_faults_from : NameForm → ℕ → ℕ → ℕ → List ℕ → List NameErr
char_faults_from form k i o [] = []
char_faults_from form k i o (c ∷ cs) = char_faults form k i o c ++ char_faults_from form k (i + 1) (o + 1) cs

-- the faults of level k, which begins at character o of the name: an empty level is one
abbrev pub level_faults : NameForm → ℕ → ℕ → List ℕ → List NameErr
level_faults form k o [] = BadLevel k ∷ []
level_faults form k o (c ∷ cs) = char_faults_from form k 0 o (c ∷ cs)

-- the faults of the levels from level k on, which begins at character o of the name
abbrev pub levels_faults : NameForm → ℕ → ℕ → List (List ℕ) → List NameErr
levels_faults form k o [] = []
levels_faults form k o (l ∷ ls) = level_faults form k o l ++ levels_faults form (k + 1) (o + length l + 1) ls

-- c before the first level
abbrev pub onto_first : ℕ → List (List ℕ) → List (List ℕ)
onto_first c [] = (c ∷ []) ∷ []
onto_first c (l ∷ ls) = (c ∷ l) ∷ ls

-- a period, in a name of several levels
abbrev pub ends_level : NameForm → ℕ → Bool
ends_level Levels c = c == 46
ends_level OneLevel c = false

-- the levels of a name, of which a name of one level has one
abbrev pub levels : NameForm → List ℕ → List (List ℕ)
levels form [] = [] ∷ []
levels form (c ∷ cs) = if ends_level form c then [] ∷ levels form cs else onto_first c (levels form cs)

-- the first fault of a name
abbrev pub level_fault : NameForm → List ℕ → Option NameErr
level_fault form cs = slice_get (levels_faults form 0 0 (levels form cs)) 0

-- the fault of a name: its length goes first
abbrev pub name_fault : NameForm → List ℕ → Option NameErr
name_fault form cs =
    if length cs == 0 then Some Empty else (if nat_lt 44 (length cs) then Some TooLong else level_fault form cs)

-- a capital letter, a digit, @, # or $
abbrev pub serial_allows : ℕ → Bool
serial_allows c = begins_level c || is_digit c

-- the faults of the characters of a volume serial from the o-th on
abbrev pub serial_faults : ℕ → List ℕ → List NameErr
serial_faults o [] = []
serial_faults o (c ∷ cs) = (if serial_allows c then [] else BadChar o ∷ []) ++ serial_faults (o + 1) cs

-- the fault of a volume serial: its length goes first
abbrev pub serial_fault : List ℕ → Option NameErr
serial_fault cs =
    if length cs == 0 then Some Empty
    else (if nat_lt 6 (length cs) then Some TooLong
    else slice_get (serial_faults 0 cs) 0)

-- the EBCDIC byte of a character; a blank fills in where it has none, which no character of a name comes to
unfoldable pub byte_of : ℕ → ℕ
byte_of c = unwrap_or (ebcdic_of c) 0x40

-- the EBCDIC bytes of the characters, with blanks up to n bytes
abbrev pub padded : ℕ → List ℕ → List ℕ
padded n cs = map byte_of cs ++ replicate (n - length cs) 0x40

-- the value, unless there is a fault
abbrev pub unless_fault : {X : Type 0} → Option NameErr → X → Result X NameErr
unless_fault None x = Ok x
unless_fault (Some e) x = Err e

-- what a text of these characters reads as: a name of levels joined by periods
abbrev pub dsn_of : List ℕ → Result Dsn NameErr
dsn_of cs = unless_fault (name_fault Levels cs) (record { bytes = padded 44 cs })

-- a name of one level
abbrev pub name8_of : List ℕ → Result Name8 NameErr
name8_of cs = unless_fault (name_fault OneLevel cs) (record { bytes = padded 8 cs })

-- a volume serial
abbrev pub serial_of : List ℕ → Result Serial NameErr
serial_of cs = unless_fault (serial_fault cs) (record { bytes = padded 6 cs })

-- whether these bytes are blanks alone
abbrev pub are_blanks : List ℕ → Bool
are_blanks bs = list_all (λ b. b == 0x40) bs

-- the bytes without the blanks after them: a byte stays where it or one after it isn't a blank
abbrev pub without_blanks : List ℕ → List ℕ
without_blanks [] = []
without_blanks (b ∷ bs) = if are_blanks (b ∷ bs) then [] else b ∷ without_blanks bs

-- the characters of a name without the blanks after them
unfoldable pub shown : List ℕ → List ℕ
shown bs = map ascii_of (without_blanks bs)
