-- The characters of cards, each with its place.
use Rattle.std.specs.Prelude.{ℕ, ◌+◌, ◌-◌, ◌==◌, Bool, false, not, ◌&&◌, if◌then◌else◌, List, [], ◌∷◌, length, map, drop, slice_get}
use Rattle.std.specs.List.{before_first, position_or_len}
use Rattle.std.specs.Option.{option_map_or}
use Rattle.card_text.specs.declared.characters.Character.{Character}

-- a quote begins and ends what is in quotes
abbrev pub quoted_behind : Bool → ℕ → Bool
quoted_behind quoted b = if b == 39 then not quoted else quoted

-- the characters of a card from this column on
abbrev pub characters_of : Bool → ℕ → ℕ → List ℕ → List Character
characters_of quoted card column [] = []
characters_of quoted card column (b ∷ bs) =
    record { byte = b; quoted = quoted; card = card; column = column } ∷ characters_of (quoted_behind quoted b) card (column + 1) bs

abbrev pub is_blank : Character → Bool
is_blank c = c.byte == 32

-- a blank outside quotes
abbrev pub is_field_end : Character → Bool
is_field_end c = is_blank c && not c.quoted

-- the word in front, up to the first blank
abbrev pub first_word : List Character → List Character
first_word text = before_first is_blank text

-- what follows it, from that blank on
abbrev pub behind_word : List Character → List Character
behind_word text = drop (position_or_len is_blank text) text

-- from the first character on that isn't a blank
abbrev pub past_blanks : List Character → List Character
past_blanks text = drop (position_or_len (λ c. not (is_blank c)) text) text

-- the part up to the first blank outside quotes
abbrev pub field_part : List Character → List Character
field_part text = before_first is_field_end text

-- whether what follows these characters is in quotes
abbrev pub in_quotes : List Character → Bool
in_quotes field = option_map_or (λ c. quoted_behind c.quoted c.byte) (slice_get field (length field - 1)) false

-- whether these characters end in a comma outside quotes
abbrev pub ends_in_comma : List Character → Bool
ends_in_comma field = option_map_or (λ c. (c.byte == 44) && not c.quoted) (slice_get field (length field - 1)) false

-- the characters without their places
abbrev pub bytes_of : List Character → List ℕ
bytes_of field = map (λ c. c.byte) field
