-- Records of source members, of which columns 73 to 80 are the sequence number (Utilities GC28-6586, in this project's profile).
use Rattle.std.specs.Prelude.{ℕ, ◌+◌, ◌/◌, ◌%◌, Bool, List, [], ◌∷◌, ◌++◌, map, take, drop}
use Rattle.std.specs.Ordering.{is_lt, nat_cmp}
use Rattle.std.specs.Cmp.Lexicographic.{slice_cmp}
use Rattle.card_text.specs.declared.cards.Card.{Card}
use Rattle.record_files.specs.Streams.{in_ebcdic}
use Rattle.update_forms.specs.declared.records.CardRecord.{CardRecord}

-- a card in EBCDIC
abbrev pub record_of : Card → CardRecord
record_of card = record { bytes = in_ebcdic card.bytes }

-- cards as records
abbrev pub records_in : List CardRecord → List (List ℕ)
records_in cards = map (λ (c : CardRecord). c.bytes) cards

-- columns 73 to 80
abbrev pub sequence : List ℕ → List ℕ
sequence r = drop 72 r

-- the last digit of a number in EBCDIC
abbrev pub last_digit : ℕ → ℕ
last_digit n = 0xF0 + n % 10

-- the last eight digits of a number
unfoldable pub eight_digits : ℕ → List ℕ
eight_digits n =
    last_digit (n / 10000000) ∷ last_digit (n / 1000000) ∷ last_digit (n / 100000) ∷ last_digit (n / 10000)
    ∷ last_digit (n / 1000) ∷ last_digit (n / 100) ∷ last_digit (n / 10) ∷ last_digit n ∷ []

-- a record with this number as its sequence
unfoldable pub with_number : ℕ → List ℕ → List ℕ
with_number n r = take 72 r ++ eight_digits n

-- one sequence stands before another
unfoldable pub stands_before : List ℕ → List ℕ → Bool
stands_before a b = is_lt (slice_cmp nat_cmp a b)

-- the sequence of one record stands before that of another
abbrev pub is_before : List ℕ → List ℕ → Bool
is_before a b = stands_before (sequence a) (sequence b)
