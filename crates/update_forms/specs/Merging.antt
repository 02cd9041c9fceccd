-- Old records and cards merged one by one, and numbers given one by one.
use Rattle.std.specs.Prelude.{ℕ, ◌+◌, nat_le, Bool, true, ◌&&◌, if◌then◌else◌, List, [], ◌∷◌, Option, Some, None}
use Rattle.record_files.specs.Streams.{Stream}
use Rattle.update_forms.specs.declared.merging.Choice.{Choice}
use Rattle.update_forms.specs.declared.merging.Choice.TheVariants as choices
use Rattle.update_forms.specs.declared.requests.Numbering.{Numbering}
use Rattle.update_forms.specs.declared.requests.Range.{Range}
use Rattle.update_forms.specs.Records.{is_before, with_number}
use Rattle.update_forms.specs.Editing.{rises, rises_after, stays}

-- ---- what comes next

abbrev pub old_choice : List Range → List ℕ → Choice
old_choice ranges r = if stays ranges r then choices.Old else choices.Drop

abbrev pub both_choice : List Range → List ℕ → List ℕ → Choice
both_choice ranges r card = if is_before card r then choices.Card else (if is_before r card then old_choice ranges r else choices.Instead)

-- what comes next of an old record and of a card
unfoldable pub choice_of : List Range → Option (List ℕ) → Option (List ℕ) → Choice
choice_of ranges None None = choices.End
choice_of ranges None (Some card) = choices.Card
choice_of ranges (Some r) None = old_choice ranges r
choice_of ranges (Some r) (Some card) = both_choice ranges r card

-- ---- merging

-- what comes of the choice between an old record and the first of the cards, where the others come to these
abbrev pub chosen : Choice → List ℕ → List ℕ → List (List ℕ) → List (List ℕ) → List (List ℕ) → List (List ℕ)
chosen choices.Old r card after_old after_card after_both = r ∷ after_old
chosen choices.Drop r card after_old after_card after_both = after_old
chosen choices.Card r card after_old after_card after_both = card ∷ after_card
chosen choices.Instead r card after_old after_card after_both = card ∷ after_both
chosen choices.End r card after_old after_card after_both = []

-- an old record before the others, among cards
abbrev pub among : List Range → List ℕ → (List (List ℕ) → List (List ℕ)) → List (List ℕ) → List (List ℕ)
among ranges r others [] = if stays ranges r then r ∷ others [] else others []
among ranges r others (card ∷ cards) = chosen (both_choice ranges r card) r card (others (card ∷ cards)) (among ranges r others cards) (others cards)

-- old records and cards, of which always the lower comes next; after a fault of the old ones no card comes
unfoldable pub merge : Bool → List Range → List (List ℕ) → List (List ℕ) → List (List ℕ)
merge broken ranges [] cards = if broken then [] else cards
merge broken ranges (r ∷ olds) cards = among ranges r (λ cs. merge broken ranges olds cs) cards

-- ---- order

-- a record stands after the last one
abbrev pub follows : Option (List ℕ) → List ℕ → Bool
follows None r = true
follows (Some last) r = is_before last r

-- records rise strictly, after the last one where there is one
unfoldable pub rises_from : Option (List ℕ) → List (List ℕ) → Bool
rises_from None rs = rises rs
rises_from (Some r) rs = rises_after r rs

-- ---- numbers

-- the number of the next record has at most eight digits
abbrev pub number_fits : Option Numbering → Bool
number_fits None = true
number_fits (Some n) = nat_le n.first 99999999

-- the next record with its number, if it has one of eight digits
abbrev pub number_given : Option Numbering → List ℕ → List ℕ
number_given None r = r
number_given (Some n) r = if nat_le n.first 99999999 then with_number n.first r else r

-- how the records after it are numbered
abbrev pub numbering_after : Option Numbering → Option Numbering
numbering_after None = None
numbering_after (Some n) = if nat_le n.first 99999999 then Some (record n { first = n.first + n.step }) else Some n

-- records with their numbers
unfoldable pub numbered_on : Option Numbering → List (List ℕ) → List (List ℕ)
numbered_on numbering [] = []
numbered_on numbering (r ∷ rs) = number_given numbering r ∷ numbered_on (numbering_after numbering) rs

-- all these numbers have at most eight digits
unfoldable pub fits_on : Option Numbering → List (List ℕ) → Bool
fits_on numbering [] = true
fits_on numbering (r ∷ rs) = number_fits numbering && fits_on (numbering_after numbering) rs

-- ---- what comes of a stream of old records and of cards

unfoldable pub edited_of : List Range → Option Numbering → List (List ℕ) → Stream → Stream
edited_of ranges numbering cards st = record { records = numbered_on numbering (merge st.broken ranges st.records cards); broken = st.broken }

unfoldable pub fits_of : List Range → Option Numbering → List (List ℕ) → Stream → Bool
fits_of ranges numbering cards st = fits_on numbering (merge st.broken ranges st.records cards)
