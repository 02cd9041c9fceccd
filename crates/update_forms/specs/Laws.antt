-- What people rely on in a CHANGE and in numbers.
use Rattle.std.specs.Prelude.{◌≡◌, ℕ, zero, suc, ◌+◌, Bool, true, not, ◌&&◌, List, [], filter, slice_get, Some, None, option_map}
use Rattle.std.specs.List.{list_any}
use Rattle.update_forms.specs.declared.requests.Numbering.{Numbering}
use Rattle.update_forms.specs.declared.requests.Range.{Range}
use Rattle.update_forms.specs.declared.requests.Verb.TheVariants.{Change}
use Rattle.update_forms.specs.Records.{is_before, with_number}
use Rattle.update_forms.specs.Editing.{made, numbered, rises, stays}

-- records that rise stay as they are where there are no cards, ranges and numbers
abbrev pub NothingChanges : Type 0
NothingChanges = (olds : List (List ℕ)) → rises olds ≡ true → made Change [] None olds [] ≡ Some olds

-- a card has the sequence of a record
abbrev pub has_its_sequence : List ℕ → List ℕ → Bool
has_its_sequence r card = not (is_before card r) && not (is_before r card)

-- one of these cards has the sequence of a record
abbrev pub has_sequence : List (List ℕ) → List ℕ → Bool
has_sequence cards r = list_any (has_its_sequence r) cards

-- the records of no card's sequence are the old ones of such a sequence outside the ranges, in their order
abbrev pub OthersStay : Type 0
OthersStay = (ranges : List Range) (olds cards rs : List (List ℕ)) → made Change ranges None olds cards ≡ Some rs
    → filter (λ r. not (has_sequence cards r)) rs ≡ filter (λ r. stays ranges r && not (has_sequence cards r)) olds

-- the number at a place, from 0: that of the one before and the increment
abbrev pub number_at : ℕ → ℕ → ℕ → ℕ
number_at first step zero = first
number_at first step (suc k) = number_at first step k + step

-- the numbers rise by the increment
abbrev pub NumbersRise : Type 0
NumbersRise = (n : Numbering) (rs numbers : List (List ℕ)) → numbered (Some n) rs ≡ Some numbers
    → (k : ℕ) → slice_get numbers k ≡ option_map (with_number (number_at n.first n.step k)) (slice_get rs k)
