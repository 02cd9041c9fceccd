-- What the functions of IEBUPDTE make of old records and of cards (Utilities GC28-6586, in this project's profile).
use Rattle.std.specs.Prelude.{ℕ, ◌+◌, nat_le, Bool, true, not, ◌&&◌, if◌then◌else◌, List, [], ◌∷◌, ◌++◌, filter, fold, Option, Some, None, option_and_then}
use Rattle.std.specs.List.{list_any}
use Rattle.update_forms.specs.declared.requests.Numbering.{Numbering}
use Rattle.update_forms.specs.declared.requests.Range.{Range}
use Rattle.update_forms.specs.declared.requests.Verb.{Verb}
use Rattle.update_forms.specs.declared.requests.Verb.TheVariants.{Add, Change, Repl, Repro}
use Rattle.update_forms.specs.Records.{eight_digits, is_before, sequence, stands_before, with_number}

-- ---- CHANGE

-- the sequence of a record lies in a range
abbrev pub is_within : List ℕ → Range → Bool
is_within r range = not (stands_before (sequence r) (eight_digits range.from)) && not (stands_before (eight_digits range.to) (sequence r))

-- a record whose sequence lies in none of these ranges stays
unfoldable pub stays : List Range → List ℕ → Bool
stays ranges r = not (list_any (is_within r) ranges)

-- records with a card in its order, in the place of one of its sequence
unfoldable pub put : List (List ℕ) → List ℕ → List (List ℕ)
put rs card = filter (λ r. is_before r card) rs ++ card ∷ filter (λ r. is_before card r) rs

-- the old records outside of the ranges, with the cards among them
unfoldable pub merged : List Range → List (List ℕ) → List (List ℕ) → List (List ℕ)
merged ranges olds cards = fold put (filter (stays ranges) olds) cards

-- a record stands before the first of others, and each of these before the next
abbrev pub rises_after : List ℕ → List (List ℕ) → Bool
rises_after r [] = true
rises_after r (s ∷ others) = is_before r s && rises_after s others

-- records rise strictly by their sequences
unfoldable pub rises : List (List ℕ) → Bool
rises [] = true
rises (r ∷ others) = rises_after r others

-- ---- NUMBER

-- records with numbers that rise from one
abbrev pub renumbered : ℕ → ℕ → List (List ℕ) → List (List ℕ)
renumbered first step [] = []
renumbered first step (r ∷ others) = with_number first r ∷ renumbered (first + step) step others

-- each of these numbers has at most eight digits
abbrev pub numbers_fit : ℕ → ℕ → List (List ℕ) → Bool
numbers_fit first step [] = true
numbers_fit first step (r ∷ others) = nat_le first 99999999 && numbers_fit (first + step) step others

-- records as NUMBER has them, where it stands; nothing where a number has more than eight digits
unfoldable pub numbered : Option Numbering → List (List ℕ) → Option (List (List ℕ))
numbered None rs = Some rs
numbered (Some n) rs = if numbers_fit n.first n.step rs then Some (renumbered n.first n.step rs) else None

-- ---- the functions

-- what a function takes of the old records and its cards: ADD and REPL the cards, REPRO the old records, and CHANGE both, which must rise
unfoldable pub taken : Verb → List Range → List (List ℕ) → List (List ℕ) → Option (List (List ℕ))
taken Add ranges olds cards = Some cards
taken Repl ranges olds cards = Some cards
taken Repro ranges olds cards = Some olds
taken Change ranges olds cards = if rises olds && rises cards then Some (merged ranges olds cards) else None

-- the records that a function writes; nothing where sequences or numbers are out of order
unfoldable pub made : Verb → List Range → Option Numbering → List (List ℕ) → List (List ℕ) → Option (List (List ℕ))
made verb ranges numbering olds cards = option_and_then (numbered numbering) (taken verb ranges olds cards)
