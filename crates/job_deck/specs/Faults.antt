-- The first of faults.
use Rattle.std.specs.Prelude.{◌==◌, ◌&&◌, ◌||◌, if◌then◌else◌, nat_lt, List, [], ◌∷◌, Option, Some, None, Result, Ok, Err}
use Rattle.std.specs.Option.{option_or}
use Rattle.card_text.specs.declared.cards.CardColumn.{CardColumn}
use Rattle.job_deck.specs.declared.faults.JclErr.{JclErr}
use Rattle.job_deck.specs.declared.faults.JclKind.{JclKind}

abbrev pub fault_at : CardColumn → JclKind → JclErr
fault_at place kind = record { card = place.card; column = place.column; kind = kind }

-- the one of two faults that is first in reading order
abbrev pub earlier : JclErr → JclErr → JclErr
earlier first second =
    if nat_lt second.card first.card || ((second.card == first.card) && nat_lt second.column first.column) then second else first

abbrev pub earlier_than : Option JclErr → JclErr → JclErr
earlier_than None fault = fault
earlier_than (Some found) fault = earlier found fault

-- the first of faults in reading order, and of one that is found already
abbrev pub earliest : Option JclErr → List JclErr → Option JclErr
earliest found [] = found
earliest found (fault ∷ faults) = earliest (Some (earlier_than found fault)) faults

-- what is read, or the first of its fault and another
abbrev pub with_first_fault : {X : Type 0} → Option JclErr → Result X JclErr → Result X JclErr
with_first_fault None read = read
with_first_fault (Some fault) (Ok value) = Err fault
with_first_fault (Some fault) (Err other) = Err (earlier fault other)

-- the first of faults that are found in order
abbrev pub first_some : List (Option JclErr) → Option JclErr
first_some [] = None
first_some (found ∷ others) = option_or found (first_some others)

-- what is read after what is read
abbrev pub and_then : {X Y : Type 0} → (X → Result Y JclErr) → Result X JclErr → Result Y JclErr
and_then next (Err fault) = Err fault
and_then next (Ok value) = next value

-- what is read, unless a fault stands in front of it
abbrev pub unless : {X : Type 0} → Option JclErr → Result X JclErr → Result X JclErr
unless None read = read
unless (Some fault) read = Err fault
