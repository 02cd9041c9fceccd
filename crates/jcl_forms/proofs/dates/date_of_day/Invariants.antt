use Rattle.std.proofs.Common.{◌≡◌, ◌≤◌, find}
use Rattle.jcl_forms.specs.Dates.{days_before, ends_by, years_from}
use Rattle.jcl_forms.proofs.dates.date_of_day.Given as goal

abbrev pub invariant-loop-year : goal.invariant-loop-year
invariant-loop-year l =
    (days_before l.year ≤ l.day) × (find (ends_by l.day) (years_from l.year) ≡ find (ends_by l.day) (years_from 0))
