-- LABEL, and dates: the year since 1900 and a day of two bytes (System Control Blocks, GC28-6628).
use Rattle.std.specs.Prelude.{ℕ, zero, suc, ◌+◌, ◌-◌, ◌*◌, ◌/◌, ◌%◌, ◌<◌, ◌≤◌, ◌==◌, Bool, ◌&&◌, if◌then◌else◌, nat_lt, nat_le, List, [], ◌∷◌, codes, length, find, slice_index, Option, Some, None, option_map, option_and_then}
use Rattle.std.specs.List.{range_with_len}
use Rattle.jcl_forms.specs.Numbers.{number_below}
use Rattle.jcl_forms.specs.Parts.{is_text, before, behind}

-- the days of a year since 1900, which had 365 itself
abbrev pub year_days : ℕ → ℕ
year_days year = if nat_lt 0 year && (year % 4 == 0) then 366 else 365

-- the days of all years before this
unfoldable pub days_before : ℕ → ℕ
days_before zero = 0
days_before (suc year) = days_before year + year_days year

abbrev pub date_bytes : ℕ → ℕ → List ℕ
date_bytes year day = year ∷ day / 256 ∷ day % 256 ∷ []

abbrev pub year_of : List ℕ → ℕ
year_of date = slice_index date 0

abbrev pub day_of : List ℕ → ℕ
day_of date = slice_index date 1 * 256 + slice_index date 2

-- a date of this century: the days 1 to 366 are taken in every year
pub record IsDate (date : List ℕ) : Type 0 where
  pub year : year_of date < 100
  pub first : 1 ≤ day_of date
  pub last : day_of date ≤ 366

-- whether a day that is counted from the beginning of 1900 is over by the end of a year
abbrev pub ends_by : ℕ → ℕ → Bool
ends_by day year = nat_le day (days_before (year + 1))

-- the years from one on that two digits name
unfoldable pub years_from : ℕ → List ℕ
years_from year = range_with_len year (100 - year)

-- the date of a day that is counted from the beginning of 1900, unless it is after 99365
unfoldable pub date_of_day : ℕ → Option (List ℕ)
date_of_day day = option_map (λ year. date_bytes year (day - days_before year)) (find (ends_by day) (years_from 0))

-- the date that is so many days after another
unfoldable pub date_after : List ℕ → ℕ → Option (List ℕ)
date_after date days = date_of_day (days_before (year_of date) + (day_of date + days))

-- yyddd, a day of 1 to 366
unfoldable pub date_in : List ℕ → Option (List ℕ)
date_in text =
    if length text == 5
    then option_and_then (λ n. if nat_lt 0 (n % 1000) && nat_lt (n % 1000) 367 then Some (date_bytes (n / 1000) (n % 1000)) else None) (number_below 100000 text)
    else None

-- the expiry that a value of LABEL gives on a date: EXPDT=yyddd, or RETPD=n for n days
unfoldable pub expiry_of : List ℕ → List ℕ → Option (List ℕ)
expiry_of date text =
    option_and_then
    (λ value.
    if is_text (codes "EXPDT") (before 61 text) then date_in value
    else (if is_text (codes "RETPD") (before 61 text) then option_and_then (date_after date) (number_below 10000 value)
    else None))
    (behind 61 text)
