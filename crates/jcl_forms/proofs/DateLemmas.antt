-- Days of years, and the first year by whose end a day is over.
use Rattle.std.proofs.Common.{◌≡◌, ◌∙◌, ap, sym, refl, ℕ, zero, suc, ◌+◌, ◌-◌, ◌*◌, ◌/◌, ◌<◌, ◌≤◌, Bool, true, false, cond, ◌∷◌, find, Some, None, option_map, arith}
use Rattle.std.specs.List.{range_with_len}
use Rattle.std.proofs.lemmas.Bool.Decides.{nat_tests}
use Rattle.jcl_forms.specs.Dates.{year_days, days_before, years_from, ends_by, date_bytes, date_of_day}

one_year_more : (year before : ℕ) → before ≡ 365 * year + (year - 1) / 4 → before + year_days year ≡ 365 * suc year + (suc year - 1) / 4
one_year_more year before h = grind (arith, nat_tests)

-- the years in front have 365 days each, and one more in every fourth
pub days_before_is : (year : ℕ) → days_before year ≡ 365 * year + (year - 1) / 4
unfolding days_before
days_before_is zero = refl
days_before_is (suc year) = one_year_more year (days_before year) (days_before_is year)

range_first : (first count : ℕ) → 0 < count → range_with_len first count ≡ first ∷ range_with_len (first + 1) (count - 1)
range_first first zero h = absurd (omega arith)
range_first first (suc count) h = let less : count ≡ suc count - 1 = omega arith in ap (λ n. first ∷ range_with_len (first + 1) n) less

years_first : (year : ℕ) → year < 100 → years_from year ≡ year ∷ years_from (year + 1)
unfolding years_from
years_first year h =
    let less : 100 - year - 1 ≡ 100 - (year + 1) = omega arith in
    range_first year (100 - year) (omega arith) ∙ ap (λ n. year ∷ range_with_len (year + 1) n) less

-- the year passes a test
pub find_here : (p : ℕ → Bool) (year : ℕ) → year < 100 → p year ≡ true → find p (years_from year) ≡ Some year
find_here p year h e = ap (find p) (years_first year h) ∙ ap (λ b. cond b (Some year) (find p (years_from (year + 1)))) e

-- it fails the test
pub find_behind : (p : ℕ → Bool) (year : ℕ) → year < 100 → p year ≡ false → find p (years_from year) ≡ find p (years_from (year + 1))
find_behind p year h e = ap (find p) (years_first year h) ∙ ap (λ b. cond b (Some year) (find p (years_from (year + 1)))) e

-- no year is left
pub find_nowhere : (p : ℕ → Bool) (year : ℕ) → 100 ≤ year → find p (years_from year) ≡ None
unfolding years_from
find_nowhere p year h = let gone : 100 - year ≡ 0 = omega arith in ap (λ n. find p (range_with_len year n)) gone

ends_here : (day year : ℕ) → day ≤ days_before (year + 1) → ends_by day year ≡ true
ends_here day year h = grind (arith, nat_tests)

goes_on : (day year : ℕ) → days_before (year + 1) < day → ends_by day year ≡ false
goes_on day year h = grind (arith, nat_tests)

-- the year in which a day is, where no earlier one is
pub day_found : (day year end : ℕ) → year < 100 → end ≡ days_before (year + 1) → day ≤ end
    → find (ends_by day) (years_from year) ≡ find (ends_by day) (years_from 0)
    → date_of_day day ≡ Some (date_bytes year (day - days_before year))
unfolding date_of_day
day_found day year end h is e same =
    let here : ends_by day year ≡ true = ends_here day year (omega arith) in
    ap (option_map (λ n. date_bytes n (day - days_before n))) (sym same ∙ find_here (ends_by day) year h here)

-- a day after a year
pub day_behind : (day year end : ℕ) → year < 100 → end ≡ days_before (year + 1) → end < day
    → find (ends_by day) (years_from year) ≡ find (ends_by day) (years_from 0)
    → find (ends_by day) (years_from (year + 1)) ≡ find (ends_by day) (years_from 0)
day_behind day year end h is e same =
    let behind : ends_by day year ≡ false = goes_on day year (omega arith) in
    sym (find_behind (ends_by day) year h behind) ∙ same

pub ruleset days = (days_before_is, find_nowhere)
