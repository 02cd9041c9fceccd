use Rattle.std.proofs.Common.{◌≡◌, ◌+◌, arith}
use Rattle.jcl_forms.specs.Dates.{days_before}
use Rattle.jcl_forms.proofs.DateLemmas.{day_found, day_behind}
use Rattle.jcl_forms.proofs.dates.date_of_day.Goals as goal

pub returns-then-day-days_before : goal.returns-then-day-days_before
returns-then-day-days_before c =
    let end : c.days_before.result ≡ days_before (c.loop-year.year + 1) = cc in
    let found = day_found c.args.day c.loop-year.year c.days_before.result c.loop-year-test.true end c.if-day-days_before.true c.loop-year.invariant.1 in
    cc

pub loop-year-preserved : goal.loop-year-preserved
loop-year-preserved c =
    let end : c.days_before.result ≡ days_before (c.loop-year.year + 1) = cc in
    (omega arith, day_behind c.args.day c.loop-year.year c.days_before.result c.loop-year-test.true end c.if-day-days_before.false c.loop-year.invariant.1)
