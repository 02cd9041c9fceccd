use Rattle.catalog_plan.proofs.PlainTurns.{plain_all, plain_stops}
use Rattle.catalog_plan.proofs.laws.turn_law.Goals as goal

pub returns : goal.returns
returns c = λ per n store before chain after fresh list new ws out some are apart below plan thin leads was begins. record {
  stops = plain_stops per n store before chain after fresh list new ws out some are apart below plan thin leads was begins.some begins.begins;
  all = plain_all per n store before chain after fresh list new ws out some are apart below plan thin leads was begins.some begins.begins;
}
