-- The room left less one more cost.
use Rattle.std.proofs.Common.{arith}
use Rattle.std.proofs.lemmas.List.Sums.{sum_by_more}
use Rattle.ckd_image.specs.Fit.{record_cost}
use Rattle.ckd_image.proofs.fit.balance.Goals as goal

pub loop-lengths-preserved : goal.loop-lengths-preserved
loop-lengths-preserved c = omega (arith, c.saturating_sub-room.ensures, c.loop-lengths.invariant, c.record_cost.ensures, sum_by_more (λ x. record_cost c.args.device x.0 x.1) c.args.records.now c.loop-lengths.lengths-index (0, 0) (omega arith))
