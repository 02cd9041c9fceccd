-- The room that is left is the capacity less what the records so far cost.
use Rattle.std.proofs.Common.{◌≡◌, ◌-◌, take}
use Rattle.std.specs.List.{sum_by}
use Rattle.ckd_image.specs.Device.{row_of}
use Rattle.ckd_image.specs.Fit.{record_cost}
use Rattle.ckd_image.proofs.fit.balance.Given as goal

abbrev pub invariant-loop-lengths : goal.invariant-loop-lengths
invariant-loop-lengths l = l.room ≡ (row_of l.device).track_capacity - sum_by (λ x. record_cost l.device x.0 x.1) (take l.lengths-index l.records)
