-- The records passed so far, and a bound on their bytes.
use Rattle.ckd_image.specs.Break.{break_up_to}
use Rattle.ckd_image.specs.Reading.{records_up_to}
use Rattle.ckd_image.proofs.Steps.{StandsAt}
use Rattle.ckd_image.proofs.track.records_up_to.Given as goal

abbrev pub invariant-loop-passed : goal.invariant-loop-passed
invariant-loop-passed l = StandsAt break_up_to records_up_to l.last l.passed l.at l.bytes
