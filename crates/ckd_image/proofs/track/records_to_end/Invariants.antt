-- The records passed so far, and a bound on their bytes.
use Rattle.ckd_image.specs.Break.{break_to_end}
use Rattle.ckd_image.specs.Reading.{records_to_end}
use Rattle.ckd_image.proofs.Steps.{StandsAt}
use Rattle.ckd_image.proofs.track.records_to_end.Given as goal

abbrev pub invariant-loop-passed : goal.invariant-loop-passed
invariant-loop-passed l = StandsAt break_to_end records_to_end 255 l.passed l.at l.bytes
