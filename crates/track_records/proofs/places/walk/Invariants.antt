use Rattle.std.proofs.Common.{◌≤◌, vec_capacity}
use Rattle.track_records.proofs.PlaceLemmas.{Walking}
use Rattle.track_records.proofs.places.walk.Given as goal

abbrev pub invariant-loop-passed : goal.invariant-loop-passed
invariant-loop-passed l = Walking l.bytes l.count l.passed l.at l.places.items × (255 ≤ vec_capacity l.places)
