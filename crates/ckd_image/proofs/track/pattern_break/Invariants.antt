-- A break of the whole is the break of what is left, and the bytes reach as far as the places that were compared.
use Rattle.std.proofs.Common.{◌≡◌, ◌≤◌, length}
use Rattle.ckd_image.specs.Break.{pattern_break}
use Rattle.ckd_image.proofs.Patterns.{break_from}
use Rattle.ckd_image.proofs.track.pattern_break.Given as goal

abbrev pub invariant-loop-at : goal.invariant-loop-at
invariant-loop-at l = record {
  place : pattern_break l.pattern l.bytes ≡ break_from l.at l.pattern l.bytes;
  room : l.at ≤ length l.bytes;
}
