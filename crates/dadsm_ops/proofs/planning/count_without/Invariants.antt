use Rattle.std.proofs.Common.{◌≡◌, length, take, drop}
use Rattle.vol_model.specs.Space.{AreApartFrom, EndBy}
use Rattle.dadsm_ops.specs.Allocating.{cut_by}
use Rattle.dadsm_ops.proofs.planning.count_without.Given as goal

abbrev pub invariant-loop-run : goal.invariant-loop-run
invariant-loop-run l = record {
  apart : AreApartFrom l.left (drop l.run-index l.free);
  ends : EndBy 65535 (drop l.run-index l.free);
  count : l.left ≡ length (cut_by l.taken (take l.run-index l.free));
}
