use Rattle.std.proofs.Common.{◌≡◌, drop}
use Rattle.vol_model.specs.Space.{EndBy}
use Rattle.space_alloc.specs.Owned.{first_early}
use Rattle.space_alloc.proofs.owned.first_early.Given as goal

abbrev pub invariant-loop-run : goal.invariant-loop-run
invariant-loop-run l = record {
  within : EndBy 65535 (drop l.run-index l.runs);
  same : first_early l.end (drop l.run-index l.runs) ≡ first_early 0 l.runs;
}
