use Rattle.std.proofs.Common.{ℕ, List}
use Rattle.vtoc_sets.specs.Sets.{HasSet, extents_in}
use Rattle.dadsm_ops.proofs.FreedLists.{AreRead, HaveFirst}
use Rattle.dadsm_ops.proofs.scratching.runs_of.Given as goal

abbrev pub invariant-loop-k : goal.invariant-loop-k
invariant-loop-k l = record {
  read : AreRead l.runs l.k;
  first : (image : List ℕ) → HasSet image l.vol l.set → HaveFirst l.runs l.k (extents_in image l.vol l.set);
}
