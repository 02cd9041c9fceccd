use Rattle.std.proofs.Common.{◌≤◌, length}
use Rattle.vol_model.specs.declared.contents.Shelf.{Shelf}
use Rattle.iebcopy_util.specs.Items.{items_missing}
use Rattle.iebcopy_util.proofs.RunLemmas.{RunsSoFar}
use Rattle.iebcopy_util.proofs.reporting.report_missing.Given as goal

abbrev pub invariant-loop-parts : goal.invariant-loop-parts
invariant-loop-parts g l = record {
  far : RunsSoFar g.M.Machine (λ (shelf : Shelf). items_missing l.card l.out l.tasks l.picks) (λ (shelf : Shelf). items_missing l.card l.out l.tasks l.rest) l.code l.fn.machine l.machine;
  small : l.code ≤ 16;
}

abbrev pub decreases-loop-parts : goal.decreases-loop-parts
decreases-loop-parts g l = length l.rest
