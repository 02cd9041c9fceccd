use Rattle.std.proofs.Common.{◌≤◌, length}
use Rattle.std.specs.List.{AllByRecursion}
use Rattle.vol_model.specs.declared.contents.Shelf.{Shelf}
use Rattle.iebcopy_util.specs.Items.{orders_items}
use Rattle.iebcopy_util.specs.Tasks.{IsLawfulOrder}
use Rattle.iebcopy_util.proofs.RunLemmas.{RunsSoFar}
use Rattle.iebcopy_util.proofs.program.run_orders.Given as goal

abbrev pub invariant-loop-parts : goal.invariant-loop-parts
invariant-loop-parts g l = record {
  far : RunsSoFar g.M.Machine (λ (shelf : Shelf). orders_items l.step shelf l.orders) (λ (shelf : Shelf). orders_items l.step shelf l.rest) l.code l.fn.machine l.machine;
  lawful : AllByRecursion IsLawfulOrder l.rest;
  small : l.code ≤ 16;
}

abbrev pub decreases-loop-parts : goal.decreases-loop-parts
decreases-loop-parts g l = length l.rest
