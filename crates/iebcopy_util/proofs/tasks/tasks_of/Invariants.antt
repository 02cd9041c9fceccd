use Rattle.std.proofs.Common.{◌≡◌, ◌+◌, [], length, None}
use Rattle.std.specs.Prelude.{Ok}
use Rattle.std.specs.List.{AllByRecursion}
use Rattle.vol_model.specs.declared.contents.Shelf.{Shelf}
use Rattle.util_steps.specs.Taking.{Reads}
use Rattle.iebcopy_util.specs.Tasks.{IsLawfulMemberCopy, tasks_of}
use Rattle.iebcopy_util.proofs.tasks.tasks_of.Given as goal

abbrev pub invariant-loop-parts : goal.invariant-loop-parts
invariant-loop-parts g l = record {
  number : l.number + length l.rest ≡ length l.inputs;
  read : Reads {T = Unit {0}} g.M.Machine (λ (shelf : Shelf) u. tasks_of shelf l.choice l.number l.given l.tasks.items l.rest ≡ tasks_of shelf l.choice 0 None [] l.inputs) l.fn.machine l.machine (Ok tt);
  lawful : AllByRecursion IsLawfulMemberCopy l.tasks.items;
}

abbrev pub decreases-loop-parts : goal.decreases-loop-parts
decreases-loop-parts g l = length l.rest
