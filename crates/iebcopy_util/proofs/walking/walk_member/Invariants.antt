use Rattle.std.proofs.Common.{◌≡◌, ◌≤◌, List}
use Rattle.std.specs.Prelude.{Ok}
use Rattle.vol_model.specs.declared.contents.Block.{Block}
use Rattle.vol_model.specs.declared.contents.Shelf.{Shelf}
use Rattle.vol_model.specs.Reading.{member}
use Rattle.util_steps.specs.Copying.{source}
use Rattle.util_steps.specs.Taking.{Reads}
use Rattle.util_steps.proofs.Progress.{left_from}
use Rattle.iebcopy_util.proofs.WalkLemmas.{Walks}
use Rattle.iebcopy_util.proofs.walking.walk_member.Given as goal

abbrev pub invariant-loop-walk : goal.invariant-loop-walk
invariant-loop-walk g l = record {
  low : l.place.r ≤ 255;
  read : Reads {T = Unit {0}} g.M.Machine (λ (shelf : Shelf) u. (bs : List Block) → source shelf l.from ≡ Ok bs → Walks bs (member bs l.fn.start) l.place l.walk) l.fn.machine l.machine (Ok tt);
}

abbrev pub decreases-loop-walk : goal.decreases-loop-walk
decreases-loop-walk g l = left_from l.place
