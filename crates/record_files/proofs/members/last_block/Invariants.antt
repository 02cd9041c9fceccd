use Rattle.std.proofs.Common.{◌≡◌, ◌≤◌, List}
use Rattle.std.specs.Prelude.{Ok}
use Rattle.vol_model.specs.declared.contents.Block.{Block}
use Rattle.vol_model.specs.declared.contents.Shelf.{Shelf}
use Rattle.vol_model.specs.Places.{last_place}
use Rattle.vol_model.specs.Reading.{blocks_from}
use Rattle.util_steps.specs.Copying.{source}
use Rattle.util_steps.specs.Taking.{Reads}
use Rattle.util_steps.proofs.Progress.{left_from}
use Rattle.record_files.proofs.members.last_block.Given as goal

abbrev pub invariant-loop-found : goal.invariant-loop-found
invariant-loop-found g l = record {
  low : l.place.r ≤ 255;
  read : Reads {T = Unit {0}} g.M.Machine (λ (shelf : Shelf) u. (bs : List Block) → source shelf l.set ≡ Ok bs → last_place l.last (blocks_from l.place bs) ≡ last_place (record { tt = 0; r = 0 }) bs) l.fn.machine l.machine (Ok tt);
}

abbrev pub decreases-loop-found : goal.decreases-loop-found
decreases-loop-found g l = left_from l.place
