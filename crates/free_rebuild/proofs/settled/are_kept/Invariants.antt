use Rattle.std.proofs.Common.{◌≡◌, true, take}
use Rattle.std.specs.List.{list_all}
use Rattle.free_rebuild.specs.Settled.{is_kept, slots_held}
use Rattle.free_rebuild.proofs.settled.are_kept.Given as goal

abbrev pub invariant-loop-slot : goal.invariant-loop-slot
invariant-loop-slot l =
    let slots = slots_held l.fn.vol in record {
      kept : list_all (is_kept slots) (take l.slot slots) ≡ true;
    }
