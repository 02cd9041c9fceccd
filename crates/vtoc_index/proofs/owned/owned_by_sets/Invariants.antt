-- What the data sets in the slots so far own and need.
use Rattle.std.proofs.Common.{◌≤◌, ◌*◌, ℕ, List, map, take}
use Rattle.pack_spec.specs.Volume.{data_set_of}
use Rattle.pack_spec.proofs.SetNames.{sets_among}
use Rattle.vtoc_index.specs.Owned.{AreOwned}
use Rattle.vtoc_index.proofs.owned.owned_by_sets.Given as goal

abbrev pub invariant-loop-slot : goal.invariant-loop-slot
invariant-loop-slot l = record {
  owned : (tracks : List (List ℕ)) → AreOwned l.geometry l.fn.vtoc (map (data_set_of l.geometry tracks l.slots) (sets_among (take l.slot-index l.slots))) l.owned;
  few : l.owned.slots ≤ 2 * l.slot-index;
}
