use Rattle.std.proofs.Common.{◌≡◌, ◌++◌, map, take}
use Rattle.pack_spec.specs.Vtoc.{run_of_extent}
use Rattle.vtoc_index.proofs.owned.push_runs.Given as goal

abbrev pub invariant-loop-row : goal.invariant-loop-row
invariant-loop-row l = l.runs.items ≡ l.initial.runs.items ++ map (run_of_extent l.geometry) (take l.row-index l.rows)
