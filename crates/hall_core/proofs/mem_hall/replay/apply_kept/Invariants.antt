use Rattle.std.proofs.Common.{◌≡◌, ◌+◌, ◌≤◌, take, drop, length}
use Rattle.hall_core.specs.History.{with_changes, kept}
use Rattle.hall_core.specs.Held.{files_of, shapes_of}
use Rattle.hall_core.specs.Replay.{changes_in, files_made}
use Rattle.hall_core.proofs.mem_hall.replay.apply_kept.Given as goal

-- what is still to be kept, of the files with the changes so far
abbrev pub invariant-loop-step : goal.invariant-loop-step
invariant-loop-step l = record {
  left : with_changes (files_of l.fn.files.items) (kept l.keep (changes_in l.source.files.now l.source.units.now l.source.pool.now l.steps)) ≡ with_changes (files_of l.files.items) (kept (drop l.next l.keep) (changes_in l.source.files.now l.source.units.now l.source.pool.now (drop l.step-index l.steps)));
  shapes : shapes_of (files_of l.files.items) ≡ take (length l.files.items) (shapes_of (files_of l.source.files.now));
  count : length l.files.items ≡ length l.fn.files.items + files_made (take l.step-index l.steps);
  flags : l.next ≤ l.step-index;
}
