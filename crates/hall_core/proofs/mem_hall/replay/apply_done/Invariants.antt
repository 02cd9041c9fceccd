use Rattle.std.proofs.Common.{take}
use Rattle.hall_core.specs.Replay.{changes_in, done_of, files_made, HasRedone}
use Rattle.hall_core.proofs.mem_hall.replay.apply_done.Given as goal

-- what was done so far was made
abbrev pub invariant-loop-step : goal.invariant-loop-step
invariant-loop-step l = HasRedone l.source.files.now l.fn.files.items l.files.items (done_of (changes_in l.source.files.now l.source.units.now l.source.pool.now (take l.step-index l.steps))) (files_made (take l.step-index l.steps))
