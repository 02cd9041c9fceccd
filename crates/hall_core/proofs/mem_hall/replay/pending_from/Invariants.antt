use Rattle.std.proofs.Common.{take}
use Rattle.hall_core.specs.Replay.{IsPendingFrom}
use Rattle.hall_core.proofs.mem_hall.replay.pending_from.Given as goal

-- the place for the steps so far
abbrev pub invariant-loop-i : goal.invariant-loop-i
invariant-loop-i l = IsPendingFrom (take l.i l.steps) l.from
