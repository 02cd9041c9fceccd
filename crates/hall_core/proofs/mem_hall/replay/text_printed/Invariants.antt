use Rattle.std.proofs.Common.{◌≡◌, take}
use Rattle.hall_core.specs.Replay.{prints_at}
use Rattle.hall_core.proofs.mem_hall.replay.text_printed.Given as goal

-- what the steps so far printed
abbrev pub invariant-loop-step : goal.invariant-loop-step
invariant-loop-step l = l.out.items ≡ prints_at l.text (take l.step-index l.steps)
