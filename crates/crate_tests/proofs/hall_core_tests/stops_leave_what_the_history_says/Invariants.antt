use Rattle.std.proofs.Common.{◌≡◌, length}
use Rattle.hall_core.specs.Memory.{facts_of}
use Rattle.crate_tests.proofs.hall_core_tests.stops_leave_what_the_history_says.Given as goal

-- both files are attached
abbrev pub invariant-loop-action : goal.invariant-loop-action
invariant-loop-action g l = length (facts_of l.hall).units ≡ 2
