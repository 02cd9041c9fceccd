use Rattle.std.proofs.Common.{◌≡◌, drop, None}
use Rattle.job_deck.specs.Faults.{earliest}
use Rattle.job_deck.proofs.faults.earliest.Given as goal

abbrev pub invariant-loop-fault : goal.invariant-loop-fault
invariant-loop-fault l = earliest l.found (drop l.fault-index l.faults) ≡ earliest None l.faults
