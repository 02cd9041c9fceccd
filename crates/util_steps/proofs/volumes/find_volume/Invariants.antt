use Rattle.std.proofs.Common.{◌≤◌, ◌-◌}
use Rattle.std.specs.Prelude.{IsTrue}
use Rattle.std.specs.List.{position_or_len}
use Rattle.util_steps.proofs.VolumeLemmas.{has_serial}
use Rattle.util_steps.proofs.volumes.find_volume.Given as goal

-- the first volume of the serial stands no earlier
abbrev pub invariant-loop-info : goal.invariant-loop-info
invariant-loop-info g l = IsTrue g.M.Machine.tells → l.v ≤ position_or_len (has_serial l.serial.bytes) (g.M.Machine.meaning l.machine).state.volumes

abbrev pub decreases-loop-info : goal.decreases-loop-info
decreases-loop-info g l = 255 - l.v
