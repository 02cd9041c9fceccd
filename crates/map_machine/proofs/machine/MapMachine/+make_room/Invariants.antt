-- Fewer contents are left each time.
use Rattle.std.proofs.Common.{length}
use Rattle.map_machine.proofs.machine.MapMachine.+make_room.Given as goal

abbrev pub decreases-make_room : goal.decreases-make_room
decreases-make_room l = length l.contents.now
