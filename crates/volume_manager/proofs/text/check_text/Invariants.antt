use Rattle.std.proofs.Common.{◌≡◌, take}
use Rattle.std.specs.Prelude.{◌++◌}
use Rattle.std.specs.List.{flat_map}
use Rattle.volume_manager.specs.Lines.{check_line, unread_line}
use Rattle.volume_manager.proofs.text.check_text.Given as goal

abbrev pub invariant-loop-set : goal.invariant-loop-set
invariant-loop-set l = l.text.items ≡ check_line l.serial.bytes l.settled ++ flat_map unread_line (take l.set-index l.unread)
