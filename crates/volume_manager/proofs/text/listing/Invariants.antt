use Rattle.std.proofs.Common.{◌≡◌, take}
use Rattle.std.specs.List.{flat_map}
use Rattle.volume_manager.specs.Lines.{name_line}
use Rattle.volume_manager.proofs.text.listing.Given as goal

abbrev pub invariant-loop-name : goal.invariant-loop-name
invariant-loop-name l = l.text.items ≡ flat_map name_line (take l.name-index l.names)
