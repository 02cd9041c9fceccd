use Rattle.std.proofs.Common.{◌≡◌, length, take, IsFalse}
use Rattle.std.specs.List.{All}
use Rattle.hall_files.specs.FileHall.{facts_of, notes_of}
use Rattle.hall_files.proofs.file_hall.FileHall.set_synced.Given as goal

abbrev pub invariant-loop-unit : goal.invariant-loop-unit
invariant-loop-unit g l = (facts_of l.self ≡ facts_of l.initial.self) × (length l.self.units.items ≡ length l.initial.self.units.items) × All IsFalse (take l.unit (notes_of l.self))
