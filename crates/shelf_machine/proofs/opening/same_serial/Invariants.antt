use Rattle.shelf_machine.specs.Machine.{serials_of}
use Rattle.shelf_machine.specs.Packs.{indexes_of}
use Rattle.shelf_machine.proofs.ReadingPacks.{NoneTwice}
use Rattle.shelf_machine.proofs.opening.same_serial.Given as goal

abbrev pub invariant-loop-k : goal.invariant-loop-k
invariant-loop-k l = NoneTwice (serials_of (indexes_of l.fn.scans)) l.k
