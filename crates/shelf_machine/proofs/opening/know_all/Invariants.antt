use Rattle.shelf_machine.proofs.KnownPacks.{KnownSoFar}
use Rattle.shelf_machine.proofs.opening.know_all.Given as goal

abbrev pub invariant-loop-scanned : goal.invariant-loop-scanned
invariant-loop-scanned l = KnownSoFar l.scans l.known.items l.scanned-index
