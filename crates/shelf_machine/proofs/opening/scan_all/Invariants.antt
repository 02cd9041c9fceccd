use Rattle.shelf_machine.proofs.ReadingPacks.{ScannedSoFar}
use Rattle.shelf_machine.proofs.opening.scan_all.Given as goal

abbrev pub invariant-loop-k : goal.invariant-loop-k
invariant-loop-k g l =
    ScannedSoFar g.H.Hall.tells l.fn.units (g.H.Hall.facts l.initial.hall) (g.H.Hall.facts l.hall) (g.H.Hall.meaning l.initial.hall) (g.H.Hall.meaning l.hall) l.scans.items l.k
