use Rattle.std.proofs.Common.{◌≡◌, ◌≤◌, ◌+◌, ◌++◌, length, vec_capacity}
use Rattle.std.specs.Vec.Iter.{into_iter_items, into_iter_len}
use Rattle.shelf_machine.specs.ReadyPacks.{caches_of, vols_of}
use Rattle.shelf_machine.proofs.OpenedLibraries.{HeldSoFar}
use Rattle.shelf_machine.proofs.RepairLoops.{OpenedSoFar}
use Rattle.shelf_machine.proofs.opening.repair_all.Given as goal

abbrev pub invariant-loop-scanned : goal.invariant-loop-scanned
invariant-loop-scanned g l =
    OpenedSoFar g.H.Hall.tells (g.H.Hall.facts l.initial.hall) (g.H.Hall.facts l.hall) (g.H.Hall.meaning l.initial.hall) (g.H.Hall.meaning l.hall) l.fn.scans.items (vols_of l.packs.items) (length l.yielded)
    × (length l.fn.scans.items ≤ vec_capacity l.packs)
    × HeldSoFar g.H.Hall.tells (g.H.Hall.facts l.hall) (g.H.Hall.meaning l.hall) l.fn.scans.items (vols_of l.packs.items) l.fn.known.items (caches_of l.packs.items ++ into_iter_items l.caches) (length l.yielded)
    × (into_iter_len l.caches + length l.yielded ≡ length l.fn.scans.items)
